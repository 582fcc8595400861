-- How the steps of `gen` follow each other, and that the plant of first fit's bundles has routes.
use Rattle.std.proofs.Common.{◌≡◌, ℕ, List, Option, None, Result, Ok, Err, refl, sym, subst}
use Rattle.std.specs.Global.{Vec}
use Rattle.irt_base.specs.declared.blocks.Bundle.{Bundle}
use Rattle.irt_base.specs.declared.numbers.DevId.{DevId}
use Rattle.irt_base.specs.declared.numbers.FrameId.{FrameId}
use Rattle.irt_base.specs.declared.plants.Plant.{Plant}
use Rattle.irt_io.specs.Files.{Files}
use Rattle.irt_route.specs.Routes.{IsRouteFault}
use Rattle.irt_route.specs.declared.fault.RouteFault.{RouteFault}
use Rattle.irt_route.specs.declared.fault.RouteFault.TheVariants as faults
use Rattle.irt_steps.proofs.StepLemmas.{follow_on, follow_stop}
use Rattle.irt_steps.specs.declared.stop.Stop.{Stop}
use Rattle.irt_steps.specs.Follow.{Follows, Decides}
use Rattle.irt_steps.specs.Steps.{Ending, Steps, gives, stores, asks, judged, Comes}
use Rattle.irt_topo.specs.Reading.{IsPlantDocument}
use Rattle.irt_top.specs.Gen.{GenAsked, made_plant, IsGenText, summary_steps, made_steps, gen_steps}
use Rattle.irt_top.specs.Plan.{ArePlanned, Planning, no_walk, overruns, planned, IsPlanning, planning_answer, planning_steps}
use Rattle.irt_top.proofs.PlanOne.{walks_there}

abbrev same : List Bundle → List Bundle
same bs = bs

abbrev done : Unit {0} → Unit {0}
done u = u

abbrev seen : Vec ℕ → List ℕ
seen v = v.items

-- ---- the store

-- a plant's text is stored under a name
abbrev pub plant_stored : Plant → List ℕ → Steps (Unit {0})
plant_stored plant name = asks (λ bytes. IsPlantDocument bytes plant) (λ bytes. stores name bytes (gives tt))

-- the plant was stored, and then planned and run
pub follow_made : (made : GenAsked) (plant : Plant) (old mid : Option Files) (u : Unit {0}) (result : Result (Vec ℕ) Stop) → plant ≡ made_plant made →
    Follows (λ (u : Unit {0}). u) (plant_stored plant made.name) old mid (Ok u) → Decides (λ (v : Vec ℕ). v.items) (made_steps made) result →
    Follows (λ (v : Vec ℕ). v.items) (gen_steps made) old mid result
follow_made made plant old mid u result is first decides =
    follow_on done seen (plant_stored (made_plant made) made.name) (λ stored. made_steps made) old mid mid u result
    (subst (λ (p : Plant). Follows done (plant_stored p made.name) old mid (Ok u)) is first) (decides mid)

-- the store stopped it
pub stop_store : (made : GenAsked) (plant : Plant) (old new : Option Files) (stop : Stop) → plant ≡ made_plant made →
    Follows (λ (u : Unit {0}). u) (plant_stored plant made.name) old new (Err stop) → Follows (λ (v : Vec ℕ). v.items) (gen_steps made) old new (Err stop)
stop_store made plant old new stop is first =
    follow_stop done seen (plant_stored (made_plant made) made.name) (λ stored. made_steps made) old new stop
    (subst (λ (p : Plant). Follows done (plant_stored p made.name) old new (Err stop)) is first)

-- ---- the plan

abbrev the_bundles : List Bundle → Result (List Bundle) Ending
the_bundles bs = Ok bs

ok_same : (x y : List Bundle) → the_bundles x ≡ the_bundles y → x ≡ y
ok_same x y is = cc

planned_by : (plant : Plant) (bundles : List Bundle) (found : Planning) → IsPlanning plant found → Comes (judged (planning_answer plant found)) None None (Ok bundles) →
    ArePlanned plant bundles
planned_by plant bundles (no_walk fault) holds (is, kept) = absurd cc
planned_by plant bundles (overruns frame) holds (is, kept) = absurd cc
planned_by plant bundles (planned given) holds (is, kept) = subst (ArePlanned plant) (ok_same given bundles (sym is)) holds

-- bundles that planning gave are first fit's
pub planning_of : (plant : Plant) (given bundles : List Bundle) → bundles ≡ given → Decides (λ (bs : List Bundle). bs) (planning_steps plant) (Ok given) → ArePlanned plant bundles
planning_of plant given bundles is decides =
    let (found, holds, comes) = decides None in
    subst (ArePlanned plant) (sym is) (planned_by plant given found holds comes)

-- planning stopped it
pub stop_planning : (made : GenAsked) (plant : Plant) (stop : Stop) → plant ≡ made_plant made → Decides (λ (bs : List Bundle). bs) (planning_steps plant) (Err stop) →
    Decides (λ (v : Vec ℕ). v.items) (made_steps made) (Err stop)
stop_planning made plant stop is decides = λ files.
    follow_stop same seen (planning_steps (made_plant made)) (summary_steps made) files files stop
    (subst (λ (p : Plant). Follows same (planning_steps p) files files (Err stop)) is (decides files))

-- its text was made
pub follow_summary : (made : GenAsked) (plant : Plant) (given bundles : List Bundle) (text : Vec ℕ) → plant ≡ made_plant made → bundles ≡ given →
    Decides (λ (bs : List Bundle). bs) (planning_steps plant) (Ok given) → IsGenText made bundles text.items →
    Decides (λ (v : Vec ℕ). v.items) (made_steps made) (Ok text)
follow_summary made plant given bundles text is so decides says = λ files.
    follow_on same seen (planning_steps (made_plant made)) (summary_steps made) files files files given (Ok text)
    (subst (λ (p : Plant). Follows same (planning_steps p) files files (Ok given)) is (decides files))
    (text.items, subst (λ (bs : List Bundle). IsGenText made bs text.items) so says, (refl, refl))

-- ---- the routes

fault_of : (p plant : Plant) (fault other : RouteFault) → p ≡ plant → fault ≡ other → IsRouteFault p fault → IsRouteFault plant other
fault_of p plant fault other is so found = subst (IsRouteFault plant) so (subst (λ (x : Plant). IsRouteFault x fault) is found)

-- a plant that was planned has routes
pub never_unreachable : (p plant : Plant) (bundles : List Bundle) (fault : RouteFault) (frame : FrameId) (device : DevId) → ArePlanned plant bundles → p ≡ plant →
    fault ≡ faults.Unreachable frame device → IsRouteFault p fault → ⊥
never_unreachable p plant bundles fault frame device are is so found =
    walks_there plant (faults.Unreachable frame device) are.routes (fault_of p plant fault (faults.Unreachable frame device) is so found) are.are_routes

pub never_cut : (p plant : Plant) (bundles : List Bundle) (fault : RouteFault) (traffic : ℕ) → ArePlanned plant bundles → p ≡ plant → fault ≡ faults.NoPath traffic →
    IsRouteFault p fault → ⊥
never_cut p plant bundles fault traffic are is so found =
    walks_there plant (faults.NoPath traffic) are.routes (fault_of p plant fault (faults.NoPath traffic) is so found) are.are_routes
