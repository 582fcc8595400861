-- How the steps of a run follow each other.
use Rattle.std.proofs.Common.{◌≡◌, ℕ, List, Option, Some, Result, Ok, Err, inl, refl, sym, ◌∙◌, ap, subst}
use Rattle.std.specs.Global.{Vec}
use Rattle.irt_base.specs.Wiring.{peer_of}
use Rattle.irt_base.specs.declared.blocks.Bundle.{Bundle}
use Rattle.irt_base.specs.declared.numbers.DevId.{DevId}
use Rattle.irt_base.specs.declared.numbers.FrameId.{FrameId}
use Rattle.irt_base.specs.declared.numbers.PortNo.{PortNo}
use Rattle.irt_base.specs.declared.plants.Plant.{Plant}
use Rattle.irt_io.specs.Files.{Files}
use Rattle.irt_route.specs.Routes.{RouteTables, IsRoutesOf, IsRouteFault, AreTrafficWalks, IsUnreached}
use Rattle.irt_route.specs.declared.fault.RouteFault.{RouteFault}
use Rattle.irt_route.specs.declared.fault.RouteFault.TheVariants as faults
use Rattle.irt_steps.specs.declared.stop.Stop.{Stop}
use Rattle.irt_steps.specs.declared.stop.Stop.TheVariants as stops
use Rattle.irt_steps.specs.Follow.{Follows, Decides, IsEnding}
use Rattle.irt_steps.specs.Steps.{Ending, ending, asks, judged, Comes}
use Rattle.irt_world.specs.declared.rows.World.{World}
use Rattle.plan_check.specs.Settled.{Settled}
use Rattle.plan_rules.specs.Plan.{IsPlan}
use Rattle.plan_run.specs.Run.{Pace}
use Rattle.world_file.specs.Text.{IsWorldFile}
use Rattle.world_file.specs.Wrong.{IsRefusal}
use Rattle.world_file.specs.declared.fault.WorldFault.{WorldFault}
use Rattle.world_file.specs.declared.fault.WorldFault.TheVariants as worlds
use Rattle.irt_words.specs.Commands.{command_of}
use Rattle.irt_words.specs.declared.asked.Asked.{Asked}
use Rattle.irt_top.specs.Commands.{asked_steps, calm_of}
use Rattle.irt_top.specs.Lines.{no_path_line, world_line}
use Rattle.irt_top.specs.Run.{no_path, walked, IsWalking, walking_answer, walks_steps, ran_steps, run_plan_steps}
use Rattle.irt_top.specs.World.{WorldSource, by_seed, source_of, right, wrong, IsWorldReading, reading_answer, reading_steps, world_steps}
use Rattle.irt_top.specs.declared.world.WorldAsked.{WorldAsked}
use Rattle.irt_top.specs.declared.world.WorldAsked.TheVariants as words

-- ---- a question whose answer ends the command

judged_end : {A : Type 0} (answer : Result A Ending) (e d : Ending) (files : Option Files) → answer ≡ Err e → d ≡ e → Comes (judged answer) files files (Err d)
judged_end (Ok x) e d files is same = absurd cc
judged_end (Err f) e d files is same = (ap Err same ∙ sym is, refl)

asked_end : {A B C : Type 0} (view : C → A) (P : B → Type 0) (answer : B → Result A Ending) (b : B) (status : ℕ) (text : List ℕ) (stop : Stop) (files : Option Files) → P b →
    answer b ≡ Err (ending status text) → IsEnding stop status text → Follows view (asks P (λ found. judged (answer found))) files files (Err stop)
asked_end view P answer b status text stops.NoMemory files holds is ends = inl refl
asked_end view P answer b status text (stops.Fault line) files holds is ends = absurd ends
asked_end view P answer b status text (stops.Ends cause line) files holds is ends =
    (b, holds, judged_end (answer b) (ending status text) _ files is (ap (λ s. ending s line.items) ends.0 ∙ ap (ending status) ends.1))

-- ---- walks

abbrev walks_in : RouteTables → List (List PortNo)
walks_in r = r.walks

pub walks_give : (plant p : Plant) (routes : RouteTables) → plant ≡ p → IsRoutesOf plant routes → Decides walks_in (walks_steps p) (Ok routes)
walks_give plant p routes is own =
    let Are : Plant → Type 0 = λ x. AreTrafficWalks (peer_of x) x.traffic routes.walks in
    let here : Are plant = record { count = own.walk_count; each = own.walks } in
    λ files. (walked routes.walks, subst Are is here, (refl, refl))

pub walks_stop : (plant p : Plant) (fault : RouteFault) (traffic : ℕ) (stop : Stop) → plant ≡ p → IsRouteFault plant fault → fault ≡ faults.NoPath traffic →
    IsEnding stop 6 (no_path_line traffic) → Decides walks_in (walks_steps p) (Err stop)
walks_stop plant p fault traffic stop is found same ends =
    let cut = (subst (IsRouteFault p) same (subst (λ (x : Plant). IsRouteFault x fault) is found)).1 in
    λ files. asked_end walks_in (IsWalking p) walking_answer (no_path traffic) 6 (no_path_line traffic) stop files cut refl ends

-- all consumers are reached
pub never_unreached : (plant p : Plant) (fault : RouteFault) (frame : FrameId) (device : DevId) → plant ≡ p → IsRouteFault plant fault → fault ≡ faults.Unreachable frame device →
    ((frame device : ℕ) → IsUnreached (peer_of p) p.demands frame device → ⊥) → ⊥
never_unreached plant p fault frame device is found same none =
    none frame.0 device.0 (subst (IsRouteFault p) same (subst (λ (x : Plant). IsRouteFault x fault) is found)).0

-- ---- a world file

abbrev the_world : World → World
the_world w = w

pub world_gives : (plant p : Plant) (bundles bs : List Bundle) (cycles : ℕ) (bytes : List ℕ) (world : World) → plant ≡ p → bundles ≡ bs → IsPlan p bs →
    IsWorldFile plant bundles cycles bytes world → Decides the_world (reading_steps p bs cycles bytes) (Ok world)
world_gives plant p bundles bs cycles bytes world is same plan file =
    let text = subst (λ (x : Plant). IsWorldFile x bs cycles bytes world) is (subst (λ (x : List Bundle). IsWorldFile plant x cycles bytes world) same file) in
    λ files. (right world, record { plan = plan; text = text }, (refl, refl))

pub world_stops : (plant p : Plant) (bundles bs : List Bundle) (cycles : ℕ) (bytes : List ℕ) (fault : WorldFault) (line place : ℕ) (stop : Stop) → plant ≡ p → bundles ≡ bs → IsPlan p bs →
    IsRefusal plant bundles cycles bytes fault → fault ≡ worlds.Refused line place → IsEnding stop 10 (world_line line place) →
    Decides the_world (reading_steps p bs cycles bytes) (Err stop)
world_stops plant p bundles bs cycles bytes fault line place stop is same plan found refused ends =
    let first = subst (IsRefusal p bs cycles bytes) refused
    (subst (λ (x : Plant). IsRefusal x bs cycles bytes fault) is (subst (λ (x : List Bundle). IsRefusal plant x cycles bytes fault) same found)) in
    λ files. asked_end the_world (IsWorldReading p bs cycles bytes) reading_answer (wrong line place) 10 (world_line line place) stop files (record { plan = plan; first = first }) refl ends

-- ---- the plan that was accepted

-- the steps on an accepted plan are those on the plan
pub follow_ran : (pace : Pace) (a : Settled) (plant : Plant) (bundles : List Bundle) (cycles : ℕ) (source : WorldSource) (old new : Option Files) (result : Result (Vec ℕ) Stop) →
    (a.plant ≡ plant) × (a.bundles ≡ bundles) → Follows (λ (v : Vec ℕ). v.items) (ran_steps pace cycles source a.plant a.bundles) old new result →
    Follows (λ (v : Vec ℕ). v.items) (ran_steps pace cycles source plant bundles) old new result
follow_ran pace a plant bundles cycles source old new result same follows =
    subst (λ (p : Plant). Follows (λ (v : Vec ℕ). v.items) (ran_steps pace cycles source p bundles) old new result) same.0
    (subst (λ (bs : List Bundle). Follows (λ (v : Vec ℕ). v.items) (ran_steps pace cycles source a.plant bs) old new result) same.1 follows)

-- the steps on blocks that were read
pub follow_plan : (pace : Pace) (plant : Plant) (read bundles : List Bundle) (cycles : ℕ) (source : WorldSource) (old new : Option Files) (result : Result (Vec ℕ) Stop) → bundles ≡ read →
    Follows (λ (v : Vec ℕ). v.items) (run_plan_steps pace cycles source plant bundles) old new result → Follows (λ (v : Vec ℕ). v.items) (run_plan_steps pace cycles source plant read) old new result
follow_plan pace plant read bundles cycles source old new result is follows =
    subst (λ (bs : List Bundle). Follows (λ (v : Vec ℕ). v.items) (run_plan_steps pace cycles source plant bs) old new result) is follows

-- the steps on a file that was loaded
pub follow_file : (plant : Plant) (bundles : List Bundle) (cycles : ℕ) (read bytes : List ℕ) (files : Option Files) (result : Result World Stop) → bytes ≡ read →
    Decides the_world (reading_steps plant bundles cycles bytes) result → Follows the_world (reading_steps plant bundles cycles read) files files result
follow_file plant bundles cycles read bytes files result is decides =
    subst (λ (bs : List ℕ). Follows the_world (reading_steps plant bundles cycles bs) files files result) is (decides files)

-- the steps of a seed's world
pub follow_seed : (asked : WorldAsked) (seed : ℕ) (plant : Plant) (bundles : List Bundle) (cycles : ℕ) (files : Option Files) (result : Result World Stop) → asked ≡ words.Seed seed →
    Decides the_world (world_steps (by_seed seed) plant bundles cycles) result → Follows the_world (world_steps (source_of asked) plant bundles cycles) files files result
follow_seed asked seed plant bundles cycles files result is decides =
    subst (λ (a : WorldAsked). Follows the_world (world_steps (source_of a) plant bundles cycles) files files result) (sym is) (decides files)

-- the steps of a command
pub command_on : (asked a : Asked) (old new : Option Files) (result : Result (Vec ℕ) Stop) → asked ≡ a →
    Follows (λ (v : Vec ℕ). v.items) (asked_steps (calm_of (Some (command_of a)))) old new result → Follows (λ (v : Vec ℕ). v.items) (asked_steps (calm_of (Some (command_of asked)))) old new result
command_on asked a old new result is follows = subst (λ (x : Asked). Follows (λ (v : Vec ℕ). v.items) (asked_steps (calm_of (Some (command_of x)))) old new result) (sym is) follows
