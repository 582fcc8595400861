-- How the steps of `plan` follow each other.
use Rattle.std.proofs.Common.{◌≡◌, ◌<◌, ◌+◌, ℕ, zero, suc, List, [], ◌∷◌, length, drop, get_or, slice_get, Option, Some, Result, Ok, Err, inl, refl, sym, ◌∙◌, ap, subst, arith}
use Rattle.std.proofs.lemmas.Option.{same_Some, slice_get-get_or}
use Rattle.std.specs.Global.{Vec}
use Rattle.std.specs.Prelude.{IfOk}
use Rattle.irt_base.specs.declared.blocks.Bundle.{Bundle}
use Rattle.irt_base.specs.declared.plants.Device.{Device}
use Rattle.irt_base.specs.declared.plants.Plant.{Plant}
use Rattle.irt_bundle.specs.Bundles.{bundle_bytes}
use Rattle.fit_rules.specs.Blocks.{AreFirstFit}
use Rattle.irt_io.specs.Files.{Files}
use Rattle.irt_route.specs.Routes.{RouteTables, IsRoutesOf}
use Rattle.irt_steps.specs.declared.stop.Cause.{Cause}
use Rattle.irt_steps.specs.declared.stop.Stop.{Stop}
use Rattle.irt_steps.specs.declared.stop.Stop.TheVariants as stops
use Rattle.irt_steps.specs.Follow.{Follows, Decides, IsEnding, line_stop, status_of}
use Rattle.irt_steps.specs.Steps.{Steps, ending, gives, stores}
use Rattle.irt_steps.proofs.StepLemmas.{follow_on, follow_stop}
use Rattle.irt_top.specs.DeviceFiles.{device_file_of, store_steps}
use Rattle.irt_top.specs.Plan.{Planning, no_walk, overruns, planned, IsPlanning, planning_answer, planning_steps, text_steps, stored_steps}

abbrev same : List Bundle → List Bundle
same bs = bs

abbrev done : Unit {0} → Unit {0}
done u = u

-- an ending with a line
pub line_ends : {E : Type 0} (cause : Cause) (line : Result (Vec ℕ) E) (stop : Stop) (text : List ℕ) → stop ≡ line_stop cause line → IfOk line (λ (v : Vec ℕ). v.items ≡ text) →
    IsEnding stop (status_of cause) text
line_ends cause (Ok line) stop text is holds = subst (λ (s : Stop). IsEnding s (status_of cause) text) (sym is) (refl, holds)
line_ends cause (Err e) stop text is holds = subst (λ (s : Stop). IsEnding s (status_of cause) text) (sym is) tt

-- planning was refused
planning_ends : (plant : Plant) (found : Planning) (status : ℕ) (text : List ℕ) (stop : Stop) (files : Option Files) → IsPlanning plant found →
    planning_answer plant found ≡ Err (ending status text) → IsEnding stop status text → Follows same (planning_steps plant) files files (Err stop)
planning_ends plant found status text stops.NoMemory files holds is ends = inl refl
planning_ends plant found status text (stops.Fault line) files holds is ends = absurd ends
planning_ends plant (no_walk fault) status text (stops.Ends cause line) files holds is ends =
    (no_walk fault, holds, (ap (λ s. Err (ending s line.items)) ends.0 ∙ ap (λ t. Err (ending status t)) ends.1 ∙ sym is, refl))
planning_ends plant (overruns frame) status text (stops.Ends cause line) files holds is ends =
    (overruns frame, holds, (ap (λ s. Err (ending s line.items)) ends.0 ∙ ap (λ t. Err (ending status t)) ends.1 ∙ sym is, refl))
planning_ends plant (planned bundles) status text (stops.Ends cause line) files holds is ends = absurd cc

pub planning_stops : (plant : Plant) (found : Planning) (status : ℕ) (text : List ℕ) (stop : Stop) → IsPlanning plant found →
    planning_answer plant found ≡ Err (ending status text) → IsEnding stop status text → Decides same (planning_steps plant) (Err stop)
planning_stops plant found status text stop holds is ends = λ files. planning_ends plant found status text stop files holds is ends

pub planning_gives : (plant : Plant) (routes : RouteTables) (bundles : List Bundle) → IsRoutesOf plant routes → AreFirstFit plant routes bundles →
    Decides same (planning_steps plant) (Ok bundles)
planning_gives plant routes bundles are fit = λ files. (planned bundles, record { routes = routes; are_routes = are; first_fit = fit }, (refl, refl))

-- a plan that was made was stored
pub follow_stored : (plant : Plant) (made bundles : List Bundle) (old new : Option Files) (result : Result (Vec ℕ) Stop) → bundles ≡ made →
    Follows (λ (v : Vec ℕ). v.items) (stored_steps plant bundles) old new result → Follows (λ (v : Vec ℕ). v.items) (stored_steps plant made) old new result
follow_stored plant made bundles old new result is follows = subst (λ bs. Follows (λ (v : Vec ℕ). v.items) (stored_steps plant bs) old new result) is follows

-- a plan's files were stored, and its text was made
pub follow_text : (plant : Plant) (bundles : List Bundle) (devices : List Device) (old new : Option Files) (result : Result (Vec ℕ) Stop) (u : Unit {0}) → devices ≡ plant.devices →
    Follows done (store_steps devices bundles) old new (Ok u) → Decides (λ (v : Vec ℕ). v.items) (text_steps plant bundles) result →
    Follows (λ (v : Vec ℕ). v.items) (stored_steps plant bundles) old new result
follow_text plant bundles devices old new result u is follows text =
    follow_on done (λ (v : Vec ℕ). v.items) (store_steps plant.devices bundles) (λ made. text_steps plant bundles) old new new u result
    (subst (λ ds. Follows done (store_steps ds bundles) old new (Ok u)) is follows) (text new)

pub stop_stored : (plant : Plant) (bundles : List Bundle) (devices : List Device) (old new : Option Files) (stop : Stop) → devices ≡ plant.devices →
    Follows done (store_steps devices bundles) old new (Err stop) → Follows (λ (v : Vec ℕ). v.items) (stored_steps plant bundles) old new (Err stop)
stop_stored plant bundles devices old new stop is follows =
    follow_stop done (λ (v : Vec ℕ). v.items) (store_steps plant.devices bundles) (λ made. text_steps plant bundles) old new stop
    (subst (λ ds. Follows done (store_steps ds bundles) old new (Err stop)) is follows)

-- ---- the files of devices

abbrev pub one_file : Device → Bundle → Steps (Unit {0})
one_file d b = stores (device_file_of d.name) (bundle_bytes b) (gives tt)

-- an item that was looked up
pub found_item : {X : Type 0} (xs : List X) (n : ℕ) (x other : X) → n < length xs → x ≡ get_or xs n other → slice_get xs n ≡ Some x
found_item xs n x other within is = slice_get-get_or xs n other within ∙ ap Some (sym is)

next_item : {X : Type 0} (xs : List X) (n : ℕ) (x : X) → slice_get xs n ≡ Some x → drop n xs ≡ x ∷ drop (suc n) xs
next_item [] n x at = absurd cc
next_item (y ∷ xs) zero x at = ap (λ z. z ∷ xs) (same_Some y x at)
next_item (y ∷ xs) (suc n) x at = next_item xs n x at

abbrev pub StoresFrom : List Device → List Bundle → ℕ → Option Files → Option Files → Result (Unit {0}) Stop → Type 0
StoresFrom devices bundles at old new result = Follows done (store_steps (drop at devices) (drop at bundles)) old new result

begun : (devices : List Device) (bundles : List Bundle) (at : ℕ) (d : Device) (b : Bundle) → slice_get devices at ≡ Some d → slice_get bundles at ≡ Some b →
    store_steps (drop at devices) (drop at bundles) ≡ store_steps (d ∷ drop (suc at) devices) (b ∷ drop (suc at) bundles)
begun devices bundles at d b is so = λ i. store_steps (next_item devices at d is i) (next_item bundles at b so i)

pub file_on : (devices : List Device) (bundles : List Bundle) (at next : ℕ) (d : Device) (b : Bundle) (old mid new : Option Files) (result : Result (Unit {0}) Stop) (u : Unit {0}) →
    slice_get devices at ≡ Some d → slice_get bundles at ≡ Some b → next ≡ at + 1 → Follows done (one_file d b) old mid (Ok u) → StoresFrom devices bundles next mid new result →
    StoresFrom devices bundles at old new result
file_on devices bundles at next d b old mid new result u is so one first later =
    let after_it : next ≡ suc at = omega (arith, one) in
    let rest : StoresFrom devices bundles (suc at) mid new result = subst (λ n. StoresFrom devices bundles n mid new result) after_it later in
    subst (λ s. Follows done s old new result) (sym (begun devices bundles at d b is so))
    (follow_on done done (one_file d b) (λ made. store_steps (drop (suc at) devices) (drop (suc at) bundles)) old mid new u result first rest)

pub file_stops : (devices : List Device) (bundles : List Bundle) (at : ℕ) (d : Device) (b : Bundle) (old new : Option Files) (stop : Stop) →
    slice_get devices at ≡ Some d → slice_get bundles at ≡ Some b → Follows done (one_file d b) old new (Err stop) → StoresFrom devices bundles at old new (Err stop)
file_stops devices bundles at d b old new stop is so first =
    subst (λ s. Follows done s old new (Err stop)) (sym (begun devices bundles at d b is so))
    (follow_stop done done (one_file d b) (λ made. store_steps (drop (suc at) devices) (drop (suc at) bundles)) old new stop first)
