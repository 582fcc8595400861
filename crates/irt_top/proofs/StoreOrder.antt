-- What is stored of a plan, however `plan` ends.
use Rattle.std.proofs.Common.{◌≡◌, ◌≢◌, ◌⊎◌, inl, inr, ℕ, zero, suc, List, [], ◌∷◌, take, Option, Some, None, Result, Ok, Err, refl, sym, ◌∙◌, subst}
use Rattle.std.specs.List.{AllByRecursion, IsDistinct}
use Rattle.irt_base.specs.Valid.{IsBundle}
use Rattle.irt_base.specs.declared.blocks.Bundle.{Bundle}
use Rattle.irt_base.specs.declared.plants.Device.{Device}
use Rattle.irt_base.specs.declared.plants.Plant.{Plant}
use Rattle.irt_bundle.specs.Bundles.{bundle_bytes}
use Rattle.irt_io.specs.Files.{Files}
use Rattle.irt_steps.specs.Steps.{Ending, Steps, gives, ends, loads, stores, asks, after, judged, IsButFor, IsStored, Holds, Comes, FailsAt, Halts}
use Rattle.irt_topo.specs.Reading.{plant_of}
use Rattle.plant_rules.specs.Words.{same_name}
use Rattle.irt_top.specs.DeviceFiles.{device_file_of, store_steps}
use Rattle.irt_top.specs.Plan.{ArePlanned, no_walk, overruns, planned, text_steps, stored_steps, planned_steps, plan_steps, HoldsSame, AreStoredInOrder, IsPlanInOrder}
use Rattle.irt_top.specs.PlantFile.{plant_answer, plant_steps, IsPlantFile}
use Rattle.irt_top.proofs.FileLemmas.{plant_file}
use Rattle.irt_top.proofs.PlanLemmas.{PlanCame, stopped, refused, overran, stored, plan_by, all_apart}
use Rattle.irt_top.proofs.SpellingLemmas.{spelled_held}

-- ---- in which steps a shelf failed, and in which memory ran out

fails_by : {A B : Type 0} (steps : Steps A) (f : A → Steps B) (old new : Option Files) (name : List ℕ) → FailsAt (after steps f) old new name →
    ((x : A) × (mid : Option Files) × Comes steps old mid (Ok x) × FailsAt (f x) mid new name) ⊎ FailsAt steps old new name
fails_by (gives y) f old new name fails = inl (y, old, (refl, refl), fails)
fails_by (ends d) f old new name fails = absurd fails
fails_by (loads at limit next) f old new name (inl here) = inr (inl here)
fails_by (loads at limit next) f old new name (inr (bytes, held, fails)) = elim (fails_by (next bytes) f old new name fails) [
  | inl (x, mid, first, more) ↦ inl (x, mid, inl (bytes, held, first), more)
  | inr first ↦ inr (inr (bytes, held, first))
]
fails_by (stores at bytes next) f old new name (inl here) = inr (inl here)
fails_by (stores at bytes next) f old new name (inr (between, held, fails)) = elim (fails_by next f between new name fails) [
  | inl (x, mid, first, more) ↦ inl (x, mid, (between, held, first), more)
  | inr first ↦ inr (inr (between, held, first))
]
fails_by (asks P next) f old new name (b, holds, fails) = elim (fails_by (next b) f old new name fails) [
  | inl (x, mid, first, more) ↦ inl (x, mid, (b, holds, first), more)
  | inr first ↦ inr (b, holds, first)
]

halts_by : {A B : Type 0} (steps : Steps A) (f : A → Steps B) (old new : Option Files) → Halts (after steps f) old new →
    ((x : A) × (mid : Option Files) × Comes steps old mid (Ok x) × Halts (f x) mid new) ⊎ Halts steps old new
halts_by (gives y) f old new halts = inl (y, old, (refl, refl), halts)
halts_by (ends d) f old new halts = inr halts
halts_by (loads at limit next) f old new (inl here) = inr (inl here)
halts_by (loads at limit next) f old new (inr (bytes, held, halts)) = elim (halts_by (next bytes) f old new halts) [
  | inl (x, mid, first, more) ↦ inl (x, mid, inl (bytes, held, first), more)
  | inr first ↦ inr (inr (bytes, held, first))
]
halts_by (stores at bytes next) f old new (inl here) = inr (inl here)
halts_by (stores at bytes next) f old new (inr (between, held, halts)) = elim (halts_by next f between new halts) [
  | inl (x, mid, first, more) ↦ inl (x, mid, (between, held, first), more)
  | inr first ↦ inr (inr (between, held, first))
]
halts_by (asks P next) f old new (inl here) = inr (inl here)
halts_by (asks P next) f old new (inr (b, holds, halts)) = elim (halts_by (next b) f old new halts) [
  | inl (x, mid, first, more) ↦ inl (x, mid, (b, holds, first), more)
  | inr first ↦ inr (inr (b, holds, first))
]

-- ---- the files of devices, one by one

same_files : (files : Option Files) (name : List ℕ) → HoldsSame files files name
same_files None name = tt
same_files (Some f) name = refl

but_same : (old new : Option Files) (at name : List ℕ) → IsButFor old new at → name ≢ at → HoldsSame old new name
but_same None None at name others differs = tt
but_same None (Some g) at name others differs = absurd others
but_same (Some f) None at name others differs = absurd others
but_same (Some f) (Some g) at name others differs = others name differs

same_on : (old mid new : Option Files) (name : List ℕ) → HoldsSame old mid name → HoldsSame mid new name → HoldsSame old new name
same_on None None None name first second = tt
same_on None None (Some h) name first second = absurd second
same_on None (Some g) new name first second = absurd first
same_on (Some f) None new name first second = absurd first
same_on (Some f) (Some g) None name first second = absurd second
same_on (Some f) (Some g) (Some h) name first second = second ∙ first

held_same : (old new : Option Files) (name : List ℕ) (what : Option (List ℕ)) → HoldsSame old new name → Holds old name what → Holds new name what
held_same None None name what same held = tt
held_same None (Some g) name what same held = absurd same
held_same (Some f) None name what same held = absurd same
held_same (Some f) (Some g) name what same held = same ∙ held

-- nothing was stored but perhaps at the first name
none_stored : (devices : List Device) (bundles : List Bundle) (old new : Option Files) → ((name : List ℕ) → AllByRecursion (λ (d : Device). name ≢ device_file_of d.name) (take 1 devices) → HoldsSame old new name) →
    AreStoredInOrder old new devices bundles
none_stored devices bundles old new others = record { count = 0; stored = tt; others = others }

kept_stored : (devices : List Device) (bundles : List Bundle) (old new : Option Files) → new ≡ old → AreStoredInOrder old new devices bundles
kept_stored devices bundles old new kept = none_stored devices bundles old new (λ name differs. subst (λ f. HoldsSame old f name) (sym kept) (same_files old name))

front : (P : Device → Type 0) (devices : List Device) (n : ℕ) → AllByRecursion P devices → AllByRecursion P (take n devices)
front P devices zero all = tt
front P [] (suc n) all = tt
front P (d ∷ ds) (suc n) all = (all.0, front P ds n all.1)

-- one was stored before those
one_stored : (d : Device) (b : Bundle) (ds : List Device) (bs : List Bundle) (old mid new : Option Files) → IsBundle b → AllByRecursion (λ (e : Device). device_file_of d.name ≢ device_file_of e.name) ds →
    IsStored old mid (device_file_of d.name) (bundle_bytes b) → AreStoredInOrder mid new ds bs → AreStoredInOrder old new (d ∷ ds) (b ∷ bs)
one_stored d b ds bs old mid new valid apart first more =
    let name = device_file_of d.name in
    let same : HoldsSame mid new name = more.others name (front (λ (e : Device). name ≢ device_file_of e.name) ds (suc more.count) apart) in
    record {
      count = suc more.count;
      stored = (spelled_held new name b valid (held_same mid new name (Some (bundle_bytes b)) same first.stored), more.stored);
      others = λ other differs. same_on old mid new other (but_same old mid name other first.others differs.0) (more.others other differs.1);
    }

module _ (Ends : List Device → List Bundle → Option Files → Option Files → Type 0)
    (at_end : (bundles : List Bundle) (old new : Option Files) → Ends [] bundles old new → new ≡ old)
    (no_more : (d : Device) (ds : List Device) (old new : Option Files) → Ends (d ∷ ds) [] old new → new ≡ old)
    (by_one : (d : Device) (ds : List Device) (b : Bundle) (bs : List Bundle) (old new : Option Files) → Ends (d ∷ ds) (b ∷ bs) old new →
    IsButFor old new (device_file_of d.name) ⊎ ((mid : Option Files) × IsStored old mid (device_file_of d.name) (bundle_bytes b) × Ends ds bs mid new))
  where
    in_order : (devices : List Device) (bundles : List Bundle) (old new : Option Files) → IsDistinct same_name devices → AllByRecursion IsBundle bundles → Ends devices bundles old new →
        AreStoredInOrder old new devices bundles
    unfolding IsDistinct
    in_order [] bundles old new differ valid end = kept_stored [] bundles old new (at_end bundles old new end)
    in_order (d ∷ ds) [] old new differ valid end = kept_stored (d ∷ ds) [] old new (no_more d ds old new end)
    in_order (d ∷ ds) (b ∷ bs) old new differ valid end = elim (by_one d ds b bs old new end) [
      | inl others ↦ none_stored (d ∷ ds) (b ∷ bs) old new (λ name differs. but_same old new (device_file_of d.name) name others differs.0)
      | inr (mid, held, more) ↦ one_stored d b ds bs old mid new valid.0 (all_apart d ds differ.0) held (in_order ds bs mid new differ.1 valid.1 more)
    ]

-- all were stored, or the shelf failed at one, or memory ran out
came_in_order : (devices : List Device) (bundles : List Bundle) (old new : Option Files) → IsDistinct same_name devices → AllByRecursion IsBundle bundles →
    Comes (store_steps devices bundles) old new (Ok tt) → AreStoredInOrder old new devices bundles
came_in_order devices bundles old new differ valid comes =
    in_order (λ ds bs f g. Comes (store_steps ds bs) f g (Ok tt)) (λ bs f g end. end.1) (λ d ds f g end. end.1) (λ d ds b bs f g end. inr end) devices bundles old new differ valid comes

failed_in_order : (devices : List Device) (bundles : List Bundle) (old new : Option Files) (name : List ℕ) → IsDistinct same_name devices → AllByRecursion IsBundle bundles →
    FailsAt (store_steps devices bundles) old new name → AreStoredInOrder old new devices bundles
failed_in_order devices bundles old new name differ valid fails =
    in_order (λ ds bs f g. FailsAt (store_steps ds bs) f g name) (λ bs f g end. absurd end) (λ d ds f g end. absurd end)
    (λ d ds b bs f g end. elim end [ inl here ↦ inl here.1 | inr more ↦ inr more ]) devices bundles old new differ valid fails

halted_in_order : (devices : List Device) (bundles : List Bundle) (old new : Option Files) → IsDistinct same_name devices → AllByRecursion IsBundle bundles →
    Halts (store_steps devices bundles) old new → AreStoredInOrder old new devices bundles
halted_in_order devices bundles old new differ valid halts =
    in_order (λ ds bs f g. Halts (store_steps ds bs) f g) (λ bs f g end. end) (λ d ds f g end. end) (λ d ds b bs f g end. end) devices bundles old new differ valid halts

-- ---- the whole of `plan`

-- a plan was stored as far as this
abbrev InOrder : Option Files → Option Files → List ℕ → Type 0
InOrder files new name = (new ≡ files) ⊎ IsPlanInOrder files new name

-- first fit's bundles are valid
abbrev pub ValidLaw : Type 0
ValidLaw = (plant : Plant) (bundles : List Bundle) → ArePlanned plant bundles → IsDistinct same_name plant.devices × AllByRecursion IsBundle bundles

plan_of : (files new : Option Files) (name : List ℕ) (p : Plant) (bundles : List Bundle) → IsPlantFile files name p → ArePlanned p bundles → AreStoredInOrder files new p.devices bundles → InOrder files new name
plan_of files new name p bundles file are done = inr (record { plant = p; bundles = bundles; plant_file = file; first_fit = are; in_order = done })

module _ (law : ValidLaw) where
  came_order : (files new : Option Files) (name : List ℕ) (result : Result (List ℕ) Ending) → PlanCame files new name result → InOrder files new name
  came_order files new name _ (stopped e kept stops) = inl kept
  came_order files new name _ (refused p fault kept file holds) = inl kept
  came_order files new name _ (overran p frame kept file holds) = inl kept
  came_order files new name _ (stored p bundles text file are comes so) =
      let valid = law p bundles are in
      plan_of files new name p bundles file are (came_in_order p.devices bundles files new valid.0 valid.1 comes)

  pub comes_order : (files new : Option Files) (name : List ℕ) (result : Result (List ℕ) Ending) → Comes (plan_steps name) files new result → InOrder files new name
  comes_order files new name result comes = came_order files new name result (plan_by files new name result comes)

  -- a shelf failed
  stored_fails : (files new : Option Files) (name at : List ℕ) (p : Plant) (bundles : List Bundle) → IsPlantFile files name p → ArePlanned p bundles → FailsAt (stored_steps p bundles) files new at → InOrder files new name
  stored_fails files new name at p bundles file are fails =
      let valid = law p bundles are in
      elim (fails_by (store_steps p.devices bundles) (λ done. text_steps p bundles) files new at fails) [
        | inl (u, mid, first, (text, is, never)) ↦ absurd never
        | inr first ↦ plan_of files new name p bundles file are (failed_in_order p.devices bundles files new at valid.0 valid.1 first)
      ]

  planned_fails : (files new : Option Files) (name at : List ℕ) (p : Plant) → IsPlantFile files name p → FailsAt (planned_steps p) files new at → InOrder files new name
  planned_fails files new name at p file (no_walk fault, holds, fails) = absurd fails
  planned_fails files new name at p file (overruns frame, holds, fails) = absurd fails
  planned_fails files new name at p file (planned bundles, holds, fails) = stored_fails files new name at p bundles file holds fails

  judged_fails : {A : Type 0} (answer : Result A Ending) (files new : Option Files) (at : List ℕ) → FailsAt (judged answer) files new at → ⊥
  judged_fails (Ok x) files new at fails = fails
  judged_fails (Err e) files new at fails = fails

  plant_fails : (files new : Option Files) (name at : List ℕ) → FailsAt (plant_steps name) files new at → new ≡ files
  plant_fails files new name at (inl (same, kept)) = kept
  plant_fails files new name at (inr (bytes, held, fails)) = absurd (judged_fails (plant_answer (plant_of bytes)) files new at fails)

  pub fails_order : (files new : Option Files) (name at : List ℕ) → FailsAt (plan_steps name) files new at → InOrder files new name
  fails_order files new name at fails = elim (fails_by (plant_steps name) planned_steps files new at fails) [
    | inl (p, mid, first, more) ↦
        let read = plant_file files mid name p first in
        planned_fails files new name at p read.1 (subst (λ f. FailsAt (planned_steps p) f new at) read.0 more)
    | inr first ↦ inl (plant_fails files new name at first)
  ]

  -- memory ran out
  text_halts : (p : Plant) (bundles : List Bundle) (mid new : Option Files) → Halts (text_steps p bundles) mid new → new ≡ mid
  text_halts p bundles mid new (inl kept) = kept
  text_halts p bundles mid new (inr (text, is, kept)) = kept

  stored_halts : (files new : Option Files) (name : List ℕ) (p : Plant) (bundles : List Bundle) → IsPlantFile files name p → ArePlanned p bundles → Halts (stored_steps p bundles) files new → InOrder files new name
  stored_halts files new name p bundles file are halts =
      let valid = law p bundles are in
      elim (halts_by (store_steps p.devices bundles) (λ done. text_steps p bundles) files new halts) [
        | inl (u, mid, first, more) ↦
            let comes : Comes (store_steps p.devices bundles) files new (Ok tt) = subst (λ f. Comes (store_steps p.devices bundles) files f (Ok tt)) (sym (text_halts p bundles mid new more)) first in
            plan_of files new name p bundles file are (came_in_order p.devices bundles files new valid.0 valid.1 comes)
        | inr first ↦ plan_of files new name p bundles file are (halted_in_order p.devices bundles files new valid.0 valid.1 first)
      ]

  planned_halts : (files new : Option Files) (name : List ℕ) (p : Plant) → IsPlantFile files name p → Halts (planned_steps p) files new → InOrder files new name
  planned_halts files new name p file (inl kept) = inl kept
  planned_halts files new name p file (inr (no_walk fault, holds, kept)) = inl kept
  planned_halts files new name p file (inr (overruns frame, holds, kept)) = inl kept
  planned_halts files new name p file (inr (planned bundles, holds, halts)) = stored_halts files new name p bundles file holds halts

  judged_halts : {A : Type 0} (answer : Result A Ending) (files new : Option Files) → Halts (judged answer) files new → new ≡ files
  judged_halts (Ok x) files new halts = halts
  judged_halts (Err e) files new halts = halts

  plant_halts : (files new : Option Files) (name : List ℕ) → Halts (plant_steps name) files new → new ≡ files
  plant_halts files new name (inl kept) = kept
  plant_halts files new name (inr (bytes, held, halts)) = judged_halts (plant_answer (plant_of bytes)) files new halts

  pub halts_order : (files new : Option Files) (name : List ℕ) → Halts (plan_steps name) files new → InOrder files new name
  halts_order files new name halts = elim (halts_by (plant_steps name) planned_steps files new halts) [
    | inl (p, mid, first, more) ↦
        let read = plant_file files mid name p first in
        planned_halts files new name p read.1 (subst (λ f. Halts (planned_steps p) f new) read.0 more)
    | inr first ↦ inl (plant_halts files new name first)
  ]
