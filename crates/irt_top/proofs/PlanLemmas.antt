-- What `plan` came by, and what it stored.
use Rattle.std.proofs.Common.{◌≡◌, ◌≢◌, inl, inr, ℕ, List, [], ◌∷◌, codes, length, Option, Some, None, Result, Ok, Err, true, false, cond, refl, sym, ◌∙◌, ap, subst, arith}
use Rattle.std.specs.List.{AllByRecursion, IsDistinct}
use Rattle.std.specs.Str.{bytes_eq}
use Rattle.std.proofs.lemmas.Bool.{cases_Bool}
use Rattle.std.proofs.lemmas.List.{append_cancel_right}
use Rattle.std.proofs.lemmas.Slice.Eq.{bytes_eq-Decides}
use Rattle.irt_base.specs.Valid.{IsBundle}
use Rattle.irt_base.specs.declared.limits.TheConstants.{PLANT_FILE}
use Rattle.irt_base.specs.declared.blocks.Bundle.{Bundle}
use Rattle.irt_base.specs.declared.numbers.FrameId.{FrameId}
use Rattle.irt_base.specs.declared.plants.Device.{Device}
use Rattle.irt_base.specs.declared.plants.Plant.{Plant}
use Rattle.irt_bundle.specs.Bundles.{bundle_bytes}
use Rattle.irt_io.specs.Files.{Files}
use Rattle.irt_route.specs.declared.fault.RouteFault.{RouteFault}
use Rattle.irt_steps.specs.Steps.{Ending, ending, after, missing, too_long, Holds, IsButFor, IsStored, IsUnloaded, Comes, LoadsNext}
use Rattle.irt_steps.proofs.StepLemmas.{comes_by, read_by}
use Rattle.irt_topo.specs.Reading.{plant_of}
use Rattle.plant_rules.specs.Words.{same_name}
use Rattle.plan_schedule.specs.Text.{IsPlanText}
use Rattle.irt_top.specs.DeviceFiles.{device_file_of, store_steps, AreBundleFiles}
use Rattle.irt_top.specs.Lines.{overrun_line}
use Rattle.irt_top.specs.Plan.{no_walk_line, IsNoWalk, OverrunsAt, ArePlanned, no_walk, overruns, planned, text_steps, stored_steps, planned_steps, plan_steps}
use Rattle.irt_top.specs.PlantFile.{plant_answer, plant_steps, IsPlantFile}
use Rattle.irt_top.proofs.FileLemmas.{PlantStops, plant_file, plant_stops}
use Rattle.irt_top.proofs.SpellingLemmas.{spelled_held}

abbrev Answer : Type 0
Answer = Result (List ℕ) Ending

-- ---- stores

-- stores end no command
stores_plain : (devices : List Device) (bundles : List Bundle) (old new : Option Files) (e : Ending) → Comes (store_steps devices bundles) old new (Err e) → ⊥
stores_plain [] bundles old new e (is, kept) = absurd cc
stores_plain (d ∷ ds) [] old new e (is, kept) = absurd cc
stores_plain (d ∷ ds) (b ∷ bs) old new e (mid, stored, comes) = stores_plain ds bs mid new e comes

-- the files after a store
stored_in : Option Files → List ℕ → List ℕ → Option Files
stored_in None name bytes = None
stored_in (Some f) name bytes = Some (λ other. cond (bytes_eq other name) (Some bytes) (f other))

is_stored : (files : Option Files) (name bytes : List ℕ) → IsStored files (stored_in files name bytes) name bytes
unfolding stored_in
is_stored None name bytes = record { others = tt; stored = tt }
is_stored (Some f) name bytes = record {
  others = λ other differs. elim (cases_Bool (bytes_eq other name)) [
    | inl same ↦ absurd (differs ((bytes_eq-Decides other name).0 same))
    | inr apart ↦ ap (λ b. cond b (Some bytes) (f other)) apart
  ];
  stored = ap (λ b. cond b (Some bytes) (f name)) ((bytes_eq-Decides name name).1 refl);
}

-- any stores can be made
pub stores_come : (devices : List Device) (bundles : List Bundle) (files : Option Files) → (end : Option Files) × Comes (store_steps devices bundles) files end (Ok tt)
stores_come [] bundles files = (files, (refl, refl))
stores_come (d ∷ ds) [] files = (files, (refl, refl))
stores_come (d ∷ ds) (b ∷ bs) files =
    let name = device_file_of d.name in
    let mid = stored_in files name (bundle_bytes b) in
    let (end, comes) = stores_come ds bs mid in
    (end, (mid, is_stored files name (bundle_bytes b), comes))

-- no stores come to a loading
pub stored_loads : (plant : Plant) (bundles rest : List Bundle) (devices : List Device) (files now : Option Files) (name : List ℕ) (limit : ℕ) →
    LoadsNext (after (store_steps devices rest) (λ done. text_steps plant bundles)) files name limit now → ⊥
stored_loads plant bundles rest [] files now name limit (text, is, next) = next
stored_loads plant bundles [] (d ∷ ds) files now name limit (text, is, next) = next
stored_loads plant bundles (b ∷ bs) (d ∷ ds) files now name limit (mid, stored, next) = stored_loads plant bundles bs ds mid now name limit next

-- ---- what the files are after the stores

pub still_held : (old new : Option Files) (at name : List ℕ) (what : Option (List ℕ)) → IsButFor old new at → name ≢ at → Holds old name what → Holds new name what
still_held None None at name what others differs held = tt
still_held None (Some new) at name what others differs held = absurd others
still_held (Some old) None at name what others differs held = absurd others
still_held (Some old) (Some new) at name what others differs held = others name differs ∙ held

keeps_name : (devices : List Device) (bundles : List Bundle) (old new : Option Files) (name : List ℕ) (what : Option (List ℕ)) (u : Unit {0}) →
    AllByRecursion (λ (d : Device). name ≢ device_file_of d.name) devices → Comes (store_steps devices bundles) old new (Ok u) → Holds old name what → Holds new name what
keeps_name [] bundles old new name what u others (is, kept) held = subst (λ f. Holds f name what) (sym kept) held
keeps_name (d ∷ ds) [] old new name what u others (is, kept) held = subst (λ f. Holds f name what) (sym kept) held
keeps_name (d ∷ ds) (b ∷ bs) old new name what u others (mid, stored, comes) held =
    keeps_name ds bs mid new name what u others.1 comes (still_held old mid (device_file_of d.name) name what stored.others others.0 held)

-- names that differ have files that differ
apart : (d e : Device) → same_name d e ≡ false → device_file_of d.name ≢ device_file_of e.name
apart d e differ is = absurd (never ((bytes_eq-Decides d.name e.name).1 (append_cancel_right d.name e.name (codes ".ird") is)))
  where
    never : bytes_eq d.name e.name ≡ true → ⊥
    never so = cc

pub all_apart : (d : Device) (devices : List Device) → AllByRecursion (λ (e : Device). same_name d e ≡ false) devices →
    AllByRecursion (λ (e : Device). device_file_of d.name ≢ device_file_of e.name) devices
all_apart d [] all = tt
all_apart d (e ∷ es) all = (apart d e all.0, all_apart d es all.1)

-- devices of other names: each file is what was stored in it
pub stored_files : (devices : List Device) (bundles : List Bundle) (old new : Option Files) (u : Unit {0}) → IsDistinct same_name devices → AllByRecursion IsBundle bundles →
    length bundles ≡ length devices → Comes (store_steps devices bundles) old new (Ok u) → AreBundleFiles new devices bundles
unfolding IsDistinct
stored_files [] [] old new u differ valid count comes = tt
stored_files [] (b ∷ bs) old new u differ valid count comes = absurd (omega arith)
stored_files (d ∷ ds) [] old new u differ valid count comes = absurd (omega arith)
stored_files (d ∷ ds) (b ∷ bs) old new u differ valid count (mid, stored, comes) =
    let name = device_file_of d.name in
    let held = keeps_name ds bs mid new name (Some (bundle_bytes b)) u (all_apart d ds differ.0) comes stored.stored in
    (spelled_held new name b valid.0 held, stored_files ds bs mid new u differ.1 valid.1 (omega arith) comes)

-- ---- what `plan` came by

-- the plant's file stopped it, or planning did, or it stored a plan and made its text
pub data PlanCame (files new : Option Files) (name : List ℕ) : Answer → Type 0 where
  stopped : (e : Ending) → new ≡ files → PlantStops files name e → PlanCame files new name (Err e)
  refused : (p : Plant) (fault : RouteFault) → new ≡ files → IsPlantFile files name p → IsNoWalk p fault → PlanCame files new name (Err (ending 6 (no_walk_line p fault)))
  overran : (p : Plant) (frame : FrameId) → new ≡ files → IsPlantFile files name p → OverrunsAt p frame → PlanCame files new name (Err (ending 9 (overrun_line frame.0)))
  stored : (p : Plant) (bundles : List Bundle) (text : List ℕ) → IsPlantFile files name p → ArePlanned p bundles → Comes (store_steps p.devices bundles) files new (Ok tt) →
      IsPlanText p bundles text → PlanCame files new name (Ok text)

stored_by : (files new : Option Files) (name : List ℕ) (p : Plant) (bundles : List Bundle) (result : Answer) → IsPlantFile files name p → ArePlanned p bundles →
    Comes (stored_steps p bundles) files new result → PlanCame files new name result
stored_by files new name p bundles result file are comes =
    elim (comes_by (store_steps p.devices bundles) (λ done. text_steps p bundles) files new result comes) [
      | inl (u, mid, first, (text, is, (so, kept))) ↦
          subst (PlanCame files new name) (sym so)
          (stored p bundles text file are (subst (λ f. Comes (store_steps p.devices bundles) files f (Ok tt)) (sym kept) first) is)
      | inr (e, first, so) ↦ absurd (stores_plain p.devices bundles files new e first)
    ]

planned_by : (files new : Option Files) (name : List ℕ) (p : Plant) (result : Answer) → IsPlantFile files name p → Comes (planned_steps p) files new result → PlanCame files new name result
planned_by files new name p result file (no_walk fault, holds, (is, kept)) = subst (PlanCame files new name) (sym is) (refused p fault kept file holds)
planned_by files new name p result file (overruns frame, holds, (is, kept)) = subst (PlanCame files new name) (sym is) (overran p frame kept file holds)
planned_by files new name p result file (planned bundles, holds, comes) = stored_by files new name p bundles result file holds comes

plant_kept : (files new : Option Files) (name : List ℕ) (e : Ending) → Comes (plant_steps name) files new (Err e) → new ≡ files
plant_kept files new name e comes = (read_by name PLANT_FILE (λ bytes. plant_answer (plant_of bytes)) files new (Err e) comes).0

pub plan_by : (files new : Option Files) (name : List ℕ) (result : Answer) → Comes (plan_steps name) files new result → PlanCame files new name result
plan_by files new name result comes = elim (comes_by (plant_steps name) planned_steps files new result comes) [
  | inl (p, mid, first, rest) ↦
      let read = plant_file files mid name p first in
      planned_by files new name p result read.1 (subst (λ f. Comes (planned_steps p) f new result) read.0 rest)
  | inr (e, first, so) ↦ subst (PlanCame files new name) (sym so) (stopped e (plant_kept files new name e first) (plant_stops files new name e first))
]

-- a plan that is refused changes no file
err_kept : (files new : Option Files) (name : List ℕ) (result : Answer) (e : Ending) → PlanCame files new name result → result ≡ Err e → new ≡ files
err_kept files new name _ e (stopped d kept stops) is = kept
err_kept files new name _ e (refused p fault kept file holds) is = kept
err_kept files new name _ e (overran p frame kept file holds) is = kept
err_kept files new name _ e (stored p bundles text file are comes so) is = absurd cc

pub refused_kept : (files new : Option Files) (name : List ℕ) (e : Ending) → Comes (plan_steps name) files new (Err e) → new ≡ files
refused_kept files new name e comes = err_kept files new name (Err e) e (plan_by files new name (Err e) comes) refl

-- such an ending has a status of its own
unloaded_status : (files : Option Files) (name : List ℕ) (limit : ℕ) (e : Ending) → IsUnloaded files name limit e → e.status ≢ 0
unloaded_status files name limit _ (missing none) = λ so. absurd cc
unloaded_status files name limit _ (too_long over) = λ so. absurd cc

pub stops_status : (files : Option Files) (name : List ℕ) (e : Ending) → PlantStops files name e → e.status ≢ 0
stops_status files name e (inl why) = unloaded_status files name PLANT_FILE e why
stops_status files name e (inr (refusal, file, is)) = λ so. absurd (five e.status (ap (λ (x : Ending). x.status) is) so)
  where
    five : (n : ℕ) → n ≡ 5 → n ≡ 0 → ⊥
    five n is so = omega arith
