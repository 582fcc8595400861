-- From what holds of a run to where its steps come.
use Rattle.std.proofs.Common.{◌≡◌, inl, inr, ℕ, Bool, true, false, List, [], Option, Some, None, Result, Ok, Err, refl, sym, ap, subst, arith}
use Rattle.std.proofs.lemmas.Option.{none-some}
use Rattle.irt_base.specs.Wiring.{peer_of}
use Rattle.irt_base.specs.declared.limits.TheConstants.{DEVICE_FILE, WORLD_FILE}
use Rattle.irt_base.specs.declared.blocks.Bundle.{Bundle}
use Rattle.irt_base.specs.declared.numbers.PortNo.{PortNo}
use Rattle.irt_base.specs.declared.plants.Plant.{Plant}
use Rattle.irt_io.specs.Files.{Files}
use Rattle.irt_route.specs.Routes.{IsFirstCutTraffic}
use Rattle.irt_steps.specs.Steps.{Ending, ending, Steps, after, judged, Comes, LoadsNext}
use Rattle.irt_steps.proofs.StepLemmas.{comes_on, comes_end}
use Rattle.irt_words.specs.Commands.{Command, plan, check, show, sync, run, run_world, gen, free}
use Rattle.irt_world.specs.declared.rows.World.{World}
use Rattle.plan_rules.specs.Places.{IsReject}
use Rattle.plan_run.specs.Run.{IsRunText, Pace, in_lockstep, freely}
use Rattle.plan_run.specs.Size.{is_too_long}
use Rattle.irt_top.specs.Check.{rejected, ArePlanFiles}
use Rattle.plan_rules.specs.declared.place.Reject.{Reject}
use Rattle.irt_top.specs.Commands.{asked_steps}
use Rattle.irt_top.specs.DeviceFiles.{bundles_steps}
use Rattle.irt_top.specs.Lines.{long_run_line, no_path_line, world_line}
use Rattle.irt_top.specs.PlantFile.{plant_steps}
use Rattle.irt_top.specs.Run.{RunAsked, run_asked, accepted_steps, no_path, walked, walks_steps, size_answer, size_steps, record_steps, sized_steps, walked_steps, ran_steps, run_plan_steps, run_plant_steps, run_steps, IsCheckedPlan, IsWalkedPlan, IsSizedPlan, IsRun}
use Rattle.irt_top.specs.World.{WorldSource, by_seed, by_file, right, wrong, world_steps, IsWrongHeld, IsWorldOf}
use Rattle.irt_top.proofs.FileLemmas.{plant_comes, bundles_come}

abbrev Answer : Type 0
Answer = Result (List ℕ) Ending

-- the words' steps are those of a run
pub run_asked_steps : (o : Option Command) (asked : RunAsked) → run_asked o ≡ Some asked → asked_steps o ≡ run_steps asked.pace asked.plant asked.cycles asked.world
run_asked_steps (Some (run p c s)) asked is = ap (λ (a : RunAsked). run_steps a.pace a.plant a.cycles a.world) same
  where
    same : record { pace = in_lockstep; plant = p; cycles = c; world = by_seed s } ≡ asked
    same = cc
run_asked_steps (Some (run_world p c w)) asked is = ap (λ (a : RunAsked). run_steps a.pace a.plant a.cycles a.world) same
  where
    same : record { pace = in_lockstep; plant = p; cycles = c; world = by_file w } ≡ asked
    same = cc
run_asked_steps (Some (free p c s)) asked is = ap (λ (a : RunAsked). run_steps a.pace a.plant a.cycles a.world) same
  where
    same : record { pace = freely; plant = p; cycles = c; world = by_seed s } ≡ asked
    same = cc
run_asked_steps None asked is = absurd (none-some asked is)
run_asked_steps (Some (plan p)) asked is = absurd (none-some asked is)
run_asked_steps (Some (check p)) asked is = absurd (none-some asked is)
run_asked_steps (Some (show f)) asked is = absurd (none-some asked is)
run_asked_steps (Some (sync p c s)) asked is = absurd (none-some asked is)
run_asked_steps (Some (gen s d f n)) asked is = absurd (none-some asked is)

module _ (files : Option Files) (pace : Pace) (name : List ℕ) (cycles : ℕ) (source : WorldSource) (p : Plant) (bundles : List Bundle) where
  from_plan : (result : Answer) → ArePlanFiles files name p bundles → Comes (run_plan_steps pace cycles source p bundles) files files result →
      Comes (run_steps pace name cycles source) files files result
  from_plan result are comes =
      comes_on (plant_steps name) (run_plant_steps pace cycles source) files files files p result (plant_comes files name p are.plant_file)
      (comes_on (bundles_steps p.devices []) (run_plan_steps pace cycles source p) files files files bundles result (bundles_come p.devices [] bundles files are.device_files) comes)

  from_accepted : (result : Answer) → IsCheckedPlan files name p bundles → Comes (ran_steps pace cycles source p bundles) files files result →
      Comes (run_steps pace name cycles source) files files result
  from_accepted result known comes =
      from_plan result known.are
      (comes_on (accepted_steps p bundles) (λ accepted. ran_steps pace cycles source p bundles) files files files tt result (None, known.accepted, (refl, refl)) comes)

  from_walked : (walks : List (List PortNo)) (result : Answer) → IsWalkedPlan files name p bundles walks → Comes (walked_steps pace cycles source p bundles walks) files files result →
      Comes (run_steps pace name cycles source) files files result
  from_walked walks result known comes =
      from_accepted result known.checked
      (comes_on (walks_steps p) (walked_steps pace cycles source p bundles) files files files walks result (walked walks, known.are_walks, (refl, refl)) comes)

  pub rejected_comes : (r : Reject) → ArePlanFiles files name p bundles → IsReject p bundles r → Comes (run_steps pace name cycles source) files files (Err (rejected p r))
  rejected_comes r are rejects =
      from_plan (Err (rejected p r)) are
      (comes_end (accepted_steps p bundles) (λ accepted. ran_steps pace cycles source p bundles) files files (rejected p r) (Some r, rejects, (refl, refl)))

  pub cut_comes : (traffic : ℕ) → IsCheckedPlan files name p bundles → IsFirstCutTraffic (peer_of p) p.traffic traffic →
      Comes (run_steps pace name cycles source) files files (Err (ending 6 (no_path_line traffic)))
  cut_comes traffic known holds =
      from_accepted (Err (ending 6 (no_path_line traffic))) known
      (comes_end (walks_steps p) (walked_steps pace cycles source p bundles) files files (ending 6 (no_path_line traffic)) (no_path traffic, holds, (refl, refl)))

over_comes : (over : Bool) (files : Option Files) → over ≡ true → Comes (judged (size_answer over)) files files (Err (ending 11 long_run_line))
over_comes true files is = (refl, refl)
over_comes false files is = absurd cc

fits_comes : (over : Bool) (files : Option Files) → over ≡ false → Comes (judged (size_answer over)) files files (Ok tt)
fits_comes true files is = absurd cc
fits_comes false files is = (refl, refl)

pub long_comes : (files : Option Files) (asked : RunAsked) (p : Plant) (bundles : List Bundle) (walks : List (List PortNo)) → IsWalkedPlan files asked.plant p bundles walks →
    is_too_long p bundles walks asked.cycles ≡ true → Comes (run_steps asked.pace asked.plant asked.cycles asked.world) files files (Err (ending 11 long_run_line))
long_comes files asked p bundles walks known over =
    from_walked files asked.pace asked.plant asked.cycles asked.world p bundles walks (Err (ending 11 long_run_line)) known
    (comes_end (size_steps p bundles walks asked.cycles) (λ fits. sized_steps asked.pace asked.cycles asked.world p bundles walks) files files (ending 11 long_run_line)
    (over_comes (is_too_long p bundles walks asked.cycles) files over))

from_sized : (files : Option Files) (asked : RunAsked) (p : Plant) (bundles : List Bundle) (walks : List (List PortNo)) (result : Answer) → IsSizedPlan files asked p bundles walks →
    Comes (sized_steps asked.pace asked.cycles asked.world p bundles walks) files files result → Comes (run_steps asked.pace asked.plant asked.cycles asked.world) files files result
from_sized files asked p bundles walks result known comes =
    from_walked files asked.pace asked.plant asked.cycles asked.world p bundles walks result known.walked
    (comes_on (size_steps p bundles walks asked.cycles) (λ fits. sized_steps asked.pace asked.cycles asked.world p bundles walks) files files files tt result
    (fits_comes (is_too_long p bundles walks asked.cycles) files known.fits) comes)

wrong_stops : (files : Option Files) (source : WorldSource) (name : List ℕ) (p : Plant) (bundles : List Bundle) (cycles line place : ℕ) → source ≡ by_file name →
    IsWrongHeld files name p bundles cycles line place → Comes (world_steps source p bundles cycles) files files (Err (ending 10 (world_line line place)))
wrong_stops files source name p bundles cycles line place named held =
    subst (λ (s : WorldSource). Comes (world_steps s p bundles cycles) files files (Err (ending 10 (world_line line place)))) (sym named)
    (inl (held.bytes, held.held, (wrong line place, held.is, (refl, refl))))

pub wrong_comes : (files : Option Files) (asked : RunAsked) (p : Plant) (bundles : List Bundle) (walks : List (List PortNo)) (name : List ℕ) (line place : ℕ) → asked.world ≡ by_file name →
    IsSizedPlan files asked p bundles walks → IsWrongHeld files name p bundles asked.cycles line place →
    Comes (run_steps asked.pace asked.plant asked.cycles asked.world) files files (Err (ending 10 (world_line line place)))
wrong_comes files asked p bundles walks name line place named known held =
    from_sized files asked p bundles walks (Err (ending 10 (world_line line place))) known
    (comes_end (world_steps asked.world p bundles asked.cycles) (record_steps asked.pace p bundles walks) files files (ending 10 (world_line line place))
    (wrong_stops files asked.world name p bundles asked.cycles line place named held))

world_comes : (files : Option Files) (source : WorldSource) (p : Plant) (bundles : List Bundle) (cycles : ℕ) (world : World) → IsWorldOf files source p bundles cycles world →
    Comes (world_steps source p bundles cycles) files files (Ok world)
world_comes files (by_seed seed) p bundles cycles world is = (world, is, (refl, refl))
world_comes files (by_file name) p bundles cycles world is = inl (is.bytes, is.held, (right world, is.is, (refl, refl)))

pub run_comes : (files : Option Files) (asked : RunAsked) (p : Plant) (bundles : List Bundle) (walks : List (List PortNo)) (world : World) (text : List ℕ) →
    IsRun files asked p bundles walks world → IsRunText asked.pace p bundles walks world text → Comes (run_steps asked.pace asked.plant asked.cycles asked.world) files files (Ok text)
run_comes files asked p bundles walks world text of says =
    from_sized files asked p bundles walks (Ok text) of.sized
    (comes_on (world_steps asked.world p bundles asked.cycles) (record_steps asked.pace p bundles walks) files files files world (Ok text)
    (world_comes files asked.world p bundles asked.cycles world of.is_world) (text, says, (refl, refl)))

-- ---- no device's file is loaded after those of the plan

limits_differ : DEVICE_FILE ≡ WORLD_FILE → ⊥
limits_differ is = omega (arith, is)

world_loads : (pace : Pace) (source : WorldSource) (p : Plant) (bundles : List Bundle) (cycles : ℕ) (walks : List (List PortNo)) (files now : Option Files) (name : List ℕ) →
    LoadsNext (sized_steps pace cycles source p bundles walks) files name DEVICE_FILE now → ⊥
world_loads pace (by_seed seed) p bundles cycles walks files now name (world, holds, (text, says, next)) = next
world_loads pace (by_file at) p bundles cycles walks files now name (inl (same, limit, kept)) = limits_differ limit
world_loads pace (by_file at) p bundles cycles walks files now name (inr (bytes, held, (right world, holds, (text, says, next)))) = next
world_loads pace (by_file at) p bundles cycles walks files now name (inr (bytes, held, (wrong line place, holds, next))) = next

size_loads : (over : Bool) (f : Unit {0} → Steps (List ℕ)) (files now : Option Files) (name : List ℕ) → ((u : Unit {0}) → LoadsNext (f u) files name DEVICE_FILE now → ⊥) →
    LoadsNext (after (judged (size_answer over)) f) files name DEVICE_FILE now → ⊥
size_loads true f files now name none next = next
size_loads false f files now name none next = none tt next

pub plan_loads : (pace : Pace) (cycles : ℕ) (source : WorldSource) (p : Plant) (bundles : List Bundle) (files now : Option Files) (name : List ℕ) →
    LoadsNext (run_plan_steps pace cycles source p bundles) files name DEVICE_FILE now → ⊥
plan_loads pace cycles source p bundles files now name (Some r, rejects, next) = next
plan_loads pace cycles source p bundles files now name (None, accepted, (no_path traffic, holds, next)) = next
plan_loads pace cycles source p bundles files now name (None, accepted, (walked walks, holds, next)) =
    size_loads (is_too_long p bundles walks cycles) (λ fits. sized_steps pace cycles source p bundles walks) files now name
    (λ u. world_loads pace source p bundles cycles walks files now name) next
