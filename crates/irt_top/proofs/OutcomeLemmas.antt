-- From a cause to where the steps come by it.
use Rattle.std.proofs.Common.{◌≡◌, inl, inr, ℕ, List, [], ◌∷◌, ◌++◌, Option, Some, None, Result, Ok, Err, refl, sym, ◌∙◌, subst, arith}
use Rattle.std.proofs.lemmas.Option.{none-some, same_Some}
use Rattle.irt_base.specs.declared.limits.TheConstants.{PLANT_FILE, DEVICE_FILE}
use Rattle.irt_base.specs.declared.blocks.Bundle.{Bundle}
use Rattle.irt_base.specs.declared.plants.Device.{Device}
use Rattle.irt_base.specs.declared.plants.Plant.{Plant}
use Rattle.irt_block.specs.declared.fault.BlockFault.{BlockFault}
use Rattle.irt_io.specs.Files.{Files}
use Rattle.irt_show.specs.Show.{bundle_text}
use Rattle.irt_steps.specs.Ended.{ended, IsOutcome}
use Rattle.irt_steps.specs.Lines.{absent_line, long_line}
use Rattle.irt_steps.specs.Steps.{Ending, ending, Steps, gives, after, judged, missing, too_long, Comes, LoadsNext}
use Rattle.irt_steps.proofs.StepLemmas.{comes_on, comes_end, comes_out, loads_in, unloaded_next}
use Rattle.irt_topo.specs.Reading.{PlantRefusal, plant_of}
use Rattle.irt_words.specs.Commands.{Command, plan, check, show, sync, run, run_world, gen, free}
use Rattle.plan_run.specs.Run.{Pace, in_lockstep, freely}
use Rattle.plan_schedule.specs.Text.{IsPlanText}
use Rattle.plan_check.specs.Verdicts.{IsJudged}
use Rattle.plan_rules.specs.declared.place.Reject.{Reject}
use Rattle.irt_top.specs.Cause as causes
use Rattle.irt_top.specs.Cause.{IsCauseOf, PlansPlant}
use Rattle.irt_top.specs.Check.{rejected, verdict_answer, verdict_steps, blocks_steps, check_steps, ArePlanFiles, IsRejectedPlan}
use Rattle.irt_top.specs.Commands.{asked_steps, checked_asked, plant_asked}
use Rattle.irt_top.specs.DeviceFiles.{bundle_steps, device_file_of, device_steps, bundles_steps, store_steps, IsMalformed}
use Rattle.irt_top.specs.Gen.{gen_asked}
use Rattle.irt_top.specs.Lines.{usage_line, refusal_line, malformed_line, no_clock_line, no_path_line, overrun_line, world_line, long_run_line}
use Rattle.irt_top.specs.Plan.{no_walk_line, ArePlanned, Planning, no_walk, overruns, planned, IsPlanning, planning_answer, planning_steps, text_steps, stored_steps, planned_steps, plan_steps}
use Rattle.irt_top.specs.PlantFile.{plant_answer, plant_steps, name_of, IsPlantFile, IsRefusedFile}
use Rattle.irt_top.specs.Run.{RunAsked, run_asked, run_plan_steps, run_plant_steps, run_steps}
use Rattle.irt_top.specs.Sync.{report_steps}
use Rattle.irt_top.specs.World.{WorldSource, by_seed, by_file}
use Rattle.irt_top.proofs.RunComes.{run_asked_steps, rejected_comes, cut_comes as cut_comes_to, long_comes, wrong_comes, run_comes, plan_loads}
use Rattle.irt_top.proofs.GenAsked.{no_gen}
use Rattle.irt_top.proofs.GenLemmas.{gen_no_load}
use Rattle.irt_top.proofs.SyncLemmas.{cut_comes, made_comes, no_more}
use Rattle.irt_top.proofs.PlanLemmas.{stores_come, stored_loads}
use Rattle.irt_top.proofs.FileLemmas.{plant_comes, refusal_comes, bundle_comes, bundles_come, after_judged, malformed_first}

abbrev Answer : Type 0
Answer = Result (List ℕ) Ending

-- ---- a malformed file

abbrev bad_end : List ℕ → BlockFault → Answer
bad_end name fault = Err (ending 7 (malformed_line name fault))

no_load : (answer : Answer) (files now : Option Files) (name : List ℕ) → ¬ LoadsNext (judged answer) files name DEVICE_FILE now
no_load (Ok x) files now name next = next
no_load (Err e) files now name next = next

-- steps on bundles that load no more device files
abbrev LoadsNoMore : (List Bundle → Steps (List ℕ)) → Type 0
LoadsNoMore f = (bundles : List Bundle) (files now : Option Files) (name : List ℕ) → ¬ LoadsNext (f bundles) files name DEVICE_FILE now

verdict_loads : (plant : Plant) → LoadsNoMore (verdict_steps plant)
verdict_loads plant bundles files now name (found, holds, next) = no_load (verdict_answer plant found) files now name next

bundles_malformed : (f : List Bundle → Steps (List ℕ)) → LoadsNoMore f → (devices : List Device) (front : List Bundle) (files now : Option Files) (name : List ℕ) (fault : BlockFault) →
    LoadsNext (after (bundles_steps devices front) f) files name DEVICE_FILE now → IsMalformed now name fault →
    Comes (after (bundles_steps devices front) f) files now (bad_end name fault)
bundles_malformed f none [] front files now name fault next bad = absurd (none front files now name next)
bundles_malformed f none (d ∷ ds) front files now name fault next bad =
    let device : Bundle → Steps (List Bundle) = λ b. gives (front ++ b ∷ []) in
    let rest : List Bundle → Steps (List ℕ) = λ bs. after (bundles_steps ds bs) f in
    let later : Bundle → Steps (List ℕ) = λ b. after (device b) rest in
    let outer = loads_in (device_steps d front) (bundles_steps ds) f files now name DEVICE_FILE next in
    let inner = loads_in (bundle_steps (device_file_of d.name)) device rest files now name DEVICE_FILE outer in
    let first = malformed_first (device_file_of d.name) later files now name fault inner bad (λ b more. bundles_malformed f none ds (front ++ b ∷ []) files now name fault more bad) in
    comes_out (device_steps d front) (bundles_steps ds) f files now (bad_end name fault)
    (comes_out (bundle_steps (device_file_of d.name)) device rest files now (bad_end name fault) first)

limits_differ : DEVICE_FILE ≡ PLANT_FILE → ⊥
limits_differ is = omega (arith, is)

-- a plan loads no device file
planned_loads : (plant : Plant) (files now : Option Files) (name : List ℕ) → LoadsNext (planned_steps plant) files name DEVICE_FILE now → ⊥
planned_loads plant files now name (no_walk fault, holds, next) = next
planned_loads plant files now name (overruns frame, holds, next) = next
planned_loads plant files now name (planned bundles, holds, next) = stored_loads plant bundles bundles plant.devices files now name DEVICE_FILE next

run_malformed : (pace : Pace) (p : List ℕ) (c : ℕ) (source : WorldSource) (files now : Option Files) (name : List ℕ) (fault : BlockFault) → LoadsNext (run_steps pace p c source) files name DEVICE_FILE now →
    IsMalformed now name fault → Comes (run_steps pace p c source) files now (bad_end name fault)
run_malformed pace p c source files now name fault (inl (same, limit, kept)) bad = absurd (limits_differ limit)
run_malformed pace p c source files now name fault (inr (bytes, held, next)) bad =
    inl (
      bytes,
      held,
      after_judged (plant_answer (plant_of bytes)) (run_plant_steps pace c source) files now name DEVICE_FILE (ending 7 (malformed_line name fault)) next
          (λ plant more. bundles_malformed (run_plan_steps pace c source plant) (plan_loads pace c source plant) plant.devices [] files now name fault more bad),
    )

asked_malformed : (asked : Option Command) (files now : Option Files) (name : List ℕ) (fault : BlockFault) → LoadsNext (asked_steps asked) files name DEVICE_FILE now → IsMalformed now name fault →
    Comes (asked_steps asked) files now (bad_end name fault)
asked_malformed (Some (check p)) files now name fault (inl (same, limit, kept)) bad = absurd (limits_differ limit)
asked_malformed (Some (check p)) files now name fault (inr (bytes, held, next)) bad =
    inl (
      bytes,
      held,
      after_judged (plant_answer (plant_of bytes)) blocks_steps files now name DEVICE_FILE (ending 7 (malformed_line name fault)) next
          (λ plant more. bundles_malformed (verdict_steps plant) (verdict_loads plant) plant.devices [] files now name fault more bad),
    )
asked_malformed (Some (plan p)) files now name fault (inl (same, limit, kept)) bad = absurd (limits_differ limit)
asked_malformed (Some (plan p)) files now name fault (inr (bytes, held, next)) bad =
    inl (
      bytes,
      held,
      after_judged (plant_answer (plant_of bytes)) planned_steps files now name DEVICE_FILE (ending 7 (malformed_line name fault)) next
          (λ plant more. absurd (planned_loads plant files now name more)),
    )
asked_malformed (Some (show f)) files now name fault next bad = malformed_first f (λ b. gives (bundle_text b)) files now name fault next bad (λ b more. absurd more)
asked_malformed None files now name fault next bad = absurd next
asked_malformed (Some (sync p c s)) files now name fault (inl (same, limit, kept)) bad = absurd (limits_differ limit)
asked_malformed (Some (sync p c s)) files now name fault (inr (bytes, held, next)) bad =
    inl (
      bytes,
      held,
      after_judged (plant_answer (plant_of bytes)) (report_steps c s) files now name DEVICE_FILE (ending 7 (malformed_line name fault)) next
          (λ plant more. absurd (no_more c s plant files now name DEVICE_FILE more)),
    )
asked_malformed (Some (run p c s)) files now name fault next bad = run_malformed in_lockstep p c (by_seed s) files now name fault next bad
asked_malformed (Some (run_world p c w)) files now name fault next bad = run_malformed in_lockstep p c (by_file w) files now name fault next bad
asked_malformed (Some (gen s d f n)) files now name fault next bad =
    absurd (gen_no_load (record { seed = s; devices = d; frames = f; name = n }) files now name DEVICE_FILE next)
asked_malformed (Some (free p c s)) files now name fault next bad = run_malformed freely p c (by_seed s) files now name fault next bad

-- ---- a verdict

verdict_comes : (plant : Plant) (bundles : List Bundle) (found : Option Reject) (files : Option Files) → IsJudged plant bundles found →
    Comes (verdict_steps plant bundles) files files (verdict_answer plant found)
verdict_comes plant bundles None files holds = (None, holds, (refl, refl))
verdict_comes plant bundles (Some r) files holds = (Some r, holds, (refl, refl))

check_comes : (files : Option Files) (name : List ℕ) (plant : Plant) (bundles : List Bundle) (found : Option Reject) → ArePlanFiles files name plant bundles → IsJudged plant bundles found →
    Comes (check_steps name) files files (verdict_answer plant found)
check_comes files name plant bundles found are holds =
    comes_on (plant_steps name) blocks_steps files files files plant (verdict_answer plant found) (plant_comes files name plant are.plant_file)
    (comes_on (bundles_steps plant.devices []) (verdict_steps plant) files files files bundles (verdict_answer plant found)
    (bundles_come plant.devices [] bundles files are.device_files) (verdict_comes plant bundles found files holds))

-- ---- planning

judged_at : (answer : Result (List Bundle) Ending) (e : Ending) (files : Option Files) → answer ≡ Err e → Comes (judged answer) files files (Err e)
judged_at (Ok bundles) e files is = absurd cc
judged_at (Err d) e files is = (sym is, refl)

refused_comes : (files : Option Files) (name : List ℕ) (plant : Plant) (found : Planning) (e : Ending) → IsPlantFile files name plant → IsPlanning plant found →
    planning_answer plant found ≡ Err e → Comes (plan_steps name) files files (Err e)
refused_comes files name plant found e file holds is =
    comes_on (plant_steps name) planned_steps files files files plant (Err e) (plant_comes files name plant file)
    (comes_end (planning_steps plant) (stored_steps plant) files files e (found, holds, judged_at (planning_answer plant found) e files is))

stored_comes : (files : Option Files) (name : List ℕ) (plant : Plant) (bundles : List Bundle) (text : List ℕ) → IsPlantFile files name plant → ArePlanned plant bundles →
    IsPlanText plant bundles text → (end : Option Files) × Comes (plan_steps name) files end (Ok text)
stored_comes files name plant bundles text file are is =
    let (end, stores) = stores_come plant.devices bundles files in (
      end,
      comes_on (plant_steps name) planned_steps files files end plant (Ok text) (plant_comes files name plant file)
          (comes_on (planning_steps plant) (stored_steps plant) files files end bundles (Ok text) (planned bundles, are, (refl, refl))
          (comes_on (store_steps plant.devices bundles) (λ done. text_steps plant bundles) files end end tt (Ok text) stores (text, is, (refl, refl)))),
    )

-- ---- every cause

-- an outcome of the steps of what was asked for, and the files after it
abbrev pub HasOutcome : Option Files → Option Command → Ending → Type 0
HasOutcome files asked e = (end : Option Files) × IsOutcome (asked_steps asked) files end e

outcome : (files end : Option Files) (asked : Option Command) (answer : Answer) → Comes (asked_steps asked) files end answer → HasOutcome files asked (ended answer)
outcome files end asked answer comes = (end, record { answer = answer; comes = comes; is = refl })

asked_comes : (files end : Option Files) (asked : Option Command) (command : Command) (answer : Answer) → asked ≡ Some command → Comes (asked_steps (Some command)) files end answer →
    HasOutcome files asked (ended answer)
asked_comes files end asked command answer is comes = outcome files end asked answer (subst (λ a. Comes (asked_steps a) files end answer) (sym is) comes)

-- the plant's file of a command is refused
plant_comes_to : (files : Option Files) (asked : Option Command) (name : List ℕ) (refusal : PlantRefusal) → plant_asked asked ≡ Some name → IsRefusedFile files name refusal →
    Comes (asked_steps asked) files files (Err (ending 5 (refusal_line refusal)))
plant_comes_to files (Some (plan p)) name refusal is file =
    comes_end (plant_steps p) planned_steps files files (ending 5 (refusal_line refusal)) (refusal_comes files p refusal (subst (λ n. IsRefusedFile files n refusal) (sym (same_Some p name is)) file))
plant_comes_to files (Some (check p)) name refusal is file =
    comes_end (plant_steps p) blocks_steps files files (ending 5 (refusal_line refusal)) (refusal_comes files p refusal (subst (λ n. IsRefusedFile files n refusal) (sym (same_Some p name is)) file))
plant_comes_to files None name refusal is file = absurd (none-some name is)
plant_comes_to files (Some (show f)) name refusal is file = absurd (none-some name is)
plant_comes_to files (Some (sync p c s)) name refusal is file =
    comes_end (plant_steps p) (report_steps c s) files files (ending 5 (refusal_line refusal)) (refusal_comes files p refusal (subst (λ n. IsRefusedFile files n refusal) (sym (same_Some p name is)) file))
plant_comes_to files (Some (run p c s)) name refusal is file =
    comes_end (plant_steps p) (run_plant_steps in_lockstep c (by_seed s)) files files (ending 5 (refusal_line refusal)) (refusal_comes files p refusal (subst (λ n. IsRefusedFile files n refusal) (sym (same_Some p name is)) file))
plant_comes_to files (Some (run_world p c w)) name refusal is file =
    comes_end (plant_steps p) (run_plant_steps in_lockstep c (by_file w)) files files (ending 5 (refusal_line refusal)) (refusal_comes files p refusal (subst (λ n. IsRefusedFile files n refusal) (sym (same_Some p name is)) file))
plant_comes_to files (Some (gen s d f n)) name refusal is file = absurd (none-some name is)
plant_comes_to files (Some (free p c s)) name refusal is file =
    comes_end (plant_steps p) (run_plant_steps freely c (by_seed s)) files files (ending 5 (refusal_line refusal)) (refusal_comes files p refusal (subst (λ n. IsRefusedFile files n refusal) (sym (same_Some p name is)) file))

-- the blocks of a command that checks them are refused
checked_comes_to : (files : Option Files) (asked : Option Command) (name : List ℕ) (p : Plant) (reject : Reject) → checked_asked asked ≡ Some name → IsRejectedPlan files name p reject →
    Comes (asked_steps asked) files files (Err (rejected p reject))
checked_comes_to files (Some (check n)) name p reject is file =
    subst (λ m. Comes (check_steps m) files files (Err (rejected p reject))) (sym (same_Some n name is)) (check_comes files name p file.bundles (Some reject) file.are file.rejects)
checked_comes_to files (Some (run n c s)) name p reject is file =
    subst (λ m. Comes (run_steps in_lockstep m c (by_seed s)) files files (Err (rejected p reject))) (sym (same_Some n name is))
    (rejected_comes files in_lockstep name c (by_seed s) p file.bundles reject file.are file.rejects)
checked_comes_to files (Some (run_world n c w)) name p reject is file =
    subst (λ m. Comes (run_steps in_lockstep m c (by_file w)) files files (Err (rejected p reject))) (sym (same_Some n name is))
    (rejected_comes files in_lockstep name c (by_file w) p file.bundles reject file.are file.rejects)
checked_comes_to files None name p reject is file = absurd (none-some name is)
checked_comes_to files (Some (plan n)) name p reject is file = absurd (none-some name is)
checked_comes_to files (Some (show f)) name p reject is file = absurd (none-some name is)
checked_comes_to files (Some (sync n c s)) name p reject is file = absurd (none-some name is)
checked_comes_to files (Some (gen s d f n)) name p reject is file = absurd (none-some name is)
checked_comes_to files (Some (free n c s)) name p reject is file =
    subst (λ m. Comes (run_steps freely m c (by_seed s)) files files (Err (rejected p reject))) (sym (same_Some n name is))
    (rejected_comes files freely name c (by_seed s) p file.bundles reject file.are file.rejects)

-- the planning of a plant's file is refused
plans_comes_to : (files : Option Files) (asked : Option Command) (p : Plant) (found : Planning) (e : Ending) → gen_asked asked ≡ None → PlansPlant files asked p → IsPlanning p found →
    planning_answer p found ≡ Err e → Comes (asked_steps asked) files files (Err e)
plans_comes_to files (Some (plan name)) p found e none file holds is = refused_comes files name p found e file holds is
plans_comes_to files None p found e none file holds is = absurd file
plans_comes_to files (Some (check name)) p found e none file holds is = absurd file
plans_comes_to files (Some (show name)) p found e none file holds is = absurd file
plans_comes_to files (Some (sync name c s)) p found e none file holds is = absurd file
plans_comes_to files (Some (run name c s)) p found e none file holds is = absurd file
plans_comes_to files (Some (run_world name c w)) p found e none file holds is = absurd file
plans_comes_to files (Some (gen s d f n)) p found e none file holds is = absurd (no_gen s d f n none)
plans_comes_to files (Some (free name c s)) p found e none file holds is = absurd file

run_outcome : (files : Option Files) (asked : Option Command) (wanted : RunAsked) (answer : Answer) → run_asked asked ≡ Some wanted →
    Comes (run_steps wanted.pace wanted.plant wanted.cycles wanted.world) files files answer → HasOutcome files asked (ended answer)
run_outcome files asked wanted answer is comes =
    outcome files files asked answer (subst (λ s. Comes s files files answer) (sym (run_asked_steps asked wanted is)) comes)

-- of `gen` only some texts of its plant lead to its outcome
pub cause_outcome : (files : Option Files) (asked : Option Command) (e : Ending) → gen_asked asked ≡ None → IsCauseOf files asked e → HasOutcome files asked e
cause_outcome files asked _ other (causes.usage none) =
    outcome files files asked (Err (ending 1 usage_line)) (subst (λ a. Comes (asked_steps a) files files (Err (ending 1 usage_line))) (sym none) (refl, refl))
cause_outcome files asked _ other (causes.absent name limit next none) =
    outcome files files asked (Err (ending 3 (absent_line name))) (unloaded_next (asked_steps asked) files files name limit (ending 3 (absent_line name)) next (missing none))
cause_outcome files asked _ other (causes.too_long name limit next over) =
    outcome files files asked (Err (ending 4 (long_line name))) (unloaded_next (asked_steps asked) files files name limit (ending 4 (long_line name)) next (too_long over))
cause_outcome files asked _ other (causes.no_plant name refusal is file) =
    outcome files files asked (Err (ending 5 (refusal_line refusal))) (plant_comes_to files asked name refusal is file)
cause_outcome files asked _ other (causes.malformed name fault next bad) =
    outcome files files asked (bad_end name fault) (asked_malformed asked files files name fault next bad)
cause_outcome files asked _ other (causes.no_walk p fault file holds) =
    outcome files files asked (Err (ending 6 (no_walk_line p fault))) (plans_comes_to files asked p (no_walk fault) (ending 6 (no_walk_line p fault)) other file holds refl)
cause_outcome files asked _ other (causes.no_clock name cycles seed p device is file holds) =
    asked_comes files files asked (sync name cycles seed) (Err (ending 6 (no_clock_line (name_of p device)))) is (cut_comes files name cycles seed p device file holds)
cause_outcome files asked _ other (causes.rejects name plant reject is file) =
    outcome files files asked (Err (rejected plant reject)) (checked_comes_to files asked name plant reject is file)
cause_outcome files asked _ other (causes.overruns p frame file holds) =
    outcome files files asked (Err (ending 9 (overrun_line frame.0))) (plans_comes_to files asked p (overruns frame) (ending 9 (overrun_line frame.0)) other file holds refl)
cause_outcome files asked _ other (causes.plans name p bundles text is file are so) =
    let (end, comes) = stored_comes files name p bundles text file are so in
    asked_comes files end asked (plan name) (Ok text) is comes
cause_outcome files asked _ other (causes.accepts name is file) =
    asked_comes files files asked (check name) (verdict_answer file.plant None) is (check_comes files name file.plant file.bundles None file.are file.accepted)
cause_outcome files asked _ other (causes.shows name bundle is file) =
    asked_comes files files asked (show name) (Ok (bundle_text bundle)) is
    (comes_on (bundle_steps name) (λ b. gives (bundle_text b)) files files files bundle (Ok (bundle_text bundle)) (bundle_comes files name bundle file) (refl, refl))
cause_outcome files asked _ other (causes.reports name cycles seed p text is file holds) =
    asked_comes files files asked (sync name cycles seed) (Ok text) is (made_comes files name cycles seed p text file holds)
cause_outcome files asked _ other (causes.no_path wanted p bundles traffic is known holds) =
    run_outcome files asked wanted (Err (ending 6 (no_path_line traffic))) is
    (cut_comes_to files wanted.pace wanted.plant wanted.cycles wanted.world p bundles traffic known holds)
cause_outcome files asked _ other (causes.wrong_world wanted p bundles walks name line place is named known held) =
    run_outcome files asked wanted (Err (ending 10 (world_line line place))) is (wrong_comes files wanted p bundles walks name line place named known held)
cause_outcome files asked _ other (causes.long_run wanted p bundles walks is known over) =
    run_outcome files asked wanted (Err (ending 11 long_run_line)) is (long_comes files wanted p bundles walks known over)
cause_outcome files asked _ other (causes.runs wanted p bundles walks world text is of says) =
    run_outcome files asked wanted (Ok text) is (run_comes files wanted p bundles walks world text of says)
cause_outcome files asked _ other (causes.generates made bundles text is are so) = absurd (none-some made (sym other ∙ is))
