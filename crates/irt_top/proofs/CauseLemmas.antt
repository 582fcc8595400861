-- From where steps came to the cause of it.
use Rattle.std.proofs.Common.{◌≡◌, inl, inr, ℕ, List, [], Option, Some, None, Result, Ok, refl, sym, ap, subst}
use Rattle.irt_base.specs.declared.limits.TheConstants.{PLANT_FILE, DEVICE_FILE, WORLD_FILE}
use Rattle.irt_base.specs.declared.blocks.Bundle.{Bundle}
use Rattle.irt_base.specs.declared.plants.Plant.{Plant}
use Rattle.irt_io.specs.Files.{Files}
use Rattle.irt_show.specs.Show.{bundle_text}
use Rattle.irt_steps.specs.Steps.{Ending, gives, missing, too_long, IsUnloaded, Comes, LoadsNext}
use Rattle.irt_steps.specs.Ended.{ended, IsOutcome}
use Rattle.irt_steps.proofs.StepLemmas.{comes_by, loads_first, loads_later}
use Rattle.irt_words.specs.Commands.{Command, plan, check, show, sync, run, run_world, gen, free}
use Rattle.plan_run.specs.Run.{in_lockstep, freely}
use Rattle.irt_top.specs.Cause as causes
use Rattle.irt_top.specs.Cause.{IsCauseOf}
use Rattle.irt_top.specs.Check.{verdict_steps, blocks_steps, check_steps, ArePlanFiles}
use Rattle.irt_top.specs.Commands.{asked_steps, checked_asked, plant_asked}
use Rattle.irt_top.specs.DeviceFiles.{bundle_steps, bundles_steps, AreBundleFiles}
use Rattle.irt_top.specs.PlantFile.{plant_steps}
use Rattle.irt_top.specs.Run.{RunAsked, run_asked, run_steps}
use Rattle.irt_top.specs.Show.{show_steps}
use Rattle.irt_top.specs.World.{by_seed, by_file}
use Rattle.irt_top.proofs.FileLemmas.{PlantStops, StopsAt, plant_file, plant_stops, bundle_file, bundle_stops, bundle_next, bundles_ok, bundles_stop}
use Rattle.irt_top.proofs.GenLemmas.{gen_cause}
use Rattle.irt_top.proofs.PlanLemmas.{PlanCame, stopped, refused, overran, stored, plan_by}
use Rattle.irt_top.proofs.RunCame as came
use Rattle.irt_top.proofs.RunCame.{RunCame, run_by}
use Rattle.irt_top.proofs.SyncLemmas as syncs
use Rattle.irt_top.proofs.SyncLemmas.{SyncCame, sync_by}

abbrev Answer : Type 0
Answer = Result (List ℕ) Ending

-- a file that cannot be loaded
unloaded_cause : (files : Option Files) (asked : Option Command) (name : List ℕ) (limit : ℕ) (e : Ending) → LoadsNext (asked_steps asked) files name limit files →
    IsUnloaded files name limit e → IsCauseOf files asked e
unloaded_cause files asked name limit _ next (missing none) = causes.absent name limit next none
unloaded_cause files asked name limit _ next (too_long over) = causes.too_long name limit next over

-- a device file that stops a command
stops_at : (files : Option Files) (asked : Option Command) (name : List ℕ) (e : Ending) → LoadsNext (asked_steps asked) files name DEVICE_FILE files → StopsAt files name e → IsCauseOf files asked e
stops_at files asked name e next (inl why) = unloaded_cause files asked name DEVICE_FILE e next why
stops_at files asked name e next (inr (fault, bad, is)) = subst (IsCauseOf files asked) (sym is) (causes.malformed name fault next bad)

plant_stops_at : (files : Option Files) (asked : Option Command) (name : List ℕ) (e : Ending) → plant_asked asked ≡ Some name → LoadsNext (asked_steps asked) files name PLANT_FILE files →
    PlantStops files name e → IsCauseOf files asked e
plant_stops_at files asked name e is next (inl why) = unloaded_cause files asked name PLANT_FILE e next why
plant_stops_at files asked name e is next (inr (refusal, file, so)) = subst (IsCauseOf files asked) (sym so) (causes.no_plant name refusal is file)

-- ---- check

verdict_cause : (files : Option Files) (name : List ℕ) (p : Plant) (bundles : List Bundle) (old new : Option Files) (result : Answer) → ArePlanFiles files name p bundles →
    Comes (verdict_steps p bundles) old new result → IsCauseOf files (Some (check name)) (ended result)
verdict_cause files name p bundles old new result are (None, holds, (so, kept)) =
    subst (IsCauseOf files (Some (check name))) (ap ended (sym so)) (causes.accepts name refl (record { plant = p; bundles = bundles; are = are; accepted = holds }))
verdict_cause files name p bundles old new result are (Some r, holds, (so, kept)) =
    subst (IsCauseOf files (Some (check name))) (ap ended (sym so)) (causes.rejects name p r refl (record { bundles = bundles; are = are; rejects = holds }))

check_cause : (files new : Option Files) (name : List ℕ) (result : Answer) → Comes (check_steps name) files new result → IsCauseOf files (Some (check name)) (ended result)
check_cause files new name result comes = elim (comes_by (plant_steps name) blocks_steps files new result comes) [
  | inr (e, first, so) ↦
      subst (λ r. IsCauseOf files (Some (check name)) (ended r)) (sym so)
      (plant_stops_at files (Some (check name)) name e refl (inl (refl, refl, refl)) (plant_stops files new name e first))
  | inl (p, mid, first, rest) ↦
      let read = plant_file files mid name p first in
      let later : Comes (blocks_steps p) files new result = subst (λ f. Comes (blocks_steps p) f new result) read.0 rest in
      elim (comes_by (bundles_steps p.devices []) (verdict_steps p) files new result later) [
        | inr (e, second, so) ↦
            let stop = bundles_stop p.devices [] files new e second in
            let next : LoadsNext (check_steps name) files stop.name DEVICE_FILE files = loads_later (plant_steps name) blocks_steps files files files p stop.name DEVICE_FILE
            (subst (λ f. Comes (plant_steps name) files f (Ok p)) read.0 first)
            (loads_first (bundles_steps p.devices []) (verdict_steps p) files files stop.name DEVICE_FILE stop.next) in
            subst (λ r. IsCauseOf files (Some (check name)) (ended r)) (sym so) (stops_at files (Some (check name)) stop.name e next stop.stops)
        | inl (bundles, after_them, second, last) ↦
            let all = bundles_ok p.devices [] bundles files after_them second in
            verdict_cause files name p bundles after_them new result
            (record { plant_file = read.1; device_files = subst (AreBundleFiles files p.devices) (sym all.1.2) all.1.1 }) last
      ]
]

-- ---- plan

plan_came_cause : (files new : Option Files) (name : List ℕ) (result : Answer) → PlanCame files new name result → IsCauseOf files (Some (plan name)) (ended result)
plan_came_cause files new name _ (stopped e kept stops) = plant_stops_at files (Some (plan name)) name e refl (inl (refl, refl, refl)) stops
plan_came_cause files new name _ (refused p fault kept file holds) = causes.no_walk p fault file holds
plan_came_cause files new name _ (overran p frame kept file holds) = causes.overruns p frame file holds
plan_came_cause files new name _ (stored p bundles text file are comes so) = causes.plans name p bundles text refl file are so

-- ---- sync

sync_came_cause : (files : Option Files) (name : List ℕ) (cycles seed : ℕ) (result : Answer) → SyncCame files name cycles seed result →
    IsCauseOf files (Some (sync name cycles seed)) (ended result)
sync_came_cause files name cycles seed _ (syncs.stopped e stops) = plant_stops_at files (Some (sync name cycles seed)) name e refl (inl (refl, refl, refl)) stops
sync_came_cause files name cycles seed _ (syncs.cut p device file holds) = causes.no_clock name cycles seed p device refl file holds
sync_came_cause files name cycles seed _ (syncs.made p text file holds) = causes.reports name cycles seed p text refl file holds

-- ---- show

show_cause : (files new : Option Files) (name : List ℕ) (result : Answer) → Comes (show_steps name) files new result → IsCauseOf files (Some (show name)) (ended result)
show_cause files new name result comes = elim (comes_by (bundle_steps name) (λ b. gives (bundle_text b)) files new result comes) [
  | inr (e, first, so) ↦
      let next : LoadsNext (show_steps name) files name DEVICE_FILE files =
      loads_first (bundle_steps name) (λ b. gives (bundle_text b)) files files name DEVICE_FILE (bundle_next files name) in
      subst (λ r. IsCauseOf files (Some (show name)) (ended r)) (sym so) (stops_at files (Some (show name)) name e next (bundle_stops files new name e first))
  | inl (b, mid, first, (so, kept)) ↦
      subst (IsCauseOf files (Some (show name))) (ap ended (sym so)) (causes.shows name b refl (bundle_file files mid name b first).1)
]

-- ---- run and free

run_came_cause : (files : Option Files) (asked : Option Command) (wanted : RunAsked) (result : Answer) → run_asked asked ≡ Some wanted → plant_asked asked ≡ Some wanted.plant →
    checked_asked asked ≡ Some wanted.plant → asked_steps asked ≡ run_steps wanted.pace wanted.plant wanted.cycles wanted.world → RunCame files wanted result → IsCauseOf files asked (ended result)
run_came_cause files asked wanted _ is plant checked steps (came.plant_stopped e stops) =
    plant_stops_at files asked wanted.plant e plant (subst (λ s. LoadsNext s files wanted.plant PLANT_FILE files) (sym steps) (inl (refl, refl, refl))) stops
run_came_cause files asked wanted _ is plant checked steps (came.device_stopped at e next stops) =
    stops_at files asked at e (subst (λ s. LoadsNext s files at DEVICE_FILE files) (sym steps) next) stops
run_came_cause files asked wanted _ is plant checked steps (came.refused p bundles r are rejects) =
    causes.rejects wanted.plant p r checked (record { bundles = bundles; are = are; rejects = rejects })
run_came_cause files asked wanted _ is plant checked steps (came.cut p bundles traffic known holds) = causes.no_path wanted p bundles traffic is known holds
run_came_cause files asked wanted _ is plant checked steps (came.long p bundles walks known over) = causes.long_run wanted p bundles walks is known over
run_came_cause files asked wanted _ is plant checked steps (came.world_stopped at e next why) =
    unloaded_cause files asked at WORLD_FILE e (subst (λ s. LoadsNext s files at WORLD_FILE files) (sym steps) next) why
run_came_cause files asked wanted _ is plant checked steps (came.wrong_world p bundles walks at line place named known held) =
    causes.wrong_world wanted p bundles walks at line place is named known held
run_came_cause files asked wanted _ is plant checked steps (came.made p bundles walks world text of says) = causes.runs wanted p bundles walks world text is of says

run_cause : (files new : Option Files) (name : List ℕ) (cycles seed : ℕ) (result : Answer) → Comes (run_steps in_lockstep name cycles (by_seed seed)) files new result →
    IsCauseOf files (Some (run name cycles seed)) (ended result)
run_cause files new name cycles seed result comes =
    let wanted : RunAsked = record { pace = in_lockstep; plant = name; cycles = cycles; world = by_seed seed } in
    run_came_cause files (Some (run name cycles seed)) wanted result refl refl refl refl (run_by files new wanted result comes)

run_world_cause : (files new : Option Files) (name : List ℕ) (cycles : ℕ) (world : List ℕ) (result : Answer) → Comes (run_steps in_lockstep name cycles (by_file world)) files new result →
    IsCauseOf files (Some (run_world name cycles world)) (ended result)
run_world_cause files new name cycles world result comes =
    let wanted : RunAsked = record { pace = in_lockstep; plant = name; cycles = cycles; world = by_file world } in
    run_came_cause files (Some (run_world name cycles world)) wanted result refl refl refl refl (run_by files new wanted result comes)

free_cause : (files new : Option Files) (name : List ℕ) (cycles seed : ℕ) (result : Answer) → Comes (run_steps freely name cycles (by_seed seed)) files new result →
    IsCauseOf files (Some (free name cycles seed)) (ended result)
free_cause files new name cycles seed result comes =
    let wanted : RunAsked = record { pace = freely; plant = name; cycles = cycles; world = by_seed seed } in
    run_came_cause files (Some (free name cycles seed)) wanted result refl refl refl refl (run_by files new wanted result comes)

-- ---- all commands

asked_cause : (files new : Option Files) (asked : Option Command) (result : Answer) → Comes (asked_steps asked) files new result → IsCauseOf files asked (ended result)
asked_cause files new (Some (check name)) result comes = check_cause files new name result comes
asked_cause files new (Some (plan name)) result comes = plan_came_cause files new name result (plan_by files new name result comes)
asked_cause files new (Some (show name)) result comes = show_cause files new name result comes
asked_cause files new None result (is, kept) = subst (IsCauseOf files None) (ap ended (sym is)) (causes.usage refl)
asked_cause files new (Some (sync p c s)) result comes = sync_came_cause files p c s result (sync_by files new p c s result comes)
asked_cause files new (Some (run p c s)) result comes = run_cause files new p c s result comes
asked_cause files new (Some (run_world p c w)) result comes = run_world_cause files new p c w result comes
asked_cause files new (Some (gen s d f n)) result comes = gen_cause files new (record { seed = s; devices = d; frames = f; name = n }) result comes
asked_cause files new (Some (free p c s)) result comes = free_cause files new p c s result comes

pub outcome_cause : (files new : Option Files) (asked : Option Command) (o : Ending) → IsOutcome (asked_steps asked) files new o → IsCauseOf files asked o
outcome_cause files new asked o is = subst (IsCauseOf files asked) (sym is.is) (asked_cause files new asked is.answer is.comes)
