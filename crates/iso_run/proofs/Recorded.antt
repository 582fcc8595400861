-- The record of a lockstep run.
use Rattle.std.proofs.Common.{◌≡◌, ℕ, List, [], length, map, zip, sym, ◌∙◌, ap, subst, arith}
use Rattle.std.specs.Prelude.{Err, IfOk, Ok, Result, slice_index_or}
use Rattle.std.proofs.lemmas.List.{ext_get_or, length-map}
use Rattle.std.proofs.lemmas.Option.{get_or_from_slice_get}
use Rattle.std.proofs.lemmas.Slice.Zip.{length-zip}
use Rattle.cycle_rows.specs.Journal.{IsJournal}
use Rattle.irt_base.specs.declared.blocks.Bundle.{Bundle}
use Rattle.irt_base.specs.declared.numbers.PortNo.{PortNo}
use Rattle.irt_base.specs.declared.plants.Plant.{Plant}
use Rattle.irt_world.specs.Rows.{world_row}
use Rattle.irt_world.specs.declared.rows.World.{World}
use Rattle.iso_plant.specs.Replay.{PlantView, setup_in, world_in}
use Rattle.iso_plant.specs.History.{AppCycles}
use Rattle.iso_plant.specs.Step.{IsSamePlant}
use Rattle.iso_rules.specs.Lockstep.{AppLog, IsLockstep, log_of}
use Rattle.iso_rules.specs.Turns.{AppRun}
use Rattle.iso_rules.proofs.PlayedRuns.{map_at}
use Rattle.parcel_rules.specs.Rows.{parcel_rows}
use Rattle.plan_rules.proofs.Held.{some_at}
use Rattle.record_text.specs.declared.record.Record.{Record}
use Rattle.iso_run.specs.Ends.{EndView}
use Rattle.iso_run.specs.InLockstep.{IsInLockstep}
use Rattle.iso_run.specs.Logs.{AreHistories, IsLeft, log_from, logs_from}
use Rattle.iso_run.specs.Run.{IsRunJournal, IsRunRecord}
use Rattle.iso_run.specs.declared.apps.LockstepApp.{LockstepApp}
use Rattle.iso_run.proofs.OpenedApps.{zip_at}
use Rattle.iso_run.proofs.Stepping.{run_count, stood}

no_log : AppLog
no_log = record { takes = []; images = []; turns = [] }

logs_are : {A : Type 0} (reply : A → List ℕ → ℕ → List ℕ) (next : A → List ℕ → ℕ → A) (states : List A) (v : PlantView) (apps : List (LockstepApp A))
    (ends : List EndView) (histories : List AppCycles) (l : IsInLockstep reply next states v apps ends) → AreHistories v histories →
    logs_from apps histories ≡ map log_of l.runs
logs_are {A} reply next states v apps ends histories l all =
    let runs = l.runs in
    let count = run_count runs v.plant.apps l.between.devices in
    let app_count = l.between.count in
    let history_count = all.count in
    let pairs = length-zip apps histories in
    let long : length (logs_from apps histories) ≡ length runs =
    length-map (zip apps histories) _ ∙ omega (arith, pairs, app_count, history_count, count) in
    ext_get_or no_log (logs_from apps histories) (map log_of runs) (long ∙ sym (length-map runs log_of))
    (λ n within.
    let (run, at) = some_at runs n (omega (arith, long, within)) in
    let (a, was) = stood apps runs n run (sym app_count) at in
    let (history, stands) = stood histories runs n run (omega (arith, history_count, count)) at in
    let kept = all.apps n history stands in
    let takes : history.takes ≡ run.takes =
    kept.0 ∙ ap (λ ts. slice_index_or ts n []) l.between.takes ∙ get_or_from_slice_get _ n run.takes [] (map_at (λ (r : AppRun A). r.takes) runs n run at) in
    let images : history.images ≡ run.images =
    kept.1 ∙ ap (λ ts. slice_index_or ts n []) l.between.images ∙ get_or_from_slice_get _ n run.images [] (map_at (λ (r : AppRun A). r.images) runs n run at) in
    let turns = (l.between.each n run a at was).turns in
    let same : log_from a history ≡ log_of run = cc in
    get_or_from_slice_get _ n (log_from a history) no_log
    (map_at (λ (p : LockstepApp A × AppCycles). log_from p.0 p.1) (zip apps histories) n (a, history)
    (zip_at apps histories n a history was stands))
    ∙ same
    ∙ sym (get_or_from_slice_get _ n (log_of run) no_log (map_at log_of runs n run at)))

-- as many applications as the plant has
pub apps_count : {A : Type 0} {reply : A → List ℕ → ℕ → List ℕ} {next : A → List ℕ → ℕ → A} {states : List A} (v : PlantView) (apps rest : List (LockstepApp A))
    (ends : List EndView) → IsInLockstep reply next states v apps ends → rest ≡ apps → length rest ≡ length v.plant.apps
apps_count v apps rest ends l all =
    let runs = run_count l.runs v.plant.apps l.between.devices in
    let same = l.between.count in
    ap (λ xs. length xs) all ∙ omega (arith, runs, same)

-- of what the plant says
recorded_of : {A : Type 0} (reply : A → List ℕ → ℕ → List ℕ) (next : A → List ℕ → ℕ → A) (states : List A) (v : PlantView) (apps : List (LockstepApp A))
    (ends : List EndView) (k : ℕ) (r : Record) → IsInLockstep reply next states v apps ends → v.done ≡ k → k ≡ length v.world.rows → IsLeft v apps k r →
    IsRunRecord reply next v.plant v.bundles v.walks v.world states r
recorded_of reply next states v apps ends k r l done all left =
    let long : v.done ≡ length (world_in v) = done ∙ all ∙ sym (length-map v.world.rows (world_row v.plant v.bundles)) in
    record {
      cycles = left.cycles ∙ all;
      lockstep = record {
        runs = l.runs;
        played = subst (λ n. IsLockstep reply next (setup_in v) (world_in v) states n l.runs) long l.played;
        apps = left.logs ∙ logs_are reply next states v apps ends left.histories l left.told;
        journal = subst (λ rows. IsRunJournal v.plant v.bundles v.walks v.world rows) (sym left.journal)
            (subst (λ n. IsJournal (setup_in v) (world_in v) (parcel_rows v.plant v.bundles v.walks (world_in v)) n v.rows) long left.replay.journal);
      };
    }

-- and of the plan that it plays
pub record_of_plan : {A E : Type 0} (reply : A → List ℕ → ℕ → List ℕ) (next : A → List ℕ → ℕ → A) (states : List A) (v : PlantView) (result : Result Record E)
    (plant : Plant) (bundles : List Bundle) (walks : List (List PortNo)) (world : World) →
    v.plant ≡ plant → v.bundles ≡ bundles → v.walks ≡ walks → v.world ≡ world →
    IfOk result (λ r. IsRunRecord reply next v.plant v.bundles v.walks v.world states r) →
    IfOk result (λ r. IsRunRecord reply next plant bundles walks world states r)
record_of_plan reply next states v result plant bundles walks world plants blocks ways outside told =
    subst (λ p. IfOk result (λ r. IsRunRecord reply next p bundles walks world states r)) plants
    (subst (λ b. IfOk result (λ r. IsRunRecord reply next v.plant b walks world states r)) blocks
    (subst (λ w. IfOk result (λ r. IsRunRecord reply next v.plant v.bundles w world states r)) ways
    (subst (λ w. IfOk result (λ r. IsRunRecord reply next v.plant v.bundles v.walks w states r)) outside told)))

if_ok : {X E : Type 0} (result : Result X E) (P Q : X → Type 0) → ((x : X) → P x → Q x) → IfOk result P → IfOk result Q
if_ok (Ok x) P Q so h = so x h
if_ok (Err e) P Q so h = tt

-- of what is left of a run, for the plant before it
pub recorded : {A E : Type 0} (reply : A → List ℕ → ℕ → List ℕ) (next : A → List ℕ → ℕ → A) (states : List A) (old v : PlantView)
    (apps rest : List (LockstepApp A)) (ends : List EndView) (k : ℕ) (result : Result Record E) → IsSamePlant old v →
    IsInLockstep reply next states v apps ends → rest ≡ apps → v.done ≡ k → k ≡ length old.world.rows → IfOk result (λ r. IsLeft v rest k r) →
    IfOk result (λ r. IsRunRecord reply next old.plant old.bundles old.walks old.world states r)
recorded reply next states old v apps rest ends k result same l all done cycles left =
    record_of_plan reply next states v result old.plant old.bundles old.walks old.world same.plant same.bundles same.walks same.world
    (if_ok result (λ r. IsLeft v rest k r) (λ r. IsRunRecord reply next v.plant v.bundles v.walks v.world states r)
    (λ r is. recorded_of reply next states v apps ends k r l done (cycles ∙ ap (λ (w : World). length w.rows) (sym same.world))
    (subst (λ xs. IsLeft v xs k r) all is)) left)
