-- The steps of a command end with one status, but for `gen`, whose plant's text isn't one.
use Rattle.std.proofs.Common.{◌≡◌, List, [], ◌∷◌, Option, Some, None}
use Rattle.irt_base.specs.declared.blocks.Bundle.{Bundle}
use Rattle.irt_base.specs.declared.plants.Device.{Device}
use Rattle.irt_base.specs.declared.plants.Plant.{Plant}
use Rattle.irt_show.specs.Show.{bundle_text}
use Rattle.irt_steps.specs.Steps.{gives, IsOneWay}
use Rattle.irt_steps.proofs.OneStatus.{HasOneStatus, one_way_status, after_status, asks_status}
use Rattle.irt_steps.proofs.OneWay.{judged_one, after_one}
use Rattle.irt_topo.specs.Reading.{plant_of}
use Rattle.irt_words.specs.Commands.{Command, plan, check, show, sync, run, run_world, gen, free}
use Rattle.plan_run.specs.Run.{in_lockstep, freely}
use Rattle.plan_schedule.specs.Text.{IsPlanText}
use Rattle.irt_top.specs.Check.{verdict_steps, blocks_steps, check_steps}
use Rattle.irt_top.specs.Commands.{asked_steps}
use Rattle.irt_top.specs.DeviceFiles.{bundle_steps, bundles_steps, store_steps}
use Rattle.irt_top.specs.Gen.{gen_asked}
use Rattle.irt_top.specs.Plan.{planning_answer, planning_steps, text_steps, stored_steps, planned_steps}
use Rattle.irt_top.specs.PlantFile.{plant_answer, plant_steps}
use Rattle.irt_top.specs.Show.{show_steps}
use Rattle.irt_top.specs.Sync.{report_steps, sync_steps}
use Rattle.irt_top.specs.World.{by_seed, by_file}
use Rattle.irt_top.proofs.PlanOne.{TreeLaws, FitLaws, one_planning}
use Rattle.irt_top.proofs.CheckOne.{verdict_one, bundle_one, bundles_one}
use Rattle.irt_top.proofs.GenAsked.{no_gen}
use Rattle.irt_top.proofs.RunOne.{RunLaws, run_status}
use Rattle.irt_top.proofs.SyncLemmas.{ReportLaw, report_one}

blocks_one : (plant : Plant) → IsOneWay (blocks_steps plant)
blocks_one plant = after_one (bundles_steps plant.devices []) (verdict_steps plant) (bundles_one plant.devices []) (verdict_one plant)

stores_one : (devices : List Device) (bundles : List Bundle) → IsOneWay (store_steps devices bundles)
stores_one [] bundles = tt
stores_one (d ∷ ds) [] = tt
stores_one (d ∷ ds) (b ∷ bs) = stores_one ds bs

-- whatever the text of a plan is
planned_status : TreeLaws → FitLaws → (plant : Plant) → HasOneStatus (planned_steps plant)
planned_status trees fits plant =
    after_status (planning_steps plant) (stored_steps plant) (one_planning trees fits plant, λ found. judged_one (planning_answer plant found))
    (λ bundles. after_status (store_steps plant.devices bundles) (λ done. text_steps plant bundles) (stores_one plant.devices bundles) (λ done. asks_status (IsPlanText plant bundles)))

module _ (trees : TreeLaws) (fits : FitLaws) (reports : ReportLaw) (runs : RunLaws) where
  pub asked_status : (asked : Option Command) → gen_asked asked ≡ None → HasOneStatus (asked_steps asked)
  asked_status (Some (plan name)) none =
      after_status (plant_steps name) planned_steps (λ bytes. judged_one (plant_answer (plant_of bytes))) (planned_status trees fits)
  asked_status (Some (check name)) none =
      one_way_status (check_steps name) (after_one (plant_steps name) blocks_steps (λ bytes. judged_one (plant_answer (plant_of bytes))) blocks_one)
  asked_status (Some (show name)) none =
      one_way_status (show_steps name) (after_one (bundle_steps name) (λ b. gives (bundle_text b)) (bundle_one name) (λ b. tt))
  asked_status None none = one_way_status (asked_steps None) tt
  asked_status (Some (sync name cycles seed)) none =
      one_way_status (sync_steps name cycles seed)
      (after_one (plant_steps name) (report_steps cycles seed) (λ bytes. judged_one (plant_answer (plant_of bytes))) (report_one reports cycles seed))
  asked_status (Some (run name cycles seed)) none = run_status runs in_lockstep name cycles (by_seed seed)
  asked_status (Some (run_world name cycles world)) none = run_status runs in_lockstep name cycles (by_file world)
  asked_status (Some (free name cycles seed)) none = run_status runs freely name cycles (by_seed seed)
  asked_status (Some (gen seed devices frames name)) none = absurd (no_gen seed devices frames name none)
