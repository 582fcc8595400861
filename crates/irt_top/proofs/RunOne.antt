-- A run comes to one status.
use Rattle.std.proofs.Common.{◌≡◌, inl, inr, ℕ, List, [], ap, ap₂}
use Rattle.std.proofs.lemmas.Bool.{cases_order}
use Rattle.irt_base.specs.Wiring.{peer_of}
use Rattle.irt_base.specs.declared.blocks.Bundle.{Bundle}
use Rattle.irt_base.specs.declared.numbers.PortNo.{PortNo}
use Rattle.irt_base.specs.declared.plants.Plant.{Plant}
use Rattle.irt_route.specs.Routes.{AreTrafficWalks, IsFirstCutTraffic}
use Rattle.irt_steps.specs.Steps.{IsOneWay}
use Rattle.irt_steps.proofs.OneStatus.{HasOneStatus, after_status, asks_status}
use Rattle.irt_steps.proofs.OneWay.{judged_one}
use Rattle.irt_world.specs.declared.rows.World.{World}
use Rattle.plan_rules.specs.Plan.{IsPlan}
use Rattle.plan_run.specs.Run.{IsRunText, Pace}
use Rattle.plan_run.specs.Size.{is_too_long}
use Rattle.plan_run.specs.World.{IsSeedWorld}
use Rattle.world_file.specs.Text.{IsWorldFile}
use Rattle.world_file.specs.Wrong.{IsFirstWrong}
use Rattle.irt_top.specs.DeviceFiles.{bundles_steps}
use Rattle.irt_top.specs.PlantFile.{plant_answer, plant_steps}
use Rattle.irt_topo.specs.Reading.{plant_of}
use Rattle.irt_top.specs.Run.{accepted_answer, accepted_steps, Walking, no_path, walked, IsWalking, walking_answer, walks_steps, size_answer, size_steps, record_steps, sized_steps, walked_steps, ran_steps, run_plan_steps, run_plant_steps, run_steps}
use Rattle.irt_top.specs.World.{WorldSource, by_seed, by_file, WorldReading, right, wrong, IsWorldReading, reading_answer, world_steps}
use Rattle.irt_top.proofs.CheckOne.{check_one, bundles_one}

-- a seed has one world, traffic one list of walks, and a world file is one world's or wrong at one place
pub record RunLaws : Type 0 where
  pub worlds : (plant : Plant) (bundles : List Bundle) (seed cycles : ℕ) (world other : World) →
      IsSeedWorld plant bundles seed cycles world → IsSeedWorld plant bundles seed cycles other → world ≡ other
  pub walks : (plant : Plant) (walks others : List (List PortNo)) → AreTrafficWalks (peer_of plant) plant.traffic walks →
      AreTrafficWalks (peer_of plant) plant.traffic others → walks ≡ others
  pub files : (plant : Plant) (bundles : List Bundle) (cycles : ℕ) (bytes : List ℕ) (world other : World) → IsPlan plant bundles →
      IsWorldFile plant bundles cycles bytes world → IsWorldFile plant bundles cycles bytes other → world ≡ other
  pub wrongs : (plant : Plant) (bundles : List Bundle) (cycles : ℕ) (bytes : List ℕ) (line place other_line other_place : ℕ) → IsPlan plant bundles →
      IsFirstWrong plant bundles cycles bytes line place → IsFirstWrong plant bundles cycles bytes other_line other_place →
      (line ≡ other_line) × (place ≡ other_place)
  pub excluded : (plant : Plant) (bundles : List Bundle) (cycles : ℕ) (bytes : List ℕ) (world : World) (line place : ℕ) → IsPlan plant bundles →
      IsWorldFile plant bundles cycles bytes world → ¬ IsFirstWrong plant bundles cycles bytes line place

cut_one : (plant : Plant) (a b : ℕ) → IsFirstCutTraffic (peer_of plant) plant.traffic a → IsFirstCutTraffic (peer_of plant) plant.traffic b → a ≡ b
cut_one plant a b first second = elim (cases_order a b) [
  | inl same ↦ same
  | inr (inl less) ↦ let (ports, walk) = second.first a first.entry less first.there in absurd (first.apart ports walk)
  | inr (inr more) ↦ let (ports, walk) = first.first b second.entry more second.there in absurd (second.apart ports walk)
]

walks_there : (plant : Plant) (traffic : ℕ) (walks : List (List PortNo)) → IsFirstCutTraffic (peer_of plant) plant.traffic traffic →
    AreTrafficWalks (peer_of plant) plant.traffic walks → ⊥
walks_there plant traffic walks cut are =
    let best = are.each traffic cut.entry cut.there in
    cut.apart _ best.walk

module _ (laws : RunLaws) where
  one_walking : (plant : Plant) (a b : Walking) → IsWalking plant a → IsWalking plant b → a ≡ b
  one_walking plant (no_path t) (no_path u) first second = ap no_path (cut_one plant t u first second)
  one_walking plant (no_path t) (walked walks) first second = absurd (walks_there plant t walks first second)
  one_walking plant (walked walks) (no_path u) first second = absurd (walks_there plant u walks second first)
  one_walking plant (walked walks) (walked others) first second = ap walked (laws.walks plant walks others first second)

  one_reading : (plant : Plant) (bundles : List Bundle) (cycles : ℕ) (bytes : List ℕ) (a b : WorldReading) →
      IsWorldReading plant bundles cycles bytes a → IsWorldReading plant bundles cycles bytes b → a ≡ b
  one_reading plant bundles cycles bytes (right w) (right v) first second = ap right (laws.files plant bundles cycles bytes w v first.plan first.text second.text)
  one_reading plant bundles cycles bytes (right w) (wrong l p) first second = absurd (laws.excluded plant bundles cycles bytes w l p first.plan first.text second.first)
  one_reading plant bundles cycles bytes (wrong l p) (right w) first second = absurd (laws.excluded plant bundles cycles bytes w l p first.plan second.text first.first)
  one_reading plant bundles cycles bytes (wrong l p) (wrong m q) first second =
      let same = laws.wrongs plant bundles cycles bytes l p m q first.plan first.first second.first in
      ap₂ wrong same.0 same.1

  world_one : (source : WorldSource) (plant : Plant) (bundles : List Bundle) (cycles : ℕ) → IsOneWay (world_steps source plant bundles cycles)
  world_one (by_seed seed) plant bundles cycles = (laws.worlds plant bundles seed cycles, λ world. tt)
  world_one (by_file name) plant bundles cycles = λ bytes. (one_reading plant bundles cycles bytes, λ found. judged_one (reading_answer found))

  -- whatever record a run leaves
  sized_status : (pace : Pace) (cycles : ℕ) (source : WorldSource) (plant : Plant) (bundles : List Bundle) (walks : List (List PortNo)) →
      HasOneStatus (sized_steps pace cycles source plant bundles walks)
  sized_status pace cycles source plant bundles walks =
      after_status (world_steps source plant bundles cycles) (record_steps pace plant bundles walks) (world_one source plant bundles cycles)
      (λ world. asks_status (IsRunText pace plant bundles walks world))

  walked_status : (pace : Pace) (cycles : ℕ) (source : WorldSource) (plant : Plant) (bundles : List Bundle) (walks : List (List PortNo)) →
      HasOneStatus (walked_steps pace cycles source plant bundles walks)
  walked_status pace cycles source plant bundles walks =
      after_status (size_steps plant bundles walks cycles) (λ fits. sized_steps pace cycles source plant bundles walks)
      (judged_one (size_answer (is_too_long plant bundles walks cycles))) (λ fits. sized_status pace cycles source plant bundles walks)

  ran_status : (pace : Pace) (cycles : ℕ) (source : WorldSource) (plant : Plant) (bundles : List Bundle) → HasOneStatus (ran_steps pace cycles source plant bundles)
  ran_status pace cycles source plant bundles =
      after_status (walks_steps plant) (walked_steps pace cycles source plant bundles) (one_walking plant, λ found. judged_one (walking_answer found))
      (walked_status pace cycles source plant bundles)

  run_plan_status : (pace : Pace) (cycles : ℕ) (source : WorldSource) (plant : Plant) (bundles : List Bundle) → HasOneStatus (run_plan_steps pace cycles source plant bundles)
  run_plan_status pace cycles source plant bundles =
      after_status (accepted_steps plant bundles) (λ accepted. ran_steps pace cycles source plant bundles)
      (check_one plant bundles, λ found. judged_one (accepted_answer plant found)) (λ accepted. ran_status pace cycles source plant bundles)

  run_plant_status : (pace : Pace) (cycles : ℕ) (source : WorldSource) (plant : Plant) → HasOneStatus (run_plant_steps pace cycles source plant)
  run_plant_status pace cycles source plant =
      after_status (bundles_steps plant.devices []) (run_plan_steps pace cycles source plant) (bundles_one plant.devices [])
      (run_plan_status pace cycles source plant)

  pub run_status : (pace : Pace) (name : List ℕ) (cycles : ℕ) (source : WorldSource) → HasOneStatus (run_steps pace name cycles source)
  run_status pace name cycles source =
      after_status (plant_steps name) (run_plant_steps pace cycles source) (λ bytes. judged_one (plant_answer (plant_of bytes)))
      (run_plant_status pace cycles source)
