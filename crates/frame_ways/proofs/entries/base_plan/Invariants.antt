use Rattle.std.proofs.Common.{◌≡◌, ◌<◌, ℕ, length, None}
use Rattle.std.specs.Prelude.{slice_index_or}
use Rattle.irt_base.specs.declared.plants.Demand.{Demand}
use Rattle.fit_rules.specs.Order.{IsDemandAt, parents_of}
use Rattle.frame_ways.specs.Entries.{IsTreeEntryAt}
use Rattle.frame_ways.proofs.entries.base_plan.Given as goal

abbrev pub invariant-loop-device : goal.invariant-loop-device
invariant-loop-device l = record {
  count : length l.entries ≡ l.device;
  each : (d : Demand) → IsDemandAt l.plant l.number d → (k : ℕ) → k < l.device →
      IsTreeEntryAt l.plant (parents_of l.routes l.number) d k (slice_index_or l.entries k None);
}
