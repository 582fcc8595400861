use Rattle.std.proofs.Common.{◌≡◌, ℕ, ◌<◌, [], length, Some, slice_get, slice_index_or}
use Rattle.irt_base.specs.declared.plants.Traffic.{Traffic}
use Rattle.parcel_rules.specs.Steps.{steps_from}
use Rattle.net_parcels.proofs.opening.walk_steps.Given as goal

abbrev pub invariant-loop-number : goal.invariant-loop-number
invariant-loop-number l = record {
  count : length l.all.items ≡ l.number;
  each : (n : ℕ) (t : Traffic) → n < l.number → slice_get l.entries n ≡ Some t →
      slice_get l.all.items n ≡ Some (steps_from l.site.plant t.source (slice_index_or l.routes.walks n []));
}
