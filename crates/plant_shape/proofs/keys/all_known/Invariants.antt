use Rattle.std.proofs.Common.{◌≡◌}
use Rattle.toml.specs.View.{members_view}
use Rattle.plant_shape.specs.Keys.{all_known}
use Rattle.plant_shape.proofs.keys.all_known.Given as goal

abbrev pub invariant-loop-key : goal.invariant-loop-key
invariant-loop-key l = all_known l.kind (members_view l.key-iterator) ≡ all_known l.kind (members_view l.table.entries)
