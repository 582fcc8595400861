use Rattle.std.proofs.Common.{◌≡◌, map}
use Rattle.std.specs.List.{range_with_len}
use Rattle.plant_gen.specs.Generated.{generated_demand}
use Rattle.plant_gen.proofs.gen_demands.Given as goal

abbrev pub invariant-loop-number : goal.invariant-loop-number
invariant-loop-number l = l.made ≡ map (generated_demand l.seed l.devices) (range_with_len 0 l.number)
