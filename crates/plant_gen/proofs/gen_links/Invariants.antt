use Rattle.std.proofs.Common.{◌≡◌, ◌-◌, map}
use Rattle.std.specs.List.{range_with_len}
use Rattle.plant_gen.specs.Generated.{generated_link}
use Rattle.plant_gen.proofs.gen_links.Given as goal

abbrev pub invariant-loop-device : goal.invariant-loop-device
invariant-loop-device l = l.made ≡ map (generated_link l.seed) (range_with_len 1 (l.device - 1))
