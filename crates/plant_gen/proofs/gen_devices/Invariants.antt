use Rattle.std.proofs.Common.{◌≡◌, map}
use Rattle.std.specs.List.{range_with_len}
use Rattle.plant_gen.specs.Generated.{generated_device}
use Rattle.plant_gen.proofs.gen_devices.Given as goal

abbrev pub invariant-loop-device : goal.invariant-loop-device
invariant-loop-device l = l.made ≡ map (generated_device l.seed) (range_with_len 0 l.device)
