-- The steps of a walk: the devices that it leaves, each with the port by which it does. So a step is a link direction.
use Rattle.std.specs.Prelude.{◌==◌, Bool, List, [], ◌∷◌, Option, find}
use Rattle.irt_base.specs.Wiring.{peer_of}
use Rattle.irt_base.specs.declared.numbers.DevId.{DevId}
use Rattle.irt_base.specs.declared.numbers.PortNo.{PortNo}
use Rattle.irt_base.specs.declared.plants.Plant.{Plant}
use Rattle.irt_route.specs.Walks.{far_of}

-- a device and one of its ports
abbrev pub Step : Type 0
Step = DevId × PortNo

-- those of a walk from a device
abbrev pub steps_from : Plant → DevId → List PortNo → List Step
steps_from plant at [] = []
steps_from plant at (port ∷ more) = (at, port) ∷ steps_from plant (far_of at (peer_of plant at.0 port.0)) more

abbrev pub leaves_from : DevId → Step → Bool
leaves_from device step = step.0.0 == device.0

-- the step by which a walk from a source leaves a device. In a line a, s, b the walk from a to b has the steps
-- (a, 1) and (s, 2), and leaves s by port 2.
abbrev pub step_at : Plant → DevId → List PortNo → DevId → Option Step
step_at plant source walk device = find (leaves_from device) (steps_from plant source walk)
