use Rattle.std.proofs.Common.{◌≡◌, find, drop}
use Rattle.parcel_rules.specs.Steps.{leaves_from}
use Rattle.parcel_loads.proofs.steps.step_at.Given as goal

abbrev pub invariant-loop-step : goal.invariant-loop-step
invariant-loop-step l = find (leaves_from l.device) (drop l.step-index l.steps) ≡ find (leaves_from l.device) l.steps
