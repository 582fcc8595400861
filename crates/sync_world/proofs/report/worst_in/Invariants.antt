use Rattle.std.proofs.Common.{◌≡◌, drop, max}
use Rattle.sync_world.specs.Report.{worst_in}
use Rattle.sync_world.proofs.report.worst_in.Given as goal

abbrev pub invariant-loop-error : goal.invariant-loop-error
invariant-loop-error l = max l.worst (worst_in (drop l.error-index l.errors)) ≡ worst_in l.errors
