use Rattle.std.proofs.Common.{◌≡◌, ◌+◌, ◌≤◌, drop}
use Rattle.sync_world.specs.Report.{muted_in}
use Rattle.sync_world.proofs.report.muted_in.Given as goal

abbrev pub invariant-loop-error : goal.invariant-loop-error
invariant-loop-error l = record {
  all : l.muted + muted_in (drop l.error-index l.errors) ≡ muted_in l.errors;
  few : l.muted ≤ l.error-index;
}
