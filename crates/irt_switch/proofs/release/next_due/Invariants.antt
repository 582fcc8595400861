use Rattle.std.proofs.Common.{◌≡◌, ◌≤◌, ◌-◌, drop, filter, length}
use Rattle.irt_switch.specs.Release.{is_due}
use Rattle.irt_switch.proofs.release.next_due.Given as goal

abbrev pub invariant-loop-place : goal.invariant-loop-place
invariant-loop-place l = record {
  later : l.from ≤ l.place;
  end : l.place ≤ length l.entries;
  skipped : filter (is_due l.k) (drop l.from l.entries) ≡ filter (is_due l.k) (drop l.place l.entries);
}

abbrev pub decreases-loop-place : goal.decreases-loop-place
decreases-loop-place l = length l.entries - l.place
