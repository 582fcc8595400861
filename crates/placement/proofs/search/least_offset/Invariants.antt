use Rattle.std.proofs.Common.{◌<◌, ◌≤◌, ◌-◌, ℕ}
use Rattle.placement.specs.Placings.{IsOpen}
use Rattle.placement.specs.declared.search.TheConstants.{MAX_OFFSET}
use Rattle.placement.proofs.search.least_offset.Given as goal

abbrev pub decreases-loop-limits : goal.decreases-loop-limits
decreases-loop-limits l = MAX_OFFSET - l.offset

abbrev pub invariant-loop-limits : goal.invariant-loop-limits
invariant-loop-limits l = record {
  reached : l.fn.ready ≤ l.offset;
  small : l.offset ≤ MAX_OFFSET;
  skipped : (y : ℕ) → l.fn.ready ≤ y → y < l.offset → ¬ IsOpen l.limits l.rate l.layout l.gaps l.anchor.0 y;
}
