use Rattle.std.proofs.Common.{◌≡◌, ◌-◌, ◌≤◌, length}
use Rattle.irt_base.specs.declared.limits.TheConstants.{MAX_DEMANDS, MIN_FRAME}
use Rattle.irt_block.proofs.Loops.{with_front}
use Rattle.pdir_frame.specs.Frames.{entries_at}
use Rattle.pdir_frame.proofs.reading.entries.Given as goal

-- what is still read goes on as all of it does
abbrev pub invariant-loop-entries : goal.invariant-loop-entries
invariant-loop-entries l = record {
  read : with_front l.entries (entries_at (MAX_DEMANDS - length l.entries) l.least l.extent l.left) ≡ entries_at MAX_DEMANDS MIN_FRAME l.extent l.fn.rest;
  shorter : length l.left ≤ length l.fn.rest;
}

abbrev pub decreases-loop-entries : goal.decreases-loop-entries
decreases-loop-entries l = MAX_DEMANDS - length l.entries
