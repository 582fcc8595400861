use Rattle.std.proofs.Common.{◌≡◌, ◌≤◌, ◌++◌, length, drop}
use Rattle.irt_base.specs.Text.{hex_digits}
use Rattle.irt_base.proofs.texts.write_hex.Given as goal

abbrev pub invariant-loop-place : goal.invariant-loop-place
invariant-loop-place l = (l.place ≤ length l.out) × (hex_digits (length l.out) l.fn.value ≡ hex_digits l.place l.rest ++ drop l.place l.out)

abbrev pub decreases-loop-place : goal.decreases-loop-place
decreases-loop-place l = l.place
