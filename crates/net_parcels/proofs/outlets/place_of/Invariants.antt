use Rattle.std.proofs.Common.{◌≤◌, ◌≡◌, ℕ, Some}
use Rattle.std.specs.Prelude.{slice_get}
use Rattle.net_parcels.proofs.outlets.place_of.Given as goal

abbrev pub invariant-loop-place : goal.invariant-loop-place
invariant-loop-place l = (j : ℕ) → slice_get l.ports j ≡ Some l.port → l.place ≤ j
