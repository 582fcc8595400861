use Rattle.std.proofs.Common.{ℕ, ◌<◌}
use Rattle.way_rules.specs.Fits.{FitsPhase}
use Rattle.way_rules.proofs.red.fits_red.Given as goal

abbrev pub invariant-loop-phase : goal.invariant-loop-phase
invariant-loop-phase l = (phase : ℕ) → phase < l.phase → FitsPhase l.block l.port.0 l.side l.entry phase l.from l.until
