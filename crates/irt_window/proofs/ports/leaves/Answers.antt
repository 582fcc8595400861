use Rattle.std.proofs.Common.{arith, inl, inr}
use Rattle.std.proofs.lemmas.Bool.{cases_lt, false≢true}
use Rattle.irt_window.proofs.Bits.{leaves_low}
use Rattle.irt_window.proofs.ports.leaves.Goals as goal

pub returns : goal.returns
returns c = (
  λ yes. absurd (false≢true yes),
  λ (port, out). elim (cases_lt port c.loop-port.port) [
    | inl below ↦ absurd (c.loop-port.invariant port below out)
    | inr above ↦ absurd (leaves_low c.args.entry port (omega arith) (omega arith) out)
  ],
)
