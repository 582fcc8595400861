use Rattle.std.proofs.Common.{arith, inl, inr, refl}
use Rattle.std.proofs.lemmas.Bool.{cases_lt}
use Rattle.irt_window.proofs.Bits.{leaves_low}
use Rattle.irt_window.proofs.links.all_received.Goals as goal

pub returns : goal.returns
returns c = (
  λ yes port out. elim (cases_lt port c.loop-port.port) [
    | inl below ↦ c.loop-port.invariant port below out
    | inr above ↦ absurd (leaves_low c.args.entry port (omega arith) (omega arith) out)
  ],
  λ all. refl,
)
