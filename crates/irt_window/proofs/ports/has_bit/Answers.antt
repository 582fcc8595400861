use Rattle.std.proofs.Common.{arith}
use Rattle.std.proofs.lemmas.Bool.{ltb-true}
use Rattle.irt_window.proofs.Bits.{bit_is_low}
use Rattle.irt_window.proofs.ports.has_bit.Goals as goal

pub returns-else-bit-lt-TX_BITS : goal.returns-else-bit-lt-TX_BITS
returns-else-bit-lt-TX_BITS c = (
  λ low. absurd (omega (arith, ltb-true _ _ low)),
  λ bit. absurd (bit_is_low c.args.tx c.args.bit (omega arith) c.if-bit-lt-TX_BITS.false bit),
)
