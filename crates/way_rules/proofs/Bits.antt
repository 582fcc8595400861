-- The ports of an entry.
use Rattle.std.proofs.Common.{◌<◌, ◌≤◌, ◌*◌, ◌^◌, ℕ, ap, ◌∙◌, arith}
use Rattle.std.specs.Prelude.{IsBitSet}
use Rattle.std.proofs.lemmas.Nat.Bits.{and_pow, bit_at_above}

-- a byte has no bit from 8 on
pub high_bit : (tx bit : ℕ) → tx < 256 → 8 ≤ bit → IsBitSet tx bit → ⊥
high_bit tx bit byte high set =
    let zero = bit_at_above tx 8 bit (omega arith) high in
    set (and_pow tx bit ∙ (ap (λ (n : ℕ). n * 2 ^ bit) zero ∙ omega arith))
