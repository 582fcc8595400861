-- The bits of `tx`.
use Rattle.std.proofs.Common.{◌<◌, ◌≤◌, ◌*◌, ◌^◌, ℕ, ◌∙◌, ap, arith, IsBitSet}
use Rattle.std.proofs.lemmas.Nat.Bits.{and_pow, bit_at_above}
use Rattle.irt_base.specs.declared.blocks.Entry.{Entry}
use Rattle.plan_rules.specs.Way.{Leaves}

pub bit_is_low : (tx bit : ℕ) → tx < 2 ^ 8 → 8 ≤ bit → IsBitSet tx bit → ⊥
bit_is_low tx bit small high is = is (and_pow tx bit ∙ ap (λ b. b * 2 ^ bit) (bit_at_above tx 8 bit small high) ∙ omega arith)

pub leaves_low : (e : Entry) (port : ℕ) → e.tx < 2 ^ 8 → 8 ≤ port → Leaves e port → ⊥
leaves_low e port small high out = bit_is_low e.tx port small high out.bit
