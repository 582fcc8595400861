-- Numbers with the same bits are one.
use Rattle.std.proofs.Common.{◌≡◌, ℕ, ◌<◌, ◌↔◌, inl, inr, sym, ◌∙◌, arith}
use Rattle.std.specs.Prelude.{IsBitSet}
use Rattle.std.specs.Int.{bit_at}
use Rattle.std.proofs.lemmas.Bool.{cases_eq}
use Rattle.std.proofs.lemmas.Nat.{bit_set_by_shift}
use Rattle.std.proofs.lemmas.Nat.Bits.{shr_and_one, bit_at-lt, same_from_bits}

pub one_at : (n k : ℕ) → IsBitSet n k → bit_at n k ≡ 1
one_at n k set = sym (shr_and_one n k) ∙ (bit_set_by_shift n k).1 set

pub set_at : (n k : ℕ) → bit_at n k ≡ 1 → IsBitSet n k
set_at n k one = (bit_set_by_shift n k).0 (shr_and_one n k ∙ one)

both_or_neither : (a b : ℕ) → a < 2 → b < 2 → (a ≡ 1 → b ≡ 1) → (b ≡ 1 → a ≡ 1) → a ≡ b
both_or_neither a b small also to from = elim (cases_eq a 1) [
  | inl one ↦ one ∙ sym (to one)
  | inr other ↦ elim (cases_eq b 1) [ inl one ↦ from one ∙ sym one | inr neither ↦ omega arith ]
]

pub same_bytes : (n m : ℕ) → ((k : ℕ) → IsBitSet n k ↔ IsBitSet m k) → n ≡ m
same_bytes n m same =
    same_from_bits n m
    (λ k. both_or_neither (bit_at n k) (bit_at m k) (bit_at-lt n k) (bit_at-lt m k) (λ one. one_at m k ((same k).0 (set_at n k one)))
    (λ one. one_at n k ((same k).1 (set_at m k one))))
