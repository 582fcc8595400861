-- The bits of `tx`.
use Rattle.std.proofs.Common.{◌≡◌, ◌+◌, ◌*◌, ◌%◌, ◌^◌, ◌<◌, ◌≤◌, ◌↔◌, ℕ, zero, suc, inl, inr, Bool, true, false, true≢false, sym, ◌∙◌, ap, subst, arith, refl, IsBitSet, w8}
use Rattle.std.specs.Prelude.{bit_or}
use Rattle.std.specs.Int.{bit_at}
use mir.Val.{bits}
use Rattle.std.proofs.lemmas.Bool.{cases_eq, cases_lt}
use Rattle.std.proofs.lemmas.Nat.{bit_set_by_shift}
use Rattle.std.proofs.lemmas.Nat.Bits.{shr_and_one, bit_at_above, bit_at_set_same, bit_at_set_other}
use Rattle.irt_base.specs.declared.blocks.Entry.{Entry}
use Rattle.irt_route.specs.Trees.{Parents}
use Rattle.irt_route.specs.Walks.{Peers}
use Rattle.plan_rules.specs.Way.{Leaves}
use Rattle.frame_ways.specs.Entries.{is_sent_over, IsTxBit}

pub one_at : (n k : ℕ) → IsBitSet n k → bit_at n k ≡ 1
one_at n k set = sym (shr_and_one n k) ∙ (bit_set_by_shift n k).1 set

pub set_at : (n k : ℕ) → bit_at n k ≡ 1 → IsBitSet n k
set_at n k one = (bit_set_by_shift n k).0 (shr_and_one n k ∙ one)

pub bit_low : (n w k : ℕ) → n < 2 ^ w → w ≤ k → IsBitSet n k → ⊥
bit_low n w k small past set = omega (arith, one_at n k set, bit_at_above n w k small past)

pub leaves_low : (e : Entry) (port : ℕ) → e.tx < 2 ^ 8 → Leaves e port → port < 8
leaves_low e port small out = elim (cases_lt port 8) [ inl low ↦ low | inr high ↦ absurd (bit_low e.tx 8 port small high out.bit) ]

-- the bits below a number
abbrev pub AreBitsBelow : Peers → Parents → ℕ → Bool → ℕ → ℕ → Type 0
AreBitsBelow peers parents device kept below tx =
    (bit : ℕ) → IsBitSet tx bit ↔ (IsTxBit peers parents device kept bit × (bit < below))

module _ (peers : Peers) (parents : Parents) (device : ℕ) where
  pub first_bits : (kept : Bool) (tx : ℕ) → (kept ≡ true → tx ≡ 1) → (kept ≡ false → tx ≡ 0) → AreBitsBelow peers parents device kept 1 tx
  first_bits true tx one none bit = subst (λ n. IsBitSet n bit ↔ (IsTxBit peers parents device true bit × (bit < 1))) (sym (one refl)) (go bit)
    where
      go : (bit : ℕ) → IsBitSet 1 bit ↔ (IsTxBit peers parents device true bit × (bit < 1))
      go zero = (λ set. (inl (refl, refl), omega arith), λ low. (λ is. absurd (cc)))
      go (suc bit) = (λ set. absurd (bit_low 1 1 (suc bit) (omega arith) (omega arith) set), λ low. absurd (omega (arith, low.1)))
  first_bits false tx one none bit = subst (λ n. IsBitSet n bit ↔ (IsTxBit peers parents device false bit × (bit < 1))) (sym (none refl)) (
    λ set. absurd (bit_low 0 0 bit (omega arith) (omega arith) set),
    λ low. elim low.0 [ inl kept ↦ absurd (true≢false (sym kept.1)) | inr sent ↦ absurd (omega (arith, low.1, sent.0)) ],
  )

  module _ (kept : Bool) (below : ℕ) (tx : ℕ) (are : AreBitsBelow peers parents device kept below tx) where
    pub bit_more : 1 ≤ below → below < 8 → is_sent_over peers parents device below ≡ true →
        AreBitsBelow peers parents device kept (below + 1) (bit_or tx (1 * 2 ^ below % 2 ^ bits w8))
    bit_more from_one low sent bit = elim (cases_eq bit below) [
      | inl same ↦ (
        λ set. (inr (omega arith, omega arith, ap (is_sent_over peers parents device) same ∙ sent), omega arith),
        λ _. set_at (bit_or tx (1 * 2 ^ below % 2 ^ bits w8)) bit (ap (bit_at (bit_or tx (1 * 2 ^ below % 2 ^ bits w8))) same ∙ bit_at_set_same w8 tx below low),
      )
      | inr other ↦
          let kept_bit = bit_at_set_other w8 tx below low bit other in (
            λ set. (
                let old = (are bit).0 (set_at tx bit (sym kept_bit ∙ one_at (bit_or tx (1 * 2 ^ below % 2 ^ bits w8)) bit set)) in
                (old.0, omega (arith, old.1))
                ),
            λ now. set_at (bit_or tx (1 * 2 ^ below % 2 ^ bits w8)) bit (kept_bit ∙ one_at tx bit ((are bit).1 (now.0, omega (arith, now.1)))),
          )
    ]

    pub bit_skipped : 1 ≤ below → is_sent_over peers parents device below ≡ false → AreBitsBelow peers parents device kept (below + 1) tx
    bit_skipped from_one unsent bit = (
      λ set. (let old = (are bit).0 set in (old.0, omega (arith, old.1))),
      λ now. elim (cases_eq bit below) [
        | inl same ↦ elim now.0 [
          | inl zeroth ↦ absurd (omega (arith, zeroth.0))
          | inr sent ↦ absurd (true≢false (sym sent.2 ∙ ap (is_sent_over peers parents device) same ∙ unsent))
        ]
        | inr other ↦ (are bit).1 (now.0, omega (arith, now.1))
      ],
    )

    pub all_bits : below ≡ 8 → (bit : ℕ) → IsBitSet tx bit ↔ IsTxBit peers parents device kept bit
    all_bits all bit = (
      λ set. ((are bit).0 set).0,
      λ is. (are bit).1 (is, elim is [ inl zeroth ↦ omega (arith, zeroth.0) | inr sent ↦ omega (arith, sent.1) ]),
    )
