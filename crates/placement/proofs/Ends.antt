-- The greatest end, sending by sending.
use Rattle.std.proofs.Common.{◌≡◌, ◌+◌, ◌<◌, ◌≤◌, ◌⊎◌, ℕ, inl, inr, List, length, get_or, nat_cmp, Less, Equal, Greater, refl, sym, ◌∙◌, ap, subst, arith}
use Rattle.std.specs.Prelude.{Contains}
use Rattle.std.proofs.lemmas.Bool.{cases_lt, cases_eq}
use Rattle.std.proofs.lemmas.List.{get_or_default}
use Rattle.std.proofs.lemmas.List.Elements.{Contains-get_or}
use Rattle.std.specs.Ordering.{ord_max}
use Rattle.std.specs.Cmp.{nat_cmp_is}
use Rattle.placement.specs.Layouts.{end_of, offset_at}
use Rattle.placement.specs.Placings.{IsEnd}
use Rattle.placement.specs.declared.layout.Layout.{Layout}
use Rattle.placement.specs.declared.layout.Limits.{Limits}
use Rattle.placement.specs.declared.layout.Sending.{Sending}

-- when a sending ends by the offsets
abbrev pub end_at : Limits → Layout → List ℕ → Sending → ℕ
end_at limits layout offsets s = end_of limits layout.wire s (offset_at offsets s.anchor.0)

-- the greatest end of the sendings before a place, or 0
pub record IsEndBelow (limits : Limits) (layout : Layout) (offsets : List ℕ) (below end : ℕ) : Type 0 where
  pub bound : (k : ℕ) (d : Sending) → k < below → end_at limits layout offsets (get_or layout.sendings k d) ≤ end
  pub some : ((below ≡ 0) × (end ≡ 0)) ⊎ ((s : Sending) × Contains layout.sendings s × (end ≡ end_at limits layout offsets s))

module _ (limits : Limits) (layout : Layout) (offsets : List ℕ) where
  pub no_end : IsEndBelow limits layout offsets 0 0
  no_end = record { bound = λ k d below. absurd (omega (arith, below)); some = inl (refl, refl) }

  greater : (n end next : ℕ) (e : Sending) → n < length layout.sendings → IsEndBelow limits layout offsets n end → end ≤ next →
      end_at limits layout offsets (get_or layout.sendings n e) ≤ next → (k : ℕ) (d : Sending) → k < n + 1 →
      end_at limits layout offsets (get_or layout.sendings k d) ≤ next
  greater n end next e inside b more this k d below = elim (cases_eq k n) [
    | inl is ↦
        subst (λ (s : Sending). end_at limits layout offsets s ≤ next)
        (sym (ap (λ (m : ℕ). get_or layout.sendings m d) is ∙ get_or_default layout.sendings n d e inside)) this
    | inr other ↦
        let before = b.bound k d (omega (arith, below, other)) in
        omega (arith, before, more)
  ]

  pub one_more : (n end next : ℕ) (e : Sending) → n < length layout.sendings → IsEndBelow limits layout offsets n end →
      end ≤ next → end_at limits layout offsets (get_or layout.sendings n e) ≤ next →
      (next ≡ end) ⊎ (next ≡ end_at limits layout offsets (get_or layout.sendings n e)) → IsEndBelow limits layout offsets (n + 1) next
  one_more n end next e inside b more this (inr own) = record {
    bound = greater n end next e inside b more this;
    some = inr (get_or layout.sendings n e, Contains-get_or layout.sendings n e inside, own);
  }
  one_more n end next e inside b more this (inl same) = record {
    bound = greater n end next e inside b more this;
    some = elim b.some [
      | inl none ↦ inr (get_or layout.sendings n e, Contains-get_or layout.sendings n e inside, omega (arith, same, none.1, this))
      | inr found ↦ inr (found.0, found.1, same ∙ found.2)
    ];
  }

  pub all_ends : (end : ℕ) → 1 ≤ length layout.sendings → IsEndBelow limits layout offsets (length layout.sendings) end → IsEnd limits layout offsets end
  all_ends end some b = record {
    bound = λ s has. subst (λ (x : Sending). end_at limits layout offsets x ≤ end) has.2 (b.bound has.0 s has.1);
    some = elim b.some [
      | inl none ↦ absurd (omega (arith, some, none.0))
      | inr found ↦ found
    ];
  }

max_first : (a b : ℕ) → b < a → ord_max nat_cmp a b ≡ a
max_first a b less = let below : Less ≡ nat_cmp b a = nat_cmp_is b a Less less in rw (← below) refl

max_second : (a b : ℕ) → a ≤ b → ord_max nat_cmp a b ≡ b
max_second a b most = elim (cases_eq b a) [
  | inl same ↦ let equal : Equal ≡ nat_cmp b a = nat_cmp_is b a Equal same in rw (← equal) refl
  | inr other ↦ let above : Greater ≡ nat_cmp b a = nat_cmp_is b a Greater (omega (arith, most, other)) in rw (← above) refl
]

-- what `max` gives
pub greater_of : (a b : ℕ) → (a ≤ ord_max nat_cmp a b) × (b ≤ ord_max nat_cmp a b) × ((ord_max nat_cmp a b ≡ a) ⊎ (ord_max nat_cmp a b ≡ b))
greater_of a b = elim (cases_lt b a) [
  | inl less ↦
      let is = max_first a b less in
      (omega (arith, is), omega (arith, less, is), inl is)
  | inr more ↦
      let is = max_second a b more in
      (omega (arith, more, is), omega (arith, is), inr is)
]

pub max_step : (limits : Limits) (layout : Layout) (offsets : List ℕ) (n end value next : ℕ) (items : List Sending) (e : Sending) →
    items ≡ layout.sendings → n < length items → IsEndBelow limits layout offsets n end →
    value ≡ end_at limits layout offsets (get_or items n e) → next ≡ ord_max nat_cmp end value → IsEndBelow limits layout offsets (n + 1) next
max_step limits layout offsets n end value next items e are inside b is most =
    let own : value ≡ end_at limits layout offsets (get_or layout.sendings n e) = is ∙ ap (λ (xs : List Sending). end_at limits layout offsets (get_or xs n e)) are in
    let within : n < length layout.sendings = subst (λ (xs : List Sending). n < length xs) are inside in
    let m = greater_of end value in
    one_more limits layout offsets n end next e within b (omega (arith, m.0, most)) (omega (arith, m.1, most, own)) (elim m.2 [
      | inl first ↦ inl (most ∙ first)
      | inr second ↦ inr (most ∙ second ∙ own)
    ])
