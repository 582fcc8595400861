-- The best of the phases, one after the other.
use Rattle.std.proofs.Common.{◌≡◌, ◌+◌, ◌<◌, ◌≤◌, ℕ, inl, inr, Bool, true, false, cond, ltb, List, Option, Some, None, refl, sym, subst, arith}
use Rattle.std.specs.Prelude.{IfSome, IfNone}
use Rattle.std.proofs.lemmas.Bool.{cases_lt, cases_eq, ltb-true, ltb-false}
use Rattle.gap_table.specs.declared.slot.Slot.{Slot}
use Rattle.placement.specs.Layouts.{IsLayout}
use Rattle.placement.specs.Placings.{ArePlaced, IsBestBelow, HasNoneBelow, IsAnswerBelow, IsPlacingIn, IsPhaseAnswer, earlier, rate_of}
use Rattle.placement.specs.declared.layout.Layout.{Layout}
use Rattle.placement.specs.declared.layout.Limits.{Limits}
use Rattle.placement.specs.declared.phases.Placing.{Placing}
use Rattle.placement.proofs.Offsets.{one_end}

module _ (limits : Limits) (ratio : ℕ) (layout : Layout) (tables : List (List Slot)) (valid : IsLayout layout) where
  -- the first phase with offsets is the best so far
  first_one : (phase : ℕ) (p : Placing) → 1 ≤ phase → HasNoneBelow limits ratio layout tables phase →
      IsPlacingIn limits (rate_of ratio phase) layout tables p → IsBestBelow limits ratio layout tables (phase + 1) p
  first_one phase p from none is = record {
    from_one = omega (arith, from, is.phase_is);
    before = omega (arith, is.phase_is);
    small = is.small;
    placed = subst (λ (n : ℕ). ArePlaced limits (rate_of ratio n) layout tables p.offsets) (sym is.phase_is) is.placed;
    ends = is.ends;
    best = λ other offsets end least before placed ends. elim (cases_lt other phase) [
      | inl less ↦ absurd (none other offsets least less placed)
      | inr more ↦
          let same : other ≡ phase = omega (arith, more, before) in
          let there = subst (λ (n : ℕ). ArePlaced limits (rate_of ratio n) layout tables offsets) same placed in
          let one = one_end limits (rate_of ratio phase) layout tables valid p.offsets offsets p.end end is.placed there is.ends ends in
          inr (one, omega (arith, same, is.phase_is))
    ];
  }

  kept : (phase : ℕ) (best p : Placing) → best.end ≤ p.end → IsBestBelow limits ratio layout tables phase best →
      IsPlacingIn limits (rate_of ratio phase) layout tables p → IsBestBelow limits ratio layout tables (phase + 1) best
  kept phase best p less b is = record {
    from_one = b.from_one;
    before = omega (arith, b.before);
    small = b.small;
    placed = b.placed;
    ends = b.ends;
    best = λ other offsets end least before placed ends. elim (cases_lt other phase) [
      | inl early ↦ b.best other offsets end least early placed ends
      | inr more ↦
          let same : other ≡ phase = omega (arith, more, before) in
          let there = subst (λ (n : ℕ). ArePlaced limits (rate_of ratio n) layout tables offsets) same placed in
          let one = one_end limits (rate_of ratio phase) layout tables valid p.offsets offsets p.end end is.placed there is.ends ends in
          elim (cases_eq best.end end) [
            | inl equal ↦ inr (equal, omega (arith, b.before, more))
            | inr other ↦ inl (omega (arith, less, one, other))
          ]
    ];
  }

  replaced : (phase : ℕ) (best p : Placing) → p.end < best.end → IsBestBelow limits ratio layout tables phase best →
      IsPlacingIn limits (rate_of ratio phase) layout tables p → IsBestBelow limits ratio layout tables (phase + 1) p
  replaced phase best p less b is = record {
    from_one = omega (arith, b.from_one, b.before, is.phase_is);
    before = omega (arith, is.phase_is);
    small = is.small;
    placed = subst (λ (n : ℕ). ArePlaced limits (rate_of ratio n) layout tables p.offsets) (sym is.phase_is) is.placed;
    ends = is.ends;
    best = λ other offsets end least before placed ends. elim (cases_lt other phase) [
      | inl early ↦ elim (b.best other offsets end least early placed ends) [
        | inl sooner ↦ inl (omega (arith, less, sooner))
        | inr equal ↦ inl (omega (arith, less, equal.0))
      ]
      | inr more ↦
          let same : other ≡ phase = omega (arith, more, before) in
          let there = subst (λ (n : ℕ). ArePlaced limits (rate_of ratio n) layout tables offsets) same placed in
          let one = one_end limits (rate_of ratio phase) layout tables valid p.offsets offsets p.end end is.placed there is.ends ends in
          inr (one, omega (arith, same, is.phase_is))
    ];
  }

  none_more : (phase : ℕ) → HasNoneBelow limits ratio layout tables phase →
      ((offsets : List ℕ) → ¬ ArePlaced limits (rate_of ratio phase) layout tables offsets) → HasNoneBelow limits ratio layout tables (phase + 1)
  none_more phase none here other offsets least before placed = elim (cases_lt other phase) [
    | inl less ↦ none other offsets least less placed
    | inr more ↦
        let same : other ≡ phase = omega (arith, more, before) in
        here offsets (subst (λ (n : ℕ). ArePlaced limits (rate_of ratio n) layout tables offsets) same placed)
  ]

  still : (phase : ℕ) (best : Placing) → IsBestBelow limits ratio layout tables phase best →
      ((offsets : List ℕ) → ¬ ArePlaced limits (rate_of ratio phase) layout tables offsets) → IsBestBelow limits ratio layout tables (phase + 1) best
  still phase best b here = record {
    from_one = b.from_one;
    before = omega (arith, b.before);
    small = b.small;
    placed = b.placed;
    ends = b.ends;
    best = λ other offsets end least before placed ends. elim (cases_lt other phase) [
      | inl early ↦ b.best other offsets end least early placed ends
      | inr more ↦
          let same : other ≡ phase = omega (arith, more, before) in
          absurd (here offsets (subst (λ (n : ℕ). ArePlaced limits (rate_of ratio n) layout tables offsets) same placed))
    ];
  }

  pick : (phase : ℕ) (first second : Placing) (b : Bool) → ltb second.end first.end ≡ b → IsBestBelow limits ratio layout tables phase first →
      IsPlacingIn limits (rate_of ratio phase) layout tables second → IsBestBelow limits ratio layout tables (phase + 1) (cond b second first)
  pick phase first second true less b is = replaced phase first second (ltb-true second.end first.end less) b is
  pick phase first second false more b is = kept phase first second (ltb-false second.end first.end more) b is

  pub one_phase : (phase : ℕ) (first second : Option Placing) → 1 ≤ phase → IsAnswerBelow limits ratio layout tables phase first →
      IsPhaseAnswer limits (rate_of ratio phase) layout tables second → IsAnswerBelow limits ratio layout tables (phase + 1) (earlier first second)
  one_phase phase None None from first second = none_more phase first second
  one_phase phase None (Some p) from first second = first_one phase p from first second
  one_phase phase (Some best) None from first second = still phase best first second
  one_phase phase (Some best) (Some p) from first second = pick phase best p (ltb p.end best.end) refl first second

pub found_in : (limits : Limits) (ratio : ℕ) (layout : Layout) (tables : List (List Slot)) (below end : ℕ) (best : Option Placing) → below ≡ end →
    IsAnswerBelow limits ratio layout tables below best → IfSome best (IsBestBelow limits ratio layout tables end)
found_in limits ratio layout tables below end None same is = tt
found_in limits ratio layout tables below end (Some p) same is = subst (λ (n : ℕ). IsBestBelow limits ratio layout tables n p) same is

pub none_in : (limits : Limits) (ratio : ℕ) (layout : Layout) (tables : List (List Slot)) (below end : ℕ) (best : Option Placing) → below ≡ end →
    IsAnswerBelow limits ratio layout tables below best → IfNone best (HasNoneBelow limits ratio layout tables end)
none_in limits ratio layout tables below end None same is = subst (λ (n : ℕ). HasNoneBelow limits ratio layout tables n) same is
none_in limits ratio layout tables below end (Some p) same is = tt
