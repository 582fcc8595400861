-- Slots in the order of time.
use Rattle.std.proofs.Common.{◌≡◌, ◌+◌, ◌-◌, ◌<◌, ◌≤◌, ◌⊎◌, ℕ, inl, inr, List, length, get_or, sym, subst, arith}
use Rattle.std.specs.Prelude.{All, insert}
use Rattle.std.specs.List.{AllWithin}
use Rattle.std.specs.List.Sorted.{IsNonDecreasingBy}
use Rattle.std.proofs.lemmas.Bool.{cases_lt, cases_eq}
use Rattle.std.proofs.lemmas.Bool.Decides.{nat_tests}
use Rattle.std.proofs.lemmas.List.Elements.{All-from_get_or}
use Rattle.gap_table.specs.Slots.{IsSlot, IsClear, EndsBefore, AreOrdered, IsInserted}
use Rattle.gap_table.specs.declared.slot.Slot.{Slot}
use Rattle.gap_table.proofs.Inserted.{All-insert, AllPairs-insert}

pub begins_rise : (slots : List Slot) → AreOrdered slots → IsNonDecreasingBy (λ (s : Slot). s.lo) slots
begins_rise slots are i j d most within =
    elim (cases_eq i j) [
      | inl is ↦ subst (λ (k : ℕ). (get_or slots i d).lo ≤ (get_or slots k d).lo) is (omega arith)
      | inr other ↦
          let own = are.each i d (omega arith) in
          let order = are.order i j d (omega arith) within in
          omega (arith, own.proper, order)
    ]

pub ends_rise : (slots : List Slot) → AreOrdered slots → IsNonDecreasingBy (λ (s : Slot). s.end) slots
ends_rise slots are i j d most within =
    elim (cases_eq i j) [
      | inl is ↦ subst (λ (k : ℕ). (get_or slots i d).end ≤ (get_or slots k d).end) is (omega arith)
      | inr other ↦
          let next = are.each j d within in
          let order = are.order i j d (omega arith) within in
          omega (arith, next.proper, order)
    ]

-- clear by a guard of 0
touching : (a b : Slot) → IsClear 0 a b → (a.end ≤ b.lo) ⊎ (b.end ≤ a.lo)
touching a b (inl first) = inl (grind (arith, nat_tests))
touching a b (inr second) = inr (grind (arith, nat_tests))

-- a slot that overlaps none goes behind those that begin before it
pub placed : (slot : Slot) (old new : List Slot) (place : ℕ) → AreOrdered old → IsSlot slot → All (IsClear 0 slot) old → place ≤ length old →
    AllWithin (λ s. s.lo < slot.lo) old 0 place → AllWithin (λ s. slot.lo ≤ s.lo) old place (length old) → new ≡ insert old place slot →
    IsInserted slot old new
placed slot old new place are valid apart inside less more is = record {
  place = place;
  inside = inside;
  is = is;
  before = λ k d low high.
      let own = are.each k d (omega arith) in
      elim (touching slot (get_or old k d) (apart k d (omega arith))) [
        | inl first ↦ absurd (omega (arith, less k d low high, valid.proper, own.proper, first))
        | inr second ↦ second
      ];
  after = λ k d low high.
      let own = are.each k d high in
      elim (touching slot (get_or old k d) (apart k d high)) [
        | inl first ↦ first
        | inr second ↦ absurd (omega (arith, more k d low high, own.proper, second))
      ];
}

pub stays_ordered : (slot : Slot) (old new : List Slot) → AreOrdered old → IsSlot slot → IsInserted slot old new → AreOrdered new
stays_ordered slot old new are valid at =
    subst AreOrdered (sym at.is) (record {
      each = All-insert old at.place slot at.inside IsSlot are.each valid;
      order = AllPairs-insert old at.place slot at.inside (λ a b. a.end ≤ b.lo) are.order at.before at.after;
    })

-- what ended a guard before is clear
pub ended_clear : (guard : ℕ) (candidate slot : Slot) → slot.end + guard ≤ candidate.lo → IsClear guard candidate slot
ended_clear guard candidate slot ended = inr (grind (arith, nat_tests))

begins_behind : (guard : ℕ) (a b : Slot) → a.end + guard ≤ b.lo → EndsBefore guard a b
begins_behind guard a b behind = grind (arith, nat_tests)

-- from a slot that begins a guard behind the candidate on, all are clear
pub rest_clear : (guard : ℕ) (candidate : Slot) (slots : List Slot) (at : ℕ) (d : Slot) → AreOrdered slots → at < length slots →
    AllWithin (IsClear guard candidate) slots 0 at → candidate.end + guard ≤ (get_or slots at d).lo → All (IsClear guard candidate) slots
rest_clear guard candidate slots at d are inside before begins = All-from_get_or (IsClear guard candidate) slots d (λ k within.
    elim (cases_lt k at) [
      | inl less ↦ before k d (omega arith) less
      | inr more ↦
          let rise = begins_rise slots are at k d more within in
          inl (begins_behind guard candidate (get_or slots k d) (omega (arith, begins, rise)))
    ])

-- what ended when the guard was still to come
pub ended_before : (slots : List Slot) (k : ℕ) (d : Slot) (guard time : ℕ) → AreOrdered slots → k < length slots →
    (get_or slots k d).end ≤ time - guard → (get_or slots k d).end + guard ≤ time
ended_before slots k d guard time are within ended =
    let own = are.each k d within in
    omega (arith, own.proper, ended)
