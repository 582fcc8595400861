-- What a blocker says of the offsets before it.
use Rattle.std.proofs.Common.{◌≡◌, ◌+◌, ◌-◌, ◌<◌, ◌≤◌, ℕ, List, get_or, sym, subst, arith}
use Rattle.std.proofs.lemmas.Bool.Decides.{nat_tests}
use Rattle.gap_table.specs.Slots.{IsClear, IsBlocker, slack, later}
use Rattle.gap_table.specs.declared.slot.Slot.{Slot}
use Rattle.placement.specs.Layouts.{slot_of}
use Rattle.placement.specs.Searches.{IsBehindTable}
use Rattle.placement.specs.declared.layout.TheConstants.{MAX_TIME}
use Rattle.placement.specs.declared.layout.Sending.{Sending}

moved : (wire : ℕ) (s : Sending) (offset gap : ℕ) → later gap (slot_of wire s offset) ≡ slot_of wire s (offset + gap)
moved wire s offset gap =
    let lo : (offset + s.least) + gap ≡ (offset + gap) + s.least = omega arith in
    let end : ((offset + s.greatest) + wire) + gap ≡ ((offset + gap) + s.greatest) + wire = omega arith in
    λ i. record { lo = lo i; end = end i; anchor = s.anchor }

slack_small : (guard : ℕ) (a b : Slot) → slack guard a b ≤ guard
slack_small guard a b = grind (arith, nat_tests)

pub behind_blocker : (guard wire : ℕ) (table : List Slot) (s : Sending) (offset free : ℕ) → guard ≤ MAX_TIME →
    IsBlocker guard (slot_of wire s offset) table free → IsBehindTable guard wire table s offset (free - s.least)
behind_blocker guard wire table s offset free within b =
    let rises : offset + s.least < free = b.rises in
    let slack_is = slack_small guard b.slot (slot_of wire s offset) in
    record {
      reached = omega (arith, rises);
      small = omega (arith, b.is, b.valid.bounded, slack_is, within);
      skipped = λ x past before all.
          let gap : offset + (x - offset) ≡ x = omega (arith, past) in
          let short : (offset + s.least) + (x - offset) < free = omega (arith, before, past, rises) in
          let clear : IsClear guard (slot_of wire s x) (get_or table b.has.0 b.slot) = all b.has.0 b.slot b.has.1 in
          let here : IsClear guard (slot_of wire s x) b.slot = subst (IsClear guard (slot_of wire s x)) b.has.2 clear in
          b.blocked (x - offset) short
          (subst (λ c. IsClear guard c b.slot) (sym (moved wire s offset (x - offset)))
          (subst (λ (y : ℕ). IsClear guard (slot_of wire s y) b.slot) (sym gap) here));
      clear = λ same. absurd (omega (arith, same, rises));
    }
