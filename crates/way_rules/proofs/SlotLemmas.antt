-- Slots of a port, entry by entry.
use Rattle.std.proofs.Common.{◌≡◌, ◌<◌, ◌+◌, ℕ, List, [], ◌∷◌, ◌++◌, Some, Contains, length, get_or, sym, ◌∙◌, ap, subst, arith, inl, inr}
use Rattle.std.specs.Prelude.{slice_get, AllPairs}
use Rattle.std.proofs.lemmas.Bool.{cases_eq}
use Rattle.std.proofs.lemmas.List.Elements.{All-push, Contains-push, Contains-push_cases, Contains-append_left, Contains-get_or}
use Rattle.std.proofs.lemmas.List.Quantifiers.{all_pairs_push}
use Rattle.std.proofs.lemmas.Option.{same_Some, slice_get-get_or}
use Rattle.irt_base.specs.declared.blocks.Entry.{Entry}
use Rattle.plan_rules.specs.Way.{Leaves}
use Rattle.plan_rules.specs.declared.way.Way.{Way}
use Rattle.window_sweep.specs.Slots.{IsSendSlot}
use Rattle.window_sweep.specs.declared.slot.SendSlot.{SendSlot}
use Rattle.way_rules.specs.Slots.{IsTimed, AreTimed, slot_of, IsSlotOf, AreSlots}
use Rattle.way_rules.proofs.Entries.{Ascend, ascend_from_frames}

later : (entries : List Entry) (own : List Way) (port n : ℕ) (s : SendSlot) → IsSlotOf entries own port n s → IsSlotOf entries own port (n + 1) s
later entries own port n s i = record {
  place = i.place;
  e = i.e;
  way = i.way;
  before = omega (arith, i.before);
  stands = i.stands;
  comes = i.comes;
  leaves = i.leaves;
  is = i.is;
}

slots_skip : (entries : List Entry) (own : List Way) (port n : ℕ) (d : Entry) (slots : List SendSlot) → n < length entries
    → ¬ Leaves (get_or entries n d) port → AreSlots entries own port n slots → AreSlots entries own port (n + 1) slots
slots_skip entries own port n d slots less stays a = record {
  valid = a.valid;
  each = λ s has. later entries own port n s (a.each s has);
  all = λ place e way before stands comes leaves. elim (cases_eq place n) [
    | inl same ↦
        let here : get_or entries n d ≡ e = same_Some (get_or entries n d) e
        (sym (slice_get-get_or entries n d less) ∙ (ap (slice_get entries) (sym same) ∙ stands)) in
        absurd (stays (subst (λ (x : Entry). Leaves x port) (sym here) leaves))
    | inr other ↦ a.all place e way (omega arith) stands comes leaves
  ];
}

timed_slot : (e : Entry) (way : Way) → IsTimed e way → IsSendSlot (slot_of e way)
timed_slot e way t = record {
  proper = omega (arith, t.ordered);
  bounded = omega (arith, t.small, t.valid.length.0);
  rate = t.valid.rate;
}

-- the frames before are less
frames_less : (entries : List Entry) (own : List Way) (port n : ℕ) (e : Entry) (slots : List SendSlot) → Ascend entries
    → slice_get entries n ≡ Some e → AreSlots entries own port n slots → (s : SendSlot) → Contains slots s → s.frame.0 < e.frame.0
frames_less entries own port n e slots up stands a s has =
    let i = a.each s has in
    omega (arith, up.less i.place n i.e e i.before i.stands stands, ap (λ (t : SendSlot). t.frame.0) i.is)

pairs_push : (slots : List SendSlot) (s : SendSlot) → AllPairs (λ (a b : SendSlot). a.frame.0 < b.frame.0) slots
    → ((t : SendSlot) → Contains slots t → t.frame.0 < s.frame.0) → AllPairs (λ (a b : SendSlot). a.frame.0 < b.frame.0) (slots ++ s ∷ [])
pairs_push slots s pairs less =
    all_pairs_push (λ (a b : SendSlot). a.frame.0 < b.frame.0) slots s pairs (λ k d within. less (get_or slots k d) (Contains-get_or slots k d within))

slots_push : (entries : List Entry) (own : List Way) (port n : ℕ) (e : Entry) (way : Way) (slots : List SendSlot) → AreTimed entries own
    → slice_get entries n ≡ Some e → slice_get own n ≡ Some way → Leaves e port → AreSlots entries own port n slots
    → AreSlots entries own port (n + 1) (slots ++ slot_of e way ∷ [])
slots_push entries own port n e way slots t stands comes leaves a = record {
  valid = record {
    each = All-push IsSendSlot slots (slot_of e way) a.valid.each (timed_slot e way (t.each n e way stands comes));
    ascending = pairs_push slots (slot_of e way) a.valid.ascending
        (frames_less entries own port n e slots (ascend_from_frames entries t.ascending) stands a);
  };
  each = λ s has. elim (Contains-push_cases slots (slot_of e way) s has) [
    | inl old ↦ later entries own port n s (a.each s old)
    | inr new ↦ record { place = n; e = e; way = way; before = omega arith; stands = stands; comes = comes; leaves = leaves; is = sym new }
  ];
  all = λ place x other before is has goes. elim (cases_eq place n) [
    | inl same ↦
        let one : e ≡ x = same_Some e x (sym stands ∙ (ap (slice_get entries) (sym same) ∙ is)) in
        let two : way ≡ other = same_Some way other (sym comes ∙ (ap (slice_get own) (sym same) ∙ has)) in
        subst (λ (y : Entry). Contains (slots ++ slot_of e way ∷ []) (slot_of y other)) one
        (subst (λ (y : Way). Contains (slots ++ slot_of e way ∷ []) (slot_of e y)) two (Contains-push slots (slot_of e way)))
    | inr apart ↦ Contains-append_left slots (slot_of e way ∷ []) (slot_of x other) (a.all place x other (omega arith) is has goes)
  ];
}

pub timed_at : (entries : List Entry) (own : List Way) (n : ℕ) (d : Entry) (v : Way) → AreTimed entries own → n < length entries
    → IsTimed (get_or entries n d) (get_or own n v)
timed_at entries own n d v t less =
    t.each n (get_or entries n d) (get_or own n v) (slice_get-get_or entries n d less) (slice_get-get_or own n v (omega (arith, t.count)))

-- a slot more, as the code pushes it
pub slots_pushed : (entries : List Entry) (own : List Way) (port n : ℕ) (d : Entry) (v : Way) (slot : SendSlot) (slots new now : List SendSlot)
    → AreTimed entries own → n < length entries → Leaves (get_or entries n d) port → AreSlots entries own port n slots
    → slot ≡ slot_of (get_or entries n d) (get_or own n v) → new ≡ slots ++ slot ∷ [] → now ≡ new → AreSlots entries own port (n + 1) now
slots_pushed entries own port n d v slot slots new now t less leaves a is_slot is_new is_now =
    let more = slots_push entries own port n (get_or entries n d) (get_or own n v) slots t (slice_get-get_or entries n d less)
    (slice_get-get_or own n v (omega (arith, t.count))) leaves a in
    subst (λ (xs : List SendSlot). AreSlots entries own port (n + 1) xs)
    (ap (λ (s : SendSlot). slots ++ s ∷ []) (sym is_slot) ∙ (sym is_new ∙ sym is_now)) more

pub slots_skipped : (entries : List Entry) (own : List Way) (port n : ℕ) (d : Entry) (slots now : List SendSlot) → n < length entries
    → ¬ Leaves (get_or entries n d) port → AreSlots entries own port n slots → now ≡ slots → AreSlots entries own port (n + 1) now
slots_skipped entries own port n d slots now less stays a is_now =
    subst (λ (xs : List SendSlot). AreSlots entries own port (n + 1) xs) (sym is_now) (slots_skip entries own port n d slots less stays a)
