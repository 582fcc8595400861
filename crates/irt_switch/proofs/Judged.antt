-- The answer to an arrival, by what holds of it.
use Rattle.std.proofs.Common.{◌≡◌, ℕ, zero, suc, ◌^◌, ◌<◌, ◌==◌, Bool, true, false, not, ◌&&◌, ltb, if◌then◌else◌, List, [], ◌∷◌, length, find, Option, Some, None, option_and_then, Ok, Err, inl, inr, refl, sym, ◌∙◌, ap, subst, arith}
use Rattle.std.specs.Prelude.{ℤ, pos, ◌+ℤ◌, ◌≤ℤ◌, int_le}
use Rattle.std.specs.List.{Contains}
use Rattle.std.proofs.lemmas.Bool.{cases_Bool, eqb-true, eqb-false, eq-eqb, ne_eqb, ltb-true, and_parts, and_from}
use Rattle.std.proofs.lemmas.Bool.Decides.{nat_tests}
use Rattle.std.proofs.lemmas.Int.{ints}
use Rattle.std.proofs.lemmas.List.Elements.{All-contains, All-from_recursion}
use Rattle.std.proofs.lemmas.Option.{same_Some}
use Rattle.irt_base.specs.Cycle.{IsDue, wire_time, guard_time}
use Rattle.irt_base.specs.Periods.{period_at}
use Rattle.irt_base.specs.Valid.{IsBundle, IsEntry}
use Rattle.irt_base.specs.declared.blocks.Bundle.{Bundle}
use Rattle.irt_base.specs.declared.blocks.Entry.{Entry}
use Rattle.irt_base.specs.declared.blocks.Period.{Period}
use Rattle.irt_base.specs.declared.blocks.Side.TheVariants.{Rx}
use Rattle.rtc3_frame.specs.Frame.{Fields}
use Rattle.irt_switch.specs.declared.action.Cause.{Cause}
use Rattle.irt_switch.specs.declared.action.Cause.TheVariants.{NotInStep, UnknownFrame, WrongPort, OutsideRx, TooLate}
use Rattle.irt_switch.specs.Arrive.{Reception, is_receiving, if_receiving, receiving_of, passes, is_in_red, is_received_in_red, is_late, action_by, taken_by, action_of}
use Rattle.irt_switch.specs.Causes.{Receives, ArrivesInRed, ComesLate, Applies, rank_of, IsAnswer}
use Rattle.irt_switch.specs.Ports.{ports_of}
use Rattle.irt_switch.proofs.Bits.{ports_bits, kept_bit, some_ports, some_port}
use Rattle.irt_switch.proofs.Finding.{AreAscending, ascending, tail_up}
use Rattle.irt_switch.proofs.Members.{found_in}

-- what stands in the list is what its own FrameID finds
pub find_own : (xs : List Entry) (e : Entry) → AreAscending xs → Contains xs e → find (λ (x : Entry). x.frame.0 == e.frame.0) xs ≡ Some e
find_own [] e up (k, below, is) = absurd (omega arith)
find_own (x ∷ xs) e up (zero, below, is) =
    ap (λ (b : Bool). if b then Some x else find (λ (y : Entry). y.frame.0 == e.frame.0) xs) (eq-eqb x.frame.0 e.frame.0 (ap (λ (y : Entry). y.frame.0) is)) ∙ ap Some is
find_own (x ∷ xs) e up (suc k, below, is) =
    let less = up 0 (suc k) e (omega arith) (omega arith) in
    let apart : (x.frame.0 == e.frame.0) ≡ false = ne_eqb x.frame.0 e.frame.0 (λ same. let at = ap (λ (y : Entry). y.frame.0) is in omega arith) in
    ap (λ (b : Bool). if b then Some x else find (λ (y : Entry). y.frame.0 == e.frame.0) xs) apart ∙ find_own xs e (tail_up x xs up) (k, omega arith, is)

-- the entry by which the device receives the frame, as the code finds it
abbrev pub entry_for : Bundle → ℕ → Reception → Option Entry
entry_for bundle k r = option_and_then (receiving_of bundle k) r.frame

receiving_test : (k count : ℕ) (e : Entry) → is_receiving k count e ≡ true → (0 < e.rx_port) × (e.data_length ≡ count) × IsDue k e.ratio e.phase
receiving_test k count e is = grind (arith, nat_tests)

pub receiving_from : (k count : ℕ) (e : Entry) → 0 < e.rx_port → e.data_length ≡ count → IsDue k e.ratio e.phase → is_receiving k count e ≡ true
receiving_from k count e port same due = grind (arith, nat_tests)

pub received_entry : (bundle : Bundle) (k : ℕ) (r : Reception) (e : Entry) → IsBundle bundle → Receives bundle k r e → entry_for bundle k r ≡ Some e
received_entry bundle k r e valid is =
    let entries = bundle.frames.entries in
    let found = find_own entries e (ascending entries valid.frames.ascending) is.stands in
    ap (option_and_then (receiving_of bundle k)) is.told
    ∙ ap (option_and_then (if_receiving k (length is.fields.csdu)))
    (ap (λ n. find (λ (x : Entry). x.frame.0 == n) entries) (sym is.frame) ∙ found)
    ∙ ap (λ (b : Bool). if b then Some e else None) (receiving_from k (length is.fields.csdu) e is.received is.count is.due)

some_receiving : (k count : ℕ) (o : Option Entry) (e : Entry) → option_and_then (if_receiving k count) o ≡ Some e → (o ≡ Some e) × (is_receiving k count e ≡ true)
some_receiving k count None e is = absurd (cc)
some_receiving k count (Some x) e is =
    let When : Bool → Type 0 = λ b. (if b then Some x else None) ≡ Some e in
    elim (cases_Bool (is_receiving k count x)) [
      | inl so ↦ let same = same_Some x e (subst When so is) in (ap Some same, ap (is_receiving k count) (sym same) ∙ so)
      | inr not ↦ let none : None ≡ Some e = subst When not is in absurd (cc)
    ]

entry_received_at : (bundle : Bundle) (k : ℕ) (r : Reception) (read : Option Fields) (e : Entry) → r.frame ≡ read → option_and_then (receiving_of bundle k) read ≡ Some e → Receives bundle k r e
entry_received_at bundle k r None e told is = absurd (cc)
entry_received_at bundle k r (Some f) e told is =
    let (found, test) = some_receiving k (length f.csdu) (find (λ (x : Entry). x.frame.0 == f.frame) bundle.frames.entries) e is in
    let (stands, named) = found_in (λ (x : Entry). x.frame.0 == f.frame) bundle.frames.entries e (sym found) in
    let (port, count, due) = receiving_test k (length f.csdu) e test in
    record { fields = f; told = told; stands = stands; frame = eqb-true e.frame.0 f.frame named; count = count; received = port; due = due }

pub entry_received : (bundle : Bundle) (k : ℕ) (r : Reception) (e : Entry) → entry_for bundle k r ≡ Some e → Receives bundle k r e
entry_received bundle k r e is = entry_received_at bundle k r r.frame e refl is

-- ---- the tests

le_true : (a b : ℤ) → int_le a b ≡ true → a ≤ℤ b
le_true a b is = grind (arith, ints)

true_le : (a b : ℤ) → a ≤ℤ b → int_le a b ≡ true
true_le a b is = grind (arith, ints)

pub red_test : (bundle : Bundle) (k : ℕ) (r : Reception) (e : Entry) → ArrivesInRed bundle k r e → is_received_in_red bundle k e r.local r.port ≡ true
red_test bundle k r e is =
    ap (passes (is_in_red bundle.sync.window e r.local)) is.period
    ∙ and_from (int_le (pos is.rx.red) (r.local +ℤ pos (guard_time bundle.sync.window))) (int_le (r.local +ℤ pos (wire_time e.data_length)) (pos is.rx.orange))
    (true_le _ _ is.opens) (true_le _ _ is.closes)

pub late_test : (bundle : Bundle) (r : Reception) (e : Entry) → ComesLate bundle r e → is_late bundle e r.local ≡ true
late_test bundle r e is =
    let some = some_ports e is.leaves.0 is.leaves.1 in
    let more : ltb 0 (ports_of e.tx) ≡ true = grind (arith, nat_tests) in
    let past : not (int_le (r.local +ℤ pos bundle.global.bridge) (pos e.send_offset)) ≡ true =
    elim (cases_Bool (int_le (r.local +ℤ pos bundle.global.bridge) (pos e.send_offset))) [
      | inl so ↦ absurd (is.late (le_true _ _ so))
      | inr other ↦ ap not other
    ] in
    and_from _ _ (and_from _ _ (ap not is.absolute) more) past

pub late_meaning : (bundle : Bundle) (r : Reception) (e : Entry) → e.tx < 2 ^ 8 → is_late bundle e r.local ≡ true → ComesLate bundle r e
late_meaning bundle r e small is =
    let (front, past) = and_parts (not bundle.frames.relative && ltb 0 (ports_of e.tx)) _ is in
    let (absolute, more) = and_parts (not bundle.frames.relative) (ltb 0 (ports_of e.tx)) front in
    record {
      absolute = not_true bundle.frames.relative absolute;
      leaves = some_port e small (ltb-true 0 (ports_of e.tx) more);
      late = λ early. let so = true_le _ _ early in let e : false ≡ true = sym (ap not so) ∙ past in absurd (cc);
    }
  where
    not_true : (b : Bool) → not b ≡ true → b ≡ false
    not_true true h = absurd (cc)
    not_true false h = refl

-- ---- the answer

red_meaning_at : (bundle : Bundle) (k : ℕ) (r : Reception) (e : Entry) (o : Option Period) → period_at bundle.periods r.port k Rx ≡ o →
    passes (is_in_red bundle.sync.window e r.local) o ≡ true → ArrivesInRed bundle k r e
red_meaning_at bundle k r e None at is = absurd (cc)
red_meaning_at bundle k r e (Some rx) at is =
    let (opens, closes) = and_parts (int_le (pos rx.red) (r.local +ℤ pos (guard_time bundle.sync.window))) _ is in
    record { rx = rx; period = at; opens = le_true _ _ opens; closes = le_true _ _ closes }

red_meaning : (bundle : Bundle) (k : ℕ) (r : Reception) (e : Entry) → is_received_in_red bundle k e r.local r.port ≡ true → ArrivesInRed bundle k r e
red_meaning bundle k r e is = red_meaning_at bundle k r e (period_at bundle.periods r.port k Rx) refl is

true_not_false : (b : Bool) → b ≡ true → b ≡ false → ⊥
true_not_false b is other = let e : true ≡ false = sym is ∙ other in absurd (cc)

-- what is known of an arrival at a device in step whose entry was found
record IsFound (bundle : Bundle) (k : ℕ) (r : Reception) (e : Entry) : Type 0 where
  valid : IsBundle bundle
  receives : Receives bundle k r e
  only : (other : Entry) → Receives bundle k r other → other ≡ e

not_out : (bundle : Bundle) (k : ℕ) (r : Reception) → ¬ Applies bundle k true r NotInStep
not_out bundle k r applies = let e : true ≡ false = applies in absurd (cc)

not_unknown : (bundle : Bundle) (k : ℕ) (r : Reception) (e : Entry) → IsFound bundle k r e → ¬ Applies bundle k true r UnknownFrame
not_unknown bundle k r e found applies = applies e found.receives

not_wrong : (bundle : Bundle) (k : ℕ) (r : Reception) (e : Entry) → IsFound bundle k r e → e.rx_port ≡ r.port → ¬ Applies bundle k true r WrongPort
not_wrong bundle k r e found port (other, is, apart) = apart (ap (λ (x : Entry). x.rx_port) (found.only other is) ∙ port)

not_outside : (bundle : Bundle) (k : ℕ) (r : Reception) (e : Entry) → IsFound bundle k r e → ArrivesInRed bundle k r e → ¬ Applies bundle k true r OutsideRx
not_outside bundle k r e found red (other, is, outside) = outside (subst (ArrivesInRed bundle k r) (sym (found.only other is)) red)

not_late : (bundle : Bundle) (k : ℕ) (r : Reception) (e : Entry) → IsFound bundle k r e → is_late bundle e r.local ≡ false → ¬ Applies bundle k true r TooLate
not_late bundle k r e found early (other, is, late) =
    true_not_false (is_late bundle e r.local) (late_test bundle r e (subst (ComesLate bundle r) (found.only other is) late)) early

before_wrong : (bundle : Bundle) (k : ℕ) (r : Reception) (e : Entry) → IsFound bundle k r e → (other : Cause) → rank_of other < 2 → ¬ Applies bundle k true r other
before_wrong bundle k r e found NotInStep below = not_out bundle k r
before_wrong bundle k r e found UnknownFrame below = not_unknown bundle k r e found
before_wrong bundle k r e found WrongPort below = absurd (omega arith)
before_wrong bundle k r e found OutsideRx below = absurd (omega arith)
before_wrong bundle k r e found TooLate below = absurd (omega arith)

before_outside : (bundle : Bundle) (k : ℕ) (r : Reception) (e : Entry) → IsFound bundle k r e → e.rx_port ≡ r.port → (other : Cause) → rank_of other < 3 →
    ¬ Applies bundle k true r other
before_outside bundle k r e found port NotInStep below = not_out bundle k r
before_outside bundle k r e found port UnknownFrame below = not_unknown bundle k r e found
before_outside bundle k r e found port WrongPort below = not_wrong bundle k r e found port
before_outside bundle k r e found port OutsideRx below = absurd (omega arith)
before_outside bundle k r e found port TooLate below = absurd (omega arith)

before_late : (bundle : Bundle) (k : ℕ) (r : Reception) (e : Entry) → IsFound bundle k r e → e.rx_port ≡ r.port → ArrivesInRed bundle k r e → (other : Cause) →
    rank_of other < 4 → ¬ Applies bundle k true r other
before_late bundle k r e found port red NotInStep below = not_out bundle k r
before_late bundle k r e found port red UnknownFrame below = not_unknown bundle k r e found
before_late bundle k r e found port red WrongPort below = not_wrong bundle k r e found port
before_late bundle k r e found port red OutsideRx below = not_outside bundle k r e found red
before_late bundle k r e found port red TooLate below = absurd (omega arith)

no_cause : (bundle : Bundle) (k : ℕ) (r : Reception) (e : Entry) → IsFound bundle k r e → e.rx_port ≡ r.port → ArrivesInRed bundle k r e →
    is_late bundle e r.local ≡ false → (cause : Cause) → ¬ Applies bundle k true r cause
no_cause bundle k r e found port red early NotInStep = not_out bundle k r
no_cause bundle k r e found port red early UnknownFrame = not_unknown bundle k r e found
no_cause bundle k r e found port red early WrongPort = not_wrong bundle k r e found port
no_cause bundle k r e found port red early OutsideRx = not_outside bundle k r e found red
no_cause bundle k r e found port red early TooLate = not_late bundle k r e found early

-- by the three tests of an entry that was found
by_tests : (bundle : Bundle) (k : ℕ) (r : Reception) (bridge : ℕ) (e : Entry) → IsFound bundle k r e → (a b c : Bool) → (e.rx_port == r.port) ≡ a →
    is_received_in_red bundle k e r.local r.port ≡ b → is_late bundle e r.local ≡ c → IsAnswer bundle k true r bridge (action_by bundle r.local bridge
    (if not a then Err WrongPort else if not b then Err OutsideRx else if c then Err TooLate else Ok e))
by_tests bundle k r bridge e found false b c port red late =
    record { applies = (e, found.receives, eqb-false e.rx_port r.port port); first = before_wrong bundle k r e found }
by_tests bundle k r bridge e found true false c port red late = record {
  applies = (e, found.receives, λ is. true_not_false (is_received_in_red bundle k e r.local r.port) (red_test bundle k r e is) red);
  first = before_outside bundle k r e found (eqb-true e.rx_port r.port port);
}
by_tests bundle k r bridge e found true true true port red late =
    let entry = All-contains IsEntry bundle.frames.entries e (All-from_recursion IsEntry bundle.frames.entries found.valid.frames.each) found.receives.stands in
    record {
      applies = (e, found.receives, late_meaning bundle r e entry.tx late);
      first = before_late bundle k r e found (eqb-true e.rx_port r.port port) (red_meaning bundle k r e red);
    }
by_tests bundle k r bridge e found true true false port red late = record {
  none = no_cause bundle k r e found (eqb-true e.rx_port r.port port) (red_meaning bundle k r e red) late;
  e = e;
  receives = found.receives;
  relative = λ is. ap (λ (b : Bool). if b then r.local +ℤ pos bridge else pos e.send_offset) is;
  absolute = λ is. ap (λ (b : Bool). if b then r.local +ℤ pos bridge else pos e.send_offset) is;
  leaves = ports_bits e;
  kept = kept_bit e.tx;
}

by_entry : (bundle : Bundle) (k : ℕ) (r : Reception) (bridge : ℕ) → IsBundle bundle → (o : Option Entry) → entry_for bundle k r ≡ o →
    IsAnswer bundle k true r bridge (action_by bundle r.local bridge (taken_by bundle k r o))
by_entry bundle k r bridge valid None at = record {
  applies = λ e is. let some : Some e ≡ None = sym (received_entry bundle k r e valid is) ∙ at in absurd (cc);
  first = before_unknown;
}
  where
    before_unknown : (other : Cause) → rank_of other < 1 → ¬ Applies bundle k true r other
    before_unknown NotInStep below = not_out bundle k r
    before_unknown UnknownFrame below = absurd (omega arith)
    before_unknown WrongPort below = absurd (omega arith)
    before_unknown OutsideRx below = absurd (omega arith)
    before_unknown TooLate below = absurd (omega arith)
by_entry bundle k r bridge valid (Some e) at =
    let found : IsFound bundle k r e = record {
      valid = valid;
      receives = entry_received bundle k r e at;
      only = λ other is. same_Some other e (sym (received_entry bundle k r other valid is) ∙ at);
    } in
    by_tests bundle k r bridge e found (e.rx_port == r.port) (is_received_in_red bundle k e r.local r.port) (is_late bundle e r.local) refl refl refl

pub answered : (bundle : Bundle) (k : ℕ) (in_step : Bool) (r : Reception) (bridge : ℕ) → IsBundle bundle →
    IsAnswer bundle k in_step r bridge (action_of bundle k in_step r bridge)
answered bundle k false r bridge valid = record { applies = refl; first = λ other below. absurd (omega arith) }
answered bundle k true r bridge valid = by_entry bundle k r bridge valid (entry_for bundle k r) refl
