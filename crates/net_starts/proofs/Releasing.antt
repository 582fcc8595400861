-- The starts of what a device releases, one frame after the other.
use Rattle.std.proofs.Common.{◌≡◌, ℕ, ◌+◌, ◌≤◌, ◌<◌, List, [], ◌∷◌, ◌++◌, length, drop, Some, None, slice_get, refl, sym, ◌∙◌, ap, subst, arith, append_assoc, append-nil, length-append, All}
use Rattle.std.specs.Prelude.{ℤ, ◌+ℤ◌}
use Rattle.std.specs.List.{Contains}
use Rattle.std.specs.List.Sorted.{IsPermutation}
use Rattle.std.proofs.lemmas.List.Concat.{flat_map-append}
use Rattle.std.proofs.lemmas.List.Elements.{All-contains, Contains-append_right}
use Rattle.std.proofs.lemmas.List.Sorted.{IsPermutation-refl, IsPermutation-trans, IsPermutation-append_left, IsPermutation-append_right, IsPermutation-append_comm}
use Rattle.std.proofs.lemmas.Option.{same_Some}
use Rattle.irt_switch.specs.declared.action.Outgoing.{Outgoing}
use Rattle.irt_switch.specs.State.{SwitchState}
use Rattle.cycle_events.specs.declared.events.Event.{Event}
use Rattle.cycle_events.specs.declared.events.What.TheVariants.{Start}
use Rattle.cycle_events.specs.Events.{event}
use Rattle.event_queue.specs.Waiting.{Waiting}
use Rattle.switch_events.specs.Answered.{starts_of}
use Rattle.net_starts.specs.Released.{starts_from}

-- Some were released, the others are left.
pub record IsReleasing (begin : ℤ) (device : ℕ) (all left : List Outgoing) (before after : Waiting) : Type 0 where
  pub done : List Outgoing
  pub split : all ≡ done ++ left
  pub put : IsPermutation (starts_from begin device done ++ before.events) after.events
  pub room : before.room ≤ after.room + length (starts_from begin device done)

abbrev out_starts : ℤ → ℕ → Outgoing → List Event
out_starts begin device o = starts_of (begin +ℤ o.at) device o.frame.0 o.ports

first_and_rest : (xs : List Outgoing) (o : Outgoing) → slice_get xs 0 ≡ Some o → xs ≡ o ∷ drop 1 xs
first_and_rest [] o is = absurd (cc)
first_and_rest (x ∷ xs) o is = let same = same_Some x o is in λ i. same i ∷ xs

none_left : (xs : List Outgoing) → slice_get xs 0 ≡ None → xs ≡ []
none_left [] is = refl
none_left (x ∷ xs) is = absurd (cc)

pub releasing_begins : (begin : ℤ) (device : ℕ) (all : List Outgoing) (before : Waiting) → IsReleasing begin device all all before before
releasing_begins begin device all before =
    record { done = []; split = refl; put = IsPermutation-refl before.events; room = omega arith }

-- the starts of those released, with one more
more_starts : (begin : ℤ) (device : ℕ) (done : List Outgoing) (o : Outgoing) → starts_from begin device (done ++ o ∷ []) ≡ starts_from begin device done ++ out_starts begin device o
more_starts begin device done o =
    flat_map-append (out_starts begin device) done (o ∷ []) ∙ ap (λ ys. starts_from begin device done ++ ys) (append-nil (out_starts begin device o))

pub releasing_goes_on : (begin : ℤ) (device : ℕ) (all left : List Outgoing) (before mid after : Waiting) (o : Outgoing) → IsReleasing begin device all left before mid →
    slice_get left 0 ≡ Some o → IsPermutation (out_starts begin device o ++ mid.events) after.events → mid.room ≤ after.room + length (out_starts begin device o) →
    IsReleasing begin device all (drop 1 left) before after
releasing_goes_on begin device all left before mid after o h first put room =
    let A : List Event = starts_from begin device h.done in
    let B : List Event = out_starts begin device o in
    let shape : starts_from begin device (h.done ++ o ∷ []) ≡ A ++ B = more_starts begin device h.done o in
    let one : IsPermutation ((A ++ B) ++ before.events) ((B ++ A) ++ before.events) = IsPermutation-append_left before.events (A ++ B) (B ++ A) (IsPermutation-append_comm A B) in
    let two : IsPermutation (B ++ (A ++ before.events)) (B ++ mid.events) = IsPermutation-append_right B (A ++ before.events) mid.events h.put in
    let three : IsPermutation ((B ++ A) ++ before.events) (B ++ mid.events) = subst (λ ys. IsPermutation ys (B ++ mid.events)) (sym (append_assoc B A before.events)) two in
    let all_put : IsPermutation ((A ++ B) ++ before.events) after.events = IsPermutation-trans _ _ _ one (IsPermutation-trans _ _ _ three put) in
    let joined = length-append A B in
    let counted : length (starts_from begin device (h.done ++ o ∷ [])) ≡ length A + length B = ap length shape ∙ joined in
    let old = h.room in
    record {
      done = h.done ++ o ∷ [];
      split = h.split ∙ (ap (λ ys. h.done ++ ys) (first_and_rest left o first) ∙ sym (append_assoc h.done (o ∷ []) (drop 1 left)));
      put = subst (λ ys. IsPermutation (ys ++ before.events) after.events) (sym shape) all_put;
      room = omega arith;
    }

pub releasing_fits : (begin : ℤ) (device : ℕ) (all left : List Outgoing) (before mid : Waiting) (o : Outgoing) → IsReleasing begin device all left before mid →
    slice_get left 0 ≡ Some o → length (starts_from begin device all) ≤ before.room → length (out_starts begin device o) ≤ mid.room
releasing_fits begin device all left before mid o h first fits =
    let A : List Event = starts_from begin device h.done in
    let B : List Event = out_starts begin device o in
    let C : List Event = starts_from begin device (drop 1 left) in
    let whole : starts_from begin device all ≡ A ++ (B ++ C) =
    ap (starts_from begin device) (h.split ∙ ap (λ ys. h.done ++ ys) (first_and_rest left o first)) ∙ flat_map-append (out_starts begin device) h.done (o ∷ drop 1 left) in
    let outer = length-append A (B ++ C) in
    let inner = length-append B C in
    let counted = ap length whole in
    let old = h.room in
    omega arith

pub releasing_among : (begin : ℤ) (device : ℕ) (all left : List Outgoing) (before mid : Waiting) (o : Outgoing) (P : Outgoing → Type 0) → IsReleasing begin device all left before mid →
    slice_get left 0 ≡ Some o → All P all → P o
releasing_among begin device all left before mid o P h first each =
    let among : Contains (h.done ++ (o ∷ drop 1 left)) o = Contains-append_right h.done (o ∷ drop 1 left) o (0, omega arith, refl) in
    All-contains P all o each
    (subst (λ ys. Contains ys o) (sym (h.split ∙ ap (λ ys. h.done ++ ys) (first_and_rest left o first))) among)

pub releasing_ends : (begin : ℤ) (device : ℕ) (all left : List Outgoing) (before after : Waiting) → IsReleasing begin device all left before after → slice_get left 0 ≡ None →
    IsPermutation (starts_from begin device all ++ before.events) after.events × (before.room ≤ after.room + length (starts_from begin device all)) × (left ≡ [])
releasing_ends begin device all left before after h none =
    let empty = none_left left none in
    let whole : all ≡ h.done = h.split ∙ (ap (λ ys. h.done ++ ys) empty ∙ append-nil h.done) in (
      subst (λ xs. IsPermutation (starts_from begin device xs ++ before.events) after.events) (sym whole) h.put,
      subst (λ xs. before.room ≤ after.room + length (starts_from begin device xs)) (sym whole) h.room,
      empty,
    )

-- as the code puts the starts in: those of one event
pub releasing_put : (begin : ℤ) (device : ℕ) (all left more : List Outgoing) (before mid after : Waiting) (o : Outgoing) (start : Event) → IsReleasing begin device all left before mid →
    Some o ≡ slice_get left 0 → more ≡ drop 1 left → start ≡ event (begin +ℤ o.at) device 0 o.frame.0 Start →
    IsPermutation (starts_of start.at start.device.0 start.frame.0 o.ports ++ mid.events) after.events → mid.room ≤ after.room + length (starts_of start.at start.device.0 start.frame.0 o.ports) →
    IsReleasing begin device all more before after
releasing_put begin device all left more before mid after o start h first rest is put room =
    subst (λ xs. IsReleasing begin device all xs before after) (sym rest)
    (releasing_goes_on begin device all left before mid after o h (sym first)
    (subst (λ (s : Event). IsPermutation (starts_of s.at s.device.0 s.frame.0 o.ports ++ mid.events) after.events) is put)
    (subst (λ (s : Event). mid.room ≤ after.room + length (starts_of s.at s.device.0 s.frame.0 o.ports)) is room))

pub releasing_room : (begin : ℤ) (device : ℕ) (all left : List Outgoing) (before mid : Waiting) (o : Outgoing) (start : Event) → IsReleasing begin device all left before mid →
    Some o ≡ slice_get left 0 → start ≡ event (begin +ℤ o.at) device 0 o.frame.0 Start → length (starts_from begin device all) ≤ before.room →
    length (starts_of start.at start.device.0 start.frame.0 o.ports) ≤ mid.room
releasing_room begin device all left before mid o start h first is fits =
    subst (λ (s : Event). length (starts_of s.at s.device.0 s.frame.0 o.ports) ≤ mid.room) (sym is) (releasing_fits begin device all left before mid o h (sym first) fits)

pub shorter : (left more : List Outgoing) (o : Outgoing) → Some o ≡ slice_get left 0 → more ≡ drop 1 left → length more < length left
shorter [] more o first rest = absurd (cc)
shorter (x ∷ xs) more o first rest = let same = ap length rest in omega arith

-- only what is left changes
pub kept : (old mid new : SwitchState) (left : List Outgoing) → mid ≡ record old { left = mid.left } → new ≡ record mid { left = left } → new ≡ record old { left = new.left }
kept old mid new left before is =
    is ∙ (ap (λ (s : SwitchState). record s { left = left }) before ∙ ap (λ l. record old { left = l }) (sym (ap (λ (s : SwitchState). s.left) is)))
