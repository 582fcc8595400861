-- How many events a cycle has at most.
use Rattle.std.proofs.Common.{◌≡◌, ℕ, zero, suc, ◌+◌, ◌≤◌, ◌==◌, ◌&&◌, Bool, true, false, cond, List, [], ◌∷◌, ◌++◌, length, map, find, take, get_or, Option, Some, None, option_and_then, slice_get, inl, inr, refl, sym, ◌∙◌, ap, subst, arith, All}
use Rattle.std.specs.List.{Contains, count_by, flat_map}
use Rattle.std.proofs.lemmas.Bool.{eqb-true, eq-eqb}
use Rattle.std.proofs.lemmas.Grind.{common_steps}
use Rattle.std.proofs.lemmas.List.Elements.{All-contains, All-take, Contains-append_left, Contains-append_right}
use Rattle.std.proofs.lemmas.Option.{same_Some}
use Rattle.irt_base.specs.declared.blocks.Entry.{Entry}
use Rattle.irt_base.specs.declared.blocks.FrameBlock.{FrameBlock}
use Rattle.plan_rules.specs.Way.{Setup, IsLive}
use Rattle.cycle_events.specs.declared.events.Event.{Event}
use Rattle.cycle_events.specs.declared.events.What.{What}
use Rattle.cycle_events.specs.declared.events.What.TheVariants.{Start, Arrive}
use Rattle.cycle_events.specs.Events.{Play, arrival_of, Happens, HappensAs, ports_in, causes}
use Rattle.cycle_events.specs.Places.{is_start, is_arrival, comes_to, EventPlace, At_port, At_device, is_at, places_of_entry, places_from, places}
use Rattle.cycle_events.specs.Run.{IsBegun}
use Rattle.cycle_rows.proofs.Lists.{Contains-here, Contains-later}
use Rattle.cycle_events.proofs.Facts.{Facts}
use Rattle.cycle_events.proofs.Lists.{map_has, counted_or_none}
use Rattle.cycle_events.proofs.Once.{starts_once, comes_once}
use Rattle.cycle_events.proofs.Tests.{ports_have}
use Rattle.cycle_events.proofs.Worklist.{IsRun, Contains-flat_map, length-le-places}

found_more : (frame : ℕ) (x : Entry) (xs : List Entry) (e : Entry) (b : Bool) → (x.frame.0 == frame) ≡ b →
    (find (λ (x : Entry). x.frame.0 == frame) xs ≡ Some e → (e.frame.0 ≡ frame) × Contains xs e) →
    cond b (Some x) (find (λ (x : Entry). x.frame.0 == frame) xs) ≡ Some e → (e.frame.0 ≡ frame) × Contains (x ∷ xs) e
found_more frame x xs e true t more h =
    let same : x ≡ e = same_Some x e h in
    (ap (λ (y : Entry). y.frame.0) (sym same) ∙ eqb-true x.frame.0 frame t, subst (Contains (x ∷ xs)) same (Contains-here x xs))
found_more frame x xs e false t more h = let (at, among) = more h in (at, Contains-later x xs e among)

found_entry : (frame : ℕ) (entries : List Entry) (e : Entry) → find (λ (x : Entry). x.frame.0 == frame) entries ≡ Some e → (e.frame.0 ≡ frame) × Contains entries e
found_entry frame [] e is = absurd (cc)
found_entry frame (x ∷ xs) e is = found_more frame x xs e (x.frame.0 == frame) refl (found_entry frame xs e) is

later_places : (blocks : List FrameBlock) (n d : ℕ) (b : FrameBlock) (x : EventPlace) → slice_get blocks d ≡ Some b → Contains (flat_map (places_of_entry (n + d)) b.entries) x →
    Contains (places_from n blocks) x
later_places [] n d b x is among = absurd (cc)
later_places (c ∷ blocks) n zero b x is among =
    let same : c ≡ b = same_Some c b is in
    let here : Contains (flat_map (places_of_entry n) b.entries) x = subst (λ m. Contains (flat_map (places_of_entry m) b.entries) x) (omega arith) among in
    Contains-append_left (flat_map (places_of_entry n) c.entries) (places_from (n + 1) blocks) x (subst (λ (y : FrameBlock). Contains (flat_map (places_of_entry n) y.entries) x) (sym same) here)
later_places (c ∷ blocks) n (suc d) b x is among =
    Contains-append_right (flat_map (places_of_entry n) c.entries) (places_from (n + 1) blocks) x
    (later_places blocks (n + 1) d b x is (subst (λ m. Contains (flat_map (places_of_entry m) b.entries) x) (omega arith) among))

entry_place : (setup : Setup) (d f : ℕ) (e : Entry) (x : EventPlace) → Contains (places_of_entry d e) x → (o : Option FrameBlock) → slice_get setup.blocks d ≡ o →
    option_and_then (λ (block : FrameBlock). find (λ (e : Entry). e.frame.0 == f) block.entries) o ≡ Some e → Contains (places setup) x
entry_place setup d f e x among None is found = absurd (cc)
entry_place setup d f e x among (Some b) is found =
    later_places setup.blocks 0 d b x is
    (subst (λ m. Contains (flat_map (places_of_entry m) b.entries) x) (omega arith)
    (Contains-flat_map (places_of_entry d) b.entries e x (found_entry f b.entries e found).1 among))

-- ---- the place of an event

abbrev pub place_as : Event → What → EventPlace
place_as h Start = At_port h.device.0 h.port.0 h.frame.0
place_as h Arrive = At_device h.device.0 h.frame.0

abbrev pub place_of : Event → EventPlace
place_of h = place_as h h.what

all_equal : {b : Bool} → b ≡ true → (d p f : ℕ) → (b && ((d == d) && ((p == p) && (f == f)))) ≡ true
all_equal h d p f = rw (h, eq-eqb d d refl, eq-eqb p p refl, eq-eqb f f refl) refl

two_equal : {b : Bool} → b ≡ true → (d f : ℕ) → (b && ((d == d) && (f == f))) ≡ true
two_equal h d f = rw (h, eq-eqb d d refl, eq-eqb f f refl) refl

at_place_as : (h : Event) (what : What) → h.what ≡ what → is_at (place_as h what) h ≡ true
at_place_as h Start what = all_equal (ap is_start what) h.device.0 h.port.0 h.frame.0
at_place_as h Arrive what = two_equal (ap is_arrival what) h.device.0 h.frame.0

pub at_place : (h : Event) → is_at (place_of h) h ≡ true
at_place h = at_place_as h h.what refl

-- what happens has a place of the plan
has_place : (play : Play) → Facts play → (h : Event) (what : What) → HappensAs play h what → Contains (places play.setup) (place_as h what)
has_place play facts h Start sent =
    let named = (facts.entries h.device.0 h.frame.0 sent.entry sent.stands).named in
    let ports = (facts.entries h.device.0 h.frame.0 sent.entry sent.stands).ports in
    entry_place play.setup h.device.0 h.frame.0 sent.entry (At_port h.device.0 h.port.0 h.frame.0)
    (Contains-later (At_device h.device.0 sent.entry.frame.0) _ (At_port h.device.0 h.port.0 h.frame.0)
    (subst (λ f. Contains (map (λ port. At_port h.device.0 port sent.entry.frame.0) (ports_in sent.entry.tx)) (At_port h.device.0 h.port.0 f)) named
    (map_has (λ port. At_port h.device.0 port sent.entry.frame.0) (ports_in sent.entry.tx) h.port.0 (ports_have sent.entry h.port.0 (ports h.port.0 sent.leaves) sent.leaves))))
    (slice_get play.setup.blocks h.device.0) refl sent.stands
has_place play facts h Arrive (from, is) =
    let m = facts.met play.row from (arrival_of play h) is in
    let named = (facts.entries h.device.0 h.frame.0 m.e m.stands).named in
    entry_place play.setup h.device.0 h.frame.0 m.e (At_device h.device.0 h.frame.0)
    (subst (λ f. Contains (places_of_entry h.device.0 m.e) (At_device h.device.0 f)) named (Contains-here (At_device h.device.0 m.e.frame.0) _))
    (slice_get play.setup.blocks h.device.0) refl m.stands

-- ---- each place at most once

and_first_true : (a b : Bool) → (a && b) ≡ true → a ≡ true
and_first_true true b h = refl
and_first_true false b h = absurd (cc)

and_second_true : (a b : Bool) → (a && b) ≡ true → b ≡ true
and_second_true true b h = h
and_second_true false b h = absurd (cc)

take_front : {X : Type 0} (xs ys : List X) → take (length xs) (xs ++ ys) ≡ xs
take_front xs ys = grind (arith, common_steps)

pub All-front : {X : Type 0} (P : X → Type 0) (xs ys : List X) → All P (xs ++ ys) → All P xs
All-front P xs ys each = subst (All P) (take_front xs ys) (All-take P (length xs) (xs ++ ys) each)

module _ (play : Play) (facts : Facts play) (first handled waiting : List Event) (begun : IsBegun play first) (run : IsRun first (causes play) handled waiting)
    (happen : All (Happens play) (handled ++ waiting)) where
  before : All (Happens play) handled
  before = All-front (Happens play) handled waiting happen

  came_once : (device frame : ℕ) (h : Event) → HappensAs play h Arrive → h.device.0 ≡ device → h.frame.0 ≡ frame → count_by (comes_to device frame) (handled ++ waiting) ≤ 1
  came_once device frame h (from, is) devices frames =
      let m = facts.met play.row from (arrival_of play h) is in
      let came = comes_once play facts first handled waiting begun run before h.frame.0 h.device.0 m.e is.sender is.port m.stands m.comes in
      let once = starts_once play facts first handled waiting begun run before h.frame.0 is.sender is.live is.port in
      let here : count_by (comes_to h.device.0 h.frame.0) (handled ++ waiting) ≤ 1 = omega arith in
      subst (λ x. count_by (comes_to device x) (handled ++ waiting) ≤ 1) frames (subst (λ x. count_by (comes_to x h.frame.0) (handled ++ waiting) ≤ 1) devices here)

  place_once : (c : EventPlace) (h : Event) (what : What) → HappensAs play h what → h.what ≡ what → is_at c h ≡ true → count_by (is_at c) (handled ++ waiting) ≤ 1
  place_once (At_port d p f) h Start sent what at =
      let rest = and_second_true (is_start h.what) ((h.device.0 == d) && ((h.port.0 == p) && (h.frame.0 == f))) at in
      let device = eqb-true h.device.0 d (and_first_true (h.device.0 == d) ((h.port.0 == p) && (h.frame.0 == f)) rest) in
      let last = and_second_true (h.device.0 == d) ((h.port.0 == p) && (h.frame.0 == f)) rest in
      let frame = eqb-true h.frame.0 f (and_second_true (h.port.0 == p) (h.frame.0 == f) last) in
      starts_once play facts first handled waiting begun run before f d
      (subst (λ x. IsLive play.setup play.row x d) frame (subst (IsLive play.setup play.row h.frame.0) device sent.live)) p
  place_once (At_port d p f) h Arrive is what at =
      absurd (let e = ap is_start what in let t = and_first_true (is_start h.what) _ at in cc)
  place_once (At_device d f) h Start is what at =
      absurd (let e = ap is_arrival what in let t = and_first_true (is_arrival h.what) _ at in cc)
  place_once (At_device d f) h Arrive is what at =
      let rest = and_second_true (is_arrival h.what) ((h.device.0 == d) && (h.frame.0 == f)) at in
      came_once d f h is (eqb-true h.device.0 d (and_first_true (h.device.0 == d) (h.frame.0 == f) rest)) (eqb-true h.frame.0 f (and_second_true (h.device.0 == d) (h.frame.0 == f) rest))

  pub each_place_once : (c : EventPlace) → count_by (is_at c) (handled ++ waiting) ≤ 1
  each_place_once c = elim (counted_or_none (is_at c) (handled ++ waiting)) [
    | inl none ↦ omega arith
    | inr (x, among, at) ↦ place_once c x x.what (All-contains (Happens play) (handled ++ waiting) x happen among) refl at
  ]

  -- What was handled and what waits are no more than the places of the plan.
  pub length-le-plan : length (handled ++ waiting) ≤ length (places play.setup)
  length-le-plan =
      length-le-places is_at (places play.setup) (handled ++ waiting)
      (λ n d below.
      let h = get_or (handled ++ waiting) n d in
      (place_of h, has_place play facts h h.what (happen n d below), at_place h))
      (λ n d below. each_place_once (get_or (places play.setup) n d))
