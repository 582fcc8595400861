-- What the devices release is what a run begins with.
use Rattle.std.proofs.Common.{◌≡◌, ◌≢◌, ℕ, zero, suc, ◌+◌, ◌≤◌, ◌<◌, ◌==◌, ◌&&◌, Bool, true, false, cond, List, [], ◌∷◌, length, map, find, Option, Some, None, option_map, option_and_then, slice_get, inl, inr, refl, sym, ◌∙◌, ap, subst, arith, AllPairs, IsBitSet}
use Rattle.std.specs.Prelude.{ℤ}
use Rattle.std.specs.List.{Contains, count_by}
use Rattle.std.proofs.lemmas.Bool.{cases_eq, eq-eqb, ne_eqb}
use Rattle.std.proofs.lemmas.Int.{ints}
use Rattle.std.proofs.lemmas.List.Elements.{All-contains, Contains-append_left, Contains-append_right, Contains-append_cases}
use Rattle.std.proofs.lemmas.List.Sums.{sum_by-append}
use Rattle.std.proofs.lemmas.Option.{same_Some, slice_get-map, slice_get_within, slice_get_cases, get_or_from_slice_get}
use Rattle.irt_base.specs.Valid.{IsBundle}
use Rattle.irt_base.specs.declared.blocks.Bundle.{Bundle}
use Rattle.irt_base.specs.declared.blocks.Entry.{Entry}
use Rattle.irt_base.specs.declared.blocks.FrameBlock.{FrameBlock}
use Rattle.irt_base.specs.declared.plants.Plant.{Plant}
use Rattle.plan_rules.specs.Network.{EntriesAreDemanded, IsSentAt}
use Rattle.plan_rules.specs.Once.{StartsOnce}
use Rattle.plan_rules.specs.Plan.{IsPlan, setup_of}
use Rattle.plan_rules.specs.Way.{Setup, entry_at, IsLive, provided, forwarded}
use Rattle.plan_rules.specs.World.{WorldRow, IsInStep, is_in_step}
use Rattle.irt_switch.specs.declared.action.Outgoing.{Outgoing}
use Rattle.irt_switch.specs.Begin.{IsToRelease}
use Rattle.irt_switch.specs.Release.{IsReleased, IsReleasedBefore, IsReleaseList, outgoing_of}
use Rattle.irt_switch.specs.Played.{true_time}
use Rattle.irt_switch.proofs.Bits.{ports_bits}
use Rattle.irt_switch.proofs.Finding.{AreAscending, ascending, tail_up}
use Rattle.irt_switch.proofs.Played.{block_entry}
use Rattle.cycle_events.specs.declared.events.Event.{Event}
use Rattle.cycle_events.specs.declared.events.What.TheVariants.{Start}
use Rattle.cycle_events.specs.Events.{Play, IsFirst, ports_in, event}
use Rattle.cycle_events.specs.Places.{starts_by}
use Rattle.cycle_events.specs.Run.{play_of, IsBegun}
use Rattle.cycle_rows.proofs.Lists.{nothing, Contains-here, Contains-later, Contains-cases, AllPairs-head, AllPairs-tail, AllPairs-then, all_of}
use Rattle.cycle_events.proofs.Lists.{map_has}
use Rattle.cycle_events.proofs.Once.{starts_counted}
use Rattle.cycle_events.proofs.Tests.{step_passed, step_true, ports_have, ports_leave}
use Rattle.cycle_events.proofs.Worklist.{Contains-flat_map, from_flat_map}
use Rattle.switch_events.specs.Answered.{starts_of, true_of}
use Rattle.switch_events.specs.Released.{starts_released, first_from, AreReleased}

-- ---- the entry of a frame in a block

find_own : (xs : List Entry) → AreAscending xs → (e : Entry) → Contains xs e → find (λ (x : Entry). x.frame.0 == e.frame.0) xs ≡ Some e
find_own [] up e is = absurd (nothing e is)
find_own (x ∷ xs) up e is = elim (Contains-cases x xs e is) [
  | inl same ↦
      subst (λ (y : Entry). cond (x.frame.0 == y.frame.0) (Some x) (find (λ (z : Entry). z.frame.0 == y.frame.0) xs) ≡ Some y) same
      (rw (eq-eqb x.frame.0 x.frame.0 refl) refl)
  | inr later ↦
      let less = All-contains (λ (y : Entry). x.frame.0 < y.frame.0) xs e (AllPairs-head (λ (a b : Entry). a.frame.0 < b.frame.0) x xs up) later in
      let other : (x.frame.0 == e.frame.0) ≡ false = ne_eqb x.frame.0 e.frame.0 (λ same. absurd (omega (arith, less, same))) in
      rw other (find_own xs (tail_up x xs up) e later)
]

from_map : {X Y : Type 0} (f : X → Y) (xs : List X) (y : Y) → Contains (map f xs) y → (x : X) × Contains xs x × (f x ≡ y)
from_map f [] y is = absurd (nothing y is)
from_map f (x ∷ xs) y is = elim (Contains-cases (f x) (map f xs) y is) [
  | inl same ↦ (x, Contains-here x xs, same)
  | inr later ↦ let (z, among, equal) = from_map f xs y later in (z, Contains-later x xs z among, equal)
]

live_in_step : (setup : Setup) (row : WorldRow) (frame device : ℕ) → IsLive setup row frame device → IsInStep setup.plant row device
live_in_step setup row frame _ (provided device e at own step) = step
live_in_step setup row frame _ (forwarded device e parent port at comes live uncut step) = step

-- an entry with these ports alone
abbrev with_ports : Entry → ℕ → Entry
with_ports e ports = record e { tx = ports }

-- it is not released before itself
not_itself : (a : Outgoing) → IsReleasedBefore a a → ⊥
not_itself a (inl less) = omega (arith, ints, less)
not_itself a (inr both) = let less = both.1 in omega (arith, less)

some_at : {A : Type 0} (xs : List A) (k : ℕ) → k < length xs → (x : A) × (slice_get xs k ≡ Some x)
some_at xs k below = elim (slice_get_cases xs k).1 [
  | inl (x, within, is, same) ↦ (x, is)
  | inr (past, none) ↦ absurd (omega arith)
]

-- the blocks of a device that has an entry
some_bundle : (bundles : List Bundle) (device : ℕ) (o : Option Bundle) (f : FrameBlock → Option Entry) (e : Entry) → slice_get bundles device ≡ o →
    option_and_then f (option_map (λ (b : Bundle). b.frames) o) ≡ Some e → (b : Bundle) × (slice_get bundles device ≡ Some b)
some_bundle bundles device None f e at is = absurd (cc)
some_bundle bundles device (Some b) f e at is = (b, at)

module _ (plant : Plant) (bundles : List Bundle) (plan : IsPlan plant bundles) (row : WorldRow) (k : ℕ)
    (entries : EntriesAreDemanded (setup_of plant bundles)) (starts : StartsOnce (setup_of plant bundles) row k)
    (started : (device port : ℕ) (bundle : Bundle) (o : Outgoing) → slice_get bundles device ≡ Some bundle → IsInStep plant row device → IsReleased bundle k o → IsBitSet o.ports port →
    IsSentAt (setup_of plant bundles) row k device port o.frame.0 (true_time plant row k device o.at))
    (all_started : (device port frame : ℕ) (start : ℤ) (bundle : Bundle) → slice_get bundles device ≡ Some bundle →
    (s : IsSentAt (setup_of plant bundles) row k device port frame start) → s.entry.rx_port ≡ 0 → IsReleased bundle k (outgoing_of s.entry)) where
  abbrev play : Play
  play = play_of plant bundles row k

  bundle_of : (device frame : ℕ) (e : Entry) → entry_at (setup_of plant bundles) device frame ≡ Some e → (b : Bundle) × (slice_get bundles device ≡ Some b)
  bundle_of device frame e at =
      some_bundle bundles device (slice_get bundles device) (λ (block : FrameBlock). find (λ (x : Entry). x.frame.0 == frame) block.entries) e refl
      (subst (λ o. option_and_then (λ (block : FrameBlock). find (λ (x : Entry). x.frame.0 == frame) block.entries) o ≡ Some e) (slice_get-map (λ (b : Bundle). b.frames) bundles device) at)

  own_entry : (device : ℕ) (b : Bundle) → slice_get bundles device ≡ Some b → (e : Entry) → Contains b.frames.entries e → entry_at (setup_of plant bundles) device e.frame.0 ≡ Some e
  own_entry device b held e is =
      let valid = subst IsBundle (get_or_from_slice_get bundles device b b held) (plan.blocks device b (slice_get_within bundles device b held)) in
      block_entry plant bundles device e.frame.0 b held ∙ find_own b.frames.entries (ascending b.frames.entries valid.frames.ascending) e is

  -- ---- what is released is a first event

  released_first : (device : ℕ) (b : Bundle) → slice_get bundles device ≡ Some b → IsInStep plant row device → (o : Outgoing) → IsReleased b k o → (port : ℕ) → Contains (ports_in o.ports) port →
      IsFirst play (event (true_of play device o.at) device port o.frame.0 Start)
  released_first device b held step o is port among =
      let set = (ports_leave (with_ports is.e o.ports) port among).bit in
      let sent = started device port b o held step is set in
      let frame : o.frame.0 ≡ is.e.frame.0 = ap (λ (x : Outgoing). x.frame.0) is.is in
      let mine : entry_at (setup_of plant bundles) device o.frame.0 ≡ Some is.e =
      subst (λ n. entry_at (setup_of plant bundles) device n ≡ Some is.e) (sym frame) (own_entry device b held is.e is.stands) in
      record { start = refl; sent = sent; own = ap (λ (x : Entry). x.rx_port) (same_Some sent.entry is.e (sym sent.stands ∙ mine)) ∙ is.provided }

  list_first : (device : ℕ) (b : Bundle) → slice_get bundles device ≡ Some b → (s : Bool) → is_in_step play.setup.plant play.row device ≡ s → (list : List Outgoing) → IsToRelease b k s list →
      (x : Event) → Contains (starts_released play device list) x → IsFirst play x
  list_first device b held false step list none x is =
      absurd (nothing x (subst (λ l. Contains (starts_released play device l) x) none is))
  list_first device b held true step list exactly x is =
      let (o, among, gives) = from_flat_map (λ (o : Outgoing). starts_of (true_of play device o.at) device o.frame.0 o.ports) list x is in
      let (port, has, same) = from_map (λ port. event (true_of play device o.at) device port o.frame.0 Start) (ports_in o.ports) x gives in
      subst (IsFirst play) same (released_first device b held (step_passed play device step) o ((exactly.exactly o).0 among) port has)

  lists_first : (lists : List (List Outgoing)) (n : ℕ) → ((d : ℕ) (b : Bundle) (list : List Outgoing) → slice_get bundles (n + d) ≡ Some b → slice_get lists d ≡ Some list →
      IsToRelease b k (is_in_step play.setup.plant play.row (n + d)) list) → n + length lists ≤ length bundles → (x : Event) → Contains (first_from play n lists) x → IsFirst play x
  lists_first [] n each fits x is = absurd (nothing x is)
  lists_first (list ∷ lists) n each fits x is = elim (Contains-append_cases (starts_released play n list) (first_from play (n + 1) lists) x is) [
    | inl here ↦
        let (b, held) = some_at bundles n (omega arith) in
        let zero_more : n + 0 ≡ n = omega arith in
        let to_release : IsToRelease b k (is_in_step play.setup.plant play.row n) list =
        subst (λ m. IsToRelease b k (is_in_step play.setup.plant play.row m) list) zero_more (each 0 b list (subst (λ m. slice_get bundles m ≡ Some b) (sym zero_more) held) refl) in
        list_first n b held (is_in_step play.setup.plant play.row n) refl list to_release x here
    | inr later ↦
        lists_first lists (n + 1) (λ d b l held at.
        let same : n + 1 + d ≡ n + suc d = omega arith in
        subst (λ m. IsToRelease b k (is_in_step play.setup.plant play.row m) l) (sym same) (each (suc d) b l (subst (λ m. slice_get bundles m ≡ Some b) same held) at))
        (omega arith) x later
  ]

  -- ---- each first event is released

  list_at : (lists : List (List Outgoing)) (n d : ℕ) (list : List Outgoing) (x : Event) → slice_get lists d ≡ Some list → Contains (starts_released play (n + d) list) x →
      Contains (first_from play n lists) x
  list_at [] n d list x at is = absurd (cc)
  list_at (l ∷ lists) n zero list x at is =
      let same = same_Some l list at in
      let zero_more : n + 0 ≡ n = omega arith in
      Contains-append_left (starts_released play n l) (first_from play (n + 1) lists) x
      (subst (λ y. Contains (starts_released play n y) x) (sym same) (subst (λ m. Contains (starts_released play m list) x) zero_more is))
  list_at (l ∷ lists) n (suc d) list x at is =
      let same : n + suc d ≡ n + 1 + d = omega arith in
      Contains-append_right (starts_released play n l) (first_from play (n + 1) lists) x
      (list_at lists (n + 1) d list x at (subst (λ m. Contains (starts_released play m list) x) same is))

  -- what starts here is among the starts of what is released
  among_released : (b : Bundle) (list : List Outgoing) (s : Bool) → s ≡ true → IsToRelease b k s list → (o : Outgoing) → IsReleased b k o → Contains list o
  among_released b list true step exactly o is = (exactly.exactly o).1 is
  among_released b list false step none o is = absurd (cc)

  first_released : (lists : List (List Outgoing)) → AreReleased bundles play lists → (device port frame : ℕ) (at : ℤ) → (s : IsSentAt (setup_of plant bundles) row k device port frame at) →
      s.entry.rx_port ≡ 0 → Contains (first_from play 0 lists) (event at device port frame Start)
  first_released lists released device port frame at s own =
      let (b, held) = bundle_of device frame s.entry s.stands in
      let within = slice_get_within bundles device b held in
      let (list, there) = some_at lists device (omega (arith, within, released.count)) in
      let step = live_in_step (setup_of plant bundles) row frame device s.live in
      let known = entries device frame s.entry s.stands in
      let o = outgoing_of s.entry in
      let is : IsReleased b k o = all_started device port frame at b held s own in
      let has = among_released b list (is_in_step play.setup.plant play.row device) (step_true play device step) (released.each device b list held there) o is in
      let set : IsBitSet o.ports port = (ports_bits s.entry port).1 s.leaves in
      let sent = started device port b o held step is set in
      let named : o.frame.0 ≡ frame = known.named in
      let also : IsSentAt (setup_of plant bundles) row k device port frame (true_of play device o.at) =
      subst (λ f. IsSentAt (setup_of plant bundles) row k device port f (true_of play device o.at)) named sent in
      let one = starts device frame s.live in
      let time : true_of play device o.at ≡ at = one.only (true_of play device o.at) also.starts ∙ sym (one.only at s.starts) in
      let port_in : Contains (ports_in o.ports) port = ports_have (with_ports s.entry o.ports) port (known.ports port s.leaves) (record { from_one = s.leaves.from_one; bit = set }) in
      let mine : Contains (starts_released play device list) (event (true_of play device o.at) device port o.frame.0 Start) =
      Contains-flat_map (λ (o : Outgoing). starts_of (true_of play device o.at) device o.frame.0 o.ports) list o (event (true_of play device o.at) device port o.frame.0 Start) has
      (map_has (λ port. event (true_of play device o.at) device port o.frame.0 Start) (ports_in o.ports) port port_in) in
      let no_more : device ≡ 0 + device = omega arith in
      let all = list_at lists 0 device list (event (true_of play device o.at) device port o.frame.0 Start) there
      (subst (λ m. Contains (starts_released play m list) (event (true_of play device o.at) device port o.frame.0 Start)) no_more mine) in
      subst (λ f. Contains (first_from play 0 lists) (event at device port f Start)) named
      (subst (λ t. Contains (first_from play 0 lists) (event t device port o.frame.0 Start)) time all)

  -- ---- each once

  frames_differ : (device : ℕ) (b : Bundle) → slice_get bundles device ≡ Some b → (list : List Outgoing) → IsReleaseList b k list → AllPairs (λ (x y : Outgoing). x.frame.0 ≢ y.frame.0) list
  frames_differ device b held list exactly =
      AllPairs-then IsReleasedBefore (λ (x y : Outgoing). x.frame.0 ≢ y.frame.0) list exactly.sorted (λ x y is also before same.
      let first = (exactly.exactly x).0 is in
      let second = (exactly.exactly y).0 also in
      let frames : first.e.frame.0 ≡ second.e.frame.0 = sym (ap (λ (o : Outgoing). o.frame.0) first.is) ∙ same ∙ ap (λ (o : Outgoing). o.frame.0) second.is in
      let at = own_entry device b held first.e first.stands in
      let there : entry_at (setup_of plant bundles) device first.e.frame.0 ≡ Some second.e =
      subst (λ n. entry_at (setup_of plant bundles) device n ≡ Some second.e) (sym frames) (own_entry device b held second.e second.stands) in
      let entry = same_Some first.e second.e (sym at ∙ there) in
      let equal : x ≡ y = first.is ∙ (ap outgoing_of entry ∙ sym second.is) in
      not_itself y (subst (λ z. IsReleasedBefore z y) equal before))

  out_counted : (device : ℕ) (o : Outgoing) (d p f : ℕ) → count_by (starts_by d p f) (starts_of (true_of play device o.at) device o.frame.0 o.ports) ≤ cond ((device == d) && (o.frame.0 == f)) 1 0
  out_counted device o d p f = starts_counted (true_of play device o.at) device o.frame.0 d p f o.ports

  and_second_no : (a b : Bool) → b ≡ false → cond {A = ℕ} (a && b) 1 0 ≡ 0
  and_second_no true b h = ap (λ x. cond {A = ℕ} x 1 0) h
  and_second_no false b h = refl

  at_most_first : (a b : Bool) → cond {A = ℕ} (a && b) 1 0 ≤ cond a 1 0
  at_most_first true true = omega arith
  at_most_first true false = omega arith
  at_most_first false b = omega arith

  none_counted : (device : ℕ) (list : List Outgoing) (d p f : ℕ) → ((o : Outgoing) → Contains list o → o.frame.0 ≢ f) → count_by (starts_by d p f) (starts_released play device list) ≡ 0
  none_counted device [] d p f other = refl
  none_counted device (o ∷ list) d p f other =
      let here = out_counted device o d p f in
      let none = and_second_no (device == d) (o.frame.0 == f) (ne_eqb o.frame.0 f (other o (Contains-here o list))) in
      let more = none_counted device list d p f (λ x is. other x (Contains-later o list x is)) in
      let whole = sum_by-append (λ x. cond (starts_by d p f x) 1 0) (starts_of (true_of play device o.at) device o.frame.0 o.ports) (starts_released play device list) in
      omega arith

  list_counted : (device : ℕ) (list : List Outgoing) (d p f : ℕ) → AllPairs (λ (x y : Outgoing). x.frame.0 ≢ y.frame.0) list →
      count_by (starts_by d p f) (starts_released play device list) ≤ cond (device == d) 1 0
  list_counted device [] d p f differ = omega arith
  list_counted device (o ∷ list) d p f differ =
      let here = out_counted device o d p f in
      let whole = sum_by-append (λ x. cond (starts_by d p f x) 1 0) (starts_of (true_of play device o.at) device o.frame.0 o.ports) (starts_released play device list) in
      elim (cases_eq o.frame.0 f) [
        | inl same ↦
            let bound = at_most_first (device == d) (o.frame.0 == f) in
            let none = none_counted device list d p f (λ x is equal.
            All-contains (λ (y : Outgoing). o.frame.0 ≢ y.frame.0) list x (AllPairs-head (λ (x y : Outgoing). x.frame.0 ≢ y.frame.0) o list differ) is (same ∙ sym equal)) in
            omega arith
        | inr other ↦
            let none = and_second_no (device == d) (o.frame.0 == f) (ne_eqb o.frame.0 f other) in
            let more = list_counted device list d p f (AllPairs-tail (λ (x y : Outgoing). x.frame.0 ≢ y.frame.0) o list differ) in
            omega arith
      ]

  to_release_counted : (device : ℕ) (b : Bundle) → slice_get bundles device ≡ Some b → (s : Bool) (list : List Outgoing) → IsToRelease b k s list → (d p f : ℕ) →
      count_by (starts_by d p f) (starts_released play device list) ≤ cond (device == d) 1 0
  to_release_counted device b held true list exactly d p f = list_counted device list d p f (frames_differ device b held list exactly)
  to_release_counted device b held false list none d p f =
      subst (λ l. count_by (starts_by d p f) (starts_released play device l) ≤ cond (device == d) 1 0) (sym none) (omega arith)

  record AreFew (n d p f : ℕ) (lists : List (List Outgoing)) : Type 0 where
    one : count_by (starts_by d p f) (first_from play n lists) ≤ 1
    none : d < n → count_by (starts_by d p f) (first_from play n lists) ≡ 0

  lists_counted : (lists : List (List Outgoing)) (n : ℕ) → ((i : ℕ) (b : Bundle) (list : List Outgoing) → slice_get bundles (n + i) ≡ Some b → slice_get lists i ≡ Some list →
      IsToRelease b k (is_in_step play.setup.plant play.row (n + i)) list) → n + length lists ≤ length bundles → (d p f : ℕ) → AreFew n d p f lists
  lists_counted [] n each fits d p f = record { one = omega arith; none = λ low. refl }
  lists_counted (list ∷ lists) n each fits d p f =
      let (b, held) = some_at bundles n (omega arith) in
      let zero_more : n + 0 ≡ n = omega arith in
      let to_release : IsToRelease b k (is_in_step play.setup.plant play.row n) list =
      subst (λ m. IsToRelease b k (is_in_step play.setup.plant play.row m) list) zero_more (each 0 b list (subst (λ m. slice_get bundles m ≡ Some b) (sym zero_more) held) refl) in
      let here = to_release_counted n b held (is_in_step play.setup.plant play.row n) list to_release d p f in
      let more = lists_counted lists (n + 1) (λ i c l at is.
      let same : n + 1 + i ≡ n + suc i = omega arith in
      subst (λ m. IsToRelease c k (is_in_step play.setup.plant play.row m) l) (sym same) (each (suc i) c l (subst (λ m. slice_get bundles m ≡ Some c) same at) is))
      (omega arith) d p f in
      let whole = sum_by-append (λ x. cond (starts_by d p f x) 1 0) (starts_released play n list) (first_from play (n + 1) lists) in
      elim (cases_eq n d) [
        | inl same ↦
            let one : cond {A = ℕ} (n == d) 1 0 ≡ 1 = ap (λ x. cond {A = ℕ} x 1 0) (eq-eqb n d same) in
            let none = more.none (omega arith) in
            record { one = omega arith; none = λ low. absurd (omega arith) }
        | inr other ↦
            let no : cond {A = ℕ} (n == d) 1 0 ≡ 0 = ap (λ x. cond {A = ℕ} x 1 0) (ne_eqb n d other) in
            let one = more.one in
            record { one = omega arith; none = λ low. let none = more.none (omega arith) in omega arith }
      ]

  -- ---- all of it

  from_zero : (lists : List (List Outgoing)) → AreReleased bundles play lists → (d : ℕ) (b : Bundle) (list : List Outgoing) → slice_get bundles (0 + d) ≡ Some b → slice_get lists d ≡ Some list →
      IsToRelease b k (is_in_step play.setup.plant play.row (0 + d)) list
  from_zero lists released d b list held at =
      let same : 0 + d ≡ d = omega arith in
      subst (λ m. IsToRelease b k (is_in_step play.setup.plant play.row m) list) (sym same) (released.each d b list (subst (λ m. slice_get bundles m ≡ Some b) same held) at)

  pub begun : (lists : List (List Outgoing)) → AreReleased bundles play lists → IsBegun play (first_from play 0 lists)
  begun lists released =
      let fits : 0 + length lists ≤ length bundles = let count = released.count in omega arith in
      record {
        has = λ e first.
            let there = first_released lists released e.device.0 e.port.0 e.frame.0 e.at first.sent first.own in
            subst (λ w. Contains (first_from play 0 lists) (event e.at e.device.0 e.port.0 e.frame.0 w)) (sym first.start) there;
        only = all_of (IsFirst play) (first_from play 0 lists) (λ x is. lists_first lists 0 (from_zero lists released) fits x is);
        once = λ device port frame. (lists_counted lists 0 (from_zero lists released) fits device port frame).one;
      }
