-- The rows that the handled events gave have different keys.
use Rattle.std.proofs.Common.{◌≡◌, ℕ, zero, suc, ◌≤◌, Bool, true, false, cond, List, [], ◌∷◌, length, Option, Some, None, slice_get, ◌⊎◌, inl, inr, refl, sym, ◌∙◌, ap, subst, arith, All, AllPairs}
use Rattle.std.specs.Prelude.{ℤ, pos, ◌+ℤ◌, ◌≤ℤ◌}
use Rattle.std.specs.List.{Contains, count_by}
use Rattle.std.proofs.lemmas.Bool.{cases_eq}
use Rattle.std.proofs.lemmas.Int.{ints}
use Rattle.std.proofs.lemmas.List.Elements.{All-nil, All-cons, All-head, All-tail, All-contains}
use Rattle.std.proofs.lemmas.List.Sums.{sum_by-cons}
use Rattle.irt_base.specs.Cycle.{wire_time}
use Rattle.irt_base.specs.declared.blocks.Entry.{Entry}
use Rattle.plan_rules.specs.Network.{IsSentAt}
use Rattle.plan_rules.specs.Occupation.{Occupation, IsOccupation, IsSameSending, AreOccupations, AreApart}
use Rattle.plan_rules.specs.Way.{entry_at}
use Rattle.plan_rules.specs.World.{WorldRow, is_in_step}
use Rattle.cycle_rows.specs.declared.rows.JournalRow.{JournalRow}
use Rattle.cycle_rows.specs.declared.rows.JournalRow.TheVariants.{Occupy, Deliver, Missed}
use Rattle.cycle_rows.specs.declared.rows.RowKey.{RowKey}
use Rattle.cycle_rows.specs.Order.{key_of, HasOtherKey}
use Rattle.cycle_events.specs.declared.events.Event.{Event}
use Rattle.cycle_events.specs.declared.events.What.{What}
use Rattle.cycle_events.specs.declared.events.What.TheVariants.{Start, Arrive}
use Rattle.cycle_events.specs.Events.{Play, Happens, HappensAs, is_bit, occupied, delivered, rows_as, rows_of}
use Rattle.cycle_events.specs.Places.{EventPlace, At_port, At_device, is_at}
use Rattle.cycle_events.specs.Run.{rows_given}
use Rattle.cycle_rows.proofs.Lists.{nothing, AllPairs-none, AllPairs-append}
use Rattle.cycle_events.proofs.Lists.{only_one, count_some}
use Rattle.cycle_events.proofs.Room.{place_as, place_of, at_place}
use Rattle.cycle_events.proofs.Worklist.{from_flat_map}

-- frames never meet over this world
abbrev pub NeverMeet : Play → List WorldRow → Type 0
NeverMeet play world = (rows : List Occupation) → AreOccupations play.setup world rows → AreApart rows

-- the key that an event's row may have: by its start, or as a delivery or a drop
pub record IsStartKey (h : Event) (key : RowKey) : Type 0 where
  pub is : key ≡ record { kind = 0; device = h.device.0; port = h.port.0; at = h.at }

pub record IsNameKey (h : Event) (key : RowKey) : Type 0 where
  pub kind : 1 ≤ key.kind
  pub device : key.device ≡ h.device.0
  pub at : key.at ≡ pos h.frame.0

abbrev IsKeyAs : Event → What → RowKey → Type 0
IsKeyAs h Start key = IsStartKey h key
IsKeyAs h Arrive key = IsNameKey h key

occupied_key : (play : Play) (h : Event) (o : Option Entry) (r : JournalRow) → Contains (occupied play h o) r → IsStartKey h (key_of r)
occupied_key play h None r is = absurd (nothing r is)
occupied_key play h (Some entry) r is =
    record { is = ap key_of (sym (only_one (Occupy play.cycle h.device h.port h.frame h.at (h.at +ℤ pos (wire_time entry.data_length))) r is)) }

name_key : (h : Event) (r s : JournalRow) → r ≡ s → IsNameKey h (key_of r) → IsNameKey h (key_of s)
name_key h r s same is = subst (λ x. IsNameKey h (key_of x)) same is

delivered_key : (play : Play) (h : Event) (o : Option Entry) (r : JournalRow) → Contains (delivered play h o) r → IsNameKey h (key_of r)
delivered_key play h None r is = absurd (nothing r is)
delivered_key play h (Some entry) r is = go (is_bit entry.tx 0) is
  where
    go : (b : Bool) → Contains (cond b (Deliver play.cycle h.device h.frame (h.at +ℤ pos (wire_time entry.data_length)) ∷ []) []) r → IsNameKey h (key_of r)
    go true is =
        name_key h (Deliver play.cycle h.device h.frame (h.at +ℤ pos (wire_time entry.data_length))) r
        (only_one (Deliver play.cycle h.device h.frame (h.at +ℤ pos (wire_time entry.data_length))) r is) (record { kind = omega arith; device = refl; at = refl })
    go false is = absurd (nothing r is)

key_as : (play : Play) (h : Event) (what : What) (r : JournalRow) → Contains (rows_as play h what) r → IsKeyAs h what (key_of r)
key_as play h Start r is = occupied_key play h (entry_at play.setup h.device.0 h.frame.0) r is
key_as play h Arrive r is = go (is_in_step play.setup.plant play.row h.device.0) is
  where
    go : (b : Bool) → Contains (cond b (delivered play h (entry_at play.setup h.device.0 h.frame.0)) (Missed play.cycle h.device h.frame ∷ [])) r → IsNameKey h (key_of r)
    go true is = delivered_key play h (entry_at play.setup h.device.0 h.frame.0) r is
    go false is = name_key h (Missed play.cycle h.device h.frame) r (only_one (Missed play.cycle h.device h.frame) r is) (record { kind = omega arith; device = refl; at = refl })

-- an event gives one row at most
pub one_row : (play : Play) (h : Event) (what : What) → length (rows_as play h what) ≤ 1
one_row play h Start = go (entry_at play.setup h.device.0 h.frame.0)
  where
    go : (o : Option Entry) → length (occupied play h o) ≤ 1
    go None = omega arith
    go (Some entry) = omega arith
one_row play h Arrive = go (is_in_step play.setup.plant play.row h.device.0) (entry_at play.setup h.device.0 h.frame.0)
  where
    go : (b : Bool) (o : Option Entry) → length (cond b (delivered play h o) (Missed play.cycle h.device h.frame ∷ [])) ≤ 1
    go false o = omega arith
    go true None = omega arith
    go true (Some entry) = bit (is_bit entry.tx 0)
      where
        bit : (b : Bool) → length (cond b (Deliver play.cycle h.device h.frame (h.at +ℤ pos (wire_time entry.data_length)) ∷ []) []) ≤ 1
        bit true = omega arith
        bit false = omega arith

short_pairs : {X : Type 0} (R : X → X → Type 0) (xs : List X) → length xs ≤ 1 → AllPairs R xs
short_pairs R xs short = λ i j d before below. absurd (omega arith)

-- ---- two frames do not start at once in one direction

not_at_once : (n m : ℕ) (s t e f : ℤ) → s ≡ t → e ≡ (s +ℤ pos (wire_time n)) → f ≡ (t +ℤ pos (wire_time m)) → (e ≤ℤ t) ⊎ (f ≤ℤ s) → ⊥
not_at_once n m s t e f same one two (inl h) = omega (arith, ints)
not_at_once n m s t e f same one two (inr h) = omega (arith, ints)

two_differ : (o q : Occupation) → ¬ IsSameSending o q → AllPairs (λ a b. ¬ IsSameSending a b) (o ∷ q ∷ [])
two_differ o q other zero zero d before below = absurd (omega arith)
two_differ o q other zero (suc zero) d before below = other
two_differ o q other zero (suc (suc j)) d before below = absurd (omega arith)
two_differ o q other (suc i) j d before below = absurd (omega arith)

module _ (play : Play) (world : List WorldRow) (in_cycle : slice_get world play.cycle ≡ Some play.row) (apart : NeverMeet play world) where
  abbrev occupation : Event → Entry → Occupation
  occupation h entry =
      record { cycle = play.cycle; device = h.device.0; port = h.port.0; frame = h.frame.0; start = h.at; end = h.at +ℤ pos (wire_time entry.data_length) }

  abbrev SentAt : Event → Type 0
  SentAt h = IsSentAt play.setup play.row play.cycle h.device.0 h.port.0 h.frame.0 h.at

  occupies : (h : Event) → (sent : SentAt h) → IsOccupation play.setup world (occupation h sent.entry)
  occupies h sent = record {
    row = play.row;
    entry = sent.entry;
    in_cycle = in_cycle;
    stands = sent.stands;
    due = sent.due;
    leaves = sent.leaves;
    live = sent.live;
    starts = sent.starts;
    ends = refl;
  }

  one_frame : (h g : Event) → SentAt h → SentAt g → h.device.0 ≡ g.device.0 → h.port.0 ≡ g.port.0 → h.at ≡ g.at → h.frame.0 ≡ g.frame.0
  one_frame h g sent also device port at =
      elim (cases_eq h.frame.0 g.frame.0) [
        | inl same ↦ same
        | inr other ↦
            let o = occupation h sent.entry in
            let q = occupation g also.entry in
            let Is : Occupation → Type 0 = IsOccupation play.setup world in
            let clear = apart (o ∷ q ∷ [])
            (record {
              each = All-cons Is o (q ∷ []) (occupies h sent) (All-cons Is q [] (occupies g also) (All-nil Is));
              once = two_differ o q (λ same. other same.frame);
            })
            0 1 o (omega arith) (omega arith) (record { device = device; port = port }) in
            absurd (not_at_once sent.entry.data_length also.entry.data_length h.at g.at o.end q.end at refl refl clear)
      ]

  -- events whose rows have one key stand at one place
  one_place : (h g : Event) (what also : What) → HappensAs play h what → HappensAs play g also → (key : RowKey) → IsKeyAs h what key → IsKeyAs g also key →
      place_as h what ≡ place_as g also
  one_place h g Start Start sent other key first second =
      let same = sym first.is ∙ second.is in
      let device = ap (λ (k : RowKey). k.device) same in
      let port = ap (λ (k : RowKey). k.port) same in
      let at = ap (λ (k : RowKey). k.at) same in
      let frame = one_frame h g sent other device port at in
      λ i. At_port (device i) (port i) (frame i)
  one_place h g Start Arrive sent other key first second =
      let kind = ap (λ (k : RowKey). k.kind) first.is in
      absurd (omega (arith, kind, second.kind))
  one_place h g Arrive Start is sent key first second =
      let kind = ap (λ (k : RowKey). k.kind) second.is in
      absurd (omega (arith, kind, first.kind))
  one_place h g Arrive Arrive is other key first second =
      let device = sym first.device ∙ second.device in
      let frame = same_pos h.frame.0 g.frame.0 (sym first.at ∙ second.at) in
      λ i. At_device (device i) (frame i)
    where
      same_pos : (a b : ℕ) → pos a ≡ pos b → a ≡ b
      same_pos a b e = cc

  -- ---- all of them

  pub rows_differ : (handled : List Event) → All (Happens play) handled → ((c : EventPlace) → count_by (is_at c) handled ≤ 1) → AllPairs HasOtherKey (rows_given play handled)
  rows_differ [] happen once = AllPairs-none HasOtherKey
  rows_differ (h ∷ handled) happen once =
      AllPairs-append HasOtherKey (rows_of play h) (rows_given play handled) (short_pairs HasOtherKey (rows_of play h) (one_row play h h.what))
      (rows_differ handled (All-tail (Happens play) h handled happen) fewer)
      (λ r s is among same.
      let (g, there, gives) = from_flat_map (rows_of play) handled s among in
      let first = key_as play h h.what r is in
      let second = key_as play g g.what s gives in
      let place = one_place h g h.what g.what (All-head (Happens play) h handled happen)
      (All-contains (Happens play) handled g (All-tail (Happens play) h handled happen) there) (key_of s) (subst (IsKeyAs h h.what) same first) second in
      twice g there place)
    where
      fewer : (c : EventPlace) → count_by (is_at c) handled ≤ 1
      fewer c =
          let whole = sum_by-cons (λ x. cond (is_at c x) 1 0) h handled in
          let bound = once c in
          omega arith

      twice : (g : Event) → Contains handled g → place_of h ≡ place_of g → ⊥
      twice g there place =
          let whole = sum_by-cons (λ x. cond (is_at (place_of h) x) 1 0) h handled in
          let bound = once (place_of h) in
          let here : cond {A = ℕ} (is_at (place_of h) h) 1 0 ≡ 1 = ap (λ b. cond {A = ℕ} b 1 0) (at_place h) in
          let also : is_at (place_of h) g ≡ true = ap (λ c. is_at c g) place ∙ at_place g in
          let later = count_some (is_at (place_of h)) handled g there also in
          omega arith
