-- The rows that the handled events gave are the rows of the cycle's frames.
use Rattle.std.proofs.Common.{◌≡◌, ℕ, Bool, true, false, cond, List, [], ◌∷◌, Option, Some, None, slice_get, refl, sym, ◌∙◌, ap, subst, All, IsBitSet}
use Rattle.std.specs.Prelude.{ℤ, pos, ◌+ℤ◌}
use Rattle.std.specs.List.{Contains}
use Rattle.std.proofs.lemmas.List.Elements.{All-contains}
use Rattle.std.proofs.lemmas.Option.{same_Some}
use Rattle.irt_base.specs.Cycle.{wire_time}
use Rattle.irt_base.specs.declared.numbers.DevId.{DevId}
use Rattle.irt_base.specs.declared.numbers.FrameId.{FrameId}
use Rattle.irt_base.specs.declared.numbers.PortNo.{PortNo}
use Rattle.irt_base.specs.declared.blocks.Entry.{Entry}
use Rattle.irt_base.specs.declared.plants.Demand.{Demand}
use Rattle.plan_rules.specs.Arrival.{IsArrival, IsDelivery}
use Rattle.plan_rules.specs.Network.{IsSentAt}
use Rattle.plan_rules.specs.Occupation.{IsOccupation}
use Rattle.plan_rules.specs.Tree.{demand_of, Consumes}
use Rattle.plan_rules.specs.Way.{entry_at}
use Rattle.plan_rules.specs.World.{WorldRow, IsInStep, is_in_step}
use Rattle.cycle_rows.specs.declared.rows.JournalRow.{JournalRow}
use Rattle.cycle_rows.specs.declared.rows.JournalRow.TheVariants.{Occupy, Deliver, Missed, Sent, Refused, Lost, Came}
use Rattle.cycle_rows.specs.Rows.{IsMissed, IsFrameRowOf}
use Rattle.cycle_events.specs.declared.events.Event.{Event}
use Rattle.cycle_events.specs.declared.events.What.{What}
use Rattle.cycle_events.specs.declared.events.What.TheVariants.{Start, Arrive}
use Rattle.cycle_events.specs.Events.{Play, arrival_of, Happens, HappensAs, is_bit, event, occupied, delivered, rows_as, rows_of, causes}
use Rattle.cycle_events.specs.Run.{IsBegun, rows_given}
use Rattle.cycle_rows.proofs.Lists.{nothing, Contains-here}
use Rattle.cycle_events.proofs.Complete.{all_handled}
use Rattle.cycle_events.proofs.Facts.{Facts}
use Rattle.cycle_events.proofs.Lists.{only_one}
use Rattle.cycle_events.proofs.Tests.{step_passed, step_failed, step_true, step_false, bit_passed, bit_true}
use Rattle.cycle_events.proofs.Worklist.{IsRun, Contains-flat_map, from_flat_map}

-- the row of the frame that an event starts
abbrev occupy_row : Play → Event → Entry → JournalRow
occupy_row play h entry = Occupy play.cycle h.device h.port h.frame h.at (h.at +ℤ pos (wire_time entry.data_length))

abbrev deliver_row : Play → Event → Entry → JournalRow
deliver_row play h entry = Deliver play.cycle h.device h.frame (h.at +ℤ pos (wire_time entry.data_length))

module _ (play : Play) (facts : Facts play) (world : List WorldRow) (in_cycle : slice_get world play.cycle ≡ Some play.row) where
  abbrev IsOf : JournalRow → Type 0
  IsOf r = IsFrameRowOf play.setup world play.cycle r

  -- ---- what an event gives is a row of the cycle

  occupies : (h : Event) → (sent : IsSentAt play.setup play.row play.cycle h.device.0 h.port.0 h.frame.0 h.at) → IsOf (occupy_row play h sent.entry)
  occupies h sent = (
    refl,
    record {
      row = play.row;
      entry = sent.entry;
      in_cycle = in_cycle;
      stands = sent.stands;
      due = sent.due;
      leaves = sent.leaves;
      live = sent.live;
      starts = sent.starts;
      ends = refl;
    },
  )

  occupied_row : (h : Event) → (sent : IsSentAt play.setup play.row play.cycle h.device.0 h.port.0 h.frame.0 h.at) → (o : Option Entry) → entry_at play.setup h.device.0 h.frame.0 ≡ o →
      (r : JournalRow) → Contains (occupied play h o) r → IsOf r
  occupied_row h sent None at r is = absurd (nothing r is)
  occupied_row h sent (Some entry) at r is =
      let same = only_one (occupy_row play h entry) r is in
      subst IsOf same (subst (λ x. IsOf (occupy_row play h x)) (same_Some sent.entry entry (sym sent.stands ∙ at)) (occupies h sent))

  delivers : (h : Event) (from : Entry) → IsArrival play.setup play.row from (arrival_of play h) → IsInStep play.setup.plant play.row h.device.0 → (e : Entry) →
      entry_at play.setup h.device.0 h.frame.0 ≡ Some e → IsBitSet e.tx 0 → IsOf (deliver_row play h e)
  delivers h from is step e at bit =
      let m = facts.met play.row from (arrival_of play h) is in
      let length : from.data_length ≡ e.data_length = sym m.alike.length ∙ ap (λ (x : Entry). x.data_length) (same_Some m.e e (sym m.stands ∙ at)) in (
        refl,
        subst (λ n. IsDelivery play.setup world (record { cycle = play.cycle; device = h.device.0; frame = h.frame.0; end = h.at +ℤ pos (wire_time n) })) length
            ((facts.delivered world).each play.row from (arrival_of play h) e in_cycle is step at bit),
      )

  delivered_row : (h : Event) (from : Entry) → IsArrival play.setup play.row from (arrival_of play h) → IsInStep play.setup.plant play.row h.device.0 → (o : Option Entry) →
      entry_at play.setup h.device.0 h.frame.0 ≡ o → (r : JournalRow) → Contains (delivered play h o) r → IsOf r
  delivered_row h from is step None at r among = absurd (nothing r among)
  delivered_row h from is step (Some e) at r among = go (is_bit e.tx 0) refl among
    where
      go : (b : Bool) → is_bit e.tx 0 ≡ b → Contains (cond b (deliver_row play h e ∷ []) []) r → IsOf r
      go true bit among = subst IsOf (only_one (deliver_row play h e) r among) (delivers h from is step e at (bit_passed e.tx 0 bit))
      go false bit among = absurd (nothing r among)

  given_as : (h : Event) (what : What) → HappensAs play h what → (r : JournalRow) → Contains (rows_as play h what) r → IsOf r
  given_as h Start sent r among = occupied_row h sent (entry_at play.setup h.device.0 h.frame.0) refl r among
  given_as h Arrive (from, is) r among = go (is_in_step play.setup.plant play.row h.device.0) refl among
    where
      go : (b : Bool) → is_in_step play.setup.plant play.row h.device.0 ≡ b →
          Contains (cond b (delivered play h (entry_at play.setup h.device.0 h.frame.0)) (Missed play.cycle h.device h.frame ∷ [])) r → IsOf r
      go true step among = delivered_row h from is (step_passed play h.device.0 step) (entry_at play.setup h.device.0 h.frame.0) refl r among
      go false step among = subst IsOf (only_one (Missed play.cycle h.device h.frame) r among) (
        refl,
        record { row = play.row; from = from; port = h.port.0; start = h.at; in_cycle = in_cycle; dropped = (is, step_failed play h.device.0 step) },
      )

  pub given_rows : (handled : List Event) → All (Happens play) handled → (r : JournalRow) → Contains (rows_given play handled) r → IsOf r
  given_rows handled happen r among =
      let (h, is, gives) = from_flat_map (rows_of play) handled r among in
      given_as h h.what (All-contains (Happens play) handled h happen is) r gives

  -- ---- each row of the cycle is given

  same_row : (other : WorldRow) → slice_get world play.cycle ≡ Some other → other ≡ play.row
  same_row other there = same_Some other play.row (sym there ∙ in_cycle)

  occupied_has : (h : Event) (o : Option Entry) (e : Entry) → o ≡ Some e → Contains (occupied play h o) (occupy_row play h e)
  occupied_has h o e is = rw is (Contains-here (occupy_row play h e) [])

  delivered_has : (h : Event) (b : Bool) (other : List JournalRow) (o : Option Entry) (e : Entry) → b ≡ true → o ≡ Some e → is_bit e.tx 0 ≡ true →
      Contains (cond b (delivered play h o) other) (deliver_row play h e)
  delivered_has h b other o e p q bit = rw (p, q, bit) (Contains-here (deliver_row play h e) [])

  missed_has : (h : Event) (b : Bool) (other : List JournalRow) → b ≡ false → Contains (cond b other (Missed play.cycle h.device h.frame ∷ [])) (Missed play.cycle h.device h.frame)
  missed_has h b other p = rw p (Contains-here (Missed play.cycle h.device h.frame) [])

  module _ (first handled : List Event) (begun : IsBegun play first) (run : IsRun first (causes play) handled []) where
    abbrev IsGiven : JournalRow → Type 0
    IsGiven r = Contains (rows_given play handled) r

    occupy_given : (d : DevId) (p : PortNo) (f : FrameId) (start end : ℤ) →
        IsOccupation play.setup world (record { cycle = play.cycle; device = d.0; port = p.0; frame = f.0; start = start; end = end }) → IsGiven (Occupy play.cycle d p f start end)
    occupy_given d p f start end is =
        let rows = same_row is.row is.in_cycle in
        let sent : IsSentAt play.setup play.row play.cycle d.0 p.0 f.0 start =
        subst (λ w. IsSentAt play.setup w play.cycle d.0 p.0 f.0 start) rows
        (record { entry = is.entry; stands = is.stands; due = is.due; leaves = is.leaves; live = is.live; starts = is.starts }) in
        let h : Event = event start d.0 p.0 f.0 Start in
        let there = all_handled play facts first handled begun run h sent in
        let here = Contains-flat_map (rows_of play) handled h (occupy_row play h is.entry) there (occupied_has h (entry_at play.setup d.0 f.0) is.entry is.stands) in
        subst (λ z. IsGiven (Occupy play.cycle d p f start z)) (sym is.ends) here

    -- a consumer's entry keeps the frame
    consumer_bit : (d f : ℕ) (e : Entry) (demand : Demand) → entry_at play.setup d f ≡ Some e → demand_of play.setup.plant f ≡ Some demand → Consumes demand d → is_bit e.tx 0 ≡ true
    consumer_bit d f e demand at demanded consumed =
        let known = facts.entries d f e at in
        bit_true e.tx 0 (known.kept.1 (subst (λ x. Consumes x d) (same_Some demand known.demand (sym demanded ∙ known.demanded)) consumed))

    deliver_given : (d : DevId) (f : FrameId) (end : ℤ) → IsDelivery play.setup world (record { cycle = play.cycle; device = d.0; frame = f.0; end = end }) →
        IsGiven (Deliver play.cycle d f end)
    deliver_given d f end is =
        let whole = (facts.delivered world).only (record { cycle = play.cycle; device = d.0; frame = f.0; end = end }) is in
        let rows = same_row whole.row whole.in_cycle in
        let h : Event = event whole.start d.0 whole.port f.0 Arrive in
        let arrives : IsArrival play.setup play.row whole.from (arrival_of play h) = subst (λ w. IsArrival play.setup w whole.from (arrival_of play h)) rows whole.arrives in
        let step : IsInStep play.setup.plant play.row d.0 = subst (λ w. IsInStep play.setup.plant w d.0) rows whole.in_step in
        let there = all_handled play facts first handled begun run h (whole.from, arrives) in
        let m = facts.met play.row whole.from (arrival_of play h) arrives in
        let length : is.e.data_length ≡ whole.from.data_length = ap (λ (x : Entry). x.data_length) (same_Some is.e m.e (sym is.stands ∙ m.stands)) ∙ m.alike.length in
        let here = Contains-flat_map (rows_of play) handled h (deliver_row play h is.e) there
        (delivered_has h (is_in_step play.setup.plant play.row d.0) (Missed play.cycle d f ∷ []) (entry_at play.setup d.0 f.0) is.e (step_true play d.0 step) is.stands
        (consumer_bit d.0 f.0 is.e is.demand is.stands is.demanded is.consumed)) in
        subst (λ z. IsGiven (Deliver play.cycle d f z)) (ap (λ n. whole.start +ℤ pos (wire_time n)) length ∙ sym whole.ends) here

    missed_given : (d : DevId) (f : FrameId) → IsMissed play.setup world play.cycle d.0 f.0 → IsGiven (Missed play.cycle d f)
    missed_given d f is =
        let rows = same_row is.row is.in_cycle in
        let h : Event = event is.start d.0 is.port f.0 Arrive in
        let arrives : IsArrival play.setup play.row is.from (arrival_of play h) = subst (λ w. IsArrival play.setup w is.from (arrival_of play h)) rows is.dropped.0 in
        let off : ¬ IsInStep play.setup.plant play.row d.0 = subst (λ w. ¬ IsInStep play.setup.plant w d.0) rows is.dropped.1 in
        let there = all_handled play facts first handled begun run h (is.from, arrives) in
        Contains-flat_map (rows_of play) handled h (Missed play.cycle d f) there
        (missed_has h (is_in_step play.setup.plant play.row d.0) (delivered play h (entry_at play.setup d.0 f.0)) (step_false play d.0 off))

    pub all_given : (r : JournalRow) → IsOf r → IsGiven r
    all_given (Occupy c d p f start end) (same, is) =
        subst (λ n. IsGiven (Occupy n d p f start end)) (sym same) (occupy_given d p f start end
        (subst (λ n. IsOccupation play.setup world (record { cycle = n; device = d.0; port = p.0; frame = f.0; start = start; end = end })) same is))
    all_given (Deliver c d f end) (same, is) =
        subst (λ n. IsGiven (Deliver n d f end)) (sym same)
        (deliver_given d f end (subst (λ n. IsDelivery play.setup world (record { cycle = n; device = d.0; frame = f.0; end = end })) same is))
    all_given (Missed c d f) (same, is) =
        subst (λ n. IsGiven (Missed n d f)) (sym same) (missed_given d f (subst (λ n. IsMissed play.setup world n d.0 f.0) same is))
    all_given (Sent c d p traffic serial start end) (same, is) = absurd is
    all_given (Refused c d p traffic serial) (same, is) = absurd is
    all_given (Lost c d p traffic serial) (same, is) = absurd is
    all_given (Came c d traffic serial) (same, is) = absurd is
