-- The rows of a cycle's parcels lie in what is left to them, and are apart.
use Rattle.std.proofs.Common.{◌≡◌, ℕ, ◌+◌, ◌*◌, ◌≤◌, Bool, true, false, List, [], ◌++◌, map, Option, Some, None, option_map, option_and_then, ◌⊎◌, inl, inr, refl, sym, subst, subst₂, arith, slice_get, All, AllPairs}
use Rattle.std.specs.Prelude.{ℤ, pos, ◌+ℤ◌, ◌≤ℤ◌, if◌then◌else◌}
use Rattle.std.specs.Option.{option_map_or}
use Rattle.std.proofs.lemmas.Int.{ints}
use Rattle.std.proofs.lemmas.List.Elements.{All-nil, All-append, All-map, All-weaker}
use Rattle.std.proofs.lemmas.Option.{same_Some}
use Rattle.irt_base.specs.Cycle.{cycle_time}
use Rattle.irt_base.specs.Periods.{period_at}
use Rattle.irt_base.specs.declared.blocks.Bundle.{Bundle}
use Rattle.irt_base.specs.declared.blocks.Period.{Period}
use Rattle.irt_base.specs.declared.blocks.Side.TheVariants.{Tx}
use Rattle.irt_base.specs.declared.numbers.PortNo.{PortNo}
use Rattle.irt_base.specs.declared.plants.Plant.{Plant}
use Rattle.plan_rules.specs.Plan.{IsPlan}
use Rattle.plan_rules.specs.Places.{IsAccepted}
use Rattle.plan_rules.specs.World.{WorldRow, is_in_step, is_uncut}
use Rattle.period_gate.specs.declared.parcels.Sent.{Sent}
use Rattle.period_gate.specs.Gate.{Waiting}
use Rattle.period_gate.specs.SentList.{sent_of, IsTimed, AreInOrder}
use Rattle.irt_switch.specs.Begin.{begun_gate, parcel_limit}
use Rattle.cycle_rows.specs.declared.rows.JournalRow.{JournalRow}
use Rattle.cycle_rows.specs.Apart.{use_of, IsClearOf, AreClear, AreRowsApart}
use Rattle.cycle_rows.specs.Parcels.{IsFreeIn, IsParcelRow, AreParcelRows}
use Rattle.cycle_rows.specs.Rows.{cycle_of}
use Rattle.parcel_rules.specs.Steps.{Step}
use Rattle.parcel_rules.specs.Loads.{Gates, gate_at, Loads, Offers, offered}
use Rattle.parcel_rules.specs.Cycle.{all_ports, begun_at, sends, loads_at}
use Rattle.parcel_rules.specs.Rows.{true_time, sent_row, lost_row, sent_rows_at, lost_rows_at, sent_rows, lost_rows, rows_in, parcel_rows}
use Rattle.parcel_rules.proofs.Lists.{everywhere, All-flat_map, AllPairs-nil, AllPairs-append, AllPairs-map, AllPairs-weaker, AllPairs-flat_map, Across}
use Rattle.parcel_rules.proofs.Offered.{either_way, AreAll, offers_all}
use Rattle.parcel_rules.proofs.Ports.{IsFromOne, IsOther, ports_from_one, ports_differ}
use Rattle.parcel_rules.proofs.Free.{IsReady, sent_free}

-- ---- rows that use no link direction

pub record IsQuiet (plant : Plant) (bundles : List Bundle) (world : List WorldRow) (k : ℕ) (r : JournalRow) : Type 0 where
  pub cycle : cycle_of r ≡ k
  pub row : IsParcelRow plant bundles world r
  pub idle : use_of r ≡ None

quiet_clear : (plant : Plant) (bundles : List Bundle) (world : List WorldRow) (k : ℕ) (r s : JournalRow) → IsQuiet plant bundles world k s → AreClear r s
quiet_clear plant bundles world k r s quiet u v first second = let idle = quiet.idle in absurd (cc)

quiet_pairs : (plant : Plant) (bundles : List Bundle) (world : List WorldRow) (k : ℕ) (rows : List JournalRow) → All (IsQuiet plant bundles world k) rows → AreRowsApart rows
quiet_pairs plant bundles world k rows all = λ i j d before below. quiet_clear plant bundles world k _ _ (all j d below)

quiet_across : (plant : Plant) (bundles : List Bundle) (world : List WorldRow) (k : ℕ) (rows others : List JournalRow) → All (IsQuiet plant bundles world k) others →
    Across AreClear rows others
quiet_across plant bundles world k rows others all =
    λ i d below. All-weaker (IsQuiet plant bundles world k) (AreClear _) (λ s quiet. quiet_clear plant bundles world k _ s quiet) others all

abbrev pub AreQuiet : Plant → List Bundle → List WorldRow → ℕ → Offers → Type 0
AreQuiet plant bundles world k o = AreAll (IsQuiet plant bundles world k) o

quiet_offers : (plant : Plant) (bundles : List Bundle) (world : List WorldRow) (walks : List (List PortNo)) (k : ℕ) (loads : Loads) →
    AreQuiet plant bundles world k (offered plant walks k loads)
quiet_offers plant bundles world walks k loads =
    offers_all plant walks k (IsQuiet plant bundles world k) (λ at parcel. record { cycle = refl; row = tt; idle = refl }) (λ h. record { cycle = refl; row = tt; idle = refl }) loads

-- ---- what a port sends

module _ (plant : Plant) (bundles : List Bundle) (row : WorldRow) (k : ℕ) (gates : Gates) where
  pub record IsSending (at : Step) (sent : List Sent) : Type 0 where
    pub b : Bundle
    pub tx : Period
    pub ready : IsReady plant bundles row k at b tx
    pub list : sent ≡ sent_of (begun_gate b tx (gate_at gates at))

  abbrev pub Sends : Step → List Sent → Type 0
  Sends at sent = (sent ≡ []) ⊎ IsSending at sent

  by_period : (at : Step) (b : Bundle) → is_in_step plant row at.0.0 ≡ true → slice_get bundles at.0.0 ≡ Some b → (o : Option Period) →
      period_at b.periods at.1.0 k Tx ≡ o → Sends at (option_map_or sent_of (option_map (λ (tx : Period). begun_gate b tx (gate_at gates at)) o) [])
  by_period at b step held None is = inl refl
  by_period at b step held (Some tx) is =
      inr (record { b = b; tx = tx; ready = record { in_step = step; held = held; sending = is }; list = refl })

  by_bundle : (at : Step) → is_in_step plant row at.0.0 ≡ true → (o : Option Bundle) → slice_get bundles at.0.0 ≡ o →
      Sends at (option_map_or sent_of (option_and_then (λ (b : Bundle). option_map (λ (tx : Period). begun_gate b tx (gate_at gates at)) (period_at b.periods at.1.0 k Tx)) o) [])
  by_bundle at step None is = inl refl
  by_bundle at step (Some b) is = by_period at b step is (period_at b.periods at.1.0 k Tx) refl

  by_step : (at : Step) (b : Bool) → is_in_step plant row at.0.0 ≡ b →
      Sends at (if b then option_map_or sent_of (begun_at bundles k at (gate_at gates at)) [] else [])
  by_step at true is = by_bundle at is (slice_get bundles at.0.0) refl
  by_step at false is = inl refl

  pub sends_of : (at : Step) → Sends at (sends plant bundles row k gates at)
  sends_of at = by_step at (is_in_step plant row at.0.0) refl

-- ---- rows of what is sent

later : (base start end : ℕ) (error : ℤ) → end ≤ start → (pos (base + end) +ℤ error) ≤ℤ (pos (base + start) +ℤ error)
later base start end error after = omega (arith, ints)

module _ (plant : Plant) (bundles : List Bundle) (plan : IsPlan plant bundles) (accepted : IsAccepted plant bundles)
    (orders : (gate : Waiting) → AreInOrder gate (sent_of gate)) (world : List WorldRow) (row : WorldRow) (k : ℕ)
    (in_cycle : slice_get world k ≡ Some row) (gates : Gates) where
  abbrev sent_at : Step → List Sent
  sent_at at = sends plant bundles row k gates at

  abbrev IsSentFree : Step → Sent → Type 0
  IsSentFree at one = IsFreeIn plant bundles world k at.0.0 at.1.0 (true_time plant row k at.0.0 one.start) (true_time plant row k at.0.0 one.end)

  abbrev Follows : Sent → Sent → Type 0
  Follows one after = one.end ≤ after.start

  free_at : (at : Step) → IsFromOne at → All (IsSentFree at) (sent_at at)
  free_at at from_one = elim (sends_of plant bundles row k gates at) [
    | inl none ↦ subst (All (IsSentFree at)) (sym none) (All-nil (IsSentFree at))
    | inr s ↦
        let list = sent_of (begun_gate s.b s.tx (gate_at gates at)) in
        subst (All (IsSentFree at)) (sym s.list)
        (All-weaker (IsTimed s.tx (parcel_limit s.b.sync)) (IsSentFree at)
        (λ one timed. sent_free plant bundles plan accepted world row k at s.b s.tx one in_cycle from_one s.ready timed) list
        (orders (begun_gate s.b s.tx (gate_at gates at))).each)
  ]

  in_turn_at : (at : Step) → AllPairs Follows (sent_at at)
  in_turn_at at = elim (sends_of plant bundles row k gates at) [
    | inl none ↦ subst (AllPairs Follows) (sym none) (AllPairs-nil Follows)
    | inr s ↦ subst (AllPairs Follows) (sym s.list) (orders (begun_gate s.b s.tx (gate_at gates at))).in_turn
  ]

  -- two rows of one port
  follows_clear : (at : Step) (one after : Sent) → Follows one after → AreClear (sent_row plant row k at one) (sent_row plant row k at after)
  follows_clear at one after before u v first second =
      subst₂ IsClearOf (same_Some _ u first) (same_Some _ v second)
      (λ device port. inl (later (k * cycle_time plant.factor) after.start one.end (row.error at.0.0) before))

  -- rows of two ports
  other_clear : (at other : Step) → IsOther at other → (one two : Sent) → AreClear (sent_row plant row k at one) (sent_row plant row k other two)
  other_clear at other differ one two u v first second =
      subst₂ IsClearOf (same_Some _ u first) (same_Some _ v second) (λ device port. absurd (differ device port))

  ports_clear : (at other : Step) → IsOther at other → Across AreClear (sent_rows_at plant bundles row k gates at) (sent_rows_at plant bundles row k gates other)
  ports_clear at other differ =
      All-map (λ r. All (AreClear r) (sent_rows_at plant bundles row k gates other)) (sent_row plant row k at) (sent_at at)
      (everywhere (λ (one : Sent). All (AreClear (sent_row plant row k at one)) (sent_rows_at plant bundles row k gates other)) (sent_at at)
      (λ one. All-map (AreClear (sent_row plant row k at one)) (sent_row plant row k other) (sent_at other)
      (everywhere (λ (two : Sent). AreClear (sent_row plant row k at one) (sent_row plant row k other two)) (sent_at other)
      (λ two. other_clear at other differ one two))))

  sent_parcel_rows : All (IsParcelRow plant bundles world) (sent_rows plant bundles row k gates)
  sent_parcel_rows =
      All-flat_map (IsParcelRow plant bundles world) IsFromOne (sent_rows_at plant bundles row k gates) (all_ports plant) (ports_from_one plant)
      (λ at from_one. All-map (IsParcelRow plant bundles world) (sent_row plant row k at) (sent_at at) (free_at at from_one))

  sent_cycles : All (λ (r : JournalRow). cycle_of r ≡ k) (sent_rows plant bundles row k gates)
  sent_cycles =
      All-flat_map (λ (r : JournalRow). cycle_of r ≡ k) IsFromOne (sent_rows_at plant bundles row k gates) (all_ports plant) (ports_from_one plant)
      (λ at from_one. All-map (λ (r : JournalRow). cycle_of r ≡ k) (sent_row plant row k at) (sent_at at) (λ i d below. refl))

  sent_apart : AreRowsApart (sent_rows plant bundles row k gates)
  sent_apart =
      AllPairs-flat_map AreClear IsOther (sent_rows_at plant bundles row k gates) (all_ports plant) (ports_differ plant)
      (λ at. AllPairs-map AreClear (sent_row plant row k at) (sent_at at)
      (AllPairs-weaker Follows (λ x y. AreClear (sent_row plant row k at x) (sent_row plant row k at y)) (sent_at at) (follows_clear at) (in_turn_at at)))
      ports_clear

  lost_quiet : All (IsQuiet plant bundles world k) (lost_rows plant bundles row k gates)
  lost_quiet =
      All-flat_map (IsQuiet plant bundles world k) IsFromOne (lost_rows_at plant bundles row k gates) (all_ports plant) (ports_from_one plant)
      (λ at from_one. either_way (All (IsQuiet plant bundles world k)) (is_uncut plant row at.0.0 at.1.0) [] (map (lost_row k at) (sent_at at))
      (All-nil (IsQuiet plant bundles world k))
      (All-map (IsQuiet plant bundles world k) (lost_row k at) (sent_at at) (λ i d below. record { cycle = refl; row = tt; idle = refl })))

  abbrev quiet_part : Offers → List JournalRow
  quiet_part o = o.refused ++ (lost_rows plant bundles row k gates ++ o.came)

  pub rows_keep : (o : Offers) → AreQuiet plant bundles world k o →
      AreParcelRows plant bundles world k (sent_rows plant bundles row k gates ++ quiet_part o)
  rows_keep o quiet =
      let IsQuietRow : JournalRow → Type 0 = IsQuiet plant bundles world k in
      let all : All IsQuietRow (quiet_part o) =
      All-append IsQuietRow o.refused (lost_rows plant bundles row k gates ++ o.came) quiet.refused
      (All-append IsQuietRow (lost_rows plant bundles row k gates) o.came lost_quiet quiet.came) in
      record {
        cycle = All-append (λ (r : JournalRow). cycle_of r ≡ k) (sent_rows plant bundles row k gates) (quiet_part o) sent_cycles
            (All-weaker IsQuietRow (λ (r : JournalRow). cycle_of r ≡ k) (λ r is. is.cycle) (quiet_part o) all);
        each = All-append (IsParcelRow plant bundles world) (sent_rows plant bundles row k gates) (quiet_part o) sent_parcel_rows
            (All-weaker IsQuietRow (IsParcelRow plant bundles world) (λ r is. is.row) (quiet_part o) all);
        apart = AllPairs-append AreClear (sent_rows plant bundles row k gates) (quiet_part o) sent_apart (quiet_pairs plant bundles world k (quiet_part o) all)
            (quiet_across plant bundles world k (sent_rows plant bundles row k gates) (quiet_part o) all);
      }

-- ---- a cycle

no_rows : (plant : Plant) (bundles : List Bundle) (world : List WorldRow) (k : ℕ) → AreParcelRows plant bundles world k []
no_rows plant bundles world k = record {
  cycle = All-nil (λ (r : JournalRow). cycle_of r ≡ k);
  each = All-nil (IsParcelRow plant bundles world);
  apart = AllPairs-nil AreClear;
}

module _ (plant : Plant) (bundles : List Bundle) (plan : IsPlan plant bundles) (accepted : IsAccepted plant bundles)
    (orders : (gate : Waiting) → AreInOrder gate (sent_of gate)) (walks : List (List PortNo)) (world : List WorldRow) (k : ℕ) where
  by_row : (loads : Loads) (o : Option WorldRow) → slice_get world k ≡ o → AreParcelRows plant bundles world k (rows_in plant bundles walks k loads o)
  by_row loads None is = no_rows plant bundles world k
  by_row loads (Some row) is =
      rows_keep plant bundles plan accepted orders world row k is (offered plant walks k loads).gates (offered plant walks k loads)
      (quiet_offers plant bundles world walks k loads)

  pub parcel_rows_keep : AreParcelRows plant bundles world k (parcel_rows plant bundles walks world k)
  parcel_rows_keep = by_row (loads_at plant bundles walks world k) (slice_get world k) refl
