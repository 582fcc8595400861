-- What the weights of a cycle's parcels are after the ports have sent.
use Rattle.std.proofs.Common.{◌≡◌, ℕ, ◌+◌, Bool, true, false, List, [], ◌∷◌, ◌++◌, map, Option, Some, None, refl, sym, ◌∙◌, ap, subst, arith, inl, inr, All}
use Rattle.std.specs.Prelude.{if◌then◌else◌}
use Rattle.std.specs.List.{sum_by}
use Rattle.std.proofs.lemmas.List.Elements.{All-nil, All-head, All-map, All-weaker}
use Rattle.std.proofs.lemmas.List.Sums.{sum_by-append}
use Rattle.std.proofs.lemmas.Option.{same_Some}
use Rattle.irt_base.specs.Wiring.{peer_of}
use Rattle.irt_base.specs.declared.blocks.Bundle.{Bundle}
use Rattle.irt_base.specs.declared.numbers.PortNo.{PortNo}
use Rattle.irt_base.specs.declared.plants.Class.{Class}
use Rattle.irt_base.specs.declared.plants.Class.TheVariants.{Orange, Green}
use Rattle.irt_base.specs.declared.plants.Plant.{Plant}
use Rattle.plant_rules.specs.Meets.{MeetsRules}
use Rattle.plan_rules.specs.World.{WorldRow, is_uncut}
use Rattle.plan_rules.proofs.Wires.{mutual_peers}
use Rattle.period_gate.specs.declared.parcels.Parcel.{Parcel}
use Rattle.period_gate.specs.declared.parcels.Sent.{Sent}
use Rattle.period_gate.specs.Gate.{Waiting, queue_of}
use Rattle.period_gate.specs.SentList.{left_of, sent_parcels}
use Rattle.cycle_rows.specs.declared.rows.JournalRow.{JournalRow}
use Rattle.parcel_rules.specs.declared.handed.Handed.{Handed}
use Rattle.parcel_rules.specs.Made.{handed_to}
use Rattle.parcel_rules.specs.Steps.{Step}
use Rattle.parcel_rules.specs.Loads.{Gates, gate_at}
use Rattle.parcel_rules.specs.Cycle.{all_ports, sends, after_sending, handed_on, brought_from, brought}
use Rattle.parcel_rules.specs.Rows.{sent_row, lost_row, sent_rows_at, lost_rows_at, sent_rows, lost_rows}
use Rattle.parcel_rules.proofs.Apart.{sends_of}
use Rattle.parcel_rules.proofs.Offered.{either_way}
use Rattle.parcel_rules.proofs.Balance.{AreWeights, held, held_all}
use Rattle.parcel_rules.proofs.Lists.{All-flat_map}
use Rattle.parcel_rules.proofs.Links.{over, sum_over_links}
use Rattle.parcel_rules.proofs.Placed.{HaveWalks, IsOn, IsWaitingAt, AllWait, sent_on}
use Rattle.parcel_rules.proofs.Queues.{SendFronts, split_gate, sum_classes, all_classes, All-left, All-right}
use Rattle.parcel_rules.proofs.Sums.{sum_alike, sum_both, sum_map, sum_flat_map}

-- what a port sends is a front of each class, and the rest still waits
record IsSplit (gate : Waiting) (sent : List Sent) : Type 0 where
  queues : (kind : Class) → queue_of kind gate ≡ sent_parcels kind sent ++ queue_of kind (left_of gate sent)

module _ (plant : Plant) (rules : MeetsRules plant) (bundles : List Bundle) (walks : List (List PortNo)) (have : HaveWalks plant walks)
    (fronts : SendFronts) (row : WorldRow) (k : ℕ) (gates : Gates) (all : AllWait plant walks gates) where
  abbrev pub sent_at : Step → List Sent
  sent_at at = sends plant bundles row k gates at

  split_at : (at : Step) → IsSplit (gate_at gates at) (sent_at at)
  split_at at = elim (sends_of plant bundles row k gates at) [
    | inl none ↦ subst (IsSplit (gate_at gates at)) (sym none) (record { queues = λ kind. refl })
    | inr s ↦ subst (IsSplit (gate_at gates at)) (sym s.list) (record { queues = λ kind. split_gate fronts kind s.b s.tx (gate_at gates at) })
  ]

  -- what is sent, and what is left, was in its place
  pub sent_wait : (at : Step) → All (λ (one : Sent). IsWaitingAt plant walks at one.parcel) (sent_at at)
  sent_wait at =
      let Front : Class → Type 0 = λ kind. All (IsWaitingAt plant walks at) (sent_parcels kind (sent_at at)) in
      let front : (kind : Class) → Front kind = λ kind.
      All-left (IsWaitingAt plant walks at) (sent_parcels kind (sent_at at)) (queue_of kind (left_of (gate_at gates at) (sent_at at)))
      (subst (All (IsWaitingAt plant walks at)) ((split_at at).queues kind) (all at kind)) in
      all_classes (IsWaitingAt plant walks at) (sent_at at) (front Orange) (front Green)

  pub left_wait : AllWait plant walks (after_sending plant bundles row k gates)
  left_wait at kind =
      All-right (IsWaitingAt plant walks at) (sent_parcels kind (sent_at at)) (queue_of kind (left_of (gate_at gates at) (sent_at at)))
      (subst (All (IsWaitingAt plant walks at)) ((split_at at).queues kind) (all at kind))

  -- what a link brings is on its walk
  on_link : (at : Step) (o : Option Step) → peer_of plant at.0.0 at.1.0 ≡ o → All (IsOn plant walks) (brought_from plant bundles row k gates at.0 o)
  on_link at None none = All-nil (IsOn plant walks)
  on_link at (Some far) leads =
      either_way (All (IsOn plant walks)) (is_uncut plant row far.0.0 far.1.0) (map (handed_on at.0) (sent_at far)) []
      (All-map (IsOn plant walks) (handed_on at.0) (sent_at far)
      (All-weaker (λ (one : Sent). IsWaitingAt plant walks far one.parcel) (λ (one : Sent). IsOn plant walks (handed_on at.0 one))
      (λ one waiting.
      let (next, there, on) = sent_on plant walks have far one.parcel waiting in
      let back = mutual_peers plant rules at.0.0 at.1.0 far.0.0 far.1.0 leads in
      let same : next ≡ at = same_Some next at (sym there ∙ back) in
      subst (λ (s : Step). IsOn plant walks (handed_to s.0 one.parcel)) same on)
      (sent_at far) (sent_wait far)))
      (All-nil (IsOn plant walks))

  pub brought_on : All (IsOn plant walks) (brought plant bundles row k gates)
  brought_on =
      All-flat_map (IsOn plant walks) (λ (at : Step). Unit {0}) (λ (at : Step). brought_from plant bundles row k gates at.0 (peer_of plant at.0.0 at.1.0)) (all_ports plant)
      (λ i d below. tt) (λ at any. on_link at (peer_of plant at.0.0 at.1.0) refl)

  -- ---- weights

  module _ (waits : Step → Parcel → ℕ) (flies : Handed → ℕ) (written : JournalRow → ℕ) (weights : AreWeights plant walks row k waits flies written) where
    -- at one port: what waited is what is left and what is sent
    held_at : (at : Step) → held waits at (gate_at gates at) ≡
        held waits at (left_of (gate_at gates at) (sent_at at)) + sum_by (λ (one : Sent). waits at one.parcel) (sent_at at)
    held_at at =
        let left = left_of (gate_at gates at) (sent_at at) in
        let orange = ap (sum_by (waits at)) ((split_at at).queues Orange) in
        let green = ap (sum_by (waits at)) ((split_at at).queues Green) in
        omega (
          arith,
          sum_by-append (waits at) (sent_parcels Orange (sent_at at)) left.orange,
          sum_by-append (waits at) (sent_parcels Green (sent_at at)) left.green,
          sum_classes (waits at) (sent_at at),
        )

    -- what goes over an uncut link from a port
    abbrev crossing : Step → Step → ℕ
    crossing to from = if is_uncut plant row from.0.0 from.1.0 then sum_by (λ (one : Sent). flies (handed_on to.0 one)) (sent_at from) else 0

    -- what is sent goes into its row, and into a lost row or over the link
    crossed : (at far : Step) (xs : List Sent) → peer_of plant at.0.0 at.1.0 ≡ Some far → All (λ (one : Sent). IsWaitingAt plant walks at one.parcel) xs →
        sum_by (λ (one : Sent). waits at one.parcel) xs ≡ sum_by written (map (sent_row plant row k at) xs) + sum_by (λ (one : Sent). flies (handed_on far.0 one)) xs
    crossed at far xs leads wait =
        sum_alike (λ (one : Sent). waits at one.parcel) (λ one. written (sent_row plant row k at one) + flies (handed_on far.0 one)) xs
        (All-weaker (λ (one : Sent). IsWaitingAt plant walks at one.parcel) (λ (one : Sent). waits at one.parcel ≡ written (sent_row plant row k at one) + flies (handed_on far.0 one))
        (λ one waiting. weights.crossed at far one waiting leads) xs wait)
        ∙ (let split = sum_both (λ (one : Sent). written (sent_row plant row k at one)) (λ one. flies (handed_on far.0 one)) xs in
        let rows = sum_map written (sent_row plant row k at) xs in omega arith)

    dropped : (at : Step) (xs : List Sent) → All (λ (one : Sent). IsWaitingAt plant walks at one.parcel) xs →
        sum_by (λ (one : Sent). waits at one.parcel) xs ≡ sum_by written (map (sent_row plant row k at) xs) + sum_by written (map (lost_row k at) xs)
    dropped at xs wait =
        sum_alike (λ (one : Sent). waits at one.parcel) (λ one. written (sent_row plant row k at one) + written (lost_row k at one)) xs
        (All-weaker (λ (one : Sent). IsWaitingAt plant walks at one.parcel) (λ (one : Sent). waits at one.parcel ≡ written (sent_row plant row k at one) + written (lost_row k at one))
        (λ one waiting. weights.lost at one waiting) xs wait)
        ∙ (let split = sum_both (λ (one : Sent). written (sent_row plant row k at one)) (λ one. written (lost_row k at one)) xs in
        let rows = sum_map written (sent_row plant row k at) xs in
        let lost = sum_map written (lost_row k at) xs in omega arith)

    -- a port without a link sends nothing
    unlinked : (at : Step) (xs : List Sent) → peer_of plant at.0.0 at.1.0 ≡ None → All (λ (one : Sent). IsWaitingAt plant walks at one.parcel) xs → xs ≡ []
    unlinked at [] none wait = refl
    unlinked at (x ∷ xs) none wait =
        let (far, leads, on) = sent_on plant walks have at x.parcel (All-head (λ (one : Sent). IsWaitingAt plant walks at one.parcel) x xs wait) in
        absurd (cc)

    over_nothing : (o : Option Step) → over o (λ (to : Step). 0) ≡ 0
    over_nothing None = refl
    over_nothing (Some far) = refl

    abbrev OfPort : Step → List Sent → Option Step → Bool → Type 0
    OfPort at xs o b =
        sum_by (λ (one : Sent). waits at one.parcel) xs ≡ sum_by written (map (sent_row plant row k at) xs)
        + sum_by written (if b then [] else map (lost_row k at) xs)
        + over o (λ to. if b then sum_by (λ (one : Sent). flies (handed_on to.0 one)) xs else 0)

    of_port : (at : Step) (xs : List Sent) (o : Option Step) (b : Bool) → peer_of plant at.0.0 at.1.0 ≡ o → All (λ (one : Sent). IsWaitingAt plant walks at one.parcel) xs →
        OfPort at xs o b
    of_port at xs None true leads wait =
        subst (λ ys. OfPort at ys None true) (sym (unlinked at xs leads wait)) refl
    of_port at xs (Some far) true leads wait = let whole = crossed at far xs leads wait in omega arith
    of_port at xs o false leads wait = let whole = dropped at xs wait in let none = over_nothing o in omega arith

    port_balance : (at : Step) → held waits at (gate_at gates at) ≡ held waits at (left_of (gate_at gates at) (sent_at at))
        + (sum_by written (sent_rows_at plant bundles row k gates at) + sum_by written (lost_rows_at plant bundles row k gates at)
        + over (peer_of plant at.0.0 at.1.0) (λ to. crossing to at))
    port_balance at =
        let waited = held_at at in
        let sent : OfPort at (sent_at at) (peer_of plant at.0.0 at.1.0) (is_uncut plant row at.0.0 at.1.0) =
        of_port at (sent_at at) (peer_of plant at.0.0 at.1.0) (is_uncut plant row at.0.0 at.1.0) refl (sent_wait at) in
        omega arith

    -- what all links bring
    from_link : (at : Step) (o : Option Step) → sum_by flies (brought_from plant bundles row k gates at.0 o) ≡ over o (λ from. crossing at from)
    from_link at None = refl
    from_link at (Some far) = by_cut (is_uncut plant row far.0.0 far.1.0)
      where
        by_cut : (b : Bool) → sum_by flies (if b then map (handed_on at.0) (sent_at far) else []) ≡ (if b then sum_by (λ (one : Sent). flies (handed_on at.0 one)) (sent_at far) else 0)
        by_cut true = sum_map flies (handed_on at.0) (sent_at far)
        by_cut false = refl

    brought_weight : sum_by flies (brought plant bundles row k gates) ≡ sum_by (λ (at : Step). over (peer_of plant at.0.0 at.1.0) (λ to. crossing to at)) (all_ports plant)
    brought_weight =
        sum_flat_map flies (λ (at : Step). brought_from plant bundles row k gates at.0 (peer_of plant at.0.0 at.1.0)) (all_ports plant)
        ∙ (λ i. sum_by (λ (at : Step). from_link at (peer_of plant at.0.0 at.1.0) i) (all_ports plant))
        ∙ sum_over_links plant rules crossing

    pub sending_weight : held_all plant waits gates ≡ held_all plant waits (after_sending plant bundles row k gates)
        + sum_by written (sent_rows plant bundles row k gates) + sum_by written (lost_rows plant bundles row k gates)
        + sum_by flies (brought plant bundles row k gates)
    sending_weight =
        let Left : Step → ℕ = λ at. held waits at (left_of (gate_at gates at) (sent_at at)) in
        let Rows : Step → ℕ = λ at. sum_by written (sent_rows_at plant bundles row k gates at) in
        let Lost : Step → ℕ = λ at. sum_by written (lost_rows_at plant bundles row k gates at) in
        let Over : Step → ℕ = λ at. over (peer_of plant at.0.0 at.1.0) (λ to. crossing to at) in
        let whole : held_all plant waits gates ≡ sum_by (λ at. Left at + (Rows at + Lost at + Over at)) (all_ports plant) =
        (λ i. sum_by (λ (at : Step). port_balance at i) (all_ports plant)) in
        let one = sum_both Left (λ at. Rows at + Lost at + Over at) (all_ports plant) in
        let two = sum_both (λ at. Rows at + Lost at) Over (all_ports plant) in
        let three = sum_both Rows Lost (all_ports plant) in
        let rows = sum_flat_map written (sent_rows_at plant bundles row k gates) (all_ports plant) in
        let lost = sum_flat_map written (lost_rows_at plant bundles row k gates) (all_ports plant) in
        let brought_in = brought_weight in
        omega arith
