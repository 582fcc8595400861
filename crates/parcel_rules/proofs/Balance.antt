-- Weights of parcels that wait, that fly and that have rows: what a cycle keeps of their sum.
use Rattle.std.proofs.Common.{◌≡◌, ◌⊎◌, ℕ, ◌+◌, Bool, true, false, List, [], ◌∷◌, ◌++◌, length, Option, Some, None, refl, sym, ◌∙◌, ap, subst, arith, inl, inr, slice_get, All}
use Rattle.std.specs.Prelude.{if◌then◌else◌, ◌==◌, fold, slice_index_or}
use Rattle.std.specs.List.{Contains, sum_by}
use Rattle.std.proofs.lemmas.Bool.{eqb-true, eq-eqb, both_ways}
use Rattle.std.proofs.lemmas.List.Elements.{All-push, All-head, All-tail}
use Rattle.std.proofs.lemmas.List.Sums.{sum_by-cons, sum_by_push}
use Rattle.irt_base.specs.Wiring.{peer_of}
use Rattle.irt_base.specs.declared.numbers.PortNo.{PortNo}
use Rattle.irt_base.specs.declared.plants.Class.{Class}
use Rattle.irt_base.specs.declared.plants.Class.TheVariants.{Orange, Green}
use Rattle.irt_base.specs.declared.plants.Plant.{Plant}
use Rattle.irt_base.specs.declared.plants.Traffic.{Traffic}
use Rattle.plant_rules.specs.Meets.{MeetsRules}
use Rattle.plan_rules.specs.World.{WorldRow}
use Rattle.period_gate.specs.declared.parcels.Parcel.{Parcel}
use Rattle.period_gate.specs.declared.parcels.Sent.{Sent}
use Rattle.period_gate.specs.declared.queue.TheConstants.{QUEUE_ROOM}
use Rattle.period_gate.specs.Gate.{Waiting, queue_of, with_last}
use Rattle.cycle_rows.specs.declared.rows.JournalRow.{JournalRow}
use Rattle.parcel_rules.specs.declared.handed.Handed.{Handed}
use Rattle.parcel_rules.specs.Made.{handed_to}
use Rattle.parcel_rules.specs.Steps.{Step, steps_from}
use Rattle.parcel_rules.specs.Loads.{Gates, gate_at, put, Offers, refused_row, came_row, offer, offer_by, pass_on, hand_over}
use Rattle.parcel_rules.specs.Cycle.{all_ports}
use Rattle.parcel_rules.specs.Rows.{sent_row, lost_row}
use Rattle.parcel_rules.proofs.Offered.{either_way}
use Rattle.parcel_rules.proofs.Placed.{HaveWalks, walk_step, IsOn, IsWaitingAt, AllWait, sent_on, leaves_device}
use Rattle.parcel_rules.proofs.Ports.{ports_differ}
use Rattle.parcel_rules.proofs.Sums.{sum_changed, is_same, same_step, same_self, other_step}
use Rattle.parcel_rules.proofs.Wires.{linked_among}

-- weights that stay the same as parcels are handed over, put into a queue, refused, sent, lost
pub record AreWeights (plant : Plant) (walks : List (List PortNo)) (row : WorldRow) (k : ℕ) (waits : Step → Parcel → ℕ) (flies : Handed → ℕ) (written : JournalRow → ℕ) : Type 0 where
  pub came : (h : Handed) (t : Traffic) → slice_get plant.traffic h.parcel.traffic ≡ Some t → t.target.0 ≡ h.device.0 → written (came_row k h) ≡ flies h
  pub refused : (h : Handed) (t : Traffic) (at : Step) → slice_get plant.traffic h.parcel.traffic ≡ Some t → walk_step plant walks t h.parcel h.device ≡ Some at →
      written (refused_row k at h.parcel) ≡ flies h
  pub queued : (h : Handed) (t : Traffic) (at : Step) → slice_get plant.traffic h.parcel.traffic ≡ Some t → walk_step plant walks t h.parcel h.device ≡ Some at →
      waits at h.parcel ≡ flies h
  pub crossed : (at far : Step) (one : Sent) → IsWaitingAt plant walks at one.parcel → peer_of plant at.0.0 at.1.0 ≡ Some far →
      waits at one.parcel ≡ written (sent_row plant row k at one) + flies (handed_to far.0 one.parcel)
  pub lost : (at : Step) (one : Sent) → IsWaitingAt plant walks at one.parcel →
      waits at one.parcel ≡ written (sent_row plant row k at one) + written (lost_row k at one)

-- what waits at a port, and at all ports
abbrev pub held : (Step → Parcel → ℕ) → Step → Waiting → ℕ
held waits at gate = sum_by (waits at) gate.orange + sum_by (waits at) gate.green

abbrev pub held_all : Plant → (Step → Parcel → ℕ) → Gates → ℕ
held_all plant waits gates = sum_by (λ (at : Step). held waits at (gate_at gates at)) (all_ports plant)

held_last : (waits : Step → Parcel → ℕ) (at : Step) (kind : Class) (parcel : Parcel) (gate : Waiting) →
    held waits at (with_last kind parcel gate) ≡ held waits at gate + waits at parcel
held_last waits at Orange parcel gate = omega (arith, sum_by_push (waits at) gate.orange parcel)
held_last waits at Green parcel gate = omega (arith, sum_by_push (waits at) gate.green parcel)

all_last : (P : Parcel → Type 0) (kind other : Class) (parcel : Parcel) (gate : Waiting) → P parcel → All P (queue_of other gate) →
    All P (queue_of other (with_last kind parcel gate))
all_last P Orange Orange parcel gate is all = All-push P gate.orange parcel all is
all_last P Orange Green parcel gate is all = all
all_last P Green Orange parcel gate is all = all
all_last P Green Green parcel gate is all = All-push P gate.green parcel all is

module _ (plant : Plant) (rules : MeetsRules plant) (walks : List (List PortNo)) (have : HaveWalks plant walks) (row : WorldRow) (k : ℕ)
    (waits : Step → Parcel → ℕ) (flies : Handed → ℕ) (written : JournalRow → ℕ) (weights : AreWeights plant walks row k waits flies written) where
  -- ---- handing over

  abbrev pub weight_of : Offers → ℕ
  weight_of o = held_all plant waits o.gates + sum_by written o.refused + sum_by written o.came

  -- a parcel's weight goes into the offers
  pub record Takes (h : Handed) (o after : Offers) : Type 0 where
    pub weight : weight_of after ≡ weight_of o + flies h
    pub wait : AllWait plant walks after.gates

  put_weight : (gates : Gates) (at : Step) (gate : Waiting) → Contains (all_ports plant) at →
      held_all plant waits (put gates at gate) + held waits at (gate_at gates at) ≡ held_all plant waits gates + held waits at gate
  put_weight gates at gate among =
      let Before : Step → ℕ = λ x. held waits x (gate_at gates x) in
      let After : Step → ℕ = λ x. held waits x (gate_at (put gates at gate) x) in
      let here : After at ≡ held waits at gate = ap (λ (b : Bool). held waits at (if b then gate else gate_at gates at)) (same_self at) in
      let whole = sum_changed After Before at (λ x differ. ap (λ (b : Bool). held waits x (if b then gate else gate_at gates x)) (other_step x at differ (is_same x at) refl))
      (all_ports plant) (ports_differ plant) among in
      omega arith

  put_wait : (gates : Gates) (at : Step) (kind : Class) (parcel : Parcel) → AllWait plant walks gates → IsWaitingAt plant walks at parcel →
      AllWait plant walks (put gates at (with_last kind parcel (gate_at gates at)))
  put_wait gates at kind parcel all is = λ x other. by_test x other (is_same x at) refl
    where
      by_test : (x : Step) (other : Class) (b : Bool) → is_same x at ≡ b →
          All (IsWaitingAt plant walks x) (queue_of other (if b then with_last kind parcel (gate_at gates at) else gate_at gates x))
      by_test x other false test = all x other
      by_test x other true test =
          subst (λ (y : Step). All (IsWaitingAt plant walks y) (queue_of other (with_last kind parcel (gate_at gates at)))) (sym (same_step x at test))
          (all_last (IsWaitingAt plant walks at) kind other parcel (gate_at gates at) is (all at other))

  take_offer : (h : Handed) (t : Traffic) (at : Step) (o : Offers) → AllWait plant walks o.gates → slice_get plant.traffic h.parcel.traffic ≡ Some t →
      walk_step plant walks t h.parcel h.device ≡ Some at → IsWaitingAt plant walks at h.parcel → Takes h o (offer k t.«class» h.parcel o at)
  take_offer h t at o all there step is =
      let (far, leads, on) = sent_on plant walks have at h.parcel is in
      let among = linked_among plant rules at far leads in
      let gate = with_last t.«class» h.parcel (gate_at o.gates at) in
      let more = put_weight o.gates at gate among in
      let last = held_last waits at t.«class» h.parcel (gate_at o.gates at) in
      let one = weights.refused h t at there step in
      let two = weights.queued h t at there step in
      either_way (Takes h o) (length (queue_of t.«class» (gate_at o.gates at)) == QUEUE_ROOM) _ _
      (record { weight = omega (arith, sum_by_push written o.refused (refused_row k at h.parcel)); wait = all })
      (record { weight = omega arith; wait = put_wait o.gates at t.«class» h.parcel all is })

  take_step : (h : Handed) (t : Traffic) (o : Offers) → AllWait plant walks o.gates → slice_get plant.traffic h.parcel.traffic ≡ Some t →
      (step : Option Step) → walk_step plant walks t h.parcel h.device ≡ step → (at : Step) → step ≡ Some at → Takes h o (offer_by k t.«class» h.parcel o step)
  take_step h t o all there None is at same = absurd (cc)
  take_step h t o all there (Some step) is at same =
      let leaves : step.0 ≡ h.device = leaves_device h.device (steps_from plant t.source (slice_index_or walks h.parcel.traffic [])) step is in
      take_offer h t step o all there is (record { t = t; there = there; step = ap (walk_step plant walks t h.parcel) leaves ∙ is })

  take_entry : (h : Handed) (t : Traffic) (o : Offers) → AllWait plant walks o.gates → slice_get plant.traffic h.parcel.traffic ≡ Some t →
      (t.target.0 ≡ h.device.0) ⊎ ((at : Step) × (walk_step plant walks t h.parcel h.device ≡ Some at)) → (b : Bool) → (t.target.0 == h.device.0) ≡ b →
      Takes h o (if b then record { gates = o.gates; refused = o.refused; came = o.came ++ came_row k h ∷ [] }
      else offer_by k t.«class» h.parcel o (walk_step plant walks t h.parcel h.device))
  take_entry h t o all there place true test =
      let one = weights.came h t there (eqb-true t.target.0 h.device.0 test) in
      record { weight = omega (arith, sum_by_push written o.came (came_row k h)); wait = all }
  take_entry h t o all there (inl target) false test = absurd (let yes = eq-eqb t.target.0 h.device.0 target in both_ways (t.target.0 == h.device.0) test yes)
  take_entry h t o all there (inr (at, step)) false test =
      take_step h t o all there (walk_step plant walks t h.parcel h.device) refl at step

  take_one : (h : Handed) (o : Offers) → IsOn plant walks h → AllWait plant walks o.gates → Takes h o (hand_over plant walks k o h)
  take_one h o on all =
      subst (λ e. Takes h o (pass_on plant walks k o h e)) (sym on.there)
      (take_entry h on.t o all on.there on.place (on.t.target.0 == h.device.0) refl)

  -- all that is handed over
  pub record TakesAll (hs : List Handed) (o after : Offers) : Type 0 where
    pub weight : weight_of after ≡ weight_of o + sum_by flies hs
    pub wait : AllWait plant walks after.gates

  pub take_all : (hs : List Handed) (o : Offers) → All (IsOn plant walks) hs → AllWait plant walks o.gates → TakesAll hs o (fold (hand_over plant walks k) o hs)
  take_all [] o on all = record { weight = omega arith; wait = all }
  take_all (h ∷ hs) o on all =
      let one = take_one h o (All-head (IsOn plant walks) h hs on) all in
      let rest = take_all hs (hand_over plant walks k o h) (All-tail (IsOn plant walks) h hs on) one.wait in
      let first = one.weight in
      let later = rest.weight in
      record { weight = omega (arith, sum_by-cons flies h hs); wait = rest.wait }
