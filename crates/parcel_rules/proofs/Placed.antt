-- Where parcels are: each is at a device of its walk.
use Rattle.std.proofs.Common.{◌≡◌, ◌⊎◌, ℕ, ◌+◌, ◌*◌, ◌/◌, ◌%◌, ◌<◌, Bool, true, false, List, [], ◌∷◌, map, length, Option, Some, find, refl, sym, ◌∙◌, ap, subst, arith, inl, inr, slice_get, All}
use Rattle.std.specs.Prelude.{slice_index_or, ◌==◌, if◌then◌else◌}
use Rattle.std.specs.List.{range_with_len, enumerate_from}
use Rattle.std.proofs.lemmas.Bool.{cases_Bool, eqb-true, eq-eqb, cond-true, cond-false}
use Rattle.std.proofs.lemmas.List.Elements.{All-nil, All-map}
use Rattle.std.proofs.lemmas.List.FromFn.{length-enumerate_from, get_or-enumerate_from}
use Rattle.std.proofs.lemmas.Option.{same_Some, slice_get-get_or}
use Rattle.irt_base.specs.Wiring.{peer_of}
use Rattle.irt_base.specs.declared.numbers.DevId.{DevId}
use Rattle.irt_base.specs.declared.numbers.PortNo.{PortNo}
use Rattle.irt_base.specs.declared.plants.Class.{Class}
use Rattle.irt_base.specs.declared.plants.Plant.{Plant}
use Rattle.irt_base.specs.declared.plants.Traffic.{Traffic}
use Rattle.irt_route.specs.Walks.{IsWalk, far_of}
use Rattle.period_gate.specs.declared.parcels.Parcel.{Parcel}
use Rattle.period_gate.specs.Gate.{queue_of}
use Rattle.parcel_rules.specs.declared.handed.Handed.{Handed}
use Rattle.parcel_rules.specs.Made.{parcel_of, made_by, handed_to, made_at_source, made_in}
use Rattle.parcel_rules.specs.Steps.{Step, steps_from, leaves_from, step_at}
use Rattle.parcel_rules.specs.Loads.{Gates, gate_at}
use Rattle.parcel_rules.proofs.Lists.{everywhere, All-flat_map}

-- ---- a walk goes on until it ends

-- where a walk goes on from a step: at the other end of its link is the end, or another step
pub record GoesOn (plant : Plant) (steps : List Step) (end : ℕ) (at : Step) : Type 0 where
  pub far : Step
  pub leads : peer_of plant at.0.0 at.1.0 ≡ Some far
  pub next : (end ≡ far.0.0) ⊎ ((step : Step) × (find (leaves_from far.0) steps ≡ Some step))

-- a search that has something to find
found_later : (device : DevId) (first step : Step) (steps : List Step) → find (leaves_from device) steps ≡ Some step →
    (other : Step) × (find (leaves_from device) (first ∷ steps) ≡ Some other)
found_later device first step steps is = elim (cases_Bool (leaves_from device first)) [
  | inl here ↦ (first, cond-true (leaves_from device first) (Some first) (find (leaves_from device) steps) here)
  | inr not_here ↦ (step, cond-false (leaves_from device first) (Some first) (find (leaves_from device) steps) not_here ∙ is)
]

-- the walk goes on at its own start, unless it ends there
begins : (plant : Plant) (start : DevId) (ports : List PortNo) (end : ℕ) → IsWalk (peer_of plant) start.0 ports end →
    (end ≡ start.0) ⊎ ((step : Step) × (find (leaves_from start) (steps_from plant start ports) ≡ Some step))
begins plant start [] end walk = inl (sym walk)
begins plant start (port ∷ more) end walk =
    let here : leaves_from start (start, port) ≡ true = eq-eqb start.0 start.0 refl in
    inr ((start, port), cond-true (leaves_from start (start, port)) (Some (start, port)) (find (leaves_from start) (steps_from plant (far_of start (peer_of plant start.0 port.0)) more)) here)

later_on : (plant : Plant) (first : Step) (steps : List Step) (end : ℕ) (at : Step) → GoesOn plant steps end at → GoesOn plant (first ∷ steps) end at
later_on plant first steps end at on = record {
  far = on.far;
  leads = on.leads;
  next = elim on.next [ inl ends ↦ inl ends | inr (step, is) ↦ inr (found_later on.far.0 first step steps is) ];
}

pub goes_on : (plant : Plant) (start : DevId) (ports : List PortNo) (end : ℕ) → IsWalk (peer_of plant) start.0 ports end → (device : DevId) (at : Step) →
    step_at plant start ports device ≡ Some at → GoesOn plant (steps_from plant start ports) end at
goes_on plant start [] end walk device at is = absurd (cc)
goes_on plant start (port ∷ more) end (far, leads, rest) device at is =
    let Steps : DevId → List Step = λ d. steps_from plant d more in
    let same : far_of start (peer_of plant start.0 port.0) ≡ far.0 = ap (far_of start) leads in
    let walk_on = begins plant far.0 more end rest in
    elim (cases_Bool (leaves_from device (start, port))) [
      | inl here ↦
          let first : (start, port) ≡ at = same_Some (start, port) at (sym (cond-true (leaves_from device (start, port)) (Some (start, port))
          (find (leaves_from device) (Steps (far_of start (peer_of plant start.0 port.0)))) here) ∙ is) in
          subst (λ (s : Step). GoesOn plant ((start, port) ∷ Steps (far_of start (peer_of plant start.0 port.0))) end s) first (record {
            far = far;
            leads = leads;
            next = elim walk_on [
              | inl ends ↦ inl ends
              | inr (step, at_far) ↦
                  inr (found_later far.0 (start, port) step (Steps (far_of start (peer_of plant start.0 port.0)))
                  (subst (λ (d : DevId). find (leaves_from far.0) (Steps d) ≡ Some step) (sym same) at_far))
            ];
          })
      | inr not_here ↦
          let tail : find (leaves_from device) (Steps (far_of start (peer_of plant start.0 port.0))) ≡ Some at =
          sym (cond-false (leaves_from device (start, port)) (Some (start, port)) (find (leaves_from device) (Steps (far_of start (peer_of plant start.0 port.0)))) not_here) ∙ is in
          let on = goes_on plant far.0 more end rest device at (subst (λ (d : DevId). find (leaves_from device) (Steps d) ≡ Some at) same tail) in
          later_on plant (start, port) (Steps (far_of start (peer_of plant start.0 port.0))) end at
          (subst (λ (d : DevId). GoesOn plant (Steps d) end at) (sym same) on)
    ]

-- the step that is found leaves the device
pub leaves_device : (device : DevId) (steps : List Step) (at : Step) → find (leaves_from device) steps ≡ Some at → at.0 ≡ device
leaves_device device [] at is = absurd (cc)
leaves_device device (step ∷ steps) at is = elim (cases_Bool (leaves_from device step)) [
  | inl here ↦
      let same : step ≡ at = same_Some step at (sym (cond-true (leaves_from device step) (Some step) (find (leaves_from device) steps) here) ∙ is) in
      ap (λ (s : Step). s.0) (sym same) ∙ (λ i. record { 0 = eqb-true step.0.0 device.0 here i })
  | inr not_here ↦ leaves_device device steps at (sym (cond-false (leaves_from device step) (Some step) (find (leaves_from device) steps) not_here) ∙ is)
]

-- ---- parcels on their walks

-- each traffic entry has a walk from its source to its target
abbrev pub HaveWalks : Plant → List (List PortNo) → Type 0
HaveWalks plant walks = (number : ℕ) (t : Traffic) → slice_get plant.traffic number ≡ Some t →
    IsWalk (peer_of plant) t.source.0 (slice_index_or walks number []) t.target.0

module _ (plant : Plant) (walks : List (List PortNo)) where
  abbrev pub walk_step : Traffic → Parcel → DevId → Option Step
  walk_step t parcel device = step_at plant t.source (slice_index_or walks parcel.traffic []) device

  -- a parcel at its target, or at a device that its walk leaves
  pub record IsOn (h : Handed) : Type 0 where
    pub t : Traffic
    pub there : slice_get plant.traffic h.parcel.traffic ≡ Some t
    pub place : (t.target.0 ≡ h.device.0) ⊎ ((at : Step) × (walk_step t h.parcel h.device ≡ Some at))

  -- a parcel at a port by which its walk goes on
  pub record IsWaitingAt (at : Step) (parcel : Parcel) : Type 0 where
    pub t : Traffic
    pub there : slice_get plant.traffic parcel.traffic ≡ Some t
    pub step : walk_step t parcel at.0 ≡ Some at

  abbrev pub AllWait : Gates → Type 0
  AllWait gates = (at : Step) (kind : Class) → All (IsWaitingAt at) (queue_of kind (gate_at gates at))

  module _ (have : HaveWalks plant walks) where
    -- where a parcel that waits is sent
    pub sent_on : (at : Step) (parcel : Parcel) → IsWaitingAt at parcel → (far : Step) × (peer_of plant at.0.0 at.1.0 ≡ Some far) × IsOn (handed_to far.0 parcel)
    sent_on at parcel is =
        let walk = have parcel.traffic is.t is.there in
        let on = goes_on plant is.t.source (slice_index_or walks parcel.traffic []) is.t.target.0 walk at.0 at is.step in
        (on.far, on.leads, record { t = is.t; there = is.there; place = on.next })

    made_on : (k number : ℕ) (t : Traffic) → slice_get plant.traffic number ≡ Some t → All IsOn (made_at_source k number t)
    made_on k number t there =
        let begin = begins plant t.source (slice_index_or walks number []) t.target.0 (have number t there) in
        All-map IsOn (handed_to t.source) (made_by k number t) (by_due (k % t.every == 0) begin)
      where
        by_due : (b : Bool) → (t.target.0 ≡ t.source.0) ⊎ ((at : Step) × (step_at plant t.source (slice_index_or walks number []) t.source ≡ Some at)) →
            All (λ p. IsOn (handed_to t.source p)) (if b then map (parcel_of number t) (range_with_len (k / t.every * t.count) t.count) else [])
        by_due false begin = All-nil (λ p. IsOn (handed_to t.source p))
        by_due true begin =
            All-map (λ p. IsOn (handed_to t.source p)) (parcel_of number t) (range_with_len (k / t.every * t.count) t.count)
            (everywhere (λ (s : ℕ). IsOn (handed_to t.source (parcel_of number t s))) (range_with_len (k / t.every * t.count) t.count)
            (λ s. record { t = t; there = there; place = begin }))

    pub entries_there : All (λ (e : ℕ × Traffic). slice_get plant.traffic e.0 ≡ Some e.1) (enumerate_from 0 plant.traffic)
    entries_there = λ k d below.
        let within : k < length plant.traffic = omega (arith, length-enumerate_from 0 plant.traffic) in
        let whole = get_or-enumerate_from 0 plant.traffic k d within in
        let number : 0 + k ≡ k = omega arith in
        subst (λ (e : ℕ × Traffic). slice_get plant.traffic e.0 ≡ Some e.1) (sym whole)
        (ap (slice_get plant.traffic) number ∙ slice_get-get_or plant.traffic k d.1 within)

    pub all_made_on : (k : ℕ) → All IsOn (made_in plant k)
    all_made_on k =
        All-flat_map IsOn (λ (e : ℕ × Traffic). slice_get plant.traffic e.0 ≡ Some e.1) (λ (e : ℕ × Traffic). made_at_source k e.0 e.1)
        (enumerate_from 0 plant.traffic) entries_there (λ e there. made_on k e.0 e.1 there)
