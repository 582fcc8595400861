-- A parcel is handed over, by the switches as by the rules.
use Rattle.std.proofs.Common.{◌≡◌, ℕ, ◌-◌, ◌<◌, ◌≤◌, Bool, true, false, List, [], ◌∷◌, ◌++◌, length, set, get_or, Option, Some, None, refl, sym, ◌∙◌, ap, ap₂, subst, arith, inl, inr, slice_get, All, Contains, length-set, append-nil}
use Rattle.std.specs.Prelude.{◌==◌, ◌&&◌, if◌then◌else◌, slice_index_or, find, IfSome}
use Rattle.std.proofs.lemmas.Bool.{cases_Bool, eqb-true, eq-eqb, cond-true, cond-false}
use Rattle.std.proofs.Math.Seq.{map-set_same}
use Rattle.std.proofs.lemmas.List.{set-get_or}
use Rattle.std.proofs.lemmas.List.Elements.{All-tail}
use Rattle.std.proofs.lemmas.Option.{same_Some, slice_get_within, slice_get-get_or, slice_get_read, get_or_from_slice_get}
use Rattle.irt_base.specs.declared.blocks.Bundle.{Bundle}
use Rattle.irt_base.specs.declared.blocks.Period.{Period}
use Rattle.irt_base.specs.declared.numbers.PortNo.{PortNo}
use Rattle.irt_base.specs.declared.plants.Class.{Class}
use Rattle.irt_base.specs.declared.plants.Class.TheVariants.{Orange, Green}
use Rattle.irt_base.specs.declared.plants.Plant.{Plant}
use Rattle.irt_base.specs.declared.plants.Traffic.{Traffic}
use Rattle.irt_switch.specs.Begin.{begun_gate}
use Rattle.irt_switch.specs.State.{SwitchState, HasPort, gate_of, with_gate}
use Rattle.net_begin.proofs.Devices.{at_set, at_place}
use Rattle.parcel_loads.specs.Follows.{HoldsAsMany, offers_after}
use Rattle.parcel_loads.specs.Passing.{offered_to, passed_of, after_passing}
use Rattle.parcel_loads.specs.declared.passing.Passed.{Passed}
use Rattle.parcel_loads.specs.declared.passing.Passed.TheVariants.{Came, Queued, Refused, Stays}
use Rattle.parcel_rules.specs.Cycle.{all_ports}
use Rattle.parcel_rules.specs.Loads.{Gates, gate_at, put, Offers, pass_on, hand_over, refused_row}
use Rattle.parcel_rules.specs.Steps.{Step, steps_from, leaves_from, step_at}
use Rattle.parcel_rules.specs.declared.handed.Handed.{Handed}
use Rattle.parcel_rules.proofs.Placed.{leaves_device}
use Rattle.parcel_rules.proofs.Sums.{is_same, same_step}
use Rattle.irt_base.specs.Periods.{period_at}
use Rattle.irt_base.specs.declared.blocks.Side.TheVariants.{Tx}
use Rattle.irt_base.specs.declared.numbers.DevId.{DevId}
use Rattle.period_gate.specs.declared.parcels.Parcel.{Parcel}
use Rattle.period_gate.specs.declared.queue.TheConstants.{QUEUE_ROOM}
use Rattle.period_gate.specs.Gate.{Waiting, queue_of, with_last}
use Rattle.plan_rules.specs.World.{WorldRow}
use Rattle.net_parcels.proofs.Drained.{gate_put}
use Rattle.net_parcels.proofs.Sendings.{put_keeps, gate_like, other_gate, at_index}
use Rattle.net_parcels.specs.Gates.{HasGate, IsGateAt, AreGatesAt, AreAtPorts, HoldOffers, but_gates, all_but_gates}
use Rattle.net_parcels.specs.Loads.{AreStepsOf}
use Rattle.net_parcels.specs.Notes.{NotesState, refused_by, came_by}

-- the law of handing over
abbrev pub FollowsRules : Type 0
FollowsRules =
    (plant : Plant) (walks : List (List PortNo)) (k : ℕ) (o : Offers) (h : Handed) (t : Traffic) (state : SwitchState) →
    HoldsAsMany state t.«class» o.gates (step_at plant t.source (slice_index_or walks h.parcel.traffic []) h.device) →
    pass_on plant walks k o h (Some t)
    ≡ offers_after k t o h (step_at plant t.source (slice_index_or walks h.parcel.traffic []) h.device)
    (passed_of state t (step_at plant t.source (slice_index_or walks h.parcel.traffic []) h.device) h)

-- the period of a gate changes no queue
same_queue : (kind : Class) (b : Bundle) (tx : Period) (gate : Waiting) → queue_of kind (begun_gate b tx gate) ≡ queue_of kind gate
same_queue Orange b tx gate = refl
same_queue Green b tx gate = refl

last_begun : (kind : Class) (parcel : Parcel) (b : Bundle) (tx : Period) (gate : Waiting) →
    with_last kind parcel (begun_gate b tx gate) ≡ begun_gate b tx (with_last kind parcel gate)
last_begun Orange parcel b tx gate = refl
last_begun Green parcel b tx gate = refl

-- what is found is among the list
pub found_among : {A : Type 0} (p : A → Bool) (xs : List A) (x : A) (P : A → Type 0) → All P xs → find p xs ≡ Some x → P x
found_among p [] x P all is = absurd (cc)
found_among p (y ∷ ys) x P all is = elim (cases_Bool (p y)) [
  | inl here ↦ subst P (same_Some y x (sym (cond-true (p y) (Some y) (find p ys) here) ∙ is)) (all 0 y (omega arith))
  | inr not_here ↦ found_among p ys x P (All-tail P y ys all) (sym (cond-false (p y) (Some y) (find p ys) not_here) ∙ is)
]

not_equal : (a b : ℕ) → (a == b) ≡ false → a ≡ b → ⊥
not_equal a b apart same = absurd (let e = sym (eq-eqb a b same) ∙ apart in cc)

second_fails : (a b : Bool) → a ≡ true → (a && b) ≡ false → b ≡ false
second_fails true b is fails = fails
second_fails false b is fails = absurd (cc)

-- the switch's port has this period in cycle k
abbrev HasPeriod : ℕ → SwitchState → Step → Period → Type 0
HasPeriod k s at tx = period_at s.bundle.periods at.1.0 k Tx ≡ Some tx

module _ (plant : Plant) (bundles : List Bundle) (row : WorldRow) (k : ℕ) (switches : List SwitchState) where
  abbrev At : Step → Waiting → Type 0
  At at gate = IsGateAt plant bundles row k switches at gate

  -- ---- a port gets another gate

  module _ (at : Step) (s : SwitchState) (gate : Waiting) (there : slice_get switches at.0.0 ≡ Some s) (from_one : 1 ≤ at.1.0) where
    abbrev Put : SwitchState
    Put = with_gate s at.1.0 gate

    abbrev Now : Step → Waiting → Type 0
    Now other waiting = IsGateAt plant bundles row k (set switches at.0.0 Put) other waiting

    put_there : slice_get (set switches at.0.0 Put) at.0.0 ≡ Some Put
    put_there = at_place switches at.0.0 Put (slice_get_within switches at.0.0 s there)

    other_device : (other : Step) (waiting : Waiting) → (other.0.0 == at.0.0) ≡ false → At other waiting → Now other waiting
    other_device other waiting apart is = record {
      s = is.s;
      tx = is.tx;
      there = at_set switches at.0.0 other.0.0 Put (not_equal other.0.0 at.0.0 apart) ∙ is.there;
      bundle = is.bundle;
      in_step = is.in_step;
      has = is.has;
      period = is.period;
      begun = is.begun;
    }

    other_port : (other : Step) (waiting : Waiting) → other.0.0 ≡ at.0.0 → (other.1.0 == at.1.0) ≡ false → At other waiting → Now other waiting
    other_port other waiting same apart is =
        let one : is.s ≡ s = same_Some is.s s (sym is.there ∙ ap (slice_get switches) same ∙ there) in
        let count = length-set s.gates (at.1.0 - 1) gate in
        let counted = ap (λ (x : SwitchState). length x.gates) one in
        record {
          s = Put;
          tx = is.tx;
          there = ap (slice_get (set switches at.0.0 Put)) same ∙ put_there;
          bundle = is.bundle ∙ ap (λ (x : SwitchState). Some x.bundle) one;
          in_step = ap (λ (x : SwitchState). x.in_step) (sym one) ∙ is.in_step;
          has = gate_like Put is.s other.1.0 (put_keeps s at.1.0 gate ∙ ap but_gates (sym one)) (omega arith) is.has;
          period = subst (λ (x : SwitchState). HasPeriod k x other is.tx) one is.period;
          begun = other_gate s at.1.0 other.1.0 gate from_one is.has.named.0 (λ e. not_equal other.1.0 at.1.0 apart (sym e))
              ∙ ap (λ (x : SwitchState). gate_of x other.1.0) (sym one) ∙ is.begun
              ∙ ap (λ (x : SwitchState). begun_gate x.bundle is.tx waiting) one;
        }

    -- the port itself, where the rules change the gate in the same way
    same_port : (kind : Class) (parcel : Parcel) (waiting : Waiting) → gate ≡ with_last kind parcel (gate_of s at.1.0) → At at waiting → Now at (with_last kind parcel waiting)
    same_port kind parcel waiting changed is =
        let one : is.s ≡ s = same_Some is.s s (sym is.there ∙ there) in
        let count = length-set s.gates (at.1.0 - 1) gate in
        let counted = ap (λ (x : SwitchState). length x.gates) one in
        record {
          s = Put;
          tx = is.tx;
          there = put_there;
          bundle = is.bundle ∙ ap (λ (x : SwitchState). Some x.bundle) one;
          in_step = ap (λ (x : SwitchState). x.in_step) (sym one) ∙ is.in_step;
          has = gate_like Put is.s at.1.0 (put_keeps s at.1.0 gate ∙ ap but_gates (sym one)) (omega arith) is.has;
          period = subst (λ (x : SwitchState). HasPeriod k x at is.tx) one is.period;
          begun = gate_put s at.1.0 gate (subst (λ (x : SwitchState). HasGate x at.1.0) one is.has)
              ∙ changed ∙ ap (λ (x : SwitchState). with_last kind parcel (gate_of x at.1.0)) (sym one)
              ∙ ap (with_last kind parcel) is.begun ∙ last_begun kind parcel is.s.bundle is.tx waiting
              ∙ ap (λ (x : SwitchState). begun_gate x.bundle is.tx (with_last kind parcel waiting)) one;
        }

    pub put_last : (kind : Class) (parcel : Parcel) (gates : Gates) → gate ≡ with_last kind parcel (gate_of s at.1.0) →
        Contains (all_ports plant) at → AreGatesAt plant bundles row k switches gates →
        AreGatesAt plant bundles row k (set switches at.0.0 Put) (put gates at (with_last kind parcel (gate_at gates at)))
    put_last kind parcel gates changed among all other among_too =
        let Rules : Bool → Type 0 = λ b. Now other (if b then with_last kind parcel (gate_at gates at) else gate_at gates other) in
        elim (cases_Bool (is_same other at)) [
          | inl same ↦
              let it : other ≡ at = same_step other at same in
              subst Rules (sym same) (subst (λ (x : Step). Now x (with_last kind parcel (gate_at gates at))) (sym it)
              (same_port kind parcel (gate_at gates at) changed (all at among)))
          | inr apart ↦
              subst Rules (sym apart)
              (elim (cases_Bool (other.0.0 == at.0.0)) [
                | inl same ↦
                    other_port other (gate_at gates other) (eqb-true other.0.0 at.0.0 same) (second_fails (other.0.0 == at.0.0) (other.1.0 == at.1.0) same apart) (all other among_too)
                | inr differs ↦ other_device other (gate_at gates other) differs (all other among_too)
              ])
        ]

  -- ---- handing over

  module _ (notes : NotesState) (walks : List (List PortNo)) (o : Offers) (h : Handed) (t : Traffic) (s : SwitchState)
      (holds : HoldOffers plant bundles row k switches notes o) (there : slice_get switches h.device.0 ≡ Some s) where
    -- the notes, and the switches, by what became of it
    abbrev notes_by : Passed → NotesState
    notes_by r = record notes { refused = notes.refused ++ refused_by k h r; came = notes.came ++ came_by k h r }

    abbrev IsDone : Option Step → Passed → Type 0
    IsDone step r = HoldOffers plant bundles row k (set switches h.device.0 (after_passing s t.«class» h.parcel r)) (notes_by r) (offers_after k t o h step r)

    unchanged : AreGatesAt plant bundles row k (set switches h.device.0 s) o.gates
    unchanged =
        let same : switches ≡ set switches h.device.0 s =
        sym (set-get_or switches h.device.0 s) ∙ ap (set switches h.device.0) (get_or_from_slice_get switches h.device.0 s s there) in
        subst (λ (xs : List SwitchState). AreGatesAt plant bundles row k xs o.gates) same holds.gates

    came_done : (step : Option Step) → IsDone step Came
    came_done step = record {
      gates = unchanged;
      refused = append-nil notes.refused ∙ holds.refused;
      came = ap (λ rows. rows ++ came_by k h Came) holds.came;
    }

    stays_done : (step : Option Step) → IsDone step Stays
    stays_done step = record { gates = unchanged; refused = append-nil notes.refused ∙ holds.refused; came = append-nil notes.came ∙ holds.came }

    refused_done : (at : Step) → at.0 ≡ h.device → IsDone (Some at) (Refused at.1)
    refused_done at here = record {
      gates = unchanged;
      refused = ap₂ (λ rows (d : DevId). rows ++ refused_row k (d, at.1) h.parcel ∷ []) holds.refused (sym here);
      came = append-nil notes.came ∙ holds.came;
    }

    queued_done : (at : Step) → Contains (all_ports plant) at → at.0 ≡ h.device → IsDone (Some at) (Queued at.1)
    queued_done at among here = record {
      gates =
          (let at_device : slice_get switches at.0.0 ≡ Some s = ap (λ (d : DevId). slice_get switches d.0) here ∙ there in
          let one = holds.gates at among in
          subst (λ (d : DevId). AreGatesAt plant bundles row k (set switches d.0 (with_gate s at.1.0 (with_last t.«class» h.parcel (gate_of s at.1.0))))
          (put o.gates at (with_last t.«class» h.parcel (gate_at o.gates at)))) here
          (put_last at s (with_last t.«class» h.parcel (gate_of s at.1.0)) at_device one.has.named.0 t.«class» h.parcel o.gates refl among holds.gates));
      refused = append-nil notes.refused ∙ holds.refused;
      came = append-nil notes.came ∙ holds.came;
    }

    offered_done : (step : Option Step) → IfSome step (λ at. Contains (all_ports plant) at × (at.0 ≡ h.device)) → IsDone step (offered_to s t.«class» step)
    offered_done None any = stays_done None
    offered_done (Some at) (among, here) = by_full (length (queue_of t.«class» (gate_of s at.1.0)) == QUEUE_ROOM)
      where
        by_full : (b : Bool) → IsDone (Some at) (if b then Refused at.1 else Queued at.1)
        by_full true = refused_done at here
        by_full false = queued_done at among here

    passed_done : (step : Option Step) → IfSome step (λ at. Contains (all_ports plant) at × (at.0 ≡ h.device)) → IsDone step (passed_of s t step h)
    passed_done step is = by_target (t.target.0 == h.device.0)
      where
        by_target : (b : Bool) → IsDone step (if b then Came else offered_to s t.«class» step)
        by_target true = came_done step
        by_target false = offered_done step is

    as_many : (step : Option Step) → IfSome step (λ at. Contains (all_ports plant) at × (at.0 ≡ h.device)) → HoldsAsMany s t.«class» o.gates step
    as_many None any = tt
    as_many (Some at) (among, here) =
        let one = holds.gates at among in
        let same : one.s ≡ s = same_Some one.s s (sym one.there ∙ ap (λ (d : DevId). slice_get switches d.0) here ∙ there) in
        ap (λ (x : SwitchState). length (queue_of t.«class» (gate_of x at.1.0))) (sym same)
        ∙ ap (λ (g : Waiting). length (queue_of t.«class» g)) one.begun
        ∙ ap length (same_queue t.«class» one.s.bundle one.tx (gate_at o.gates at))

    pub handed_over : FollowsRules → (walk : List Step) → All (Contains (all_ports plant)) walk → slice_get plant.traffic h.parcel.traffic ≡ Some t →
        walk ≡ steps_from plant t.source (slice_index_or walks h.parcel.traffic []) → (r : Passed) → r ≡ passed_of s t (find (leaves_from h.device) walk) h →
        (after : SwitchState) → after ≡ after_passing s t.«class» h.parcel r → (noted : NotesState) → noted ≡ notes_by r →
        HoldOffers plant bundles row k (set switches h.device.0 after) noted (hand_over plant walks k o h)
    handed_over follows walk at_ports entry is_walk r passed after passed_to noted is_noted =
        let Step_of : List Step → Option Step = find (leaves_from h.device) in
        let step : Option Step = step_at plant t.source (slice_index_or walks h.parcel.traffic []) h.device in
        let same : Step_of walk ≡ step = ap Step_of is_walk in
        let placed = subst (λ x. IfSome x (λ at. Contains (all_ports plant) at × (at.0 ≡ h.device))) same (found_at walk at_ports) in
        let done = passed_done step placed in
        let result : passed_of s t step h ≡ r = ap (λ x. passed_of s t x h) (sym same) ∙ sym passed in
        let rules : offers_after k t o h step (passed_of s t step h) ≡ hand_over plant walks k o h =
        sym (follows plant walks k o h t s (as_many step placed)) ∙ ap (pass_on plant walks k o h) (sym entry) in
        let with_rules : HoldOffers plant bundles row k (set switches h.device.0 (after_passing s t.«class» h.parcel (passed_of s t step h))) (notes_by (passed_of s t step h)) (hand_over plant walks k o h) =
        subst (HoldOffers plant bundles row k (set switches h.device.0 (after_passing s t.«class» h.parcel (passed_of s t step h))) (notes_by (passed_of s t step h))) rules done in
        let with_result : HoldOffers plant bundles row k (set switches h.device.0 (after_passing s t.«class» h.parcel r)) (notes_by r) (hand_over plant walks k o h) =
        subst (λ (x : Passed). HoldOffers plant bundles row k (set switches h.device.0 (after_passing s t.«class» h.parcel x)) (notes_by x) (hand_over plant walks k o h)) result with_rules in
        subst (λ (x : SwitchState). HoldOffers plant bundles row k (set switches h.device.0 x) noted (hand_over plant walks k o h)) (sym passed_to)
        (subst (λ (x : NotesState). HoldOffers plant bundles row k (set switches h.device.0 (after_passing s t.«class» h.parcel r)) x (hand_over plant walks k o h)) (sym is_noted) with_result)
      where
        found_at : (xs : List Step) → All (Contains (all_ports plant)) xs →
            IfSome (find (leaves_from h.device) xs) (λ at. Contains (all_ports plant) at × (at.0 ≡ h.device))
        found_at xs all = by_found (find (leaves_from h.device) xs) refl
          where
            by_found : (x : Option Step) → find (leaves_from h.device) xs ≡ x → IfSome x (λ at. Contains (all_ports plant) at × (at.0 ≡ h.device))
            by_found None is = tt
            by_found (Some at) is = (found_among (leaves_from h.device) xs at (Contains (all_ports plant)) all is, leaves_device h.device xs at is)

-- handing over leaves all but the gates
pub passing_keeps : (s : SwitchState) (kind : Class) (parcel : Parcel) (r : Passed) → but_gates (after_passing s kind parcel r) ≡ but_gates s
passing_keeps s kind parcel Came = refl
passing_keeps s kind parcel (Queued port) = put_keeps s port.0 (with_last kind parcel (gate_of s port.0))
passing_keeps s kind parcel (Refused port) = refl
passing_keeps s kind parcel Stays = refl

-- ---- as the code does it

switch_at : (switches : List SwitchState) (device from : ℕ) (d : SwitchState) → from ≡ device → device < length switches → slice_get switches device ≡ Some (get_or switches from d)
switch_at switches device from d is below = slice_get-get_or switches device d below ∙ ap (λ n. Some (get_or switches n d)) (sym is)

pub walk_there : (steps : List (List Step)) (number : ℕ) (walk : List Step) → number < length steps → walk ≡ get_or steps number walk → Some walk ≡ slice_get steps number
walk_there steps number walk below is = sym (slice_get_read steps (length steps) number walk refl below is)

module _ (plant : Plant) (bundles : List Bundle) (row : WorldRow) (k : ℕ) (switches : List SwitchState) (notes : NotesState) (o : Offers)
    (holds : HoldOffers plant bundles row k switches notes o) (h : Handed) (from : ℕ) (d : SwitchState) (is : from ≡ h.device.0) (below : h.device.0 < length switches)
    (steps : List (List Step)) (at_ports : AreAtPorts plant steps) (number : ℕ) (walk slice : List Step) (lookup : Some walk ≡ slice_get steps number) (same : slice ≡ walk) where
  slice_at_ports : All (Contains (all_ports plant)) slice
  slice_at_ports = subst (All (Contains (all_ports plant))) (sym same) (at_index (All (Contains (all_ports plant))) steps number walk at_ports (sym lookup))

  pub step_has_port : IfSome (find (leaves_from h.device) slice) (λ at. HasPort (get_or switches from d).bundle at.1.0)
  step_has_port = by_found (find (leaves_from h.device) slice) refl
    where
      by_found : (x : Option Step) → find (leaves_from h.device) slice ≡ x → IfSome x (λ at. HasPort (get_or switches from d).bundle at.1.0)
      by_found None none = tt
      by_found (Some at) found =
          let among = found_among (leaves_from h.device) slice at (Contains (all_ports plant)) slice_at_ports found in
          let one = holds.gates at among in
          let here = leaves_device h.device slice at found in
          let it : one.s ≡ get_or switches from d = same_Some one.s (get_or switches from d)
          (sym one.there ∙ ap (λ (x : DevId). slice_get switches x.0) here ∙ switch_at switches h.device.0 from d is below) in
          subst (λ (x : SwitchState). HasPort x.bundle at.1.0) it one.has.named

  pub handed_over_at : FollowsRules → (walks : List (List PortNo)) → AreStepsOf plant walks steps → number ≡ h.parcel.traffic → (t : Traffic) →
      Some t ≡ slice_get plant.traffic number → (r : Passed) → r ≡ passed_of (get_or switches from d) t (find (leaves_from h.device) slice) h →
      (after : SwitchState) → after ≡ after_passing (get_or switches from d) t.«class» h.parcel r →
      (noted : NotesState) → noted ≡ record notes { refused = notes.refused ++ refused_by k h r; came = notes.came ++ came_by k h r } →
      HoldOffers plant bundles row k (set switches from after) noted (hand_over plant walks k o h)
  handed_over_at follows walks are named t entry r passed after passed_to noted is_noted =
      let entry_there : slice_get plant.traffic h.parcel.traffic ≡ Some t = ap (slice_get plant.traffic) (sym named) ∙ sym entry in
      let is_walk : slice ≡ steps_from plant t.source (slice_index_or walks h.parcel.traffic []) =
      same ∙ same_Some walk (steps_from plant t.source (slice_index_or walks h.parcel.traffic []))
      (lookup ∙ ap (slice_get steps) named ∙ are.each h.parcel.traffic t entry_there) in
      subst (λ n. HoldOffers plant bundles row k (set switches n after) noted (hand_over plant walks k o h)) (sym is)
      (handed_over plant bundles row k switches notes walks o h t (get_or switches from d) holds (switch_at switches h.device.0 from d is below) follows slice slice_at_ports
      entry_there is_walk r passed after passed_to noted is_noted)

-- and all but the gates is as it was
pub keeps_all : (switches : List SwitchState) (from : ℕ) (d after : SwitchState) (kind : Class) (parcel : Parcel) (r : Passed) →
    after ≡ after_passing (get_or switches from d) kind parcel r → all_but_gates (set switches from after) ≡ all_but_gates switches
keeps_all switches from d after kind parcel r is =
    map-set_same but_gates switches from after d (ap but_gates is ∙ passing_keeps (get_or switches from d) kind parcel r)
