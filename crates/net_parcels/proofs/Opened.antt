-- The gates of a network at the begin of a cycle, and the steps of its walks.
use Rattle.std.proofs.Common.{◌≡◌, ℕ, zero, suc, ◌+◌, ◌-◌, ◌<◌, ◌≤◌, ◌%◌, List, [], ◌∷◌, length, get_or, Some, refl, sym, ◌∙◌, ap, subst, arith, inl, inr, slice_get, All, Contains}
use Rattle.std.specs.Prelude.{slice_index_or, option_map, option_and_then}
use Rattle.std.specs.List.{range_with_len, enumerate_from}
use Rattle.std.proofs.lemmas.Bool.{cases_lt}
use Rattle.std.proofs.lemmas.List.{length-map}
use Rattle.std.proofs.lemmas.List.Elements.{All-nil, All-cons, All-map, All-weaker}
use Rattle.std.proofs.lemmas.List.FromFn.{length-enumerate_from, get_or-enumerate_from}
use Rattle.std.proofs.lemmas.Option.{same_Some, slice_get-get_or, slice_get_within, get_or_from_slice_get, slice_get-map}
use Rattle.irt_base.specs.Periods.{number_of, side_of, port_period, period_at}
use Rattle.irt_base.specs.Valid.{IsWithin, IsPhasePair, IsPortPeriods, IsPeriodBlock, IsSyncBlock, IsBundle}
use Rattle.irt_base.specs.Wiring.{peer_of}
use Rattle.irt_base.specs.declared.blocks.Bundle.{Bundle}
use Rattle.irt_base.specs.declared.blocks.Period.{Period}
use Rattle.irt_base.specs.declared.blocks.PeriodBlock.{PeriodBlock}
use Rattle.irt_base.specs.declared.blocks.PhasePair.{PhasePair}
use Rattle.irt_base.specs.declared.blocks.PortPeriods.{PortPeriods}
use Rattle.irt_base.specs.declared.limits.TheConstants.{PHASES}
use Rattle.irt_base.specs.declared.blocks.SyncBlock.{SyncBlock}
use Rattle.irt_base.specs.declared.blocks.Side.TheVariants.{Tx}
use Rattle.irt_base.specs.declared.numbers.DevId.{DevId}
use Rattle.irt_base.specs.declared.numbers.PortNo.{PortNo}
use Rattle.irt_base.specs.declared.plants.Class.TheVariants.{Green}
use Rattle.irt_base.specs.declared.plants.Device.{Device}
use Rattle.irt_base.specs.declared.plants.Plant.{Plant}
use Rattle.irt_base.specs.declared.plants.Traffic.{Traffic}
use Rattle.irt_route.specs.Routes.{AreTrafficWalks}
use Rattle.irt_route.specs.Walks.{IsWalk, far_of}
use Rattle.irt_switch.specs.Begin.{parcel_limit}
use Rattle.irt_switch.specs.State.{SwitchState, HasPort, gate_of}
use Rattle.irt_world.specs.Rows.{world_row}
use Rattle.irt_world.specs.declared.rows.Row.{Row}
use Rattle.net_site.specs.Site.{bundles_of}
use Rattle.parcel_rules.proofs.Lists.{All-flat_map}
use Rattle.parcel_rules.proofs.Wires.{linked_among}
use Rattle.parcel_rules.specs.Cycle.{ports_at, all_ports}
use Rattle.parcel_rules.specs.Loads.{Gates, gate_at}
use Rattle.parcel_rules.specs.Steps.{Step, steps_from}
use Rattle.period_gate.specs.Gate.{Waiting, nothing_waiting}
use Rattle.plan_rules.proofs.Held.{blocks_of, each_at, some_at}
use Rattle.plan_rules.specs.Places.{IsAccepted}
use Rattle.plan_rules.specs.Plan.{IsPlan}
use Rattle.plan_rules.specs.World.{WorldRow}
use Rattle.plant_rules.specs.Meets.{MeetsRules}
use Rattle.net_parcels.specs.Gates.{IsGateAt, AreGatesAt, AreAtPorts}
use Rattle.net_parcels.specs.Loads.{HoldGates, AreStepsOf}
use Rattle.net_parcels.specs.Parcels.{AllHaveOpened}

-- ---- steps

walk_at_ports : (plant : Plant) → MeetsRules plant → (start : DevId) (ports : List PortNo) (end : ℕ) → IsWalk (peer_of plant) start.0 ports end →
    All (Contains (all_ports plant)) (steps_from plant start ports)
walk_at_ports plant rules start [] end walk = All-nil (Contains (all_ports plant))
walk_at_ports plant rules start (port ∷ more) end (far, leads, rest) =
    All-cons (Contains (all_ports plant)) (start, port) (steps_from plant (far_of start (peer_of plant start.0 port.0)) more)
    (linked_among plant rules (start, port) far leads)
    (subst (λ (d : DevId). All (Contains (all_ports plant)) (steps_from plant d more)) (sym (ap (far_of start) leads)) (walk_at_ports plant rules far.0 more end rest))

pub steps_at_ports : (plant : Plant) → MeetsRules plant → (walks : List (List PortNo)) → AreTrafficWalks (peer_of plant) plant.traffic walks → (steps : List (List Step)) →
    AreStepsOf plant walks steps → AreAtPorts plant steps
steps_at_ports plant rules walks best steps are j d below =
    let there : j < length plant.traffic = (let count = are.count in omega arith) in
    let t : Traffic = get_or plant.traffic j no_traffic in
    let entry : slice_get plant.traffic j ≡ Some t = slice_get-get_or plant.traffic j no_traffic there in
    let it : get_or steps j d ≡ steps_from plant t.source (slice_index_or walks j []) =
    get_or_from_slice_get steps j (steps_from plant t.source (slice_index_or walks j [])) d (are.each j t entry) in
    subst (All (Contains (all_ports plant))) (sym it) (walk_at_ports plant rules t.source (slice_index_or walks j []) t.target.0 (best.each j t entry).walk)
  where
    no_traffic : Traffic
    no_traffic = record { source = record { 0 = 0 }; target = record { 0 = 0 }; «class» = Green; length = 0; every = 0; count = 0 }

-- ---- ports of devices

-- a port of a device of the plant
pub record IsPortOf (plant : Plant) (at : Step) : Type 0 where
  pub d : Device
  pub device : slice_get plant.devices at.0.0 ≡ Some d
  pub from_one : 1 ≤ at.1.0
  pub until : at.1.0 ≤ length d.ports

range_between : (a n : ℕ) → All (λ k. (a ≤ k) × (k < a + n)) (range_with_len a n)
range_between a zero = All-nil (λ k. (a ≤ k) × (k < a + 0))
range_between a (suc n) =
    All-cons (λ k. (a ≤ k) × (k < a + suc n)) a (range_with_len (a + 1) n) (omega arith, omega arith)
    (All-weaker (λ k. (a + 1 ≤ k) × (k < a + 1 + n)) (λ k. (a ≤ k) × (k < a + suc n)) (λ k (low, high). (omega arith, omega arith)) (range_with_len (a + 1) n) (range_between (a + 1) n))

devices_there : (plant : Plant) → All (λ (e : ℕ × Device). slice_get plant.devices e.0 ≡ Some e.1) (enumerate_from 0 plant.devices)
devices_there plant k d below =
    let within : k < length plant.devices = omega (arith, length-enumerate_from 0 plant.devices) in
    let whole = get_or-enumerate_from 0 plant.devices k d within in
    let number : 0 + k ≡ k = omega arith in
    subst (λ (e : ℕ × Device). slice_get plant.devices e.0 ≡ Some e.1) (sym whole)
    (ap (slice_get plant.devices) number ∙ slice_get-get_or plant.devices k d.1 within)

pub ports_of_devices : (plant : Plant) → All (IsPortOf plant) (all_ports plant)
ports_of_devices plant =
    All-flat_map (IsPortOf plant) (λ (e : ℕ × Device). slice_get plant.devices e.0 ≡ Some e.1) (λ (e : ℕ × Device). ports_at e.0 e.1) (enumerate_from 0 plant.devices) (devices_there plant)
    (λ e there. All-map (IsPortOf plant) (λ (port : ℕ). (record { 0 = e.0 }, record { 0 = port })) (range_with_len 1 (length e.1.ports))
    (All-weaker (λ k. (1 ≤ k) × (k < 1 + length e.1.ports)) (λ k. IsPortOf plant (record { 0 = e.0 }, record { 0 = k }))
    (λ k (low, high). record { d = e.1; device = there; from_one = low; until = omega arith })
    (range_with_len 1 (length e.1.ports)) (range_between 1 (length e.1.ports))))

pub among_is : {A : Type 0} (P : A → Type 0) (xs : List A) (x : A) → All P xs → Contains xs x → P x
among_is P xs x all (k, below, is) = subst P is (all k x below)

pub port_is : (plant : Plant) (at : Step) → Contains (all_ports plant) at → IsPortOf plant at
port_is plant at among = among_is (IsPortOf plant) (all_ports plant) at (ports_of_devices plant) among

-- ---- gates

-- parcels have some time in a cycle
some_time : (sync : SyncBlock) → IsSyncBlock sync → 0 < parcel_limit sync
some_time sync valid = (let window = valid.window in let factor = valid.factor in omega arith)

get_or_past : {A : Type 0} (xs : List A) (i : ℕ) (d : A) → length xs ≤ i → get_or xs i d ≡ d
get_or_past [] i d past = refl
get_or_past (x ∷ xs) zero d past = absurd (omega arith)
get_or_past (x ∷ xs) (suc i) d past = get_or_past xs i d (omega arith)

-- a port without a gate would have no time in a cycle
gate_there : (s : SwitchState) (port : ℕ) → IsBundle s.bundle → HasPort s.bundle port → (gate_of s port).limit ≡ parcel_limit s.bundle.sync → port - 1 < length s.gates
gate_there s port valid named limit =
    elim (cases_lt (port - 1) (length s.gates)) [
      | inl below ↦ below
      | inr past ↦
          let none : (gate_of s port).limit ≡ 0 = ap (λ (g : Waiting). g.limit) (get_or_past s.gates (port - 1) nothing_waiting past) in
          let some = some_time s.bundle.sync valid.sync in
          absurd (omega arith)
    ]

-- the sending period of a port in a cycle
tx_of : (block : PeriodBlock) (port k : ℕ) → IsPeriodBlock block → IsWithin 1 (length block.ports) port → (tx : Period) × (period_at block port k Tx ≡ Some tx)
tx_of block port k valid (low, high) =
    let (p, at) = some_at block.ports (port - 1) (omega arith) in
    let ported = each_at IsPortPeriods block.ports (port - 1) p valid.ports at in
    let sixteen = ported.sixteen in
    let (pair, in_phase) = some_at p.phases (k % PHASES) (omega arith) in
    let (a, assigned) = some_at p.assignments pair.tx (each_at (IsPhasePair (length p.assignments)) p.phases (k % PHASES) pair ported.phases in_phase).tx in (
      a.tx,
      ap (option_and_then (λ (x : PortPeriods). port_period x k Tx)) at
          ∙ ap (option_and_then (λ (x : PhasePair). option_map (side_of Tx) (slice_get p.assignments (number_of Tx x)))) in_phase
          ∙ ap (option_map (side_of Tx)) assigned,
    )

module _ (plant : Plant) (row : Row) (k : ℕ) (switches : List SwitchState) (plan : IsPlan plant (bundles_of switches)) (accepted : IsAccepted plant (bundles_of switches))
    (opened : AllHaveOpened plant row k switches) (gates : Gates) (hold : HoldGates plant switches gates) where
  abbrev W : WorldRow
  W = world_row plant (bundles_of switches) row

  pub gates_begun : AreGatesAt plant (bundles_of switches) W k switches gates
  gates_begun at among =
      let port = port_is plant at among in
      let count : length switches ≡ length plant.devices = sym (length-map switches (λ (s : SwitchState). s.bundle)) ∙ plan.count in
      let below : at.0.0 < length switches = omega (arith, slice_get_within plant.devices at.0.0 port.d port.device) in
      let (s, there) = some_at switches at.0.0 below in
      by_switch s there port
    where
      by_switch : (s : SwitchState) → slice_get switches at.0.0 ≡ Some s → IsPortOf plant at → IsGateAt plant (bundles_of switches) W k switches at (gate_at gates at)
      by_switch s there port =
          let held : slice_get (bundles_of switches) at.0.0 ≡ Some s.bundle = slice_get-map (λ (x : SwitchState). x.bundle) switches at.0.0 ∙ ap (option_map (λ (x : SwitchState). x.bundle)) there in
          let blocks = blocks_of plant (bundles_of switches) plan accepted at.0.0 s.bundle held in
          let same : blocks.bundle ≡ s.bundle = same_Some blocks.bundle s.bundle (sym blocks.held ∙ held) in
          let device : blocks.d ≡ port.d = same_Some blocks.d port.d (sym blocks.is_device ∙ port.device) in
          let named : HasPort s.bundle at.1.0 =
          subst (λ (b : Bundle). HasPort b at.1.0) same (port.from_one, subst (λ n. at.1.0 ≤ n) (sym blocks.header.ports) (subst (λ (x : Device). at.1.0 ≤ length x.ports) (sym device) port.until)) in
          let valid : IsBundle s.bundle = subst IsBundle same blocks.valid in
          let (tx, period) = tx_of s.bundle.periods at.1.0 k valid.periods named in
          let begins = opened at.0.0 s there in
          let queues = hold at s among there in
          record {
            s = s;
            tx = tx;
            there = there;
            bundle = held;
            in_step = begins.in_step;
            has = record { named = named; within = gate_there s at.1.0 valid named (begins.limit at.1.0 named) };
            period = period;
            begun = (λ i. record { orange = queues.orange i; green = queues.green i; period = begins.period at.1.0 tx named period i; limit = begins.limit at.1.0 named i });
          }
