-- First fit's bundles are valid values.
use Rattle.std.proofs.Common.{◌≡◌, ℕ, zero, suc, ◌+◌, ◌<◌, ◌≤◌, ◌^◌, ◌⊎◌, ◌++◌, inl, inr, Bool, true, false, List, [], ◌∷◌, Some, length, slice_get, map, option_map, replicate, sym, ◌∙◌, ap, subst, arith, refl}
use Rattle.std.specs.Prelude.{◌==◌, if◌then◌else◌, Contains, slice_index_or}
use Rattle.std.proofs.lemmas.Bool.{cases_lt, both_ways, eq-eqb}
use Rattle.std.proofs.lemmas.List.{length-map}
use Rattle.std.proofs.lemmas.List.Kept.{AllPairs-from_increasing}
use Rattle.std.proofs.lemmas.Option.{same_Some, slice_get_within, slice_get-get_or, slice_get-map}
use Rattle.irt_base.specs.Cycle.{cycle_time, wire_time}
use Rattle.irt_base.specs.Valid.{IsWithin, IsDataLength, IsRate, AreBytes, IsIdentifier, IsEntry, frames_of, IsFrameBlock, IsPeriod, IsAssignment, IsPhasePair, IsPortPeriods, IsPeriodBlock, IsGlobalBlock, IsDomainByte, IsSyncBlock, IsBundle}
use Rattle.irt_base.specs.declared.limits.TheConstants.{MIN_FRAME, MAX_FRAME, MAX_PORTS, MAX_DEMANDS, MAX_ASSIGNMENTS}
use Rattle.irt_base.specs.declared.blocks.Bundle.{Bundle}
use Rattle.irt_base.specs.declared.blocks.Entry.{Entry}
use Rattle.irt_base.specs.declared.blocks.FrameBlock.{FrameBlock}
use Rattle.irt_base.specs.declared.blocks.Period.{Period}
use Rattle.irt_base.specs.declared.blocks.PeriodBlock.{PeriodBlock}
use Rattle.irt_base.specs.declared.blocks.PhasePair.{PhasePair}
use Rattle.irt_base.specs.declared.blocks.PortPeriods.{PortPeriods}
use Rattle.irt_base.specs.declared.numbers.FrameId.{FrameId}
use Rattle.irt_base.specs.declared.plants.Device.{Device}
use Rattle.irt_base.specs.declared.plants.Plant.{Plant}
use Rattle.irt_route.specs.Routes.{RouteTables}
use Rattle.plant_rules.specs.Meets.{MeetsRules, IsDevice, IsConsumer}
use Rattle.plan_rules.specs.Plan.{IsPlan}
use Rattle.plan_rules.specs.SendWindow.{SendWindow, at_anchor, slack_time}
use Rattle.plan_rules.specs.Tree.{Consumes}
use Rattle.plan_rules.specs.Way.{Leaves, IsAnchor}
use Rattle.fit_rules.specs.declared.frame_plan.FramePlan.{FramePlan}
use Rattle.fit_rules.specs.Shape.{alone, entry_of, IsOn, IsSentBy}
use Rattle.fit_rules.specs.Fit.{IsUsing}
use Rattle.fit_rules.specs.Order.{parents_of}
use Rattle.fit_rules.specs.Blocks.{identifier, sync_of, global_of, AreEntries, IsTxPeriod, IsRxPeriod, AreNumbered, ArePortPeriods, ArePeriods, IsBundleOf}
use Rattle.fit_rules.proofs.Alike.{stands_alone, entry_frame}
use Rattle.fit_rules.proofs.Counting.{no_longer}
use Rattle.fit_rules.proofs.FrameRules.{red_ends, provided_rx}
use Rattle.fit_rules.proofs.Links.{peer_port, mapped}
use Rattle.fit_rules.proofs.Lists.{contains_at, place_of, each_at, all_from, some_at}
use Rattle.fit_rules.proofs.Merged.{IsWhole, IsShaped, shaped, held_at}
use Rattle.fit_rules.proofs.PeriodRules.{tx_within, rx_within}
use Rattle.fit_rules.proofs.Placing.{routed_at, valid_at}
use Rattle.fit_rules.proofs.Routed.{goes_on}

-- the red limit and a cycle are times of 32 bits
pub cycle_small : (plant : Plant) → MeetsRules plant → cycle_time plant.factor < 2 ^ 32
cycle_small plant rules = omega (arith, rules.factor.1)

pub limit_small : (plant : Plant) → MeetsRules plant → plant.red_max + plant.orange < 2 ^ 32
limit_small plant rules = omega (arith, rules.factor.1, rules.periods)

zeros_and_one : (n : ℕ) → AreBytes (replicate n 0 ++ 1 ∷ [])
zeros_and_one zero = (omega arith, tt)
zeros_and_one (suc n) = (omega arith, zeros_and_one n)

identifier_valid : IsIdentifier identifier
identifier_valid = (refl, zeros_and_one 15)

either_small : (b : Bool) (n m : ℕ) → n < 2 ^ 16 → m < 2 ^ 16 → (if b then n else m) < 2 ^ 16
either_small true n m first second = first
either_small false n m first second = second

letter : (b : ℕ) → 97 ≤ b → b ≤ 122 → IsDomainByte b
letter b low high = inl (low, high)

sync_valid : (plant : Plant) → MeetsRules plant → (device : ℕ) → IsSyncBlock (sync_of plant device)
sync_valid plant rules device = record {
  subdomain = identifier_valid;
  window = rules.window;
  send = omega (arith, rules.sync.send.1);
  factor = rules.factor;
  timeout = omega (arith, rules.sync.timeout.1);
  takeover = omega arith;
  startup = omega arith;
  properties = either_small (device == 0) 1 2 (omega arith) (omega arith);
  priority1 = omega arith;
  priority2 = omega arith;
  name = (omega arith, omega arith);
  letters = (letter 105 (omega arith) (omega arith), (letter 114 (omega arith) (omega arith), (letter 116 (omega arith) (omega arith), tt)));
}

device_at : (plant : Plant) → MeetsRules plant → (device : ℕ) (d : Device) → slice_get plant.devices device ≡ Some d → IsDevice d
device_at plant rules device d is = each_at IsDevice plant.devices device d rules.devices is

global_valid : (d : Device) → IsDevice d → IsGlobalBlock (global_of d)
global_valid d is = record { uuid = identifier_valid; bridge = is.bridge; count = is.port_count; ports = is.ports }

abbrev frame_number : FramePlan → ℕ
frame_number plan = plan.frame.0

-- a phase's number is at most the phase's
number_below : (p : PortPeriods) → AreNumbered p → (fuel k : ℕ) (pair : PhasePair) → k < fuel → slice_get p.phases k ≡ Some pair → pair.tx ≤ k
number_below p are zero k pair less at = absurd (omega arith)
number_below p are (suc fuel) k pair less at = elim (cases_lt k pair.tx) [
  | inl more ↦
      let before = are.first k k pair at more in
      let again = number_below p are fuel before.earlier before.pair (omega (arith, before.before)) before.there in
      absurd (omega (arith, before.has, before.before))
  | inr within ↦ within
]

assignments_few : (p : PortPeriods) → AreNumbered p → length p.assignments ≤ MAX_ASSIGNMENTS
assignments_few p are = elim (cases_lt MAX_ASSIGNMENTS (length p.assignments)) [
  | inl more ↦
      let use_ = are.used MAX_ASSIGNMENTS more in
      let low = number_below p are (suc use_.earlier) use_.earlier use_.pair (omega arith) use_.there in
      absurd (omega (arith, low, use_.has, use_.before))
  | inr few ↦ few
]

module _ (plant : Plant) (routes : RouteTables) (plans : List FramePlan) (bundles : List Bundle) (whole : IsWhole plant routes plans bundles) where
  -- an anchor sends the frame
  pub anchor_sends : (plan : FramePlan) → (s : IsShaped plant routes plan) → (device : ℕ) (e : Entry) → entry_of plan device ≡ Some e →
      IsAnchor (alone plant plan) device e → (port : ℕ) × Leaves e port
  anchor_sends plan s device e is (inr forwards) = forwards.1
  anchor_sends plan s device e is (inl none) =
      let own = s.shape.each device e is in
      let provider = provided_rx plant routes plan s device e is none own.on in
      let routed = routed_at whole.known plant routes s.index s.demand whole.are s.there in
      go (goes_on plant (parents_of routes s.index) s.demand routed device own.on) provider
    where
      go : Consumes s.demand device ⊎ ((port : ℕ) × (1 ≤ port) × IsSentBy (parents_of routes s.index) device port) → device ≡ s.demand.provider.0 → (port : ℕ) × Leaves e port
      go (inl consumes) provider =
          let (n, at) = place_of s.demand.consumers (record { 0 = device }) consumes in
          let c = each_at (IsConsumer plant s.demand.provider) s.demand.consumers n (record { 0 = device })
          (valid_at plant routes s.index s.demand whole.are s.there).consumers at in
          absurd (both_ways _ c.other (eq-eqb device s.demand.provider.0 provider))
      go (inr (port, one, sent)) provider = (port, record { from_one = one; bit = ((s.shape.each device e is).sent port one).1 sent })

  offset_within : (plan : FramePlan) → Contains plans plan → (s : IsShaped plant routes plan) → (device : ℕ) (e : Entry) → entry_of plan device ≡ Some e →
      IsAnchor (alone plant plan) device e → e.send_offset ≤ plant.red_max
  offset_within plan placed s device e is anchor =
      let (port, leaves) = anchor_sends plan s device e is anchor in
      let stands = stands_alone plant (parents_of routes s.index) s.demand s.ratio s.phase plan s.shape device e is in
      let w : SendWindow = record { lo = e.send_offset; hi = e.send_offset; anchor = device } in
      let sending : IsUsing plant plan device port e w = record { stands = stands; leaves = leaves; sends = at_anchor device e stands anchor } in
      let ends : e.send_offset + wire_time e.data_length + slack_time plant.window device device ≤ plant.red_max =
      red_ends plant routes plans bundles whole plan placed device port e w sending in
      summed e.send_offset (wire_time e.data_length) _ plant.red_max ends
    where
      summed : (offset wire slack limit : ℕ) → offset + wire + slack ≤ limit → offset ≤ limit
      summed offset wire slack limit ends = omega arith

  -- offsets end by the red limit
  pub offset_red : (plan : FramePlan) → Contains plans plan → (s : IsShaped plant routes plan) → (device : ℕ) (e : Entry) → entry_of plan device ≡ Some e →
      e.send_offset ≤ plant.red_max
  offset_red plan placed s device e is = elim (cases_lt plant.red_max e.send_offset) [
    | inl more ↦
        let idle = s.shape.idle device e is
        (λ anchor. let within = offset_within plan placed s device e is anchor in absurd (omega arith)) in
        absurd (omega arith)
    | inr within ↦ within
  ]

  rx_within_ports : (plan : FramePlan) → (s : IsShaped plant routes plan) → (device : ℕ) (e : Entry) → entry_of plan device ≡ Some e →
      IsOn s.demand (parents_of routes s.index) device → e.rx_port ≤ MAX_PORTS
  rx_within_ports plan s device e is (inl own) =
      let none = (s.shape.each device e is).provided own in omega arith
  rx_within_ports plan s device e is (inr (from, at)) =
      let received = (s.shape.each device e is).received from at in
      let back = whole.known.peers plant whole.are.rules from.0.0 from.1.0 device e.rx_port received.leads in
      let port = peer_port plant whole.are.rules device e.rx_port (record { 0 = from.0.0 }, record { 0 = from.1.0 }) back in
      let ports = (device_at plant whole.are.rules device port.d port.held).port_count in
      omega (arith, port.within.1, ports.1)

  entry_valid : (plan : FramePlan) → Contains plans plan → (device : ℕ) (e : Entry) → entry_of plan device ≡ Some e → IsEntry e
  entry_valid plan placed device e is =
      let s = shaped plant routes plans bundles whole plan placed in
      let own = s.shape.each device e is in
      let valid = valid_at plant routes s.index s.demand whole.are s.there in record {
        offset = omega (arith, offset_red plan placed s device e is, limit_small plant whole.are.rules);
        length = subst IsDataLength (sym own.length) valid.length;
        rate = subst (λ r. IsRate r e.phase) (sym own.ratio_is) (subst (IsRate s.ratio) (sym own.phase_is) (s.rate.is, s.among));
        frame = subst (IsWithin MIN_FRAME MAX_FRAME) (sym (ap (λ (f : FrameId). f.0) own.frame)) valid.frame;
        rx_port = rx_within_ports plan s device e is own.on;
        tx = own.small;
      }

  entries_few : (device : ℕ) (entries : List Entry) → AreEntries plans device entries → length entries ≤ MAX_DEMANDS
  entries_few device entries are =
      let few = no_longer (frames_of entries) (map frame_number plans) (AllPairs-from_increasing (frames_of entries) are.ascending)
      (λ n x is. frame_among n x is) in
      omega (arith, few, length-map entries (λ (e : Entry). e.frame.0), length-map plans frame_number, whole.fit.all, whole.fit.is_order.count, whole.are.rules.demand_count)
    where
      frame_among : (n x : ℕ) → slice_get (frames_of entries) n ≡ Some x → (m : ℕ) × (slice_get (map frame_number plans) m ≡ Some x)
      frame_among n x is =
          let (e, at, named) = mapped (λ (f : Entry). f.frame.0) (slice_get entries n) x (sym (slice_get-map (λ (f : Entry). f.frame.0) entries n) ∙ is) in
          let (plan, placed, there) = are.only e (contains_at entries n e at) in
          let s = shaped plant routes plans bundles whole plan placed in
          let frames = ap (λ (f : FrameId). f.0) (entry_frame plant (parents_of routes s.index) s.demand s.ratio s.phase plan s.shape device e there) in
          let (m, stands) = place_of plans plan placed in
          (m, slice_get-map frame_number plans m ∙ ap (option_map frame_number) stands ∙ ap Some (sym frames ∙ named))

  frames_valid : (device : ℕ) (b : FrameBlock) → AreEntries plans device b.entries → IsFrameBlock b
  frames_valid device b are = record {
    count = entries_few device b.entries are;
    each = all_from IsEntry b.entries (λ n e at.
        let (plan, placed, there) = are.only e (contains_at b.entries n e at) in
        entry_valid plan placed device e there);
    ascending = are.ascending;
  }

  tx_valid : (device port k : ℕ) (tx : Period) → IsTxPeriod plant plans device port k tx → IsPeriod tx
  tx_valid device port k tx is =
      let within = tx_within plant routes plans bundles whole device port k tx is in
      let small = limit_small plant whole.are.rules in
      record { red = omega (arith, is.red); orange = omega arith; green = omega (arith, is.green) }

  rx_valid : (device port k : ℕ) (rx : Period) → IsRxPeriod plant plans device port k rx → IsPeriod rx
  rx_valid device port k rx is =
      let within = rx_within plant routes plans bundles whole device port k rx is in
      let small = cycle_small plant whole.are.rules in
      record { red = omega (arith, is.red); orange = omega arith; green = omega (arith, is.green) }

  port_valid : (device port : ℕ) (p : PortPeriods) → ArePortPeriods plant plans device port p → IsPortPeriods p
  port_valid device port p are =
      let (pair, at) = some_at p.phases 0 (omega (arith, are.count)) in
      let zeroth = are.each 0 pair at in record {
        count = (omega (arith, slice_get_within p.assignments pair.tx zeroth.periods zeroth.named), assignments_few p are.numbered);
        assignments = all_from IsAssignment p.assignments (λ i a is.
            let use_ = are.numbered.used i (slice_get_within p.assignments i a is) in
            let phase = are.each use_.earlier use_.pair use_.there in
            let same : phase.periods ≡ a = same_Some phase.periods a (sym phase.named ∙ ap (slice_get p.assignments) use_.has ∙ is) in
            record {
              tx = tx_valid device port use_.earlier a.tx (subst (λ x. IsTxPeriod plant plans device port use_.earlier x.tx) same phase.tx);
              rx = rx_valid device port use_.earlier a.rx (subst (λ x. IsRxPeriod plant plans device port use_.earlier x.rx) same phase.rx);
            });
        sixteen = are.count;
        phases = all_from (IsPhasePair (length p.assignments)) p.phases (λ k q there.
            let phase = are.each k q there in
            let less = slice_get_within p.assignments q.tx phase.periods phase.named in
            record { tx = less; rx = omega (arith, phase.one) });
      }

  periods_valid : (device : ℕ) (d : Device) (b : PeriodBlock) → IsDevice d → ArePeriods plant plans device d b → IsPeriodBlock b
  periods_valid device d b valid are = record {
    first = (omega (arith, are.begin), omega (arith, are.begin));
    last = (omega (arith, are.begin, are.end), omega (arith, are.end));
    count = (omega (arith, are.count, valid.port_count.0), omega (arith, are.count, valid.port_count.1));
    ports = all_from IsPortPeriods b.ports (λ n p at. port_valid device (n + 1) p (are.ports n p at));
  }

  bundle_valid : (device : ℕ) (d : Device) (b : Bundle) → IsDevice d → IsBundleOf plant plans device d b → IsBundle b
  bundle_valid device d b valid is = record {
    sync = subst IsSyncBlock (sym is.sync) (sync_valid plant whole.are.rules device);
    slot = omega (arith, is.slot);
    subslot = omega (arith, is.subslot);
    global = subst IsGlobalBlock (sym is.global) (global_valid d valid);
    frames = frames_valid device b.frames is.entries;
    periods = periods_valid device d b.periods valid is.periods;
  }

  pub plan_holds : IsPlan plant bundles
  plan_holds = record {
    rules = whole.are.rules;
    blocks = λ k default within.
        let at = slice_get-get_or bundles k default within in
        let own = held_at plant plans bundles whole.blocks k (slice_index_or bundles k default) at in
        bundle_valid k own.d (slice_index_or bundles k default) (device_at plant whole.are.rules k own.d own.there) own.is;
    count = whole.blocks.count;
  }
