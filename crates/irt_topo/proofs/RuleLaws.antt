-- What each rule says of one item, and the other way round.
use Rattle.std.proofs.Common.{◌≡◌, ◌<◌, ◌+◌, ◌==◌, ℕ, zero, suc, nat_le, nat_lt, true, false, not, ◌&&◌, ◌||◌, inl, inr, List, [], ◌∷◌, length, Option, Some, None, refl, arith}
use Rattle.std.proofs.lemmas.Bool.{and_parts, and_from, or_cases, or_right, not-true, not-false, not_from_true, not_from_false, leb-true, le-leb, ltb-true, lt-ltb, eqb-true}
use Rattle.std.specs.List.{list_any, list_all}
use Rattle.irt_base.specs.Valid.{IsWithin, IsPortDelay}
use Rattle.irt_base.specs.declared.limits.TheConstants.{MAX_DEVICES, MAX_PORTS, MAX_DELAY, MIN_FRAME, MAX_FRAME, MAX_DEMANDS, MAX_TRAFFIC, MIN_PARCEL, MAX_PARCEL, MAX_EVERY, MAX_COUNT}
use Rattle.irt_base.specs.declared.numbers.DevId.{DevId}
use Rattle.irt_base.specs.declared.plants.Clocks.{Clocks}
use Rattle.irt_base.specs.declared.plants.Clocks.TheVariants.{World, Ptcp}
use Rattle.irt_base.specs.declared.plants.Device.{Device}
use Rattle.irt_base.specs.declared.plants.Link.{Link}
use Rattle.irt_base.specs.declared.plants.Demand.{Demand}
use Rattle.irt_base.specs.declared.plants.Traffic.{Traffic}
use Rattle.irt_base.specs.declared.plants.App.{App}
use Rattle.irt_base.specs.declared.plants.Plant.{Plant}
use Rattle.plant_rules.specs.Clocks.{HasClock}
use Rattle.irt_topo.specs.Clocks.{has_clock}
use Rattle.plant_rules.specs.Words.{is_within, same_name, has_port, share_port, hop_there, hop_back, same_frame, same_app_device}
use Rattle.irt_topo.specs.Rules.{fits_cycle, is_device, is_name, is_port_delay, all_differ, follows_clock, device_name_holds, device_ports_hold, bridge_holds, link_ends_hold, link_delay_holds, frame_holds, demand_ends_hold, length_holds, update_holds, has_two_ends, has_ranges, traffic_holds, app_holds, holds, places, least_failing, or_next, first_failing}
use Rattle.plant_rules.specs.Meets.{IsDevice, IsLink, IsDemand, IsTraffic, IsApp}
use Rattle.irt_topo.specs.declared.rules.Rule.{Rule}
use Rattle.irt_topo.proofs.LeastFrom.{none_passes, least_from-is_none}
use Rattle.irt_topo.proofs.Passing.{AllByRecursion-from_list_all, list_all-from_AllByRecursion}
use Rattle.irt_topo.proofs.ItemTests.{within, within-back, name, port_delay, port_delay-back, differ, differ-back, consumer, consumer-back, data_length}
use Rattle.irt_topo.proofs.Walks.{clock, clock-back}

-- each of the rules holds at each of its places
abbrev pub AllHold : List Rule → Plant → Type 0
AllHold [] p = Unit {0}
AllHold (rule ∷ rest) p = ((index : ℕ) → index < places rule p → holds rule p index ≡ true) × AllHold rest p

pub or_next_none : (rule : Rule) (here : Option ℕ) (next : Option (Rule × ℕ)) → or_next rule here next ≡ None → (here ≡ None) × (next ≡ None)
or_next_none rule None next e = (refl, e)
or_next_none rule (Some i) next e = absurd cc

pub none_fails : (rules : List Rule) (p : Plant) → first_failing rules p ≡ None → AllHold rules p
none_fails [] p e = tt
none_fails (rule ∷ rest) p e =
    let (here, more) = or_next_none rule (least_failing rule p) (first_failing rest p) e in (
      λ index below. not-false _ (none_passes (λ i. not (holds rule p i)) 0 (places rule p) here index (omega arith) (omega arith)),
      none_fails rest p more,
    )

pub none_fails-back : (rules : List Rule) (p : Plant) → AllHold rules p → first_failing rules p ≡ None
none_fails-back [] p h = refl
none_fails-back (rule ∷ rest) p h =
    let here : least_failing rule p ≡ None =
    least_from-is_none (λ i. not (holds rule p i)) 0 (places rule p) (λ i above below. not_from_true _ (h.0 i (omega arith))) in
    rw here (none_fails-back rest p h.1)

-- the rules of one item, without those before it
pub name_of : (b : List Device) (d : Device) → device_name_holds b d ≡ true → is_name d.name ≡ true
name_of b d h = (and_parts (is_name d.name) _ h).0

pub name_is_new : (b : List Device) (d : Device) → device_name_holds b d ≡ true → list_any (λ e. same_name e d) b ≡ false
name_is_new b d h = not-true _ (and_parts (is_name d.name) _ h).1

pub name_gives : (b : List Device) (d : Device) → is_name d.name ≡ true → list_any (λ e. same_name e d) b ≡ false → device_name_holds b d ≡ true
name_gives b d h new = and_from (is_name d.name) _ h (not_from_false _ new)

pub device_from : (d : Device) → is_name d.name ≡ true → device_ports_hold [] d ≡ true → bridge_holds [] d ≡ true → IsDevice d
device_from d named ports bridge =
    let (count, delays) = and_parts (is_within 1 MAX_PORTS (length d.ports)) (list_all is_port_delay d.ports) ports in
    let (order, most) = and_parts (nat_le d.bmin d.bmax) (nat_le d.bmax MAX_DELAY) bridge in
    record {
      name = name d.name named;
      port_count = within 1 MAX_PORTS (length d.ports) count;
      ports = AllByRecursion-from_list_all is_port_delay IsPortDelay port_delay d.ports delays;
      bridge_order = leb-true d.bmin d.bmax order;
      bridge = leb-true d.bmax MAX_DELAY most;
    }

pub device_ports_back : (d : Device) → IsDevice d → device_ports_hold [] d ≡ true
device_ports_back d h =
    and_from (is_within 1 MAX_PORTS (length d.ports)) (list_all is_port_delay d.ports) (within-back 1 MAX_PORTS (length d.ports) h.port_count)
    (list_all-from_AllByRecursion is_port_delay IsPortDelay port_delay-back d.ports h.ports)

pub bridge_back : (d : Device) → IsDevice d → bridge_holds [] d ≡ true
bridge_back d h = and_from (nat_le d.bmin d.bmax) (nat_le d.bmax MAX_DELAY) (le-leb _ _ h.bridge_order) (le-leb _ _ h.bridge)

-- the ends of a link, and then its times
pub record HasEnds (p : Plant) (l : Link) : Type 0 where
  pub first : has_port p l.a.0 l.a_port.0 ≡ true
  pub second : has_port p l.b.0 l.b_port.0 ≡ true
  pub two : (l.a.0 == l.b.0) ≡ false

pub ends_of : (p : Plant) (b : List Link) (l : Link) → link_ends_hold p b l ≡ true → HasEnds p l
ends_of p b l h =
    let (three, _) = and_parts _ (not (list_any (λ e. share_port e l) b)) h in
    let (ports, two) = and_parts _ (not (l.a.0 == l.b.0)) three in
    let (first, second) = and_parts (has_port p l.a.0 l.a_port.0) (has_port p l.b.0 l.b_port.0) ports in
    record { first = first; second = second; two = not-true _ two }

pub ports_are_new : (p : Plant) (b : List Link) (l : Link) → link_ends_hold p b l ≡ true → list_any (λ e. share_port e l) b ≡ false
ports_are_new p b l h = not-true _ (and_parts _ (not (list_any (λ e. share_port e l) b)) h).1

pub ends_give : (p : Plant) (b : List Link) (l : Link) → HasEnds p l → list_any (λ e. share_port e l) b ≡ false → link_ends_hold p b l ≡ true
ends_give p b l h new =
    and_from _ (not (list_any (λ e. share_port e l) b))
    (and_from _ (not (l.a.0 == l.b.0)) (and_from (has_port p l.a.0 l.a_port.0) (has_port p l.b.0 l.b_port.0) h.first h.second)
    (not_from_false _ h.two))
    (not_from_false _ new)

pub link_from : (p : Plant) (l : Link) → HasEnds p l → link_delay_holds p [] l ≡ true → IsLink p l
link_from p l ends times =
    let (two, back) = and_parts _ (fits_cycle p (p.red_max + hop_back p l)) times in
    let (delay, there) = and_parts (nat_le l.delay MAX_DELAY) (fits_cycle p (p.red_max + hop_there p l)) two in
    record {
      first_port = ends.first;
      second_port = ends.second;
      two_devices = ends.two;
      delay = leb-true l.delay MAX_DELAY delay;
      there = leb-true _ _ there;
      back = leb-true _ _ back;
    }

pub link_ends_back : (p : Plant) (l : Link) → IsLink p l → HasEnds p l
link_ends_back p l h = record { first = h.first_port; second = h.second_port; two = h.two_devices }

pub link_times_back : (p : Plant) (l : Link) → IsLink p l → link_delay_holds p [] l ≡ true
link_times_back p l h =
    and_from _ (fits_cycle p (p.red_max + hop_back p l))
    (and_from (nat_le l.delay MAX_DELAY) (fits_cycle p (p.red_max + hop_there p l)) (le-leb _ _ h.delay) (le-leb _ _ h.there))
    (le-leb _ _ h.back)

-- a demand
pub frame_of : (b : List Demand) (d : Demand) → frame_holds b d ≡ true → IsWithin MIN_FRAME MAX_FRAME d.frame.0
frame_of b d h =
    let (two, _) = and_parts _ (not (list_any (λ e. same_frame e d) b)) h in
    within MIN_FRAME MAX_FRAME d.frame.0 (and_parts (nat_lt (length b) MAX_DEMANDS) (is_within MIN_FRAME MAX_FRAME d.frame.0) two).1

pub frame_count : (b : List Demand) (d : Demand) → frame_holds b d ≡ true → length b < MAX_DEMANDS
frame_count b d h =
    let (two, _) = and_parts _ (not (list_any (λ e. same_frame e d) b)) h in
    ltb-true (length b) MAX_DEMANDS (and_parts (nat_lt (length b) MAX_DEMANDS) (is_within MIN_FRAME MAX_FRAME d.frame.0) two).0

pub frame_is_new : (b : List Demand) (d : Demand) → frame_holds b d ≡ true → list_any (λ e. same_frame e d) b ≡ false
frame_is_new b d h = not-true _ (and_parts _ (not (list_any (λ e. same_frame e d) b)) h).1

pub frame_gives : (b : List Demand) (d : Demand) → IsWithin MIN_FRAME MAX_FRAME d.frame.0 → list_any (λ e. same_frame e d) b ≡ false
    → length b < MAX_DEMANDS → frame_holds b d ≡ true
frame_gives b d range new count =
    and_from _ (not (list_any (λ e. same_frame e d) b))
    (and_from (nat_lt (length b) MAX_DEMANDS) (is_within MIN_FRAME MAX_FRAME d.frame.0) (lt-ltb _ _ count) (within-back MIN_FRAME MAX_FRAME d.frame.0 range))
    (not_from_false _ new)

pub demand_from : (p : Plant) (d : Demand) → IsWithin MIN_FRAME MAX_FRAME d.frame.0 → demand_ends_hold p [] d ≡ true → length_holds [] d ≡ true
    → update_holds p [] d ≡ true → IsDemand p d
demand_from p d frame ends size update =
    let (three, different) = and_parts _ (all_differ d.consumers) ends in
    let (two, each) = and_parts _ (list_all (λ (c : DevId). is_device p c.0 && not (c.0 == d.provider.0)) d.consumers) three in
    let (provider, some) = and_parts (is_device p d.provider.0) (nat_le 1 (length d.consumers)) two in
    record {
      frame = frame;
      provider = ltb-true _ _ provider;
      some_consumer = leb-true _ _ some;
      consumers = AllByRecursion-from_list_all _ _ (consumer p d.provider) d.consumers each;
      consumers_differ = differ d.consumers different;
      length = data_length d.length size;
      update = leb-true _ _ update;
    }

pub demand_ends_back : (p : Plant) (d : Demand) → IsDemand p d → demand_ends_hold p [] d ≡ true
demand_ends_back p d h =
    and_from _ (all_differ d.consumers)
    (and_from _ (list_all (λ (c : DevId). is_device p c.0 && not (c.0 == d.provider.0)) d.consumers)
    (and_from (is_device p d.provider.0) (nat_le 1 (length d.consumers)) (lt-ltb _ _ h.provider) (le-leb _ _ h.some_consumer))
    (list_all-from_AllByRecursion _ _ (consumer-back p d.provider) d.consumers h.consumers))
    (differ-back d.consumers h.consumers_differ)

-- a traffic entry
pub traffic_count : (p : Plant) (b : List Traffic) (t : Traffic) → traffic_holds p b t ≡ true → length b < MAX_TRAFFIC
traffic_count p b t h =
    ltb-true _ _ (and_parts (nat_lt (length b) MAX_TRAFFIC) (has_two_ends p t) (and_parts _ (has_ranges t) h).0).0

pub traffic_from : (p : Plant) (b : List Traffic) (t : Traffic) → traffic_holds p b t ≡ true → IsTraffic p t
traffic_from p b t h =
    let (two, ranges) = and_parts _ (has_ranges t) h in
    let (_, ends) = and_parts (nat_lt (length b) MAX_TRAFFIC) (has_two_ends p t) two in
    let (devices, different) = and_parts _ (not (t.source.0 == t.target.0)) ends in
    let (source, target) = and_parts (is_device p t.source.0) (is_device p t.target.0) devices in
    let (sizes, count) = and_parts _ (is_within 1 MAX_COUNT t.count) ranges in
    let (size, every) = and_parts (is_within MIN_PARCEL MAX_PARCEL t.length) (is_within 1 MAX_EVERY t.every) sizes in
    record {
      source = ltb-true _ _ source;
      target = ltb-true _ _ target;
      two_devices = not-true _ different;
      length = within MIN_PARCEL MAX_PARCEL t.length size;
      every = within 1 MAX_EVERY t.every every;
      count = within 1 MAX_COUNT t.count count;
    }

pub traffic_gives : (p : Plant) (b : List Traffic) (t : Traffic) → IsTraffic p t → length b < MAX_TRAFFIC → traffic_holds p b t ≡ true
traffic_gives p b t h before =
    and_from _ (has_ranges t)
    (and_from (nat_lt (length b) MAX_TRAFFIC) (has_two_ends p t) (lt-ltb _ _ before)
    (and_from _ (not (t.source.0 == t.target.0))
    (and_from (is_device p t.source.0) (is_device p t.target.0) (lt-ltb _ _ h.source) (lt-ltb _ _ h.target))
    (not_from_false _ h.two_devices)))
    (and_from _ (is_within 1 MAX_COUNT t.count)
    (and_from (is_within MIN_PARCEL MAX_PARCEL t.length) (is_within 1 MAX_EVERY t.every)
    (within-back MIN_PARCEL MAX_PARCEL t.length h.length) (within-back 1 MAX_EVERY t.every h.every))
    (within-back 1 MAX_COUNT t.count h.count))

-- an app
pub app_of : (p : Plant) (b : List App) (a : App) → app_holds p b a ≡ true → IsApp p a
app_of p b a h = ltb-true _ _ (and_parts (is_device p a.device.0) _ h).0

pub app_is_new : (p : Plant) (b : List App) (a : App) → app_holds p b a ≡ true → list_any (λ e. same_app_device e a) b ≡ false
app_is_new p b a h = not-true _ (and_parts (is_device p a.device.0) _ h).1

pub app_gives : (p : Plant) (b : List App) (a : App) → IsApp p a → list_any (λ e. same_app_device e a) b ≡ false → app_holds p b a ≡ true
app_gives p b a h new = and_from (is_device p a.device.0) _ (lt-ltb _ _ h) (not_from_false _ new)

-- the clock of a device
pub clock_of : (c : Clocks) (p : Plant) (device : ℕ) → c ≡ Ptcp → 0 < device → device < MAX_DEVICES → follows_clock c p device ≡ true → HasClock p device
clock_of World p device is above below h = absurd cc
clock_of Ptcp p device is above below h =
    elim (or_cases (device == 0 || nat_le MAX_DEVICES device) (has_clock p device) h) [
      | inl early ↦ elim (or_cases (device == 0) (nat_le MAX_DEVICES device) early) [
        | inl first ↦ absurd (omega (arith, eqb-true device 0 first))
        | inr past ↦ absurd (omega (arith, leb-true MAX_DEVICES device past))
      ]
      | inr kept ↦ clock p device kept
    ]

pub clock_gives : (c : Clocks) (p : Plant) (device : ℕ) → (c ≡ Ptcp → 0 < device → HasClock p device) → follows_clock c p device ≡ true
clock_gives World p device h = refl
clock_gives Ptcp p zero h = refl
clock_gives Ptcp p (suc n) h =
    or_right (suc n == 0 || nat_le MAX_DEVICES (suc n)) (has_clock p (suc n)) (clock-back p (suc n) (h refl (omega arith)))
