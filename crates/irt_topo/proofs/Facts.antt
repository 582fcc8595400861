-- What the tests of the rules say: the rules' facts, and the other way round.
use Rattle.std.proofs.Common.{◌≡◌, ◌<◌, ◌≤◌, ◌+◌, ◌==◌, ℕ, zero, suc, nat_le, nat_lt, Bool, true, false, not, ◌&&◌, List, [], ◌∷◌, length, take, Option, Some, None, IfSome, refl, arith}
use Rattle.std.proofs.lemmas.Bool.{and_parts, and_from, leb-true, le-leb, ltb-true, lt-ltb}
use Rattle.std.specs.List.{list_all, slice_get}
use Rattle.std.specs.Option.{option_map_or}
use Rattle.irt_base.specs.Valid.{IsPortDelay}
use Rattle.irt_base.specs.declared.limits.TheConstants.{MIN_DEVICES, MAX_DEVICES, MAX_PORTS, MAX_DELAY, MAX_FACTOR, MAX_WINDOW}
use Rattle.irt_base.specs.declared.numbers.DevId.{DevId}
use Rattle.irt_base.specs.declared.plants.Device.{Device}
use Rattle.irt_base.specs.declared.plants.Link.{Link}
use Rattle.irt_base.specs.declared.plants.Demand.{Demand}
use Rattle.irt_base.specs.declared.plants.Traffic.{Traffic}
use Rattle.irt_base.specs.declared.plants.App.{App}
use Rattle.irt_base.specs.declared.plants.Plant.{Plant}
use Rattle.plant_rules.specs.Words.{is_within, same_name, share_port, hop_there, hop_back, same_frame, same_app_device}
use Rattle.plant_rules.specs.Rules.{ItemHas, HasOwnName, HasPorts, HasBridge, HasOwnPorts, HasLinkTimes, HasOwnFrame, HasDemandEnds, HasTraffic, HasOwnDevice, FollowsClock, KeepsRule}
use Rattle.plant_rules.specs.Meets.{HasDataLength, HasUpdate}
use Rattle.irt_topo.specs.Rules.{passes_at, fits_cycle, is_device, is_port_delay, is_sync_plan, all_differ, follows_clock, device_name_holds, device_ports_hold, bridge_holds, link_ends_hold, link_delay_holds, frame_holds, demand_ends_hold, length_holds, update_holds, traffic_holds, app_holds, clock_holds, holds, places, number_of}
use Rattle.irt_topo.specs.declared.rules.Rule.{Rule}
use Rattle.irt_topo.specs.declared.rules.Rule.TheVariants as rules
use Rattle.irt_topo.proofs.Passing.{EachPasses-from_places, passes_at-from_EachPasses, AllByRecursion-from_list_all, list_all-from_AllByRecursion}
use Rattle.irt_topo.proofs.ItemTests.{within, within-back, name, name-back, port_delay, port_delay-back, none_of, none_of-back, differ, differ-back, consumer, consumer-back, data_length, data_length-back, sync_plan, sync_plan-back, words, words-back}
use Rattle.irt_topo.proofs.RuleLaws.{name_of, name_is_new, name_gives, ends_of, ports_are_new, ends_give, frame_of, frame_count, frame_is_new, frame_gives, traffic_count, traffic_from, traffic_gives, app_of, app_is_new, app_gives, clock_of, clock_gives}

module _ {A : Type 0} (test : List A → A → Bool) (Fact : List A → A → Type 0) where
  module _ (says : (b : List A) (x : A) → test b x ≡ true → Fact b x) where
    at_item : (b : List A) (o : Option A) → option_map_or (test b) o true ≡ true → IfSome o (Fact b)
    at_item b None h = tt
    at_item b (Some x) h = says b x h

    pub item_says : (xs : List A) (i : ℕ) → passes_at test xs i ≡ true → ItemHas xs Fact i
    item_says xs i h = at_item (take i xs) (slice_get xs i) h

    pub items_say : (xs : List A) → ((i : ℕ) → i < length xs → passes_at test xs i ≡ true) → (i : ℕ) → ItemHas xs Fact i
    items_say xs h i = item_says xs i (passes_at-from_EachPasses test xs (EachPasses-from_places test xs h) i)

  module _ (gives : (b : List A) (x : A) → Fact b x → test b x ≡ true) where
    at_fact : (b : List A) (o : Option A) → IfSome o (Fact b) → option_map_or (test b) o true ≡ true
    at_fact b None h = refl
    at_fact b (Some x) h = gives b x h

    pub item_gives : (xs : List A) (i : ℕ) → ItemHas xs Fact i → passes_at test xs i ≡ true
    item_gives xs i h = at_fact (take i xs) (slice_get xs i) h

own_name : (b : List Device) (d : Device) → device_name_holds b d ≡ true → HasOwnName b d
own_name b d h = (name d.name (name_of b d h), none_of (λ e. same_name e d) b (name_is_new b d h))

own_name-back : (b : List Device) (d : Device) → HasOwnName b d → device_name_holds b d ≡ true
own_name-back b d h = name_gives b d (name-back d.name h.0) (none_of-back (λ e. same_name e d) b h.1)

ports : (b : List Device) (d : Device) → device_ports_hold b d ≡ true → HasPorts b d
ports b d h =
    let (count, delays) = and_parts (is_within 1 MAX_PORTS (length d.ports)) (list_all is_port_delay d.ports) h in
    (within 1 MAX_PORTS (length d.ports) count, AllByRecursion-from_list_all is_port_delay IsPortDelay port_delay d.ports delays)

ports-back : (b : List Device) (d : Device) → HasPorts b d → device_ports_hold b d ≡ true
ports-back b d h =
    and_from (is_within 1 MAX_PORTS (length d.ports)) (list_all is_port_delay d.ports) (within-back 1 MAX_PORTS (length d.ports) h.0)
    (list_all-from_AllByRecursion is_port_delay IsPortDelay port_delay-back d.ports h.1)

bridge : (b : List Device) (d : Device) → bridge_holds b d ≡ true → HasBridge b d
bridge b d h =
    let (order, most) = and_parts (nat_le d.bmin d.bmax) (nat_le d.bmax MAX_DELAY) h in
    (leb-true d.bmin d.bmax order, leb-true d.bmax MAX_DELAY most)

bridge-back : (b : List Device) (d : Device) → HasBridge b d → bridge_holds b d ≡ true
bridge-back b d h = and_from (nat_le d.bmin d.bmax) (nat_le d.bmax MAX_DELAY) (le-leb _ _ h.0) (le-leb _ _ h.1)

own_ports : (p : Plant) (b : List Link) (l : Link) → link_ends_hold p b l ≡ true → HasOwnPorts p b l
own_ports p b l h =
    let ends = ends_of p b l h in
    (ends.first, ends.second, ends.two, none_of (λ e. share_port e l) b (ports_are_new p b l h))

own_ports-back : (p : Plant) (b : List Link) (l : Link) → HasOwnPorts p b l → link_ends_hold p b l ≡ true
own_ports-back p b l h =
    ends_give p b l (record { first = h.0; second = h.1; two = h.2 }) (none_of-back (λ e. share_port e l) b h.3)

link_times : (p : Plant) (b : List Link) (l : Link) → link_delay_holds p b l ≡ true → HasLinkTimes p b l
link_times p b l h =
    let (two, back) = and_parts _ (fits_cycle p (p.red_max + hop_back p l)) h in
    let (delay, there) = and_parts (nat_le l.delay MAX_DELAY) (fits_cycle p (p.red_max + hop_there p l)) two in
    (leb-true l.delay MAX_DELAY delay, leb-true _ _ there, leb-true _ _ back)

link_times-back : (p : Plant) (b : List Link) (l : Link) → HasLinkTimes p b l → link_delay_holds p b l ≡ true
link_times-back p b l h =
    and_from _ (fits_cycle p (p.red_max + hop_back p l))
    (and_from (nat_le l.delay MAX_DELAY) (fits_cycle p (p.red_max + hop_there p l)) (le-leb _ _ h.0) (le-leb _ _ h.1))
    (le-leb _ _ h.2)

own_frame : (b : List Demand) (d : Demand) → frame_holds b d ≡ true → HasOwnFrame b d
own_frame b d h = (frame_count b d h, frame_of b d h, none_of (λ e. same_frame e d) b (frame_is_new b d h))

own_frame-back : (b : List Demand) (d : Demand) → HasOwnFrame b d → frame_holds b d ≡ true
own_frame-back b d h = frame_gives b d h.1 (none_of-back (λ e. same_frame e d) b h.2) h.0

demand_ends : (p : Plant) (b : List Demand) (d : Demand) → demand_ends_hold p b d ≡ true → HasDemandEnds p b d
demand_ends p b d h =
    let (three, different) = and_parts _ (all_differ d.consumers) h in
    let (two, each) = and_parts _ (list_all (λ (c : DevId). is_device p c.0 && not (c.0 == d.provider.0)) d.consumers) three in
    let (provider, some) = and_parts (is_device p d.provider.0) (nat_le 1 (length d.consumers)) two in (
      ltb-true _ _ provider,
      leb-true _ _ some,
      AllByRecursion-from_list_all _ _ (consumer p d.provider) d.consumers each,
      differ d.consumers different,
    )

demand_ends-back : (p : Plant) (b : List Demand) (d : Demand) → HasDemandEnds p b d → demand_ends_hold p b d ≡ true
demand_ends-back p b d h =
    and_from _ (all_differ d.consumers)
    (and_from _ (list_all (λ (c : DevId). is_device p c.0 && not (c.0 == d.provider.0)) d.consumers)
    (and_from (is_device p d.provider.0) (nat_le 1 (length d.consumers)) (lt-ltb _ _ h.0) (le-leb _ _ h.1))
    (list_all-from_AllByRecursion _ _ (consumer-back p d.provider) d.consumers h.2))
    (differ-back d.consumers h.3)

own_device : (p : Plant) (b : List App) (a : App) → app_holds p b a ≡ true → HasOwnDevice p b a
own_device p b a h = (app_of p b a h, none_of (λ e. same_app_device e a) b (app_is_new p b a h))

own_device-back : (p : Plant) (b : List App) (a : App) → HasOwnDevice p b a → app_holds p b a ≡ true
own_device-back p b a h = app_gives p b a h.0 (none_of-back (λ e. same_app_device e a) b h.1)

follows : (p : Plant) (device : ℕ) → device < length p.devices → length p.devices ≤ MAX_DEVICES → clock_holds p device ≡ true → FollowsClock p device
follows p device below most h =
    let (sync, clock) = and_parts (is_sync_plan p.sync) (follows_clock p.clocks p device) h in
    (sync_plan p.sync sync, λ ptcp above. clock_of p.clocks p device ptcp above (omega arith) clock)

follows-back : (p : Plant) (device : ℕ) → FollowsClock p device → clock_holds p device ≡ true
follows-back p device h =
    and_from (is_sync_plan p.sync) (follows_clock p.clocks p device) (sync_plan-back p.sync h.0) (clock_gives p.clocks p device h.1)

-- the table of clocks has room for the devices
abbrev pub HasRoom : Rule → Plant → Type 0
HasRoom rules.DeviceClock p = length p.devices ≤ MAX_DEVICES
HasRoom rule p = Unit {0}

-- a test that passes at an index says the rule's fact there
pub says : (rule : Rule) (p : Plant) (i : ℕ) → i < places rule p → HasRoom rule p → holds rule p i ≡ true → KeepsRule p (number_of rule) i
says rules.Factor p i below room h = within 1 MAX_FACTOR p.factor h
says rules.Window p i below room h = leb-true p.window MAX_WINDOW h
says rules.Periods p i below room h = leb-true _ _ h
says rules.DeviceCount p i below room h = within MIN_DEVICES MAX_DEVICES (length p.devices) h
says rules.DeviceName p i below room h = item_says device_name_holds HasOwnName own_name p.devices i h
says rules.DevicePorts p i below room h = item_says device_ports_hold HasPorts ports p.devices i h
says rules.Bridge p i below room h = item_says bridge_holds HasBridge bridge p.devices i h
says rules.LinkEnds p i below room h = item_says (link_ends_hold p) (HasOwnPorts p) (own_ports p) p.links i h
says rules.LinkDelay p i below room h = item_says (link_delay_holds p) (HasLinkTimes p) (link_times p) p.links i h
says rules.DemandFrame p i below room h = item_says frame_holds HasOwnFrame own_frame p.demands i h
says rules.DemandEnds p i below room h = item_says (demand_ends_hold p) (HasDemandEnds p) (demand_ends p) p.demands i h
says rules.DemandLength p i below room h = item_says length_holds (λ b d. HasDataLength d) (λ b d is. data_length d.length is) p.demands i h
says rules.DemandUpdate p i below room h = item_says (update_holds p) (λ b d. HasUpdate p d) (λ b d is. leb-true _ _ is) p.demands i h
says rules.TrafficEntry p i below room h =
    item_says (traffic_holds p) (HasTraffic p) (λ b t is. (traffic_count p b t is, traffic_from p b t is)) p.traffic i h
says rules.AppDevice p i below room h = item_says (app_holds p) (HasOwnDevice p) (own_device p) p.apps i h
says rules.DeviceWords p i below room h = λ _. words p i h
says rules.DeviceClock p i below room h = λ _. follows p i below room h

-- a rule's fact at an index lets the test pass there
pub gives : (rule : Rule) (p : Plant) (i : ℕ) → i < places rule p → KeepsRule p (number_of rule) i → holds rule p i ≡ true
gives rules.Factor p i below h = within-back 1 MAX_FACTOR p.factor h
gives rules.Window p i below h = le-leb p.window MAX_WINDOW h
gives rules.Periods p i below h = le-leb _ _ h
gives rules.DeviceCount p i below h = within-back MIN_DEVICES MAX_DEVICES (length p.devices) h
gives rules.DeviceName p i below h = item_gives device_name_holds HasOwnName own_name-back p.devices i h
gives rules.DevicePorts p i below h = item_gives device_ports_hold HasPorts ports-back p.devices i h
gives rules.Bridge p i below h = item_gives bridge_holds HasBridge bridge-back p.devices i h
gives rules.LinkEnds p i below h = item_gives (link_ends_hold p) (HasOwnPorts p) (own_ports-back p) p.links i h
gives rules.LinkDelay p i below h = item_gives (link_delay_holds p) (HasLinkTimes p) (link_times-back p) p.links i h
gives rules.DemandFrame p i below h = item_gives frame_holds HasOwnFrame own_frame-back p.demands i h
gives rules.DemandEnds p i below h = item_gives (demand_ends_hold p) (HasDemandEnds p) (demand_ends-back p) p.demands i h
gives rules.DemandLength p i below h = item_gives length_holds (λ b d. HasDataLength d) (λ b d is. data_length-back d.length is) p.demands i h
gives rules.DemandUpdate p i below h = item_gives (update_holds p) (λ b d. HasUpdate p d) (λ b d is. le-leb _ _ is) p.demands i h
gives rules.TrafficEntry p i below h = item_gives (traffic_holds p) (HasTraffic p) (λ b t is. traffic_gives p b t is.1 is.0) p.traffic i h
gives rules.AppDevice p i below h = item_gives (app_holds p) (HasOwnDevice p) (own_device-back p) p.apps i h
gives rules.DeviceWords p i below h = words-back p i (h below)
gives rules.DeviceClock p i below h = follows-back p i (h below)

-- tests that pass at all their indexes say the rule's fact at every index
pub everywhere : (rule : Rule) (p : Plant) → HasRoom rule p → ((i : ℕ) → i < places rule p → holds rule p i ≡ true) → (i : ℕ) → KeepsRule p (number_of rule) i
everywhere rules.Factor p room h i = within 1 MAX_FACTOR p.factor (h 0 (omega arith))
everywhere rules.Window p room h i = leb-true p.window MAX_WINDOW (h 0 (omega arith))
everywhere rules.Periods p room h i = leb-true _ _ (h 0 (omega arith))
everywhere rules.DeviceCount p room h i = within MIN_DEVICES MAX_DEVICES (length p.devices) (h 0 (omega arith))
everywhere rules.DeviceName p room h i = items_say device_name_holds HasOwnName own_name p.devices h i
everywhere rules.DevicePorts p room h i = items_say device_ports_hold HasPorts ports p.devices h i
everywhere rules.Bridge p room h i = items_say bridge_holds HasBridge bridge p.devices h i
everywhere rules.LinkEnds p room h i = items_say (link_ends_hold p) (HasOwnPorts p) (own_ports p) p.links h i
everywhere rules.LinkDelay p room h i = items_say (link_delay_holds p) (HasLinkTimes p) (link_times p) p.links h i
everywhere rules.DemandFrame p room h i = items_say frame_holds HasOwnFrame own_frame p.demands h i
everywhere rules.DemandEnds p room h i = items_say (demand_ends_hold p) (HasDemandEnds p) (demand_ends p) p.demands h i
everywhere rules.DemandLength p room h i = items_say length_holds (λ b d. HasDataLength d) (λ b d is. data_length d.length is) p.demands h i
everywhere rules.DemandUpdate p room h i = items_say (update_holds p) (λ b d. HasUpdate p d) (λ b d is. leb-true _ _ is) p.demands h i
everywhere rules.TrafficEntry p room h i =
    items_say (traffic_holds p) (HasTraffic p) (λ b t is. (traffic_count p b t is, traffic_from p b t is)) p.traffic h i
everywhere rules.AppDevice p room h i = items_say (app_holds p) (HasOwnDevice p) (own_device p) p.apps h i
everywhere rules.DeviceWords p room h i = λ below. words p i (h i below)
everywhere rules.DeviceClock p room h i = λ below. follows p i below room (h i below)
