-- The rules P2..P18 as tests of a plant at an index, and the first rule that fails. P1 is the shape of
-- the file. A rule of the plant as a whole has the index 0.
use Rattle.std.specs.Prelude.{ℕ, ◌+◌, ◌%◌, ◌==◌, nat_le, nat_lt, Bool, true, not, ◌&&◌, ◌||◌, List, [], ◌∷◌, length, take, slice_get, Option, Some, None}
use Rattle.std.specs.List.{list_any, list_all}
use Rattle.std.specs.Option.{option_map_or}
use Rattle.irt_base.specs.Cycle.{cycle_time, guard_time}
use Rattle.irt_base.specs.declared.limits.TheConstants.{MIN_DEVICES, MAX_DEVICES, MAX_PORTS, MAX_DEMANDS, MAX_TRAFFIC, MAX_NAME, MAX_WINDOW, MAX_DELAY, MAX_FACTOR, MIN_DATA, MAX_DATA, DATA_STEP, MIN_FRAME, MAX_FRAME, MAX_WORDS, MIN_PARCEL, MAX_PARCEL, MAX_EVERY, MAX_COUNT, MAX_SEND, MAX_TIMEOUT, MAX_DRIFT, MAX_STAMP, MIN_LOSS, MAX_LOSS}
use Rattle.irt_base.specs.declared.numbers.DevId.{DevId}
use Rattle.irt_base.specs.declared.blocks.PortDelay.{PortDelay}
use Rattle.irt_base.specs.declared.plants.Clocks.{Clocks}
use Rattle.irt_base.specs.declared.plants.Clocks.TheVariants.{World, Ptcp}
use Rattle.irt_base.specs.declared.plants.SyncPlan.{SyncPlan}
use Rattle.irt_base.specs.declared.plants.Device.{Device}
use Rattle.irt_base.specs.declared.plants.Link.{Link}
use Rattle.irt_base.specs.declared.plants.Demand.{Demand}
use Rattle.irt_base.specs.declared.plants.Traffic.{Traffic}
use Rattle.irt_base.specs.declared.plants.App.{App}
use Rattle.irt_base.specs.declared.plants.Plant.{Plant}
use Rattle.irt_topo.specs.Clocks.{has_clock, least_from}
use Rattle.irt_topo.specs.declared.rules.Rule.{Rule}
use Rattle.irt_topo.specs.declared.rules.Rule.TheVariants as rules
use Rattle.plant_rules.specs.Words.{is_within, same_name, has_port, share_port, hop_there, hop_back, same_frame, same_app_device, consumes, provides, words_where}

-- the item at an index passes a test, which sees the items before it
abbrev pub passes_at : {A : Type 0} → (List A → A → Bool) → List A → ℕ → Bool
passes_at test items index = option_map_or (test (take index items)) (slice_get items index) true

-- a time and the guard after it fit into a cycle
abbrev pub fits_cycle : Plant → ℕ → Bool
fits_cycle p time = nat_le (time + guard_time p.window) (cycle_time p.factor)

abbrev pub is_device : Plant → ℕ → Bool
is_device p device = nat_lt device (length p.devices)

-- a-z, 0-9 and `-`
abbrev pub is_name_byte : ℕ → Bool
is_name_byte b = is_within 97 122 b || is_within 48 57 b || b == 45

abbrev pub is_name : List ℕ → Bool
is_name name = is_within 1 MAX_NAME (length name) && list_all is_name_byte name

abbrev pub is_port_delay : PortDelay → Bool
is_port_delay p = nat_le p.tx MAX_DELAY && nat_le p.rx MAX_DELAY

-- no two are the same
abbrev pub all_differ : List DevId → Bool
all_differ [] = true
all_differ (d ∷ ds) = not (list_any (λ (e : DevId). e.0 == d.0) ds) && all_differ ds

abbrev pub is_loss : ℕ → Bool
is_loss loss = loss == 0 || is_within MIN_LOSS MAX_LOSS loss

abbrev pub is_sync_plan : SyncPlan → Bool
is_sync_plan s =
    is_within 1 MAX_SEND s.send && is_within 1 MAX_TIMEOUT s.timeout && nat_le s.drift MAX_DRIFT
    && nat_le s.stamp MAX_STAMP && is_loss s.loss

-- a device of a number past the greatest is no matter of clocks
abbrev pub follows_clock : Clocks → Plant → ℕ → Bool
follows_clock World p device = true
follows_clock Ptcp p device = device == 0 || nat_le MAX_DEVICES device || has_clock p device

-- The rules on one item.
abbrev pub device_name_holds : List Device → Device → Bool
device_name_holds before d = is_name d.name && not (list_any (λ e. same_name e d) before)

abbrev pub device_ports_hold : List Device → Device → Bool
device_ports_hold before d = is_within 1 MAX_PORTS (length d.ports) && list_all is_port_delay d.ports

abbrev pub bridge_holds : List Device → Device → Bool
bridge_holds before d = nat_le d.bmin d.bmax && nat_le d.bmax MAX_DELAY

abbrev pub link_ends_hold : Plant → List Link → Link → Bool
link_ends_hold p before l =
    has_port p l.a.0 l.a_port.0 && has_port p l.b.0 l.b_port.0 && not (l.a.0 == l.b.0)
    && not (list_any (λ e. share_port e l) before)

abbrev pub link_delay_holds : Plant → List Link → Link → Bool
link_delay_holds p before l =
    nat_le l.delay MAX_DELAY && fits_cycle p (p.red_max + hop_there p l) && fits_cycle p (p.red_max + hop_back p l)

abbrev pub frame_holds : List Demand → Demand → Bool
frame_holds before d =
    nat_lt (length before) MAX_DEMANDS && is_within MIN_FRAME MAX_FRAME d.frame.0
    && not (list_any (λ e. same_frame e d) before)

abbrev pub demand_ends_hold : Plant → List Demand → Demand → Bool
demand_ends_hold p before d =
    is_device p d.provider.0 && nat_le 1 (length d.consumers)
    && list_all (λ (c : DevId). is_device p c.0 && not (c.0 == d.provider.0)) d.consumers && all_differ d.consumers

abbrev pub length_holds : List Demand → Demand → Bool
length_holds before d = is_within MIN_DATA MAX_DATA d.length && d.length % DATA_STEP == 0

abbrev pub update_holds : Plant → List Demand → Demand → Bool
update_holds p before d = nat_le (cycle_time p.factor) d.update

abbrev pub has_two_ends : Plant → Traffic → Bool
has_two_ends p t = is_device p t.source.0 && is_device p t.target.0 && not (t.source.0 == t.target.0)

abbrev pub has_ranges : Traffic → Bool
has_ranges t = is_within MIN_PARCEL MAX_PARCEL t.length && is_within 1 MAX_EVERY t.every && is_within 1 MAX_COUNT t.count

abbrev pub traffic_holds : Plant → List Traffic → Traffic → Bool
traffic_holds p before t = nat_lt (length before) MAX_TRAFFIC && has_two_ends p t && has_ranges t

abbrev pub app_holds : Plant → List App → App → Bool
app_holds p before a = is_device p a.device.0 && not (list_any (λ b. same_app_device b a) before)

abbrev pub words_hold : Plant → ℕ → Bool
words_hold p device =
    nat_le (words_where (consumes device) p.demands) MAX_WORDS
    && nat_le (words_where (provides device) p.demands) MAX_WORDS

abbrev pub clock_holds : Plant → ℕ → Bool
clock_holds p device = is_sync_plan p.sync && follows_clock p.clocks p device

-- the rule holds at the index
abbrev pub holds : Rule → Plant → ℕ → Bool
holds rules.Factor p index = is_within 1 MAX_FACTOR p.factor
holds rules.Window p index = nat_le p.window MAX_WINDOW
holds rules.Periods p index = fits_cycle p (p.red_max + p.orange)
holds rules.DeviceCount p index = is_within MIN_DEVICES MAX_DEVICES (length p.devices)
holds rules.DeviceName p index = passes_at device_name_holds p.devices index
holds rules.DevicePorts p index = passes_at device_ports_hold p.devices index
holds rules.Bridge p index = passes_at bridge_holds p.devices index
holds rules.LinkEnds p index = passes_at (link_ends_hold p) p.links index
holds rules.LinkDelay p index = passes_at (link_delay_holds p) p.links index
holds rules.DemandFrame p index = passes_at frame_holds p.demands index
holds rules.DemandEnds p index = passes_at (demand_ends_hold p) p.demands index
holds rules.DemandLength p index = passes_at length_holds p.demands index
holds rules.DemandUpdate p index = passes_at (update_holds p) p.demands index
holds rules.TrafficEntry p index = passes_at (traffic_holds p) p.traffic index
holds rules.AppDevice p index = passes_at (app_holds p) p.apps index
holds rules.DeviceWords p index = words_hold p index
holds rules.DeviceClock p index = clock_holds p index

-- how many indexes a rule has
abbrev pub places : Rule → Plant → ℕ
places rules.Factor p = 1
places rules.Window p = 1
places rules.Periods p = 1
places rules.DeviceCount p = 1
places rules.DeviceName p = length p.devices
places rules.DevicePorts p = length p.devices
places rules.Bridge p = length p.devices
places rules.LinkEnds p = length p.links
places rules.LinkDelay p = length p.links
places rules.DemandFrame p = length p.demands
places rules.DemandEnds p = length p.demands
places rules.DemandLength p = length p.demands
places rules.DemandUpdate p = length p.demands
places rules.TrafficEntry p = length p.traffic
places rules.AppDevice p = length p.apps
places rules.DeviceWords p = length p.devices
places rules.DeviceClock p = length p.devices

-- the number by which a rule is named: P2 .. P18
abbrev pub number_of : Rule → ℕ
number_of rules.Factor = 2
number_of rules.Window = 3
number_of rules.Periods = 4
number_of rules.DeviceCount = 5
number_of rules.DeviceName = 6
number_of rules.DevicePorts = 7
number_of rules.Bridge = 8
number_of rules.LinkEnds = 9
number_of rules.LinkDelay = 10
number_of rules.DemandFrame = 11
number_of rules.DemandEnds = 12
number_of rules.DemandLength = 13
number_of rules.DemandUpdate = 14
number_of rules.TrafficEntry = 15
number_of rules.AppDevice = 16
number_of rules.DeviceWords = 17
number_of rules.DeviceClock = 18

-- the least index at which a rule fails
abbrev pub least_failing : Rule → Plant → Option ℕ
least_failing rule p = least_from (λ index. not (holds rule p index)) 0 (places rule p)

-- the first of the rules that fails, and its least index
abbrev pub or_next : Rule → Option ℕ → Option (Rule × ℕ) → Option (Rule × ℕ)
or_next rule None next = next
or_next rule (Some index) next = Some (rule, index)

abbrev pub first_failing : List Rule → Plant → Option (Rule × ℕ)
first_failing [] p = None
first_failing (rule ∷ rest) p = or_next rule (least_failing rule p) (first_failing rest p)

-- the rules in their order
abbrev pub rule_order : List Rule
rule_order =
    rules.Factor ∷ rules.Window ∷ rules.Periods ∷ rules.DeviceCount ∷ rules.DeviceName ∷ rules.DevicePorts
    ∷ rules.Bridge ∷ rules.LinkEnds ∷ rules.LinkDelay ∷ rules.DemandFrame ∷ rules.DemandEnds ∷ rules.DemandLength
    ∷ rules.DemandUpdate ∷ rules.TrafficEntry ∷ rules.AppDevice ∷ rules.DeviceWords ∷ rules.DeviceClock ∷ []

abbrev pub first_failure : Plant → Option (Rule × ℕ)
first_failure p = first_failing rule_order p
