-- What P2..P18 say of a plant.
use Rattle.std.specs.Prelude.{◌≡◌, ℕ, ◌+◌, ◌<◌, ◌≤◌, ◌⊎◌, ◌==◌, Bool, true, false, List, length}
use Rattle.std.specs.List.{AllByRecursion, IsDistinct}
use Rattle.irt_base.specs.Cycle.{cycle_time, guard_time}
use Rattle.irt_base.specs.Valid.{IsWithin, IsDataLength, IsPortDelay}
use Rattle.irt_base.specs.declared.limits.TheConstants.{MIN_DEVICES, MAX_DEVICES, MAX_PORTS, MAX_DEMANDS, MAX_TRAFFIC, MAX_NAME, MAX_WINDOW, MAX_DELAY, MAX_FACTOR, MIN_FRAME, MAX_FRAME, MAX_WORDS, MIN_PARCEL, MAX_PARCEL, MAX_EVERY, MAX_COUNT, MAX_SEND, MAX_TIMEOUT, MAX_DRIFT, MAX_STAMP, MIN_LOSS, MAX_LOSS}
use Rattle.irt_base.specs.declared.numbers.DevId.{DevId}
use Rattle.irt_base.specs.declared.plants.Clocks.TheVariants.{Ptcp}
use Rattle.irt_base.specs.declared.plants.SyncPlan.{SyncPlan}
use Rattle.irt_base.specs.declared.plants.Device.{Device}
use Rattle.irt_base.specs.declared.plants.Link.{Link}
use Rattle.irt_base.specs.declared.plants.Demand.{Demand}
use Rattle.irt_base.specs.declared.plants.Traffic.{Traffic}
use Rattle.irt_base.specs.declared.plants.App.{App}
use Rattle.irt_base.specs.declared.plants.Plant.{Plant}
use Rattle.plant_rules.specs.Clocks.{HasClock}
use Rattle.plant_rules.specs.Words.{same_name, same_frame, same_app_device, share_port, words_where, consumes, provides, has_port, hop_there, hop_back}

-- a time and the guard after it fit into a cycle
abbrev pub FitsCycle : Plant → ℕ → Type 0
FitsCycle p time = time + guard_time p.window ≤ cycle_time p.factor

-- a-z, 0-9 and `-`
abbrev pub IsNameByte : ℕ → Type 0
IsNameByte b = IsWithin 97 122 b ⊎ IsWithin 48 57 b ⊎ (b ≡ 45)

pub record IsName (name : List ℕ) : Type 0 where
  pub length : IsWithin 1 MAX_NAME (length name)
  pub letters : AllByRecursion IsNameByte name

-- the parts of P7 and of P8
abbrev pub HasPortCount : Device → Type 0
HasPortCount d = IsWithin 1 MAX_PORTS (length d.ports)

abbrev pub HasPortDelays : Device → Type 0
HasPortDelays d = AllByRecursion IsPortDelay d.ports

abbrev pub HasBridgeOrder : Device → Type 0
HasBridgeOrder d = d.bmin ≤ d.bmax

abbrev pub HasBridgeLimit : Device → Type 0
HasBridgeLimit d = d.bmax ≤ MAX_DELAY

-- P6, P7 and P8 of one device
pub record IsDevice (d : Device) : Type 0 where
  pub name : IsName d.name
  pub port_count : HasPortCount d
  pub ports : HasPortDelays d
  pub bridge_order : HasBridgeOrder d
  pub bridge : HasBridgeLimit d

-- the device has a port of this number
abbrev pub HasPort : Plant → ℕ → ℕ → Type 0
HasPort p device port = has_port p device port ≡ true

-- the parts of P9 and of P10
abbrev pub HasFirstPort : Plant → Link → Type 0
HasFirstPort p l = HasPort p l.a.0 l.a_port.0

abbrev pub HasSecondPort : Plant → Link → Type 0
HasSecondPort p l = HasPort p l.b.0 l.b_port.0

abbrev pub HasTwoDevices : Link → Type 0
HasTwoDevices l = (l.a.0 == l.b.0) ≡ false

abbrev pub HasDelayLimit : Link → Type 0
HasDelayLimit l = l.delay ≤ MAX_DELAY

abbrev pub FitsThere : Plant → Link → Type 0
FitsThere p l = FitsCycle p (p.red_max + hop_there p l)

abbrev pub FitsBack : Plant → Link → Type 0
FitsBack p l = FitsCycle p (p.red_max + hop_back p l)

-- P9 and P10 of one link
pub record IsLink (p : Plant) (l : Link) : Type 0 where
  pub first_port : HasFirstPort p l
  pub second_port : HasSecondPort p l
  pub two_devices : HasTwoDevices l
  pub delay : HasDelayLimit l
  pub there : FitsThere p l
  pub back : FitsBack p l

-- a consumer of a demand
pub record IsConsumer (p : Plant) (provider : DevId) (c : DevId) : Type 0 where
  pub device : c.0 < length p.devices
  pub other : (c.0 == provider.0) ≡ false

abbrev pub same_device : DevId → DevId → Bool
same_device d e = e.0 == d.0

-- the parts of P11 to P14
abbrev pub HasPlanFrame : Demand → Type 0
HasPlanFrame d = IsWithin MIN_FRAME MAX_FRAME d.frame.0

abbrev pub HasProvider : Plant → Demand → Type 0
HasProvider p d = d.provider.0 < length p.devices

abbrev pub HasSomeConsumer : Demand → Type 0
HasSomeConsumer d = 1 ≤ length d.consumers

abbrev pub HasConsumers : Plant → Demand → Type 0
HasConsumers p d = AllByRecursion (IsConsumer p d.provider) d.consumers

abbrev pub HasOtherConsumers : Demand → Type 0
HasOtherConsumers d = IsDistinct same_device d.consumers

abbrev pub HasDataLength : Demand → Type 0
HasDataLength d = IsDataLength d.length

abbrev pub HasUpdate : Plant → Demand → Type 0
HasUpdate p d = cycle_time p.factor ≤ d.update

-- P11 to P14 of one demand
pub record IsDemand (p : Plant) (d : Demand) : Type 0 where
  pub frame : HasPlanFrame d
  pub provider : HasProvider p d
  pub some_consumer : HasSomeConsumer d
  pub consumers : HasConsumers p d
  pub consumers_differ : HasOtherConsumers d
  pub length : HasDataLength d
  pub update : HasUpdate p d

-- P15 of one entry
pub record IsTraffic (p : Plant) (t : Traffic) : Type 0 where
  pub source : t.source.0 < length p.devices
  pub target : t.target.0 < length p.devices
  pub two_devices : (t.source.0 == t.target.0) ≡ false
  pub length : IsWithin MIN_PARCEL MAX_PARCEL t.length
  pub every : IsWithin 1 MAX_EVERY t.every
  pub count : IsWithin 1 MAX_COUNT t.count

-- P16 of one app
abbrev pub IsApp : Plant → App → Type 0
IsApp p a = a.device.0 < length p.devices

-- P17 of one device
pub record HasWords (p : Plant) (device : ℕ) : Type 0 where
  pub consumed : words_where (consumes device) p.demands ≤ MAX_WORDS
  pub provided : words_where (provides device) p.demands ≤ MAX_WORDS

-- the ranges of P18
pub record IsSyncPlan (s : SyncPlan) : Type 0 where
  pub send : IsWithin 1 MAX_SEND s.send
  pub timeout : IsWithin 1 MAX_TIMEOUT s.timeout
  pub drift : s.drift ≤ MAX_DRIFT
  pub stamp : s.stamp ≤ MAX_STAMP
  pub loss : (s.loss ≡ 0) ⊎ IsWithin MIN_LOSS MAX_LOSS s.loss

-- P2 to P5
abbrev pub HasFactor : Plant → Type 0
HasFactor p = IsWithin 1 MAX_FACTOR p.factor

abbrev pub HasWindow : Plant → Type 0
HasWindow p = p.window ≤ MAX_WINDOW

abbrev pub HasPeriods : Plant → Type 0
HasPeriods p = FitsCycle p (p.red_max + p.orange)

abbrev pub HasDeviceCount : Plant → Type 0
HasDeviceCount p = IsWithin MIN_DEVICES MAX_DEVICES (length p.devices)

-- a plant that meets P2..P18, list by list
pub record MeetsRules (p : Plant) : Type 0 where
  pub factor : HasFactor p
  pub window : HasWindow p
  pub periods : HasPeriods p
  pub device_count : HasDeviceCount p
  pub devices : AllByRecursion IsDevice p.devices
  pub names_differ : IsDistinct same_name p.devices
  pub links : AllByRecursion (IsLink p) p.links
  pub ports_differ : IsDistinct share_port p.links
  pub demand_count : length p.demands ≤ MAX_DEMANDS
  pub demands : AllByRecursion (IsDemand p) p.demands
  pub frames_differ : IsDistinct same_frame p.demands
  pub traffic_count : length p.traffic ≤ MAX_TRAFFIC
  pub traffic : AllByRecursion (IsTraffic p) p.traffic
  pub apps : AllByRecursion (IsApp p) p.apps
  pub app_devices_differ : IsDistinct same_app_device p.apps
  pub words : (device : ℕ) → device < length p.devices → HasWords p device
  pub sync : IsSyncPlan p.sync
  pub clocks : p.clocks ≡ Ptcp → (device : ℕ) → 0 < device → device < length p.devices → HasClock p device
