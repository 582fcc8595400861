-- The rules P2..P18: what each asks of an index, their order, and the first that a plant fails. A rule of the plant
-- as a whole asks the same of each index, so that it fails at 0. The others ask of a device, a link, a demand, a
-- traffic entry or an app, in the order of the plant's list.
use Rattle.std.specs.Prelude.{◌≡◌, ℕ, ◌<◌, false, Bool, List, [], ◌∷◌, length, take, slice_get, slice_index_or, IfSome, ⊤}
use Rattle.std.specs.List.{AllByRecursion}
use Rattle.irt_base.specs.declared.limits.TheConstants.{MAX_DEMANDS, MAX_TRAFFIC}
use Rattle.irt_base.specs.declared.plants.Clocks.TheVariants.{Ptcp}
use Rattle.irt_base.specs.declared.plants.Device.{Device}
use Rattle.irt_base.specs.declared.plants.Link.{Link}
use Rattle.irt_base.specs.declared.plants.Demand.{Demand}
use Rattle.irt_base.specs.declared.plants.Traffic.{Traffic}
use Rattle.irt_base.specs.declared.plants.App.{App}
use Rattle.irt_base.specs.declared.plants.Plant.{Plant}
use Rattle.plant_rules.specs.Clocks.{HasClock}
use Rattle.plant_rules.specs.Words.{same_name, share_port, same_frame, same_app_device}
use Rattle.plant_rules.specs.Meets.{HasFactor, HasWindow, HasPeriods, HasDeviceCount, IsName, HasPortCount, HasPortDelays, HasBridgeOrder, HasBridgeLimit, HasFirstPort, HasSecondPort, HasTwoDevices, HasDelayLimit, FitsThere, FitsBack, HasPlanFrame, HasProvider, HasSomeConsumer, HasConsumers, HasOtherConsumers, HasDataLength, HasUpdate, IsTraffic, IsApp, HasWords, IsSyncPlan}

-- The item at an index has a fact, in view of the items before it. An index without an item has it.
abbrev pub ItemHas : {A : Type 0} → List A → (List A → A → Type 0) → ℕ → Type 0
ItemHas items Fact index = IfSome (slice_get items index) (Fact (take index items))

-- no item before is the same
abbrev pub IsNew : {A : Type 0} → (A → A → Bool) → List A → A → Type 0
IsNew same before item = AllByRecursion (λ e. same e item ≡ false) before

abbrev pub HasOwnName : List Device → Device → Type 0
HasOwnName before d = IsName d.name × IsNew same_name before d

abbrev pub HasPorts : List Device → Device → Type 0
HasPorts before d = HasPortCount d × HasPortDelays d

abbrev pub HasBridge : List Device → Device → Type 0
HasBridge before d = HasBridgeOrder d × HasBridgeLimit d

abbrev pub HasOwnPorts : Plant → List Link → Link → Type 0
HasOwnPorts p before l = HasFirstPort p l × HasSecondPort p l × HasTwoDevices l × IsNew share_port before l

abbrev pub HasLinkTimes : Plant → List Link → Link → Type 0
HasLinkTimes p before l = HasDelayLimit l × FitsThere p l × FitsBack p l

-- The demand is one of the first 512, and so on.
abbrev pub HasOwnFrame : List Demand → Demand → Type 0
HasOwnFrame before d = (length before < MAX_DEMANDS) × HasPlanFrame d × IsNew same_frame before d

abbrev pub HasDemandEnds : Plant → List Demand → Demand → Type 0
HasDemandEnds p before d = HasProvider p d × HasSomeConsumer d × HasConsumers p d × HasOtherConsumers d

-- The entry is one of the first 64, and so on.
abbrev pub HasTraffic : Plant → List Traffic → Traffic → Type 0
HasTraffic p before t = (length before < MAX_TRAFFIC) × IsTraffic p t

abbrev pub HasOwnDevice : Plant → List App → App → Type 0
HasOwnDevice p before a = IsApp p a × IsNew same_app_device before a

-- The numbers of `sync` are in range, and where clocks are by PTCP, each device but the first has a walk from device
-- 0 that is so short that its budget is at most the window.
abbrev pub FollowsClock : Plant → ℕ → Type 0
FollowsClock p device = IsSyncPlan p.sync × (p.clocks ≡ Ptcp → 0 < device → HasClock p device)

-- P2, P3 and so on, in their order. This is their one list.
abbrev pub rule_table : Plant → List (ℕ → Type 0)
rule_table p =
    (λ _. HasFactor p)
    ∷ (λ _. HasWindow p)
    ∷ (λ _. HasPeriods p)
    ∷ (λ _. HasDeviceCount p)
    ∷ ItemHas p.devices HasOwnName
    ∷ ItemHas p.devices HasPorts
    ∷ ItemHas p.devices HasBridge
    ∷ ItemHas p.links (HasOwnPorts p)
    ∷ ItemHas p.links (HasLinkTimes p)
    ∷ ItemHas p.demands HasOwnFrame
    ∷ ItemHas p.demands (HasDemandEnds p)
    ∷ ItemHas p.demands (λ before d. HasDataLength d)
    ∷ ItemHas p.demands (λ before d. HasUpdate p d)
    ∷ ItemHas p.traffic (HasTraffic p)
    ∷ ItemHas p.apps (HasOwnDevice p)
    ∷ (λ device. device < length p.devices → HasWords p device)
    ∷ (λ device. device < length p.devices → FollowsClock p device)
    ∷ []

abbrev pub AsksNothing : ℕ → Type 0
AsksNothing index = ⊤

-- The rule of a number holds at an index. Of a plant P1 asks nothing, since it is the shape of a file, and neither
-- does a number that no rule has.
abbrev pub KeepsRule : Plant → ℕ → ℕ → Type 0
KeepsRule p number = slice_index_or (AsksNothing ∷ AsksNothing ∷ rule_table p) number AsksNothing

-- The first rule that a plant fails, and the least index at which it fails.
pub record FailsFirst (p : Plant) (number index : ℕ) : Type 0 where
  pub fails : ¬ KeepsRule p number index
  pub least : (before : ℕ) → before < index → KeepsRule p number before
  pub first : (lesser at : ℕ) → lesser < number → KeepsRule p lesser at
