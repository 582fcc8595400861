-- The blocks that first fit writes for each device. Times are ns.
use Rattle.std.specs.Prelude.{◌≡◌, ℕ, ◌+◌, ◌<◌, ◌≤◌, ◌⊎◌, ◌==◌, ◌++◌, ◌∷◌, [], if◌then◌else◌, List, Some, Contains, codes, length, replicate, slice_get}
use Rattle.std.specs.List.Sorted.{IsStrictlyIncreasing}
use Rattle.irt_base.specs.Cycle.{IsDue, wire_time, guard_time}
use Rattle.irt_base.specs.Valid.{frames_of}
use Rattle.irt_base.specs.declared.limits.TheConstants.{PHASES, MIN_FRAME, MAX_FRAME}
use Rattle.irt_base.specs.declared.blocks.Assignment.{Assignment}
use Rattle.irt_base.specs.declared.blocks.Bundle.{Bundle}
use Rattle.irt_base.specs.declared.blocks.Entry.{Entry}
use Rattle.irt_base.specs.declared.blocks.GlobalBlock.{GlobalBlock}
use Rattle.irt_base.specs.declared.blocks.Period.{Period}
use Rattle.irt_base.specs.declared.blocks.PeriodBlock.{PeriodBlock}
use Rattle.irt_base.specs.declared.blocks.PhasePair.{PhasePair}
use Rattle.irt_base.specs.declared.blocks.PortPeriods.{PortPeriods}
use Rattle.irt_base.specs.declared.blocks.SyncBlock.{SyncBlock}
use Rattle.irt_base.specs.declared.plants.Device.{Device}
use Rattle.irt_base.specs.declared.plants.Plant.{Plant}
use Rattle.irt_route.specs.Routes.{RouteTables}
use Rattle.plan_rules.specs.SendWindow.{SendWindow}
use Rattle.plan_rules.specs.Frames.{IsForwarded}
use Rattle.plan_rules.specs.Headers.{is_relative}
use Rattle.fit_rules.specs.declared.fixed.TheConstants.{TAKEOVER, STARTUP, CLOCK_SOURCE, CLOCK_SINK, PRIORITY_1, PRIORITY_2, SLOT, SUBSLOT}
use Rattle.fit_rules.specs.declared.frame_plan.FramePlan.{FramePlan}
use Rattle.fit_rules.specs.Shape.{alone, entry_of}
use Rattle.fit_rules.specs.Fit.{IsUsing, end_time}
use Rattle.fit_rules.specs.Order.{IsFit}

-- the sync domain and the IR data: fifteen bytes 0 and a byte 1
abbrev pub identifier : List ℕ
identifier = replicate 15 0 ++ 1 ∷ []

-- device 0 has the clock that the others follow
abbrev pub sync_of : Plant → ℕ → SyncBlock
sync_of plant device = record {
  subdomain = identifier;
  window = plant.window;
  send = plant.sync.send;
  factor = plant.factor;
  timeout = plant.sync.timeout;
  takeover = TAKEOVER;
  startup = STARTUP;
  properties = if device == 0 then CLOCK_SOURCE else CLOCK_SINK;
  priority1 = PRIORITY_1;
  priority2 = PRIORITY_2;
  name = codes "irt";
}

abbrev pub global_of : Device → GlobalBlock
global_of d = record { uuid = identifier; bridge = d.bmax; ports = d.ports }

-- a device's entries of the placed frames, and no others
pub record AreEntries (plans : List FramePlan) (device : ℕ) (entries : List Entry) : Type 0 where
  pub only : (e : Entry) → Contains entries e →
      (plan : FramePlan) × Contains plans plan × (entry_of plan device ≡ Some e)
  pub all : (plan : FramePlan) (e : Entry) → Contains plans plan → entry_of plan device ≡ Some e → Contains entries e
  pub ascending : IsStrictlyIncreasing (frames_of entries)

-- a frame due in cycle k is sent by the port, and its sending ends then
pub record IsSentEnd (plant : Plant) (plans : List FramePlan) (device port k end : ℕ) : Type 0 where
  pub plan : FramePlan
  pub e : Entry
  pub w : SendWindow
  pub placed : Contains plans plan
  pub sends : IsUsing plant plan device port e w
  pub due : IsDue k e.ratio e.phase
  pub is : end ≡ end_time plant device e w

-- a frame due in cycle k is received by the port, and its arrival ends then, with the guard between two clocks
pub record IsReceivedEnd (plant : Plant) (plans : List FramePlan) (device port k end : ℕ) : Type 0 where
  pub plan : FramePlan
  pub e : Entry
  pub hop : ℕ
  pub w : SendWindow
  pub placed : Contains plans plan
  pub comes : IsForwarded (alone plant plan) device plan.frame.0 e hop w
  pub here : e.rx_port ≡ port
  pub due : IsDue k e.ratio e.phase
  pub is : end ≡ w.hi + hop + wire_time e.data_length + guard_time plant.window

-- the greatest number of which something holds, or 0 where there is none
pub record IsGreatest (Holds : ℕ → Type 0) (most : ℕ) : Type 0 where
  pub bound : (x : ℕ) → Holds x → x ≤ most
  pub some : Holds most ⊎ ((most ≡ 0) × ((x : ℕ) → ¬ Holds x))

-- Red lasts from 0 to the last end, and orange as long as the plant says.
pub record IsTxPeriod (plant : Plant) (plans : List FramePlan) (device port k : ℕ) (tx : Period) : Type 0 where
  pub red : tx.red ≡ 0
  pub orange : IsGreatest (IsSentEnd plant plans device port k) tx.orange
  pub green : tx.green ≡ tx.orange + plant.orange

-- There is no orange between red and green.
pub record IsRxPeriod (plant : Plant) (plans : List FramePlan) (device port k : ℕ) (rx : Period) : Type 0 where
  pub red : rx.red ≡ 0
  pub orange : IsGreatest (IsReceivedEnd plant plans device port k) rx.orange
  pub green : rx.green ≡ rx.orange

-- Both numbers of a phase are one, and name the phase's periods.
pub record IsPhase (plant : Plant) (plans : List FramePlan) (device port : ℕ) (p : PortPeriods) (k : ℕ)
    (pair : PhasePair) : Type 0 where
  pub one : pair.rx ≡ pair.tx
  pub periods : Assignment
  pub named : slice_get p.assignments pair.tx ≡ Some periods
  pub tx : IsTxPeriod plant plans device port k periods.tx
  pub rx : IsRxPeriod plant plans device port k periods.rx

-- a phase before has this number
pub record IsBeforePhase (p : PortPeriods) (k number : ℕ) : Type 0 where
  pub earlier : ℕ
  pub pair : PhasePair
  pub before : earlier < k
  pub there : slice_get p.phases earlier ≡ Some pair
  pub has : pair.tx ≡ number

-- The assignments differ, and stand in the order in which the phases first use them: so a phase's number is one of a
-- phase before, or the next one.
pub record AreNumbered (p : PortPeriods) : Type 0 where
  pub differ : (i j : ℕ) (a : Assignment) → slice_get p.assignments i ≡ Some a →
      slice_get p.assignments j ≡ Some a → i ≡ j
  pub used : (i : ℕ) → i < length p.assignments → IsBeforePhase p PHASES i
  pub first : (k i : ℕ) (pair : PhasePair) → slice_get p.phases k ≡ Some pair → i < pair.tx → IsBeforePhase p k i

-- the periods of a port
pub record ArePortPeriods (plant : Plant) (plans : List FramePlan) (device port : ℕ) (p : PortPeriods) : Type 0 where
  pub count : length p.phases ≡ PHASES
  pub each : (k : ℕ) (pair : PhasePair) → slice_get p.phases k ≡ Some pair → IsPhase plant plans device port p k pair
  pub numbered : AreNumbered p

-- the periods of a device's ports, which count from 1, and the range of red FrameIDs
pub record ArePeriods (plant : Plant) (plans : List FramePlan) (device : ℕ) (d : Device)
    (b : PeriodBlock) : Type 0 where
  pub begin : b.first ≡ MIN_FRAME
  pub end : b.last ≡ MAX_FRAME
  pub count : length b.ports ≡ length d.ports
  pub ports : (n : ℕ) (p : PortPeriods) → slice_get b.ports n ≡ Some p → ArePortPeriods plant plans device (n + 1) p

-- what first fit writes for a device
pub record IsBundleOf (plant : Plant) (plans : List FramePlan) (device : ℕ) (d : Device) (b : Bundle) : Type 0 where
  pub sync : b.sync ≡ sync_of plant device
  pub slot : b.slot ≡ SLOT
  pub subslot : b.subslot ≡ SUBSLOT
  pub global : b.global ≡ global_of d
  pub mode : b.frames.relative ≡ is_relative d.mode
  pub entries : AreEntries plans device b.frames.entries
  pub periods : ArePeriods plant plans device d b.periods

-- The bundles hold the placed frames.
pub record AreBundlesOf (plant : Plant) (plans : List FramePlan) (bundles : List Bundle) : Type 0 where
  pub count : length bundles ≡ length plant.devices
  pub each : (device : ℕ) (d : Device) (b : Bundle) → slice_get plant.devices device ≡ Some d →
      slice_get bundles device ≡ Some b → IsBundleOf plant plans device d b

-- The bundles that first fit gives of a plant and its routes.
pub record AreFirstFit (plant : Plant) (routes : RouteTables) (bundles : List Bundle) : Type 0 where
  pub plans : List FramePlan
  pub fit : IsFit plant routes plans
  pub blocks : AreBundlesOf plant plans bundles
