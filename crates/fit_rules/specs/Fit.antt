-- First fit of one frame beside those that are placed. Times are ns.
use Rattle.std.specs.Prelude.{◌≡◌, ℕ, ◌+◌, ◌<◌, ◌≤◌, ◌⊎◌, List, Some, slice_get, Contains}
use Rattle.irt_base.specs.Cycle.{SharesCycle, wire_time, guard_time}
use Rattle.irt_base.specs.Valid.{IsWithin}
use Rattle.irt_base.specs.declared.blocks.Entry.{Entry}
use Rattle.irt_base.specs.declared.plants.Demand.{Demand}
use Rattle.irt_base.specs.declared.plants.Device.{Device}
use Rattle.irt_base.specs.declared.plants.Plant.{Plant}
use Rattle.irt_route.specs.Trees.{Parents}
use Rattle.plan_rules.specs.Way.{entry_at, IsAnchor}
use Rattle.plan_rules.specs.SendWindow.{SendWindow, slack_time}
use Rattle.plan_rules.specs.Frames.{IsSending, IsForwarded, IsBefore}
use Rattle.fit_rules.specs.declared.frame_plan.FramePlan.{FramePlan}
use Rattle.fit_rules.specs.Shape.{alone, moved, IsRatioFor, HasShape}

-- the least number of which something holds, from a number on
pub record IsLeastFrom (Holds : ℕ → Type 0) (from x : ℕ) : Type 0 where
  pub reached : from ≤ x
  pub holds : Holds x
  pub least : (y : ℕ) → from ≤ y → y < x → ¬ Holds y

-- The frame leaves a device by a port, in this window.
abbrev pub IsUsing : Plant → FramePlan → ℕ → ℕ → Entry → SendWindow → Type 0
IsUsing plant plan device port e w = IsSending (alone plant plan) device port plan.frame.0 e w

-- Two sendings of one direction don't meet: where they share a cycle, one is before the other.
abbrev pub AreClear : Plant → Entry → SendWindow → Entry → SendWindow → Type 0
AreClear plant e w f v = SharesCycle e.ratio e.phase f.ratio f.phase →
    IsBefore plant.window e w v ⊎ IsBefore plant.window f v w

-- The end of a sending in the device's own cycle, with the slack between its clock and the anchor's. An anchor that
-- starts 40 bytes at 5800 ends at 12520.
abbrev pub end_time : Plant → ℕ → Entry → SendWindow → ℕ
end_time plant device e w = w.hi + wire_time e.data_length + slack_time plant.window device w.anchor

-- A sending ends by the red limit, and meets no placed frame.
pub record HasRoom (plant : Plant) (placed : List FramePlan) (device port : ℕ) (e : Entry)
    (w : SendWindow) : Type 0 where
  pub red : end_time plant device e w ≤ plant.red_max
  pub apart : (other : FramePlan) (f : Entry) (v : SendWindow) → Contains placed other →
      IsUsing plant other device port f v → AreClear plant e w f v

-- All sendings whose windows hang on an anchor have room.
abbrev pub IsClear : Plant → List FramePlan → FramePlan → ℕ → Type 0
IsClear plant placed plan anchor = (device port : ℕ) (e : Entry) (w : SendWindow) → IsUsing plant plan device port e w →
    w.anchor ≡ anchor → HasRoom plant placed device port e w

-- when a forwarder surely has the frame
pub record IsForwardReady (plant : Plant) (plan : FramePlan) (device : ℕ) (e : Entry) (ready : ℕ) : Type 0 where
  pub hop : ℕ
  pub window : SendWindow
  pub d : Device
  pub comes : IsForwarded (alone plant plan) device plan.frame.0 e hop window
  pub held : slice_get plant.devices device ≡ Some d
  pub is : ready ≡ window.hi + hop + d.bmax + guard_time plant.window

-- When an anchor may start at the earliest: at 0 where it provides the frame, else when it surely has it.
abbrev pub IsReady : Plant → FramePlan → ℕ → Entry → ℕ → Type 0
IsReady plant plan device e ready = ((e.rx_port ≡ 0) × (ready ≡ 0)) ⊎ IsForwardReady plant plan device e ready

-- With this offset at a device, all that hangs on it has room.
abbrev pub IsClearAt : Plant → List FramePlan → FramePlan → ℕ → ℕ → Type 0
IsClearAt plant placed plan device offset = IsClear plant placed (moved plan device offset) device

-- An anchor has the least offset, from its ready time on, at which the windows that hang on it have room.
pub record IsFitted (plant : Plant) (placed : List FramePlan) (plan : FramePlan) (device : ℕ) (e : Entry) : Type 0 where
  pub ready : ℕ
  pub is_ready : IsReady plant plan device e ready
  pub least : IsLeastFrom (IsClearAt plant placed plan device) ready e.send_offset

-- A demand's frame is placed in a phase. There is at most one such plan; where there is none, the phase fails.
pub record IsInPhase (plant : Plant) (parents : Parents) (placed : List FramePlan) (demand : Demand) (phase : ℕ)
    (plan : FramePlan) : Type 0 where
  pub ratio : ℕ
  pub rate : IsRatioFor plant demand ratio
  pub among : IsWithin 1 ratio phase
  pub shape : HasShape plant parents demand ratio phase plan
  pub fitted : (device : ℕ) (e : Entry) → entry_at (alone plant plan) device plan.frame.0 ≡ Some e →
      IsAnchor (alone plant plan) device e → IsFitted plant placed plan device e

-- some sending ends then, and none later
pub record IsLastEnd (plant : Plant) (plan : FramePlan) (end : ℕ) : Type 0 where
  pub bound : (device port : ℕ) (e : Entry) (w : SendWindow) → IsUsing plant plan device port e w →
      end_time plant device e w ≤ end
  pub some : (device : ℕ) × (port : ℕ) × (e : Entry) × (w : SendWindow) × IsUsing plant plan device port e w ×
      (end ≡ end_time plant device e w)

-- by last end, then by phase
abbrev pub IsNotWorse : ℕ → ℕ → ℕ → ℕ → Type 0
IsNotWorse end phase other_end other_phase = (end < other_end) ⊎ ((end ≡ other_end) × (phase ≤ other_phase))

-- First fit places a demand's frame so: of the phases that don't fail, in the one with the least last end.
pub record IsFirstFit (plant : Plant) (parents : Parents) (placed : List FramePlan) (demand : Demand)
    (plan : FramePlan) : Type 0 where
  pub phase : ℕ
  pub end : ℕ
  pub is : IsInPhase plant parents placed demand phase plan
  pub ends : IsLastEnd plant plan end
  pub best : (other_phase other_end : ℕ) (other : FramePlan) → IsInPhase plant parents placed demand other_phase other →
      IsLastEnd plant other other_end → IsNotWorse end phase other_end other_phase

-- All phases fail.
abbrev pub HasNoFit : Plant → Parents → List FramePlan → Demand → Type 0
HasNoFit plant parents placed demand = (phase : ℕ) (plan : FramePlan) →
    ¬ IsInPhase plant parents placed demand phase plan
