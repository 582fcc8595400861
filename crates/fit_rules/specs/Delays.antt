-- When a frame is sent, in plain numbers: times after the offset of an anchor. Times are ns.
use Rattle.std.specs.Prelude.{◌≡◌, ℕ, ◌+◌, ◌≤◌, ◌⊎◌, List, Some, Contains, slice_get}
use Rattle.irt_base.specs.Cycle.{SharesCycle, wire_time, guard_time}
use Rattle.irt_base.specs.declared.blocks.Entry.{Entry}
use Rattle.irt_base.specs.declared.plants.Demand.{Demand}
use Rattle.irt_base.specs.declared.plants.Device.{Device}
use Rattle.irt_base.specs.declared.plants.Plant.{Plant}
use Rattle.plan_rules.specs.Frames.{IsForwarded}
use Rattle.plan_rules.specs.SendWindow.{SendWindow, slack_time}
use Rattle.fit_rules.specs.declared.frame_plan.FramePlan.{FramePlan}
use Rattle.fit_rules.specs.Shape.{alone, entry_of}
use Rattle.fit_rules.specs.Fit.{IsUsing}

-- A plan whose anchors all start at 0: so its windows are times after the offset of an anchor.
abbrev pub IsAtZero : FramePlan → Type 0
IsAtZero base = (device : ℕ) (e : Entry) → entry_of base device ≡ Some e → e.send_offset ≡ 0

-- The device sends by the port this least and this greatest time after the anchor's offset. Behind an anchor, a hop of
-- 800 and a bridge of 1000 to 3000, they are 1800 and 3800.
pub record IsDelayed (plant : Plant) (base : FramePlan) (anchor device port least greatest : ℕ) : Type 0 where
  pub e : Entry
  pub w : SendWindow
  pub sends : IsUsing plant base device port e w
  pub hangs : w.anchor ≡ anchor
  pub lo : w.lo ≡ least
  pub hi : w.hi ≡ greatest

-- a sending that is so much later than an anchor's offset x has room
pub record HasRoomAt (plant : Plant) (placed : List FramePlan) (demand : Demand) (ratio phase anchor device port : ℕ)
    (least greatest x : ℕ) : Type 0 where
  pub red : x + greatest + wire_time demand.length + slack_time plant.window device anchor ≤ plant.red_max
  pub apart : (other : FramePlan) (f : Entry) (v : SendWindow) → Contains placed other →
      IsUsing plant other device port f v → SharesCycle ratio phase f.ratio f.phase →
      (x + greatest + wire_time demand.length + slack_time plant.window anchor v.anchor ≤ v.lo)
      ⊎ (v.hi + wire_time f.data_length + slack_time plant.window v.anchor anchor ≤ x + least)

-- all sendings that hang on an anchor have room at its offset x
abbrev pub AreRoomyAt : Plant → List FramePlan → Demand → ℕ → ℕ → FramePlan → ℕ → ℕ → Type 0
AreRoomyAt plant placed demand ratio phase base anchor x = (device port least greatest : ℕ) →
    IsDelayed plant base anchor device port least greatest →
    HasRoomAt plant placed demand ratio phase anchor device port least greatest x

-- a forwarder surely has the frame this long after the offset of an anchor: 5800 behind a hop of 800, a bridge of at
-- most 3000 and a guard of 2000
pub record IsReadyAfter (plant : Plant) (base : FramePlan) (device anchor gap : ℕ) : Type 0 where
  pub e : Entry
  pub hop : ℕ
  pub w : SendWindow
  pub d : Device
  pub comes : IsForwarded (alone plant base) device base.frame.0 e hop w
  pub held : slice_get plant.devices device ≡ Some d
  pub hangs : w.anchor ≡ anchor
  pub is : gap ≡ w.hi + hop + d.bmax + guard_time plant.window
