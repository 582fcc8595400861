-- Frames whose entries differ by one offset, and the offsets that a placed frame blocks. Times are ns.
use Rattle.std.specs.Prelude.{◌≡◌, ℕ, ◌+◌, ◌<◌, Option, option_map}
use Rattle.irt_base.specs.Cycle.{wire_time}
use Rattle.irt_base.specs.declared.blocks.Entry.{Entry}
use Rattle.irt_base.specs.declared.plants.Plant.{Plant}
use Rattle.plan_rules.specs.Frames.{IsForwarded}
use Rattle.plan_rules.specs.SendWindow.{SendWindow, slack_time}
use Rattle.fit_rules.specs.declared.frame_plan.FramePlan.{FramePlan}
use Rattle.fit_rules.specs.Shape.{alone, entry_of}

-- The entries take the frame on one way: it comes by one port, leaves by the same ones, and is as long.
pub record SharesWay (e g : Entry) : Type 0 where
  pub length : g.data_length ≡ e.data_length
  pub rx_port : g.rx_port ≡ e.rx_port
  pub tx : g.tx ≡ e.tx

-- the entries differ in nothing but the offset
pub record IsAlike (e g : Entry) : Type 0 where
  pub frame : g.frame ≡ e.frame
  pub length : g.data_length ≡ e.data_length
  pub ratio : g.ratio ≡ e.ratio
  pub phase : g.phase ≡ e.phase
  pub rx_port : g.rx_port ≡ e.rx_port
  pub tx : g.tx ≡ e.tx

-- The second window is the first one, with the anchor's offset changed from x to y.
pub record IsShifted (x y : ℕ) (w v : SendWindow) : Type 0 where
  pub lo : v.lo + x ≡ w.lo + y
  pub hi : v.hi + x ≡ w.hi + y
  pub anchor : v.anchor ≡ w.anchor

-- Two sendings of one direction are too close: neither is before the other.
pub record AreTooClose (plant : Plant) (e : Entry) (w : SendWindow) (f : Entry) (v : SendWindow) : Type 0 where
  pub not_before : v.lo < w.hi + wire_time e.data_length + slack_time plant.window w.anchor v.anchor
  pub not_after : w.lo < v.hi + wire_time f.data_length + slack_time plant.window v.anchor w.anchor

-- a frame's offset at a device
abbrev pub offset_at : FramePlan → ℕ → Option ℕ
offset_at plan device = option_map (λ (e : Entry). e.send_offset) (entry_of plan device)

-- The offsets of two plans agree at the anchor on which the window of a device's parent hangs.
abbrev pub AgreeAbove : Plant → FramePlan → FramePlan → ℕ → Entry → Type 0
AgreeAbove plant plan other device e = (hop : ℕ) (w : SendWindow) →
    IsForwarded (alone plant plan) device plan.frame.0 e hop w → offset_at plan w.anchor ≡ offset_at other w.anchor
