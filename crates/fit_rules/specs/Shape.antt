-- What one frame has at each device, and the tree that it follows.
use Rattle.std.specs.Prelude.{◌≡◌, ℕ, ◌*◌, ◌<◌, ◌≤◌, ◌⊎◌, ◌↔◌, ◌^◌, false, [], ◌∷◌, Option, Some, None, option_map, length, map, slice_index_or, slice_set, IsBitSet}
use Rattle.irt_base.specs.Cycle.{cycle_time}
use Rattle.irt_base.specs.Valid.{IsRatio}
use Rattle.irt_base.specs.Wiring.{peer_of}
use Rattle.irt_base.specs.declared.blocks.Entry.{Entry}
use Rattle.irt_base.specs.declared.blocks.FrameBlock.{FrameBlock}
use Rattle.irt_base.specs.declared.numbers.DevId.{DevId}
use Rattle.irt_base.specs.declared.numbers.PortNo.{PortNo}
use Rattle.irt_base.specs.declared.plants.Demand.{Demand}
use Rattle.irt_base.specs.declared.plants.Plant.{Plant}
use Rattle.irt_route.specs.Trees.{Parents, parent_at}
use Rattle.plan_rules.specs.Way.{Setup, IsAnchor}
use Rattle.plan_rules.specs.Tree.{Consumes}
use Rattle.fit_rules.specs.declared.frame_plan.FramePlan.{FramePlan}

-- a frame's entry at a device
abbrev pub entry_of : FramePlan → ℕ → Option Entry
entry_of plan device = slice_index_or plan.entries device None

-- a block of one entry at most
abbrev pub block_of : Option Entry → FrameBlock
block_of None = record { relative = false; entries = [] }
block_of (Some e) = record { relative = false; entries = e ∷ [] }

-- The plant with this frame and no other. A frame's windows in it are its windows beside any others.
abbrev pub alone : Plant → FramePlan → Setup
alone plant plan = record { plant = plant; blocks = map block_of plan.entries }

abbrev pub with_offset : ℕ → Entry → Entry
with_offset offset e = record e { send_offset = offset }

-- the same frame with another offset at a device
abbrev pub moved : FramePlan → ℕ → ℕ → FramePlan
moved plan device offset = record {
  frame = plan.frame;
  entries = slice_set plan.entries device (option_map (with_offset offset) (entry_of plan device));
}

-- The greatest ratio that keeps the update time. With cycles of 1000000 ns, 4000000 ns give ratio 4.
pub record IsRatioFor (plant : Plant) (demand : Demand) (ratio : ℕ) : Type 0 where
  pub is : IsRatio ratio
  pub update : ratio * cycle_time plant.factor ≤ demand.update
  pub greatest : (other : ℕ) → IsRatio other → other * cycle_time plant.factor ≤ demand.update → other ≤ ratio

-- the device is on the demand's tree
abbrev pub IsOn : Demand → Parents → ℕ → Type 0
IsOn demand parents device =
    (device ≡ demand.provider.0) ⊎ ((from : DevId × PortNo) × (parent_at parents device ≡ Some from))

-- the device sends the frame by this port to another one
abbrev pub IsSentBy : Parents → ℕ → ℕ → Type 0
IsSentBy parents device port =
    (child : ℕ) × (parent_at parents child ≡ Some (record { 0 = device }, record { 0 = port }))

-- the entry receives the frame by the port to which the parent's port leads
pub record IsReceivedFrom (plant : Plant) (device : ℕ) (e : Entry) (from : DevId × PortNo) : Type 0 where
  pub from_one : 1 ≤ e.rx_port
  pub leads : peer_of plant from.0.0 from.1.0 ≡ Some (record { 0 = device }, record { 0 = e.rx_port })

-- A demand's entry at a device of its tree. Its offset may be any.
pub record IsEntryOf (plant : Plant) (parents : Parents) (demand : Demand) (ratio phase device : ℕ)
    (e : Entry) : Type 0 where
  pub on : IsOn demand parents device
  pub frame : e.frame ≡ demand.frame
  pub length : e.data_length ≡ demand.length
  pub ratio_is : e.ratio ≡ ratio
  pub phase_is : e.phase ≡ phase
  pub provided : device ≡ demand.provider.0 → e.rx_port ≡ 0
  pub received : (from : DevId × PortNo) → parent_at parents device ≡ Some from → IsReceivedFrom plant device e from
  pub sent : (port : ℕ) → 1 ≤ port → IsBitSet e.tx port ↔ IsSentBy parents device port
  pub kept : IsBitSet e.tx 0 ↔ Consumes demand device
  pub small : e.tx < 2 ^ 8

-- The frame stands at the devices of its tree and at no others, in a ratio and phase. Offsets stand at anchors alone.
pub record HasShape (plant : Plant) (parents : Parents) (demand : Demand) (ratio phase : ℕ)
    (plan : FramePlan) : Type 0 where
  pub frame : plan.frame ≡ demand.frame
  pub count : length plan.entries ≡ length plant.devices
  pub each : (device : ℕ) (e : Entry) → entry_of plan device ≡ Some e →
      IsEntryOf plant parents demand ratio phase device e
  pub full : (device : ℕ) → IsOn demand parents device → (e : Entry) × (entry_of plan device ≡ Some e)
  pub idle : (device : ℕ) (e : Entry) → entry_of plan device ≡ Some e →
      ¬ IsAnchor (alone plant plan) device e → e.send_offset ≡ 0
