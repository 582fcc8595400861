-- The entries of a demand's frame, out of its tree and the wiring.
use Rattle.std.specs.Prelude.{◌≡◌, ℕ, ◌<◌, ◌≤◌, ◌==◌, ◌⊎◌, Bool, true, false, ◌&&◌, IsTrue, if◌then◌else◌, Option, Some, None, option_map, option_and_then}
use Rattle.std.specs.Option.{option_map_or}
use Rattle.irt_base.specs.declared.blocks.Entry.{Entry}
use Rattle.irt_base.specs.declared.numbers.DevId.{DevId}
use Rattle.irt_base.specs.declared.numbers.PortNo.{PortNo}
use Rattle.irt_base.specs.declared.plants.Demand.{Demand}
use Rattle.irt_base.specs.declared.plants.Plant.{Plant}
use Rattle.irt_route.specs.Trees.{Parents, parent_at}
use Rattle.irt_route.specs.Walks.{Peers}
use Rattle.irt_window.specs.declared.ports.TheConstants.{TX_BITS}
use Rattle.fit_rules.specs.declared.frame_plan.FramePlan.{FramePlan}
use Rattle.fit_rules.specs.Delays.{IsAtZero}
use Rattle.fit_rules.specs.Shape.{IsOn, IsEntryOf, HasShape}

-- the plan of a demand's frame in ratio 1 and phase 1, whose anchors all start at 0
pub record IsBase (plant : Plant) (parents : Parents) (demand : Demand) (base : FramePlan) : Type 0 where
  pub shape : HasShape plant parents demand 1 1 base
  pub zero : IsAtZero base

-- a device has an entry exactly where it is on the tree
abbrev pub IsTreeEntryAt : Plant → Parents → Demand → ℕ → Option Entry → Type 0
IsTreeEntryAt plant parents demand device None = ¬ IsOn demand parents device
IsTreeEntryAt plant parents demand device (Some e) =
    IsEntryOf plant parents demand 1 1 device e × (e.send_offset ≡ 0)

-- the port at the other end of the parent's, 0 at the provider
abbrev pub rx_port_of : Peers → Parents → ℕ → ℕ → Option ℕ
rx_port_of peers parents provider device =
    if device == provider then Some 0 else
    option_and_then
    (λ (from : DevId × PortNo). option_map (λ (far : DevId × PortNo). far.1.0) (peers from.0.0 from.1.0))
    (parent_at parents device)

-- this is the device and port from which the tree comes to another device
abbrev pub is_parent_of : Parents → ℕ → ℕ → ℕ → Bool
is_parent_of parents device port child =
    option_map_or (λ (from : DevId × PortNo). (from.0.0 == device) && (from.1.0 == port))
    (parent_at parents child) false

-- the tree leaves the device by the port
abbrev pub is_sent_over : Peers → Parents → ℕ → ℕ → Bool
is_sent_over peers parents device port =
    option_map_or (λ (far : DevId × PortNo). is_parent_of parents device port far.0.0) (peers device port) false

-- a bit of the entry at a device that keeps the frame or does not
abbrev pub IsTxBit : Peers → Parents → ℕ → Bool → ℕ → Type 0
IsTxBit peers parents device kept bit =
    ((bit ≡ 0) × IsTrue kept) ⊎ ((1 ≤ bit) × (bit < TX_BITS) × (is_sent_over peers parents device bit ≡ true))
