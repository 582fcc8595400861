-- What a row says, and which rows are in range.
use Rattle.std.specs.Prelude.{◌≡◌, ℕ, ◌<◌, ◌==◌, ℤ, pos, Bool, List, All, map, length, Some, option_and_then, slice_get, unwrap_or}
use Rattle.std.specs.List.{list_any}
use Rattle.std.specs.List.Sorted.{IsStrictlyIncreasing}
use Rattle.irt_base.specs.Valid.{IsWithin}
use Rattle.irt_base.specs.declared.blocks.Bundle.{Bundle}
use Rattle.irt_base.specs.declared.limits.TheConstants.{MAX_ERROR}
use Rattle.irt_base.specs.declared.plants.Plant.{Plant}
use Rattle.plan_rules.specs.World.{WorldRow, IsWithinWindow}
use Rattle.irt_world.specs.Forwardings.{forwardings, number_in}
use Rattle.irt_world.specs.declared.forwardings.Forwarding.{Forwarding}
use Rattle.irt_world.specs.declared.rows.Row.{Row}
use Rattle.irt_world.specs.declared.rows.World.{World}

-- the error of a device, 0 past the end
abbrev pub error_in : Row → ℕ → ℤ
error_in row device = unwrap_or (slice_get row.errors device) (pos 0)

-- the bridge delay by which a device sends on a frame, 0 where it does not
abbrev pub bridge_in : Plant → List Bundle → Row → ℕ → ℕ → ℕ
bridge_in plant bundles row device frame =
    unwrap_or (option_and_then (slice_get row.bridges) (number_in (forwardings plant bundles) device frame)) 0

-- the link is cut
abbrev pub is_cut_in : Row → ℕ → Bool
is_cut_in row link = list_any (λ n. n == link) row.cuts

-- The row as one send cycle of the outside. Where relative device 1 sends on the frames 0x100 and 0x101, the row
-- `E 1000 0 -1000 B 3000 1000 C` has their bridge delays 3000 and 1000 there, and the error -1000 at device 2.
abbrev pub world_row : Plant → List Bundle → Row → WorldRow
world_row plant bundles row =
    record {
      error = error_in row;
      bridge = bridge_in plant bundles row;
      is_cut = is_cut_in row;
    }

-- the rows of a world
abbrev pub world_rows : Plant → List Bundle → World → List WorldRow
world_rows plant bundles world = map (world_row plant bundles) world.rows

-- an error that a row may have
abbrev pub IsError : ℤ → Type 0
IsError error = IsWithinWindow error (pos MAX_ERROR)

-- One error per device, one bridge delay per forwarding in its device's range, and the numbers of some links of
-- the plant, ascending.
pub record IsRowOf (plant : Plant) (bundles : List Bundle) (row : Row) : Type 0 where
  pub error_count : length row.errors ≡ length plant.devices
  pub errors : All IsError row.errors
  pub bridge_count : length row.bridges ≡ length (forwardings plant bundles)
  pub bridges : (n : ℕ) (f : Forwarding) (delay : ℕ) → slice_get (forwardings plant bundles) n ≡ Some f →
      slice_get row.bridges n ≡ Some delay → IsWithin f.bmin f.bmax delay
  pub links : All (λ n. n < length plant.links) row.cuts
  pub ascending : IsStrictlyIncreasing row.cuts

-- all rows are in range
abbrev pub Fits : Plant → List Bundle → World → Type 0
Fits plant bundles world = All (IsRowOf plant bundles) world.rows
