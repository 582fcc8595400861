-- The rows of a plant whose links are entered from the last to the first.
use Rattle.std.specs.Prelude.{◌≡◌, ℕ, ◌+◌, ◌<◌, List, [], ◌∷◌, length, drop, Bool, Option, Some, None, cond, slice_index_or}
use Rattle.irt_base.specs.Wiring.{touches}
use Rattle.irt_base.specs.declared.plants.Link.{Link}
use Rattle.irt_base.specs.declared.plants.Plant.{Plant}
use Rattle.link_index.specs.declared.index.TheConstants.{ROW}
use Rattle.link_index.specs.declared.index.Wire.{Wire}
use Rattle.link_index.specs.Index.{wire_in, wire_over, AreSmallRows}

-- the wire of the first of these links that passes, whose numbers begin here
abbrev pub first_from : (Link → Bool) → (ℕ → Link → Wire) → ℕ → List Link → Option Wire
first_from test wire number [] = None
first_from test wire number (link ∷ links) = cond (test link) (Some (wire number link)) (first_from test wire (number + 1) links)

-- the wire of a port by the links from a number on
abbrev pub wire_from : Plant → ℕ → ℕ → ℕ → Option Wire
wire_from plant device port number = first_from (touches device port) (wire_over plant device port) number (drop number plant.links)

-- a row for each device, with a place for each port
pub record AreRows (devices : ℕ) (rows : List (List (Option Wire))) : Type 0 where
  pub count : length rows ≡ devices
  pub width : (device : ℕ) → device < devices → length (slice_index_or rows device []) ≡ ROW

-- the links from a number on are entered
pub record AreEntered (plant : Plant) (number : ℕ) (rows : List (List (Option Wire))) : Type 0 where
  pub shape : AreRows (length plant.devices) rows
  pub wires : (device port : ℕ) → wire_in rows device port ≡ wire_from plant device port number
  pub small : AreSmallRows rows
