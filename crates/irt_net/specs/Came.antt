-- The frames that came, as the deliveries of a cycle's rows tell them.
use Rattle.std.specs.Prelude.{ℕ, ◌==◌, List, [], ◌∷◌, Option, Some, None, position}
use Rattle.std.specs.List.{flat_map}
use Rattle.cycle_frames.specs.declared.came.Came.{Came}
use Rattle.cycle_rows.specs.declared.rows.JournalRow.{JournalRow}
use Rattle.cycle_rows.specs.declared.rows.JournalRow.TheVariants.{Occupy, Deliver, Missed, Sent, Refused, Lost, Came as came_row}
use Rattle.irt_base.specs.declared.numbers.DevId.{DevId}
use Rattle.irt_base.specs.declared.plants.Demand.{Demand}
use Rattle.irt_base.specs.declared.plants.Plant.{Plant}

-- the number of the demand that asks for a frame
abbrev pub demand_place : Plant → ℕ → Option ℕ
demand_place plant frame = position (λ (d : Demand). d.frame.0 == frame) plant.demands

abbrev pub came_at : DevId → Option ℕ → List Came
came_at device None = []
came_at device (Some number) = record { device = device; demand = number } ∷ []

-- a delivery tells that a demand's frame came to a device; other rows tell nothing
abbrev pub came_of : Plant → JournalRow → List Came
came_of plant (Occupy k d p f start end) = []
came_of plant (Deliver k d f end) = came_at d (demand_place plant f.0)
came_of plant (Missed k d f) = []
came_of plant (Sent k d p traffic serial start end) = []
came_of plant (Refused k d p traffic serial) = []
came_of plant (Lost k d p traffic serial) = []
came_of plant (came_row k d traffic serial) = []

abbrev pub came_in : Plant → List JournalRow → List Came
came_in plant rows = flat_map (came_of plant) rows
