-- What taking from all apps needs, and what it makes of their ports.
use Rattle.std.specs.Prelude.{◌≡◌, ℕ, ◌<◌, Bool, false, IsTrue, List, Option, length}
use Rattle.iso_plant.specs.Replay.{PlantView}
use Rattle.free_plant.specs.Buffers.{BufferView, buffer_at}
use Rattle.free_plant.specs.Named.{app_count}
use Rattle.free_plant.specs.Ties.{HasWidths, IsReady, TookMore}
use Rattle.free_plant.specs.Views.{AreWires, PortView, port_at}

-- each port and each buffer is that of its app
pub record CanTake (start : Option PlantView) (wires : List ℕ) (ports : List PortView) (buffers : List BufferView) : Type 0 where
  pub wires_are : AreWires (app_count start) wires
  pub ports_count : length ports ≡ app_count start
  pub buffers_count : length buffers ≡ app_count start
  pub places : (app : ℕ) → app < length ports → (port_at ports app).number ≡ app
  pub widths : (app : ℕ) → app < length buffers → HasWidths start app (buffer_at buffers app)

-- in cycle k the first apps are ready, of which nothing was used in the cycle
pub record IsBuffered (k : ℕ) (old new : PortView) (b : BufferView) : Type 0 where
  pub ready : IsReady k old new b
  pub untaken : b.is_taken ≡ false
  pub unshown : b.is_shown ≡ false

pub record HaveTaken (start : Option PlantView) (k : ℕ) (old new : List PortView) (buffers : List BufferView) (all : Bool) : Type 0 where
  pub ports_count : length new ≡ length old
  pub buffers_count : length buffers ≡ app_count start
  pub more : (app : ℕ) → app < length old → TookMore (port_at old app) (port_at new app)
  pub widths : (app : ℕ) → app < length buffers → HasWidths start app (buffer_at buffers app)
  pub ready : IsTrue all → (app : ℕ) → app < length old → IsBuffered k (port_at old app) (port_at new app) (buffer_at buffers app)
