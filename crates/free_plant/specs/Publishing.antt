-- What publishing to all apps needs, and what it makes of their ports.
use Rattle.std.specs.Prelude.{◌≡◌, ℕ, ◌<◌, ◌^◌, List, Option, length}
use Rattle.iso_plant.specs.Replay.{PlantView}
use Rattle.free_plant.specs.Buffers.{BufferView, buffer_at}
use Rattle.free_plant.specs.Named.{app_count}
use Rattle.free_plant.specs.Ties.{HasWidths}
use Rattle.free_plant.specs.Views.{AreWires, PortView, port_at, with_image}

-- each port and each buffer is that of its app, and has room for a publication more
pub record CanPublish (start : Option PlantView) (wires : List ℕ) (ports : List PortView) (buffers : List BufferView) : Type 0 where
  pub wires_are : AreWires (app_count start) wires
  pub ports_count : length ports ≡ app_count start
  pub buffers_count : length buffers ≡ app_count start
  pub places : (app : ℕ) → app < length ports → (port_at ports app).number ≡ app
  pub room : (app : ℕ) → app < length ports → length (port_at ports app).published < 2 ^ 60
  pub widths : (app : ℕ) → app < length buffers → HasWidths start app (buffer_at buffers app)

pub record HavePublished (old new : List PortView) (buffers : List BufferView) : Type 0 where
  pub count : length new ≡ length old
  pub each : (app : ℕ) → app < length old →
      port_at new app ≡ with_image (port_at old app) (buffer_at buffers app).image (buffer_at buffers app).offer.taken.number
