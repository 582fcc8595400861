-- How a run begins.
use Rattle.std.specs.Prelude.{◌≡◌, ℕ, ◌<◌, Option, List, length, map}
use Rattle.iso_plant.specs.Replay.{PlantView}
use Rattle.free_jobs.specs.Jobs.{JobView}
use Rattle.free_plant.specs.Buffers.{BufferView, buffer_at}
use Rattle.free_plant.specs.Ties.{HasWidths}
use Rattle.free_plant.specs.Views.{AreWires, PortView, new_port, port_at}

-- so many exchanges, ports, buffers and jobs, in the plant's order, of which none did anything yet
pub record AreBegun (start : Option PlantView) (apps : ℕ) (wires : List ℕ) (ports : List PortView) (buffers : List BufferView)
    (jobs : List JobView) : Type 0 where
  pub wires_are : AreWires apps wires
  pub ports_count : length ports ≡ apps
  pub each_port : (app : ℕ) → app < apps → port_at ports app ≡ new_port app
  pub buffers_count : length buffers ≡ apps
  pub each_buffer : (app : ℕ) → app < apps → HasWidths start app (buffer_at buffers app)
  pub jobs_are : map (λ (j : JobView). j.number) jobs ≡ wires
