-- How the cycles that are done and the passes of the apps belong together.
use Rattle.std.specs.Prelude.{◌≡◌, ℕ, ◌+◌, ◌<◌, ◌≤◌, nat_lt, List, [], ◌∷◌, Option, length, map}
use Rattle.io_buffers.specs.Given.{Given}
use Rattle.irt_base.specs.declared.limits.TheConstants.{MAX_CYCLES}
use Rattle.iso_plant.specs.Replay.{IsReplay, PlantView, images_of, takes_of}
use Rattle.free_plant.specs.Buffers.{BufferView, buffer_at, whole_take}
use Rattle.free_plant.specs.Named.{IsOfRun, app_count, cycles_of, input_width, output_width}
use Rattle.free_plant.specs.Views.{PortView, port_at, with_takes}
use Rattle.free_plant.specs.declared.locked.Tried.{Tried}
use Rattle.free_plant.specs.declared.locked.Tried.TheVariants as tried
use Rattle.take_lists.specs.Takes.{AreFresh, AreNearTakes, AreSomeOf, IsNearTake, SameTake, without_further}

-- What the plant has of an app, by the passes that the cycles have: its takes are some of those that were made, and all that
-- was published are its images.
pub record IsTied (v : PlantView) (app : ℕ) (p : PortView) : Type 0 where
  pub place : p.number ≡ app
  -- the takes with their further words
  pub whole : List Given
  pub recorded : takes_of app v ≡ map without_further whole
  pub takes : AreSomeOf whole p.taken
  pub fresh : AreFresh 0 whole p.last
  pub near : AreNearTakes 0 whole
  pub images : p.published ≡ images_of app v

-- the buffer of an app has its widths
pub record HasWidths (start : Option PlantView) (app : ℕ) (b : BufferView) : Type 0 where
  pub output : length b.offer.words ≡ output_width start app
  pub input : length b.image ≡ input_width start app

pub record IsLocked (start : Option PlantView) (v : PlantView) (ports : List PortView) (buffers : List BufferView) (cycles : ℕ) : Type 0 where
  pub run : IsOfRun start v
  pub cycles_are : cycles ≡ cycles_of start
  pub few : cycles ≤ MAX_CYCLES
  pub ports_count : length ports ≡ app_count start
  pub buffers_count : length buffers ≡ app_count start
  pub tied : (app : ℕ) → app < length ports → IsTied v app (port_at ports app)
  pub widths : (app : ℕ) → app < length buffers → HasWidths start app (buffer_at buffers app)

-- more was taken, and nothing else was done
abbrev pub TookMore : PortView → PortView → Type 0
TookMore old new = (more : List Given) × (new ≡ with_takes old more)

-- what was taken last can be recorded in cycle k
pub record IsReady (k : ℕ) (old new : PortView) (b : BufferView) : Type 0 where
  pub take : Given
  pub taken : new ≡ with_takes old (take ∷ [])
  pub same : SameTake (whole_take b) take
  pub fresh : b.offer.taken.fresh ≡ nat_lt old.last b.offer.taken.number
  pub near : IsNearTake k (whole_take b)

-- What comes of a cycle that is tried.
abbrev pub IsTried : ℕ → PlantView → PlantView → Tried → Type 0
IsTried cycles old new tried.AllDone = (new ≡ old) × (new.done ≡ cycles)
IsTried cycles old new (tried.Stepped done) = (new.done ≡ old.done + 1) × (done ≡ new.done) × (done ≤ cycles)
IsTried cycles old new tried.Stopped = new ≡ old
IsTried cycles old new tried.Stale = new ≡ old

-- What a run is once all its cycles are done.
pub record IsDone (start : Option PlantView) (v : PlantView) (ports : List PortView) : Type 0 where
  pub run : IsOfRun start v
  pub replay : IsReplay v
  pub done : v.done ≡ cycles_of start
  pub ports_count : length ports ≡ app_count start
  pub tied : (app : ℕ) → app < length ports → IsTied v app (port_at ports app)
