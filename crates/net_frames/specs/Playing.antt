-- A cycle that is being played.
use Rattle.std.specs.Prelude.{◌≡◌, ℕ, ◌+◌, ◌<◌, ◌≤◌, List, ◌++◌, length, Some, slice_get, IsPermutation, ℤ, ◌-ℤ◌}
use Rattle.irt_base.specs.declared.limits.TheConstants.{MAX_CYCLES}
use Rattle.irt_base.specs.declared.plants.Plant.{Plant}
use Rattle.plan_rules.specs.Plan.{setup_of}
use Rattle.plan_rules.specs.Way.{IsInRange}
use Rattle.rtc3_frame.specs.Frame.{fields_at}
use Rattle.irt_switch.specs.Arrive.{Reception, frame_of}
use Rattle.irt_switch.specs.State.{SwitchState}
use Rattle.irt_world.specs.Rows.{world_row}
use Rattle.irt_world.specs.declared.rows.Row.{Row}
use Rattle.cycle_events.specs.declared.events.Event.{Event}
use Rattle.cycle_events.specs.Events.{Play}
use Rattle.cycle_events.specs.Places.{places}
use Rattle.cycle_events.specs.Run.{IsBegun, HasRun, rows_given}
use Rattle.run_journal.specs.Written.{Written}
use Rattle.net_begin.specs.Clocks.{keeps_step}
use Rattle.net_site.specs.Site.{SiteState, IsPlayedAt, bundles_of, play_in}
use Rattle.cycle_frames.specs.Bytes.{AreFramesOf}

-- A switch is in cycle k, in step or not by its device's clock.
pub record IsInCycle (plant : Plant) (row : Row) (k device : ℕ) (s : SwitchState) : Type 0 where
  pub cycle : s.cycle ≡ k
  pub in_step : s.in_step ≡ keeps_step plant row device

-- Accepted blocks are played by switches that are in cycle k, with the bytes of the frames that are due.
pub record IsPlaying (site : SiteState) (row : Row) (k : ℕ) (switches : List SwitchState) (frames : List (List ℕ)) : Type 0 where
  pub plan : IsPlayedAt site (bundles_of switches) row
  pub range : IsInRange (setup_of site.plant (bundles_of switches)) (world_row site.plant (bundles_of switches) row)
  pub run : k < MAX_CYCLES
  pub cycle : (device : ℕ) (s : SwitchState) → slice_get switches device ≡ Some s → IsInCycle site.plant row k device s
  pub bytes : AreFramesOf (setup_of site.plant (bundles_of switches)) k frames

-- what the switches play
abbrev pub play_by : Plant → List SwitchState → Row → ℕ → Play
play_by plant switches row k = play_in plant (bundles_of switches) row k

-- what a switch is told of an arrival with these bytes, where its device's cycle begins at a true time
abbrev pub told_of : ℤ → Event → List ℕ → Reception
told_of begin arrival bytes = record { local = arrival.at -ℤ begin; port = arrival.port.0; frame = frame_of (fields_at bytes) }

-- What waits is what a run begins with.
pub record IsStarted (play : Play) (waiting : List Event) : Type 0 where
  pub first : List Event
  pub begun : IsBegun play first
  pub same : IsPermutation first waiting

-- A run has ended. Its rows were appended, as they came.
pub record HasGiven (play : Play) (old new : Written) : Type 0 where
  pub first : List Event
  pub handled : List Event
  pub begun : IsBegun play first
  pub run : HasRun play first handled
  pub rows : new.rows ≡ old.rows ++ rows_given play handled
  pub room : new.room + length (rows_given play handled) ≡ old.room
  pub few : length (rows_given play handled) ≤ length (places play.setup)
