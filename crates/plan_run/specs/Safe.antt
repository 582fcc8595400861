-- What the record of a run of accepted blocks keeps, over any world in range.
use Rattle.std.specs.Prelude.{◌≡◌, ℕ, ◌+◌, List, length, map, Some, slice_get}
use Rattle.cycle_rows.specs.Apart.{AreRowsApart}
use Rattle.cycle_rows.specs.Safe.{SendsOnce, DeliversOnce, DropsOnce}
use Rattle.io_buffers.specs.Given.{Given}
use Rattle.irt_base.specs.declared.plants.App.{App}
use Rattle.irt_base.specs.declared.plants.Plant.{Plant}
use Rattle.irt_base.specs.declared.blocks.Bundle.{Bundle}
use Rattle.irt_base.specs.declared.numbers.PortNo.{PortNo}
use Rattle.irt_world.specs.Rows.{world_rows}
use Rattle.irt_world.specs.declared.rows.World.{World}
use Rattle.iso_run.specs.Run.{IsRunJournal}
use Rattle.iso_rules.specs.Legal.{HasWholeOutputs, HasTrueImages, HasWholeInputs, NeverFallsBack, KeepsUp, HasWindows}
use Rattle.iso_rules.specs.Lockstep.{AppLog, words_taken}
use Rattle.iso_rules.specs.declared.turn.Turn.{Turn}
use Rattle.plan_rules.specs.Plan.{setup_of}
use Rattle.plan_rules.specs.Way.{Setup}
use Rattle.plan_rules.specs.World.{WorldRow}
use Rattle.plan_run.specs.Run.{Pace, in_lockstep, freely}
use Rattle.record_text.specs.declared.record.Record.{Record}

-- what was taken, by app and cycle
abbrev pub taken_in : List AppLog → ℕ → ℕ → List ℕ
taken_in logs = words_taken (map (λ (l : AppLog). l.takes) logs)

-- What was taken from the app of a device, and by it. Publications count from 0, which is zeros.
pub record HasWholeTakes (setup : Setup) (world : List WorldRow) (taken : ℕ → ℕ → List ℕ) (device : ℕ) (log : AppLog) : Type 0 where
  -- Each output that a cycle took is one publication of the app, word by word.
  pub outputs : HasWholeOutputs setup device log
  -- The image that cycle k published has, of each frame that the device consumes, what was loaded in its planned cycle.
  pub images : HasTrueImages setup world taken device log
  -- Each input that a turn took is one publication of the plant, word by word: number k + 1 is the image of cycle k.
  pub inputs : HasWholeInputs setup device log
  -- On neither side is a take of an older publication than the one before.
  pub rising : NeverFallsBack log
  -- A take that was not in its window is not of the last publication.
  pub windows : HasWindows (length world) log

abbrev pub HaveWholeTakes : Setup → List WorldRow → List AppLog → Type 0
HaveWholeTakes setup world logs =
    (n : ℕ) (app : App) (log : AppLog) → slice_get setup.plant.apps n ≡ Some app → slice_get logs n ≡ Some log →
    HasWholeTakes setup world (taken_in logs) app.device.0 log

-- In lockstep cycle k takes number k of the app, and the turn after it number k + 1 of the plant.
pub record TakesInStep (log : AppLog) : Type 0 where
  pub outputs : (k : ℕ) (g : Given) → slice_get log.takes k ≡ Some g → g.taken.number ≡ k
  pub inputs : (k : ℕ) (t : Turn) → slice_get log.turns k ≡ Some t → t.taken.number ≡ k + 1

-- An app in a thread of its own keeps up with so many cycles.
abbrev pub KeepsPace : Pace → ℕ → AppLog → Type 0
KeepsPace in_lockstep cycles log = TakesInStep log
KeepsPace freely cycles log = KeepsUp cycles log

abbrev pub KeepPace : Pace → Plant → ℕ → List AppLog → Type 0
KeepPace pace plant cycles logs =
    (n : ℕ) (app : App) (log : AppLog) → slice_get plant.apps n ≡ Some app → slice_get logs n ≡ Some log →
    KeepsPace pace cycles log

-- The record of a run of a plant with these blocks over a world, at a pace.
pub record IsSafeRun (pace : Pace) (plant : Plant) (bundles : List Bundle) (walks : List (List PortNo)) (world : World)
    (r : Record) : Type 0 where
  -- The journal has exactly the rows of the frames and parcels over the world, cycle by cycle.
  pub rows : IsRunJournal plant bundles walks world r.journal
  -- No two of them, frames or parcels, use a link direction at once.
  pub apart : AreRowsApart r.journal
  -- Each frame is sent once by each port that has to send it.
  pub sends : SendsOnce (setup_of plant bundles) (world_rows plant bundles world) r.cycles r.journal
  -- Each due frame is delivered once to each of its consumers with a live route, to nobody else, and by its planned time.
  pub delivers : DeliversOnce (setup_of plant bundles) (world_rows plant bundles world) r.cycles r.journal
  -- A frame is dropped by devices that are not in step alone.
  pub drops : DropsOnce (setup_of plant bundles) (world_rows plant bundles world) r.cycles r.journal
  -- Each buffer taken is whole, one publication, of its planned cycle, and never older than the last.
  pub takes : HaveWholeTakes (setup_of plant bundles) (world_rows plant bundles world) r.apps
  -- Which publication each take is of, as the pace says.
  pub numbers : KeepPace pace plant r.cycles r.apps
