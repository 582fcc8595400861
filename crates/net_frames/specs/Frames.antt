-- What the frames of a cycle make of the journal.
use Rattle.std.specs.Prelude.{◌≡◌, ℕ, ◌+◌, ◌≤◌, List, [], ◌++◌, length}
use Rattle.irt_base.specs.declared.blocks.Bundle.{Bundle}
use Rattle.irt_base.specs.declared.plants.Plant.{Plant}
use Rattle.plan_rules.specs.Plan.{setup_of}
use Rattle.plan_rules.specs.World.{WorldRow}
use Rattle.cycle_events.specs.Places.{places}
use Rattle.cycle_events.specs.Run.{IsPlayIn}
use Rattle.cycle_rows.specs.declared.rows.JournalRow.{JournalRow}
use Rattle.cycle_rows.specs.Journal.{IsSegment}
use Rattle.event_queue.specs.Waiting.{Waiting}
use Rattle.irt_world.specs.declared.rows.Row.{Row}
use Rattle.net_site.specs.Site.{play_in}
use Rattle.run_journal.specs.Written.{Written}

-- The most frames that start, and the most that arrive, in a cycle: places for the queue and for the journal.
abbrev pub most_frames : Plant → List Bundle → ℕ
most_frames plant bundles = length (places (setup_of plant bundles))

-- The journal has grown by the rows of the frames of cycle k.
pub record GrowsByFrames (plant : Plant) (bundles : List Bundle) (row : Row) (k : ℕ) (old new : Written) : Type 0 where
  pub part : List JournalRow
  pub rows : new.rows ≡ old.rows ++ part
  pub room : new.room + length part ≡ old.room
  pub few : length part ≤ most_frames plant bundles
  pub segment : (world : List WorldRow) → IsPlayIn (play_in plant bundles row k) world → IsSegment (setup_of plant bundles) world k part

-- a queue in which nothing waits, with room for what happens in a cycle
pub record IsReadyFor (most : ℕ) (queue : Waiting) : Type 0 where
  pub empty : queue.events ≡ []
  pub room : most ≤ queue.room
