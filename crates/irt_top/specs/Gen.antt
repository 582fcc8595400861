-- The command `gen`: its steps, what it stores and what it prints.
use Rattle.std.specs.Prelude.{◌≡◌, ℕ, List, ◌++◌, codes, Option, Some, None}
use Rattle.cycle_rows.specs.declared.rows.JournalRow.{JournalRow}
use Rattle.fit_rules.specs.Printed.{IsRedEnd}
use Rattle.irt_base.specs.Wiring.{peer_of}
use Rattle.irt_base.specs.declared.blocks.Bundle.{Bundle}
use Rattle.irt_base.specs.declared.numbers.PortNo.{PortNo}
use Rattle.irt_base.specs.declared.plants.Plant.{Plant}
use Rattle.irt_io.specs.Files.{Files}
use Rattle.irt_route.specs.Routes.{AreTrafficWalks}
use Rattle.irt_steps.specs.Steps.{Steps, gives, stores, asks, after, Holds}
use Rattle.irt_topo.specs.Reading.{IsPlantDocument}
use Rattle.irt_trace.specs.Journal.{end_of_line, field}
use Rattle.irt_words.specs.Commands.{Command, gen}
use Rattle.irt_world.specs.declared.rows.World.{World}
use Rattle.plan_run.specs.Run.{IsRecordOf}
use Rattle.plan_run.specs.World.{IsSeedWorld}
use Rattle.plan_schedule.specs.Text.{red_line}
use Rattle.plant_gen.specs.Generated.{generated_plant}
use Rattle.record_text.specs.Text.{end_text}
use Rattle.record_text.specs.declared.record.Record.{Record}
use Rattle.irt_top.specs.Plan.{planning_steps}
use Rattle.irt_top.specs.declared.generate.TheConstants.{GEN_CYCLES}

-- what `gen` is asked for
pub record GenAsked : Type 0 where
  pub seed : ℕ
  pub devices : ℕ
  pub frames : ℕ
  pub name : List ℕ

abbrev pub gen_asked : Option Command → Option GenAsked
gen_asked (Some (gen seed devices frames name)) =
    Some (record { seed = seed; devices = devices; frames = frames; name = name })
gen_asked asked = None

-- the plant that is made
abbrev pub made_plant : GenAsked → Plant
made_plant asked = generated_plant asked.seed asked.devices asked.frames

-- ---- what is printed

-- the numbers of devices and frames: `gen 64 256`
abbrev pub gen_line : ℕ → ℕ → List ℕ
gen_line devices frames = codes "gen" ++ (field devices ++ (field frames ++ end_of_line))

-- these, the end of the red periods, and the last line of a record
abbrev pub gen_text : GenAsked → ℕ → ℕ → List JournalRow → List ℕ
gen_text asked red cycles rows = gen_line asked.devices asked.frames ++ (red_line red ++ end_text cycles rows)

-- The text is that of the lockstep run of these blocks over the world of the seed.
pub record IsGenText (asked : GenAsked) (bundles : List Bundle) (text : List ℕ) : Type 0 where
  pub red : ℕ
  pub ends : IsRedEnd bundles red
  pub walks : List (List PortNo)
  pub are_walks : AreTrafficWalks (peer_of (made_plant asked)) (made_plant asked).traffic walks
  pub world : World
  pub is_world : IsSeedWorld (made_plant asked) bundles asked.seed GEN_CYCLES world
  pub log : Record
  pub is_record : IsRecordOf (made_plant asked) bundles walks world log
  pub says : text ≡ gen_text asked red log.cycles log.journal

-- ---- steps

abbrev pub summary_steps : GenAsked → List Bundle → Steps (List ℕ)
summary_steps asked bundles = asks (IsGenText asked bundles) (λ text. gives text)

-- what follows the store: it touches no file
abbrev pub made_steps : GenAsked → Steps (List ℕ)
made_steps asked = after (planning_steps (made_plant asked)) (summary_steps asked)

abbrev pub gen_steps : GenAsked → Steps (List ℕ)
gen_steps asked =
    asks (λ bytes. IsPlantDocument bytes (made_plant asked)) (λ bytes. stores asked.name bytes (made_steps asked))

-- ---- what the files are

-- the name holds a text of the plant that is made
pub record IsPlantStored (files : Option Files) (asked : GenAsked) : Type 0 where
  pub bytes : List ℕ
  pub held : Holds files asked.name (Some bytes)
  pub states : IsPlantDocument bytes (made_plant asked)
