-- All commands, by their words.
use Rattle.std.specs.Prelude.{◌≤◌, ℕ, ⊤, List, Option, Some, None}
use Rattle.irt_base.specs.Valid.{IsWithin}
use Rattle.irt_base.specs.declared.limits.TheConstants.{MAX_CYCLES, MAX_DEMANDS, MAX_DEVICES}
use Rattle.irt_steps.specs.Steps.{ending, Steps, ends}
use Rattle.irt_words.specs.Commands.{Command, plan, check, show, sync, run, run_world, gen, free}
use Rattle.irt_words.specs.declared.asked.TheConstants.{MIN_GENERATED}
use Rattle.plan_run.specs.Run.{in_lockstep, freely}
use Rattle.irt_top.specs.Check.{check_steps}
use Rattle.irt_top.specs.Gen.{gen_steps}
use Rattle.irt_top.specs.Lines.{usage_line}
use Rattle.irt_top.specs.Plan.{plan_steps}
use Rattle.irt_top.specs.Run.{run_steps}
use Rattle.irt_top.specs.Show.{show_steps}
use Rattle.irt_top.specs.Sync.{sync_steps}
use Rattle.irt_top.specs.World.{by_seed, by_file}

-- the steps of what words ask for; of words that ask for nothing too
abbrev pub asked_steps : Option Command → Steps (List ℕ)
asked_steps (Some (plan plant)) = plan_steps plant
asked_steps (Some (check plant)) = check_steps plant
asked_steps (Some (show file)) = show_steps file
asked_steps (Some (sync plant cycles seed)) = sync_steps plant cycles seed
asked_steps (Some (run plant cycles seed)) = run_steps in_lockstep plant cycles (by_seed seed)
asked_steps (Some (run_world plant cycles world)) = run_steps in_lockstep plant cycles (by_file world)
asked_steps (Some (gen seed devices frames name)) =
    gen_steps (record { seed = seed; devices = devices; frames = frames; name = name })
asked_steps (Some (free plant cycles seed)) = run_steps freely plant cycles (by_seed seed)
asked_steps None = ends (ending 1 usage_line)

-- What a call that waits for nobody takes of it: all but `free`.
abbrev pub calm_of : Option Command → Option Command
calm_of (Some (free plant cycles seed)) = None
calm_of asked = asked

-- the plant's file with which a command begins
abbrev pub plant_asked : Option Command → Option (List ℕ)
plant_asked (Some (plan plant)) = Some plant
plant_asked (Some (check plant)) = Some plant
plant_asked (Some (sync plant cycles seed)) = Some plant
plant_asked (Some (run plant cycles seed)) = Some plant
plant_asked (Some (run_world plant cycles world)) = Some plant
plant_asked (Some (free plant cycles seed)) = Some plant
plant_asked asked = None

-- the plant's file of a command that checks the blocks of its devices
abbrev pub checked_asked : Option Command → Option (List ℕ)
checked_asked (Some (check plant)) = Some plant
checked_asked (Some (run plant cycles seed)) = Some plant
checked_asked (Some (run_world plant cycles world)) = Some plant
checked_asked (Some (free plant cycles seed)) = Some plant
checked_asked asked = None

-- A command's numbers are in their ranges: its cycles are some, and at most what a run may have; a plant that is made has
-- two devices or more, and not too many frames.
abbrev pub HasRanges : Option Command → Type 0
HasRanges (Some (sync plant cycles seed)) = IsWithin 1 MAX_CYCLES cycles
HasRanges (Some (run plant cycles seed)) = IsWithin 1 MAX_CYCLES cycles
HasRanges (Some (run_world plant cycles world)) = IsWithin 1 MAX_CYCLES cycles
HasRanges (Some (gen seed devices frames name)) = IsWithin MIN_GENERATED MAX_DEVICES devices × (frames ≤ MAX_DEMANDS)
HasRanges (Some (free plant cycles seed)) = IsWithin 1 MAX_CYCLES cycles
HasRanges asked = ⊤

-- the command stores files
abbrev pub StoresFiles : Option Command → Type 0
StoresFiles (Some (plan plant)) = ⊤
StoresFiles (Some (gen seed devices frames name)) = ⊤
StoresFiles asked = ⊥
