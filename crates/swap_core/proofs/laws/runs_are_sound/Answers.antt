use Rattle.swap_core.proofs.Sound.{sound_next, sound_run}
use Rattle.swap_core.proofs.laws.runs_are_sound.Goals as goal

pub returns-clause-runs : goal.returns-clause-runs
returns-clause-runs c = sound_run

pub returns-clause-step : goal.returns-clause-step
returns-clause-step c = sound_next
