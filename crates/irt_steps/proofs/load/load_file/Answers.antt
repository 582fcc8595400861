use Rattle.irt_steps.proofs.ShelfLemmas.{load_gives, load_stops, load_cause}
use Rattle.irt_steps.proofs.load.load_file.Goals as goal

pub returns-in-Ok-clause-step : goal.returns-in-Ok-clause-step
returns-in-Ok-clause-step g c = load_gives _ _ _ _ c.in-Ok.bytes c.in-Ok.ensures.kept c.in-Ok.ensures.bound c.in-Ok.ensures.bytes c.in-Ok.ensures.answer

pub returns-in-Err-clause-step : goal.returns-in-Err-clause-step
returns-in-Err-clause-step g c = load_stops _ _ _ _ c.in-Err.error _ c.in-Err.ensures.kept c.in-Err.ensures.answer c.stop_of.ensures

pub returns-in-Err-clause-cause : goal.returns-in-Err-clause-cause
returns-in-Err-clause-cause g c = load_cause _ _ _ c.in-Err.error _ c.in-Err.ensures.cause c.stop_of.ensures
