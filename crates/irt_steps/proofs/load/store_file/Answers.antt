use Rattle.irt_steps.proofs.ShelfLemmas.{store_gives, store_stops, store_cause}
use Rattle.irt_steps.proofs.load.store_file.Goals as goal

pub returns-in-Ok-clause-step : goal.returns-in-Ok-clause-step
returns-in-Ok-clause-step g c = store_gives _ _ _ _ c.in-Ok.field-0 c.in-Ok.ensures.answer

pub returns-in-Err-clause-step : goal.returns-in-Err-clause-step
returns-in-Err-clause-step g c = store_stops _ _ _ _ c.in-Err.error _ _ _ c.in-Err.ensures.answer c.in-Err.ensures.cause c.stop_of.ensures

pub returns-in-Err-clause-cause : goal.returns-in-Err-clause-cause
returns-in-Err-clause-cause g c = store_cause _ _ _ c.in-Err.error _ c.in-Err.ensures.cause c.stop_of.ensures
