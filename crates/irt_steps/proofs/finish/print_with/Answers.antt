use Rattle.irt_steps.specs.Ended.{whole, failed, no_room}
use Rattle.irt_steps.proofs.finish.print_with.Goals as goal

pub returns-in-Ok : goal.returns-in-Ok
returns-in-Ok g c = whole c.in-Ok.ensures.all

pub returns-in-Err-Failed : goal.returns-in-Err-Failed
returns-in-Err-Failed g c = failed (rw c.in-Err-Failed.field-0-is at c.in-Err-Failed.ensures.cause) c.in-Err-Failed.ensures.front

pub returns-in-Err-NoMemory : goal.returns-in-Err-NoMemory
returns-in-Err-NoMemory g c = no_room c.in-Err-NoMemory.ensures.front
