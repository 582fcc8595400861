use Rattle.parcel_rules.proofs.Queues.{same_queue, left_begun, last_begun}
use Rattle.parcel_rules.proofs.law.gates_keep_their_queues.Goals as goal

pub returns-clause-offered : goal.returns-clause-offered
returns-clause-offered c = λ b tx kind parcel gate. last_begun kind parcel b tx gate

pub returns-clause-sent : goal.returns-clause-sent
returns-clause-sent c = λ b tx sent gate. left_begun sent b tx gate

pub returns-clause-queues : goal.returns-clause-queues
returns-clause-queues c = λ b tx kind gate. same_queue kind b tx gate
