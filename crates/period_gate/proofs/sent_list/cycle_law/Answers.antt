use Rattle.period_gate.proofs.SentLaw.{gives-is, gives-left, is-gives, sent_list-only, sent_of-is, next-rest}
use Rattle.period_gate.proofs.SentOrder.{in_order, front_of_class}
use Rattle.period_gate.proofs.sent_list.cycle_law.Goals as goal

pub returns-clause-given : goal.returns-clause-given
returns-clause-given c = λ gate sent last h. gives-is sent gate 0 last h

pub returns-clause-left : goal.returns-clause-left
returns-clause-left c = λ gate sent last h. gives-left sent gate 0 last h

pub returns-clause-gives : goal.returns-clause-gives
returns-clause-gives c = λ gate sent h. is-gives sent gate 0 h

pub returns-clause-only : goal.returns-clause-only
returns-clause-only c = sent_list-only

pub returns-clause-some : goal.returns-clause-some
returns-clause-some c = sent_of-is

pub returns-clause-rest : goal.returns-clause-rest
returns-clause-rest c = next-rest

pub returns-clause-order : goal.returns-clause-order
returns-clause-order c = in_order

pub returns-clause-front : goal.returns-clause-front
returns-clause-front c = front_of_class
