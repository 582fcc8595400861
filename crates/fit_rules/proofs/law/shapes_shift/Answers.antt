use Rattle.fit_rules.proofs.Shifts.{windows_shift, sendings_shift, arrivals_shift, shape_moved}
use Rattle.fit_rules.proofs.law.shapes_shift.Goals as goal

pub returns-clause-windows : goal.returns-clause-windows
returns-clause-windows c = windows_shift

pub returns-clause-sendings : goal.returns-clause-sendings
returns-clause-sendings c = sendings_shift

pub returns-clause-arrivals : goal.returns-clause-arrivals
returns-clause-arrivals c = arrivals_shift

pub returns-clause-moved : goal.returns-clause-moved
returns-clause-moved c = shape_moved
