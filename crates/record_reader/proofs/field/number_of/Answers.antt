use Rattle.std.proofs.Common.{Some, None}
use Rattle.record_reader.proofs.Values.{number_is}
use Rattle.record_reader.proofs.field.number_of.Goals as goal

pub returns-in-Some : goal.returns-in-Some
returns-in-Some c = number_is c.args.text.now (Some c.in-Some.number) c.in-Some.ensures.found c.in-Some.ensures.only

pub returns-in-None : goal.returns-in-None
returns-in-None c = number_is c.args.text.now None c.in-None.ensures.found c.in-None.ensures.only
