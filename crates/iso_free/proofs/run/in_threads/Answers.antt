use Rattle.std.proofs.Common.{rules}
use denote.Param.Send.{sendable}
use Rattle.iso_free.proofs.run.in_threads.Goals as goal

pub scoped-requires : goal.scoped-requires
scoped-requires g c = record {
  at = λ x. (search rules, (search (rules, sendable), search (rules, sendable), search (rules, sendable), search (rules, sendable)));
}
