use Rattle.std.proofs.Common.{sym, ◌∙◌, subst, arith}
use Rattle.ptcp_core.specs.declared.messages.Msg.{Msg}
use Rattle.ptcp_core.specs.Messages.{Spells}
use Rattle.ptcp_core.proofs.MessageLaw.{read_law, spelled}
use Rattle.ptcp_core.proofs.read.read_msg.Goals as goal

pub returns-in-Some-clause-only : goal.returns-in-Some-clause-only
returns-in-Some-clause-only c = λ m spells. let none = (spelled c.args.bytes.now m spells).0 in absurd (cc (none, c.in-Some.ensures))

pub returns-in-None-clause-found : goal.returns-in-None-clause-found
returns-in-None-clause-found c =
    let Laid : Msg → Type 0 = λ m. Spells c.args.bytes.now m in
    subst Laid (sym c.fields.ensures) (read_law c.args.bytes.now (λ k. omega (arith, c.type_inv.bytes k)) (sym c.in-None.ensures))

pub returns-in-None-clause-only : goal.returns-in-None-clause-only
returns-in-None-clause-only c = λ m spells. c.fields.ensures ∙ (spelled c.args.bytes.now m spells).1
