use Rattle.std.proofs.Common.{sym, ◌∙◌, subst, arith}
use Rattle.rtc3_frame.specs.Frame.{Fields, Spells}
use Rattle.rtc3_frame.proofs.FrameLaw.{read_fields, fields_are, fault_none}
use Rattle.rtc3_frame.proofs.read.read_rtc3.Goals as goal

pub returns-in-Some-clause-only : goal.returns-in-Some-clause-only
returns-in-Some-clause-only c = λ f spells. let none = fault_none c.args.bytes.now f spells in absurd (cc (none, c.in-Some.ensures))

pub returns-in-None-clause-found : goal.returns-in-None-clause-found
returns-in-None-clause-found c =
    let Laid : Fields → Type 0 = λ f. Spells c.args.bytes.now f in
    subst Laid (sym c.fields.ensures)
    (read_fields c.args.bytes.now (λ k. omega (arith, c.type_inv.bytes k)) (sym c.in-None.ensures))

pub returns-in-None-clause-only : goal.returns-in-None-clause-only
returns-in-None-clause-only c = λ f spells. c.fields.ensures ∙ fields_are c.args.bytes.now f spells
