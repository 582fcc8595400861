use Rattle.std.proofs.Common.{◌∙◌, refl, sym, arith}
use Rattle.std.proofs.lemmas.Result.{err_from_is_err_and}
use Rattle.world_file.proofs.LineRead.{line_facts, no_line, refusal_passed}
use Rattle.world_file.proofs.reading.read_row.Goals as goal

pub returns-in-Err-Form-clause-refused : goal.returns-in-Err-Form-clause-refused
returns-in-Err-Form-clause-refused c =
    (refl, no_line c.args.plant.now c.args.delayed.now c.in_ok-draft.draft c.args.bytes.now (rw c.in-Err-Form.field-0-is at c.in-Err-Form.ensures))

pub judged-requires : goal.judged-requires
judged-requires c =
    let facts =
    line_facts c.args.plant.now c.args.delayed.now c.in_ok-draft.draft c.args.bytes.now c.read_line.new.draft c.in-Ok.rest.now c.in_ok-draft.ensures
    c.requires.links c.requires.ranges c.in-Ok.ensures in
    omega (arith, facts.small)

pub returns-in_err-row-in-Ok-clause-refused : goal.returns-in_err-row-in-Ok-clause-refused
returns-in_err-row-in-Ok-clause-refused c =
    let facts =
    line_facts c.args.plant.now c.args.delayed.now c.in_ok-draft.draft c.args.bytes.now c.read_line.new.draft c.in-Ok.rest.now c.in_ok-draft.ensures
    c.requires.links c.requires.ranges c.in-Ok.ensures in
    let p = err_from_is_err_and c.from_residual-in_err-row-in-Ok.result c.from_residual-in_err-row-in-Ok.ensures.1 in
    refusal_passed c.args.plant.now c.args.delayed.now c.args.bytes.now c.args.line c.from_residual-in_err-row-in-Ok.result p.0 c.in_err-row-in-Ok.field-0.0 p.1 p.2
    (facts.refused c.args.line c.in_err-row-in-Ok.field-0.0 (sym c.judged.ensures ∙ c.in_err-row-in-Ok.was))

pub returns-clause-found : goal.returns-clause-found
returns-clause-found c =
    let facts =
    line_facts c.args.plant.now c.args.delayed.now c.in_ok-draft.draft c.args.bytes.now c.read_line.new.draft c.in-Ok.rest.now c.in_ok-draft.ensures
    c.requires.links c.requires.ranges c.in-Ok.ensures in
    λ bundles numbered. facts.found c.args.line c.in_ok-row-in-Ok.row (sym c.judged.ensures ∙ c.in_ok-row-in-Ok.was) bundles numbered
