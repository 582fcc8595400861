use Rattle.std.proofs.Common.{◌∙◌, sym, arith}
use Rattle.std.proofs.lemmas.Result.{err_from_is_err_and}
use Rattle.record_reader.proofs.Reader.{read_few, read_more, read_shorter}
use Rattle.record_reader.proofs.Faults.{found_end, place_fault, refused_end, said_fault}
use Rattle.record_reader.proofs.reading.read_lines.Goals as goal

pub returns-in_err-said-clause-refused : goal.returns-in_err-said-clause-refused
returns-in_err-said-clause-refused c =
    let p = err_from_is_err_and c.from_residual-in_err-said.result c.from_residual-in_err-said.ensures.1 in
    said_fault c.args.plant.now c.args.text.now c.loop-rest.logs.items c.loop-rest.journal c.loop-rest.at c.loop-rest.rest.now
    c.loop-rest.line c.from_residual-in_err-said.result p.0 c.in_err-said.field-0.0 c.requires.rules c.requires.short c.loop-rest.invariant
    (sym c.is_empty.ensures ∙ c.loop-rest-test.true) p.1 p.2 c.in_err-said.ensures

pub returns-in_err-at-clause-refused : goal.returns-in_err-at-clause-refused
returns-in_err-at-clause-refused c =
    let p = err_from_is_err_and c.from_residual-in_err-at.result c.from_residual-in_err-at.ensures.1 in
    place_fault c.args.plant.now c.args.text.now c.loop-rest.logs.items c.loop-rest.journal c.loop-rest.at c.loop-rest.rest.now
    c.in_ok-said.after.now c.loop-rest.line c.in_ok-said.said c.from_residual-in_err-at.result p.0 c.in_err-at.field-0.0 c.as_slice.result.now c.requires.rules c.requires.short
    c.loop-rest.invariant c.in_ok-said.ensures p.1 p.2 c.as_slice.ensures c.in_err-at.ensures

pub overflow_add-line : goal.overflow_add-line
overflow_add-line c =
    omega (
      arith,
      read_few c.args.plant.now c.args.text.now c.loop-rest.logs.items c.loop-rest.journal c.loop-rest.at c.loop-rest.rest.now
          c.loop-rest.line c.loop-rest.invariant (sym c.is_empty.ensures ∙ c.loop-rest-test.true),
      c.requires.short,
    )

pub loop-rest-smaller : goal.loop-rest-smaller
loop-rest-smaller c = read_shorter c.args.plant.now c.loop-rest.rest.now c.in_ok-said.after.now c.in_ok-said.said c.in_ok-said.ensures

pub loop-rest-preserved : goal.loop-rest-preserved
loop-rest-preserved c =
    read_more c.args.plant.now c.args.text.now c.loop-rest.logs.items c.push_line.new.logs.items c.loop-rest.journal c.push_line.new.journal c.loop-rest.at
    c.in_ok-at.at c.loop-rest.rest.now c.in_ok-said.after.now c.loop-rest.line c.in_ok-said.said c.requires.rules c.loop-rest.invariant
    c.in_ok-said.ensures (cc (c.as_slice.ensures, c.in_ok-at.ensures)) c.in_ok-push_line.ensures.logs c.in_ok-push_line.ensures.rows

pub returns-clause-found : goal.returns-clause-found
returns-clause-found c =
    found_end c.args.plant.now c.args.text.now c.loop-rest.logs.items c.loop-rest.journal c.loop-rest.at c.loop-rest.rest.now
    c.loop-rest.line c.ended.result c.requires.rules c.requires.short c.loop-rest.invariant (sym c.is_empty.ensures ∙ c.loop-rest-test.false) c.ended.ensures

pub returns-clause-refused : goal.returns-clause-refused
returns-clause-refused c =
    refused_end c.args.plant.now c.args.text.now c.loop-rest.logs.items c.loop-rest.journal c.loop-rest.at c.loop-rest.rest.now
    c.loop-rest.line c.ended.result c.requires.rules c.requires.short c.loop-rest.invariant (sym c.is_empty.ensures ∙ c.loop-rest-test.false) c.ended.ensures
