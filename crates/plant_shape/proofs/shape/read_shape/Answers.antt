use Rattle.std.proofs.Common.{ap, arith}
use Rattle.std.proofs.lemmas.Grind.{common_steps}
use Rattle.toml.specs.Errors.{IsMemory}
use Rattle.plant_shape.specs.Shape.{document_shape}
use Rattle.plant_shape.proofs.Documents.{document_none, answers_shape}
use Rattle.plant_shape.proofs.shape.read_shape.Goals as goal

pub returns : goal.returns
returns c =
    let read = c.in-Ok.ensures.ok in
    answers_shape c.args.bytes.now _ c.plant_in.result read.0 read.1 c.plant_in.ensures

pub returns-in-Err : goal.returns-in-Err
returns-in-Err c =
    let other : ¬ (IsMemory c.in-Err.fault) = λ memory. grind (arith, common_steps) in
    ap document_shape (document_none c.args.bytes.now (c.in-Err.ensures.refused other))
