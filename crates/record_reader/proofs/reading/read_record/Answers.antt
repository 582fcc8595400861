use Rattle.record_reader.proofs.Faults.{only_answer}
use Rattle.record_reader.proofs.reading.read_record.Goals as goal

pub returns-clause-only : goal.returns-clause-only
returns-clause-only c =
    only_answer c.args.plant.now c.args.text.now c.read_lines.result c.requires.rules c.read_lines.ensures.found c.read_lines.ensures.refused
