use Rattle.irt_topo.proofs.Documents.{document_read, rules_met, only_plant}
use Rattle.irt_topo.proofs.Refusals.{fault_read, only_refusal}
use Rattle.irt_topo.proofs.read.read_plant.Goals as goal

pub returns : goal.returns
returns c =
    let answer = c.judged_plant.ensures in
    let bytes = c.args.bytes.now in
    let r = c.judged_plant.result in
    record {
      answer = answer;
      document = document_read bytes r answer;
      rules = rules_met bytes r answer;
      refused = fault_read bytes r answer;
      only = only_plant bytes r answer;
      refuses = only_refusal bytes r answer;
    }
