use Rattle.irt_topo.proofs.Documents.{document-from_plant_of, plant_of-document}
use Rattle.irt_topo.proofs.FirstFailure.{keeps_all, meets_all}
use Rattle.irt_topo.proofs.Refusals.{refusal-from_plant_of, plant_of-refusal}
use Rattle.irt_topo.proofs.law.plants_law.Goals as goal

pub returns : goal.returns
returns c = record {
  table = λ p. (keeps_all p, meets_all p);
  document = λ bytes p. (document-from_plant_of bytes p, plant_of-document bytes p);
  refusal = λ bytes r. (refusal-from_plant_of bytes r, plant_of-refusal bytes r);
}
