use Rattle.iso_plant.proofs.Widths.{output_is}
use Rattle.iso_plant.proofs.plant.PlantState.output_words.Goals as goal

pub returns : goal.returns
returns c a at = output_is _ c.self.invariant _ c.self.view_is _ a _ _ c.requires at c.index.ensures c.output_words.ensures
