use Rattle.iso_plant.proofs.Widths.{input_is}
use Rattle.iso_plant.proofs.plant.PlantState.input_words.Goals as goal

pub returns : goal.returns
returns c a at = input_is _ c.self.invariant _ c.self.view_is _ a _ _ c.requires at c.index.ensures c.input_words.ensures
