use Rattle.iso_plant.proofs.Handing.{can_step, steps_from}
use Rattle.iso_plant.proofs.plant.PlantState.step.Goals as goal

pub play_step-requires : goal.play_step-requires
play_step-requires g c = can_step _ c.self.invariant _ c.self.view_is _ c.requires.open c.requires.ends c.requires.fresh

pub invariant_of-self : goal.invariant_of-self
invariant_of-self g c = c.play_step.ensures.holds

pub returns : goal.returns
returns g c = steps_from _ _ _ _ _ c.self.view_is c.play_step.ensures.steps
