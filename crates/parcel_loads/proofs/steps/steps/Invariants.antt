use Rattle.std.proofs.Common.{◌≡◌, ◌++◌, drop}
use Rattle.irt_base.specs.declared.plants.Plant.{Plant}
use Rattle.link_index.specs.Index.{IsIndexOf}
use Rattle.parcel_rules.specs.Steps.{steps_from}
use Rattle.parcel_loads.proofs.steps.steps.Given as goal

abbrev pub invariant-loop-port : goal.invariant-loop-port
invariant-loop-port l = (plant : Plant) → IsIndexOf plant l.index → l.steps ++ steps_from plant l.at (drop l.port-index l.walk) ≡ steps_from plant l.fn.source l.walk
