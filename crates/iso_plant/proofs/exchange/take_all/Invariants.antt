use Rattle.iso_plant.proofs.Taking.{TakenTo}
use Rattle.iso_plant.specs.Step.{ends_of}
use Rattle.iso_plant.proofs.exchange.take_all.Given as goal

abbrev pub invariant-loop-index : goal.invariant-loop-index
invariant-loop-index g l =
    TakenTo l.apps l.fn.histories l.fn.outputs
    (ends_of g.E.Ends.apps g.E.Ends.output_words g.E.Ends.input_words g.E.Ends.offers g.E.Ends.takes g.E.Ends.published l.fn.ends)
    l.histories l.outputs
    (ends_of g.E.Ends.apps g.E.Ends.output_words g.E.Ends.input_words g.E.Ends.offers g.E.Ends.takes g.E.Ends.published l.ends)
    l.index
