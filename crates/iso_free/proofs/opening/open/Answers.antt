use Rattle.std.proofs.Common.{ap, arith}
use Rattle.std.proofs.Math.Facts.{Fits-of_lt}
use Rattle.iso_free.proofs.Openings.{few_fit, few_words, opened_is}
use Rattle.iso_free.proofs.opening.open.Goals as goal

pub exchange-requires : goal.exchange-requires
exchange-requires g c =
    let few = few_words c.args.plant.now c.args.accepted.now.plant c.args.accepted.now.bundles c.args.number c.output_words-output_words.result c.input_words-input_words.result
    c.requires.plant c.requires.bundles c.requires.number c.output_words-output_words.ensures c.input_words-input_words.ensures
    (c.stations_fit_exchanges.ensures.outputs _ _ c.facts.ensures.plan c.facts.ensures.accepted)
    (c.stations_fit_exchanges.ensures.inputs _ _ c.facts.ensures.plan c.facts.ensures.accepted) in
    let i = few.1 in omega arith

pub overflow_add-output_words : goal.overflow_add-output_words
overflow_add-output_words g c =
    let few = few_words c.args.plant.now c.args.accepted.now.plant c.args.accepted.now.bundles c.args.number c.output_words-output_words.result c.input_words-input_words.result
    c.requires.plant c.requires.bundles c.requires.number c.output_words-output_words.ensures c.input_words-input_words.ensures
    (c.stations_fit_exchanges.ensures.outputs _ _ c.facts.ensures.plan c.facts.ensures.accepted)
    (c.stations_fit_exchanges.ensures.inputs _ _ c.facts.ensures.plan c.facts.ensures.accepted) in
    Fits-of_lt (few_fit c.output_words-output_words.result few.0)

pub exchange-requires-2 : goal.exchange-requires-2
exchange-requires-2 g c =
    let few = few_words c.args.plant.now c.args.accepted.now.plant c.args.accepted.now.bundles c.args.number c.output_words-output_words.result c.input_words-input_words.result
    c.requires.plant c.requires.bundles c.requires.number c.output_words-output_words.ensures c.input_words-input_words.ensures
    (c.stations_fit_exchanges.ensures.outputs _ _ c.facts.ensures.plan c.facts.ensures.accepted)
    (c.stations_fit_exchanges.ensures.inputs _ _ c.facts.ensures.plan c.facts.ensures.accepted) in
    let o = few.0 in omega arith

pub returns-clause-opened : goal.returns-clause-opened
returns-clause-opened g c =
    opened_is c.args.plant.now c.args.accepted.now.plant c.args.accepted.now.bundles c.args.number _ c.device_of.result.0 c.output_words-output_words.result c.input_words-input_words.result
    c.requires.plant c.requires.bundles c.requires.number (λ a at. ap (λ d. d.0) (c.device_of.ensures a at)) c.output_words-output_words.ensures c.input_words-input_words.ensures
    c.in_ok-output_lengths.ensures c.in_ok-new.ensures c.in_ok-exchange.ensures c.in_ok-exchange-2.ensures
