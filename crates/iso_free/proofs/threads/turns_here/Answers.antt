use Rattle.std.proofs.Common.{◌∙◌, ap}
use Rattle.std.proofs.Math.Seq.{map-set_same}
use Rattle.std.proofs.lemmas.List.{length-set}
use Rattle.iso_free.specs.Started.{place_of}
use Rattle.iso_free.proofs.threads.turns_here.Goals as goal

pub returns-in_err-turn_here : goal.returns-in_err-turn_here
returns-in_err-turn_here g c =
    map-set_same place_of c.loop-at.started.items c.loop-at.at c.turn_here.new.one c.index_mut.result.now (c.turn_here.ensures ∙ ap (λ s. place_of s) c.index_mut.ensures.value)
    ∙ c.loop-at.invariant.places

pub loop-at-preserved : goal.loop-at-preserved
loop-at-preserved g c = record {
  places = map-set_same place_of c.loop-at.started.items c.loop-at.at c.turn_here.new.one c.index_mut.result.now (c.turn_here.ensures ∙ ap (λ s. place_of s) c.index_mut.ensures.value)
      ∙ c.loop-at.invariant.places;
  count = length-set c.loop-at.started.items c.loop-at.at c.turn_here.new.one ∙ c.loop-at.invariant.count;
}
