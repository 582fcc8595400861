use Rattle.std.proofs.Common.{◌∙◌, List, sym, ap, arith}
use Rattle.io_buffers.specs.Steps.{steps_in, with_stores, draft_of, part_of}
use Rattle.io_buffers.specs.declared.views.Made.{Made}
use Rattle.io_buffers.specs.declared.views.Made.TheVariants.{Published}
use Rattle.io_buffers.proofs.Allowed.{allows_publish}
use Rattle.io_buffers.proofs.PassLemmas.{publish_full, publish_word, made_one, producer_steps_are, published_more, counted_more, published_steps}
use Rattle.io_buffers.proofs.shared.Exchange.publish.Goals as goal

pub swap-found-requires : goal.swap-found-requires
swap-found-requires c =
    let pass = c.args.pass.now in
    let es = steps_in pass.seat.me.0 in
    let ws = c.args.words.now in (
      c.store_words.ensures.own ∙ c.requires.own,
      omega (arith, c.args.self.now.sized),
      allows_publish _ _ _ c.store_words.new.seat.me (with_stores 0 ws es) _ c.store_words.ensures.stored
          (publish_full es ws _ pass.empty (c.requires.words ∙ sym c.args.self.now.keyed))
          (publish_word es ws _ pass.draft pass.count c.fresh_control-new.ensures pass.drafted pass.counted),
    )

pub invariant_of-pass : goal.invariant_of-pass
invariant_of-pass c =
    let pass = c.args.pass.now in
    let es = steps_in pass.seat.me.0 in
    let ws = c.args.words.now in
    let on = made_one c.store_words.new.seat.me c.swap-found.new.seat.me (Published c.swap-found.result) (with_stores 0 ws es) c.store_words.ensures.stored c.swap-found.ensures.2.0 in
    let are = producer_steps_are c.swap-found.new.seat.me _ on in
    record {
      seated = are.0;
      drafted = c.middle_of-pass.ensures ∙ sym (ap (λ (l : List Made). draft_of l) are.1);
      slot = omega (arith, c.middle_of-pass.ensures, c.swap-found.ensures.2.1);
      counted = counted_more es ws (steps_in c.swap-found.new.seat.me.0) pass.count (published_more es ws c.swap-found.result _ are.1 pass.empty) pass.counted;
      empty = ap (λ (l : List Made). part_of l) are.1;
    }

pub returns-clause-published : goal.returns-clause-published
returns-clause-published c =
    let pass = c.args.pass.now in
    let es = steps_in pass.seat.me.0 in
    let ws = c.args.words.now in
    let on = made_one c.store_words.new.seat.me c.swap-found.new.seat.me (Published c.swap-found.result) (with_stores 0 ws es) c.store_words.ensures.stored c.swap-found.ensures.2.0 in
    let are = producer_steps_are c.swap-found.new.seat.me _ on in
    published_more es ws c.swap-found.result _ are.1 pass.empty

pub returns-clause-count : goal.returns-clause-count
returns-clause-count c =
    let es = steps_in c.args.pass.now.seat.me.0 in
    let ws = c.args.words.now in
    let on = made_one c.store_words.new.seat.me c.swap-found.new.seat.me (Published c.swap-found.result) (with_stores 0 ws es) c.store_words.ensures.stored c.swap-found.ensures.2.0 in
    let are = producer_steps_are c.swap-found.new.seat.me _ on in
    published_steps es (steps_in c.swap-found.new.seat.me.0) ws c.swap-found.result are.1
