use Rattle.std.proofs.Common.{◌∙◌, refl, arith, length}
use Rattle.io_buffers.specs.Steps.{steps_in}
use Rattle.io_buffers.proofs.Going.{inside, store_allowed, stored_on, stored_all}
use Rattle.io_buffers.proofs.rows.store_words.Goals as goal

pub store-requires : goal.store-requires
store-requires c =
    let h = c.loop-place in
    let fits = c.loop-place-test.true in
    let place = inside (length c.args.words.now) c.args.draft h.place c.requires.slot fits in (
      h.invariant.own ∙ c.requires.own,
      omega (arith, place, c.requires.sized),
      store_allowed _ _ _ h.seat.me (steps_in c.args.seat.now.me.0) c.args.words.now h.place c.args.draft _ _
          h.invariant.stored c.requires.keyed fits c.requires.empty c.requires.drafted refl,
    )

pub loop-place-preserved : goal.loop-place-preserved
loop-place-preserved c = record {
  own = c.store.ensures.0 ∙ c.loop-place.invariant.own;
  stored = stored_on c.loop-place.seat.me c.store.new.seat.me (steps_in c.args.seat.now.me.0) c.args.words.now c.loop-place.place _
      c.loop-place.invariant.stored c.store.ensures.2 refl c.loop-place-test.true c.requires.empty;
}

pub returns : goal.returns
returns c = record {
  own = c.loop-place.invariant.own;
  stored = stored_all c.loop-place.seat.me (steps_in c.args.seat.now.me.0) c.args.words.now c.loop-place.place c.loop-place.invariant.stored c.loop-place-test.false;
}
