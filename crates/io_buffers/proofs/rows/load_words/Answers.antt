use Rattle.std.proofs.Common.{◌≤◌, ◌<◌, ◌∙◌, refl, arith, length}
use Rattle.io_buffers.specs.Steps.{steps_in}
use Rattle.io_buffers.proofs.Going.{inside, load_allowed, loaded_on, loaded_all}
use Rattle.io_buffers.proofs.rows.load_words.Goals as goal

pub load-requires : goal.load-requires
load-requires c =
    let h = c.loop-place in
    let fits = c.loop-place-test.true in
    let place = inside (length c.args.out.now) c.args.front h.place c.requires.slot fits in (
      h.invariant.own ∙ c.requires.own,
      omega (arith, place, c.requires.sized),
      load_allowed _ _ _ h.seat.me (steps_in c.args.seat.now.me.0) h.out (length c.args.out.now) h.place c.args.front _
          h.invariant.loaded c.requires.keyed h.auto.out fits c.requires.empty c.requires.fronted refl,
    )

pub loop-place-preserved : goal.loop-place-preserved
loop-place-preserved c =
    let fits : c.loop-place.place < length c.loop-place.out = omega (arith, c.loop-place.auto.out, c.loop-place-test.true) in
    record {
      own = c.load.ensures.0 ∙ c.loop-place.invariant.own;
      loaded = loaded_on c.loop-place.seat.me c.load.new.seat.me (steps_in c.args.seat.now.me.0) c.loop-place.out c.loop-place.place c.load.result
          c.loop-place.invariant.loaded c.load.ensures.2 fits c.requires.empty;
    }

pub returns : goal.returns
returns c =
    let done : length c.loop-place.out ≤ c.loop-place.place = omega (arith, c.loop-place.auto.out, c.loop-place-test.false) in
    record {
      own = c.loop-place.invariant.own;
      loaded = loaded_all c.loop-place.seat.me (steps_in c.args.seat.now.me.0) c.loop-place.out c.loop-place.place c.loop-place.invariant.loaded done;
    }
