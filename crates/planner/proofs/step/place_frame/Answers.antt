use Rattle.planner.proofs.Laws.{FitLaws}
use Rattle.planner.proofs.Stepped.{step_is}
use Rattle.planner.proofs.step.place_frame.Goals as goal

pub returns : goal.returns
returns c = λ routes index are at known holds.
    let laws : FitLaws = record {
      clear = c.fits_in_numbers.ensures.clear;
      ready = c.fits_in_numbers.ensures.ready;
      one_ready = c.fits_in_numbers.ensures.one_ready;
      sendings = c.shapes_shift.ensures.sendings;
      arrivals = c.shapes_shift.ensures.arrivals;
      one_ratio = c.placements_are_one.ensures.ratio;
    } in
    step_is laws c.args.plant.now routes index c.args.demand.now are at c.args.way.now known c.args.placed.now _ holds _ c.place_in_gaps.ensures
