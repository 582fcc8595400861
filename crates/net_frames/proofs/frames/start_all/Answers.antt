use Rattle.std.proofs.Common.{◌≤◌, ◌++◌, length, sym, subst, arith, IsPermutation}
use Rattle.net_begin.specs.Begun.{starts_of_all}
use Rattle.net_begin.specs.Clocks.{begin_of}
use Rattle.plan_rules.specs.Plan.{setup_of}
use Rattle.plan_rules.specs.Way.{IsInRange}
use Rattle.irt_world.specs.Rows.{world_row}
use Rattle.net_site.specs.Site.{bundles_of}
use Rattle.net_frames.proofs.Range.{row_in_range}
use Rattle.net_frames.proofs.Starting.{room_kept, small_times, started, starts_fit}
use Rattle.net_frames.proofs.frames.start_all.Goals as goal

range : (c : goal.After-plant) → IsInRange (setup_of c.args.site.now.plant (bundles_of c.args.switches.now)) (world_row c.args.site.now.plant (bundles_of c.args.switches.now) c.args.row.now)
range c = row_in_range c.fitting_worlds_are_in_range.ensures c.args.site.now.plant (bundles_of c.args.switches.now) c.args.row.now c.requires.plan.fits

pub release_all-requires-clause-times : goal.release_all-requires-clause-times
release_all-requires-clause-times c = small_times c.args.site.now c.args.row.now c.args.k c.args.switches.now c.requires.plan (range c) c.requires.begun

pub release_all-requires-clause-room : goal.release_all-requires-clause-room
release_all-requires-clause-room c =
    let fit = starts_fit c.args.site.now c.args.row.now c.args.k c.args.switches.now c.requires.plan (range c) c.requires.begun c.releases_are_first.ensures c.runs_go_on.ensures.begin c.runs_go_on.ensures.short in
    let ample = c.requires.queue.room in
    subst (λ plant. length (starts_of_all (begin_of plant c.args.row.now c.args.k) 0 c.args.switches.now) ≤ c.args.queue.now.room) (sym c.plant.ensures) (omega arith)

pub returns-clause-started : goal.returns-clause-started
returns-clause-started c =
    started c.args.site.now c.args.row.now c.args.k c.args.switches.now c.requires.plan
    (row_in_range c.fitting_worlds_are_in_range.ensures c.args.site.now.plant (bundles_of c.args.switches.now) c.args.row.now c.requires.plan.fits) c.requires.begun c.releases_are_first.ensures c.args.queue.now c.release_all.new.queue c.requires.queue.empty
    (subst (λ plant. IsPermutation (starts_of_all (begin_of plant c.args.row.now c.args.k) 0 c.args.switches.now ++ c.args.queue.now.events) c.release_all.new.queue.events) c.plant.ensures
    c.release_all.ensures.put)

pub returns-clause-room : goal.returns-clause-room
returns-clause-room c = room_kept _ c.args.queue.now c.release_all.new.queue _ c.requires.queue c.release_all.ensures.put c.release_all.ensures.room
