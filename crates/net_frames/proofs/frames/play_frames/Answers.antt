use Rattle.std.proofs.Common.{◌+◌, ◌≤◌, length, sym, subst}
use Rattle.cycle_events.specs.Run.{RowsAreSegment, RowsDiffer}
use Rattle.run_journal.specs.Written.{IsSortedFrom}
use Rattle.net_site.specs.Site.{bundles_of, play_in}
use Rattle.net_frames.specs.Frames.{IsReadyFor, most_frames}
use Rattle.net_frames.specs.Playing.{HasGiven, IsStarted}
use Rattle.net_frames.proofs.Ended.{grown, playing_on, same_blocks}
use Rattle.net_frames.proofs.Range.{row_in_range}
use Rattle.net_frames.proofs.frames.play_frames.Goals as goal

pub run_queue-requires-clause-playing : goal.run_queue-requires-clause-playing
run_queue-requires-clause-playing c =
    playing_on c.fitting_worlds_are_in_range.ensures c.args.site.now c.args.row.now c.args.k c.args.switches.now c.start_all.new.switches c.args.frames.now c.start_all.ensures.switches c.requires.plan
    c.requires.run c.requires.begun c.requires.frames

pub run_queue-requires-clause-started : goal.run_queue-requires-clause-started
run_queue-requires-clause-started c =
    subst (λ bundles. IsStarted (play_in c.args.site.now.plant bundles c.args.row.now c.args.k) c.start_all.new.queue.events)
    (sym (same_blocks c.args.switches.now c.start_all.new.switches c.start_all.ensures.switches)) c.start_all.ensures.started

pub run_queue-requires-clause-queue : goal.run_queue-requires-clause-queue
run_queue-requires-clause-queue c =
    subst (λ bundles. most_frames c.args.site.now.plant bundles ≤ c.start_all.new.queue.room + length c.start_all.new.queue.events)
    (sym (same_blocks c.args.switches.now c.start_all.new.switches c.start_all.ensures.switches)) c.start_all.ensures.room

pub run_queue-requires-clause-room : goal.run_queue-requires-clause-room
run_queue-requires-clause-room c =
    subst (λ bundles. most_frames c.args.site.now.plant bundles ≤ c.args.journal.now.room)
    (sym (same_blocks c.args.switches.now c.start_all.new.switches c.start_all.ensures.switches)) c.requires.room

pub returns-clause-rows : goal.returns-clause-rows
returns-clause-rows c =
    let range = row_in_range c.fitting_worlds_are_in_range.ensures c.args.site.now.plant (bundles_of c.args.switches.now) c.args.row.now c.requires.plan.fits in
    let differ : RowsDiffer (play_in c.args.site.now.plant (bundles_of c.args.switches.now) c.args.row.now c.args.k) =
    c.runs_give_segments.ensures.differ c.args.site.now.plant (bundles_of c.args.switches.now) c.requires.plan.plan c.requires.plan.accepted _ range c.args.k in
    let segment : RowsAreSegment (play_in c.args.site.now.plant (bundles_of c.args.switches.now) c.args.row.now c.args.k) =
    c.runs_give_segments.ensures.segment c.args.site.now.plant (bundles_of c.args.switches.now) c.requires.plan.plan c.requires.plan.accepted _ range c.args.k in
    grown c.args.site.now.plant (bundles_of c.args.switches.now) c.args.row.now c.args.k c.args.journal.now c.run_queue.new.journal c.sort_from.new.self differ segment
    (subst (λ bundles. HasGiven (play_in c.args.site.now.plant bundles c.args.row.now c.args.k) c.args.journal.now c.run_queue.new.journal)
    (same_blocks c.args.switches.now c.start_all.new.switches c.start_all.ensures.switches) c.run_queue.ensures.rows)
    (subst (λ n. IsSortedFrom n c.run_queue.new.journal.rows c.sort_from.new.self.rows) c.len-before.ensures c.sort_from.ensures.sorted) c.sort_from.ensures.room

pub returns-clause-queue : goal.returns-clause-queue
returns-clause-queue c =
    subst (λ bundles. IsReadyFor (most_frames c.args.site.now.plant bundles) c.run_queue.new.queue)
    (same_blocks c.args.switches.now c.start_all.new.switches c.start_all.ensures.switches) c.run_queue.ensures.queue
