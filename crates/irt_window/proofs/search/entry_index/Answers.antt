use Rattle.irt_window.proofs.Finding.{goes_right, goes_left, search_finds, search_ends}
use Rattle.irt_window.proofs.search.entry_index.Goals as goal

pub returns-then-entry-frame : goal.returns-then-entry-frame
returns-then-entry-frame c =
    search_finds c.args.entries.now c.args.frame.0 c.loop-low.low c.loop-low.high _ c.requires c.loop-low.invariant c.loop-low-test.true
    c.if-entry-frame.true

pub loop-low-preserved-then-entry-frame-2 : goal.loop-low-preserved-then-entry-frame-2
loop-low-preserved-then-entry-frame-2 c =
    goes_right c.args.entries.now c.args.frame.0 c.loop-low.low c.loop-low.high _ c.requires c.loop-low.invariant c.loop-low-test.true
    c.if-entry-frame-2.true

pub loop-low-preserved : goal.loop-low-preserved
loop-low-preserved c =
    goes_left c.args.entries.now c.args.frame.0 c.loop-low.low c.loop-low.high _ c.requires c.loop-low.invariant c.loop-low-test.true
    c.if-entry-frame-2.false c.if-entry-frame.false

pub returns : goal.returns
returns c = search_ends c.args.entries.now c.args.frame.0 c.loop-low.low c.loop-low.high c.loop-low.invariant c.loop-low-test.false
