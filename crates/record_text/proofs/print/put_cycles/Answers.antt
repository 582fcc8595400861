use Rattle.record_text.proofs.Cycles.{cycle_on}
use Rattle.record_text.proofs.print.put_cycles.Goals as goal

pub loop-k-preserved : goal.loop-k-preserved
loop-k-preserved c = record {
  text = cycle_on c.args.plant.now c.args.apps.now c.args.journal.now c.loop-k.k c.loop-k.at c.end_of_cycle-end.result c.args.out.now.items
      c.loop-k.out.items c.put_cycle.new.out.items c.loop-k.invariant.text c.in_ok-put_cycle.ensures c.loop-k.invariant.cursor
      c.end_of_cycle-end.ensures.end c.end_of_cycle-end.ensures.later;
  cursor = c.end_of_cycle-end.ensures.end;
}
