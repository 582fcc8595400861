use Rattle.std.proofs.Common.{arith}
use Rattle.irt_show.specs.Show.{phases_line}
use Rattle.irt_show.proofs.Numbering.{one_more, all_done}
use Rattle.irt_show.proofs.blocks.put_all_phases.Goals as goal

pub loop-port-preserved : goal.loop-port-preserved
loop-port-preserved c = (
  omega arith,
  one_more phases_line _ _ _ c.args.ports.now c.loop-port.port-index c.loop-port.number c.port-item.result c.port-item.result (rw (c.deref.ensures.value, c.in_ok-line.ensures) at c.in_ok-put_bytes.ensures) c.port-item.is (omega arith) c.loop-port.invariant.1,
)

pub returns : goal.returns
returns c = all_done phases_line _ _ c.args.ports.now c.loop-port.port-index c.loop-port.number (omega arith) c.loop-port.invariant.1
