use Rattle.std.proofs.Common.{arith}
use Rattle.irt_base.specs.Valid.{IsEntry}
use Rattle.block_values.proofs.Judging.{all_pass, one_fails, same_get}
use Rattle.block_values.proofs.frames.are_entries.Goals as goal

pub returns-then-not-is_entry : goal.returns-then-not-is_entry
returns-then-not-is_entry c = one_fails IsEntry c.args.entries.now c.is_entry.result c.loop-e.e-index _ c.loop-e-test.true (same_get c.args.entries.now c.loop-e.e-index _ _ c.loop-e-test.true) c.is_entry.ensures c.if-not-is_entry.true

pub returns : goal.returns
returns c = all_pass IsEntry c.args.entries.now (λ k d below. c.loop-e.invariant k d (omega arith))
