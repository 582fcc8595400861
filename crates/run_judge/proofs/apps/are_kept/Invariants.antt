use Rattle.std.proofs.Common.{◌≡◌, ◌≤◌, drop, length}
use Rattle.std.specs.Vec.Iter.{into_iter_items, into_iter_len}
use Rattle.plan_rules.specs.Plan.{setup_of}
use Rattle.run_judge.proofs.EachApp.{AreKeptBelow}
use Rattle.run_judge.proofs.apps.are_kept.Given as goal

abbrev pub invariant-loop-app : goal.invariant-loop-app
invariant-loop-app g l = record {
  within : l.number ≤ length l.fn.apps;
  left : into_iter_len l.app-iterator ≡ length (into_iter_items l.app-iterator);
  rest : into_iter_items l.app-iterator ≡ drop l.number l.fn.apps;
  kept :
      AreKeptBelow g.A.IsoApp.reply g.A.IsoApp.next_state (setup_of l.accepted.plant l.accepted.bundles)
      l.cycles l.fn.apps l.logs l.number;
}
