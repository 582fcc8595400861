use Rattle.std.proofs.Common.{◌≤◌, length}
use Rattle.link_index.specs.Filling.{AreEntered}
use Rattle.link_index.proofs.index.LinkIndex.new.Given as goal

abbrev pub invariant-loop-number : goal.invariant-loop-number
invariant-loop-number l =
    record {
      there : l.number ≤ length l.plant.links;
      entered : AreEntered l.plant l.number l.rows;
    }

abbrev pub decreases-loop-number : goal.decreases-loop-number
decreases-loop-number l = l.number
