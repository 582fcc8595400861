use Rattle.std.proofs.Common.{subst, sym, List, Option}
use Rattle.plan_rules.specs.Ways.{AreWays}
use Rattle.plan_rules.specs.declared.way.Way.{Way}
use Rattle.irt_window.specs.Trees.{AreFound, AreRowsOf}
use Rattle.irt_window.proofs.Found.{all_found, ways_found}
use Rattle.irt_window.proofs.Tabled.{beside_ways, ascending_rows, ordered_ways}
use Rattle.irt_window.proofs.trees.windows_of.Goals as goal

pub all_ways-requires : goal.all_ways-requires
all_ways-requires c =
    subst AreFound (sym c.as_slice.ensures.value) (all_found c.args.net.now c.args.marks.now c.requires.net c.requires.marks c.requires.all c.requires.trees)

pub invariant_of-result : goal.invariant_of-result
invariant_of-result c =
    let net = c.args.net.now in
    let are : AreWays net.plant.now net.bundles.now c.in_ok-ways.ways =
    ways_found net c.args.marks.now c.in_ok-ways.ways c.requires.net c.requires.marks c.requires.trees
    (subst (λ (rows : List (List (Option Way))). AreRowsOf rows c.in_ok-ways.ways) c.as_slice.ensures.value c.in_ok-ways.ensures) in
    record {
      beside = beside_ways net.plant.now net.bundles.now c.in_ok-entries.entries c.in_ok-ways.ways c.in_ok-entries.ensures are;
      ascending = ascending_rows net.plant.now net.bundles.now c.in_ok-entries.entries c.in_ok-entries.ensures c.requires.net.plan;
      ordered = ordered_ways net.plant.now net.bundles.now c.in_ok-ways.ways are;
    }

pub returns : goal.returns
returns c = record {
  entries = c.in_ok-entries.ensures;
  ways = ways_found c.args.net.now c.args.marks.now c.in_ok-ways.ways c.requires.net c.requires.marks c.requires.trees
      (subst (λ (rows : List (List (Option Way))). AreRowsOf rows c.in_ok-ways.ways) c.as_slice.ensures.value c.in_ok-ways.ensures);
}
