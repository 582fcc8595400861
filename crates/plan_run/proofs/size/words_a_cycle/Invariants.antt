use Rattle.std.proofs.Common.{◌≡◌, ◌+◌, ◌*◌, ◌^◌, ◌≤◌, drop, sum_by}
use Rattle.plan_run.specs.Size.{app_words}
use Rattle.plan_run.proofs.size.words_a_cycle.Given as goal

abbrev pub invariant-loop-app : goal.invariant-loop-app
invariant-loop-app l =
    (l.words + sum_by (app_words l.plant l.bundles) (drop l.app-index l.app-items) ≡ sum_by (app_words l.plant l.bundles) l.app-items)
    × (l.words ≤ l.app-index * 2 ^ 26)
