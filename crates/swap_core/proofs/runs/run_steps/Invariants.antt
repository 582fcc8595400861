-- The core and what was seen so far, followed by what the steps that are left do, are those of the whole run.
use Rattle.std.proofs.Common.{◌≡◌, ◌≤◌, ◌++◌, drop}
use Rattle.swap_core.specs.Runs.{start}
use Rattle.swap_core.proofs.Words.{slots_after, sights_after}
use Rattle.swap_core.proofs.runs.run_steps.Given as goal

abbrev pub invariant-loop-step : goal.invariant-loop-step
invariant-loop-step l = record {
  core : slots_after l.core (drop l.step-index l.steps) ≡ slots_after (start l.words).slots l.steps;
  seen : l.seen.items ++ sights_after l.core (drop l.step-index l.steps) ≡ sights_after (start l.words).slots l.steps;
  newest : l.core.newest ≤ l.step-index;
}
