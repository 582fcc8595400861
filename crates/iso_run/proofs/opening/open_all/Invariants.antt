use Rattle.std.proofs.Common.{◌≡◌, ◌≤◌, drop, length, map, take, zip}
use Rattle.std.specs.Vec.Iter.{into_iter_items, into_iter_len}
use Rattle.iso_run.specs.Opened.{opened_app, opened_end}
use Rattle.plan_rules.specs.Plan.{setup_of}
use Rattle.iso_run.proofs.opening.open_all.Given as goal

abbrev pub invariant-loop-app : goal.invariant-loop-app
invariant-loop-app g l = record {
  within : length l.opened.items ≤ length l.fn.apps;
  left : into_iter_len l.app-iterator ≡ length (into_iter_items l.app-iterator);
  rest : into_iter_items l.app-iterator ≡ drop (length l.opened.items) l.fn.apps;
  apps : l.opened.items
      ≡ map (λ p. opened_app (setup_of l.accepted.plant l.accepted.bundles) p.0.device.0 p.1) (take (length l.opened.items) (zip l.accepted.plant.apps l.fn.apps));
  ends : l.ends.items
      ≡ map (λ p. opened_end (setup_of l.accepted.plant l.accepted.bundles) p.0.device.0) (take (length l.opened.items) (zip l.accepted.plant.apps l.fn.apps));
}
