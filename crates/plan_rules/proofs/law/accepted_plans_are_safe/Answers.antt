use Rattle.plan_rules.proofs.Apart.{never_collides, leaves_free}
use Rattle.plan_rules.proofs.Arrivals.{delivers_in_time, takes_arrivals}
use Rattle.plan_rules.proofs.Exactly.{sends_exactly, reaches_exactly, starts_once, lives_undisturbed}
use Rattle.plan_rules.proofs.law.accepted_plans_are_safe.Goals as goal

pub returns : goal.returns
returns c = λ plant bundles plan accepted world ranges. record {
  apart = never_collides plant bundles plan accepted world ranges;
  free = leaves_free plant bundles plan accepted world ranges;
  in_time = delivers_in_time plant bundles plan accepted world ranges;
  taken = takes_arrivals plant bundles plan accepted world ranges;
  sent = sends_exactly plant bundles plan accepted world;
  reached = reaches_exactly plant bundles plan accepted world;
  starts = λ k row in_cycle. starts_once plant bundles plan accepted row k;
  live = λ k row in_cycle. lives_undisturbed plant bundles plan accepted row;
}
