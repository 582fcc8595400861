-- What the check of a plan answers.
use Rattle.std.specs.Prelude.{◌≡◌, List, Option, Some, None, ⊤}
use Rattle.irt_base.specs.declared.blocks.Bundle.{Bundle}
use Rattle.irt_base.specs.declared.plants.Plant.{Plant}
use Rattle.plan_rules.specs.Places.{IsAccepted, IsReject}
use Rattle.plan_rules.specs.declared.place.Reject.{Reject as Rejected}
use Rattle.plan_check.specs.Settled.{Settled}
use Rattle.plan_check.specs.declared.check.Verdict.{Verdict}
use Rattle.plan_check.specs.declared.check.Verdict.TheVariants.{Accept, Reject}

-- None where all rules hold everywhere, else the first that fails and its least place.
abbrev pub IsJudged : Plant → List Bundle → Option Rejected → Type 0
IsJudged plant bundles None = IsAccepted plant bundles
IsJudged plant bundles (Some r) = IsReject plant bundles r

-- for what a plan is refused
abbrev pub reject_of : Verdict → Option Rejected
reject_of (Accept a) = None
reject_of (Reject r) = Some r

-- what is kept are copies of this plan
abbrev pub KeepsPlan : Plant → List Bundle → Verdict → Type 0
KeepsPlan plant bundles (Accept a) = (a.plant ≡ plant) × (a.bundles ≡ bundles)
KeepsPlan plant bundles (Reject r) = ⊤
