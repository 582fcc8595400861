-- A plan has one verdict, and files of devices spell one list of bundles.
use Rattle.std.proofs.Common.{◌≡◌, ℕ, List, [], ◌∷◌, ◌++◌, Option, Some, None, refl, ap}
use Rattle.irt_base.specs.declared.blocks.Bundle.{Bundle}
use Rattle.irt_base.specs.declared.plants.Device.{Device}
use Rattle.irt_base.specs.declared.plants.Plant.{Plant}
use Rattle.irt_block.specs.Header.{whole_of}
use Rattle.irt_bundle.specs.Bundles.{bundle_in}
use Rattle.irt_steps.specs.Steps.{gives, IsOneWay}
use Rattle.irt_steps.proofs.OneWay.{judged_one, after_one}
use Rattle.plan_check.specs.Verdicts.{IsJudged}
use Rattle.plan_rules.proofs.Verdicts.{one_reject, refuted}
use Rattle.plan_rules.specs.declared.place.Reject.{Reject}
use Rattle.irt_top.specs.Check.{verdict_answer, verdict_steps}
use Rattle.irt_top.specs.DeviceFiles.{bundle_answer, bundle_steps, device_file_of, device_steps, bundles_steps}

-- a plan has one verdict
pub check_one : (plant : Plant) (bundles : List Bundle) (a b : Option Reject) → IsJudged plant bundles a → IsJudged plant bundles b → a ≡ b
check_one plant bundles None None first second = refl
check_one plant bundles None (Some r) first second = absurd (refuted plant bundles r second first)
check_one plant bundles (Some r) None first second = absurd (refuted plant bundles r first second)
check_one plant bundles (Some r) (Some s) first second = ap Some (one_reject plant bundles r s first second)

pub verdict_one : (plant : Plant) (bundles : List Bundle) → IsOneWay (verdict_steps plant bundles)
verdict_one plant bundles = (check_one plant bundles, λ answer. judged_one (verdict_answer plant answer))

pub bundle_one : (name : List ℕ) → IsOneWay (bundle_steps name)
bundle_one name = λ bytes. judged_one (bundle_answer name (whole_of bundle_in bytes))

device_one : (d : Device) (front : List Bundle) → IsOneWay (device_steps d front)
device_one d front = after_one (bundle_steps (device_file_of d.name)) (λ b. gives (front ++ b ∷ [])) (bundle_one (device_file_of d.name)) (λ b. tt)

pub bundles_one : (devices : List Device) (front : List Bundle) → IsOneWay (bundles_steps devices front)
bundles_one [] front = tt
bundles_one (d ∷ ds) front = after_one (device_steps d front) (bundles_steps ds) (device_one d front) (bundles_one ds)
