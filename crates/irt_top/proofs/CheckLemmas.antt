-- How the steps of commands follow each other.
use Rattle.std.proofs.Common.{◌≡◌, ◌<◌, ℕ, zero, suc, ◌+◌, List, [], ◌∷◌, ◌++◌, length, Option, Some, None, inl, Result, Ok, Err, refl, sym, ◌∙◌, ap, subst, arith, drop, slice_get, get_or}
use Rattle.std.specs.Global.{Vec}
use Rattle.std.specs.List.{All}
use Rattle.std.proofs.lemmas.List.Elements.{All-append}
use Rattle.irt_base.specs.Valid.{IsBundle}
use Rattle.irt_io.specs.Files.{Files}
use Rattle.irt_base.specs.declared.blocks.Bundle.{Bundle}
use Rattle.irt_base.specs.declared.plants.Device.{Device}
use Rattle.irt_base.specs.declared.plants.Plant.{Plant}
use Rattle.irt_steps.specs.declared.stop.Stop.{Stop}
use Rattle.irt_steps.specs.declared.stop.Stop.TheVariants as stops
use Rattle.irt_steps.specs.Steps.{ending, gives}
use Rattle.irt_io.specs.Fault.{IsLater, HasRisen}
use Rattle.irt_steps.specs.Follow.{Follows, Decides, HasCause, IsEnding}
use Rattle.irt_steps.proofs.StepLemmas.{follow_on, follow_stop}
use Rattle.plan_rules.specs.Places.{IsReject}
use Rattle.plan_rules.specs.declared.place.Reject.{Reject}
use Rattle.plan_check.specs.Verdicts.{IsJudged}
use Rattle.irt_top.specs.Check.{verdict_steps, rejected}
use Rattle.irt_top.specs.DeviceFiles.{device_steps, bundles_steps}

-- a device that was looked up
pub found_device : (devices : List Device) (n m : ℕ) (d other : Device) → n < length devices → d ≡ get_or devices n other → n ≡ m → slice_get devices m ≡ Some d
found_device devices n m d other within is same = subst (λ k. slice_get devices k ≡ Some d) same (found_at devices n d other within is)
  where
    found_at : (devices : List Device) (n : ℕ) (d other : Device) → n < length devices → d ≡ get_or devices n other → slice_get devices n ≡ Some d
    found_at [] n d other within is = absurd (omega arith)
    found_at (e ∷ devices) zero d other within is = ap Some (sym is)
    found_at (e ∷ devices) (suc n) d other within is = found_at devices n d other (omega arith) is

-- the first of the devices that are left
next_device : (devices : List Device) (n : ℕ) (d : Device) → slice_get devices n ≡ Some d → drop n devices ≡ d ∷ drop (suc n) devices
next_device [] n d at = absurd cc
next_device (e ∷ devices) zero d at = ap (λ x. x ∷ devices) (some_same at)
  where
    some_same : Some e ≡ Some d → e ≡ d
    some_same is = cc
next_device (e ∷ devices) (suc n) d at = next_device devices n d at

no_device : (devices : List Device) (n : ℕ) → slice_get devices n ≡ None → drop n devices ≡ []
no_device [] zero at = refl
no_device [] (suc n) at = refl
no_device (e ∷ devices) zero at = absurd cc
no_device (e ∷ devices) (suc n) at = no_device devices n at

abbrev same : List Bundle → List Bundle
same bs = bs

-- a bundle more is valid too
pub all_more : (front new : List Bundle) (b : Bundle) → new ≡ front ++ b ∷ [] → All IsBundle front → IsBundle b → All IsBundle new
all_more front new b is all one = subst (All IsBundle) (sym is) (All-append IsBundle front (b ∷ []) all (lone b one))
  where
    lone : (b : Bundle) → IsBundle b → All IsBundle (b ∷ [])
    lone b one zero d within = one
    lone b one (suc k) d within = absurd (omega arith)

-- no device is left
pub none_left : (devices : List Device) (front : List Bundle) (held : Option Files) → slice_get devices (length front) ≡ None →
    Follows same (bundles_steps (drop (length front) devices) front) held held (Ok front)
none_left devices front held at = subst (λ ds. Follows same (bundles_steps ds front) held held (Ok front)) (sym (no_device devices (length front) at)) (given held)
  where
    given : (held : Option Files) → Follows same (gives front) held held (Ok front)
    given files = (refl, refl)

-- a device's file was read
pub one_more : (devices : List Device) (d : Device) (front next : List Bundle) (old mid new : Option Files) (result : Result (List Bundle) Stop) →
    slice_get devices (length front) ≡ Some d → length next ≡ length front + 1 → Follows same (device_steps d front) old mid (Ok next) →
    Follows same (bundles_steps (drop (length next) devices) next) mid new result → Follows same (bundles_steps (drop (length front) devices) front) old new result
one_more devices d front next old mid new result at count first later =
    let after_it : length next ≡ suc (length front) = omega (arith, count) in
    let rest = subst (λ n. Follows same (bundles_steps (drop n devices) next) mid new result) after_it later in
    subst (λ ds. Follows same (bundles_steps ds front) old new result) (sym (next_device devices (length front) d at))
    (follow_on same same (device_steps d front) (bundles_steps (drop (suc (length front)) devices)) old mid new next result first rest)

-- a device's file ended the command
pub one_stops : (devices : List Device) (d : Device) (front : List Bundle) (old new : Option Files) (stop : Stop) →
    slice_get devices (length front) ≡ Some d → Follows same (device_steps d front) old new (Err stop) →
    Follows same (bundles_steps (drop (length front) devices) front) old new (Err stop)
one_stops devices d front old new stop at first =
    subst (λ ds. Follows same (bundles_steps ds front) old new (Err stop)) (sym (next_device devices (length front) d at))
    (follow_stop same same (device_steps d front) (bundles_steps (drop (suc (length front)) devices)) old new stop first)

-- no device's file is read yet
pub from_none : (held devices : List Device) (front : List Bundle) (old new : Option Files) (result : Result (List Bundle) Stop) → devices ≡ held → front ≡ [] →
    Follows same (bundles_steps (drop (length front) devices) front) old new result → Follows same (bundles_steps held []) old new result
from_none held devices front old new result same_devices none follows =
    subst (λ ds. Follows same (bundles_steps ds []) old new result) same_devices
    (subst (λ bs. Follows same (bundles_steps (drop (length bs) devices) bs) old new result) none follows)

-- ---- the verdict

rejects_on : (plant : Plant) (bundles : List Bundle) (reject : Reject) (stop : Stop) → IsReject plant bundles reject → IsEnding stop 8 (rejected plant reject).text →
    Decides (λ (v : Vec ℕ). v.items) (verdict_steps plant bundles) (Err stop)
rejects_on plant bundles reject stops.NoMemory is ends files = inl refl
rejects_on plant bundles reject (stops.Fault line) is ends files = absurd ends
rejects_on plant bundles reject (stops.Ends cause line) is ends files =
    (Some reject, is, (ap (λ s. Err (ending s line.items)) ends.0 ∙ ap (λ t. Err (ending 8 t)) ends.1, refl))

pub rejects : (plant : Plant) (bundles : List Bundle) (found : Option Reject) (reject : Reject) (stop : Stop) → IsJudged plant bundles found → found ≡ Some reject →
    IsEnding stop 8 (rejected plant reject).text → Decides (λ (v : Vec ℕ). v.items) (verdict_steps plant bundles) (Err stop)
rejects plant bundles found reject stop is same ends = rejects_on plant bundles reject stop (subst (IsJudged plant bundles) same is) ends

-- the verdict on blocks that were read
pub follow_judged : (plant : Plant) (read bundles : List Bundle) (held : Option Files) (result : Result (Vec ℕ) Stop) → bundles ≡ read →
    Decides (λ (v : Vec ℕ). v.items) (verdict_steps plant bundles) result → Follows (λ (v : Vec ℕ). v.items) (verdict_steps plant read) held held result
follow_judged plant read bundles held result is decides = subst (λ bs. Decides (λ (v : Vec ℕ). v.items) (verdict_steps plant bs) result) is decides held

-- ---- faults

risen_after : (before mid now : ℕ) → IsLater before mid → HasRisen mid now → HasRisen before now
risen_after before mid now later risen = grind arith

-- a fault that was counted after the first steps was counted after the beginning
pub cause_after : {A : Type 0} (before mid now : ℕ) (result : Result A Stop) → IsLater before mid → HasCause mid now result → HasCause before now result
cause_after before mid now (Ok x) later cause = tt
cause_after before mid now (Err stops.NoMemory) later cause = tt
cause_after before mid now (Err (stops.Fault line)) later cause = risen_after before mid now later cause
cause_after before mid now (Err (stops.Ends why line)) later cause = tt
