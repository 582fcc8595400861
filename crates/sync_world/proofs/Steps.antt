-- Clocks, a cycle later, and what they say.
use Rattle.std.proofs.Common.{◌≡◌, ℕ, ◌+◌, ◌*◌, suc, Bool, true, false, ◌==◌, ◌&&◌, not, if◌then◌else◌, Option, Some, None, refl, ◌∙◌, ap, ap₂, arith}
use Rattle.std.specs.Prelude.{ℤ, pos}
use Rattle.sync_world.specs.Clocks.{clock_at, first_clock, heard_error, is_silent, later}
use Rattle.sync_world.specs.Table.{heard_by}
use Rattle.sync_world.specs.declared.clocks.Clock.{Clock}
use Rattle.sync_world.specs.declared.domain.Domain.{Domain}

pub first_is : (domain : Domain) (device : ℕ) → first_clock ≡ clock_at domain device 0
unfolding clock_at
first_is domain device = refl

suc_is : (domain : Domain) (device cycle : ℕ) → later domain device cycle (clock_at domain device cycle) ≡ clock_at domain device (suc cycle)
unfolding clock_at
suc_is domain device cycle = refl

pub later_is : (domain : Domain) (device cycle : ℕ) (clock next : Clock) → next ≡ later domain device cycle clock → clock ≡ clock_at domain device cycle →
    next ≡ clock_at domain device (cycle + 1)
later_is domain device cycle clock next step held =
    let same : suc cycle ≡ cycle + 1 = omega arith in
    step ∙ ap (later domain device cycle) held ∙ suc_is domain device cycle ∙ ap (clock_at domain device) same

heard_cases : (master silent : Bool) (error : ℤ) →
    (if master then Some (pos 0) else (if silent then None else Some error)) ≡ (if (not master && silent) then None else Some (if master then pos 0 else error))
heard_cases true silent error = refl
heard_cases false true error = refl
heard_cases false false error = refl

heard_at_clock : (domain : Domain) (timeout device cycle : ℕ) →
    heard_by device (clock_at domain device cycle) cycle (domain.send * timeout) ≡ heard_error domain timeout device cycle
unfolding heard_error
heard_at_clock domain timeout device cycle =
    heard_cases (device == 0) (is_silent (clock_at domain device cycle).heard cycle (domain.send * timeout)) (clock_at domain device cycle).error

pub heard_is : (domain : Domain) (timeout device cycle patience : ℕ) (clock : Clock) (error : Option ℤ) → error ≡ heard_by device clock cycle patience →
    clock ≡ clock_at domain device cycle → patience ≡ domain.send * timeout → error ≡ heard_error domain timeout device cycle
heard_is domain timeout device cycle patience clock error is held wait =
    is ∙ ap₂ (λ (x : Clock) (n : ℕ). heard_by device x cycle n) held wait ∙ heard_at_clock domain timeout device cycle
