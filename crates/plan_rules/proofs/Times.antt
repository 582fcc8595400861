-- Windows and boxes as times: plain numbers, in ns.
use Rattle.std.proofs.Common.{◌≡◌, ℕ, ◌+◌, ◌*◌, ◌<◌, ◌≤◌, ◌⊎◌, inl, inr, ap, arith, mul-le-mul_right}
use Rattle.std.specs.Prelude.{ℤ, pos, ◌+ℤ◌, ◌≤ℤ◌, ◌==◌}
use Rattle.std.proofs.lemmas.Bool.{cond-true, cond-false}
use Rattle.std.proofs.lemmas.Bool.Decides.{eqb_tells}
use Rattle.std.proofs.lemmas.Int.{ints}
use Rattle.irt_base.specs.Cycle.{guard_time}
use Rattle.plan_rules.proofs.StartWindow.{IsInWindow}
use Rattle.plan_rules.specs.World.{IsWithinWindow}
use Rattle.plan_rules.specs.SendWindow.{slack_time}

-- what the slack is
slack_cases : (window first second : ℕ) → ((first ≡ second) × (slack_time window first second ≡ 0)) ⊎ (slack_time window first second ≡ guard_time window)
slack_cases window first second =
    elim (eqb_tells first second) [
      | inl same ↦ inl (same.1, cond-true (first == second) 0 (guard_time window) same.0)
      | inr other ↦ inr (cond-false (first == second) 0 (guard_time window) other.0)
    ]

-- a frame lies between a window before its cycle and a window before the next one
pub record IsInBox (period window k : ℕ) (start end : ℤ) : Type 0 where
  pub low : pos (k * period) ≤ℤ (start +ℤ pos window)
  pub high : (end +ℤ pos window) ≤ℤ pos ((k + 1) * period)

pub boxed : (period window k lo hi wire : ℕ) (error start end : ℤ) → IsInWindow start (pos (k * period)) error (pos lo) (pos hi) → IsWithinWindow error (pos window) →
    end ≡ (start +ℤ pos wire) → hi + wire + guard_time window ≤ period → IsInBox period window k start end
boxed period window k lo hi wire error start end inside off ends fits = record { low = omega (arith, ints); high = omega (arith, ints) }

-- frames of an earlier cycle are off the wire before those of a later one
pub boxes_apart : (period window j k : ℕ) (s e t f : ℤ) → IsInBox period window j s e → IsInBox period window k t f → j < k → e ≤ℤ t
boxes_apart period window j k s e t f first second before =
    let next : (j + 1) * period ≤ k * period = mul-le-mul_right period (omega arith) in
    omega (arith, ints)

-- two frames of one cycle follow each other as their windows say
pub windows_apart : (window origin lo hi lo2 hi2 wire anchor anchor2 : ℕ) (error : ℕ → ℤ) (s t : ℤ) → IsInWindow s (pos origin) (error anchor) (pos lo) (pos hi) →
    IsInWindow t (pos origin) (error anchor2) (pos lo2) (pos hi2) → IsWithinWindow (error anchor) (pos window) → IsWithinWindow (error anchor2) (pos window) →
    hi + wire + slack_time window anchor anchor2 ≤ lo2 → (s +ℤ pos wire) ≤ℤ t
windows_apart window origin lo hi lo2 hi2 wire anchor anchor2 error s t first second off off2 before =
    elim (slack_cases window anchor anchor2) [
      | inl (same, none) ↦ let one : error anchor ≡ error anchor2 = ap error same in omega (arith, ints)
      | inr guard ↦ omega (arith, ints)
    ]

-- a frame is off the wire when the sender's orange period begins
pub before_orange : (window origin lo hi wire orange device anchor : ℕ) (error : ℕ → ℤ) (s : ℤ) → IsInWindow s (pos origin) (error anchor) (pos lo) (pos hi) →
    IsWithinWindow (error anchor) (pos window) → IsWithinWindow (error device) (pos window) → hi + wire + slack_time window device anchor ≤ orange →
    (s +ℤ pos wire) ≤ℤ (pos (origin + orange) +ℤ error device)
before_orange window origin lo hi wire orange device anchor error s inside off own before =
    elim (slack_cases window device anchor) [
      | inl (same, none) ↦ let one : error device ≡ error anchor = ap error same in omega (arith, ints)
      | inr guard ↦ omega (arith, ints)
    ]
