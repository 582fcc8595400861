-- When two frames share a cycle.
use Rattle.std.proofs.Common.{◌≡◌, ◌<◌, ◌≤◌, ◌⊎◌, inl, inr, ℕ, ◌+◌, ◌-◌, ◌%◌, sym, ◌∙◌, ap, arith, min}
use Rattle.std.proofs.Math.Nat.{min-eq_left, min-eq_right, mod-mod_of_dvd, mod-eq_of_lt, mod-mod, dvd_iff_mod-eq-zero}
use Rattle.irt_base.specs.Cycle.{IsDue, SharesCycle}
use Rattle.irt_base.specs.Valid.{IsRate, IsRatio}
use Rattle.irt_base.specs.declared.limits.TheConstants.{PHASES}

-- a lesser ratio divides a greater one
pub ratio_mod : (r s : ℕ) → IsRatio r → IsRatio s → r ≤ s → s % r ≡ 0
ratio_mod r s p q below = grind arith

-- a ratio divides the number of phases
whole_ratio : (r : ℕ) → IsRatio r → PHASES % r ≡ 0
whole_ratio r is = grind arith

-- a frame that is due in a cycle is due in the one of the first sixteen with its phase
pub due_in_phase : (k r p : ℕ) → IsRate r p → IsDue k r p → IsDue (k % PHASES) r p
due_in_phase k r p rate due = ap (λ n. n + 1) (mod-mod_of_dvd r k ((dvd_iff_mod-eq-zero r).1 (whole_ratio r rate.0))) ∙ due

-- two frames that share a cycle share one of the first sixteen
pub shares_phase : (r p s q : ℕ) → IsRate r p → IsRate s q → SharesCycle r p s q → (k : ℕ) × (k < PHASES) × IsDue k r p × IsDue k s q
shares_phase r p s q rate other (k, due, also) = (k % PHASES, omega arith, due_in_phase k r p rate due, due_in_phase k s q other also)

pub mod_of_due : (k r p : ℕ) → IsDue k r p → p - 1 ≡ k % r
mod_of_due k r p is = omega arith

-- the greater ratio's frame decides
pub shares_forward : (r s p q : ℕ) → IsRate r p → IsRate s q → r ≤ s → (p - 1) % r ≡ (q - 1) % r → SharesCycle r p s q
shares_forward r s p q rate other below is =
    let first : p - 1 < r = omega arith in
    let second : q - 1 < s = omega arith in
    let lesser : (p - 1) % r ≡ p - 1 = mod-eq_of_lt first in
    let greater : (q - 1) % s ≡ q - 1 = mod-eq_of_lt second in
    (q - 1, omega arith, omega arith)

pub shares_back : (r s p q : ℕ) → IsRate r p → IsRate s q → r ≤ s → SharesCycle r p s q → (p - 1) % r ≡ (q - 1) % r
shares_back r s p q rate other below shared =
    let k = shared.0 in
    ap (λ n. n % r) (mod_of_due k r p shared.1) ∙ mod-mod k r
    ∙ sym (mod-mod_of_dvd r k ((dvd_iff_mod-eq-zero r).1 (ratio_mod r s rate.0 other.0 below)))
    ∙ sym (ap (λ n. n % r) (mod_of_due k s q shared.2))

-- what the test of the code says, by which ratio is the lesser
pub shares_test : (r s p q least : ℕ) → IsRate r p → IsRate s q → (r ≤ s) ⊎ (s ≤ r) → least ≡ min r s →
    ((p - 1) % least ≡ (q - 1) % least → SharesCycle r p s q) × (SharesCycle r p s q → (p - 1) % least ≡ (q - 1) % least)
shares_test r s p q least rate other (inl below) is =
    let e : least ≡ r = is ∙ min-eq_left below in
    let same = ap (λ n. (p - 1) % n) e in
    let again = ap (λ n. (q - 1) % n) e in
    (λ h. shares_forward r s p q rate other below (sym same ∙ h ∙ again), λ h. same ∙ shares_back r s p q rate other below h ∙ sym again)
shares_test r s p q least rate other (inr below) is =
    let e : least ≡ s = is ∙ min-eq_right below in
    let same = ap (λ n. (p - 1) % n) e in
    let again = ap (λ n. (q - 1) % n) e in (
      λ h. let w = shares_forward s r q p other rate below (sym again ∙ sym h ∙ same) in (w.0, w.2, w.1),
      λ h. same ∙ sym (shares_back s r q p other rate below (h.0, h.2, h.1)) ∙ sym again,
    )

pub order_of : (r s : ℕ) → (r ≤ s) ⊎ (s ≤ r)
order_of r s = grind arith
