-- The devices of a walk, one after the other, and their number.
use Rattle.std.proofs.Common.{◌≡◌, ℕ, zero, suc, ◌-◌, ◌<◌, ◌≤◌, List, [], ◌∷◌, ◌++◌, length, refl, sym, ◌∙◌, ap, ap₂, append_assoc, append-nil, arith}
use Rattle.irt_base.specs.declared.numbers.DevId.{DevId}
use Rattle.irt_route.specs.Clocks.{ClockTable, clock_parent}
use Rattle.sync_world.specs.Domain.{device_of, walk_up}

pub walk_step : (tree : ClockTable) (walk new whole : List DevId) (left : ℕ) (at before : DevId) → 0 < left → new ≡ walk ++ at ∷ [] →
    before ≡ device_of (clock_parent tree at.0) → walk ++ walk_up tree left at ≡ whole → new ++ walk_up tree (left - 1) before ≡ whole
walk_step tree walk new whole zero at before some pushed is held = absurd (omega arith)
walk_step tree walk new whole (suc n) at before some pushed is held =
    let fewer : suc n - 1 ≡ n = omega arith in
    ap₂ (λ (w : List DevId) (d : DevId). w ++ walk_up tree (suc n - 1) d) pushed is
    ∙ ap (λ (k : ℕ). (walk ++ at ∷ []) ++ walk_up tree k (device_of (clock_parent tree at.0))) fewer
    ∙ append_assoc walk (at ∷ []) (walk_up tree n (device_of (clock_parent tree at.0)))
    ∙ held

pub walk_end : (tree : ClockTable) (walk whole : List DevId) (left : ℕ) (at : DevId) → left ≤ 0 → walk ++ walk_up tree left at ≡ whole → walk ≡ whole
walk_end tree walk whole zero at none held = sym (append-nil walk) ∙ held
walk_end tree walk whole (suc n) at none held = absurd (omega arith)

pub length-walk_up : (tree : ClockTable) (links : ℕ) (device : DevId) → length (walk_up tree links device) ≡ links
length-walk_up tree zero device = refl
length-walk_up tree (suc n) device =
    let rest = length-walk_up tree n (device_of (clock_parent tree device.0)) in
    omega (arith, rest)
