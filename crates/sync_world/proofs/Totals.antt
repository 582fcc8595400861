-- Sums over devices, one device more, and how great they are.
use Rattle.std.proofs.Common.{◌≡◌, ℕ, ◌+◌, ◌*◌, ◌<◌, suc, List, [], ◌∷◌, drop, length, get_or, refl, ◌∙◌, ap, ap₂, arith, All}
use Rattle.std.specs.Prelude.{ℤ, pos, ◌+ℤ◌}
use Rattle.std.proofs.Math.Seq.{drop-cons}
use Rattle.std.proofs.lemmas.Int.{ints}
use Rattle.std.proofs.lemmas.List.Elements.{All-head, All-tail}
use Rattle.irt_base.specs.declared.numbers.DevId.{DevId}
use Rattle.plan_rules.specs.World.{IsWithinWindow}
use Rattle.sync_world.specs.Clocks.{total}

pub total_next : (number : DevId → ℤ) (walk : List DevId) (i : ℕ) (d : DevId) (sum x y : ℤ) → i < length walk →
    sum +ℤ total number (drop i walk) ≡ total number walk → x ≡ number (get_or walk i d) → y ≡ sum +ℤ x →
    y +ℤ total number (drop (i + 1) walk) ≡ total number walk
total_next number walk i d sum x y within held here next =
    let split : total number (drop i walk) ≡ number (get_or walk i d) +ℤ total number (drop (suc i) walk) = ap (total number) (drop-cons walk i d within) in
    let same : suc i ≡ i + 1 = omega arith in
    let rest : total number (drop (suc i) walk) ≡ total number (drop (i + 1) walk) = ap (λ (k : ℕ). total number (drop k walk)) same in
    omega (arith, ints, split, here, rest, held, next)

pub within_next : (sum x y : ℤ) (bound i : ℕ) → IsWithinWindow sum (pos (bound * i)) → IsWithinWindow x (pos bound) → y ≡ sum +ℤ x →
    IsWithinWindow y (pos (bound * (i + 1)))
within_next sum x y bound i held here next =
    let more : bound * (i + 1) ≡ bound * i + bound = omega arith in
    record {
      early = omega (arith, ints, held.early, here.early, more, next);
      late = omega (arith, ints, held.late, here.late, more, next);
    }

-- a sum of two numbers, by what each is
pub sum_is : (a b x y z : ℤ) → z ≡ a +ℤ b → a ≡ x → b ≡ y → z ≡ x +ℤ y
sum_is a b x y z is first second = is ∙ ap₂ (λ (m n : ℤ). m +ℤ n) first second

pub total_bound : (number : DevId → ℤ) (bound : ℕ) (walk : List DevId) → All (λ v. IsWithinWindow (number v) (pos bound)) walk →
    IsWithinWindow (total number walk) (pos (bound * length walk))
total_bound number bound [] all = record { early = omega (arith, ints); late = omega (arith, ints) }
total_bound number bound (v ∷ more) all =
    let here = All-head (λ w. IsWithinWindow (number w) (pos bound)) v more all in
    let rest = total_bound number bound more (All-tail (λ w. IsWithinWindow (number w) (pos bound)) v more all) in
    record {
      early = omega (arith, ints, here.early, rest.early);
      late = omega (arith, ints, here.late, rest.late);
    }

pub total_same : (f g : DevId → ℤ) (walk : List DevId) → All (λ v. f v ≡ g v) walk → total f walk ≡ total g walk
total_same f g [] all = refl
total_same f g (v ∷ more) all =
    ap₂ (λ (m n : ℤ). m +ℤ n) (All-head (λ w. f w ≡ g w) v more all) (total_same f g more (All-tail (λ w. f w ≡ g w) v more all))
