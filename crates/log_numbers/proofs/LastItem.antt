-- The item at the last place of a list is its last one.
use Rattle.std.specs.Prelude.{None, Some, slice_get}
use Rattle.std.specs.List.{last_or}
use Rattle.std.proofs.Common.{◌≡◌, ℕ, ◌-◌, List, [], ◌∷◌, length, refl, ap, ◌∙◌, arith}

last_behind : {A : Type 0} (x : A) (xs : List A) → slice_get (x ∷ xs) (length xs) ≡ last_or (Some x) xs
last_behind x [] = refl
last_behind x (y ∷ xs) = last_behind y xs

pub last_got : {A : Type 0} (xs : List A) → slice_get xs (length xs - 1) ≡ last_or None xs
last_got [] = refl
last_got (x ∷ xs) =
    let e : length (x ∷ xs) - 1 ≡ length xs = omega arith in
    ap (λ (n : ℕ). slice_get (x ∷ xs) n) e ∙ last_behind x xs
