-- Putting the starts by some ports into a queue.
use Rattle.std.proofs.Common.{cond, length-append, ◌≡◌, ℕ, ◌+◌, ◌≤◌, ◌<◌, Bool, List, [], ◌∷◌, ◌++◌, length, get_or, take, map, sym, ◌∙◌, ap, subst, arith, append_assoc, IsPermutation}
use Rattle.std.specs.List.{filter}
use Rattle.std.proofs.lemmas.List.{map-append}
use Rattle.std.proofs.lemmas.List.Elements.{filter-append}
use Rattle.std.proofs.lemmas.List.Sums.{length-filter, sum_by-take-le}
use Rattle.std.proofs.lemmas.List.Sorted.{IsPermutation-trans, IsPermutation-append_left, IsPermutation-append_right, IsPermutation-append_comm}
use Rattle.std.proofs.lemmas.Grind.{common_steps}

pub one_more : {X : Type 0} (xs : List X) (i : ℕ) (x d : X) → i < length xs → x ≡ get_or xs i d → take (i + 1) xs ≡ take i xs ++ x ∷ []
one_more xs i x d below is = grind (arith, common_steps)

pub put_more : {X Y : Type 0} (f : X → Y) (p : X → Bool) (xs : List X) (i : ℕ) (x d : X) (old mid new : List Y) → i < length xs → x ≡ get_or xs i d →
    IsPermutation (map f (filter p (take i xs)) ++ old) mid → IsPermutation (map f (filter p (x ∷ [])) ++ mid) new → IsPermutation (map f (filter p (take (i + 1) xs)) ++ old) new
put_more {X} {Y} f p xs i x d old mid new below is before put =
    let A : List Y = map f (filter p (take i xs)) in
    let B : List Y = map f (filter p (x ∷ [])) in
    let shape : map f (filter p (take (i + 1) xs)) ≡ A ++ B = ap (λ ys. map f (filter p ys)) (one_more xs i x d below is) ∙ (ap (map f) (filter-append p (take i xs) (x ∷ [])) ∙ map-append f (filter p (take i xs)) (filter p (x ∷ []))) in
    let one : IsPermutation ((A ++ B) ++ old) ((B ++ A) ++ old) = IsPermutation-append_left old (A ++ B) (B ++ A) (IsPermutation-append_comm A B) in
    let two : IsPermutation (B ++ (A ++ old)) (B ++ mid) = IsPermutation-append_right B (A ++ old) mid before in
    let three : IsPermutation ((B ++ A) ++ old) (B ++ mid) = subst (λ ys. IsPermutation ys (B ++ mid)) (sym (append_assoc B A old)) two in
    subst (λ ys. IsPermutation (ys ++ old) new) (sym shape) (IsPermutation-trans _ _ _ one (IsPermutation-trans _ _ _ three put))

pub filter_step : {X : Type 0} (p : X → Bool) (xs : List X) (i : ℕ) (x d : X) → i < length xs → x ≡ get_or xs i d →
    length (filter p (take (i + 1) xs)) ≡ length (filter p (take i xs)) + length (filter p (x ∷ []))
filter_step p xs i x d below is =
    ap (λ ys. length (filter p ys)) (one_more xs i x d below is) ∙ (ap length (filter-append p (take i xs) (x ∷ [])) ∙ length-append (filter p (take i xs)) (filter p (x ∷ [])))

pub filter_fits : {X : Type 0} (p : X → Bool) (xs : List X) (i : ℕ) → length (filter p (take i xs)) ≤ length (filter p xs)
filter_fits p xs i =
    let a = length-filter p (take i xs) in
    let b = length-filter p xs in
    let c = sum_by-take-le (λ x. cond (p x) 1 0) xs i in
    omega arith
