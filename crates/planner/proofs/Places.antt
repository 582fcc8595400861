-- Items of lists by their places, and of lists in another order.
use Rattle.std.proofs.Common.{◌≡◌, ◌≢◌, ℕ, zero, suc, ◌+◌, ◌<◌, ◌==◌, inl, inr, List, [], ◌∷◌, Some, AllPairs, length, get_or, map, sym, ◌∙◌, ap, subst, subst₂, arith, refl}
use Rattle.std.specs.Prelude.{Contains, slice_get}
use Rattle.std.specs.List.Sorted.{IsPermutation}
use Rattle.std.proofs.lemmas.Bool.{cases_Bool, cases_lt, eqb-true, eqb-false, eq-eqb, ne_eqb}
use Rattle.std.proofs.lemmas.Bool.Decides.{Decides-eqb}
use Rattle.std.proofs.lemmas.List.{get_or-map, length-map}
use Rattle.std.proofs.lemmas.List.Sorted.{IsPermutation-map}
use Rattle.std.proofs.lemmas.Map.Keys.{IsDistinct-IsPermutation}
use Rattle.std.proofs.lemmas.Map.Made.{AllPairs-from_IsDistinct, IsDistinct-from_AllPairs}
use Rattle.std.proofs.lemmas.Option.{same_Some}
use Rattle.planner.proofs.Entries.{no_item, contains_at, place_of}

pub item_at : {X : Type 0} (xs : List X) (n : ℕ) → n < length xs → (x : X) × (slice_get xs n ≡ Some x)
item_at [] n less = absurd (omega arith)
item_at (x ∷ xs) zero less = (x, refl)
item_at (x ∷ xs) (suc n) less = item_at xs n (omega arith)

pub map_at : {X Y : Type 0} (f : X → Y) (xs : List X) (n : ℕ) (x : X) → slice_get xs n ≡ Some x → slice_get (map f xs) n ≡ Some (f x)
map_at f [] n x is = no_item x is
map_at {X} {Y} f (y ∷ ys) zero x is = ap (λ (z : Y). Some z) (ap f (same_Some y x is))
map_at f (y ∷ ys) (suc n) x is = map_at f ys n x is

pub contains_map : {X Y : Type 0} (f : X → Y) (xs : List X) (x : X) → Contains xs x → Contains (map f xs) (f x)
contains_map f xs x has = let (n, at) = place_of xs x has in contains_at (map f xs) n (f x) (map_at f xs n x at)

pub pairs_map : {X Y : Type 0} (f : X → Y) (R : Y → Y → Type 0) (xs : List X) → AllPairs (λ (a b : X). R (f a) (f b)) xs → AllPairs R (map f xs)
pairs_map f R xs all i j d less inside =
    let long = length-map xs f in
    let (x, at) = item_at xs j (omega (arith, inside, long)) in
    subst₂ R (sym (get_or-map f xs i x d (omega (arith, less, inside, long)))) (sym (get_or-map f xs j x d (omega (arith, inside, long))))
    (all i j x less (omega (arith, inside, long)))

-- where each step of a list is so, all pairs are
pub pairs_of_steps : {X : Type 0} (R : X → X → Type 0) → ((a b c : X) → R a b → R b c → R a c) → (xs : List X) →
    ((k : ℕ) (d : X) → k + 1 < length xs → R (get_or xs k d) (get_or xs (k + 1) d)) → AllPairs R xs
pairs_of_steps R follows xs step i zero d before below = absurd (omega arith)
pairs_of_steps {X} R follows xs step i (suc j) d before below =
    let At : ℕ → Type 0 = λ n. R (get_or xs i d) (get_or xs n d) in
    let last : R (get_or xs j d) (get_or xs (suc j) d) =
    let To : ℕ → Type 0 = λ n. R (get_or xs j d) (get_or xs n d) in subst To (omega arith) (step j d (omega arith)) in
    elim (cases_lt i j) [
      | inl less ↦ follows (get_or xs i d) (get_or xs j d) (get_or xs (suc j) d) (pairs_of_steps R follows xs step i j d less (omega arith)) last
      | inr same ↦
          let From : ℕ → Type 0 = λ n. R (get_or xs n d) (get_or xs (suc j) d) in
          let is : j ≡ i = omega arith in subst From is last
    ]

test_flips : (a b : ℕ) → (a == b) ≡ (b == a)
test_flips a b = elim (cases_Bool (a == b)) [
  | inl is ↦ is ∙ sym (eq-eqb b a (sym (eqb-true a b is)))
  | inr not ↦ not ∙ sym (ne_eqb b a (λ e. eqb-false a b not (sym e)))
]

-- items that differ by a number do so in any order
pub still_differ : {X : Type 0} (number : X → ℕ) (xs ys : List X) → IsPermutation xs ys → AllPairs (λ (a b : X). number a ≢ number b) xs →
    AllPairs (λ (a b : ℕ). a ≢ b) (map number ys)
still_differ number xs ys same apart =
    AllPairs-from_IsDistinct Decides-eqb (map number ys)
    (IsDistinct-IsPermutation (λ (a b : ℕ). a == b) test_flips (map number xs) (map number ys) (IsPermutation-map number xs ys same)
    (IsDistinct-from_AllPairs Decides-eqb (map number xs) (pairs_map number (λ (a b : ℕ). a ≢ b) xs apart)))

pub numbers_differ : {X : Type 0} (number : X → ℕ) (xs : List X) → AllPairs (λ (a b : ℕ). a ≢ b) (map number xs) → AllPairs (λ (a b : X). number a ≢ number b) xs
numbers_differ number xs apart i j d less inside same =
    let long = length-map xs number in
    apart i j 0 less (omega (arith, inside, long))
    (get_or-map number xs i d 0 (omega (arith, less, inside)) ∙ same ∙ sym (get_or-map number xs j d 0 inside))
