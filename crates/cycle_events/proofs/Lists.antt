-- Lists: what filters and maps have, and counts.
use Rattle.std.proofs.Common.{◌≡◌, ℕ, ◌≤◌, Bool, true, false, cond, List, [], ◌∷◌, map, filter, ◌⊎◌, inl, inr, refl, sym, ◌∙◌, ap, subst, arith}
use Rattle.std.specs.List.{Contains, count_by}
use Rattle.std.proofs.lemmas.List.Sums.{sum_by-cons}
use Rattle.cycle_rows.proofs.Lists.{nothing, Contains-here, Contains-later, Contains-cases}

filter_cases : {X : Type 0} (p : X → Bool) (y : X) (ys : List X) (x : X) (b : Bool) → p y ≡ b → (Contains (filter p ys) x → (p x ≡ true) × Contains ys x) →
    Contains (cond b (y ∷ filter p ys) (filter p ys)) x → (p x ≡ true) × Contains (y ∷ ys) x
filter_cases p y ys x true e more is = elim (Contains-cases y (filter p ys) x is) [
  | inl same ↦ (sym (ap p same) ∙ e, subst (λ z. Contains (y ∷ ys) z) same (Contains-here y ys))
  | inr later ↦ let (h, among) = more later in (h, Contains-later y ys x among)
]
filter_cases p y ys x false e more is = let (h, among) = more is in (h, Contains-later y ys x among)

filter_more_has : {X : Type 0} (p : X → Bool) (y : X) (ys : List X) (x : X) (b : Bool) → Contains (filter p ys) x → Contains (cond b (y ∷ filter p ys) (filter p ys)) x
filter_more_has p y ys x true is = Contains-later y (filter p ys) x is
filter_more_has p y ys x false is = is

pub filter_passed : {X : Type 0} (p : X → Bool) (xs : List X) (x : X) → Contains (filter p xs) x → (p x ≡ true) × Contains xs x
filter_passed p [] x is = absurd (nothing x is)
filter_passed p (y ∷ ys) x is = filter_cases p y ys x (p y) refl (filter_passed p ys x) is

pub filter_has : {X : Type 0} (p : X → Bool) (xs : List X) (x : X) → p x ≡ true → Contains xs x → Contains (filter p xs) x
filter_has p [] x h is = absurd (nothing x is)
filter_has p (y ∷ ys) x h is = elim (Contains-cases y ys x is) [
  | inl same ↦ rw (ap p same ∙ h) (subst (λ z. Contains (y ∷ filter p ys) z) same (Contains-here y (filter p ys)))
  | inr later ↦ filter_more_has p y ys x (p y) (filter_has p ys x h later)
]

pub map_has : {X Y : Type 0} (f : X → Y) (xs : List X) (x : X) → Contains xs x → Contains (map f xs) (f x)
map_has f [] x is = absurd (nothing x is)
map_has f (y ∷ ys) x is = elim (Contains-cases y ys x is) [
  | inl same ↦ subst (λ z. Contains (f y ∷ map f ys) (f z)) same (Contains-here (f y) (map f ys))
  | inr later ↦ Contains-later (f y) (map f ys) (f x) (map_has f ys x later)
]

pub only_one : {X : Type 0} (x y : X) → Contains (x ∷ []) y → x ≡ y
only_one x y is = elim (Contains-cases x [] y is) [ inl same ↦ same | inr none ↦ absurd (nothing y none) ]

-- ---- counts

pub count_filter : {X : Type 0} (p q : X → Bool) (xs : List X) → count_by p (filter q xs) ≤ count_by p xs
count_filter p q [] = omega arith
count_filter p q (x ∷ xs) = go (q x) (count_filter p q xs)
  where
    go : (b : Bool) → count_by p (filter q xs) ≤ count_by p xs → count_by p (cond b (x ∷ filter q xs) (filter q xs)) ≤ count_by p (x ∷ xs)
    go true h = let l = sum_by-cons (λ y. cond (p y) 1 0) x (filter q xs) in let r = sum_by-cons (λ y. cond (p y) 1 0) x xs in omega arith
    go false h = let r = sum_by-cons (λ y. cond (p y) 1 0) x xs in omega arith

pub count_map : {X Y : Type 0} (p : Y → Bool) (f : X → Y) (xs : List X) → count_by p (map f xs) ≡ count_by (λ x. p (f x)) xs
count_map p f [] = refl
count_map p f (x ∷ xs) =
    let l = sum_by-cons (λ y. cond (p y) 1 0) (f x) (map f xs) in
    let r = sum_by-cons (λ y. cond (p (f y)) 1 0) x xs in
    let more = count_map p f xs in
    omega arith

pub count_same : {X : Type 0} (p q : X → Bool) (xs : List X) → ((x : X) → p x ≡ q x) → count_by p xs ≡ count_by q xs
count_same p q [] h = refl
count_same p q (x ∷ xs) h =
    let here : cond {A = ℕ} (p x) 1 0 ≡ cond (q x) 1 0 = ap (λ b. cond {A = ℕ} b 1 0) (h x) in
    let l = sum_by-cons (λ y. cond (p y) 1 0) x xs in
    let r = sum_by-cons (λ y. cond (q y) 1 0) x xs in
    let more = count_same p q xs h in
    omega arith

-- what a list has is counted
pub count_some : {X : Type 0} (p : X → Bool) (xs : List X) (x : X) → Contains xs x → p x ≡ true → 1 ≤ count_by p xs
count_some p [] x is h = absurd (nothing x is)
count_some p (y ∷ ys) x is h =
    let whole = sum_by-cons (λ z. cond (p z) 1 0) y ys in
    elim (Contains-cases y ys x is) [
      | inl same ↦ let here : cond {A = ℕ} (p y) 1 0 ≡ 1 = ap (λ b. cond {A = ℕ} b 1 0) (ap p same ∙ h) in omega arith
      | inr later ↦ let more = count_some p ys x later h in omega arith
    ]

counted_more : {X : Type 0} (p : X → Bool) (x : X) (xs : List X) (b : Bool) → p x ≡ b → (count_by p xs ≡ 0) ⊎ ((y : X) × Contains xs y × (p y ≡ true)) →
    (count_by p (x ∷ xs) ≡ 0) ⊎ ((y : X) × Contains (x ∷ xs) y × (p y ≡ true))
counted_more p x xs true e more = inr (x, Contains-here x xs, e)
counted_more p x xs false e (inl none) =
    let here : cond {A = ℕ} (p x) 1 0 ≡ 0 = ap (λ b. cond {A = ℕ} b 1 0) e in
    let whole = sum_by-cons (λ z. cond (p z) 1 0) x xs in
    inl (omega arith)
counted_more p x xs false e (inr some) = inr (some.0, Contains-later x xs some.0 some.1, some.2)

pub counted_or_none : {X : Type 0} (p : X → Bool) (xs : List X) → (count_by p xs ≡ 0) ⊎ ((x : X) × Contains xs x × (p x ≡ true))
counted_or_none p [] = inl refl
counted_or_none p (x ∷ xs) = counted_more p x xs (p x) refl (counted_or_none p xs)
