-- Sums over lists, and over the ports of a plant.
use Rattle.std.proofs.Common.{◌≡◌, ℕ, ◌+◌, Bool, true, false, List, [], ◌∷◌, map, ◌⊎◌, inl, inr, refl, sym, ◌∙◌, ap, arith, All, AllPairs}
use Rattle.std.specs.Prelude.{if◌then◌else◌, ◌==◌, ◌&&◌}
use Rattle.std.specs.List.{Contains, sum_by, flat_map}
use Rattle.std.proofs.lemmas.Bool.{and_from, and_parts, eq-eqb, eqb-true}
use Rattle.std.proofs.lemmas.List.Elements.{All-head, All-tail, All-contains, All-weaker, Contains-append_cases, Contains-push_cases}
use Rattle.std.proofs.lemmas.List.Sums.{sum_by-cons, sum_by-append}
use Rattle.parcel_rules.specs.Steps.{Step}
use Rattle.parcel_rules.proofs.Lists.{AllPairs-head, AllPairs-tail}
use Rattle.parcel_rules.proofs.Ports.{IsOther}

-- ---- members

nothing : {X : Type 0} (x : X) → Contains [] x → ⊥
nothing x (k, below, is) = omega arith

pub Contains-cases : {X : Type 0} (y : X) (xs : List X) (x : X) → Contains (y ∷ xs) x → (y ≡ x) ⊎ Contains xs x
Contains-cases y xs x is = elim (Contains-append_cases (y ∷ []) xs x is) [
  | inl h ↦ inl (elim (Contains-push_cases [] y x h) [ inl none ↦ absurd (nothing x none) | inr same ↦ same ])
  | inr h ↦ inr h
]

-- ---- sums

pub sum_alike : {X : Type 0} (f g : X → ℕ) (xs : List X) → All (λ x. f x ≡ g x) xs → sum_by f xs ≡ sum_by g xs
sum_alike f g [] all = refl
sum_alike f g (x ∷ xs) all =
    let here = All-head (λ y. f y ≡ g y) x xs all in
    let more = sum_alike f g xs (All-tail (λ y. f y ≡ g y) x xs all) in
    omega (arith, sum_by-cons f x xs, sum_by-cons g x xs)

pub sum_both : {X : Type 0} (f g : X → ℕ) (xs : List X) → sum_by (λ x. f x + g x) xs ≡ sum_by f xs + sum_by g xs
sum_both f g [] = refl
sum_both f g (x ∷ xs) =
    let more = sum_both f g xs in
    omega (arith, sum_by-cons f x xs, sum_by-cons g x xs, sum_by-cons (λ y. f y + g y) x xs)

pub sum_none : {X : Type 0} (xs : List X) → sum_by (λ (x : X). 0) xs ≡ 0
sum_none [] = refl
sum_none {X = X} (x ∷ xs) =
    let more = sum_none xs in
    omega (arith, sum_by-cons (λ (y : X). 0) x xs)

pub sum_map : {X A : Type 0} (g : A → ℕ) (f : X → A) (xs : List X) → sum_by g (map f xs) ≡ sum_by (λ x. g (f x)) xs
sum_map g f [] = refl
sum_map g f (x ∷ xs) =
    let more = sum_map g f xs in
    omega (arith, sum_by-cons g (f x) (map f xs), sum_by-cons (λ y. g (f y)) x xs)

pub sum_flat_map : {X A : Type 0} (g : A → ℕ) (f : X → List A) (xs : List X) → sum_by g (flat_map f xs) ≡ sum_by (λ x. sum_by g (f x)) xs
sum_flat_map g f [] = refl
sum_flat_map g f (x ∷ xs) =
    let more = sum_flat_map g f xs in
    omega (arith, sum_by-append g (f x) (flat_map f xs), sum_by-cons (λ y. sum_by g (f y)) x xs)

pub sum_swap : {X Y : Type 0} (g : X → Y → ℕ) (xs : List X) (ys : List Y) →
    sum_by (λ x. sum_by (g x) ys) xs ≡ sum_by (λ y. sum_by (λ x. g x y) xs) ys
sum_swap {X = X} {Y = Y} g [] ys = sym (sum_none ys)
sum_swap {X = X} {Y = Y} g (x ∷ xs) ys =
    let more = sum_swap g xs ys in
    let first : sum_by (λ (y : Y). sum_by (λ (z : X). g z y) (x ∷ xs)) ys ≡ sum_by (λ (y : Y). g x y + sum_by (λ (z : X). g z y) xs) ys =
    (λ i. sum_by (λ (y : Y). sum_by-cons (λ (z : X). g z y) x xs i) ys) in
    omega (arith, first, sum_both (g x) (λ (y : Y). sum_by (λ (z : X). g z y) xs) ys, sum_by-cons (λ z. sum_by (g z) ys) x xs)

-- ---- one port among others

abbrev pub is_same : Step → Step → Bool
is_same at other = (at.0.0 == other.0.0) && (at.1.0 == other.1.0)

pub same_step : (at other : Step) → is_same at other ≡ true → at ≡ other
same_step at other is =
    let (device, port) = and_parts (at.0.0 == other.0.0) (at.1.0 == other.1.0) is in
    let one = eqb-true at.0.0 other.0.0 device in
    let two = eqb-true at.1.0 other.1.0 port in
    (λ i. (record { 0 = one i }, record { 0 = two i }))

pub same_self : (at : Step) → is_same at at ≡ true
same_self at = and_from (at.0.0 == at.0.0) (at.1.0 == at.1.0) (eq-eqb at.0.0 at.0.0 refl) (eq-eqb at.1.0 at.1.0 refl)

pub other_step : (at other : Step) → IsOther at other → (b : Bool) → is_same at other ≡ b → is_same at other ≡ false
other_step at other differ true is =
    let (device, port) = and_parts (at.0.0 == other.0.0) (at.1.0 == other.1.0) is in
    absurd (differ (eqb-true at.0.0 other.0.0 device) (eqb-true at.1.0 other.1.0 port))
other_step at other differ false is = is

other_back : (at other : Step) → IsOther at other → IsOther other at
other_back at other differ = λ device port. differ (sym device) (sym port)

-- two functions of a port that differ at one port alone
pub sum_changed : (f g : Step → ℕ) (at : Step) → ((x : Step) → IsOther x at → f x ≡ g x) → (xs : List Step) → AllPairs IsOther xs → Contains xs at →
    sum_by f xs + g at ≡ sum_by g xs + f at
sum_changed f g at alike [] others is = absurd (nothing at is)
sum_changed f g at alike (x ∷ xs) others is =
    let head = AllPairs-head IsOther x xs others in
    elim (Contains-cases x xs at is) [
      | inl same ↦
          let rest = sum_alike f g xs (All-weaker (IsOther x) (λ y. f y ≡ g y)
          (λ y differ. alike y (λ device port. differ (ap (λ (s : Step). s.0.0) same ∙ sym device) (ap (λ (s : Step). s.1.0) same ∙ sym port))) xs head) in
          let one = ap f same in
          let two = ap g same in
          omega (arith, sum_by-cons f x xs, sum_by-cons g x xs)
      | inr later ↦
          let rest = sum_changed f g at alike xs (AllPairs-tail IsOther x xs others) later in
          let here = alike x (All-contains (IsOther x) xs at head later) in
          omega (arith, sum_by-cons f x xs, sum_by-cons g x xs)
    ]

-- what one port alone gives
pub sum_single : (g : Step → ℕ) (at : Step) (xs : List Step) → AllPairs IsOther xs → Contains xs at →
    sum_by (λ x. if is_same x at then g x else 0) xs ≡ g at
sum_single g at xs others is =
    let One : Step → ℕ = λ x. if is_same x at then g x else 0 in
    let here : One at ≡ g at = ap (λ (b : Bool). if b then g at else 0) (same_self at) in
    let whole = sum_changed One (λ (x : Step). 0) at (λ x differ. ap (λ (b : Bool). if b then g x else 0) (other_step x at differ (is_same x at) refl)) xs others is in
    omega (arith, sum_none xs)
