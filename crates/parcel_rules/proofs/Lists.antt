-- Lists that are joined or mapped: what holds of each item, and of each two.
use Rattle.std.proofs.Common.{◌≡◌, ℕ, zero, suc, ◌+◌, ◌<◌, ◌≤◌, List, [], ◌∷◌, ◌++◌, map, Some, subst, arith, slice_get, get_or, All, AllPairs}
use Rattle.std.specs.List.{AllByRecursion, flat_map, range_with_len, enumerate_from}
use Rattle.std.proofs.lemmas.List.Elements.{All-nil, All-cons, All-head, All-tail, All-append, All-map, All-weaker}
use Rattle.std.proofs.lemmas.List.Kept.{AllPairs-cons}
use Rattle.std.proofs.lemmas.Option.{same_Some}

pub each_at : {A : Type 0} (P : A → Type 0) (xs : List A) (k : ℕ) (x : A) → AllByRecursion P xs → slice_get xs k ≡ Some x → P x
each_at P [] k x all is = absurd (cc)
each_at P (y ∷ ys) zero x all is = subst P (same_Some y x is) all.0
each_at P (y ∷ ys) (suc k) x all is = each_at P ys k x all.1 is

-- ---- each item

-- what holds of all
pub everywhere : {X : Type 0} (P : X → Type 0) (xs : List X) → ((x : X) → P x) → All P xs
everywhere P xs each = λ k d below. each (get_or xs k d)

pub All-flat_map : {X A : Type 0} (P : A → Type 0) (Q : X → Type 0) (f : X → List A) (xs : List X) → All Q xs → ((x : X) → Q x → All P (f x)) → All P (flat_map f xs)
All-flat_map P Q f [] all each = All-nil P
All-flat_map P Q f (x ∷ xs) all each =
    All-append P (f x) (flat_map f xs) (each x (All-head Q x xs all)) (All-flat_map P Q f xs (All-tail Q x xs all) each)

-- the numbers from one on
pub range_from : (a n : ℕ) → All (λ k. a ≤ k) (range_with_len a n)
range_from a zero = All-nil (λ k. a ≤ k)
range_from a (suc n) = All-cons (λ k. a ≤ k) a (range_with_len (a + 1) n) (omega arith)
    (All-weaker (λ k. a + 1 ≤ k) (λ k. a ≤ k) (λ k more. omega arith) (range_with_len (a + 1) n) (range_from (a + 1) n))

pub enumerated_from : {X : Type 0} (n : ℕ) (xs : List X) → All (λ (e : ℕ × X). n ≤ e.0) (enumerate_from n xs)
enumerated_from {X = X} n [] = All-nil (λ (e : ℕ × X). n ≤ e.0)
enumerated_from {X = X} n (x ∷ xs) = All-cons (λ (e : ℕ × X). n ≤ e.0) (n, x) (enumerate_from (n + 1) xs) (omega arith)
    (All-weaker (λ (e : ℕ × X). n + 1 ≤ e.0) (λ (e : ℕ × X). n ≤ e.0) (λ e more. omega arith) (enumerate_from (n + 1) xs) (enumerated_from (n + 1) xs))

-- ---- each two

pub AllPairs-nil : {X : Type 0} (R : X → X → Type 0) → AllPairs R []
AllPairs-nil R = λ i j d before below. absurd (omega arith)

pub AllPairs-head : {X : Type 0} (R : X → X → Type 0) (x : X) (xs : List X) → AllPairs R (x ∷ xs) → All (R x) xs
AllPairs-head R x xs pairs = λ k d below. pairs 0 (suc k) d (omega arith) (omega arith)

pub AllPairs-tail : {X : Type 0} (R : X → X → Type 0) (x : X) (xs : List X) → AllPairs R (x ∷ xs) → AllPairs R xs
AllPairs-tail R x xs pairs = λ i j d before below. pairs (suc i) (suc j) d (omega arith) (omega arith)

-- each item of the first list with each of the second
abbrev pub Across : {X : Type 0} → (X → X → Type 0) → List X → List X → Type 0
Across R xs ys = All (λ x. All (R x) ys) xs

pub AllPairs-append : {X : Type 0} (R : X → X → Type 0) (xs ys : List X) → AllPairs R xs → AllPairs R ys → Across R xs ys → AllPairs R (xs ++ ys)
AllPairs-append R [] ys one two cross = two
AllPairs-append R (x ∷ xs) ys one two cross =
    AllPairs-cons R x (xs ++ ys)
    (All-append (R x) xs ys (AllPairs-head R x xs one) (All-head (λ y. All (R y) ys) x xs cross))
    (AllPairs-append R xs ys (AllPairs-tail R x xs one) two (All-tail (λ y. All (R y) ys) x xs cross))

pub AllPairs-map : {X A : Type 0} (R : A → A → Type 0) (f : X → A) (xs : List X) → AllPairs (λ x y. R (f x) (f y)) xs → AllPairs R (map f xs)
AllPairs-map R f [] pairs = AllPairs-nil R
AllPairs-map R f (x ∷ xs) pairs =
    AllPairs-cons R (f x) (map f xs) (All-map (R (f x)) f xs (AllPairs-head (λ y z. R (f y) (f z)) x xs pairs))
    (AllPairs-map R f xs (AllPairs-tail (λ y z. R (f y) (f z)) x xs pairs))

pub AllPairs-weaker : {X : Type 0} (R S : X → X → Type 0) (xs : List X) → ((x y : X) → R x y → S x y) → AllPairs R xs → AllPairs S xs
AllPairs-weaker R S xs follows pairs = λ i j d before below. follows _ _ (pairs i j d before below)

across_all : {X A : Type 0} (R : A → A → Type 0) (S : X → X → Type 0) (f : X → List A) (x : X) (xs : List X) → All (S x) xs →
    ((x y : X) → S x y → Across R (f x) (f y)) → Across R (f x) (flat_map f xs)
across_all R S f x [] others each = λ k d below. All-nil (R _)
across_all R S f x (y ∷ ys) others each =
    let here = each x y (All-head (S x) y ys others) in
    let more = across_all R S f x ys (All-tail (S x) y ys others) each in
    λ k d below. All-append (R _) (f y) (flat_map f ys) (here k d below) (more k d below)

pub AllPairs-flat_map : {X A : Type 0} (R : A → A → Type 0) (S : X → X → Type 0) (f : X → List A) (xs : List X) → AllPairs S xs →
    ((x : X) → AllPairs R (f x)) → ((x y : X) → S x y → Across R (f x) (f y)) → AllPairs R (flat_map f xs)
AllPairs-flat_map R S f [] others inner outer = AllPairs-nil R
AllPairs-flat_map R S f (x ∷ xs) others inner outer =
    AllPairs-append R (f x) (flat_map f xs) (inner x) (AllPairs-flat_map R S f xs (AllPairs-tail S x xs others) inner outer)
    (across_all R S f x xs (AllPairs-head S x xs others) outer)

pub range_rises : (a n : ℕ) → AllPairs (λ j k. j < k) (range_with_len a n)
range_rises a zero = AllPairs-nil (λ j k. j < k)
range_rises a (suc n) = AllPairs-cons (λ j k. j < k) a (range_with_len (a + 1) n)
    (All-weaker (λ k. a + 1 ≤ k) (λ k. a < k) (λ k more. omega arith) (range_with_len (a + 1) n) (range_from (a + 1) n)) (range_rises (a + 1) n)

pub enumerated_rise : {X : Type 0} (n : ℕ) (xs : List X) → AllPairs (λ (d e : ℕ × X). d.0 < e.0) (enumerate_from n xs)
enumerated_rise {X = X} n [] = AllPairs-nil (λ (d e : ℕ × X). d.0 < e.0)
enumerated_rise {X = X} n (x ∷ xs) = AllPairs-cons (λ (d e : ℕ × X). d.0 < e.0) (n, x) (enumerate_from (n + 1) xs)
    (All-weaker (λ (e : ℕ × X). n + 1 ≤ e.0) (λ (e : ℕ × X). n < e.0) (λ e more. omega arith) (enumerate_from (n + 1) xs) (enumerated_from (n + 1) xs))
    (enumerated_rise (n + 1) xs)
