-- Lists by place.
use Rattle.std.proofs.Common.{◌≡◌, ℕ, zero, suc, ◌<◌, ◌≢◌, ◌⊎◌, ◌==◌, AllPairs, inl, inr, subst, Bool, true, false, not, cond, List, [], ◌∷◌, ◌++◌, length, get_or, slice_get, position, Some, None, refl, sym, ◌∙◌, ap, arith, nat_lt}
use Rattle.std.specs.List.{AllZip, Contains, position_or_len}
use Rattle.std.proofs.lemmas.Bool.{ltb-false, cases_Bool, eqb-true, eqb-false}
use Rattle.irt_switch.proofs.Members.{here, later, first_or_later}
use Rattle.std.proofs.lemmas.List.Sums.{prefix_len-le-length}
use Rattle.std.proofs.lemmas.Option.{same_Some, slice_get_within, slice_get_read, get_or_from_slice_get}

-- ---- the first place that passes

pub first_place : {A : Type 0} (p : A → Bool) (xs : List A) (n : ℕ) → position p xs ≡ Some n → n ≡ position_or_len p xs
first_place {A} p xs n is = by_test (nat_lt (position_or_len p xs) (length xs)) is
  where
    by_test : (b : Bool) → cond b (Some (position_or_len p xs)) None ≡ Some n → n ≡ position_or_len p xs
    by_test true same = sym (same_Some (position_or_len p xs) n same)
    by_test false same = absurd (cc)

pub no_place : {A : Type 0} (p : A → Bool) (xs : List A) → position p xs ≡ None → length xs ≡ position_or_len p xs
no_place {A} p xs is = by_test (nat_lt (position_or_len p xs) (length xs)) refl is
  where
    by_test : (b : Bool) → nat_lt (position_or_len p xs) (length xs) ≡ b → cond b (Some (position_or_len p xs)) None ≡ None →
        length xs ≡ position_or_len p xs
    by_test true same none = absurd (cc)
    by_test false same none =
        let past = ltb-false (position_or_len p xs) (length xs) same in
        let most = prefix_len-le-length (λ x. not (p x)) xs in omega (arith, past, most)

-- ---- members

pub member : {A : Type 0} (xs : List A) (n : ℕ) (x : A) → slice_get xs n ≡ Some x → Contains xs x
member xs n x is = (n, slice_get_within xs n x is, get_or_from_slice_get xs n x x is)

pub some_at : {A : Type 0} (xs : List A) (n : ℕ) → n < length xs → (x : A) × (slice_get xs n ≡ Some x)
some_at [] n within = absurd (omega arith)
some_at (x ∷ xs) zero within = (x, refl)
some_at (x ∷ xs) (suc n) within = some_at xs n (omega arith)

nothing : {A : Type 0} (x : A) → Contains [] x → ⊥
nothing x (n, below, is) = omega arith

pub by_number : {A : Type 0} (xs : List A) (x : A) → Contains xs x → (n : ℕ) × (slice_get xs n ≡ Some x)
by_number xs x (n, within, is) = (n, slice_get_read xs (length xs) n x refl within (sym is))

pub in_front : {A : Type 0} (xs : List A) (y x : A) → Contains xs x → Contains (xs ++ y ∷ []) x
in_front [] y x is = absurd (nothing x is)
in_front (z ∷ zs) y x is = elim (first_or_later z zs x is) [
  | inl same ↦ subst (λ v. Contains (z ∷ zs ++ y ∷ []) v) same (here z (zs ++ y ∷ []))
  | inr more ↦ later z (zs ++ y ∷ []) x (in_front zs y x more)
]

pub at_end : {A : Type 0} (xs : List A) (y : A) → Contains (xs ++ y ∷ []) y
at_end [] y = here y []
at_end (z ∷ zs) y = later z (zs ++ y ∷ []) y (at_end zs y)

pub front_or_end : {A : Type 0} (xs : List A) (y x : A) → Contains (xs ++ y ∷ []) x → Contains xs x ⊎ (y ≡ x)
front_or_end [] y x is = elim (first_or_later y [] x is) [ inl same ↦ inr same | inr more ↦ absurd (nothing x more) ]
front_or_end (z ∷ zs) y x is = elim (first_or_later z (zs ++ y ∷ []) x is) [
  | inl same ↦ inl (subst (λ v. Contains (z ∷ zs) v) same (here z zs))
  | inr more ↦ elim (front_or_end zs y x more) [ inl front ↦ inl (later z zs x front) | inr end ↦ inr end ]
]

-- ---- numbers in a list

pub in_or_not : (xs : List ℕ) (x : ℕ) → ((n : ℕ) × (slice_get xs n ≡ Some x)) ⊎ ((n : ℕ) → slice_get xs n ≢ Some x)
in_or_not [] x = inr (λ n is. absurd (cc))
in_or_not (y ∷ ys) x = elim (cases_Bool (y == x)) [
  | inl so ↦ inl (0, ap Some (eqb-true y x so))
  | inr not ↦ elim (in_or_not ys x) [
    | inl (n, is) ↦ inl (suc n, is)
    | inr none ↦ inr (λ n is. go n is (eqb-false y x not) none)
  ]
]
  where
    go : (n : ℕ) → slice_get (y ∷ ys) n ≡ Some x → y ≢ x → ((m : ℕ) → slice_get ys m ≢ Some x) → ⊥
    go zero is apart none = apart (same_Some y x is)
    go (suc n) is apart none = none n is

-- each stands once in it
pub one_place : (xs : List ℕ) (n m x : ℕ) → AllPairs (λ (a b : ℕ). a ≢ b) xs → slice_get xs n ≡ Some x → slice_get xs m ≡ Some x → n ≡ m
one_place xs n m x apart first second =
    let read : (i : ℕ) → slice_get xs i ≡ Some x → get_or xs i x ≡ x = λ i is. get_or_from_slice_get xs i x x is in
    let end : (i : ℕ) → slice_get xs i ≡ Some x → i < length xs = λ i is. slice_get_within xs i x is in
    elim (three n m) [
      | inl same ↦ same
      | inr (inl less) ↦ absurd (apart n m x less (end m second) (read n first ∙ sym (read m second)))
      | inr (inr more) ↦ absurd (apart m n x more (end n first) (read m second ∙ sym (read n first)))
    ]
  where
    three : (a b : ℕ) → (a ≡ b) ⊎ (a < b) ⊎ (b < a)
    three a b = grind arith

-- ---- two lists, place by place

pub zip_at : {A B : Type 0} (R : A → B → Type 0) (xs : List A) (ys : List B) (n : ℕ) (y : B) → AllZip R xs ys → slice_get ys n ≡ Some y →
    (x : A) × (slice_get xs n ≡ Some x) × R x y
zip_at R [] [] n y zip is = absurd (cc)
zip_at R [] (z ∷ ys) n y zip is = absurd zip
zip_at R (x ∷ xs) [] n y zip is = absurd zip
zip_at R (x ∷ xs) (z ∷ ys) zero y zip is = (x, refl, subst (R x) (same_Some z y is) zip.0)
zip_at R (x ∷ xs) (z ∷ ys) (suc n) y zip is = zip_at R xs ys n y zip.1 is

pub zip_map : {A B : Type 0} (R S : A → B → Type 0) (xs : List A) (ys : List B) → ((x : A) (y : B) → R x y → S x y) → AllZip R xs ys → AllZip S xs ys
zip_map R S [] [] each zip = zip
zip_map R S [] (z ∷ ys) each zip = absurd zip
zip_map R S (x ∷ xs) [] each zip = absurd zip
zip_map R S (x ∷ xs) (y ∷ ys) each zip = (each x y zip.0, zip_map R S xs ys each zip.1)

-- for members of the first one
pub zip_of : {A B : Type 0} (R S : A → B → Type 0) (xs : List A) (ys : List B) → ((x : A) (y : B) → Contains xs x → R x y → S x y) → AllZip R xs ys → AllZip S xs ys
zip_of R S [] [] each zip = zip
zip_of R S [] (z ∷ ys) each zip = absurd zip
zip_of R S (x ∷ xs) [] each zip = absurd zip
zip_of R S (x ∷ xs) (y ∷ ys) each zip = (each x y (here x xs) zip.0, zip_of R S xs ys (λ a b is. each a b (later x xs a is)) zip.1)
