-- Two lists of the same items, both in one strict order, are one.
use Rattle.std.proofs.Common.{◌≡◌, ℕ, zero, suc, List, [], ◌∷◌, Some, slice_get, sym, ◌∙◌, subst, arith, refl}
use Rattle.std.specs.Prelude.{AllPairs}
use Rattle.std.proofs.lemmas.Option.{same_Some, slice_get_within, get_or_from_slice_get}
use Rattle.fit_rules.proofs.Entries.{no_entry}

abbrev pub IsAt : {X : Type 0} → List X → X → Type 0
IsAt xs x = (n : ℕ) × (slice_get xs n ≡ Some x)

-- a strict order of the items in question
pub record IsStrict {X : Type 0} (In : X → Type 0) (R : X → X → Type 0) : Type 0 where
  pub never : (x : X) → In x → R x x → ⊥
  pub one_way : (x y : X) → In x → In y → R x y → R y x → ⊥

head_before : {X : Type 0} (R : X → X → Type 0) (x z : X) (xs : List X) (n : ℕ) → AllPairs R (x ∷ xs) → slice_get xs n ≡ Some z → R x z
head_before R x z xs n sorted is =
    subst (R x) (get_or_from_slice_get xs n z x is) (sorted 0 (suc n) x (omega arith) (omega (arith, slice_get_within xs n z is)))

tail_sorted : {X : Type 0} (R : X → X → Type 0) (x : X) (xs : List X) → AllPairs R (x ∷ xs) → AllPairs R xs
tail_sorted R x xs sorted = λ i j d less within. sorted (suc i) (suc j) d (omega arith) (omega arith)

same_head : {X : Type 0} (In : X → Type 0) (R : X → X → Type 0) → IsStrict In R → (x y : X) (xs ys : List X) → AllPairs R (x ∷ xs) → AllPairs R (y ∷ ys) → In x → In y →
    (n m : ℕ) → slice_get (y ∷ ys) n ≡ Some x → slice_get (x ∷ xs) m ≡ Some y → x ≡ y
same_head In R strict x y xs ys first second own also zero m there here_is = sym (same_Some y x there)
same_head In R strict x y xs ys first second own also (suc n) zero there here_is = same_Some x y here_is
same_head In R strict x y xs ys first second own also (suc n) (suc m) there here_is =
    absurd (strict.one_way x y own also (head_before R x y xs m first here_is) (head_before R y x ys n second there))

tail_member : {X : Type 0} (In : X → Type 0) (R : X → X → Type 0) → IsStrict In R → (x y z : X) (xs ys : List X) → x ≡ y → In x → AllPairs R (x ∷ xs) →
    (n : ℕ) → slice_get xs n ≡ Some z → (m : ℕ) → slice_get (y ∷ ys) m ≡ Some z → IsAt ys z
tail_member In R strict x y z xs ys same own sorted n is zero at =
    let again : x ≡ z = same ∙ same_Some y z at in
    absurd (strict.never x own (subst (R x) (sym again) (head_before R x z xs n sorted is)))
tail_member In R strict x y z xs ys same own sorted n is (suc m) at = (m, at)

pub one_sorted : {X : Type 0} (In : X → Type 0) (R : X → X → Type 0) → IsStrict In R → (xs ys : List X) → AllPairs R xs → AllPairs R ys →
    ((n : ℕ) (x : X) → slice_get xs n ≡ Some x → In x) → ((n : ℕ) (x : X) → slice_get xs n ≡ Some x → IsAt ys x) →
    ((n : ℕ) (y : X) → slice_get ys n ≡ Some y → IsAt xs y) → xs ≡ ys
one_sorted In R strict [] [] first second within to from = refl
one_sorted In R strict [] (y ∷ ys) first second within to from = let (n, is) = from 0 y refl in no_entry y is
one_sorted In R strict (x ∷ xs) [] first second within to from = let (n, is) = to 0 x refl in no_entry x is
one_sorted In R strict (x ∷ xs) (y ∷ ys) first second within to from =
    let (n, there) = to 0 x refl in
    let (m, back) = from 0 y refl in
    let own = within 0 x refl in
    let also = within m y back in
    let same = same_head In R strict x y xs ys first second own also n m there back in
    let rest = one_sorted In R strict xs ys (tail_sorted R x xs first) (tail_sorted R y ys second) (λ k z is. within (suc k) z is)
    (λ k z is. let (l, at) = to (suc k) z is in tail_member In R strict x y z xs ys same own first k is l at)
    (λ k z is. let (l, at) = from (suc k) z is in tail_member In R strict y x z ys xs (sym same) also second k is l at) in
    λ i. same i ∷ rest i
