-- A rising list of numbers, each in another list, is no longer than that.
use Rattle.std.proofs.Common.{◌≡◌, ◌≢◌, ℕ, zero, suc, ◌+◌, ◌<◌, ◌≤◌, List, [], ◌∷◌, Some, length, slice_get, sym, ◌∙◌, subst, arith, refl}
use Rattle.std.specs.Prelude.{AllPairs}
use Rattle.std.proofs.lemmas.Option.{same_Some, slice_get_within, get_or_from_slice_get}
use Rattle.fit_rules.proofs.Entries.{no_entry}

abbrev pub IsAt : List ℕ → ℕ → Type 0
IsAt xs x = (n : ℕ) × (slice_get xs n ≡ Some x)

abbrev pub without : List ℕ → ℕ → List ℕ
without [] n = []
without (x ∷ xs) zero = xs
without (x ∷ xs) (suc n) = x ∷ without xs n

pub length-without : (xs : List ℕ) (n x : ℕ) → slice_get xs n ≡ Some x → length (without xs n) + 1 ≡ length xs
length-without [] n x at = no_entry x at
length-without (y ∷ ys) zero x at = omega arith
length-without (y ∷ ys) (suc n) x at = omega (arith, length-without ys n x at)

pub kept_without : (xs : List ℕ) (m n z x : ℕ) → slice_get xs m ≡ Some z → slice_get xs n ≡ Some x → z ≢ x → IsAt (without xs n) z
kept_without [] m n z x there at differ = no_entry z there
kept_without (y ∷ ys) zero zero z x there at differ = absurd (differ (same_Some z x (sym there ∙ at)))
kept_without (y ∷ ys) (suc m) zero z x there at differ = (m, there)
kept_without (y ∷ ys) zero (suc n) z x there at differ = (zero, there)
kept_without (y ∷ ys) (suc m) (suc n) z x there at differ = let (k, is) = kept_without ys m n z x there at differ in (suc k, is)

pub no_longer : (xs ys : List ℕ) → AllPairs (λ a b. a < b) xs → ((n x : ℕ) → slice_get xs n ≡ Some x → IsAt ys x) → length xs ≤ length ys
no_longer [] ys rising among = omega arith
no_longer (x ∷ xs) ys rising among =
    let (m, at) = among 0 x refl in
    let rest = no_longer xs (without ys m) (λ i j d less within. rising (suc i) (suc j) d (omega arith) (omega arith))
    (λ n z is.
    let above : x < z =
    subst (λ y. x < y) (get_or_from_slice_get xs n z 0 is) (rising 0 (suc n) 0 (omega arith) (omega (arith, slice_get_within xs n z is))) in
    let (k, there) = among (suc n) z is in
    kept_without ys k m z x there at (λ same. absurd (omega arith))) in
    omega (arith, rest, length-without ys m x at)
