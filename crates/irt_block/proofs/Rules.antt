-- What the rules of fields mean, and sizes of repeated parts.
use Rattle.std.proofs.Common.{◌≡◌, ℕ, suc, ◌+◌, ◌*◌, ◌≤◌, ◌<◌, nat_lt, true, List, [], ◌∷◌, ◌++◌, length, ap, ◌∙◌, arith}
use Rattle.std.specs.List.{AllByRecursion, flat_map}
use Rattle.std.proofs.lemmas.Bool.Decides.{nat_tests}
use Rattle.std.proofs.lemmas.List.{length-append}
use Rattle.std.proofs.lemmas.List.Concat.{flat_map-cons}
use Rattle.irt_base.specs.Valid.{IsWithin, IsDomainByte}
use Rattle.irt_block.specs.declared.bytes.ByteClass.TheVariants as classes
use Rattle.std.specs.Prelude.{replicate}
use Rattle.irt_block.specs.Reading.{within, is_of, spelled}
use Rattle.irt_block.proofs.Numbers.{length-spelled}
use Rattle.irt_block.proofs.Codec.{zeros_count}

pub within_rule : (low high n : ℕ) → within low high n ≡ true → IsWithin low high n
within_rule low high n h = grind (arith, nat_tests)

pub within_again : (low high n : ℕ) → IsWithin low high n → within low high n ≡ true
within_again low high n h = grind (arith, nat_tests)

pub below_rule : (n high : ℕ) → nat_lt n high ≡ true → n < high
below_rule n high h = grind (arith, nat_tests)

pub below_again : (n high : ℕ) → n < high → nat_lt n high ≡ true
below_again n high h = grind (arith, nat_tests)

pub letter_rule : (b : ℕ) → is_of classes.Letter b ≡ true → IsDomainByte b
letter_rule b h = grind (arith, nat_tests)

pub letter_again : (b : ℕ) → IsDomainByte b → is_of classes.Letter b ≡ true
letter_again b h = grind (arith, nat_tests)

-- a fact of each item that follows from another
pub all_so : {A : Type 0} (P Q : A → Type 0) → ((x : A) → P x → Q x) → (xs : List A) → AllByRecursion P xs → AllByRecursion Q xs
all_so P Q h [] all = tt
all_so P Q h (x ∷ xs) all = (h x all.0, all_so P Q h xs all.1)

-- items of one size
pub length-items : {A : Type 0} (f : A → List ℕ) (size : ℕ) → ((x : A) → length (f x) ≡ size) → (xs : List A) → length (flat_map f xs) ≡ size * length xs
length-items f size h [] = omega arith
length-items f size h (x ∷ xs) =
    let rest = length-items f size h xs in
    let first = h x in
    let both : length (flat_map f (x ∷ xs)) ≡ length (f x) + length (flat_map f xs) = ap length (flat_map-cons f x xs) ∙ length-append (f x) (flat_map f xs) in
    let times : size * suc (length xs) ≡ size + size * length xs = grind arith in
    omega (arith, both, rest, first, times)

-- items of at most a size
pub length-items-most : {A : Type 0} (f : A → List ℕ) (P : A → Type 0) (size : ℕ) → ((x : A) → P x → length (f x) ≤ size) → (xs : List A) → AllByRecursion P xs → length (flat_map f xs) ≤ size * length xs
length-items-most f P size h [] all = omega arith
length-items-most f P size h (x ∷ xs) all =
    let rest = length-items-most f P size h xs all.1 in
    let first = h x all.0 in
    let both : length (flat_map f (x ∷ xs)) ≡ length (f x) + length (flat_map f xs) = ap length (flat_map-cons f x xs) ∙ length-append (f x) (flat_map f xs) in
    let times : size * suc (length xs) ≡ size + size * length xs = grind arith in
    omega (arith, both, rest, first, times)

-- ---- sizes

-- a list of so many bytes
pub record Sized (xs : List ℕ) (n : ℕ) : Type 0 where
  pub is : length xs ≡ n

pub given : (xs : List ℕ) (n : ℕ) → length xs ≡ n → Sized xs n
given xs n h = record { is = h }

pub both : {xs ys : List ℕ} {m n : ℕ} → Sized xs m → Sized ys n → Sized (xs ++ ys) (m + n)
both {xs} {ys} {m} {n} x y = record { is = length-append xs ys ∙ ap (λ k. k + length ys) x.is ∙ ap (λ k. m + k) y.is }

pub spelled_size : (n x : ℕ) → Sized (spelled n x) n
spelled_size n x = given (spelled n x) n (length-spelled n x)

pub zeros_size : (n : ℕ) → Sized (replicate n 0) n
zeros_size n = given (replicate n 0) n (zeros_count n)
