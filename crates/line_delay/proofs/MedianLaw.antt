-- The number in the middle of numbers in order is their lower median, and there is one alone.
use Rattle.std.proofs.Common.{◌≡◌, ℕ, zero, suc, ◌+◌, ◌-◌, ◌/◌, ◌≤◌, ◌<◌, Bool, true, false, cond, nat_lt, nat_le, List, [], ◌∷◌, length, get_or, refl, ◌∙◌, ap, arith, count_by}
use Rattle.std.proofs.lemmas.Bool.Decides.{nat_tests}
use Rattle.std.proofs.lemmas.List.Sums.{sum_by-append}
use Rattle.std.proofs.lemmas.List.Elements.{Contains-get_or}
use Rattle.std.proofs.lemmas.List.Sorted.{sum_by-IsPermutation, Contains-permutation, IsPermutation-sym}
use Rattle.std.specs.List.Sorted.{IsPermutation, IsNonDecreasing}
use Rattle.line_delay.specs.Line.{IsLowerMedian}

-- the first number counts where it passes
count-cons : (p : ℕ → Bool) (y : ℕ) (ys : List ℕ) → count_by p (y ∷ ys) ≡ cond (p y) 1 0 + count_by p ys
count-cons p y ys = sum_by-append (λ x. cond (p x) 1 0) (y ∷ []) ys ∙ omega arith

at_most_one : (b : Bool) → cond b 1 0 ≤ 1
at_most_one true = omega arith
at_most_one false = omega arith

one_more : (a b : Bool) → (a ≡ true → b ≡ true) → cond a 1 0 ≤ cond b 1 0
one_more false b w = omega arith
one_more true true w = omega arith
one_more true false w = let e = w refl in absurd (cc)

-- what passes from a place on does not, so at most those before it pass
count_before : (p : ℕ → Bool) (ys : List ℕ) (i : ℕ) → ((j : ℕ) → i ≤ j → j < length ys → p (get_or ys j 0) ≡ false) → count_by p ys ≤ i
count_before p [] i none = omega arith
count_before p (y ∷ ys) zero none =
    let rest = count_before p ys zero (λ j l h. none (suc j) (omega arith) (omega arith)) in
    let first : cond {A = ℕ} (p y) 1 0 ≡ 0 = ap (λ (b : Bool). cond {A = ℕ} b 1 0) (none 0 (omega arith) (omega arith)) in omega (arith, count-cons p y ys)
count_before p (y ∷ ys) (suc i) none =
    let rest = count_before p ys i (λ j l h. none (suc j) (omega arith) (omega arith)) in
    let first : cond (p y) 1 0 ≤ 1 = at_most_one (p y) in omega (arith, count-cons p y ys)

-- what stands up to a place passes, so more than the place's number pass
count_up_to : (p : ℕ → Bool) (ys : List ℕ) (i : ℕ) → i < length ys → ((j : ℕ) → j ≤ i → p (get_or ys j 0) ≡ true) → i < count_by p ys
count_up_to p [] i inside all = absurd (omega arith)
count_up_to p (y ∷ ys) zero inside all =
    let first : cond {A = ℕ} (p y) 1 0 ≡ 1 = ap (λ (b : Bool). cond {A = ℕ} b 1 0) (all 0 (omega arith)) in omega (arith, count-cons p y ys)
count_up_to p (y ∷ ys) (suc i) inside all =
    let rest = count_up_to p ys i (omega arith) (λ j l. all (suc j) (omega arith)) in
    let first : cond {A = ℕ} (p y) 1 0 ≡ 1 = ap (λ (b : Bool). cond {A = ℕ} b 1 0) (all 0 (omega arith)) in omega (arith, count-cons p y ys)

-- where one test passes whenever another does, more pass it
count_more : (p q : ℕ → Bool) (ys : List ℕ) → ((y : ℕ) → p y ≡ true → q y ≡ true) → count_by p ys ≤ count_by q ys
count_more p q [] weaker = omega arith
count_more p q (y ∷ ys) weaker =
    let rest = count_more p q ys weaker in
    let first = one_more (p y) (q y) (weaker y) in omega (arith, count-cons p y ys, count-cons q y ys)

not_less : (m n : ℕ) → m ≤ n → nat_lt n m ≡ false
not_less m n le = grind (arith, nat_tests)

is_le : (n m : ℕ) → n ≤ m → nat_le n m ≡ true
is_le n m le = grind (arith, nat_tests)

pub median_of_sorted : (numbers sorted : List ℕ) (i : ℕ) → IsPermutation numbers sorted → IsNonDecreasing sorted →
    length sorted ≡ length numbers → 1 ≤ length numbers → i ≡ (length sorted - 1) / 2 → IsLowerMedian numbers (get_or sorted i 0)
median_of_sorted numbers sorted i same order long some middle =
    let median : ℕ = get_or sorted i 0 in
    let inside : i < length sorted = omega arith in
    let less : ℕ → Bool = λ n. nat_lt n median in
    let up_to : ℕ → Bool = λ n. nat_le n median in
    let few = count_before less sorted i (λ j l h. not_less median (get_or sorted j 0) (order i j 0 l h)) in
    let many = count_up_to up_to sorted i inside (λ j l. is_le (get_or sorted j 0) median (order j i 0 l inside)) in record {
      member = Contains-permutation sorted numbers median (IsPermutation-sym numbers sorted same) (Contains-get_or sorted i 0 inside);
      less = omega (arith, sum_by-IsPermutation (λ x. cond (less x) 1 0) numbers sorted same);
      up_to = omega (arith, sum_by-IsPermutation (λ x. cond (up_to x) 1 0) numbers sorted same);
    }

less_then : (m n y : ℕ) → m < n → nat_le y m ≡ true → nat_lt y n ≡ true
less_then m n y less e = grind (arith, nat_tests)

not_two : (numbers : List ℕ) (m n : ℕ) → m < n → IsLowerMedian numbers m → IsLowerMedian numbers n → ⊥
not_two numbers m n less a b =
    let more = count_more (λ y. nat_le y m) (λ y. nat_lt y n) numbers (λ y. less_then m n y less) in omega (arith, a.up_to, b.less)

pub one_median : (numbers : List ℕ) (m n : ℕ) → IsLowerMedian numbers m → IsLowerMedian numbers n → m ≡ n
one_median numbers m n a b =
    let up : m < n → ⊥ = λ l. not_two numbers m n l a b in
    let down : n < m → ⊥ = λ l. not_two numbers n m l b a in omega arith
