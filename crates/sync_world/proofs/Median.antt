-- Numbers have a lower median, and it is what is known by them.
use Rattle.std.proofs.Common.{◌≡◌, ℕ, zero, suc, ◌+◌, ◌-◌, ◌/◌, ◌≤◌, ◌<◌, Bool, true, false, cond, nat_lt, nat_le, ◌&&◌, List, [], ◌∷◌, length, get_or, find, count_by, Some, Contains, unwrap_or, refl, sym, ◌∙◌, ap, subst, inl, inr, ◌⊎◌, arith}
use Rattle.std.proofs.lemmas.Bool.{cases_Bool, cases_eq, cases_lt, and_parts}
use Rattle.std.proofs.lemmas.Bool.Decides.{nat_tests}
use Rattle.std.proofs.lemmas.List.Sums.{sum_by-append, count_by-le-length}
use Rattle.line_delay.specs.Honest.{IsKnown}
use Rattle.line_delay.specs.Line.{IsLowerMedian}
use Rattle.sync_world.specs.Lines.{is_lower_median, known_by}

-- there is one lower median
abbrev pub IsOnly : Type 0
IsOnly = (numbers : List ℕ) (median other : ℕ) → IsLowerMedian numbers median → IsLowerMedian numbers other → median ≡ other

-- the first number counts where it passes
count-cons : (p : ℕ → Bool) (y : ℕ) (ys : List ℕ) → count_by p (y ∷ ys) ≡ cond (p y) 1 0 + count_by p ys
count-cons p y ys = sum_by-append (λ x. cond (p x) 1 0) (y ∷ []) ys ∙ omega arith

counts_more : (a b : Bool) → (a ≡ true → b ≡ true) → cond a 1 0 ≤ cond b 1 0
counts_more false b weaker = omega arith
counts_more true true weaker = omega arith
counts_more true false weaker = let e = weaker refl in absurd (cc)

count_more : (p q : ℕ → Bool) (ys : List ℕ) → ((y : ℕ) → p y ≡ true → q y ≡ true) → count_by p ys ≤ count_by q ys
count_more p q [] weaker = omega arith
count_more p q (y ∷ ys) weaker =
    let rest = count_more p q ys weaker in
    let first = counts_more (p y) (q y) (weaker y) in
    omega (arith, rest, first, count-cons p y ys, count-cons q y ys)

count_none : (p : ℕ → Bool) (ys : List ℕ) → ((y : ℕ) → p y ≡ false) → count_by p ys ≡ 0
count_none p [] none = omega arith
count_none p (y ∷ ys) none =
    let rest = count_none p ys none in
    let first : cond {A = ℕ} (p y) 1 0 ≡ 0 = ap (λ (b : Bool). cond {A = ℕ} b 1 0) (none y) in
    omega (arith, rest, first, count-cons p y ys)

up_to_more : (x a b : ℕ) → a ≤ b → nat_le x a ≡ true → nat_le x b ≡ true
up_to_more x a b le is = grind (arith, nat_tests)

not_below_zero : (x : ℕ) → nat_lt x 0 ≡ false
not_below_zero x = grind (arith, nat_tests)

below_suc : (x k : ℕ) → nat_lt x (suc k) ≡ true → nat_le x k ≡ true
below_suc x k is = grind (arith, nat_tests)

below_other : (x m : ℕ) → (x ≡ m → ⊥) → nat_le x m ≡ true → nat_lt x m ≡ true
below_other x m differ is = grind (arith, nat_tests)

up_to_itself : (x n : ℕ) → nat_le x (x + n) ≡ true
up_to_itself x n = grind (arith, nat_tests)

-- a number is one of these, or no more of them are at most as great than are less
member_or : (m : ℕ) (xs : List ℕ) → Contains xs m ⊎ (count_by (λ x. nat_le x m) xs ≤ count_by (λ x. nat_lt x m) xs)
member_or m [] = inr (omega arith)
member_or m (y ∷ ys) =
    elim (cases_eq y m) [
      | inl same ↦ inl (0, omega arith, same)
      | inr differ ↦
          elim (member_or m ys) [
            | inl (k, within, is) ↦ inl (suc k, omega arith, is)
            | inr rest ↦
                let first = counts_more (nat_le y m) (nat_lt y m) (below_other y m differ) in
                inr (omega (arith, rest, first, count-cons (λ x. nat_le x m) y ys, count-cons (λ x. nat_lt x m) y ys))
          ]
    ]

-- all are at most as great as some number
all_up_to : (xs : List ℕ) → (n : ℕ) × (count_by (λ x. nat_le x n) xs ≡ length xs)
all_up_to [] = (0, omega arith)
all_up_to (y ∷ ys) =
    let (n, all) = all_up_to ys in
    let rest = count_more (λ x. nat_le x n) (λ x. nat_le x (y + n)) ys (λ x is. up_to_more x n (y + n) (omega arith) is) in
    let most = count_by-le-length (λ x. nat_le x (y + n)) ys in
    let first : cond {A = ℕ} (nat_le y (y + n)) 1 0 ≡ 1 = ap (λ (b : Bool). cond {A = ℕ} b 1 0) (up_to_itself y n) in
    (y + n, omega (arith, all, rest, most, first, count-cons (λ x. nat_le x (y + n)) y ys))

least_over : (f : ℕ → ℕ) (h : ℕ) → ((a b : ℕ) → a ≤ b → f a ≤ f b) → (n : ℕ) → h < f n → (m : ℕ) × (h < f m) × ((k : ℕ) → k < m → f k ≤ h)
least_over f h rises zero over = (0, over, λ k below. absurd (omega arith))
least_over f h rises (suc n) over =
    elim (cases_lt h (f n)) [
      | inl before ↦ least_over f h rises n before
      | inr none ↦ (suc n, over, λ k below. omega (arith, rises k n (omega (arith, below)), none))
    ]

less_by : (xs : List ℕ) (h m : ℕ) → ((k : ℕ) → k < m → count_by (λ x. nat_le x k) xs ≤ h) → count_by (λ x. nat_lt x m) xs ≤ h
less_by xs h zero before = let none = count_none (λ x. nat_lt x 0) xs not_below_zero in omega (arith, none)
less_by xs h (suc k) before =
    let here = before k (omega arith) in
    let fewer = count_more (λ x. nat_lt x (suc k)) (λ x. nat_le x k) xs (λ x is. below_suc x k is) in
    omega (arith, here, fewer)

median_there : (xs : List ℕ) → 1 ≤ length xs → (m : ℕ) × IsLowerMedian xs m
median_there xs some =
    let (n, all) = all_up_to xs in
    let (m, over, before) =
    least_over (λ k. count_by (λ x. nat_le x k) xs) ((length xs - 1) / 2)
    (λ a b le. count_more (λ x. nat_le x a) (λ x. nat_le x b) xs (λ x is. up_to_more x a b le is)) n (omega (arith, all, some)) in
    let less = less_by xs ((length xs - 1) / 2) m before in (
      m,
      record {
        member = elim (member_or m xs) [ inl there ↦ there | inr few ↦ absurd (omega (arith, few, less, over)) ];
        less = less;
        up_to = over;
      },
    )

find_there : (p : ℕ → Bool) (xs : List ℕ) (k d : ℕ) → k < length xs → p (get_or xs k d) ≡ true →
    (x : ℕ) × (find p xs ≡ Some x) × (p x ≡ true) × Contains xs x
find_there p [] k d within passes = absurd (omega arith)
find_there p (y ∷ ys) zero d within passes = (y, rw passes refl, passes, (0, omega arith, refl))
find_there p (y ∷ ys) (suc k) d within passes =
    elim (cases_Bool (p y)) [
      | inl here ↦ (y, rw here refl, here, (0, omega arith, refl))
      | inr elsewhere ↦
          let (x, found, passes_there, (j, inside, is)) = find_there p ys k d (omega arith) passes in
          (x, rw elsewhere found, passes_there, (suc j, omega arith, is))
    ]

median_tests : (below at_most half : ℕ) → below ≤ half → half < at_most → (nat_le below half && nat_lt half at_most) ≡ true
median_tests below at_most half less up_to = grind (arith, nat_tests)

first_test : (below half : ℕ) → nat_le below half ≡ true → below ≤ half
first_test below half is = grind (arith, nat_tests)

second_test : (half at_most : ℕ) → nat_lt half at_most ≡ true → half < at_most
second_test half at_most is = grind (arith, nat_tests)

median_from : (xs : List ℕ) (m : ℕ) → Contains xs m → is_lower_median xs m ≡ true → IsLowerMedian xs m
median_from xs m there is =
    let (low, high) = and_parts (nat_le (count_by (λ x. nat_lt x m) xs) ((length xs - 1) / 2)) (nat_lt ((length xs - 1) / 2) (count_by (λ x. nat_le x m) xs)) is in
    record {
      member = there;
      less = first_test (count_by (λ x. nat_lt x m) xs) ((length xs - 1) / 2) low;
      up_to = second_test ((length xs - 1) / 2) (count_by (λ x. nat_le x m) xs) high;
    }

pub median_known : IsOnly → (halves : List ℕ) (m : ℕ) → IsLowerMedian halves m → m ≡ known_by halves
unfolding known_by
median_known only halves m median =
    let (k, within, is) = median.member in
    let passes : is_lower_median halves m ≡ true =
    median_tests (count_by (λ x. nat_lt x m) halves) (count_by (λ x. nat_le x m) halves) ((length halves - 1) / 2) median.less median.up_to in
    let (x, found, passes_there, there) = find_there (is_lower_median halves) halves k m within (subst (λ n. is_lower_median halves n ≡ true) (sym is) passes) in
    only halves m x median (median_from halves x there passes_there) ∙ sym (ap (λ o. unwrap_or o 0) found)

pub known_none : (halves : List ℕ) → halves ≡ [] → 0 ≡ known_by halves
unfolding known_by
known_none halves none = rw none refl

pub known_is : IsOnly → (halves : List ℕ) → IsKnown halves (known_by halves)
known_is only [] = sym (known_none [] refl)
known_is only (half ∷ more) =
    let (m, median) = median_there (half ∷ more) (omega arith) in
    subst (λ n. IsLowerMedian (half ∷ more) n) (median_known only (half ∷ more) m median) median
