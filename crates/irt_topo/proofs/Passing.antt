-- A test of each item and the items before it: index by index, and item by item.
use Rattle.std.proofs.Common.{◌≡◌, ◌<◌, ◌≤◌, ◌+◌, ℕ, zero, suc, Bool, true, false, List, [], ◌∷◌, ◌++◌, length, take, refl, sym, ◌∙◌, ap, arith, append_assoc, append-nil, length-append}
use Rattle.std.proofs.lemmas.Bool.{and_parts, and_from, or_parts, or_from}
use Rattle.std.proofs.lemmas.List.Folds.{list_any-append}
use Rattle.std.specs.List.{AllByRecursion, IsDistinct, list_any, list_all, slice_get}
use Rattle.std.specs.Option.{option_map_or}
use Rattle.irt_topo.specs.Rules.{passes_at}

-- each item passes, in view of those before it
abbrev pub EachPasses : {A : Type 0} → (List A → A → Bool) → List A → List A → Type 0
EachPasses test before [] = Unit {0}
EachPasses test before (x ∷ xs) = (test before x ≡ true) × EachPasses test (before ++ x ∷ []) xs

-- the same at an index, with more items before
abbrev pub passes_after : {A : Type 0} → (List A → A → Bool) → List A → List A → ℕ → Bool
passes_after test before items index = option_map_or (test (before ++ take index items)) (slice_get items index) true

module _ {A : Type 0} (test : List A → A → Bool) where
  later : (before : List A) (x : A) (xs : List A) (i : ℕ)
      → passes_after test before (x ∷ xs) (suc i) ≡ passes_after test (before ++ x ∷ []) xs i
  later before x xs i = ap (λ b. option_map_or (test b) (slice_get xs i) true) (sym (append_assoc before (x ∷ []) (take i xs)))

  each_from : (before xs : List A) → ((i : ℕ) → i < length xs → passes_after test before xs i ≡ true) → EachPasses test before xs
  each_from before [] h = tt
  each_from before (x ∷ xs) h = (
    sym (ap (λ b. test b x) (append-nil before)) ∙ h 0 (omega arith),
    each_from (before ++ x ∷ []) xs (λ i lt. sym (later before x xs i) ∙ h (suc i) (omega arith)),
  )

  each_at : (before xs : List A) → EachPasses test before xs → (i : ℕ) → passes_after test before xs i ≡ true
  each_at before [] h i = refl
  each_at before (x ∷ xs) h zero = ap (λ b. test b x) (append-nil before) ∙ h.0
  each_at before (x ∷ xs) h (suc i) = later before x xs i ∙ each_at (before ++ x ∷ []) xs h.1 i

  pub EachPasses-from_places : (xs : List A) → ((i : ℕ) → i < length xs → passes_at test xs i ≡ true) → EachPasses test [] xs
  EachPasses-from_places xs h = each_from [] xs h

  pub passes_at-from_EachPasses : (xs : List A) → EachPasses test [] xs → (i : ℕ) → passes_at test xs i ≡ true
  passes_at-from_EachPasses xs h i = each_at [] xs h i

  -- what the test says of the item alone
  pub EachPasses-all : (P : A → Type 0) → ((b : List A) (x : A) → test b x ≡ true → P x) → (before xs : List A)
      → EachPasses test before xs → AllByRecursion P xs
  EachPasses-all P says before [] h = tt
  EachPasses-all P says before (x ∷ xs) h = (says before x h.0, EachPasses-all P says (before ++ x ∷ []) xs h.1)

  -- what it says of the number of items before
  pub EachPasses-count : (most : ℕ) → ((b : List A) (x : A) → test b x ≡ true → length b < most) → (before xs : List A)
      → length before ≤ most → EachPasses test before xs → length before + length xs ≤ most
  EachPasses-count most says before [] within h = omega arith
  EachPasses-count most says before (x ∷ xs) within h =
      let lt : length before < most = says before x h.0 in
      let long : length (before ++ x ∷ []) ≡ length before + 1 = length-append before (x ∷ []) in
      let rest : length (before ++ x ∷ []) + length xs ≤ most = EachPasses-count most says (before ++ x ∷ []) xs (omega arith) h.1 in
      omega arith

  -- and of those items one by one
  module _ (same : A → A → Bool) (says : (b : List A) (x : A) → test b x ≡ true → list_any (λ e. same e x) b ≡ false) where
    apart_from : (x : A) (before xs : List A) → ((y : A) → list_any (λ e. same e y) before ≡ false → same x y ≡ false)
        → EachPasses test before xs → AllByRecursion (λ y. same x y ≡ false) xs
    apart_from x before [] known h = tt
    apart_from x before (y ∷ ys) known h = (
      known y (says before y h.0),
      apart_from x (before ++ y ∷ []) ys
          (λ z none. known z (or_parts _ _ (sym (list_any-append (λ e. same e z) before (y ∷ [])) ∙ none)).0) h.1,
    )

    pub EachPasses-distinct : (before xs : List A) → EachPasses test before xs → IsDistinct same xs
    unfolding IsDistinct
    EachPasses-distinct before [] h = tt
    EachPasses-distinct before (x ∷ xs) h = (
      apart_from x (before ++ x ∷ []) xs
          (λ y none. (or_parts _ _ (or_parts _ _ (sym (list_any-append (λ e. same e y) before (x ∷ [])) ∙ none)).1).0) h.1,
      EachPasses-distinct (before ++ x ∷ []) xs h.1,
    )

  -- the other way: a test that holds of each item, which is none of those before
  pub EachPasses-from_all : (P : A → Type 0) → ((b : List A) (x : A) → P x → test b x ≡ true) → (before xs : List A)
      → AllByRecursion P xs → EachPasses test before xs
  EachPasses-from_all P gives before [] h = tt
  EachPasses-from_all P gives before (x ∷ xs) h = (gives before x h.0, EachPasses-from_all P gives (before ++ x ∷ []) xs h.1)

  module _ (P : A → Type 0) (same : A → A → Bool) (most : ℕ)
      (gives : (b : List A) (x : A) → P x → list_any (λ e. same e x) b ≡ false → length b < most → test b x ≡ true) where
    fresh_after : (before : List A) (x : A) (ys : List A) → AllByRecursion (λ y. list_any (λ e. same e y) before ≡ false) ys
        → AllByRecursion (λ y. same x y ≡ false) ys → AllByRecursion (λ y. list_any (λ e. same e y) (before ++ x ∷ []) ≡ false) ys
    fresh_after before x [] old new = tt
    fresh_after before x (y ∷ ys) old new = (
      list_any-append (λ e. same e y) before (x ∷ []) ∙ or_from _ _ old.0 (or_from _ _ new.0 refl),
      fresh_after before x ys old.1 new.1,
    )

    pub EachPasses-from_distinct : (before xs : List A) → AllByRecursion P xs → IsDistinct same xs
        → AllByRecursion (λ y. list_any (λ e. same e y) before ≡ false) xs → length before + length xs ≤ most → EachPasses test before xs
    unfolding IsDistinct
    EachPasses-from_distinct before [] all distinct fresh count = tt
    EachPasses-from_distinct before (x ∷ xs) all distinct fresh count =
        let long : length (before ++ x ∷ []) ≡ length before + 1 = length-append before (x ∷ []) in (
          gives before x all.0 fresh.0 (omega arith),
          EachPasses-from_distinct (before ++ x ∷ []) xs all.1 distinct.1 (fresh_after before x xs fresh.1 distinct.0) (omega arith),
        )

-- nothing is before the first item
pub fresh_at_first : {A : Type 0} (same : A → A → Bool) (xs : List A) → AllByRecursion (λ y. list_any (λ e. same e y) [] ≡ false) xs
fresh_at_first same [] = tt
fresh_at_first same (x ∷ xs) = (refl, fresh_at_first same xs)

-- a test of each item
pub AllByRecursion-from_list_all : {A : Type 0} (test : A → Bool) (P : A → Type 0) → ((x : A) → test x ≡ true → P x)
    → (xs : List A) → list_all test xs ≡ true → AllByRecursion P xs
AllByRecursion-from_list_all test P says [] h = tt
AllByRecursion-from_list_all test P says (x ∷ xs) h =
    let (here, more) = and_parts (test x) (list_all test xs) h in (says x here, AllByRecursion-from_list_all test P says xs more)

pub list_all-from_AllByRecursion : {A : Type 0} (test : A → Bool) (P : A → Type 0) → ((x : A) → P x → test x ≡ true)
    → (xs : List A) → AllByRecursion P xs → list_all test xs ≡ true
list_all-from_AllByRecursion test P gives [] h = refl
list_all-from_AllByRecursion test P gives (x ∷ xs) h =
    and_from (test x) (list_all test xs) (gives x h.0) (list_all-from_AllByRecursion test P gives xs h.1)

pub AllByRecursion-map : {A : Type 0} (P Q : A → Type 0) → ((x : A) → P x → Q x) → (xs : List A) → AllByRecursion P xs → AllByRecursion Q xs
AllByRecursion-map P Q f [] h = tt
AllByRecursion-map P Q f (x ∷ xs) h = (f x h.0, AllByRecursion-map P Q f xs h.1)

pub AllByRecursion-both : {A : Type 0} (P Q R : A → Type 0) → ((x : A) → P x → Q x → R x) → (xs : List A)
    → AllByRecursion P xs → AllByRecursion Q xs → AllByRecursion R xs
AllByRecursion-both P Q R f [] p q = tt
AllByRecursion-both P Q R f (x ∷ xs) p q = (f x p.0 q.0, AllByRecursion-both P Q R f xs p.1 q.1)
