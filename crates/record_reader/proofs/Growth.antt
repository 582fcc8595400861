-- What is added at the end of what lines give.
use Rattle.std.proofs.Common.{◌≡◌, ◌≢◌, ◌<◌, ◌≤◌, ◌+◌, ◌==◌, ℕ, zero, suc, true, false, cond, List, [], ◌∷◌, ◌++◌, length, set, Some, refl, sym, ◌∙◌, ap, arith, append_assoc, append-nil, inl, inr}
use Rattle.std.specs.Prelude.{slice_get, zip}
use Rattle.std.specs.List.{flat_map, range_with_len}
use Rattle.std.proofs.lemmas.Bool.{cases_Bool}
use Rattle.std.proofs.lemmas.Bool.Decides.{nat_tests}
use Rattle.std.proofs.lemmas.Option.{none-some, same_Some}
use Rattle.cycle_rows.specs.Rows.{cycle_of}
use Rattle.cycle_rows.specs.declared.rows.JournalRow.{JournalRow}
use Rattle.irt_base.specs.declared.numbers.DevId.{DevId}
use Rattle.irt_base.specs.declared.plants.App.{App}
use Rattle.iso_rules.specs.Lockstep.{AppLog}
use Rattle.iso_rules.specs.declared.turn.Turn.{Turn}
use Rattle.record_laws.specs.Lines.{at_place, of_turns}
use Rattle.record_laws.specs.declared.line.Line.{Line}
use Rattle.record_laws.specs.declared.line.Line.TheVariants as says
use Rattle.record_text.specs.Text.{rows_of_cycle}

-- ---- apps, each with its log

pub zip_none : {Y : Type 0} (h : App × AppLog → List Y) (apps : List App) (logs : List AppLog) →
    ((m : ℕ) (a : App) (l : AppLog) → slice_get apps m ≡ Some a → slice_get logs m ≡ Some l → h (a, l) ≡ []) → flat_map h (zip apps logs) ≡ []
zip_none h [] logs none = refl
zip_none h (a ∷ apps) [] none = refl
zip_none h (a ∷ apps) (l ∷ logs) none = (λ i. none 0 a l refl refl i ++ zip_none h apps logs (λ m b o is also. none (suc m) b o is also) i)

pub zip_same : {Y : Type 0} (h : App × AppLog → List Y) (apps : List App) (logs : List AppLog) (n : ℕ) (l new : AppLog) → slice_get logs n ≡ Some l →
    ((a : App) → h (a, new) ≡ h (a, l)) → flat_map h (zip apps (set logs n new)) ≡ flat_map h (zip apps logs)
zip_same h [] logs n l new is same = refl
zip_same h (a ∷ apps) [] n l new is same = absurd (none-some l is)
zip_same h (a ∷ apps) (o ∷ logs) zero l new is same =
    ap (λ xs. xs ++ flat_map h (zip apps logs)) (same a ∙ ap (λ (k : AppLog). h (a, k)) (sym (same_Some o l is)))
zip_same h (a ∷ apps) (o ∷ logs) (suc n) l new is same = ap (λ xs. h (a, o) ++ xs) (zip_same h apps logs n l new is same)

pub zip_grows : {Y : Type 0} (h : App × AppLog → List Y) (x : Y) (apps : List App) (logs : List AppLog) (n : ℕ) (a : App) (l new : AppLog) →
    slice_get apps n ≡ Some a → slice_get logs n ≡ Some l → h (a, new) ≡ h (a, l) ++ x ∷ [] →
    ((m : ℕ) (b : App) (o : AppLog) → n < m → slice_get apps m ≡ Some b → slice_get logs m ≡ Some o → h (b, o) ≡ []) →
    flat_map h (zip apps (set logs n new)) ≡ flat_map h (zip apps logs) ++ x ∷ []
zip_grows h x [] logs n a l new is also grown none = absurd (none-some a is)
zip_grows h x (b ∷ apps) [] n a l new is also grown none = absurd (none-some l also)
zip_grows h x (b ∷ apps) (o ∷ logs) zero a l new is also grown none =
    let rest : flat_map h (zip apps logs) ≡ [] = zip_none h apps logs (λ m c k at too. none (suc m) c k (omega arith) at too) in
    let app : a ≡ b = sym (same_Some b a is) in
    let log : l ≡ o = sym (same_Some o l also) in
    ap (λ xs. h (b, new) ++ xs) rest
    ∙ (append-nil (h (b, new))
    ∙ (ap (λ (c : App). h (c, new)) (sym app)
    ∙ (grown
    ∙ ((λ i. h (app i, log i) ++ x ∷ []) ∙ (ap (λ xs. xs ++ x ∷ []) (sym (append-nil (h (b, o)))) ∙ ap (λ xs. (h (b, o) ++ xs) ++ x ∷ []) (sym rest))))))
zip_grows h x (b ∷ apps) (o ∷ logs) (suc n) a l new is also grown none =
    ap (λ xs. h (b, o) ++ xs) (zip_grows h x apps logs n a l new is also grown (λ m c k above at too. none (suc m) c k (omega arith) at too))
    ∙ sym (append_assoc (h (b, o)) (flat_map h (zip apps logs)) (x ∷ []))

-- ---- cycles

pub range_none : {Y : Type 0} (f : ℕ → List Y) (a n : ℕ) → ((j : ℕ) → a ≤ j → f j ≡ []) → flat_map f (range_with_len a n) ≡ []
range_none f a zero none = refl
range_none f a (suc n) none = (λ i. none a (omega arith) i ++ range_none f (a + 1) n (λ j above. none j (omega arith)) i)

range_same : {Y : Type 0} (f g : ℕ → List Y) (a n : ℕ) → ((j : ℕ) → a ≤ j → f j ≡ g j) → flat_map f (range_with_len a n) ≡ flat_map g (range_with_len a n)
range_same f g a zero same = refl
range_same f g a (suc n) same = (λ i. same a (omega arith) i ++ range_same f g (a + 1) n (λ j above. same j (omega arith)) i)

pub range_grows : {Y : Type 0} (f g : ℕ → List Y) (x : Y) (k a n : ℕ) → a ≤ k → k < a + n → f k ≡ g k ++ x ∷ [] → ((j : ℕ) → j ≢ k → f j ≡ g j) →
    ((j : ℕ) → k < j → g j ≡ []) → flat_map f (range_with_len a n) ≡ flat_map g (range_with_len a n) ++ x ∷ []
range_grows f g x k a zero from to grown same none = absurd (omega arith)
range_grows f g x k a (suc n) from to grown same none =
    elim (cases_Bool (a == k)) [
      | inl here ↦
          let is : a ≡ k = equal a k here in
          let rest : flat_map g (range_with_len (a + 1) n) ≡ [] = range_none g (a + 1) n (λ j above. none j (omega arith)) in
          let same_rest : flat_map f (range_with_len (a + 1) n) ≡ [] = range_none f (a + 1) n (λ j above. same j (apart j k (omega arith)) ∙ none j (omega arith)) in
          ap (λ xs. f a ++ xs) same_rest
          ∙ (append-nil (f a)
          ∙ (ap f is ∙ (grown ∙ (ap (λ m. g m ++ x ∷ []) (sym is)
          ∙ (ap (λ xs. xs ++ x ∷ []) (sym (append-nil (g a))) ∙ ap (λ xs. (g a ++ xs) ++ x ∷ []) (sym rest))))))
      | inr other ↦
          let above : a + 1 ≤ k = further a k from other in
          (λ i. same a (below a k above) i ++ range_grows f g x k (a + 1) n above (omega arith) grown same none i)
          ∙ sym (append_assoc (g a) (flat_map g (range_with_len (a + 1) n)) (x ∷ []))
    ]
  where
    equal : (m n : ℕ) → (m == n) ≡ true → m ≡ n
    equal m n test = grind (arith, nat_tests)

    further : (m n : ℕ) → m ≤ n → (m == n) ≡ false → m + 1 ≤ n
    further m n within test = grind (arith, nat_tests)

    apart : (m n : ℕ) → n < m → m ≢ n
    apart m n above = λ same. omega (arith, above, same)

    below : (m n : ℕ) → m + 1 ≤ n → m ≢ n
    below m n under = λ same. omega (arith, under, same)

-- ---- lists of an app

pub place_there : {X Y : Type 0} (f : X → List Y) (xs : List X) (x : X) → at_place f (xs ++ x ∷ []) (length xs) ≡ f x
place_there f [] x = refl
place_there f (y ∷ xs) x = place_there f xs x

pub place_same : {X Y : Type 0} (f : X → List Y) (xs : List X) (x : X) (j : ℕ) → j ≢ length xs → at_place f (xs ++ x ∷ []) j ≡ at_place f xs j
place_same f [] x zero apart = absurd (apart refl)
place_same f [] x (suc j) apart = refl
place_same f (y ∷ xs) x zero apart = refl
place_same f (y ∷ xs) x (suc j) apart = place_same f xs x j (λ same. apart (ap (λ n. suc n) same))

pub place_none : {X Y : Type 0} (f : X → List Y) (xs : List X) (j : ℕ) → length xs ≤ j → at_place f xs j ≡ []
place_none f [] j past = refl
place_none f (x ∷ xs) zero past = absurd (omega arith)
place_none f (x ∷ xs) (suc j) past = place_none f xs j (omega arith)

pub turns_more : {Y : Type 0} (f : Line → List Y) (device : DevId) (first number : ℕ) (ts : List Turn) (t : Turn) → first + length ts ≡ number →
    of_turns f device first (ts ++ t ∷ []) ≡ of_turns f device first ts ++ f (says.Turn device number t)
turns_more f device first number [] t is = append-nil (f (says.Turn device first t)) ∙ ap (λ n. f (says.Turn device n t)) (same first number is)
  where
    same : (m n : ℕ) → m + 0 ≡ n → m ≡ n
    same m n is = omega arith
turns_more f device first number (u ∷ ts) t is =
    ap (λ ys. f (says.Turn device first u) ++ ys) (turns_more f device (first + 1) number ts t (omega arith))
    ∙ sym (append_assoc (f (says.Turn device first u)) (of_turns f device (first + 1) ts) (f (says.Turn device number t)))

-- ---- rows

pub rows_there : (rows : List JournalRow) (r : JournalRow) → rows_of_cycle (cycle_of r) (rows ++ r ∷ []) ≡ rows_of_cycle (cycle_of r) rows ++ r ∷ []
rows_there [] r = ap (λ b. cond b (r ∷ []) []) (itself (cycle_of r))
  where
    itself : (n : ℕ) → (n == n) ≡ true
    itself n = grind (arith, nat_tests)
rows_there (s ∷ rows) r =
    elim (cases_Bool (cycle_of s == cycle_of r)) [
      | inl here ↦ rw here (ap (λ xs. s ∷ xs) (rows_there rows r))
      | inr other ↦ rw other (rows_there rows r)
    ]

pub rows_same : (rows : List JournalRow) (r : JournalRow) (j : ℕ) → j ≢ cycle_of r → rows_of_cycle j (rows ++ r ∷ []) ≡ rows_of_cycle j rows
rows_same [] r j apart = ap (λ b. cond b (r ∷ []) []) (differ (cycle_of r) j apart)
  where
    differ : (m n : ℕ) → n ≢ m → (m == n) ≡ false
    differ m n apart = elim (cases_Bool (m == n)) [ inl same ↦ absurd (apart (equal m n same)) | inr other ↦ other ]
      where
        equal : (m n : ℕ) → (m == n) ≡ true → n ≡ m
        equal m n test = grind (arith, nat_tests)
rows_same (s ∷ rows) r j apart =
    elim (cases_Bool (cycle_of s == j)) [
      | inl here ↦ rw here (ap (λ xs. s ∷ xs) (rows_same rows r j apart))
      | inr other ↦ rw other (rows_same rows r j apart)
    ]
