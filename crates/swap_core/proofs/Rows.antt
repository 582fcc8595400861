-- Rows of one length, one behind the other.
use Rattle.std.proofs.Common.{◌≡◌, ◌≢◌, ℕ, suc, ◌+◌, ◌-◌, ◌*◌, ◌<◌, ◌≤◌, List, [], ◌∷◌, ◌++◌, length, take, drop, set, get_or, replicate, ap, ◌∙◌, ⊎_elim, arith, length-drop}
use Rattle.std.proofs.Math.Nat.{mul-le-mul_left}
use Rattle.std.proofs.lemmas.List.{drop-set-lt, drop-set-add, take-set-le, get_or-take, get_or-drop, take-replicate, drop-replicate}
use Rattle.std.proofs.Math.Seq.{take-set-lt}
use Rattle.std.proofs.lemmas.Bool.{cases_lt}
use Rattle.std.proofs.lemmas.List.{length-take-le}
use Rattle.std.specs.List.{AllByRecursion}

row_below : (xs : List ℕ) (m a b p w : ℕ) → a < b → p < m → take m (drop (m * b) (set xs (m * a + p) w)) ≡ take m (drop (m * b) xs)
row_below xs m a b p w lt h =
    let far : m * suc a ≤ m * b = mul-le-mul_left m lt in
    ap (λ (l : List ℕ). take m l) (drop-set-lt (m * b) xs (m * a + p) w (omega arith))

row_above : (xs : List ℕ) (m a b p w i : ℕ) → m * a + p ≡ m * b + i → m ≤ i → take m (drop (m * b) (set xs (m * a + p) w)) ≡ take m (drop (m * b) xs)
row_above xs m a b p w i e far =
    ap (λ (k : ℕ). take m (drop (m * b) (set xs k w))) e
    ∙ (ap (λ (l : List ℕ). take m l) (drop-set-add (m * b) xs i w) ∙ take-set-le m (drop (m * b) xs) i w far)

-- a write into one row leaves each other row
pub row_other : (xs : List ℕ) (m a b p w : ℕ) → a ≢ b → p < m → take m (drop (m * b) (set xs (m * a + p) w)) ≡ take m (drop (m * b) xs)
row_other xs m a b p w ne h =
    ⊎_elim
    (λ (lt : a < b). row_below xs m a b p w lt h)
    (λ (ge : b ≤ a).
    let more : suc b ≤ a = omega arith in
    let far : m * suc b ≤ m * a = mul-le-mul_left m more in
    row_above xs m a b p w (m * a + p - m * b) (omega arith) (omega arith))
    (cases_lt a b)

-- a write into a row is a write at its place
pub row_same : (xs : List ℕ) (m a p w : ℕ) → p < m → take m (drop (m * a) (set xs (m * a + p) w)) ≡ set (take m (drop (m * a) xs)) p w
row_same xs m a p w h = ap (λ (l : List ℕ). take m l) (drop-set-add (m * a) xs p w) ∙ take-set-lt m (drop (m * a) xs) p w h

-- a word of a row
pub row_word : (xs : List ℕ) (m a p : ℕ) → p < m → get_or (take m (drop (m * a) xs)) p 0 ≡ get_or xs (m * a + p) 0
row_word xs m a p h = get_or-take m (drop (m * a) xs) p 0 h ∙ get_or-drop (m * a) xs p 0

-- each of three rows has its length
pub row_length : (xs : List ℕ) (m a : ℕ) → length xs ≡ 3 * m → a < 3 → length (take m (drop (m * a) xs)) ≡ m
row_length xs m a e h =
    let two : a ≤ 2 = omega arith in
    let far : m * a ≤ m * 2 = mul-le-mul_left m two in
    let rest = length-drop (m * a) xs in
    length-take-le m (drop (m * a) xs) (omega arith)

pub row_zeros : (m : ℕ) → take {A = ℕ} m (drop (m * 0) (replicate (3 * m) 0)) ≡ replicate m 0
row_zeros m =
    let z : ℕ = 0 in
    ap (λ (l : List ℕ). take m l) (drop-replicate (m * 0) (3 * m) z) ∙ take-replicate m (3 * m - m * 0) z (omega arith)

module _ {A : Type 0} where
  pub all_more : (P : A → Type 0) (xs : List A) (x : A) → AllByRecursion P xs → P x → AllByRecursion P (xs ++ x ∷ [])
  all_more P [] x all here = (here, tt)
  all_more P (y ∷ ys) x all here = (all.0, all_more P ys x all.1 here)
