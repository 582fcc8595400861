-- What a control word says, and lists of takes.
use Rattle.std.proofs.Common.{◌≡◌, ℕ, ◌+◌, ◌*◌, ◌/◌, ◌%◌, ◌<◌, ◌≤◌, true, false, List, [], ◌∷◌, ◌++◌, arith}
use Rattle.std.proofs.lemmas.Bool.Decides.{nat_tests}
use Rattle.std.specs.List.{AllByRecursion}
use Rattle.swap_core.proofs.Rows.{all_more}
use Rattle.io_buffers.specs.Given.{Given}
use Rattle.io_buffers.specs.Steps.{middle_in, fresh_in, number_in, fresh_word, spent_word, NeverFell}

pub middle-fresh : (a n : ℕ) → a < 3 → middle_in (fresh_word a n) ≡ a
middle-fresh a n h = omega arith

quarter : (a n : ℕ) → a < 3 → (a + 4 + 8 * n) / 4 % 2 ≡ 1
quarter a n h = omega arith

pub fresh-fresh : (a n : ℕ) → a < 3 → fresh_in (fresh_word a n) ≡ true
fresh-fresh a n h = let q = quarter a n h in grind (arith, nat_tests)

pub number-fresh : (a n : ℕ) → a < 3 → number_in (fresh_word a n) ≡ n
number-fresh a n h = omega arith

pub middle-spent : (a : ℕ) → a < 3 → middle_in (spent_word a) ≡ a
middle-spent a h = omega arith

pub number-spent : (a : ℕ) → a < 3 → number_in (spent_word a) ≡ 0
number-spent a h = omega arith

none : (a : ℕ) → a < 3 → a / 4 % 2 ≡ 0
none a h = omega arith

pub fresh-spent : (a : ℕ) → a < 3 → fresh_in (spent_word a) ≡ false
fresh-spent a h = let q = none a h in grind (arith, nat_tests)

module _ {A : Type 0} where
  -- what holds of each where one thing does, holds where the other does
  pub all_map : (P Q : A → Type 0) (xs : List A) → ((x : A) → P x → Q x) → AllByRecursion P xs → AllByRecursion Q xs
  all_map P Q [] f h = tt
  all_map P Q (x ∷ xs) f h = (f x h.0, all_map P Q xs f h.1)

-- one more take whose number is no less
pub fell_more : (ts : List Given) (t : Given) → NeverFell ts → AllByRecursion (λ (u : Given). u.taken.number ≤ t.taken.number) ts → NeverFell (ts ++ t ∷ [])
fell_more [] t h below = (tt, tt)
fell_more (u ∷ us) t h below = (all_more (λ (v : Given). u.taken.number ≤ v.taken.number) us t h.0 below.0, fell_more us t h.1 below.1)
