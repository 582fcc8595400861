-- The text of a number is read as that number, and what is read is a text.
use Rattle.std.proofs.Common.{◌≡◌, ◌<◌, ◌≤◌, ◌+◌, ◌-◌, ◌*◌, ◌/◌, ◌%◌, ◌==◌, ℕ, zero, suc, ℤ, pos, negsuc, true, false, min, List, [], ◌∷◌, ◌++◌, map, Some, refl, sym, ◌∙◌, ap, subst, arith, append_assoc, nat_le, inl, inr}
use Rattle.std.specs.Int.Digits.{digits_of}
use Rattle.std.proofs.lemmas.Bool.{cases_Bool, cases_lt, and_from, le-leb, eqb-true}
use Rattle.std.proofs.lemmas.Int.Digits.{digits_of_step}
use Rattle.std.proofs.lemmas.List.{map-append}
use Rattle.std.proofs.lemmas.Option.{none-some}
use Rattle.world_file.specs.Reading.{digits_read, integer_read, is_digit, natural_read, number_read, plain}
use Rattle.world_file.specs.Text.{integer_text, natural_text}
use Rattle.world_file.specs.declared.number.Number.{Number}
use Rattle.world_file.specs.declared.number.TheConstants.{FAR}

natural_text-positive : (n : ℕ) → 0 < n → natural_text n ≡ map (λ d. 48 + d) (digits_of 10 n)
unfolding natural_text
natural_text-positive zero some = absurd (omega arith)
natural_text-positive (suc n) some = refl

pub natural_text-zero : natural_text 0 ≡ 48 ∷ []
unfolding natural_text
natural_text-zero = refl

-- a further digit
pub natural_text-more : (n d : ℕ) → 0 < n → d < 10 → natural_text (10 * n + d) ≡ natural_text n ++ (48 + d) ∷ []
natural_text-more n d some digit =
    let front : (10 * n + d) / 10 ≡ n = omega arith in
    let last : (10 * n + d) % 10 ≡ d = omega arith in
    natural_text-positive (10 * n + d) (omega arith)
    ∙ ap (map (λ e. 48 + e)) (digits_of_step 10 (10 * n + d) (omega arith) (omega arith))
    ∙ map-append (λ e. 48 + e) (digits_of 10 ((10 * n + d) / 10)) ((10 * n + d) % 10 ∷ [])
    ∙ ap (λ m. map (λ e. 48 + e) (digits_of 10 m) ++ (48 + (10 * n + d) % 10) ∷ []) front
    ∙ ap (λ m. map (λ e. 48 + e) (digits_of 10 n) ++ (48 + m) ∷ []) last
    ∙ ap (λ text. text ++ (48 + d) ∷ []) (sym (natural_text-positive n some))

pub natural_text-digit : (n : ℕ) → 0 < n → n < 10 → natural_text n ≡ (48 + n) ∷ []
natural_text-digit n some small =
    let front : n / 10 ≡ 0 = omega arith in
    let last : n % 10 ≡ n = omega arith in
    natural_text-positive n some
    ∙ ap (map (λ e. 48 + e)) (digits_of_step 10 n (omega arith) some)
    ∙ ap (λ m. map (λ e. 48 + e) (digits_of 10 m ++ n % 10 ∷ [])) front
    ∙ ap (λ m. (48 + m) ∷ []) last

-- the text goes on without a digit
abbrev pub NoDigit : List ℕ → Type 0
NoDigit [] = Unit {0}
NoDigit (b ∷ bs) = is_digit b ≡ false

pub digits_read-end : (n : ℕ) (rest : List ℕ) → NoDigit rest → digits_read n rest ≡ (n, rest)
unfolding digits_read
digits_read-end n [] none = refl
digits_read-end n (b ∷ bs) none = rw none refl

pub digits_read-digit : (n b : ℕ) (bs : List ℕ) → is_digit b ≡ true → digits_read n (b ∷ bs) ≡ digits_read (min (10 * n + (b - 48)) FAR) bs
unfolding digits_read
digits_read-digit n b bs digit = rw digit refl

pub is_digit-from : (d : ℕ) → d < 10 → is_digit (48 + d) ≡ true
is_digit-from d small = and_from (nat_le 48 (48 + d)) (nat_le (48 + d) 57) (le-leb 48 (48 + d) (omega arith)) (le-leb (48 + d) 57 (omega arith))

differ : (b c : ℕ) → (b ≡ c → ⊥) → (b == c) ≡ false
differ b c apart = elim (cases_Bool (b == c)) [ inl same ↦ absurd (apart (eqb-true b c same)) | inr not_same ↦ not_same ]

-- digits, of which the first is none, are read on
digits_again : (fuel n : ℕ) (more : List ℕ) → n ≤ fuel → 0 < n → natural_read (natural_text n ++ more) ≡ Some (digits_read (min n FAR) more)
digits_again zero n more within some = absurd (omega arith)
digits_again (suc fuel) n more within some =
    elim (cases_lt n 10) [
      | inl small ↦
          let no_zero : (48 + n == 48) ≡ false = differ (48 + n) 48 (λ same. absurd (omega (arith, same))) in
          let size : 48 + n - 48 ≡ min n FAR = omega arith in
          rw (natural_text-digit n some small, no_zero, is_digit-from n small, size) refl
      | inr large ↦
          let whole : 10 * (n / 10) + n % 10 ≡ n = omega arith in
          let size : min (10 * min (n / 10) FAR + (48 + n % 10 - 48)) FAR ≡ min n FAR = omega arith in
          ap (λ m. natural_read (natural_text m ++ more)) (sym whole)
          ∙ ap (λ text. natural_read (text ++ more)) (natural_text-more (n / 10) (n % 10) (omega arith) (omega arith))
          ∙ ap natural_read (append_assoc (natural_text (n / 10)) ((48 + n % 10) ∷ []) more)
          ∙ digits_again fuel (n / 10) ((48 + n % 10) ∷ more) (omega arith) (omega arith)
          ∙ ap (λ r. Some r) (digits_read-digit (min (n / 10) FAR) (48 + n % 10) more (is_digit-from (n % 10) (omega arith)) ∙ ap (λ m. digits_read m more) size)
    ]

pub natural_again : (n : ℕ) (rest : List ℕ) → NoDigit rest → natural_read (natural_text n ++ rest) ≡ Some (min n FAR, rest)
natural_again zero rest none = rw natural_text-zero refl
natural_again (suc n) rest none = digits_again (suc n) (suc n) rest (omega arith) (omega arith) ∙ ap (λ r. Some r) (digits_read-end (min (suc n) FAR) rest none)

-- a number of a line as it is read
abbrev pub near : ℤ → Number
near (pos n) = record { negative = false; size = min n FAR }
near (negsuc n) = record { negative = true; size = min (suc n) FAR }

integer_plain : (bytes : List ℕ) (x : ℕ × List ℕ) → natural_read bytes ≡ Some x → integer_read bytes ≡ Some (plain x)
integer_plain [] x read = absurd (none-some x read)
integer_plain (b ∷ bs) x read =
    elim (cases_Bool (b == 45)) [
      | inl minus ↦ absurd (none-some x (subst (λ c. natural_read (c ∷ bs) ≡ Some x) (eqb-true b 45 minus) read))
      | inr no_minus ↦ rw (no_minus, read) refl
    ]

pub integer_again : (z : ℤ) (rest : List ℕ) → NoDigit rest → integer_read (integer_text z ++ rest) ≡ Some (near z, rest)
integer_again (pos n) rest none = integer_plain (natural_text n ++ rest) (min n FAR, rest) (natural_again n rest none)
integer_again (negsuc n) rest none =
    let some : (min (suc n) FAR == 0) ≡ false = differ (min (suc n) FAR) 0 (λ same. absurd (omega (arith, same))) in
    rw (natural_again (suc n) rest none, some) refl

pub number_again : (z : ℤ) (rest : List ℕ) → NoDigit rest → number_read (32 ∷ (integer_text z ++ rest)) ≡ Some (near z, rest)
unfolding number_read
number_again z rest none = integer_again z rest none
