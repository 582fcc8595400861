-- The text of a value is read as that value, and what is read is a text.
use Rattle.std.proofs.Common.{◌≡◌, ◌<◌, ◌≤◌, ◌+◌, ◌-◌, ◌*◌, ◌/◌, ◌%◌, ◌^◌, ◌==◌, ◌&&◌, ℕ, zero, suc, ℤ, pos, negsuc, Bool, true, false, List, [], ◌∷◌, ◌++◌, length, drop, nat_le, nat_lt, Option, Some, None, refl, sym, ◌∙◌, ap, subst, arith, inl, inr}
use Rattle.std.specs.Prelude.{if◌then◌else◌, decimal, bytes_eq, IfSome}
use Rattle.std.specs.Fmt.{signed_decimal}
use Rattle.std.specs.List.{AllByRecursion}
use Rattle.std.specs.Str.Parse.{digits_value}
use Rattle.std.proofs.lemmas.Bool.{cases_Bool, and_parts, le-leb, leb-true, eqb-true}
use Rattle.std.proofs.lemmas.Bool.Decides.{nat_tests}
use Rattle.std.proofs.lemmas.Fmt.{decimal_is_IsNumeral, decimal_nonempty}
use Rattle.std.proofs.lemmas.Int.{ints}
use Rattle.std.proofs.lemmas.Option.{none-some, same_Some}
use Rattle.std.proofs.lemmas.Slice.Eq.{bytes_eq-Decides}
use Rattle.std.proofs.Math.Nat.{pow-suc}
use Rattle.irt_base.specs.Text.{IsDecimal, frame_text, hex_digit, hex_digits}
use Rattle.irt_base.specs.declared.numbers.FrameId.{FrameId}
use Rattle.irt_base.proofs.TextLemmas.{hex_digits-suc, hex_digits-zero}
use Rattle.record_laws.specs.Fitting.{IsTime}
use Rattle.record_laws.proofs.Fields.{decimal-digits, minus_size, plus_size}
use Rattle.record_reader.specs.Reading.{◌>>=◌, digit_of, frame_of, frame_value, hex_value, negated, number_of, number_up_to, time_of, word_of}

pub bytes-same : (xs ys : List ℕ) → xs ≡ ys → bytes_eq xs ys ≡ true
bytes-same xs ys same = (bytes_eq-Decides xs ys).1 same

pub same-bytes : (xs ys : List ℕ) → bytes_eq xs ys ≡ true → xs ≡ ys
same-bytes xs ys test = (bytes_eq-Decides xs ys).0 test

pub bind_some : {A B : Type 0} (o : Option A) (f : A → Option B) (y : B) → (o >>= f) ≡ Some y → (x : A) × (o ≡ Some x) × (f x ≡ Some y)
bind_some None f y is = absurd (none-some y is)
bind_some (Some x) f y is = (x, refl, is)

-- a test passed
pub when_some : {A : Type 0} (b : Bool) (x y : A) → (if b then Some x else None) ≡ Some y → (b ≡ true) × (x ≡ y)
when_some true x y is = (refl, same_Some x y is)
when_some false x y is = absurd (none-some y is)

-- ---- numbers

pub number_again : (text : List ℕ) (n : ℕ) → IsDecimal text n → number_of text ≡ Some n
unfolding number_of
number_again text n is =
    let value : digits_value 10 text ≡ n = ap (digits_value 10) is.1 ∙ (decimal_is_IsNumeral n is.0).1 in
    let small : nat_lt (digits_value 10 text) (2 ^ 64) ≡ true = small_test (digits_value 10 text) (omega (arith, value, is.0)) in
    let printed : bytes_eq text (decimal (digits_value 10 text)) ≡ true = bytes-same text (decimal (digits_value 10 text)) (is.1 ∙ ap decimal (sym value)) in
    rw (small, printed) (ap (λ m. Some m) value)
  where
    small_test : (m : ℕ) → m < 2 ^ 64 → nat_lt m (2 ^ 64) ≡ true
    small_test m below = grind (arith, nat_tests)

pub number_taken : (text : List ℕ) (n : ℕ) → number_of text ≡ Some n → IsDecimal text n
unfolding number_of
number_taken text n is =
    let (tests, value) = when_some (nat_lt (digits_value 10 text) (2 ^ 64) && bytes_eq text (decimal (digits_value 10 text))) (digits_value 10 text) n is in
    let (small, printed) = and_parts (nat_lt (digits_value 10 text) (2 ^ 64)) (bytes_eq text (decimal (digits_value 10 text))) tests in
    subst (λ m. IsDecimal text m) value (below (digits_value 10 text) small, same-bytes text (decimal (digits_value 10 text)) printed)
  where
    below : (m : ℕ) → nat_lt m (2 ^ 64) ≡ true → m < 2 ^ 64
    below m test = grind (arith, nat_tests)

pub number_is : (text : List ℕ) (r : Option ℕ) → IfSome r (λ n. IsDecimal text n) → ((n : ℕ) → IsDecimal text n → r ≡ Some n) → number_of text ≡ r
number_is text (Some n) found only = number_again text n found
number_is text None found only = none (number_of text) refl
  where
    none : (o : Option ℕ) → number_of text ≡ o → number_of text ≡ None
    none None is = is
    none (Some n) is = absurd (none-some n (only n (number_taken text n is)))

pub number_up_to-again : (max n : ℕ) (text : List ℕ) → n < 2 ^ 64 → n ≤ max → text ≡ decimal n → number_up_to max text ≡ Some n
number_up_to-again max n text fits small is =
    ap (λ (o : Option ℕ). o >>= λ n. if nat_le n max then Some n else None) (number_again text n (fits, is))
    ∙ ap (λ b. if b then Some n else None) (le-leb n max small)

pub number_up_to-taken : (max n : ℕ) (text : List ℕ) → number_up_to max text ≡ Some n → (n < 2 ^ 64) × (n ≤ max) × (text ≡ decimal n)
number_up_to-taken max n text is =
    let (m, read, test) = bind_some (number_of text) (λ n. if nat_le n max then Some n else None) n is in
    let (small, same) = when_some (nat_le m max) m n test in
    let number = number_taken text m read in
    let bound : m ≤ max = leb-true m max small in
    (omega (arith, same, number.0), omega (arith, same, bound), number.1 ∙ ap decimal same)

-- ---- times

pub time_again : (z : ℤ) → IsTime z → time_of (signed_decimal z) ≡ Some z
unfolding time_of
time_again (pos n) fits =
    plus_read (decimal n) (decimal-digits n (plus_size n fits)) (decimal_nonempty n (plus_size n fits))
    ∙ ap (λ (o : Option ℕ). o >>= λ m. Some (pos m)) (number_up_to-again (2 ^ 63 - 1) n (decimal n) (plus_size n fits) (omega (arith, ints, fits)) refl)
  where
    not_minus : (b : ℕ) → 48 ≤ b → (b == 45) ≡ false
    not_minus b digit = grind (arith, nat_tests)

    plus_read : (text : List ℕ) → AllByRecursion (λ b. 48 ≤ b) text → 0 < length text → time_of text ≡ (number_up_to (2 ^ 63 - 1) text >>= λ m. Some (pos m))
    plus_read [] digits some = absurd (omega arith)
    plus_read (b ∷ bs) digits some = rw (not_minus b digits.0) refl
time_again (negsuc n) fits =
    ap (λ (o : Option ℕ). o >>= negated) (number_up_to-again (2 ^ 63) (suc n) (decimal (suc n)) (minus_size n fits) (omega (arith, ints, fits)) refl)

pub time_taken : (text : List ℕ) (z : ℤ) → time_of text ≡ Some z → IsTime z × (text ≡ signed_decimal z)
unfolding time_of
time_taken [] z is = absurd (none-some z is)
time_taken (b ∷ bs) z is =
    elim (cases_Bool (b == 45)) [
      | inl minus ↦ minus_taken (eqb-true b 45 minus) (rw minus at is)
      | inr plus ↦
          let (n, read, same) = bind_some (number_up_to (2 ^ 63 - 1) (b ∷ bs)) (λ m. Some (pos m)) z (rw plus at is) in
          let (fits, small, printed) = number_up_to-taken (2 ^ 63 - 1) n (b ∷ bs) read in
          subst (λ z. IsTime z × (b ∷ bs ≡ signed_decimal z)) (same_Some (pos n) z same) (plus_fits n small, printed)
    ]
  where
    plus_fits : (n : ℕ) → n ≤ 2 ^ 63 - 1 → IsTime (pos n)
    plus_fits n small = grind (arith, ints)

    minus_fits : (n : ℕ) → suc n ≤ 2 ^ 63 → IsTime (negsuc n)
    minus_fits n small = grind (arith, ints)

    minus_size_taken : (n : ℕ) → b ≡ 45 → n ≤ 2 ^ 63 → bs ≡ decimal n → negated n ≡ Some z → IsTime z × (b ∷ bs ≡ signed_decimal z)
    minus_size_taken zero minus small printed same = absurd (none-some z same)
    minus_size_taken (suc n) minus small printed same =
        subst (λ z. IsTime z × (b ∷ bs ≡ signed_decimal z)) (same_Some (negsuc n) z same) (minus_fits n small, λ i. minus i ∷ printed i)

    minus_taken : b ≡ 45 → (number_up_to (2 ^ 63) bs >>= negated) ≡ Some z → IsTime z × (b ∷ bs ≡ signed_decimal z)
    minus_taken minus read =
        let (n, found, same) = bind_some (number_up_to (2 ^ 63) bs) negated z read in
        let (fits, small, printed) = number_up_to-taken (2 ^ 63) n bs found in
        minus_size_taken n minus small printed same

-- ---- hexadecimal digits

pub hex_value-more : (xs : List ℕ) (value b : ℕ) → hex_value value (xs ++ b ∷ []) ≡ hex_value value xs % 2 ^ 60 * 16 + digit_of b
unfolding hex_value
hex_value-more [] value b = refl
hex_value-more (x ∷ xs) value b = hex_value-more xs (value % 2 ^ 60 * 16 + digit_of x) b

digit-again : (n : ℕ) → n < 16 → digit_of (hex_digit n) ≡ n
digit-again n small = grind (arith, nat_tests)

hex_value-none : hex_value 0 [] ≡ 0
unfolding hex_value
hex_value-none = refl

hex_value-again : (count n : ℕ) → n < 16 ^ count → n < 2 ^ 64 → hex_value 0 (hex_digits count n) ≡ n
hex_value-again zero n fits small = ap (hex_value 0) (hex_digits-zero n) ∙ (hex_value-none ∙ omega arith)
hex_value-again (suc count) n fits small =
    let power : 16 ^ suc count ≡ 16 ^ count * 16 = pow-suc 16 count in
    let front : hex_value 0 (hex_digits count (n / 16)) ≡ n / 16 = hex_value-again count (n / 16) (omega arith) (omega arith) in
    let digit : digit_of (hex_digit (n % 16)) ≡ n % 16 = digit-again (n % 16) (omega arith) in
    let value : hex_value 0 (hex_digits count (n / 16)) % 2 ^ 60 * 16 + digit_of (hex_digit (n % 16)) ≡ n = omega arith in
    ap (hex_value 0) (hex_digits-suc count n) ∙ (hex_value-more (hex_digits count (n / 16)) 0 (hex_digit (n % 16)) ∙ value)

pub word_again : (n : ℕ) → n < 2 ^ 64 → word_of (hex_digits 16 n) ≡ Some n
unfolding word_of
word_again n fits =
    let value : hex_value 0 (hex_digits 16 n) ≡ n = hex_value-again 16 n fits fits in
    let test : bytes_eq (hex_digits 16 n) (hex_digits 16 (hex_value 0 (hex_digits 16 n))) ≡ true =
    bytes-same (hex_digits 16 n) (hex_digits 16 (hex_value 0 (hex_digits 16 n))) (ap (hex_digits 16) (sym value)) in
    rw test (ap (λ m. Some m) value)

hex_value-small : (xs : List ℕ) (value : ℕ) → value < 2 ^ 64 → hex_value value xs < 2 ^ 64
unfolding hex_value
hex_value-small [] value fits = fits
hex_value-small (x ∷ xs) value fits = hex_value-small xs (value % 2 ^ 60 * 16 + digit_of x) (step (digit_of x) (digit-small x))
  where
    digit-small : (b : ℕ) → digit_of b < 16
    digit-small b = grind (arith, nat_tests)

    step : (d : ℕ) → d < 16 → value % 2 ^ 60 * 16 + d < 2 ^ 64
    step d small = omega arith

pub word_taken : (text : List ℕ) (n : ℕ) → word_of text ≡ Some n → (n < 2 ^ 64) × (text ≡ hex_digits 16 n)
unfolding word_of
word_taken text n is =
    let (test, value) = when_some (bytes_eq text (hex_digits 16 (hex_value 0 text))) (hex_value 0 text) n is in
    let small : hex_value 0 text < 2 ^ 64 = hex_value-small text 0 (omega arith) in
    (omega (arith, value, small), same-bytes text (hex_digits 16 (hex_value 0 text)) test ∙ ap (hex_digits 16) value)

pub frame_again : (f : FrameId) → f.0 < 2 ^ 16 → frame_of (frame_text f.0) ≡ Some f
unfolding frame_of
frame_again f fits =
    let inner : hex_value 0 (hex_digits 4 f.0) ≡ f.0 = hex_value-again 4 f.0 fits (omega arith) in
    let value : frame_value (frame_text f.0) ≡ f.0 = ap (λ v. v % 2 ^ 16) inner ∙ omega arith in
    let test : bytes_eq (frame_text f.0) (frame_text (frame_value (frame_text f.0))) ≡ true =
    bytes-same (frame_text f.0) (frame_text (frame_value (frame_text f.0))) (ap frame_text (sym value)) in
    rw test (ap (λ (m : ℕ). of m) value)
  where
    of : ℕ → Option FrameId
    of m = Some (record { 0 = m })

pub frame_taken : (text : List ℕ) (f : FrameId) → frame_of text ≡ Some f → (f.0 < 2 ^ 16) × (text ≡ frame_text f.0)
unfolding frame_of
frame_taken text f is =
    let (test, value) = when_some (bytes_eq text (frame_text (frame_value text))) (frame (frame_value text)) f is in
    let same : frame_value text ≡ f.0 = ap (λ (g : FrameId). g.0) value in
    (subst (λ v. v < 2 ^ 16) same (below (hex_value 0 (drop 2 text))), same-bytes text (frame_text (frame_value text)) test ∙ ap frame_text same)
  where
    frame : ℕ → FrameId
    frame m = record { 0 = m }

    below : (v : ℕ) → v % 2 ^ 16 < 2 ^ 16
    below v = omega arith
