-- Numbers as they are printed.
use Rattle.std.proofs.Common.{◌≡◌, ℕ, ◌<◌, ◌^◌, ◌&&◌, Bool, true, false, List, Option, Some, None, refl, sym, ◌∙◌, ap, subst, arith, nat_lt, decimal}
use Rattle.std.proofs.lemmas.Bool.Decides.{nat_tests}
use Rattle.std.specs.Prelude.{IfSome, if◌then◌else◌}
use Rattle.std.specs.Str.{bytes_eq}
use Rattle.std.specs.Str.Parse.{digits_value}
use Rattle.std.proofs.lemmas.Fmt.{decimal_is_IsNumeral}
use Rattle.std.proofs.lemmas.Slice.Eq.{bytes_eq-Decides}
use Rattle.irt_base.specs.Text.{IsDecimal}
use Rattle.irt_words.specs.Asked.{as_number}

-- the tests of a number's text
abbrev passes : List ℕ → Bool
passes text = nat_lt (digits_value 10 text) (2 ^ 64) && bytes_eq text (decimal (digits_value 10 text))

passed : (n : ℕ) (text digits : List ℕ) → nat_lt n (2 ^ 64) && bytes_eq text digits ≡ true → (n < 2 ^ 64) × (text ≡ digits)
passed n text digits is = go (nat_lt n (2 ^ 64)) (bytes_eq text digits) refl refl is
  where
    go : (small same : Bool) → nat_lt n (2 ^ 64) ≡ small → bytes_eq text digits ≡ same → small && same ≡ true → (n < 2 ^ 64) × (text ≡ digits)
    go true true below equal both = (grind (arith, nat_tests), (bytes_eq-Decides text digits).0 equal)
    go true false below equal both = absurd cc
    go false same below equal both = absurd cc

-- a number's text passes
written : (text : List ℕ) (n : ℕ) → IsDecimal text n → digits_value 10 text ≡ n
written text n is = ap (digits_value 10) is.1 ∙ (decimal_is_IsNumeral n is.0).1

passes_written : (text : List ℕ) (n : ℕ) → IsDecimal text n → passes text ≡ true
passes_written text n is =
    let same : digits_value 10 text ≡ n = written text n is in
    let small : nat_lt (digits_value 10 text) (2 ^ 64) ≡ true = subst (λ m. nat_lt m (2 ^ 64) ≡ true) (sym same) (grind (arith, nat_tests)) in
    let equal : bytes_eq text (decimal (digits_value 10 text)) ≡ true =
    subst (λ m. bytes_eq text (decimal m) ≡ true) (sym same) ((bytes_eq-Decides text (decimal n)).1 is.1) in
    ap (λ b. b && bytes_eq text (decimal (digits_value 10 text))) small ∙ equal

pub number_read : (text : List ℕ) (r : Option ℕ) → IfSome r (λ n. IsDecimal text n) → ((n : ℕ) → IsDecimal text n → r ≡ Some n) → r ≡ as_number text
number_read text r found only = go (passes text) refl
  where
    some_not : (n : ℕ) → passes text ≡ false → IsDecimal text n → ⊥
    some_not n fails is = never (sym fails ∙ passes_written text n is)
      where
        never : false ≡ true → ⊥
        never is = absurd cc

    none_left : (r : Option ℕ) → IfSome r (λ n. IsDecimal text n) → passes text ≡ false → r ≡ None
    none_left None found fails = refl
    none_left (Some n) found fails = absurd (some_not n fails found)

    go : (b : Bool) → passes text ≡ b → r ≡ as_number text
    go true is = only (digits_value 10 text) (passed (digits_value 10 text) text (decimal (digits_value 10 text)) is) ∙ ap (λ b. if b then Some (digits_value 10 text) else None) (sym is)
    go false is = none_left r found is ∙ ap (λ b. if b then Some (digits_value 10 text) else None) (sym is)

-- the number that was printed is read back
pub number_back : (text : List ℕ) (n : ℕ) → IsDecimal text n → as_number text ≡ Some n
number_back text n is = ap (λ b. if b then Some (digits_value 10 text) else None) (passes_written text n is) ∙ ap Some (written text n is)
