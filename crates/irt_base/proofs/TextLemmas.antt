-- Hexadecimal digits from the last to the first, and decimal digits read.
use Rattle.std.proofs.Common.{◌≡◌, ◌<◌, ℕ, zero, suc, ◌+◌, ◌/◌, ◌%◌, List, [], ◌∷◌, ◌++◌, length, drop, get_or, refl, sym, ◌∙◌, ap, arith, add-one, append_assoc, length-append, set, true, Some, Result, Ok, Err, subst}
use Rattle.std.proofs.lemmas.List.{drop-set}
use Rattle.std.specs.Prelude.{decimal, is_ok, MatchResult}
use Rattle.std.proofs.lemmas.Option.{same_Some}
use Rattle.std.specs.Result.{result_ok}
use Rattle.std.specs.Str.{IsUtf8}
use Rattle.std.specs.Str.Parse.{ParsesUnsigned}
use Rattle.std.proofs.lemmas.Fmt.{IsAscii-decimal, parse-decimal}
use Rattle.std.proofs.lemmas.Str.{IsUtf8-from_ascii}
use Rattle.irt_base.specs.Text.{hex_digits, hex_digit, IsDecimal}

pub hex_digits-suc : (count value : ℕ) → hex_digits (suc count) value ≡ hex_digits count (value / 16) ++ hex_digit (value % 16) ∷ []
unfolding hex_digits
hex_digits-suc count value = refl

pub hex_digits-zero : (value : ℕ) → hex_digits 0 value ≡ []
unfolding hex_digits
hex_digits-zero value = refl

-- one more digit is written before those that stand
pub hex_digits-step : (all : List ℕ) (out : List ℕ) (place value digit : ℕ) →
    all ≡ hex_digits (suc place) value ++ drop (suc place) out → place < length out → digit ≡ hex_digit (value % 16) →
    all ≡ hex_digits place (value / 16) ++ drop place (set out place digit)
hex_digits-step all out place value digit stands inside is =
    stands
    ∙ ap (λ d. d ++ drop (suc place) out) (hex_digits-suc place value)
    ∙ append_assoc (hex_digits place (value / 16)) (hex_digit (value % 16) ∷ []) (drop (suc place) out)
    ∙ ap (λ d. hex_digits place (value / 16) ++ d) (ap (λ b. b ∷ drop (suc place) out) (sym is) ∙ sym (drop-set out place digit inside ∙ rw add-one))

pub four_items : (xs : List ℕ) → length xs ≡ 4 → get_or xs 0 0 ∷ get_or xs 1 0 ∷ get_or xs 2 0 ∷ get_or xs 3 0 ∷ [] ≡ xs
four_items (a ∷ b ∷ c ∷ d ∷ []) e = refl
four_items [] e = absurd (omega arith)
four_items (a ∷ []) e = absurd (omega arith)
four_items (a ∷ b ∷ []) e = absurd (omega arith)
four_items (a ∷ b ∷ c ∷ []) e = absurd (omega arith)
four_items (a ∷ b ∷ c ∷ d ∷ f ∷ xs) e = absurd (omega arith)

-- no place is left
pub hex_digits-all : (all out : List ℕ) (place value : ℕ) → place ≡ 0 → all ≡ hex_digits place value ++ drop place out → out ≡ all
hex_digits-all all out place value none stands =
    sym (stands ∙ ap (λ n. hex_digits n value ++ drop n out) none ∙ ap (λ d. d ++ out) (hex_digits-zero value))

pub length-hex_digits : (count value : ℕ) → length (hex_digits count value) ≡ count
unfolding hex_digits
length-hex_digits zero value = refl
length-hex_digits (suc count) value = length-append (hex_digits count (value / 16)) _ ∙ ap (λ n. n + 1) (length-hex_digits count (value / 16)) ∙ add-one count

-- a number's text is UTF-8
pub decimal_IsUtf8 : (text : List ℕ) (n : ℕ) → IsDecimal text n → IsUtf8 text
decimal_IsUtf8 text n is = subst IsUtf8 (sym is.1) (IsUtf8-from_ascii (decimal n) (IsAscii-decimal n is.0))

pub ok_of : {A E : Type 0} (P : A → Type 0) (Q : E → Type 0) (U : Type 0) (r : Result A E) → U → MatchResult r P (λ e. ¬ U × Q e) → is_ok r ≡ true
ok_of P Q U (Ok x) u cases = refl
ok_of P Q U (Err e) u cases = absurd (cases.0 u)

pub read_back : {E : Type 0} (text : List ℕ) (n : ℕ) (r : Result ℕ E) → IsDecimal text n → ParsesUnsigned 64 10 text r → result_ok r ≡ Some n
read_back text n r is parses = ap result_ok (parse-decimal 64 n text r is.0 is.0 is.1 parses)

pub ok_fact : {A E : Type 0} (P : A → Type 0) (Q : E → Type 0) (r : Result A E) (x : A) → result_ok r ≡ Some x → MatchResult r P Q → P x
ok_fact P Q (Ok y) x e fact = subst P (same_Some y x e) fact
ok_fact P Q (Err f) x e fact = absurd cc
