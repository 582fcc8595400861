-- What is read as a number is its text.
use Rattle.std.proofs.Common.{◌≡◌, ◌<◌, ◌≤◌, ◌+◌, ◌-◌, ◌*◌, ◌==◌, ℕ, zero, suc, ℤ, pos, negsuc, true, false, min, List, [], ◌∷◌, ◌++◌, Option, Some, None, refl, sym, ◌∙◌, ap, arith, append_assoc, nat_le, inl, inr}
use Rattle.std.proofs.lemmas.Bool.{cases_Bool, cases_lt, and_parts, leb-true, eqb-true, eq-eqb}
use Rattle.std.proofs.lemmas.Option.{none-some, same_Some}
use Rattle.world_file.specs.Reading.{◌>>=◌, digits_read, integer_read, is_digit, natural_read, negative_read, number_read, plain}
use Rattle.world_file.specs.Text.{integer_text, natural_text}
use Rattle.world_file.specs.declared.number.Number.{Number}
use Rattle.world_file.specs.declared.number.TheConstants.{FAR}
use Rattle.world_file.proofs.NumberText.{digits_read-digit, digits_read-end, natural_text-digit, natural_text-more, natural_text-zero, near}

-- The bytes are a number's text and the rest, and the size is that of the number.
pub record IsNatural (bytes : List ℕ) (x : ℕ × List ℕ) : Type 0 where
  pub n : ℕ
  pub size : x.0 ≡ min n FAR
  pub text : bytes ≡ natural_text n ++ x.1

digit_within : (b : ℕ) → is_digit b ≡ true → (48 ≤ b) × (b ≤ 57)
digit_within b digit =
    let (low, high) = and_parts (nat_le 48 b) (nat_le b 57) digit in
    (leb-true 48 b low, leb-true b 57 high)

digits_taken : (n : ℕ) (bytes : List ℕ) → 0 < n → IsNatural (natural_text n ++ bytes) (digits_read (min n FAR) bytes)
digits_taken n [] some = record { n = n; size = ap (λ x. x.0) (digits_read-end (min n FAR) [] tt); text = ap (λ x. natural_text n ++ x.1) (sym (digits_read-end (min n FAR) [] tt)) }
digits_taken n (b ∷ bs) some =
    elim (cases_Bool (is_digit b)) [
      | inl digit ↦
          let within = digit_within b digit in
          let more = digits_taken (10 * n + (b - 48)) bs (omega (arith, within)) in
          let size : min (10 * n + (b - 48)) FAR ≡ min (10 * min n FAR + (b - 48)) FAR = omega arith in
          let same : digits_read (min (10 * n + (b - 48)) FAR) bs ≡ digits_read (min n FAR) (b ∷ bs) =
          ap (λ m. digits_read m bs) size ∙ sym (digits_read-digit (min n FAR) b bs digit) in
          let back : 48 + (b - 48) ≡ b = omega (arith, within) in
          let text : natural_text n ++ b ∷ bs ≡ natural_text (10 * n + (b - 48)) ++ bs =
          sym (ap (λ t. t ++ bs) (natural_text-more n (b - 48) some (omega (arith, within))) ∙ append_assoc (natural_text n) ((48 + (b - 48)) ∷ []) bs
          ∙ ap (λ c. natural_text n ++ c ∷ bs) back) in
          record {
            n = more.n;
            size = ap (λ x. x.0) (sym same) ∙ more.size;
            text = text ∙ more.text ∙ ap (λ x. natural_text more.n ++ x.1) same;
          }
      | inr none ↦
          let end = digits_read-end (min n FAR) (b ∷ bs) none in
          record { n = n; size = ap (λ x. x.0) end; text = ap (λ x. natural_text n ++ x.1) (sym end) }
    ]

false_true : false ≡ true → ⊥
false_true is = cc

not_zero : (b : ℕ) → (b == 0) ≡ false → b ≡ 0 → ⊥
not_zero b test same = false_true (sym test ∙ eq-eqb b 0 same)

not_equal : (b : ℕ) → (b == 48) ≡ false → b ≡ 48 → ⊥
not_equal b test same = false_true (sym test ∙ eq-eqb b 48 same)

positive : (b : ℕ) → 48 ≤ b → (b ≡ 48 → ⊥) → 0 < b - 48
positive b low no_zero = elim (cases_lt 0 (b - 48)) [ inl some ↦ some | inr none ↦ absurd (no_zero (omega arith)) ]

pub natural_taken : (bytes : List ℕ) (x : ℕ × List ℕ) → natural_read bytes ≡ Some x → IsNatural bytes x
natural_taken [] x read = absurd (none-some x read)
natural_taken (b ∷ bs) x read =
    elim (cases_Bool (b == 48)) [
      | inl zero_first ↦
          let is : (0, bs) ≡ x = same_Some (0, bs) x (rw zero_first at read) in
          let first : b ≡ 48 = eqb-true b 48 zero_first in
          record {
            n = 0;
            size = ap (λ (y : ℕ × List ℕ). y.0) (sym is);
            text = ap (λ c. c ∷ bs) first ∙ ap (λ t. t ++ bs) (sym natural_text-zero) ∙ ap (λ (y : ℕ × List ℕ). natural_text 0 ++ y.1) is;
          }
      | inr other_first ↦
          elim (cases_Bool (is_digit b)) [
            | inl digit ↦
                let within = digit_within b digit in
                let no_zero : b ≡ 48 → ⊥ = λ same. not_equal b other_first same in
                let some : 0 < b - 48 = positive b within.0 no_zero in
                let is : digits_read (b - 48) bs ≡ x = same_Some (digits_read (b - 48) bs) x (rw (other_first, digit) at read) in
                let small : min (b - 48) FAR ≡ b - 48 = omega (arith, within) in
                let more = digits_taken (b - 48) bs some in
                let same : digits_read (min (b - 48) FAR) bs ≡ x = ap (λ m. digits_read m bs) small ∙ is in
                let back : 48 + (b - 48) ≡ b = omega (arith, within) in
                record {
                  n = more.n;
                  size = ap (λ y. y.0) (sym same) ∙ more.size;
                  text = ap (λ c. c ∷ bs) (sym back) ∙ ap (λ t. t ++ bs) (sym (natural_text-digit (b - 48) some (omega (arith, within)))) ∙ more.text
                      ∙ ap (λ y. natural_text more.n ++ y.1) same;
                }
            | inr none ↦ absurd (none-some x (rw (other_first, none) at read))
          ]
    ]

-- The bytes are a number's text and the rest, and the number is as it is read.
pub record IsNumber (bytes : List ℕ) (x : Number × List ℕ) : Type 0 where
  pub z : ℤ
  pub near : x.0 ≡ near z
  pub text : bytes ≡ integer_text z ++ x.1

with_minus : (b : ℕ) (bs : List ℕ) (y : ℕ × List ℕ) (n : ℕ) → y.0 ≡ min n FAR → bs ≡ natural_text n ++ y.1 → (x : Number × List ℕ) → b ≡ 45 →
    (y.0 == 0) ≡ false → (record { negative = true; size = y.0 }, y.1) ≡ x → IsNumber (b ∷ bs) x
with_minus b bs y zero size text x minus something whole = absurd (not_zero y.0 something size)
with_minus b bs y (suc n) size text x minus something whole = record {
  z = negsuc n;
  near = ap (λ (w : Number × List ℕ). w.0) (sym whole) ∙ ap (λ m. record { negative = true; size = m }) size;
  text = ap (λ c. c ∷ bs) minus ∙ ap (λ t. 45 ∷ t) text ∙ ap (λ (w : Number × List ℕ). 45 ∷ (natural_text (suc n) ++ w.1)) whole;
}

plain_taken : (bytes : List ℕ) (read : Option (ℕ × List ℕ)) → natural_read bytes ≡ read → (x : Number × List ℕ) → (read >>= λ y. Some (plain y)) ≡ Some x → IsNumber bytes x
plain_taken bytes None is x same = absurd (none-some x same)
plain_taken bytes (Some y) is x same =
    let taken = natural_taken bytes y is in
    let whole = same_Some (plain y) x same in
    record {
      z = pos taken.n;
      near = ap (λ (w : Number × List ℕ). w.0) (sym whole) ∙ ap (λ n. record { negative = false; size = n }) taken.size;
      text = taken.text ∙ ap (λ (w : Number × List ℕ). natural_text taken.n ++ w.1) whole;
    }

negative_taken : (b : ℕ) (bs : List ℕ) (read : Option (ℕ × List ℕ)) → natural_read bs ≡ read → (x : Number × List ℕ) → b ≡ 45 → (read >>= negative_read) ≡ Some x → IsNumber (b ∷ bs) x
negative_taken b bs None is x minus same = absurd (none-some x same)
negative_taken b bs (Some y) is x minus same =
    elim (cases_Bool (y.0 == 0)) [
      | inl nothing ↦ absurd (none-some x (rw nothing at same))
      | inr something ↦
          let taken = natural_taken bs y is in
          with_minus b bs y taken.n taken.size taken.text x minus something (same_Some (record { negative = true; size = y.0 }, y.1) x (rw something at same))
    ]

integer_taken : (bytes : List ℕ) (x : Number × List ℕ) → integer_read bytes ≡ Some x → IsNumber bytes x
integer_taken [] x read = absurd (none-some x read)
integer_taken (b ∷ bs) x read =
    elim (cases_Bool (b == 45)) [
      | inl minus ↦ negative_taken b bs (natural_read bs) refl x (eqb-true b 45 minus) (rw minus at read)
      | inr plus ↦ plain_taken (b ∷ bs) (natural_read (b ∷ bs)) refl x (rw plus at read)
    ]

pub number_taken : (bytes : List ℕ) (x : Number × List ℕ) → number_read bytes ≡ Some x → (rest : List ℕ) × (bytes ≡ 32 ∷ rest) × IsNumber rest x
unfolding number_read
number_taken [] x read = absurd (none-some x read)
number_taken (b ∷ bs) x read =
    elim (cases_Bool (b == 32)) [
      | inl space ↦ (bs, ap (λ c. c ∷ bs) (eqb-true b 32 space), integer_taken bs x (rw space at read))
      | inr no_space ↦ absurd (none-some x (rw no_space at read))
    ]
