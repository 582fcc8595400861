-- Reading and spelling are one where what is read is spelled so, and what is spelled is read back.
use Rattle.std.proofs.Common.{◌≡◌, ℕ, List, Option, Some, None, Result, Ok, Err, refl, ap, ◌∙◌}
use Rattle.std.specs.Prelude.{IsErr}
use Rattle.byte_laws.specs.Spelling.{IsBytes, unless_fault, ReadingIsSpelling}

pub no_fault_found : {A E : Type 0} (fault : Option E) (value v : A) → unless_fault fault value ≡ Ok v → (fault ≡ None) × (value ≡ v)
no_fault_found None value v e = (refl, cc)
no_fault_found (Some f) value v e = absurd cc

err_is_not : {A E : Type 0} (r : Result A E) (v : A) → IsErr r → r ≡ Ok v → ⊥
err_is_not (Ok x) v bad e = absurd cc
err_is_not (Err f) v bad e = absurd cc

none_is_err : {A E : Type 0} (r : Result A E) → ((v : A) → ¬ (r ≡ Ok v)) → IsErr r
none_is_err (Ok x) none = absurd (none x refl)
none_is_err (Err f) none = refl

read_as : {A E : Type 0} (x y : A) (r : Result A E) → r ≡ Ok x → r ≡ Ok y → x ≡ y
read_as x y r e f = cc

pub one_spelling : {A E : Type 0} (read : List ℕ → Result A E) (IsValid : A → Type 0) (spell : A → List ℕ)
    → ((bytes : List ℕ) (v : A) → IsBytes bytes → read bytes ≡ Ok v → IsValid v × (bytes ≡ spell v))
    → ((v : A) → IsValid v → read (spell v) ≡ Ok v) → ReadingIsSpelling read IsValid spell
one_spelling {A} read IsValid spell takes back =
    let read_so = λ (bytes : List ℕ) (v : A) (valid : IsValid v) (e : bytes ≡ spell v). ap read e ∙ back v valid in
    record {
      reads = λ bytes v fits. (takes bytes v fits, λ h. read_so bytes v h.0 h.1);
      refuses = λ bytes fits. (
        λ bad v valid e. err_is_not (read bytes) v bad (read_so bytes v valid e),
        λ none. none_is_err (read bytes) (λ v e. let h = takes bytes v fits e in none v h.0 h.1),
      );
      back = back;
      one = λ v w v_valid w_valid e. read_as v w (read (spell v)) (back v v_valid) (read_so (spell v) w w_valid e);
    }
