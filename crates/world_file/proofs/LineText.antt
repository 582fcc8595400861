-- A line's text is read as the line, and what is read is the text of a line.
use Rattle.std.proofs.Common.{◌≡◌, ◌<◌, ◌≤◌, ◌==◌, ℕ, zero, suc, ℤ, List, [], ◌∷◌, ◌++◌, length, Option, Some, None, refl, sym, ◌∙◌, ap, arith, append_assoc, length-append, inl, inr}
use Rattle.std.proofs.lemmas.Bool.{cases_Bool, eqb-true}
use Rattle.std.proofs.lemmas.Option.{none-some, same_Some}
use Rattle.world_file.specs.Reading.{◌>>=◌, each_read, links_read, number_read, with_link}
use Rattle.world_file.specs.Text.{integer_text, numbers_text}
use Rattle.world_file.specs.declared.draft.Draft.{Draft}
use Rattle.world_file.specs.declared.number.Number.{Number}
use Rattle.world_file.proofs.NumberText.{NoDigit, near, number_again}
use Rattle.world_file.proofs.NumberTaken.{number_taken}

pub bind_some : {A B : Type 0} (o : Option A) (f : A → Option B) (y : B) → (o >>= f) ≡ Some y → (x : A) × (o ≡ Some x) × (f x ≡ Some y)
bind_some None f y is = absurd (none-some y is)
bind_some (Some x) f y is = (x, refl, is)

-- after a number comes the next, or what comes after all
no_digit_next : (zs : List ℤ) (rest : List ℕ) → NoDigit rest → NoDigit (numbers_text zs ++ rest)
no_digit_next [] rest none = none
no_digit_next (z ∷ zs) rest none = refl

numbers_first : (z : ℤ) (zs : List ℤ) (rest : List ℕ) → numbers_text (z ∷ zs) ++ rest ≡ 32 ∷ (integer_text z ++ (numbers_text zs ++ rest))
numbers_first z zs rest = ap (λ t. 32 ∷ t) (append_assoc (integer_text z) (numbers_text zs) rest)

-- The draft after a number for each item.
abbrev pub each_with : {X : Type 0} → (Draft → X → Number → Draft) → List X → List ℤ → Draft → Draft
each_with step [] zs d = d
each_with step (x ∷ xs) [] d = d
each_with step (x ∷ xs) (z ∷ zs) d = each_with step xs zs (step d x (near z))

pub each_again : {X : Type 0} (step : Draft → X → Number → Draft) (xs : List X) (zs : List ℤ) (d : Draft) (rest : List ℕ) → length zs ≡ length xs → NoDigit rest →
    each_read step xs d (numbers_text zs ++ rest) ≡ Some (each_with step xs zs d, rest)
each_again step [] [] d rest same none = refl
each_again step [] (z ∷ zs) d rest same none = absurd (omega arith)
each_again step (x ∷ xs) [] d rest same none = absurd (omega arith)
each_again step (x ∷ xs) (z ∷ zs) d rest same none =
    ap (λ t. number_read t >>= λ y. each_read step xs (step d x y.0) y.1) (numbers_first z zs rest)
    ∙ ap (λ (r : Option (Number × List ℕ)). r >>= λ y. each_read step xs (step d x y.0) y.1) (number_again z (numbers_text zs ++ rest) (no_digit_next zs rest none))
    ∙ each_again step xs zs (step d x (near z)) rest (omega arith) none

-- The bytes are a number for each item, and the rest.
pub record AreNumbers {X : Type 0} (step : Draft → X → Number → Draft) (xs : List X) (d : Draft) (bytes : List ℕ) (x : Draft × List ℕ) : Type 0 where
  pub zs : List ℤ
  pub count : length zs ≡ length xs
  pub text : bytes ≡ numbers_text zs ++ x.1
  pub draft : x.0 ≡ each_with step xs zs d

pub each_taken : {X : Type 0} (step : Draft → X → Number → Draft) (xs : List X) (d : Draft) (bytes : List ℕ) (x : Draft × List ℕ) → each_read step xs d bytes ≡ Some x →
    AreNumbers step xs d bytes x
each_taken step [] d bytes x read =
    let is = same_Some (d, bytes) x read in
    record { zs = []; count = refl; text = ap (λ (y : Draft × List ℕ). y.1) is; draft = ap (λ (y : Draft × List ℕ). y.0) (sym is) }
each_taken step (i ∷ is) d bytes x read =
    let (y, first, more) = bind_some (number_read bytes) (λ y. each_read step is (step d i y.0) y.1) x read in
    let (rest, space, number) = number_taken bytes y first in
    let others = each_taken step is (step d i y.0) y.1 x more in
    record {
      zs = number.z ∷ others.zs;
      count = ap (λ n. suc n) others.count;
      text = space ∙ ap (λ t. 32 ∷ t) number.text ∙ ap (λ t. 32 ∷ (integer_text number.z ++ t)) others.text ∙ sym (numbers_first number.z others.zs x.1);
      draft = others.draft ∙ ap (λ m. each_with step is others.zs (step d i m)) number.near;
    }

-- The draft after cut links.
abbrev pub links_with : ℕ → List ℤ → Draft → Draft
links_with links [] d = d
links_with links (z ∷ zs) d = links_with links zs (with_link links d (near z))

links_next : (links count : ℕ) (d : Draft) (z : ℤ) (t : List ℕ) → links_read links (suc count) d (32 ∷ t) ≡ (number_read (32 ∷ t) >>= λ y. links_read links count (with_link links d y.0) y.1)
links_next links count d z t = refl

pub links_again : (links count : ℕ) (zs : List ℤ) (d : Draft) (rest : List ℕ) → length zs < count →
    links_read links count d (numbers_text zs ++ 10 ∷ rest) ≡ Some (links_with links zs d, rest)
links_again links zero zs d rest few = absurd (omega arith)
links_again links (suc count) [] d rest few = refl
links_again links (suc count) (z ∷ zs) d rest few =
    ap (links_read links (suc count) d) (numbers_first z zs (10 ∷ rest))
    ∙ ap (λ (r : Option (Number × List ℕ)). r >>= λ y. links_read links count (with_link links d y.0) y.1) (number_again z (numbers_text zs ++ 10 ∷ rest) (no_digit_next zs (10 ∷ rest) refl))
    ∙ links_again links count zs (with_link links d (near z)) rest (omega arith)

few_numbers : (zs : List ℤ) → length zs ≤ length (numbers_text zs)
few_numbers [] = omega arith
few_numbers (z ∷ zs) = let more = few_numbers zs in omega (arith, more, length-append (integer_text z) (numbers_text zs))

pub few_links : (zs : List ℤ) (rest : List ℕ) → length zs < length (numbers_text zs ++ 10 ∷ rest)
few_links zs rest = omega (arith, few_numbers zs, length-append (numbers_text zs) (10 ∷ rest))

-- The bytes are cut links up to an LF, and the rest.
pub record AreLinks (links : ℕ) (d : Draft) (bytes : List ℕ) (x : Draft × List ℕ) : Type 0 where
  pub zs : List ℤ
  pub text : bytes ≡ numbers_text zs ++ 10 ∷ x.1
  pub draft : x.0 ≡ links_with links zs d

pub links_taken : (links count : ℕ) (d : Draft) (bytes : List ℕ) (x : Draft × List ℕ) → links_read links count d bytes ≡ Some x → AreLinks links d bytes x
links_taken links zero d bytes x read = absurd (none-some x read)
links_taken links (suc count) d [] x read = absurd (none-some x read)
links_taken links (suc count) d (b ∷ bs) x read =
    elim (cases_Bool (b == 10)) [
      | inl end ↦
          let is = same_Some (d, bs) x (rw end at read) in
          record {
            zs = [];
            text = ap (λ c. c ∷ bs) (eqb-true b 10 end) ∙ ap (λ (y : Draft × List ℕ). 10 ∷ y.1) is;
            draft = ap (λ (y : Draft × List ℕ). y.0) (sym is);
          }
      | inr no_end ↦
          let (y, first, more) = bind_some (number_read (b ∷ bs)) (λ y. links_read links count (with_link links d y.0) y.1) x (rw no_end at read) in
          let (rest, space, number) = number_taken (b ∷ bs) y first in
          let others = links_taken links count (with_link links d y.0) y.1 x more in
          record {
            zs = number.z ∷ others.zs;
            text = space ∙ ap (λ t. 32 ∷ t) number.text ∙ ap (λ t. 32 ∷ (integer_text number.z ++ t)) others.text ∙ sym (numbers_first number.z others.zs (10 ∷ x.1));
            draft = others.draft ∙ ap (λ m. links_with links others.zs (with_link links d m)) number.near;
          }
    ]
