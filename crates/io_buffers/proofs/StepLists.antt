-- What whole rows of stores and loads say.
use Rattle.std.proofs.Common.{◌≡◌, ℕ, zero, suc, ◌+◌, ◌≤◌, Bool, true, false, if◌then◌else◌, List, [], ◌∷◌, ◌++◌, length, take, refl, sym, ap, ◌∙◌, append_assoc, arith}
use Rattle.std.proofs.lemmas.List.{append-nil}
use Rattle.io_buffers.specs.declared.views.Made.{Made}
use Rattle.io_buffers.specs.declared.views.Made.TheVariants as made
use Rattle.io_buffers.specs.Steps.{fresh_in, draft_of, part_of, published_in, front_of, held_in, loaded_in, shown_in, takes_in, with_stores, with_loads, with_look}

pub take_all : (ws : List ℕ) (k : ℕ) → length ws ≤ k → take k ws ≡ ws
take_all [] zero h = refl
take_all [] (suc k) h = refl
take_all (w ∷ ws) zero h = absurd (omega arith)
take_all (w ∷ ws) (suc k) h = ap (λ (l : List ℕ). w ∷ l) (take_all ws k (omega arith))

pub stores-snoc : (k : ℕ) (ws : List ℕ) (w : ℕ) (es : List Made) → with_stores k (ws ++ w ∷ []) es ≡ made.Stored (k + length ws) w ∷ with_stores k ws es
stores-snoc k [] w es = let e : k ≡ k + 0 = omega arith in ap (λ (i : ℕ). made.Stored i w ∷ es) e
stores-snoc k (x ∷ xs) w es =
    let e : suc k + length xs ≡ k + suc (length xs) = omega arith in
    stores-snoc (suc k) xs w (made.Stored k x ∷ es) ∙ ap (λ (i : ℕ). made.Stored i w ∷ with_stores (suc k) xs (made.Stored k x ∷ es)) e

pub part-stores : (k : ℕ) (ws : List ℕ) (es : List Made) → part_of (with_stores k ws es) ≡ part_of es ++ ws
part-stores k [] es = sym (append-nil (part_of es))
part-stores k (x ∷ xs) es = part-stores (suc k) xs (made.Stored k x ∷ es) ∙ append_assoc (part_of es) (x ∷ []) xs

pub published-stores : (k : ℕ) (ws : List ℕ) (es : List Made) → published_in (with_stores k ws es) ≡ published_in es
published-stores k [] es = refl
published-stores k (x ∷ xs) es = published-stores (suc k) xs (made.Stored k x ∷ es)

pub draft-stores : (k : ℕ) (ws : List ℕ) (es : List Made) → draft_of (with_stores k ws es) ≡ draft_of es
draft-stores k [] es = refl
draft-stores k (x ∷ xs) es = draft-stores (suc k) xs (made.Stored k x ∷ es)

pub loads-snoc : (k : ℕ) (ws : List ℕ) (w : ℕ) (es : List Made) → with_loads k (ws ++ w ∷ []) es ≡ made.Loaded (k + length ws) w ∷ with_loads k ws es
loads-snoc k [] w es = let e : k ≡ k + 0 = omega arith in ap (λ (i : ℕ). made.Loaded i w ∷ es) e
loads-snoc k (x ∷ xs) w es =
    let e : suc k + length xs ≡ k + suc (length xs) = omega arith in
    loads-snoc (suc k) xs w (made.Loaded k x ∷ es) ∙ ap (λ (i : ℕ). made.Loaded i w ∷ with_loads (suc k) xs (made.Loaded k x ∷ es)) e

pub loaded-loads : (k : ℕ) (ws : List ℕ) (es : List Made) → loaded_in (with_loads k ws es) ≡ loaded_in es ++ ws
loaded-loads k [] es = sym (append-nil (loaded_in es))
loaded-loads k (x ∷ xs) es = loaded-loads (suc k) xs (made.Loaded k x ∷ es) ∙ append_assoc (loaded_in es) (x ∷ []) xs

pub front-loads : (k : ℕ) (ws : List ℕ) (es : List Made) → front_of (with_loads k ws es) ≡ front_of es
front-loads k [] es = refl
front-loads k (x ∷ xs) es = front-loads (suc k) xs (made.Loaded k x ∷ es)

pub held-loads : (k : ℕ) (ws : List ℕ) (es : List Made) → held_in (with_loads k ws es) ≡ held_in es
held-loads k [] es = refl
held-loads k (x ∷ xs) es = held-loads (suc k) xs (made.Loaded k x ∷ es)

pub shown-loads : (k : ℕ) (ws : List ℕ) (es : List Made) → shown_in (with_loads k ws es) ≡ shown_in es
shown-loads k [] es = refl
shown-loads k (x ∷ xs) es = shown-loads (suc k) xs (made.Loaded k x ∷ es)

pub takes-loads : (k : ℕ) (ws : List ℕ) (es : List Made) → takes_in (with_loads k ws es) ≡ takes_in es
takes-loads k [] es = refl
takes-loads k (x ∷ xs) es = takes-loads (suc k) xs (made.Loaded k x ∷ es)

-- a look loads nothing and ends no take, and says whether it saw fresh
looked : Bool → ℕ → ℕ → List Made → List Made
looked b found old es = if b then made.Took old ∷ made.Probed found ∷ es else made.Probed found ∷ es

loaded_looked : (b : Bool) (found old : ℕ) (es : List Made) → loaded_in (looked b found old es) ≡ []
unfolding looked
loaded_looked true found old es = refl
loaded_looked false found old es = refl

takes_looked : (b : Bool) (found old : ℕ) (es : List Made) → takes_in (looked b found old es) ≡ takes_in es
unfolding looked
takes_looked true found old es = refl
takes_looked false found old es = refl

shown_looked : (b : Bool) (found old : ℕ) (es : List Made) → shown_in (looked b found old es) ≡ fresh_in found
unfolding looked
shown_looked true found old es = refl
shown_looked false found old es = refl

pub loaded-look : (found old : ℕ) (es : List Made) → loaded_in (with_look found old es) ≡ []
unfolding looked
loaded-look found old es = loaded_looked (fresh_in found) found old es

pub takes-look : (found old : ℕ) (es : List Made) → takes_in (with_look found old es) ≡ takes_in es
unfolding looked
takes-look found old es = takes_looked (fresh_in found) found old es

pub shown-look : (found old : ℕ) (es : List Made) → shown_in (with_look found old es) ≡ fresh_in found
unfolding looked
shown-look found old es = shown_looked (fresh_in found) found old es

pub look-fresh : (found old : ℕ) (es : List Made) → fresh_in found ≡ true → with_look found old es ≡ made.Took old ∷ made.Probed found ∷ es
look-fresh found old es e = ap (λ (b : Bool). if b then made.Took old ∷ made.Probed found ∷ es else made.Probed found ∷ es) e

pub look-old : (found old : ℕ) (es : List Made) → fresh_in found ≡ false → with_look found old es ≡ made.Probed found ∷ es
look-old found old es e = ap (λ (b : Bool). if b then made.Took old ∷ made.Probed found ∷ es else made.Probed found ∷ es) e

pub length-stores : (k : ℕ) (ws : List ℕ) (es : List Made) → length (with_stores k ws es) ≡ length es + length ws
length-stores k [] es = omega arith
length-stores k (x ∷ xs) es = let h = length-stores (suc k) xs (made.Stored k x ∷ es) in omega arith

pub length-loads : (k : ℕ) (ws : List ℕ) (es : List Made) → length (with_loads k ws es) ≡ length es + length ws
length-loads k [] es = omega arith
length-loads k (x ∷ xs) es = let h = length-loads (suc k) xs (made.Loaded k x ∷ es) in omega arith

length_looked : (b : Bool) (found old : ℕ) (es : List Made) → length (looked b found old es) ≤ length es + 2
unfolding looked
length_looked true found old es = omega arith
length_looked false found old es = omega arith

pub length-look : (found old : ℕ) (es : List Made) → length (with_look found old es) ≤ length es + 2
unfolding looked
length-look found old es = length_looked (fresh_in found) found old es
