-- Lists of takes that grow by one, and some of them.
use Rattle.std.proofs.Common.{◌≡◌, inl, inr, ℕ, suc, ◌+◌, ◌≤◌, nat_lt, List, [], ◌∷◌, ◌++◌, length, refl, sym, ap, ◌∙◌, subst, arith}
use Rattle.std.specs.List.{AllByRecursion}
use Rattle.io_buffers.specs.Given.{Given}
use Rattle.io_buffers.specs.Passes.{publication, IsOfPublication}
use Rattle.io_buffers.specs.Steps.{NeverFell}
use Rattle.take_lists.specs.Takes.{SameTake, AreSomeOf, AreFresh, AreTakesOf, IsNearTake, AreNearTakes}

-- more takes of all
pub some_on : (xs ys more : List Given) → AreSomeOf xs ys → AreSomeOf xs (ys ++ more)
some_on [] ys more s = tt
some_on (x ∷ xs) [] more s = absurd s
some_on (x ∷ xs) (y ∷ ys) more s = elim s [ inl h ↦ inl (h.0, some_on xs ys more h.1) | inr h ↦ inr (some_on (x ∷ xs) ys more h) ]

-- one more take, which is one of them
pub some_keep : (xs ys : List Given) (x y : Given) → AreSomeOf xs ys → SameTake x y → AreSomeOf (xs ++ x ∷ []) (ys ++ y ∷ [])
some_keep [] [] x y s same = inl (same, tt)
some_keep [] (z ∷ ys) x y s same = inr (some_keep [] ys x y tt same)
some_keep (w ∷ xs) [] x y s same = absurd s
some_keep (w ∷ xs) (z ∷ ys) x y s same = elim s [ inl h ↦ inl (h.0, some_keep xs ys x y h.1 same) | inr h ↦ inr (some_keep (w ∷ xs) ys x y h same) ]

-- what holds of all takes holds of some
pub some_each : (P : Given → Type 0) → ((x y : Given) → SameTake x y → P y → P x) → (xs ys : List Given) → AreSomeOf xs ys → AllByRecursion P ys → AllByRecursion P xs
some_each P keeps [] ys s all = tt
some_each P keeps (x ∷ xs) [] s all = absurd s
some_each P keeps (x ∷ xs) (y ∷ ys) s all = elim s [ inl h ↦ (keeps x y h.0 all.0, some_each P keeps xs ys h.1 all.1) | inr h ↦ some_each P keeps (x ∷ xs) ys h all.1 ]

same_at_least : (n : ℕ) (x y : Given) → SameTake x y → n ≤ y.taken.number → n ≤ x.taken.number
same_at_least n x y same h = let e = same.number in omega arith

some_fell : (xs ys : List Given) → AreSomeOf xs ys → NeverFell ys → NeverFell xs
some_fell [] ys s all = tt
some_fell (x ∷ xs) [] s all = absurd s
some_fell (x ∷ xs) (y ∷ ys) s all =
    elim s [
      | inl h ↦ (
        some_each (λ (u : Given). x.taken.number ≤ u.taken.number) (same_at_least x.taken.number) xs ys h.1
            (let e : x.taken.number ≡ y.taken.number = h.0.number in subst (λ (n : ℕ). AllByRecursion (λ (u : Given). n ≤ u.taken.number) ys) (sym e) all.0),
        some_fell xs ys h.1 all.1,
      )
      | inr h ↦ some_fell (x ∷ xs) ys h all.1
    ]

same_published : (ps : List (List ℕ)) (x y : Given) → SameTake x y → IsOfPublication ps y → IsOfPublication ps x
same_published ps x y same of =
    let n = same.number in record {
      made = (let h = of.made in omega arith);
      whole = same.words ∙ (of.whole ∙ ap (λ (k : ℕ). publication ps k) (sym n));
      late = λ w. (let h = of.late (sym same.window ∙ w) in omega arith);
    }

pub some_takes : (ps : List (List ℕ)) (xs ys : List Given) → AreSomeOf xs ys → AreTakesOf ps ys → AreTakesOf ps xs
some_takes ps xs ys s all = record { each = some_each (IsOfPublication ps) (same_published ps) xs ys s all.each; risen = some_fell xs ys s all.risen }

pub fresh_more : (before : ℕ) (xs : List Given) (last : ℕ) (x : Given) → AreFresh before xs last → x.taken.fresh ≡ nat_lt last x.taken.number → AreFresh before (xs ++ x ∷ []) x.taken.number
fresh_more before [] last x f h = (h ∙ ap (λ (n : ℕ). nat_lt n x.taken.number) f, refl)
fresh_more before (y ∷ ys) last x f h = (f.0, fresh_more y.taken.number ys last x f.1 h)

near_at : (k m : ℕ) (x : Given) → k ≡ m → IsNearTake k x → IsNearTake m x
near_at k m x e h = subst (λ (n : ℕ). IsNearTake n x) e h

pub near_more : (k : ℕ) (xs : List Given) (x : Given) → AreNearTakes k xs → IsNearTake (k + length xs) x → AreNearTakes k (xs ++ x ∷ [])
near_more k [] x all h = (near_at (k + 0) k x (omega arith) h, tt)
near_more k (y ∷ ys) x all h = (all.0, near_more (k + 1) ys x all.1 (near_at (k + suc (length ys)) (k + 1 + length ys) x (omega arith) h))
