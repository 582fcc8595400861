-- Steps whose questions have one answer lead to one ending, and to one shelf.
use Rattle.std.proofs.Common.{◌≡◌, ◌⊎◌, inl, inr, ℕ, List, Option, Some, None, Result, Ok, Err, refl, sym, ◌∙◌, ap, subst, Bool, true, false}
use Rattle.std.proofs.lemmas.Slice.Eq.{bytes_eq-Decides}
use Rattle.std.specs.Str.{bytes_eq}
use Rattle.std.specs.Bool.{Decides}
use Rattle.irt_io.specs.Files.{Files}
use Rattle.irt_steps.proofs.StepLemmas.{held_loads}
use Rattle.irt_steps.specs.Steps.{Ending, Steps, gives, ends, loads, stores, asks, after, judged, IsHeld, IsUnloaded, missing, too_long, IsStored, Comes, IsOneWay}

-- two shelves that hold the same
abbrev pub AreAlike : Files → Files → Type 0
AreAlike f g = (name : List ℕ) → f name ≡ g name

same_bytes : (f g : Files) (name : List ℕ) (limit : ℕ) (x y : List ℕ) → AreAlike f g → f name ≡ Some x → g name ≡ Some y → x ≡ y
same_bytes f g name limit x y alike first second = some_same (sym first ∙ alike name ∙ second)
  where
    some_same : Some x ≡ Some y → x ≡ y
    some_same is = cc

none_some : (x : List ℕ) → None ≡ Some x → ⊥
none_some x is = absurd cc

-- a file that is held at one of them is not unloaded at the other
held_loads_alike : (f g : Files) (name : List ℕ) (limit : ℕ) (bytes : List ℕ) (e : Ending) → AreAlike f g → IsHeld (Some f) name limit bytes → IsUnloaded (Some g) name limit e → ⊥
held_loads_alike f g name limit bytes e alike held why =
    held_loads g name limit bytes e (record { held = sym (alike name) ∙ held.held; within = held.within; small = held.small }) why

-- both are missing, or both are too long
unloaded_alike : (f g : Files) (name : List ℕ) (limit : ℕ) (d e : Ending) → AreAlike f g → IsUnloaded (Some f) name limit d → IsUnloaded (Some g) name limit e → d ≡ e
unloaded_alike f g name limit _ _ alike (missing first) (missing second) = refl
unloaded_alike f g name limit _ _ alike (too_long first) (too_long second) = refl
unloaded_alike f g name limit _ _ alike (missing first) (too_long second) = absurd (none_some second.bytes (sym first ∙ alike name ∙ second.held))
unloaded_alike f g name limit _ _ alike (too_long first) (missing second) = absurd (none_some first.bytes (sym second ∙ sym (alike name) ∙ first.held))

decided : {P : Type 0} (b : Bool) → Decides b P → P ⊎ ¬ P
decided true decides = inl (decides.0 refl)
decided false decides = inr (λ holds. absurd (never (decides.1 holds)))
  where
    never : false ≡ true → ⊥
    never is = absurd cc

-- a store leaves the same behind
stored_alike : (f g m n : Files) (name bytes : List ℕ) → AreAlike f g → IsStored (Some f) (Some m) name bytes → IsStored (Some g) (Some n) name bytes → AreAlike m n
stored_alike f g m n name bytes alike first second other = elim (decided (bytes_eq other name) (bytes_eq-Decides other name)) [
  | inl is ↦ ap m is ∙ first.stored ∙ sym (ap n is ∙ second.stored)
  | inr differs ↦ first.others other differs ∙ alike other ∙ sym (second.others other differs)
]

-- both shelves tell their files, and these are alike
abbrev pub AreToldAlike : Option Files → Option Files → Type 0
AreToldAlike (Some f) (Some g) = AreAlike f g
AreToldAlike m n = ⊥

kept_alike : (f g : Files) (m n : Option Files) → AreAlike f g → m ≡ Some f → n ≡ Some g → AreToldAlike m n
kept_alike f g m n alike kept also = subst (λ x. AreToldAlike x n) (sym kept) (subst (AreToldAlike (Some f)) (sym also) alike)

-- steps over files that are alike lead to one ending, and to files that are alike
pub comes_alike : {A : Type 0} (steps : Steps A) (f g : Files) (m n : Option Files) (r s : Result A Ending) → IsOneWay steps → AreAlike f g → Comes steps (Some f) m r → Comes steps (Some g) n s →
    (r ≡ s) × AreToldAlike m n
comes_alike (gives x) f g m n r s one alike (is, kept) (so, also) = (is ∙ sym so, kept_alike f g m n alike kept also)
comes_alike (ends e) f g m n r s one alike (is, kept) (so, also) = (is ∙ sym so, kept_alike f g m n alike kept also)
comes_alike (loads name limit next) f g m n r s one alike (inl (x, held, first)) (inl (y, also, second)) =
    let same : y ≡ x = sym (same_bytes f g name limit x y alike held.held also.held) in
    comes_alike (next x) f g m n r s (one x) alike first (subst (λ b. Comes (next b) (Some g) n s) same second)
comes_alike (loads name limit next) f g m n r s one alike (inl (x, held, first)) (inr (e, why, so, also)) = absurd (held_loads_alike f g name limit x e alike held why)
comes_alike (loads name limit next) f g m n r s one alike (inr (e, why, is, kept)) (inl (y, held, second)) =
    absurd (held_loads_alike g f name limit y e (λ other. sym (alike other)) held why)
comes_alike (loads name limit next) f g m n r s one alike (inr (d, why, is, kept)) (inr (e, reason, so, also)) =
    (is ∙ ap Err (unloaded_alike f g name limit d e alike why reason) ∙ sym so, kept_alike f g m n alike kept also)
comes_alike (stores name bytes next) f g m n r s one alike (None, stored, first) second = absurd stored.others
comes_alike (stores name bytes next) f g m n r s one alike (Some between, stored, first) (None, again, second) = absurd again.others
comes_alike (stores name bytes next) f g m n r s one alike (Some between, stored, first) (Some middle, again, second) =
    comes_alike next between middle m n r s one (stored_alike f g between middle name bytes alike stored again) first second
comes_alike (asks P next) f g m n r s one alike (b, holds, first) (c, also, second) =
    comes_alike (next b) f g m n r s (one.1 b) alike first (subst (λ x. Comes (next x) (Some g) n s) (one.0 c b also holds) second)

-- ---- which steps are one way

pub judged_one : {A : Type 0} (answer : Result A Ending) → IsOneWay (judged answer)
judged_one (Ok x) = tt
judged_one (Err e) = tt

pub after_one : {A B : Type 0} (steps : Steps A) (f : A → Steps B) → IsOneWay steps → ((x : A) → IsOneWay (f x)) → IsOneWay (after steps f)
after_one (gives x) f first later = later x
after_one (ends e) f first later = tt
after_one (loads name limit next) f first later = λ bytes. after_one (next bytes) f (first bytes) later
after_one (stores name bytes next) f first later = after_one next f first later
after_one (asks P next) f first later = (first.0, λ b. after_one (next b) f (first.1 b) later)
