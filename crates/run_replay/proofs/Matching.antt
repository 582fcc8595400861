-- Lists of images that are the same up to a place.
use Rattle.std.proofs.Common.{◌≡◌, ℕ, Bool, false, IsTrue, zero, suc, ◌+◌, ◌<◌, ◌≤◌, List, [], ◌∷◌, ◌++◌, length, take, drop, get_or, slice_get, Some, sym, ◌∙◌, ap, subst, arith}
use Rattle.std.specs.Prelude.{◌↔◌}
use Rattle.std.proofs.Math.Seq.{take-suc}
use Rattle.std.proofs.lemmas.Bool.{false≢true}
use Rattle.std.proofs.lemmas.List.{take_all, length-drop}
use Rattle.std.proofs.lemmas.Option.{same_Some, slice_get_within, get_or_from_slice_get}
use borrow.Author.Count.{below_more}
use Rattle.iso_plant.specs.History.{AppCycles}
use Rattle.iso_rules.specs.Lockstep.{AppLog}
use Rattle.run_replay.specs.Left.{HaveImages}

pub taken_next : {X : Type 0} (xs : List X) (k : ℕ) (x : X) → slice_get xs k ≡ Some x → take (k + 1) xs ≡ take k xs ++ x ∷ []
taken_next xs k x is =
    ap (λ m. take m xs) (let h : k + 1 ≡ suc k = omega arith in h)
    ∙ take-suc xs k x (slice_get_within xs k x is)
    ∙ ap (λ z. take k xs ++ z ∷ []) (get_or_from_slice_get xs k x x is)

-- the images of the first apps are those of their logs
abbrev pub HasImages : List AppCycles → List AppLog → ℕ → Type 0
HasImages histories logs n = (a : AppCycles) (log : AppLog) → slice_get histories n ≡ Some a → slice_get logs n ≡ Some log → a.images ≡ log.images

abbrev pub HaveImagesBelow : ℕ → List AppCycles → List AppLog → Type 0
HaveImagesBelow k histories logs = (n : ℕ) → n < k → HasImages histories logs n

pub head_at : {X : Type 0} (xs rest : List X) (k : ℕ) (x : X) → x ∷ rest ≡ drop k xs → slice_get xs k ≡ Some x
head_at [] rest zero x e = absurd (cc)
head_at [] rest (suc k) x e = absurd (cc)
head_at (y ∷ ys) rest zero x e = (let h : y ≡ x = (cc) in ap (λ z. Some z) h)
head_at (y ∷ ys) rest (suc k) x e = head_at ys rest k x e

pub images_more : (histories : List AppCycles) (logs : List AppLog) (k : ℕ) (a : AppCycles) (log : AppLog) → slice_get histories k ≡ Some a →
    slice_get logs k ≡ Some log → a.images ≡ log.images → HaveImagesBelow k histories logs → HaveImagesBelow (k + 1) histories logs
images_more histories logs k a log first second same so_far =
    below_more (HasImages histories logs) k so_far
    (λ b other is at.
    ap (λ (x : AppCycles). x.images) (same_Some b a (sym is ∙ first)) ∙ same ∙ ap (λ (x : AppLog). x.images) (same_Some log other (sym second ∙ at)))

-- those of all apps are
pub images_all : (histories : List AppCycles) (logs : List AppLog) (k : ℕ) → length (drop k histories) ≡ 0 → HaveImagesBelow k histories logs →
    HaveImages histories logs
images_all histories logs k none so_far = λ n a log is at.
    let within = slice_get_within histories n a is in
    let past = length-drop k histories in
    so_far n (omega (arith, within, past, none)) a log is at

-- those of one are not
pub images_differ : (histories : List AppCycles) (logs : List AppLog) (k : ℕ) (a : AppCycles) (log : AppLog) (xs ys : List (List ℕ)) (same : Bool) →
    slice_get histories k ≡ Some a → slice_get logs k ≡ Some log → xs ≡ a.images → ys ≡ log.images → IsTrue same ↔ (xs ≡ ys) → same ≡ false →
    IsTrue false ↔ HaveImages histories logs
images_differ histories logs k a log xs ys same first second mine other is differs =
    (λ holds. absurd (false≢true holds), λ all. sym differs ∙ is.1 (mine ∙ all k a log first second ∙ sym other))
