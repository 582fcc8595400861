-- What a loop over a list has judged.
use Rattle.std.proofs.Common.{◌≡◌, ◌<◌, ◌≤◌, ◌↔◌, ℕ, List, Bool, length, get_or, true, false, IsTrue, refl, sym, ◌∙◌, subst, arith}
use Rattle.std.proofs.lemmas.Bool.{false≢true}
use Rattle.std.proofs.lemmas.List.Elements.{All-from_recursion, recursion_from_All}
use Rattle.std.proofs.lemmas.Grind.{common_steps}
use Rattle.std.proofs.lemmas.Option.{gets}
use Rattle.std.specs.List.{AllByRecursion}
use Rattle.std.specs.List.Sorted.{IsStrictlyIncreasing}
use Rattle.irt_base.specs.Valid.{IsEntry, IsFrameBlock, frames_of}
use Rattle.irt_base.specs.declared.limits.TheConstants.{MAX_DEMANDS}
use Rattle.irt_base.specs.declared.blocks.Entry.{Entry}
use Rattle.irt_base.specs.declared.blocks.FrameBlock.{FrameBlock}

module _ {A : Type 0} (P : A → Type 0) (xs : List A) where
  pub all_pass : ((k : ℕ) (d : A) → k < length xs → P (get_or xs k d)) → IsTrue true ↔ AllByRecursion P xs
  all_pass each = (λ _. recursion_from_All P xs each, λ _. refl)

  pub one_fails : (r : Bool) (i : ℕ) (x : A) → i < length xs → x ≡ get_or xs i x → (IsTrue r ↔ P x) → r ≡ false → IsTrue false ↔ AllByRecursion P xs
  one_fails r i x there is tells off = (
    λ h. absurd (false≢true h),
    λ all. absurd (false≢true (sym off ∙ tells.1 (subst P (sym is) (All-from_recursion P xs all i x there)))),
  )

-- an item that is there does not depend on the default
pub same_get : {A : Type 0} (xs : List A) (i : ℕ) (d e : A) → i < length xs → get_or xs i d ≡ get_or xs i e
same_get xs i d e there = grind (arith, common_steps, gets)

pub frame_block : (b : FrameBlock) (entries : List Entry) (r : Bool) → entries ≡ b.entries → length entries ≤ MAX_DEMANDS → AllByRecursion IsEntry entries
    → (IsTrue r ↔ IsStrictlyIncreasing (frames_of entries)) → IsTrue r ↔ IsFrameBlock b
frame_block b entries r is room each tells = (
  λ yes. record {
    count = subst (λ (es : List Entry). length es ≤ MAX_DEMANDS) is room;
    each = subst (λ (es : List Entry). AllByRecursion IsEntry es) is each;
    ascending = subst (λ (es : List Entry). IsStrictlyIncreasing (frames_of es)) is (tells.0 yes);
  },
  λ valid. tells.1 (subst (λ (es : List Entry). IsStrictlyIncreasing (frames_of es)) (sym is) valid.ascending),
)
