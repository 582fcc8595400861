-- A text that was printed as far as a place.
use Rattle.std.proofs.Common.{◌≡◌, ◌≤◌, ◌+◌, ◌-◌, ℕ, List, ◌++◌, length, take, drop, Option, Some, None, sym, ◌∙◌, ap, arith, append_assoc, length-drop}
use Rattle.std.proofs.Math.Seq.{take-add}
use Rattle.std.proofs.lemmas.List.{take_rest}
use Rattle.irt_io.specs.Taken.{Appends}

pub record IsPrinted (old now : Option (List ℕ)) (before faults : ℕ) (text : List ℕ) (at : ℕ) : Type 0 where
  pub taken : Appends old now (take at text)
  pub later : before ≤ faults
  pub within : at ≤ length text

pub appends_more : (old mid new : Option (List ℕ)) (a b c : List ℕ) → Appends old mid a → Appends mid new b → c ≡ a ++ b → Appends old new c
appends_more None None None a b c first second is = tt
appends_more None None (Some z) a b c first second is = second
appends_more None (Some y) new a b c first second is = absurd first
appends_more (Some x) None new a b c first second is = absurd first
appends_more (Some x) (Some y) None a b c first second is = second
appends_more (Some x) (Some y) (Some z) a b c first second is =
    second ∙ ap (λ t. t ++ b) first ∙ append_assoc x a b ∙ ap (λ t. x ++ t) (sym is)

-- one more piece was taken
pub printed_more : (old mid new : Option (List ℕ)) (before faults more : ℕ) (text : List ℕ) (at n : ℕ) → IsPrinted old mid before faults text at →
    Appends mid new (take n (take (length text - at) (drop at text))) → n ≤ length (take (length text - at) (drop at text)) → faults ≤ more →
    IsPrinted old new before more text (at + n)
printed_more old mid new before faults more text at n printed put within later =
    let rest : take (length text - at) (drop at text) ≡ drop at text = take_rest text at in
    let left : n ≤ length text - at = omega (arith, ap length rest, length-drop at text) in
    record {
      taken = appends_more old mid new (take at text) _ (take (at + n) text) printed.taken put (take-add at n text ∙ ap (λ r. take at text ++ take n r) (sym rest));
      later = omega arith;
      within = omega arith;
    }
