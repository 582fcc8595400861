-- A list made by a function of the index, one item more.
use Rattle.std.proofs.Common.{◌≡◌, ℕ, ◌+◌, List, [], ◌∷◌, ◌++◌, map, ap₂, sym, ◌∙◌, arith}
use Rattle.std.specs.List.{range_with_len}
use Rattle.std.proofs.lemmas.List.FromFn.{map-range_with_len_more}

pub made_more : {X : Type 0} (f : ℕ → X) (n : ℕ) (old new : List X) (x y : X) → new ≡ old ++ y ∷ [] → y ≡ x →
    old ≡ map f (range_with_len 0 n) → x ≡ f n → new ≡ map f (range_with_len 0 (n + 1))
made_more f n old new x y pushed same made item =
    pushed ∙ ap₂ (λ front last. front ++ last ∷ []) made (same ∙ item) ∙ sym (map-range_with_len_more f 0 n n (omega arith))
