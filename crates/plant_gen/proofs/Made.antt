-- A list made by a function of the index, one item more.
use Rattle.std.proofs.Common.{◌≡◌, ℕ, ◌+◌, List, [], ◌∷◌, ◌++◌, map, sym, subst, ◌∙◌}
use Rattle.std.specs.List.{range_with_len}
use Rattle.std.proofs.lemmas.List.FromFn.{map-range_with_len_more}

pub made_more : {X : Type 0} (f : ℕ → X) (a n next j : ℕ) (old new : List X) (x : X) → new ≡ old ++ x ∷ [] →
    old ≡ map f (range_with_len a n) → x ≡ f j → a + n ≡ j → next ≡ n + 1 → new ≡ map f (range_with_len a next)
made_more f a n next j old new x pushed made item place more =
    subst (λ (m : ℕ). new ≡ map f (range_with_len a m)) (sym more)
    (pushed ∙ (rw (made, item) (sym (map-range_with_len_more f a n j place))))
