-- A list made by a function of the index, one item more, or by another function.
use Rattle.std.proofs.Common.{◌≡◌, ℕ, ◌+◌, ◌<◌, List, [], ◌∷◌, ◌++◌, map, ap₂, sym, ◌∙◌, arith}
use Rattle.std.specs.List.{range_with_len}
use Rattle.std.proofs.lemmas.List.FromFn.{fill_by_all, get_or-map-range_with_len, length-map-range_with_len, map-range_with_len_more}

-- from an index on, so many
pub made_from : {X : Type 0} (f : ℕ → X) (start n at : ℕ) (old new : List X) (x y : X) → start + n ≡ at → new ≡ old ++ y ∷ [] → y ≡ x →
    old ≡ map f (range_with_len start n) → x ≡ f at → new ≡ map f (range_with_len start (n + 1))
made_from f start n at old new x y is_at pushed same made item =
    pushed ∙ ap₂ (λ front last. front ++ last ∷ []) made (same ∙ item) ∙ sym (map-range_with_len_more f start n at is_at)

pub made_more : {X : Type 0} (f : ℕ → X) (n : ℕ) (old new : List X) (x y : X) → new ≡ old ++ y ∷ [] → y ≡ x →
    old ≡ map f (range_with_len 0 n) → x ≡ f n → new ≡ map f (range_with_len 0 (n + 1))
made_more f n old new x y pushed same made item = made_from f 0 n n old new x y (omega arith) pushed same made item

-- two functions that agree below the number make one list
pub made_same : {X : Type 0} (f g : ℕ → X) (n : ℕ) → ((k : ℕ) → k < n → f k ≡ g k) → map f (range_with_len 0 n) ≡ map g (range_with_len 0 n)
made_same f g n same =
    fill_by_all g (map f (range_with_len 0 n)) n (f 0) (length-map-range_with_len f 0 n)
    (λ k below. get_or-map-range_with_len f 0 n k k (f 0) below (omega arith) ∙ same k below)
