-- Lists that are gone through item by item.
use Rattle.std.proofs.Common.{◌≡◌, ℕ, ◌+◌, ◌<◌, ◌≤◌, List, [], ◌∷◌, ◌++◌, take, drop, length, get_or, sym, ◌∙◌, ap, arith, append-nil, length-append}
use Rattle.std.specs.Prelude.{fold, flat_map}
use Rattle.std.proofs.lemmas.List.Sums.{fold-append}
use Rattle.std.proofs.lemmas.Grind.{flat_map-append, common_steps}

pub take_more : {A : Type 0} (xs : List A) (i : ℕ) (d : A) → i < length xs → take (i + 1) xs ≡ take i xs ++ get_or xs i d ∷ []
take_more xs i d below = grind (arith, common_steps)

pub fold_more : {A B : Type 0} (f : B → A → B) (a : B) (xs : List A) (i : ℕ) (x : A) → i < length xs → x ≡ get_or xs i x →
    fold f a (take (i + 1) xs) ≡ f (fold f a (take i xs)) x
fold_more f a xs i x below is =
    ap (fold f a) (take_more xs i x below) ∙ fold-append f a (take i xs) (get_or xs i x ∷ []) ∙ ap (f (fold f a (take i xs))) (sym is)

pub flat_map_more : {X A : Type 0} (f : X → List A) (xs : List X) (i : ℕ) (x : X) → i < length xs → x ≡ get_or xs i x →
    flat_map f (take (i + 1) xs) ≡ flat_map f (take i xs) ++ f x
flat_map_more f xs i x below is =
    ap (flat_map f) (take_more xs i x below) ∙ flat_map-append f (take i xs) (get_or xs i x ∷ [])
    ∙ ap (λ ys. flat_map f (take i xs) ++ ys) (append-nil (f (get_or xs i x)) ∙ ap f (sym is))

pub joined : {A : Type 0} (xs : List A) (n : ℕ) → take n xs ++ drop n xs ≡ xs
joined xs n = grind (arith, common_steps)

pub flat_map_within : {X A : Type 0} (f : X → List A) (xs : List X) (i : ℕ) (x : X) → i < length xs → x ≡ get_or xs i x →
    length (flat_map f (take i xs)) + length (f x) ≤ length (flat_map f xs)
flat_map_within f xs i x below is =
    let whole = ap (λ ys. length (flat_map f ys)) (sym (joined xs (i + 1))) in
    let parts = ap length (flat_map-append f (take (i + 1) xs) (drop (i + 1) xs)) in
    let sum = length-append (flat_map f (take (i + 1) xs)) (flat_map f (drop (i + 1) xs)) in
    let more = ap length (flat_map_more f xs i x below is) in
    let two = length-append (flat_map f (take i xs)) (f x) in
    omega arith
