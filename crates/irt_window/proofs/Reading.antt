-- Reads of a row by place.
use Rattle.std.proofs.Common.{◌≡◌, ℕ, false, List, Option, Some, None, get_or, slice_get, refl, ◌∙◌, ap}
use Rattle.std.proofs.lemmas.Option.{unwrap_or-slice_get}
use Rattle.std.specs.Option.{unwrap_or, is_some}

pub read_none : {A : Type 0} (row : List (Option A)) (n : ℕ) → None ≡ slice_get row n → None ≡ get_or row n None
read_none {A} row n is = ap (λ (o : Option (Option A)). unwrap_or o None) is ∙ unwrap_or-slice_get row n None

pub read_some : {A : Type 0} (row : List (Option A)) (n : ℕ) (x : Option A) → Some x ≡ slice_get row n → x ≡ get_or row n None
read_some {A} row n x is = ap (λ (o : Option (Option A)). unwrap_or o None) is ∙ unwrap_or-slice_get row n None

-- what is not some is none
pub none_from_test : {A : Type 0} (o : Option A) → false ≡ is_some o → o ≡ None
none_from_test None h = refl
none_from_test (Some x) h = cc
