-- The lines of what any command may end with. Each ends with a line feed.
use Rattle.std.specs.Prelude.{ℕ, List, [], ◌∷◌, ◌++◌, codes}

-- a word, a name and the line's end
abbrev pub named_line : List ℕ → List ℕ → List ℕ
named_line word name = word ++ 32 ∷ [] ++ name ++ 10 ∷ []

abbrev pub fault_line : List ℕ → List ℕ
fault_line name = named_line (codes "shelf fault") name

abbrev pub absent_line : List ℕ → List ℕ
absent_line name = named_line (codes "absent") name

abbrev pub long_line : List ℕ → List ℕ
long_line name = named_line (codes "too long") name
