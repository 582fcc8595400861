-- Words that are made beforehand.
use Rattle.std.specs.Prelude.{◌≡◌, ℕ, List, All, vec_len}
use Rattle.std.specs.Global.{Vec}

-- lists of so many words
abbrev pub HaveWords : ℕ → List (Vec ℕ) → Type 0
HaveWords words lists = All (λ (v : Vec ℕ). vec_len v ≡ words) lists
