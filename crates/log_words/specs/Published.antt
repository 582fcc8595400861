-- Publications by their number, where number 0 is zeros.
use Rattle.std.specs.Prelude.{◌≡◌, ℕ, zero, suc, Option, Some, List, ◌∷◌, replicate}

-- all publications: zeros, of so many words, and then the later ones
abbrev pub after_zeros : ℕ → List (List ℕ) → List (List ℕ)
after_zeros count later = replicate count 0 ∷ later

-- The words are the publication of a number: so many zeros for number 0, and for each other number the later
-- publication of that number, where it exists.
abbrev pub IsZerosOrLater : ℕ → ℕ → Option (List ℕ) → List ℕ → Type 0
IsZerosOrLater count zero later words = words ≡ replicate count 0
IsZerosOrLater count (suc n) later words = later ≡ Some words
