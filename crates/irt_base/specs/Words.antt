-- The words of a frame's data (C_SDU): eight bytes each, the highest first.
use Rattle.std.specs.Prelude.{ℕ, List, [], ◌∷◌}
use Rattle.std.specs.List.{flat_map}
use Rattle.std.specs.Int.{w64, to_be_bytes, from_be_bytes}

-- the bytes of a word: those of 258 are 0 0 0 0 0 0 1 2
abbrev pub word_bytes : ℕ → List ℕ
word_bytes word = to_be_bytes w64 word

-- the bytes of words, one after the other
abbrev pub bytes_of : List ℕ → List ℕ
bytes_of words = flat_map word_bytes words

-- the words of bytes, as many as are whole
abbrev pub words_of : List ℕ → List ℕ
words_of (a ∷ b ∷ c ∷ d ∷ e ∷ f ∷ g ∷ h ∷ rest) =
    from_be_bytes w64 (a ∷ b ∷ c ∷ d ∷ e ∷ f ∷ g ∷ h ∷ []) ∷ words_of rest
words_of _ = []
