-- Output words as they are published: each frame says that its data are good.
use Rattle.std.specs.Prelude.{ℕ, ◌+◌, ◌-◌, ◌%◌, List, [], ◌∷◌, ◌++◌, length, take, drop, slice_index, slice_set}
use Rattle.iso_app.specs.declared.seal.TheConstants.{GOOD}

-- a word with its low byte, the IOPS, set to good: 0 becomes 0x80
abbrev pub good_word : ℕ → ℕ
good_word word = word - word % 256 + GOOD

-- the words of one frame, with the last one good
abbrev pub sealed_frame : List ℕ → List ℕ
sealed_frame words = slice_set words (length words - 1) (good_word (slice_index words (length words - 1)))

-- the words of frames that follow one another, of these lengths in words, each frame sealed
abbrev pub sealed : List ℕ → List ℕ → List ℕ
sealed [] words = words
sealed (count ∷ lengths) words = sealed_frame (take count words) ++ sealed lengths (drop count words)
