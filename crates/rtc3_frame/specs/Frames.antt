-- The frames of a plant's demands, each a list of bytes that keeps its length.
use Rattle.std.specs.Prelude.{ℕ, ◌+◌, List, [], ◌++◌, length, take, drop, map, replicate, slice_set, slice_index_or}
use Rattle.rtc3_frame.specs.declared.frame.TheConstants.{HEAD, TAIL}

-- frames of zeros, for these data lengths
abbrev pub zero_frames : List ℕ → List (List ℕ)
zero_frames lengths = map (λ n. replicate (n + (HEAD + TAIL)) 0) lengths

-- bytes written over a frame, which keeps its length
abbrev pub written_over : List ℕ → List ℕ → List ℕ
written_over old bytes = take (length old) (bytes ++ drop (length bytes) old)

-- the same frames with these bytes as one of them, and no other changed
abbrev pub with_frame : List (List ℕ) → ℕ → List ℕ → List (List ℕ)
with_frame frames demand bytes = slice_set frames demand (written_over (slice_index_or frames demand []) bytes)
