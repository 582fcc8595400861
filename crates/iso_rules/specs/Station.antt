-- The frames of a station, by the entries of its device, and their words.
use Rattle.std.specs.Prelude.{ℕ, ◌/◌, ◌==◌, if◌then◌else◌, List, [], ◌∷◌, take, drop, map, filter, sum_by, option_map, slice_get, unwrap_or}
use Rattle.irt_base.specs.declared.blocks.Entry.{Entry}
use Rattle.irt_base.specs.declared.blocks.FrameBlock.{FrameBlock}
use Rattle.irt_base.specs.declared.limits.TheConstants.{WORD_BYTES}
use Rattle.irt_switch.specs.Ports.{is_kept}
use Rattle.irt_switch.specs.Release.{is_provided}
use Rattle.plan_rules.specs.Way.{Setup}

-- the entries of a device, by ascending FrameID; none where there is no such device
abbrev pub entries_at : Setup → ℕ → List Entry
entries_at setup device = unwrap_or (option_map (λ (b : FrameBlock). b.entries) (slice_get setup.blocks device)) []

-- those of the frames that the device provides
abbrev pub provided_of : List Entry → List Entry
provided_of entries = filter is_provided entries

-- those of the frames that it consumes
abbrev pub consumed_of : List Entry → List Entry
consumed_of entries = filter (λ (e : Entry). is_kept e.tx) entries

-- the words of a frame's data, of which the last one has the IOPS: 40 bytes are 5 words
abbrev pub data_words : Entry → ℕ
data_words e = e.data_length / WORD_BYTES

-- the words of some frames together
abbrev pub words_in : List Entry → ℕ
words_in entries = sum_by data_words entries

-- The words of one frame, where those of some frames stand one behind the other. Of the words 1, 2 .. 11 of the frames
-- 0x100 with 5 words and 0x101 with 6, the frame 0x101 has 6, 7 .. 11.
abbrev pub part_of : List Entry → ℕ → List ℕ → List ℕ
part_of [] frame words = []
part_of (e ∷ entries) frame words =
    if e.frame.0 == frame then take (data_words e) words else part_of entries frame (drop (data_words e) words)

-- how many words a device's app puts out in a turn, and takes in
abbrev pub output_count : Setup → ℕ → ℕ
output_count setup device = words_in (provided_of (entries_at setup device))

abbrev pub input_count : Setup → ℕ → ℕ
input_count setup device = words_in (consumed_of (entries_at setup device))

-- the words of each of the frames that it provides
abbrev pub output_lengths : Setup → ℕ → List ℕ
output_lengths setup device = map data_words (provided_of (entries_at setup device))
