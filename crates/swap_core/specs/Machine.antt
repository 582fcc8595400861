-- What the core keeps, and what one step does to it. Nothing here knows the publications but the held and the newest one's number.
use Rattle.std.specs.Prelude.{◌≡◌, ℕ, ◌+◌, ◌*◌, ◌<◌, ◌≤◌, Bool, true, false, nat_lt, if◌then◌else◌, List, take, drop, replicate, length, slice_index, slice_set}
use Rattle.swap_core.specs.declared.steps.Step.{Step}
use Rattle.swap_core.specs.declared.steps.Step.TheVariants as steps
use Rattle.swap_core.specs.declared.steps.Seen.{Seen}
use Rattle.swap_core.specs.declared.steps.Seen.TheVariants as sights

-- three slots, each with a row of so many words, whose names are front, middle and draft
pub record Slots : Type 0 where
  -- the words of a row
  pub words : ℕ
  -- the rows of the slots 0, 1 and 2, one behind the other
  pub cells : List ℕ
  -- the slot that the consumer reads
  pub front : ℕ
  -- the slot that was given back or published last
  pub middle : ℕ
  -- the slot that the producer writes
  pub draft : ℕ
  -- the middle row was not taken yet
  pub fresh : Bool
  -- a probe saw fresh, and no take followed
  pub ready : Bool
  -- the number of the publication in the front row
  pub held : ℕ
  -- the number of the last publication
  pub newest : ℕ

-- the row of a slot
abbrev pub row_of : Slots → ℕ → List ℕ
row_of s slot = take s.words (drop (s.words * slot) s.cells)

-- at first all words are 0, and publication 0 is held
abbrev pub first_slots : ℕ → Slots
first_slots m = record { words = m; cells = replicate (3 * m) 0; front = 0; middle = 1; draft = 2; fresh = false; ready = false; held = 0; newest = 0 }

-- what a step leaves
abbrev pub after : Slots → Step → Slots
-- the draft row has the word at the place
after s (steps.Store place word) = if nat_lt place s.words then record s { cells = slice_set s.cells (s.words * s.draft + place) word } else s
-- draft and middle change places
after s steps.Publish = record s { middle = s.draft; draft = s.middle; fresh = true; newest = s.newest + 1 }
after s steps.Probe = record s { ready = s.fresh }
-- front and middle change places
after s steps.Take = if s.ready then record s { front = s.middle; middle = s.front; fresh = false; ready = false; held = s.newest } else s
after s (steps.Load place) = s

-- what a step sees
abbrev pub seen_by : Slots → Step → Seen
seen_by s (steps.Store place word) = if nat_lt place s.words then sights.Stored else sights.Nothing
seen_by s steps.Publish = sights.Published (s.newest + 1)
seen_by s steps.Probe = sights.Probed s.fresh
seen_by s steps.Take = if s.ready then sights.Took s.newest else sights.Nothing
seen_by s (steps.Load place) = if nat_lt place s.words then sights.Word (slice_index (row_of s s.front) place) else sights.Nothing

-- a step that is refused: its place is not in the row, or it takes what no probe announced
abbrev pub IsRefused : Slots → Step → Type 0
IsRefused s (steps.Store place word) = s.words ≤ place
IsRefused s (steps.Load place) = s.words ≤ place
IsRefused s steps.Take = s.ready ≡ false
IsRefused s steps.Publish = false ≡ true
IsRefused s steps.Probe = false ≡ true

-- what the code needs to stay inside its rows: three rows of so many words, and three slots' names
pub record IsWhole (words : ℕ) (cells : List ℕ) (front middle draft : ℕ) : Type 0 where
  pub rows : length cells ≡ 3 * words
  pub front_slot : front < 3
  pub middle_slot : middle < 3
  pub draft_slot : draft < 3
