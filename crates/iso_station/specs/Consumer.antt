-- A consumer, as its clauses see it, and what becomes of frames that come to it.
use Rattle.std.specs.Prelude.{◌≡◌, ◌≢◌, ℕ, ◌+◌, ◌==◌, ◌⊎◌, if◌then◌else◌, List, length, map, flat_map, sum_by, Contains, Ok, IsErr}
use Rattle.irt_base.specs.Cycle.{IsDue}
use Rattle.irt_base.specs.Words.{words_of}
use Rattle.irt_base.specs.declared.blocks.Bundle.{Bundle}
use Rattle.iso_rules.specs.Station.{consumed_of, data_words}
use Rattle.iso_station.specs.Held.{Held, new_held, with_words, ended, shown}
use Rattle.iso_station.specs.Mark.{counter_of, IsGood}
use Rattle.rtc3_frame.specs.Frame.{Fields, fields_at}

pub record ConsumerState : Type 0 where
  -- the send clock factor
  pub factor : ℕ
  -- the cycle that goes on: the next one to end
  pub cycle : ℕ
  -- what is kept of each frame that the device consumes, by ascending FrameID
  pub frames : List Held

abbrev pub new_consumer : Bundle → ConsumerState
new_consumer bundle = record { factor = bundle.sync.factor; cycle = 0; frames = map new_held (consumed_of bundle.frames.entries) }

-- the words of some frames, and those of its image
abbrev pub count_of : List Held → ℕ
count_of frames = sum_by (λ (held : Held). data_words held.entry) frames

abbrev pub image_count : ConsumerState → ℕ
image_count state = count_of state.frames

-- ---- a frame that comes

-- The device consumes a frame of these fields in the cycle: by an entry of its FrameID and length that is due.
pub record IsWanted (state : ConsumerState) (f : Fields) : Type 0 where
  pub held : Held
  pub stands : Contains state.frames held
  pub frame : held.entry.frame.0 ≡ f.frame
  pub count : held.entry.data_length ≡ length f.csdu
  pub due : IsDue state.cycle held.entry.ratio held.entry.phase

-- The bytes are a frame that the device consumes in the cycle, sent in the cycle, with good data.
pub record IsTakenFrame (state : ConsumerState) (bytes : List ℕ) : Type 0 where
  pub f : Fields
  pub told : fields_at bytes ≡ Ok f
  pub wanted : IsWanted state f
  pub counter : f.counter ≡ counter_of state.factor state.cycle
  pub good : IsGood f.status

-- The causes for which bytes are ignored: they are no frame, or one that the device does not consume in the cycle, of
-- another cycle, or whose data are not good.
abbrev pub HasCause : ConsumerState → Fields → Type 0
HasCause state f = (¬ IsWanted state f) ⊎ (f.counter ≢ counter_of state.factor state.cycle) ⊎ (¬ IsGood f.status)

abbrev pub IsIgnoredFrame : ConsumerState → List ℕ → Type 0
IsIgnoredFrame state bytes = IsErr (fields_at bytes) ⊎ ((f : Fields) × (fields_at bytes ≡ Ok f) × HasCause state f)

-- the frame is this one, or another
abbrev pub if_frame : Fields → Held → Held
if_frame f held = if held.entry.frame.0 == f.frame then with_words (words_of f.csdu) held else held

-- after a frame of these fields was taken
abbrev pub with_frame : Fields → ConsumerState → ConsumerState
with_frame f state = record state { frames = map (if_frame f) state.frames }

-- ---- the end of a cycle

abbrev pub after_cycle : ConsumerState → ConsumerState
after_cycle state = record state { cycle = state.cycle + 1; frames = map (ended state.cycle) state.frames }

-- the words of all frames, one behind the other
abbrev pub image_in : ConsumerState → List ℕ
image_in state = flat_map shown state.frames
