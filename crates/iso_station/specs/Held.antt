-- What a consumer keeps of one frame.
use Rattle.std.specs.Prelude.{ℕ, ◌+◌, ◌==◌, min, nat_lt, Bool, false, true, ◌&&◌, if◌then◌else◌, List, replicate}
use Rattle.irt_base.specs.declared.blocks.Entry.{Entry}
use Rattle.irt_base.specs.declared.limits.TheConstants.{HOLD_CYCLES}
use Rattle.irt_switch.specs.Release.{is_due}
use Rattle.iso_rules.specs.Station.{data_words}

pub record Held : Type 0 where
  pub entry : Entry
  -- the words that came last
  pub words : List ℕ
  -- in how many cycles the frame was due since, up to HOLD_CYCLES
  pub misses : ℕ
  -- they came in the cycle that goes on
  pub came : Bool

-- before any came
abbrev pub new_held : Entry → Held
new_held e = record { entry = e; words = replicate (data_words e) 0; misses = HOLD_CYCLES; came = false }

-- the frame of this FrameID, with so many bytes of data, is due in cycle k
abbrev pub wants : ℕ → ℕ → ℕ → Held → Bool
wants k frame count held = (held.entry.frame.0 == frame) && (held.entry.data_length == count) && is_due k held.entry

-- after these words came
abbrev pub with_words : List ℕ → Held → Held
with_words words held = record held { words = words; came = true }

abbrev pub missed : ℕ → ℕ
missed misses = min (misses + 1) HOLD_CYCLES

-- after cycle k, which ends
abbrev pub ended : ℕ → Held → Held
ended k held =
    if held.came then record held { misses = 0; came = false } else
    if is_due k held.entry then record held { misses = missed held.misses } else held

-- the words that it gives
abbrev pub shown : Held → List ℕ
shown held = if nat_lt held.misses HOLD_CYCLES then held.words else replicate (data_words held.entry) 0
