-- A provider, as its clauses see it, and what it writes.
use Rattle.std.specs.Prelude.{◌≡◌, ℕ, ◌+◌, List, length, Some, slice_get, slice_set, if◌then◌else◌}
use Rattle.irt_base.specs.Cycle.{IsDue}
use Rattle.irt_base.specs.Words.{bytes_of}
use Rattle.irt_base.specs.declared.blocks.Bundle.{Bundle}
use Rattle.irt_base.specs.declared.blocks.Entry.{Entry}
use Rattle.irt_switch.specs.Release.{is_due}
use Rattle.iso_rules.specs.Station.{provided_of, part_of}
use Rattle.iso_station.specs.Mark.{counter_of}
use Rattle.iso_station.specs.declared.mark.TheConstants.{DATA_STATUS}
use Rattle.rtc3_frame.specs.Frame.{frame_bytes, sent_fields}
use Rattle.rtc3_frame.specs.declared.frame.TheConstants.{HEAD, TAIL}

pub record ProviderState : Type 0 where
  pub device : ℕ
  -- the send clock factor
  pub factor : ℕ
  -- the entries of the frames that the device provides, by ascending FrameID
  pub entries : List Entry

abbrev pub new_provider : Bundle → ℕ → ProviderState
new_provider bundle device = record { device = device; factor = bundle.sync.factor; entries = provided_of bundle.frames.entries }

-- The frame by which a device sends these words in cycle k. With factor 32 device 0 sends 39 zero bytes and 0x80 as frame
-- 0x100 in cycle 3 so: 030000000100 020000000000 8892 0100, the data, 0060 35 00.
abbrev pub sent_frame : ProviderState → ℕ → Entry → List ℕ → List ℕ
sent_frame p k e words = frame_bytes (sent_fields e.frame.0 p.device (bytes_of words) (counter_of p.factor k) DATA_STATUS)

-- the frames with an entry's one at a place, where it is due in cycle k
abbrev pub with_due : ProviderState → ℕ → Entry → List ℕ → ℕ → List (List ℕ) → List (List ℕ)
with_due p k e words place frames = if is_due k e then slice_set frames place (sent_frame p k e words) else frames

-- there is room for an entry's frame at a place
pub record HasPlace (frames : List (List ℕ)) (e : Entry) (place : ℕ) : Type 0 where
  pub bytes : List ℕ
  pub stands : slice_get frames place ≡ Some bytes
  pub count : length bytes ≡ e.data_length + (HEAD + TAIL)

-- one of the provided frames, with its place
pub record IsProvided (p : ProviderState) (places : List ℕ) (e : Entry) (place : ℕ) : Type 0 where
  pub number : ℕ
  pub stands : slice_get p.entries number ≡ Some e
  pub at : slice_get places number ≡ Some place

-- Each provided frame that is due in cycle k was written at its place, with its part of the words, and nothing else
-- changed.
pub record IsLoaded (p : ProviderState) (k : ℕ) (words places : List ℕ) (old new : List (List ℕ)) : Type 0 where
  pub due : (e : Entry) (place : ℕ) → IsProvided p places e place → IsDue k e.ratio e.phase →
      slice_get new place ≡ Some (sent_frame p k e (part_of p.entries e.frame.0 words))
  pub other : (place : ℕ) → ((e : Entry) → IsProvided p places e place → ¬ IsDue k e.ratio e.phase) →
      slice_get new place ≡ slice_get old place
  pub count : length new ≡ length old
