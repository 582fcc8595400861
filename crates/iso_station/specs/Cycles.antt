-- A consumer over any list of cycles.
use Rattle.std.specs.Prelude.{◌≡◌, ℕ, zero, suc, ◌==◌, List, Option, None, option_map, filter, fold}
use Rattle.std.specs.List.{AllZip, concat, last_or}
use Rattle.irt_base.specs.Words.{words_of}
use Rattle.irt_base.specs.declared.blocks.Bundle.{Bundle}
use Rattle.irt_base.specs.declared.blocks.Entry.{Entry}
use Rattle.iso_rules.specs.Hold.{IsHeldOf}
use Rattle.iso_rules.specs.Station.{consumed_of}
use Rattle.iso_station.specs.Consumer.{ConsumerState, new_consumer, with_frame, after_cycle}
use Rattle.rtc3_frame.specs.Frame.{Fields}

-- after the frames of these fields were taken, in their order
abbrev pub with_frames : List Fields → ConsumerState → ConsumerState
with_frames fs state = fold (λ s f. with_frame f s) state fs

-- a consumer after so many cycles, in each of which it took these frames
abbrev pub consumer_after : Bundle → (ℕ → List Fields) → ℕ → ConsumerState
consumer_after bundle frames zero = new_consumer bundle
consumer_after bundle frames (suc k) = after_cycle (with_frames (frames k) (consumer_after bundle frames k))

-- The words that came by an entry, of the frames taken in a cycle. Of several of one FrameID the last one counts.
abbrev pub came_by : Entry → List Fields → Option (List ℕ)
came_by e fs = option_map (λ (f : Fields). words_of f.csdu) (last_or None (filter (λ (f : Fields). e.frame.0 == f.frame) fs))

-- What a device's image after cycle k is, where these frames were taken: of each frame that it consumes, what is held.
pub record IsHeldImage (bundle : Bundle) (frames : ℕ → List Fields) (k : ℕ) (image : List ℕ) : Type 0 where
  pub parts : List (List ℕ)
  pub each : AllZip (λ (e : Entry) (part : List ℕ). IsHeldOf (λ c. came_by e (frames c)) e k part) (consumed_of bundle.frames.entries) parts
  pub joined : image ≡ concat parts
