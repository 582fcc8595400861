-- What the providers of a plant put into the frames of a cycle.
use Rattle.std.specs.Prelude.{◌≡◌, ◌≢◌, ℕ, ◌<◌, ◌^◌, List, length, Option, Some, slice_get, AllPairs}
use Rattle.std.specs.List.{AllByRecursion, AllZip}
use Rattle.irt_base.specs.Cycle.{IsDue}
use Rattle.irt_base.specs.Words.{bytes_of}
use Rattle.irt_base.specs.declared.blocks.Entry.{Entry}
use Rattle.irt_base.specs.declared.plants.Demand.{Demand}
use Rattle.iso_rules.specs.Image.{loaded_words, sent_words}
use Rattle.iso_rules.specs.Station.{output_count, part_of, words_in}
use Rattle.iso_station.specs.Kept.{IsWhole}
use Rattle.iso_station.specs.Mark.{counter_of}
use Rattle.iso_station.specs.Provider.{HasPlace, IsProvided, sent_frame}
use Rattle.iso_station.specs.declared.mark.TheConstants.{DATA_STATUS}
use Rattle.plan_rules.specs.Once.{IsDueFrame}
use Rattle.plan_rules.specs.Way.{Setup}
use Rattle.plant_rules.specs.Words.{demand_words}
use Rattle.rtc3_frame.specs.Frame.{frame_bytes, sent_fields}
use Rattle.plant_stations.specs.declared.sender.Sender.{Sender}

-- numbers of 64 bits
abbrev pub AreWords : List ℕ → Type 0
AreWords words = AllByRecursion (λ word. word < 2 ^ 64) words

-- the words that each device sends in cycle k, by device
pub record AreOutputs (setup : Setup) (taken : ℕ → ℕ → List ℕ) (k : ℕ) (outputs : List (List ℕ)) : Type 0 where
  pub count : length outputs ≡ length setup.plant.devices
  pub each : (device : ℕ) (words : List ℕ) → slice_get outputs device ≡ Some words → words ≡ sent_words setup taken k device

-- each has as many words as its device's frames take
pub record HaveWidths (setup : Setup) (outputs : List (List ℕ)) : Type 0 where
  pub count : length outputs ≡ length setup.plant.devices
  pub each : (device : ℕ) (words : List ℕ) → slice_get outputs device ≡ Some words → length words ≡ output_count setup device

-- A demand's frame has what was loaded in cycle k, which is as many words as its data have, with the cycle's counter and
-- good data. With factor 32 and 40 bytes of data these are 5 words, and the CycleCounter is 96 in cycle 3.
pub record HasLoaded (setup : Setup) (taken : ℕ → ℕ → List ℕ) (k : ℕ) (d : Demand) (frame : Option (List ℕ)) : Type 0 where
  pub layout : frame ≡ Some (frame_bytes (sent_fields d.frame.0 d.provider.0 (bytes_of (loaded_words setup taken k d.frame.0))
      (counter_of setup.plant.factor k) DATA_STATUS))
  pub count : length (loaded_words setup taken k d.frame.0) ≡ demand_words d
  pub range : AreWords (loaded_words setup taken k d.frame.0)

-- By the number of its demand, each frame that is due has so.
abbrev pub AreLoaded : Setup → (ℕ → ℕ → List ℕ) → ℕ → List (List ℕ) → Type 0
AreLoaded setup taken k frames =
    (number : ℕ) (d : Demand) → slice_get setup.plant.demands number ≡ Some d → IsDueFrame setup k d.frame.0 d →
    HasLoaded setup taken k d (slice_get frames number)

-- The frame of each demand that is not due stays as it was.
abbrev pub OthersStay : Setup → ℕ → List (List ℕ) → List (List ℕ) → Type 0
OthersStay setup k old new =
    (number : ℕ) (d : Demand) → slice_get setup.plant.demands number ≡ Some d → ¬ IsDueFrame setup k d.frame.0 d →
    slice_get new number ≡ slice_get old number

-- ---- senders, one after the other

-- Some senders can load these words: there are as many as the frames of each take, there is room for each frame at its own
-- place, and no two senders have one.
pub record AreReady (senders : List Sender) (outputs frames : List (List ℕ)) : Type 0 where
  pub count : length outputs ≡ length senders
  pub words : (n : ℕ) (s : Sender) (words : List ℕ) → slice_get senders n ≡ Some s → slice_get outputs n ≡ Some words →
      length words ≡ words_in s.provider.entries
  pub whole : (n : ℕ) (s : Sender) → slice_get senders n ≡ Some s → IsWhole s.provider.entries
  pub places : (n : ℕ) (s : Sender) → slice_get senders n ≡ Some s → AllZip (HasPlace frames) s.provider.entries s.places
  pub apart : (n : ℕ) (s : Sender) → slice_get senders n ≡ Some s → AllPairs (λ (a b : ℕ). a ≢ b) s.places
  pub others : (n m : ℕ) (s t : Sender) (e d : Entry) (place : ℕ) → slice_get senders n ≡ Some s → slice_get senders m ≡ Some t →
      IsProvided s.provider s.places e place → IsProvided t.provider t.places d place → n ≡ m

-- One sender's frame at a place is written, where it is due in cycle k, and the words are of 64 bits.
pub record IsSent (s : Sender) (k : ℕ) (words : List ℕ) (new : List (List ℕ)) : Type 0 where
  pub due : (e : Entry) (place : ℕ) → IsProvided s.provider s.places e place → IsDue k e.ratio e.phase →
      slice_get new place ≡ Some (sent_frame s.provider k e (part_of s.provider.entries e.frame.0 words))
  pub range : AreWords words

-- frames of the same lengths
pub record AreLikeLong (old new : List (List ℕ)) : Type 0 where
  pub count : length new ≡ length old
  pub each : (place : ℕ) (a b : List ℕ) → slice_get old place ≡ Some a → slice_get new place ≡ Some b → length b ≡ length a

-- The frames of all senders are so, and nothing else changed.
pub record AreSent (senders : List Sender) (k : ℕ) (outputs old new : List (List ℕ)) : Type 0 where
  pub each : (n : ℕ) (s : Sender) (words : List ℕ) → slice_get senders n ≡ Some s → slice_get outputs n ≡ Some words → IsSent s k words new
  pub other : (place : ℕ) → ((n : ℕ) (s : Sender) (e : Entry) → slice_get senders n ≡ Some s → IsProvided s.provider s.places e place →
      ¬ IsDue k e.ratio e.phase) → slice_get new place ≡ slice_get old place
  pub lengths : AreLikeLong old new
