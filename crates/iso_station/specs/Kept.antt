-- What holds of the parts of a station.
use Rattle.std.specs.Prelude.{◌≡◌, ℕ, ◌<◌, ◌≤◌, List, length, All, AllPairs}
use Rattle.irt_base.specs.Valid.{IsEntry}
use Rattle.irt_base.specs.declared.blocks.Entry.{Entry}
use Rattle.irt_base.specs.declared.limits.TheConstants.{HOLD_CYCLES}
use Rattle.iso_rules.specs.Station.{data_words}
use Rattle.iso_station.specs.Held.{Held}

-- a valid entry, with as many words as its data have
pub record IsKept (e : Entry) (words : List ℕ) (missed : ℕ) : Type 0 where
  pub valid : IsEntry e
  pub count : length words ≡ data_words e
  pub misses : missed ≤ HOLD_CYCLES

-- by ascending FrameID, so each once
abbrev pub AreInOrder : List Held → Type 0
AreInOrder frames = AllPairs (λ (a b : Held). a.entry.frame.0 < b.entry.frame.0) frames

-- valid entries by ascending FrameID
pub record IsWhole (entries : List Entry) : Type 0 where
  pub valid : All IsEntry entries
  pub order : AllPairs (λ (a b : Entry). a.frame.0 < b.frame.0) entries
