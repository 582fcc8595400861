-- Which records a text may be of, and the first line at which it is of none.
use Rattle.std.specs.Prelude.{◌≡◌, ◌≢◌, ◌⊎◌, ℕ, ◌+◌, ◌≤◌, List, [], ◌∷◌, ◌++◌, length, zip}
use Rattle.std.specs.List.{AllByRecursion, flat_map}
use Rattle.cycle_rows.specs.declared.rows.JournalRow.{JournalRow}
use Rattle.io_buffers.specs.Given.{Given}
use Rattle.irt_base.specs.declared.limits.TheConstants.{MAX_CYCLES}
use Rattle.irt_base.specs.declared.plants.App.{App}
use Rattle.irt_base.specs.declared.plants.Plant.{Plant}
use Rattle.iso_rules.specs.Lockstep.{AppLog, RunRecord}
use Rattle.iso_rules.specs.declared.turn.Turn.{Turn}
use Rattle.record_laws.specs.Fitting.{IsRecordOf}
use Rattle.record_text.specs.Text.{record_text}
use Rattle.record_reader.specs.Order.{StandInOrder}
use Rattle.record_reader.specs.Reading.{input_words, output_words}
use Rattle.record_reader.specs.declared.fault.RecordFault.{RecordFault}
use Rattle.record_reader.specs.declared.fault.RecordFault.TheVariants as faults

-- the words of an app's takes, images and turns are as many as the plant gives
pub record HasWordCounts (plant : Plant) (p : App × AppLog) : Type 0 where
  pub takes : AllByRecursion (λ (g : Given). length g.words ≡ output_words plant p.0.device) p.1.takes
  pub images : AllByRecursion (λ (words : List ℕ). length words ≡ input_words plant p.0.device) p.1.images
  pub inputs : AllByRecursion (λ (t : Turn). length t.input ≡ input_words plant p.0.device) p.1.turns
  pub outputs : AllByRecursion (λ (t : Turn). length t.output ≡ output_words plant p.0.device) p.1.turns

-- a record of 1 to 10000 cycles of a plant
pub record IsWholeRecord (plant : Plant) (cycles : ℕ) (r : RunRecord JournalRow) : Type 0 where
  pub fits : IsRecordOf plant cycles r
  pub some : 1 ≤ cycles
  pub few : cycles ≤ MAX_CYCLES
  pub words : AllByRecursion (HasWordCounts plant) (zip plant.apps r.apps)
  pub rows : StandInOrder r.journal

-- a text is that of a record
pub record IsRecordText (plant : Plant) (text : List ℕ) (cycles : ℕ) (r : RunRecord JournalRow) : Type 0 where
  pub whole : IsWholeRecord plant cycles r
  pub is : text ≡ record_text plant cycles r

-- some record's text begins so
pub record BeginsText (plant : Plant) (front : List ℕ) : Type 0 where
  pub cycles : ℕ
  pub r : RunRecord JournalRow
  pub rest : List ℕ
  pub text : IsRecordText plant (front ++ rest) cycles r

abbrev pub HasNoFeed : List ℕ → Type 0
HasNoFeed line = AllByRecursion (λ b. b ≢ 10) line

-- each with its line feed
abbrev pub feed_lines : List (List ℕ) → List ℕ
feed_lines lines = flat_map (λ line. line ++ 10 ∷ []) lines

-- No record's text begins with the lines and one more, or there is no further line feed and the text is no record's.
abbrev pub IsFaultAfter : Plant → List ℕ → List ℕ → Type 0
IsFaultAfter plant front rest =
    ((line : List ℕ) × (more : List ℕ) × HasNoFeed line × (rest ≡ line ++ 10 ∷ more) × ¬ BeginsText plant (front ++ (line ++ 10 ∷ [])))
    ⊎ (HasNoFeed rest × ((cycles : ℕ) (r : RunRecord JournalRow) → ¬ IsRecordText plant (front ++ rest) cycles r))

-- The first line, from 1, up to which no record's text begins as the text does. Where there is no such line and the text
-- is still no record's, it is what follows the last line feed.
pub record IsFirstFault (plant : Plant) (text : List ℕ) (line : ℕ) : Type 0 where
  pub lines : List (List ℕ)
  pub rest : List ℕ
  pub plain : AllByRecursion HasNoFeed lines
  pub parts : text ≡ feed_lines lines ++ rest
  pub at : line ≡ length lines + 1
  pub begins : BeginsText plant (feed_lines lines)
  pub fault : IsFaultAfter plant (feed_lines lines) rest

-- a refusal names the first line at fault
abbrev pub IsRefusal : Plant → List ℕ → RecordFault → Type 0
IsRefusal plant text faults.NoMemory = Unit {0}
IsRefusal plant text (faults.Line line) = IsFirstFault plant text line
