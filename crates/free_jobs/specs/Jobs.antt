-- The turns of an app, and its passes.
use Rattle.std.specs.Prelude.{◌≡◌, ℕ, ◌<◌, ◌≤◌, List, [], ◌∷◌, ◌++◌, map, Option, Some, slice_get}
use Rattle.io_buffers.specs.Given.{Given}
use Rattle.io_buffers.specs.Passes.{ExchangeId, published_by, taken_by}
use Rattle.io_buffers.specs.declared.shared.ConsumerPass.{ConsumerPass}
use Rattle.io_buffers.specs.declared.shared.ProducerPass.{ProducerPass}
use Rattle.irt_base.specs.declared.limits.TheConstants.{MAX_CYCLES}
use Rattle.iso_plant.specs.Replay.{PlantView}
use Rattle.iso_rules.specs.Legal.{input_of}
use Rattle.iso_rules.specs.declared.turn.Turn.{Turn}
use Rattle.free_plant.specs.Named.{IsAppSide, app_count, cycles_of, frame_widths, output_width}
use Rattle.take_lists.specs.Rows.{FindsMore, RepliesUpTo, output_row}
use Rattle.take_lists.specs.Takes.{AreFresh, AreSomeOf}

-- the number of an app, how many cycles its last turn found, 0 before the first one, and its turns
pub record JobView : Type 0 where
  pub number : ℕ
  pub found : ℕ
  pub turns : List Turn

abbrev pub new_job : ℕ → JobView
new_job number = record { number = number; found = 0; turns = [] }

-- The turns of an app by themselves. The last one found so many cycles.
pub record HasTurned {A : Type 0} (reply : A → List ℕ → ℕ → List ℕ) (next : A → List ℕ → ℕ → A) (firsts : List A)
    (start : Option PlantView) (number found : ℕ) (turns : List Turn) (after : A) (last : ℕ) : Type 0 where
  pub first : A
  pub first_is : slice_get firsts number ≡ Some first
  pub replies : RepliesUpTo reply next (frame_widths start number) (output_width start number) first turns after
  pub rises : FindsMore 0 turns found
  pub fresh : AreFresh 0 (map input_of turns) last

-- its turns by its passes: their inputs are some of its takes, and all that was published are their rows
pub record IsJob {A : Type 0} (reply : A → List ℕ → ℕ → List ℕ) (next : A → List ℕ → ℕ → A) (firsts : List A)
    (inputs outputs : List ExchangeId) (start : Option PlantView) (number : ℕ) (app : A) (lengths : List ℕ) (taker : ConsumerPass) (giver : ProducerPass) (turns : List Turn)
    (found last : ℕ) : Type 0 where
  pub turned : HasTurned reply next firsts start number found turns app last
  pub below : number < app_count start
  pub side : IsAppSide inputs outputs number taker giver
  pub frames : lengths ≡ frame_widths start number
  pub takes : AreSomeOf (map input_of turns) (taken_by taker)
  pub published : published_by giver ≡ map output_row turns
  pub within : found ≤ cycles_of start
  pub few : cycles_of start ≤ MAX_CYCLES

-- the last of the takes that were added is this one
abbrev pub TakesUpTo : List Given → List Given → Given → Type 0
TakesUpTo old new t = (between : List Given) × (new ≡ (old ++ between) ++ t ∷ [])
