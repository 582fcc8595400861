-- What a free run is named by: the plant before cycle 0, and by app the exchange of its input and that of its output.
use Rattle.std.specs.Prelude.{◌≡◌, ℕ, ◌+◌, List, [], Option, Some, None, length, slice_get}
use Rattle.std.specs.Option.{option_map_or}
use Rattle.io_buffers.specs.declared.shared.ConsumerPass.{ConsumerPass}
use Rattle.io_buffers.specs.declared.shared.Exchange.{Exchange}
use Rattle.io_buffers.specs.declared.shared.ProducerPass.{ProducerPass}
use Rattle.io_buffers.specs.Passes.{ExchangeId, width_of, table_of, producer_table, consumer_table}
use Rattle.irt_base.specs.declared.plants.App.{App}
use Rattle.iso_plant.specs.Replay.{PlantView, setup_in}
use Rattle.iso_plant.specs.Step.{IsSamePlant}
use Rattle.iso_rules.specs.Station.{input_count, output_count, output_lengths}

-- How many cycles and apps it has, and of an app: the words of its output, those of each frame of it, and the words of its
-- input. All are none where there is no such app.
abbrev pub cycles_of : Option PlantView → ℕ
cycles_of start = option_map_or (λ (v : PlantView). length v.world.rows) start 0

abbrev pub app_count : Option PlantView → ℕ
app_count start = option_map_or (λ (v : PlantView). length v.plant.apps) start 0

abbrev pub of_app : {X : Type 0} → (PlantView → ℕ → X) → X → Option PlantView → ℕ → X
of_app f none start app =
    option_map_or (λ (v : PlantView). option_map_or (λ (a : App). f v a.device.0) (slice_get v.plant.apps app) none) start none

abbrev pub output_width : Option PlantView → ℕ → ℕ
output_width = of_app (λ v device. output_count (setup_in v) device) 0

abbrev pub frame_widths : Option PlantView → ℕ → List ℕ
frame_widths = of_app (λ v device. output_lengths (setup_in v) device) []

abbrev pub input_width : Option PlantView → ℕ → ℕ
input_width = of_app (λ v device. input_count (setup_in v) device) 0

-- the plant is the named one, in whatever cycle
abbrev pub IsOfRun : Option PlantView → PlantView → Type 0
IsOfRun None v = ⊥
IsOfRun (Some start) v = IsSamePlant start v

-- The two exchanges of an app. An output has a further word.
pub record IsWire (inputs outputs : List ExchangeId) (start : Option PlantView) (number : ℕ) (input output : Exchange) : Type 0 where
  pub input_table : slice_get inputs number ≡ Some (table_of input)
  pub output_table : slice_get outputs number ≡ Some (table_of output)
  pub input_words : width_of input ≡ input_width start number
  pub output_words : width_of output ≡ output_width start number + 1

-- The passes of an app that the cycles have: the consumer of its output, and the producer of its input.
pub record IsPort (inputs outputs : List ExchangeId) (number : ℕ) (taker : ConsumerPass) (giver : ProducerPass) : Type 0 where
  pub input_table : slice_get inputs number ≡ Some (producer_table giver)
  pub output_table : slice_get outputs number ≡ Some (consumer_table taker)

-- The passes that the app has: the consumer of its input, and the producer of its output.
pub record IsAppSide (inputs outputs : List ExchangeId) (number : ℕ) (taker : ConsumerPass) (giver : ProducerPass) : Type 0 where
  pub input_table : slice_get inputs number ≡ Some (consumer_table taker)
  pub output_table : slice_get outputs number ≡ Some (producer_table giver)
