-- What is opened for an app.
use Rattle.std.specs.Prelude.{◌≡◌, ℕ, ◌+◌, Option, Some, List, slice_get}
use Rattle.io_buffers.specs.Passes.{width_of}
use Rattle.iso_plant.specs.Replay.{PlantView}
use Rattle.free_plant.specs.Named.{frame_widths, input_width, output_width}
use Rattle.free_plant.specs.Ties.{HasWidths}
use Rattle.iso_free.specs.declared.opening.OpenedApp.{OpenedApp}

-- exchanges and a buffer of the app's widths, and the words of each frame that its device provides
pub record IsOpened {A : Type 0} (start : Option PlantView) (n : ℕ) (o : OpenedApp A) : Type 0 where
  pub lengths : o.lengths ≡ frame_widths start n
  pub buffer : HasWidths start n o.buffer
  pub input : width_of o.input.exchange ≡ input_width start n
  pub output : width_of o.output.exchange ≡ output_width start n + 1

abbrev pub AreOpened : {A : Type 0} → Option PlantView → List (OpenedApp A) → Type 0
AreOpened {A} start os = (n : ℕ) (o : OpenedApp A) → slice_get os n ≡ Some o → IsOpened start n o
