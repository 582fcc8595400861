-- What an app hands over in a cycle, and what is published to it.
use Rattle.std.specs.Prelude.{◌≡◌, ℕ, Bool, false, true, nat_lt, if◌then◌else◌, List, [], ◌∷◌, ◌++◌, length, replicate, slice_index_or}
use Rattle.io_buffers.specs.Given.{Given, given}
use Rattle.free_plant.specs.Views.{PortView, with_takes}
use Rattle.take_lists.specs.Takes.{SameTake}

-- What a take of the app's output gives, its further word, the image published last, and which of the two was used in the
-- cycle.
pub record BufferView : Type 0 where
  pub offer : Given
  pub further : ℕ
  pub image : List ℕ
  pub is_taken : Bool
  pub is_shown : Bool

abbrev pub new_buffer : ℕ → ℕ → BufferView
new_buffer output_words input_words = record {
  offer = given (record { number = 0; fresh = false; in_window = true }) (replicate output_words 0);
  further = 0;
  image = replicate input_words 0;
  is_taken = false;
  is_shown = false;
}

abbrev pub buffer_at : List BufferView → ℕ → BufferView
buffer_at buffers app = slice_index_or buffers app (new_buffer 0 0)

-- the take with its further word
abbrev pub whole_take : BufferView → Given
whole_take b = given b.offer.taken (b.offer.words ++ b.further ∷ [])

-- what was taken in the cycle, and what was published
abbrev pub takes_from : BufferView → List Given
takes_from b = if b.is_taken then b.offer ∷ [] else []

abbrev pub published_to : BufferView → List (List ℕ)
published_to b = if b.is_shown then b.image ∷ [] else []

-- after the take, and after the publication
abbrev pub as_taken : BufferView → BufferView
as_taken b = record b { is_taken = true }

abbrev pub as_shown : List ℕ → BufferView → BufferView
as_shown words b = record b { image = words; is_shown = true }

-- A take from the app's output is ready to be recorded: it is the last one that the port made, and fresh where its number is
-- above that of the last one recorded.
pub record IsFilled (old new : PortView) (before after : BufferView) : Type 0 where
  pub take : Given
  pub taken : new ≡ with_takes old (take ∷ [])
  pub same : SameTake (whole_take after) take
  pub fresh : after.offer.taken.fresh ≡ nat_lt old.last after.offer.taken.number
  pub words : length after.offer.words ≡ length before.offer.words
  pub image : after.image ≡ before.image
  pub unused : (after.is_taken ≡ false) × (after.is_shown ≡ false)
