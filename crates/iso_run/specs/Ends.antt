-- What an app hands over in a cycle, and what is published to it.
use Rattle.std.specs.Prelude.{ℕ, Bool, true, false, if◌then◌else◌, List, [], ◌∷◌, replicate, slice_index_or}
use Rattle.io_buffers.specs.Given.{Given, given}
use Rattle.io_buffers.specs.Plain.{Plain, taken_from}

-- what a take of the app's output gives, the last image, and which of the two was used in the cycle
pub record EndView : Type 0 where
  pub offer : Given
  pub image : List ℕ
  pub is_taken : Bool
  pub is_shown : Bool

-- where zeros are offered, and nothing was taken or published
abbrev pub new_end : ℕ → ℕ → EndView
new_end output_words input_words = record {
  offer = given (record { number = 0; fresh = false; in_window = true }) (replicate output_words 0);
  image = replicate input_words 0;
  is_taken = false;
  is_shown = false;
}

abbrev pub end_at : List EndView → ℕ → EndView
end_at ends n = slice_index_or ends n (new_end 0 0)

-- what was taken from the app in the cycle, and what was published to it
abbrev pub takes_from : EndView → List Given
takes_from e = if e.is_taken then e.offer ∷ [] else []

abbrev pub published_to : EndView → List (List ℕ)
published_to e = if e.is_shown then e.image ∷ [] else []

-- after a take, and after a publication
abbrev pub with_take : EndView → EndView
with_take e = record e { is_taken = true }

abbrev pub with_image : List ℕ → EndView → EndView
with_image image e = record e { image = image; is_shown = true }

-- before a cycle: what the app's output exchange gives is offered
abbrev pub offered_from : Plain → EndView → EndView
offered_from output e =
    record { offer = given (taken_from output) output.newest_words; image = e.image; is_taken = false; is_shown = false }
