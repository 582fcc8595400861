-- What a run leaves of an app, and what a take and a publication add to it.
use Rattle.std.specs.Prelude.{◌≡◌, ◌≢◌, ℕ, ◌-◌, List, [], ◌∷◌, ◌++◌}
use Rattle.io_buffers.specs.Given.{Given}
use Rattle.iso_plant.specs.Step.{EndsView}

pub record AppCycles : Type 0 where
  -- by cycle, what was taken from its output, and what was published to its input
  pub takes : List Given
  pub images : List (List ℕ)
  -- the words of its output and of its input
  pub output_words : ℕ
  pub input_words : ℕ
  -- for how many more takes and publications there is room
  pub take_room : ℕ
  pub image_room : ℕ

abbrev pub with_take : Given → AppCycles → AppCycles
with_take g a = record {
  takes = a.takes ++ g ∷ [];
  images = a.images;
  output_words = a.output_words;
  input_words = a.input_words;
  take_room = a.take_room - 1;
  image_room = a.image_room;
}

abbrev pub with_image : List ℕ → AppCycles → AppCycles
with_image image a = record {
  takes = a.takes;
  images = a.images ++ image ∷ [];
  output_words = a.output_words;
  input_words = a.input_words;
  take_room = a.take_room;
  image_room = a.image_room - 1;
}

-- the same exchanges, which offer the same
pub record AreSameEnds (before after : EndsView) : Type 0 where
  pub apps : after.apps ≡ before.apps
  pub output_words : (n : ℕ) → after.output_words n ≡ before.output_words n
  pub input_words : (n : ℕ) → after.input_words n ≡ before.input_words n
  pub offers : (n : ℕ) → after.offers n ≡ before.offers n

-- An app's exchange was taken from once, and no other.
pub record TakesFrom (app : ℕ) (before after : EndsView) : Type 0 where
  pub same : AreSameEnds before after
  pub taken : after.takes app ≡ before.takes app ++ before.offers app ∷ []
  pub others : (n : ℕ) → n ≢ app → after.takes n ≡ before.takes n
  pub published : (n : ℕ) → after.published n ≡ before.published n

-- An image was published to an app's exchange, and to no other.
pub record PublishesTo (app : ℕ) (image : List ℕ) (before after : EndsView) : Type 0 where
  pub same : AreSameEnds before after
  pub published : after.published app ≡ before.published app ++ image ∷ []
  pub others : (n : ℕ) → n ≢ app → after.published n ≡ before.published n
  pub taken : (n : ℕ) → after.takes n ≡ before.takes n
