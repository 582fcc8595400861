-- What a step of a plant makes of it, and of the apps' exchanges.
use Rattle.std.specs.Prelude.{◌≡◌, ℕ, ◌+◌, ◌<◌, List, [], ◌∷◌, ◌++◌, length, Some, slice_get}
use Rattle.io_buffers.specs.Given.{Given}
use Rattle.irt_base.specs.declared.plants.App.{App}
use Rattle.iso_rules.specs.Station.{input_count, output_count}
use Rattle.iso_plant.specs.Replay.{PlantView, images_of, setup_in, takes_of}

-- the same plan, walks and world
pub record IsSamePlant (old new : PlantView) : Type 0 where
  pub plant : new.plant ≡ old.plant
  pub bundles : new.bundles ≡ old.bundles
  pub walks : new.walks ≡ old.walks
  pub world : new.world ≡ old.world

-- What `Ends` tell of the exchanges: the number of apps, the words of an app's output and input, what a take gives, what was
-- taken and what was published.
pub record EndsView : Type 0 where
  pub apps : ℕ
  pub output_words : ℕ → ℕ
  pub input_words : ℕ → ℕ
  pub offers : ℕ → Given
  pub takes : ℕ → List Given
  pub published : ℕ → List (List ℕ)

abbrev pub ends_of : {E : Type 0} → (E → ℕ) → (E → ℕ → ℕ) → (E → ℕ → ℕ) → (E → ℕ → Given) → (E → ℕ → List Given) → (E → ℕ → List (List ℕ)) → E → EndsView
ends_of apps output_words input_words offers takes published e = record {
  apps = apps e;
  output_words = output_words e;
  input_words = input_words e;
  offers = offers e;
  takes = takes e;
  published = published e;
}

-- exchanges of the plant's apps, each with its device's widths
pub record ServesPlant (v : PlantView) (e : EndsView) : Type 0 where
  pub count : e.apps ≡ length v.plant.apps
  pub outputs : (n : ℕ) (app : App) → slice_get v.plant.apps n ≡ Some app → e.output_words n ≡ output_count (setup_in v) app.device.0
  pub inputs : (n : ℕ) (app : App) → slice_get v.plant.apps n ≡ Some app → e.input_words n ≡ input_count (setup_in v) app.device.0

-- nothing was taken or published yet
pub record IsFresh (e : EndsView) : Type 0 where
  pub takes : (n : ℕ) → e.takes n ≡ []
  pub published : (n : ℕ) → e.published n ≡ []

-- One app in a step: what its exchange offered was taken, and one image was published.
pub record StepsApp (old new : PlantView) (before after : EndsView) (n : ℕ) : Type 0 where
  pub image : List ℕ
  pub take : takes_of n new ≡ takes_of n old ++ before.offers n ∷ []
  pub taken : after.takes n ≡ before.offers n ∷ []
  pub shown : images_of n new ≡ images_of n old ++ image ∷ []
  pub published : after.published n ≡ image ∷ []

-- One cycle more is done.
pub record Steps (old new : PlantView) (before after : EndsView) : Type 0 where
  pub same : IsSamePlant old new
  pub done : new.done ≡ old.done + 1
  pub apps : (n : ℕ) → n < length old.plant.apps → StepsApp old new before after n
  pub ends : after.apps ≡ before.apps
  pub output_words : (n : ℕ) → after.output_words n ≡ before.output_words n
  pub input_words : (n : ℕ) → after.input_words n ≡ before.input_words n
