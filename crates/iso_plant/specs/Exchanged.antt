-- What it does to take from all apps, and to publish to all of them.
use Rattle.std.specs.Prelude.{◌≡◌, ◌≢◌, ℕ, ◌<◌, List, [], ◌∷◌, length, Some, slice_get}
use Rattle.irt_base.specs.declared.plants.App.{App}
use Rattle.iso_plant.specs.History.{AppCycles, AreSameEnds, with_image, with_take}
use Rattle.iso_plant.specs.Step.{EndsView}

-- no two apps have one device
abbrev pub HaveOwnDevices : List App → Type 0
HaveOwnDevices apps = (n m : ℕ) (a b : App) → slice_get apps n ≡ Some a → slice_get apps m ≡ Some b → a.device.0 ≡ b.device.0 → n ≡ m

-- a device that no app is on
abbrev pub HasNoApp : List App → ℕ → Type 0
HasNoApp apps device = (n : ℕ) (app : App) → slice_get apps n ≡ Some app → app.device.0 ≢ device

-- a device's place among the outputs, which has as many words as the app puts out
pub record HasOutput (outputs : List (List ℕ)) (app : App) (a : AppCycles) : Type 0 where
  pub words : List ℕ
  pub at : slice_get outputs app.device.0 ≡ Some words
  pub count : length words ≡ a.output_words

-- All apps can be taken from: there is room for a take of each, and a place for its words by device.
pub record CanTake (apps : List App) (histories : List AppCycles) (outputs : List (List ℕ)) (e : EndsView) : Type 0 where
  pub own : HaveOwnDevices apps
  pub count : length histories ≡ length apps
  pub ends : e.apps ≡ length apps
  pub room : (n : ℕ) (a : AppCycles) → slice_get histories n ≡ Some a → 0 < a.take_room
  pub words : (n : ℕ) (a : AppCycles) → slice_get histories n ≡ Some a → e.output_words n ≡ a.output_words
  pub places : (n : ℕ) (app : App) (a : AppCycles) → slice_get apps n ≡ Some app → slice_get histories n ≡ Some a →
      HasOutput outputs app a
  pub fresh : (n : ℕ) → e.takes n ≡ []

-- Each app was taken from once, and the words stand at its device; what stands at devices without app is as before.
pub record TakesAll (apps : List App) (old new : List AppCycles) (sent outputs : List (List ℕ)) (before after : EndsView) : Type 0 where
  pub count : length new ≡ length old
  pub histories : (n : ℕ) (a : AppCycles) → slice_get old n ≡ Some a → slice_get new n ≡ Some (with_take (before.offers n) a)
  pub widths : (n : ℕ) (a : AppCycles) → slice_get old n ≡ Some a → length (before.offers n).words ≡ a.output_words
  pub places : length outputs ≡ length sent
  pub words : (n : ℕ) (app : App) → slice_get apps n ≡ Some app → slice_get outputs app.device.0 ≡ Some (before.offers n).words
  pub idle : (device : ℕ) → HasNoApp apps device → slice_get outputs device ≡ slice_get sent device
  pub same : AreSameEnds before after
  pub taken : (n : ℕ) → n < length apps → after.takes n ≡ before.offers n ∷ []
  pub published : (n : ℕ) → after.published n ≡ before.published n

-- An image of each app can be published.
pub record CanPublish (histories : List AppCycles) (images : List (List ℕ)) (e : EndsView) : Type 0 where
  pub count : length images ≡ length histories
  pub ends : e.apps ≡ length histories
  pub room : (n : ℕ) (a : AppCycles) → slice_get histories n ≡ Some a → 0 < a.image_room
  pub words : (n : ℕ) (a : AppCycles) → slice_get histories n ≡ Some a → e.input_words n ≡ a.input_words
  pub widths : (n : ℕ) (a : AppCycles) (image : List ℕ) → slice_get histories n ≡ Some a → slice_get images n ≡ Some image →
      length image ≡ a.input_words
  pub fresh : (n : ℕ) → e.published n ≡ []

-- Each app's was, once.
pub record PublishesAll (old new : List AppCycles) (images : List (List ℕ)) (before after : EndsView) : Type 0 where
  pub count : length new ≡ length old
  pub histories : (n : ℕ) (a : AppCycles) (image : List ℕ) → slice_get old n ≡ Some a → slice_get images n ≡ Some image →
      slice_get new n ≡ Some (with_image image a)
  pub same : AreSameEnds before after
  pub published : (n : ℕ) (image : List ℕ) → slice_get images n ≡ Some image → after.published n ≡ image ∷ []
  pub taken : (n : ℕ) → after.takes n ≡ before.takes n
