-- Lists of which each place was written.
use Rattle.std.specs.Prelude.{◌≡◌, ℕ, ◌<◌, ◌≤◌, ◌^◌, List, length, Some, slice_get}
use Rattle.iso_run.specs.Apps.{IsReady}
use Rattle.iso_run.specs.Ends.{EndView}
use Rattle.iso_run.specs.declared.apps.LockstepApp.{LockstepApp}

-- Of each place what stood there and what stands there now.
pub record AreEach {X : Type 0} (R : ℕ → X → X → Type 0) (old new : List X) : Type 0 where
  pub count : length new ≡ length old
  pub each : (n : ℕ) (x y : X) → slice_get old n ≡ Some x → slice_get new n ≡ Some y → R n x y

-- the same of the places below one, and the others are as they were
pub record AreEachBelow {X : Type 0} (R : ℕ → X → X → Type 0) (place : ℕ) (old new : List X) : Type 0 where
  pub count : length new ≡ length old
  pub each : (n : ℕ) (x y : X) → n < place → slice_get old n ≡ Some x → slice_get new n ≡ Some y → R n x y
  pub rest : (n : ℕ) → place ≤ n → slice_get new n ≡ slice_get old n

-- the end of an app, which has its words
pub record IsEndOf {A : Type 0} (a : LockstepApp A) (e : EndView) : Type 0 where
  pub words : length e.offer.words ≡ a.output_words
  pub image : length e.image ≡ a.input_words

-- apps with their ends, ready for a cycle
pub record AreReady {A : Type 0} (apps : List (LockstepApp A)) (ends : List EndView) : Type 0 where
  pub count : length ends ≡ length apps
  pub ready : (n : ℕ) (a : LockstepApp A) → slice_get apps n ≡ Some a → IsReady a
  pub room : (n : ℕ) (a : LockstepApp A) → slice_get apps n ≡ Some a → a.input.newest < 2 ^ 60
  pub fit : (n : ℕ) (a : LockstepApp A) (e : EndView) → slice_get apps n ≡ Some a → slice_get ends n ≡ Some e → IsEndOf a e
