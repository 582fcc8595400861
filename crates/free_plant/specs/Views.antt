-- What contracts see of the cycles' side of an app, and of the locked plant.
use Rattle.std.specs.Prelude.{◌≡◌, ℕ, ◌<◌, Bool, List, [], ◌∷◌, ◌++◌, length, slice_index_or}
use Rattle.io_buffers.specs.Given.{Given}
use Rattle.iso_plant.specs.Replay.{PlantView}

-- The number of an app, what was taken from its output and published to its input, and the number of the last take that was
-- recorded, 0 before the first one.
pub record PortView : Type 0 where
  pub number : ℕ
  pub taken : List Given
  pub published : List (List ℕ)
  pub last : ℕ

abbrev pub new_port : ℕ → PortView
new_port number = record { number = number; taken = []; published = []; last = 0 }

abbrev pub port_at : List PortView → ℕ → PortView
port_at ports app = slice_index_or ports app (new_port 0)

-- after more takes, and after one more publication with which a take was recorded
abbrev pub with_takes : PortView → List Given → PortView
with_takes p more = record p { taken = p.taken ++ more }

abbrev pub with_image : PortView → List ℕ → ℕ → PortView
with_image p words last = record p { published = p.published ++ words ∷ []; last = last }

pub record LockedView : Type 0 where
  pub plant : PlantView
  pub ports : List PortView
  -- the run was given up
  pub is_stopped : Bool

-- the exchanges of all apps, by number
pub record AreWires (apps : ℕ) (wires : List ℕ) : Type 0 where
  pub count : length wires ≡ apps
  pub each : (app : ℕ) → app < apps → slice_index_or wires app 0 ≡ app
