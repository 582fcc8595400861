-- The apps of a lockstep run before the first cycle, in the plant's order.
use Rattle.std.specs.Prelude.{◌≡◌, ℕ, List, length, map, zip}
use Rattle.iso_rules.specs.Station.{input_count, output_count, output_lengths}
use Rattle.iso_run.specs.Apps.{new_app}
use Rattle.iso_run.specs.Ends.{EndView, new_end}
use Rattle.iso_run.specs.declared.apps.LockstepApp.{LockstepApp}
use Rattle.plan_rules.specs.Way.{Setup}

-- an app on a device, and its end
abbrev pub opened_app : {A : Type 0} → Setup → ℕ → A → LockstepApp A
opened_app setup device state = new_app state (output_lengths setup device) (output_count setup device) (input_count setup device)

abbrev pub opened_end : Setup → ℕ → EndView
opened_end setup device = new_end (output_count setup device) (input_count setup device)

abbrev pub opened_apps : {A : Type 0} → Setup → List A → List (LockstepApp A)
opened_apps setup states = map (λ p. opened_app setup p.0.device.0 p.1) (zip setup.plant.apps states)

abbrev pub opened_ends : {A : Type 0} → Setup → List A → List EndView
opened_ends setup states = map (λ p. opened_end setup p.0.device.0) (zip setup.plant.apps states)

pub record AreOpened {A : Type 0} (setup : Setup) (states : List A) (opened : List (LockstepApp A)) (own : List EndView) : Type 0 where
  pub count : length states ≡ length setup.plant.apps
  pub apps : opened ≡ opened_apps setup states
  pub ends : own ≡ opened_ends setup states
