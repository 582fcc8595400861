-- The plant and its apps between two cycles of a lockstep run.
use Rattle.std.specs.Prelude.{◌≡◌, ℕ, nat_lt, List, map, length, Some, slice_get}
use Rattle.io_buffers.specs.Passes.{publication}
use Rattle.iso_plant.specs.Replay.{PlantView, setup_in, world_in}
use Rattle.iso_plant.specs.Step.{EndsView}
use Rattle.iso_rules.specs.Lockstep.{IsLockstep}
use Rattle.iso_rules.specs.Station.{input_count, output_count, output_lengths}
use Rattle.iso_rules.specs.Turns.{AppRun, outputs_published}
use Rattle.iso_run.specs.Each.{AreReady}
use Rattle.iso_run.specs.Ends.{EndView, end_at, takes_from, published_to}
use Rattle.iso_run.specs.declared.apps.LockstepApp.{LockstepApp}
use Rattle.plan_rules.specs.Way.{Setup}

-- what the ends tell
abbrev pub ends_view : List EndView → EndsView
ends_view ends = record {
  apps = length ends;
  output_words = λ n. length (end_at ends n).offer.words;
  input_words = λ n. length (end_at ends n).image;
  offers = λ n. (end_at ends n).offer;
  takes = λ n. takes_from (end_at ends n);
  published = λ n. published_to (end_at ends n);
}

-- its device's widths, and the lengths of the frames that it provides
pub record HasWidths {A : Type 0} (setup : Setup) (device : ℕ) (a : LockstepApp A) : Type 0 where
  pub lengths : a.lengths ≡ output_lengths setup device
  pub output : a.output_words ≡ output_count setup device
  pub input : a.input_words ≡ input_count setup device

-- After k turns its output has publication k, and its input too, which it holds. Both have number 0 at first.
pub record HasPublished {A : Type 0} (setup : Setup) (k : ℕ) (run : AppRun A) (a : LockstepApp A) : Type 0 where
  pub output : a.output.newest ≡ k
  pub words : a.output.newest_words ≡ publication (outputs_published setup run.device run.turns) k
  pub fresh : nat_lt a.output.held k ≡ nat_lt 0 k
  pub input : a.input.newest ≡ k
  pub held : a.input.held ≡ k

-- The app stands where its run does after k cycles.
pub record IsAppOf {A : Type 0} (setup : Setup) (k : ℕ) (run : AppRun A) (a : LockstepApp A) : Type 0 where
  pub state : a.app ≡ run.state
  pub turns : a.turns ≡ run.turns
  pub turn_count : length run.turns ≡ k
  pub image_count : length run.images ≡ k
  pub widths : HasWidths setup run.device a
  pub published : HasPublished setup k run a

-- So do all apps, and the plant has what was taken and published in their runs.
pub record AreBetween {A : Type 0} (setup : Setup) (runs : List (AppRun A)) (v : PlantView) (apps : List (LockstepApp A))
    (ends : List EndView) : Type 0 where
  pub devices : map (λ (run : AppRun A). run.device) runs ≡ map (λ app. app.device.0) setup.plant.apps
  pub takes : v.takes ≡ map (λ (run : AppRun A). run.takes) runs
  pub images : v.images ≡ map (λ (run : AppRun A). run.images) runs
  pub count : length apps ≡ length runs
  pub ready : AreReady apps ends
  pub each : (n : ℕ) (run : AppRun A) (a : LockstepApp A) → slice_get runs n ≡ Some run → slice_get apps n ≡ Some a →
      IsAppOf setup v.done run a

-- The runs are those of as many cycles in lockstep as the plant has done.
pub record IsInLockstep {A : Type 0} (reply : A → List ℕ → ℕ → List ℕ) (next : A → List ℕ → ℕ → A) (states : List A) (v : PlantView)
    (apps : List (LockstepApp A)) (ends : List EndView) : Type 0 where
  pub runs : List (AppRun A)
  pub played : IsLockstep reply next (setup_in v) (world_in v) states v.done runs
  pub between : AreBetween (setup_in v) runs v apps ends
