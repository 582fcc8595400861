-- What consumers take of the frames that came in a cycle.
use Rattle.std.specs.Prelude.{◌≡◌, ℕ, List, length, Some, Ok, slice_get, Contains}
use Rattle.cycle_frames.specs.declared.came.Came.{Came}
use Rattle.irt_base.specs.declared.plants.App.{App}
use Rattle.iso_station.specs.Consumer.{ConsumerState, IsTakenFrame, after_cycle, image_count, image_in}
use Rattle.iso_station.specs.Cycles.{with_frames}
use Rattle.rtc3_frame.specs.Frame.{Fields, fields_at}

-- A frame of these fields came to a device.
pub record CameAs (device : ℕ) (frames : List (List ℕ)) (came : List Came) (f : Fields) : Type 0 where
  pub c : Came
  pub bytes : List ℕ
  pub stands : Contains came c
  pub here : c.device.0 ≡ device
  pub at : slice_get frames c.demand ≡ Some bytes
  pub told : fields_at bytes ≡ Ok f

-- What a consumer took of the frames that came to its device: each of them came, and each that it takes is among them.
pub record TakesFrames (device : ℕ) (frames : List (List ℕ)) (came : List Came) (old new : ConsumerState) : Type 0 where
  pub fields : List Fields
  pub state : new ≡ with_frames fields old
  pub each : (f : Fields) → Contains fields f → CameAs device frames came f
  pub all : (f : Fields) (is : CameAs device frames came f) → IsTakenFrame old is.bytes → Contains fields f

-- A consumer took the frames, the cycle ended, and this is its image.
pub record PlaysCycle (device : ℕ) (frames : List (List ℕ)) (came : List Came) (old new : ConsumerState) (out : List ℕ) : Type 0 where
  pub taken : ConsumerState
  pub takes : TakesFrames device frames came old taken
  pub state : new ≡ after_cycle taken
  pub image : out ≡ image_in new
  pub count : length out ≡ image_count old

-- The cycle that goes on is k for the consumers of all apps, and there is room for the image of each.
pub record CanPlay (apps : List App) (k : ℕ) (consumers : List ConsumerState) (images : List (List ℕ)) : Type 0 where
  pub count : length consumers ≡ length apps
  pub outs : length images ≡ length apps
  pub cycle : (n : ℕ) (c : ConsumerState) → slice_get consumers n ≡ Some c → c.cycle ≡ k
  pub words : (n : ℕ) (c : ConsumerState) (image : List ℕ) → slice_get consumers n ≡ Some c → slice_get images n ≡ Some image →
      length image ≡ image_count c

-- The consumers of all apps play the cycle.
pub record PlayCycle (apps : List App) (frames : List (List ℕ)) (came : List Came) (old new : List ConsumerState) (images : List (List ℕ)) : Type 0 where
  pub count : length new ≡ length apps
  pub outs : length images ≡ length apps
  pub each : (n : ℕ) (app : App) (a b : ConsumerState) (image : List ℕ) → slice_get apps n ≡ Some app → slice_get old n ≡ Some a →
      slice_get new n ≡ Some b → slice_get images n ≡ Some image → PlaysCycle app.device.0 frames came a b image
