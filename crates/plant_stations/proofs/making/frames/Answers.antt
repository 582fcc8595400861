use Rattle.std.proofs.Common.{◌≡◌, ℕ, List, ◌∙◌, ap}
use Rattle.std.proofs.lemmas.Result.{IfOk-weaker}
use Rattle.rtc3_frame.specs.Frames.{zero_frames}
use Rattle.plant_stations.specs.Whole.{HaveRoom}
use Rattle.plant_stations.proofs.Begun.{room_made}
use Rattle.plant_stations.proofs.making.frames.Goals as goal

pub returns : goal.returns
returns c =
    IfOk-weaker c.new.result (λ (frames : List (List ℕ)). frames ≡ zero_frames c.as_slice.result.now) (HaveRoom c.args.demands.now)
    (λ frames is. room_made c.args.demands.now frames (is ∙ ap zero_frames (c.as_slice.ensures.value ∙ c.in_ok-lengths.ensures))) c.new.ensures
