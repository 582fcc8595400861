use Rattle.std.proofs.Common.{◌≡◌, take, map}
use Rattle.rtc3_frame.specs.Frames.{zero_frames}
use Rattle.rtc3_frame.proofs.frames.Frames.new.Given as goal

abbrev pub invariant-loop-length : goal.invariant-loop-length
invariant-loop-length l = map (λ v. v.items) l.frames.items ≡ zero_frames (take l.length-index l.lengths)
