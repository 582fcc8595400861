-- Where a frame that was read is kept.
use Rattle.std.specs.Prelude.{ℕ, ◌==◌, ◌&&◌, if◌then◌else◌, List, length, Option, None, position}
use Rattle.iso_station.specs.Held.{Held, wants}
use Rattle.iso_station.specs.Mark.{counter_of, is_good}
use Rattle.rtc3_frame.specs.Frame.{Fields}

-- the place of the frame in cycle k, where it is of the cycle, its data are good, and the device consumes it
abbrev pub taking_place : ℕ → ℕ → List Held → Fields → Option ℕ
taking_place factor k frames f =
    if (f.counter == counter_of factor k) && is_good f.status then position (wants k f.frame (length f.csdu)) frames else None
