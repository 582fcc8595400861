-- The causes for which a frame is dropped, each as a fact, and what a frame that is dropped for none is answered by.
use Rattle.std.specs.Prelude.{◌≡◌, ◌≢◌, ◌↔◌, ℕ, ◌<◌, Bool, true, false, IsTrue, IsBitSet, length, Some, Contains, ℤ, pos, ◌+ℤ◌, ◌≤ℤ◌}
use Rattle.irt_base.specs.Cycle.{IsDue, wire_time, guard_time}
use Rattle.irt_base.specs.Periods.{period_at}
use Rattle.irt_base.specs.declared.blocks.Bundle.{Bundle}
use Rattle.irt_base.specs.declared.blocks.Entry.{Entry}
use Rattle.irt_base.specs.declared.blocks.Period.{Period}
use Rattle.irt_base.specs.declared.blocks.Side.TheVariants.{Rx}
use Rattle.plan_rules.specs.Way.{Leaves}
use Rattle.rtc3_frame.specs.Frame.{Fields}
use Rattle.irt_switch.specs.declared.action.Action.{Action}
use Rattle.irt_switch.specs.declared.action.Action.TheVariants.{Forward, Dropped}
use Rattle.irt_switch.specs.declared.action.Cause.{Cause}
use Rattle.irt_switch.specs.declared.action.Cause.TheVariants.{NotInStep, UnknownFrame, WrongPort, OutsideRx, TooLate}
use Rattle.irt_switch.specs.Arrive.{Reception}

-- The device receives the frame in the cycle: by an entry of its FrameID and length that is due.
pub record Receives (bundle : Bundle) (k : ℕ) (r : Reception) (e : Entry) : Type 0 where
  pub fields : Fields
  pub told : r.frame ≡ Some fields
  pub stands : Contains bundle.frames.entries e
  pub frame : e.frame.0 ≡ fields.frame
  pub count : e.data_length ≡ length fields.csdu
  pub received : 0 < e.rx_port
  pub due : IsDue k e.ratio e.phase

-- It begins to arrive at most a guard before the red period of its port, and ends with it.
pub record ArrivesInRed (bundle : Bundle) (k : ℕ) (r : Reception) (e : Entry) : Type 0 where
  pub rx : Period
  pub period : period_at bundle.periods r.port k Rx ≡ Some rx
  pub opens : pos rx.red ≤ℤ (r.local +ℤ pos (guard_time bundle.sync.window))
  pub closes : (r.local +ℤ pos (wire_time e.data_length)) ≤ℤ pos rx.orange

-- An absolute device has to send it on before it surely has it.
pub record ComesLate (bundle : Bundle) (r : Reception) (e : Entry) : Type 0 where
  pub absolute : bundle.frames.relative ≡ false
  pub leaves : (port : ℕ) × Leaves e port
  pub late : ¬ ((r.local +ℤ pos bundle.global.bridge) ≤ℤ pos e.send_offset)

abbrev pub Applies : Bundle → ℕ → Bool → Reception → Cause → Type 0
Applies bundle k in_step r NotInStep = in_step ≡ false
Applies bundle k in_step r UnknownFrame = (e : Entry) → ¬ Receives bundle k r e
Applies bundle k in_step r WrongPort = (e : Entry) × Receives bundle k r e × (e.rx_port ≢ r.port)
Applies bundle k in_step r OutsideRx = (e : Entry) × Receives bundle k r e × (¬ ArrivesInRed bundle k r e)
Applies bundle k in_step r TooLate = (e : Entry) × Receives bundle k r e × ComesLate bundle r e

-- the order of the causes
abbrev pub rank_of : Cause → ℕ
rank_of NotInStep = 0
rank_of UnknownFrame = 1
rank_of WrongPort = 2
rank_of OutsideRx = 3
rank_of TooLate = 4

pub record IsFirstCause (bundle : Bundle) (k : ℕ) (in_step : Bool) (r : Reception) (cause : Cause) : Type 0 where
  pub applies : Applies bundle k in_step r cause
  pub first : (other : Cause) → rank_of other < rank_of cause → ¬ Applies bundle k in_step r other

-- No cause applies. The frame goes on by the ports of the entry that receives it, and is kept where the entry says so.
-- A relative device starts it its bridge delay after the arrival, an absolute one at its offset.
pub record GoesOn (bundle : Bundle) (k : ℕ) (in_step : Bool) (r : Reception) (bridge : ℕ) (at : ℤ) (ports : ℕ) (here : Bool) : Type 0 where
  pub none : (cause : Cause) → ¬ Applies bundle k in_step r cause
  pub e : Entry
  pub receives : Receives bundle k r e
  pub relative : bundle.frames.relative ≡ true → at ≡ (r.local +ℤ pos bridge)
  pub absolute : bundle.frames.relative ≡ false → at ≡ pos e.send_offset
  pub leaves : (port : ℕ) → IsBitSet ports port ↔ Leaves e port
  pub kept : IsTrue here ↔ IsBitSet e.tx 0

-- the answer to an arrival, by what holds
abbrev pub IsAnswer : Bundle → ℕ → Bool → Reception → ℕ → Action → Type 0
IsAnswer bundle k in_step r bridge (Dropped cause) = IsFirstCause bundle k in_step r cause
IsAnswer bundle k in_step r bridge (Forward at ports here) = GoesOn bundle k in_step r bridge at ports here
