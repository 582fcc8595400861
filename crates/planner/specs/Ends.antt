-- The ends of what a placed frame sends, and of what comes of it. Times are ns.
use Rattle.std.specs.Prelude.{ℕ, ◌+◌, List, Contains}
use Rattle.irt_base.specs.declared.limits.TheConstants.{PHASES}
use Rattle.placement.specs.Layouts.{offset_at, end_of}
use Rattle.placement.specs.declared.layout.Layout.{Layout}
use Rattle.placement.specs.declared.layout.Limits.{Limits}
use Rattle.placement.specs.declared.layout.Rate.{Rate}
use Rattle.placement.specs.declared.layout.Sending.{Sending}
use Rattle.plan_blocks.specs.Ends.{IsDueEnd}
use Rattle.frame_ways.specs.declared.frame_way.Arrival.{Arrival}

-- the end of a sending of the frame, in a phase in which it is due
pub record IsSendingEnd (limits : Limits) (rate : Rate) (layout : Layout) (offsets : List ℕ)
    (device port k end : ℕ) : Type 0 where
  pub sending : Sending
  pub has : Contains layout.sendings sending
  pub is : IsDueEnd rate sending.device.0 sending.port.0
      (end_of limits layout.wire sending (offset_at offsets sending.anchor.0)) PHASES device port k end

-- An arrival ends with the guard between two clocks. With 4600 after an offset of 0, 6720 on the wire and a guard of
-- 2000, that is 13320.
abbrev pub arrival_end : Limits → ℕ → Arrival → ℕ → ℕ
arrival_end limits wire a offset = offset + a.latest + wire + limits.guard

-- the end of an arrival of the frame, in a phase in which it is due
pub record IsArrivalEnd (limits : Limits) (rate : Rate) (wire : ℕ) (arrivals : List Arrival) (offsets : List ℕ)
    (device port k end : ℕ) : Type 0 where
  pub arrival : Arrival
  pub has : Contains arrivals arrival
  pub is : IsDueEnd rate arrival.device.0 arrival.port.0
      (arrival_end limits wire arrival (offset_at offsets arrival.anchor.0)) PHASES device port k end
