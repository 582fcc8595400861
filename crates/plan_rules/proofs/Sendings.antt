-- What accepted blocks say of one frame on the wire.
use Rattle.std.proofs.Common.{◌≡◌, ℕ, ◌+◌, ◌*◌, ◌%◌, ◌≤◌, List, sym, ◌∙◌, ap, subst, arith, All}
use Rattle.std.specs.Prelude.{pos, ◌+ℤ◌, ◌≤ℤ◌}
use Rattle.irt_base.specs.Cycle.{IsDue, wire_time, cycle_time}
use Rattle.irt_base.specs.Valid.{IsRate}
use Rattle.irt_base.proofs.CycleLemmas.{due_in_phase}
use Rattle.irt_base.specs.declared.limits.TheConstants.{PHASES}
use Rattle.irt_base.specs.declared.blocks.Bundle.{Bundle}
use Rattle.irt_base.specs.declared.blocks.Entry.{Entry}
use Rattle.irt_base.specs.declared.blocks.Side.TheVariants.{Tx}
use Rattle.irt_base.specs.declared.plants.Plant.{Plant}
use Rattle.plan_rules.specs.World.{WorldRow, IsInStep}
use Rattle.plan_rules.proofs.StartWindow.{IsInWindow}
use Rattle.plan_rules.specs.Way.{IsInRange}
use Rattle.plan_rules.specs.SendWindow.{SendWindow, slack_time}
use Rattle.plan_rules.specs.Occupation.{Occupation, IsOccupation}
use Rattle.plan_rules.specs.Frames.{IsSending}
use Rattle.plan_rules.specs.Plan.{IsPlan, setup_of}
use Rattle.plan_rules.specs.Places.{IsAccepted, place_of}
use Rattle.plan_rules.proofs.Kept as kept
use Rattle.plan_rules.proofs.AlongWay.{in_step_of, HasDevices, timed}
use Rattle.plan_rules.proofs.Held.{AreBlocks, held_of, all_at}
use Rattle.plan_rules.proofs.PortPeriods.{HasCycle, cycle_of, period_of_phase}
use Rattle.plan_rules.proofs.Times.{IsInBox, boxed, before_orange}

pub devices_of : (plant : Plant) (bundles : List Bundle) → IsPlan plant bundles → IsAccepted plant bundles → HasDevices (setup_of plant bundles)
devices_of plant bundles plan accepted device frame e at =
    let held = held_of plant bundles plan accepted device frame e at in (held.blocks.d, held.blocks.is_device)

-- what is known of one frame on the wire
pub record IsOnWire (plant : Plant) (bundles : List Bundle) (row : WorldRow) (e : Entry) (o : Occupation) : Type 0 where
  pub window : SendWindow
  pub sending : IsSending (setup_of plant bundles) o.device o.port o.frame e window
  pub anchor_in_step : IsInStep plant row window.anchor
  pub in_step : IsInStep plant row o.device
  pub inside : IsInWindow o.start (pos (o.cycle * cycle_time plant.factor)) (row.error window.anchor) (pos window.lo) (pos window.hi)
  pub ends : o.end ≡ (o.start +ℤ pos (wire_time e.data_length))
  pub rate : IsRate e.ratio e.phase
  pub blocks : AreBlocks plant bundles o.device
  pub cycle : HasCycle plant blocks.bundle o.port o.cycle
  pub red : window.hi + wire_time e.data_length + slack_time plant.window o.device window.anchor ≤ cycle.tx.orange

pub sent_of : (plant : Plant) (bundles : List Bundle) → IsPlan plant bundles → IsAccepted plant bundles → (world : List WorldRow) →
    All (IsInRange (setup_of plant bundles)) world → (o : Occupation) → (is : IsOccupation (setup_of plant bundles) world o) → IsOnWire plant bundles is.row is.entry o
sent_of plant bundles plan accepted world ranges o is =
    let setup = setup_of plant bundles in
    let range = all_at (IsInRange setup) world o.cycle is.row ranges is.in_cycle in
    let t = timed setup plan.rules (devices_of plant bundles plan accepted) is.row range o.cycle o.frame o.device o.start is.starts is.live
    (record { entry = is.entry; stands = is.stands; port = o.port; leaves = is.leaves }) in
    let held = held_of plant bundles plan accepted o.device o.frame is.entry is.stands in
    let tree = (kept.trees plant bundles accepted (place_of o.device 0 o.frame)).each is.entry is.stands in
    let receiver = tree.2.sent o.port is.leaves in
    let cycle = cycle_of plant bundles plan accepted o.device o.port receiver.receiver receiver.e.rx_port o.cycle held.blocks receiver.leads in
    let sending : IsSending setup o.device o.port o.frame is.entry t.window = record { stands = is.stands; leaves = is.leaves; sends = t.has } in
    record {
      window = t.window;
      sending = sending;
      anchor_in_step = t.in_step;
      in_step = in_step_of setup is.row o.frame o.device is.live;
      inside = t.inside;
      ends = is.ends;
      rate = held.valid.rate;
      blocks = held.blocks;
      cycle = cycle;
      red = (kept.sent plant bundles accepted (place_of o.device o.port o.frame) is.entry t.window held.blocks.bundle
          (o.cycle % PHASES) cycle.tx sending held.blocks.held (omega arith) (due_in_phase o.cycle is.entry.ratio is.entry.phase held.valid.rate is.due)
          (period_of_phase held.blocks.bundle.periods o.port o.cycle Tx ∙ cycle.sends)).1;
    }

pub box_of : (plant : Plant) (bundles : List Bundle) (row : WorldRow) (e : Entry) (o : Occupation) → IsOnWire plant bundles row e o →
    IsInBox (cycle_time plant.factor) plant.window o.cycle o.start o.end
box_of plant bundles row e o s =
    boxed (cycle_time plant.factor) plant.window o.cycle s.window.lo s.window.hi (wire_time e.data_length) (row.error s.window.anchor) o.start o.end
    s.inside s.anchor_in_step s.ends (omega (arith, s.red, s.cycle.ordered.sending.orange, s.cycle.ordered.guard))

-- the frame's end and the sender's orange period
pub ends_before_orange : (plant : Plant) (bundles : List Bundle) (row : WorldRow) (e : Entry) (o : Occupation) → (s : IsOnWire plant bundles row e o) →
    o.end ≤ℤ (pos (o.cycle * cycle_time plant.factor + s.cycle.tx.orange) +ℤ row.error o.device)
ends_before_orange plant bundles row e o s =
    subst (λ x. x ≤ℤ (pos (o.cycle * cycle_time plant.factor + s.cycle.tx.orange) +ℤ row.error o.device)) (sym s.ends)
    (before_orange plant.window (o.cycle * cycle_time plant.factor) s.window.lo s.window.hi (wire_time e.data_length) s.cycle.tx.orange o.device s.window.anchor
    row.error o.start s.inside s.anchor_in_step s.in_step s.red)
