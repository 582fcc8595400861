-- Rows of frames are on devices of the plant, and so are all its ports.
use Rattle.std.proofs.Common.{◌≡◌, ℕ, ◌+◌, ◌<◌, List, map, length, Some, find, sym, ◌∙◌, ap, subst, arith, slice_get, All}
use Rattle.std.specs.Prelude.{◌==◌}
use Rattle.std.specs.List.{range_with_len, enumerate_from}
use Rattle.std.proofs.lemmas.List.{length-map}
use Rattle.std.proofs.lemmas.List.Elements.{All-contains, All-map}
use Rattle.std.proofs.lemmas.List.FromFn.{length-enumerate_from, get_or-enumerate_from}
use Rattle.std.proofs.lemmas.Option.{option_and_then_some, slice_get-get_or, slice_get_within}
use Rattle.cycle_rows.specs.Rows.{IsFrameRow}
use Rattle.cycle_rows.specs.declared.rows.JournalRow.{JournalRow}
use Rattle.cycle_rows.specs.declared.rows.JournalRow.TheVariants.{Occupy, Deliver, Missed, Sent, Refused, Lost, Came}
use Rattle.irt_base.specs.Wiring.{peer_of}
use Rattle.irt_base.specs.declared.blocks.Bundle.{Bundle}
use Rattle.irt_base.specs.declared.blocks.Entry.{Entry}
use Rattle.irt_base.specs.declared.blocks.FrameBlock.{FrameBlock}
use Rattle.irt_base.specs.declared.plants.Device.{Device}
use Rattle.irt_base.specs.declared.plants.Plant.{Plant}
use Rattle.irt_trace.specs.Journal.{device_of}
use Rattle.parcel_rules.specs.Cycle.{all_ports, ports_at}
use Rattle.parcel_rules.specs.Steps.{Step}
use Rattle.parcel_rules.proofs.Lists.{All-flat_map}
use Rattle.parcel_rules.proofs.Wires.{linked_among}
use Rattle.plan_rules.proofs.Wires.{mutual_peers}
use Rattle.plan_rules.specs.Plan.{IsPlan, setup_of}
use Rattle.plan_rules.specs.Way.{entry_at}
use Rattle.plan_rules.specs.World.{WorldRow}
use Rattle.plant_rules.specs.Meets.{MeetsRules}

-- the row is on a device of the plant
abbrev pub IsOnPlant : Plant → JournalRow → Type 0
IsOnPlant plant row = (device_of row).0 < length plant.devices

-- the port is of a device of the plant
abbrev pub IsAtDevice : Plant → Step → Type 0
IsAtDevice plant at = at.0.0 < length plant.devices

-- ---- ports

-- items with their numbers
pub numbered : {X : Type 0} (xs : List X) → All (λ (e : ℕ × X). slice_get xs e.0 ≡ Some e.1) (enumerate_from 0 xs)
numbered {X} xs = λ k d below.
    let within : k < length xs = omega (arith, length-enumerate_from 0 xs) in
    let number : 0 + k ≡ k = omega arith in
    subst (λ (e : ℕ × X). slice_get xs e.0 ≡ Some e.1) (sym (get_or-enumerate_from 0 xs k d within))
    (ap (slice_get xs) number ∙ slice_get-get_or xs k d.1 within)

pub ports_at_devices : (plant : Plant) → All (IsAtDevice plant) (all_ports plant)
ports_at_devices plant =
    All-flat_map (IsAtDevice plant) (λ (d : ℕ × Device). slice_get plant.devices d.0 ≡ Some d.1) (λ (d : ℕ × Device). ports_at d.0 d.1)
    (enumerate_from 0 plant.devices) (numbered plant.devices)
    (λ d there. All-map (IsAtDevice plant) (λ (port : ℕ). (record { 0 = d.0 }, record { 0 = port })) (range_with_len 1 (length d.1.ports))
    (λ i x within. slice_get_within plant.devices d.0 d.1 there))

-- the other end of a link
far_at_device : (plant : Plant) → MeetsRules plant → (at far : Step) → peer_of plant at.0.0 at.1.0 ≡ Some far → IsAtDevice plant far
far_at_device plant rules at far is =
    All-contains (IsAtDevice plant) (all_ports plant) far (ports_at_devices plant)
    (linked_among plant rules far at (mutual_peers plant rules at.0.0 at.1.0 far.0.0 far.1.0 is))

-- ---- rows of frames

-- a device with an entry has blocks
has_blocks : (plant : Plant) (bundles : List Bundle) → IsPlan plant bundles → (device frame : ℕ) (e : Entry) →
    entry_at (setup_of plant bundles) device frame ≡ Some e → device < length plant.devices
has_blocks plant bundles plan device frame e is =
    let blocks = map (λ (b : Bundle). b.frames) bundles in
    option_and_then_some (λ (block : FrameBlock). find (λ (x : Entry). x.frame.0 == frame) block.entries) (slice_get blocks device) e is
    (λ block there stands.
    let below = slice_get_within blocks device block there in
    let count = plan.count in
    omega (arith, below, length-map bundles (λ (b : Bundle). b.frames)))

pub frame_row_on_plant : (plant : Plant) (bundles : List Bundle) → IsPlan plant bundles → (world : List WorldRow) (r : JournalRow) →
    IsFrameRow (setup_of plant bundles) world r → IsOnPlant plant r
frame_row_on_plant plant bundles plan world (Occupy k d p f start end) is = has_blocks plant bundles plan d.0 f.0 is.entry is.stands
frame_row_on_plant plant bundles plan world (Deliver k d f end) is = has_blocks plant bundles plan d.0 f.0 is.e is.stands
frame_row_on_plant plant bundles plan world (Missed k d f) is =
    let arrival = is.dropped.0 in
    far_at_device plant plan.rules (record { 0 = arrival.sender }, record { 0 = arrival.port }) (d, record { 0 = is.port }) arrival.leads
frame_row_on_plant plant bundles plan world (Sent k d p traffic serial start end) is = absurd is
frame_row_on_plant plant bundles plan world (Refused k d p traffic serial) is = absurd is
frame_row_on_plant plant bundles plan world (Lost k d p traffic serial) is = absurd is
frame_row_on_plant plant bundles plan world (Came k d traffic serial) is = absurd is
