-- The events of the frames in one cycle: which happen, what each causes, and what each puts into the journal. None of
-- these looks at any other event.
use Rattle.std.specs.Prelude.{◌≡◌, ℕ, ◌+◌, ◌*◌, ◌^◌, ◌==◌, Bool, true, false, not, ◌&&◌, if◌then◌else◌, List, [], ◌∷◌, map, filter, Option, Some, None, slice_get, ℤ, pos, ◌+ℤ◌, int_le, bit_and}
use Rattle.irt_base.specs.Cycle.{wire_time, cycle_time}
use Rattle.irt_base.specs.Wiring.{peer_of, hop_of}
use Rattle.irt_base.specs.declared.numbers.DevId.{DevId}
use Rattle.irt_base.specs.declared.numbers.PortNo.{PortNo}
use Rattle.irt_base.specs.declared.blocks.Entry.{Entry}
use Rattle.irt_base.specs.declared.plants.Device.{Device}
use Rattle.irt_base.specs.declared.plants.Mode.{Mode}
use Rattle.irt_base.specs.declared.plants.Mode.TheVariants.{Absolute, Relative}
use Rattle.irt_base.specs.declared.plants.Plant.{Plant}
use Rattle.plan_rules.specs.Arrival.{Arrival, IsArrival}
use Rattle.plan_rules.specs.Network.{IsSentAt}
use Rattle.plan_rules.specs.Way.{Setup, entry_at}
use Rattle.plan_rules.specs.World.{WorldRow, is_in_step, is_uncut}
use Rattle.cycle_rows.specs.declared.rows.JournalRow.{JournalRow}
use Rattle.cycle_rows.specs.declared.rows.JournalRow.TheVariants.{Occupy, Deliver, Missed}
use Rattle.cycle_events.specs.declared.events.Event.{Event}
use Rattle.cycle_events.specs.declared.events.What.{What}
use Rattle.cycle_events.specs.declared.events.What.TheVariants.{Start, Arrive}

-- what is played in a cycle: the blocks, what the outside does in it, and its number
pub record Play : Type 0 where
  pub setup : Setup
  pub row : WorldRow
  pub cycle : ℕ

-- ---- which events happen

abbrev pub arrival_of : Play → Event → Arrival
arrival_of play e = record { cycle = play.cycle; device = e.device.0; port = e.port.0; frame = e.frame.0; start = e.at }

-- A start happens where a device sends the frame by the port then, and an arrival where the frame begins to arrive
-- there then.
abbrev pub HappensAs : Play → Event → What → Type 0
HappensAs play e Start = IsSentAt play.setup play.row play.cycle e.device.0 e.port.0 e.frame.0 e.at
HappensAs play e Arrive = (from : Entry) × IsArrival play.setup play.row from (arrival_of play e)

abbrev pub Happens : Play → Event → Type 0
Happens play e = HappensAs play e e.what

-- the start of a frame that its device provides
pub record IsFirst (play : Play) (e : Event) : Type 0 where
  pub start : e.what ≡ Start
  pub sent : IsSentAt play.setup play.row play.cycle e.device.0 e.port.0 e.frame.0 e.at
  pub own : sent.entry.rx_port ≡ 0

-- ---- tests

abbrev pub is_bit : ℕ → ℕ → Bool
is_bit tx bit = not (bit_and tx (2 ^ bit) == 0)

-- the ports of a `tx`: those of 0x15 are 2 and 4
abbrev pub ports_in : ℕ → List ℕ
ports_in tx = filter (is_bit tx) (1 ∷ 2 ∷ 3 ∷ 4 ∷ 5 ∷ 6 ∷ 7 ∷ [])

abbrev pub is_absolute_mode : Mode → Bool
is_absolute_mode Absolute = true
is_absolute_mode Relative = false

abbrev pub has_absolute_mode : Option Device → Bool
has_absolute_mode None = false
has_absolute_mode (Some d) = is_absolute_mode d.mode

abbrev pub is_absolute : Plant → ℕ → Bool
is_absolute plant device = has_absolute_mode (slice_get plant.devices device)

-- ---- what an event causes

abbrev pub event : ℤ → ℕ → ℕ → ℕ → What → Event
event at device port frame what =
    record { at = at; device = record { 0 = device }; port = record { 0 = port }; frame = record { 0 = frame }; what = what }

abbrev pub arrive_at : ℤ → ℕ → Option (DevId × PortNo) → Option ℕ → List Event
arrive_at start frame None hop = []
arrive_at start frame (Some far) None = []
arrive_at start frame (Some far) (Some hop) = event (start +ℤ pos hop) far.0.0 far.1.0 frame Arrive ∷ []

-- a start causes an arrival, a hop later, where the link is not cut
abbrev pub caused_by_start : Play → ℤ → ℕ → ℕ → ℕ → List Event
caused_by_start play start device port frame =
    if is_uncut play.setup.plant play.row device port then
    arrive_at start frame (peer_of play.setup.plant device port) (hop_of play.setup.plant device port) else []

-- when a device that has received a frame then starts it
abbrev pub start_after : Play → ℕ → ℕ → Entry → ℤ → ℤ
start_after play device frame e came =
    if is_absolute play.setup.plant device then
    pos (play.cycle * cycle_time play.setup.plant.factor + e.send_offset) +ℤ play.row.error device
    else came +ℤ pos (play.row.bridge device frame)

abbrev pub starts_at : Play → ℕ → ℕ → ℤ → Option Entry → List Event
starts_at play device frame came None = []
starts_at play device frame came (Some e) =
    map (λ port. event (start_after play device frame e came) device port frame Start) (ports_in e.tx)

-- an arrival at a device in step causes a start by each port of the device's entry
abbrev pub caused_by_arrival : Play → ℤ → ℕ → ℕ → List Event
caused_by_arrival play came device frame =
    if is_in_step play.setup.plant play.row device then starts_at play device frame came (entry_at play.setup device frame) else []

abbrev pub causes_as : Play → Event → What → List Event
causes_as play e Start = caused_by_start play e.at e.device.0 e.port.0 e.frame.0
causes_as play e Arrive = caused_by_arrival play e.at e.device.0 e.frame.0

abbrev pub causes : Play → Event → List Event
causes play e = causes_as play e e.what

-- ---- what an event puts into the journal

abbrev pub occupied : Play → Event → Option Entry → List JournalRow
occupied play e None = []
occupied play e (Some entry) = Occupy play.cycle e.device e.port e.frame e.at (e.at +ℤ pos (wire_time entry.data_length)) ∷ []

abbrev pub delivered : Play → Event → Option Entry → List JournalRow
delivered play e None = []
delivered play e (Some entry) =
    if is_bit entry.tx 0 then Deliver play.cycle e.device e.frame (e.at +ℤ pos (wire_time entry.data_length)) ∷ [] else []

abbrev pub arrived : Play → Event → List JournalRow
arrived play e =
    if is_in_step play.setup.plant play.row e.device.0 then delivered play e (entry_at play.setup e.device.0 e.frame.0)
    else Missed play.cycle e.device e.frame ∷ []

abbrev pub rows_as : Play → Event → What → List JournalRow
rows_as play e Start = occupied play e (entry_at play.setup e.device.0 e.frame.0)
rows_as play e Arrive = arrived play e

-- a start is an occupation; an arrival is a delivery at a consumer, and a drop at a device that is not in step
abbrev pub rows_of : Play → Event → List JournalRow
rows_of play e = rows_as play e e.what
