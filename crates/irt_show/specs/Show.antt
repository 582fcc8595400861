-- The text of a device file. Fields are separated by one space, and each line ends with a line feed.
use Rattle.std.specs.Prelude.{ℕ, ◌+◌, Bool, if◌then◌else◌, List, [], ◌∷◌, ◌++◌, length, codes, decimal}
use Rattle.std.specs.List.{flat_map}
use Rattle.irt_base.specs.Text.{hex_digits, frame_text}
use Rattle.irt_base.specs.declared.blocks.Entry.{Entry}
use Rattle.irt_base.specs.declared.blocks.FrameBlock.{FrameBlock}
use Rattle.irt_base.specs.declared.blocks.Period.{Period}
use Rattle.irt_base.specs.declared.blocks.Assignment.{Assignment}
use Rattle.irt_base.specs.declared.blocks.PhasePair.{PhasePair}
use Rattle.irt_base.specs.declared.blocks.PortPeriods.{PortPeriods}
use Rattle.irt_base.specs.declared.blocks.PeriodBlock.{PeriodBlock}
use Rattle.irt_base.specs.declared.blocks.PortDelay.{PortDelay}
use Rattle.irt_base.specs.declared.blocks.GlobalBlock.{GlobalBlock}
use Rattle.irt_base.specs.declared.blocks.SyncBlock.{SyncBlock}
use Rattle.irt_base.specs.declared.blocks.Bundle.{Bundle}

-- the texts of items, numbered upwards from a first number
abbrev pub numbered : {A : Type 0} → (ℕ → A → List ℕ) → ℕ → List A → List ℕ
numbered text number [] = []
numbered text number (x ∷ xs) = text number x ++ numbered text (number + 1) xs

-- a space and a number
abbrev pub field : ℕ → List ℕ
field n = 32 ∷ decimal n

abbrev pub end_of_line : List ℕ
end_of_line = 10 ∷ []

-- the window in ns, the cycles between two sync messages, the SendClockFactor, the timeout: `sync 1000 32 32 6`
abbrev pub sync_line : SyncBlock → List ℕ
sync_line s = codes "sync" ++ field s.window ++ field s.send ++ field s.factor ++ field s.timeout ++ end_of_line

-- the bridge delay in ns, and how many ports there are: `global 3000 1`
abbrev pub global_line : ℕ → ℕ → List ℕ
global_line bridge count = codes "global" ++ field bridge ++ field count ++ end_of_line

-- a port's delays in ns: `port 1 100 200`
abbrev pub port_line : ℕ → PortDelay → List ℕ
port_line number port = codes "port" ++ field number ++ field port.tx ++ field port.rx ++ end_of_line

-- whether the device forwards relative to the arrival
abbrev pub mode_line : Bool → List ℕ
mode_line relative = if relative then codes "mode relative\n" else codes "mode absolute\n"

-- FrameSendOffset in ns, the bytes of data, ratio, phase and the port of arrival
abbrev pub entry_numbers : Entry → List ℕ
entry_numbers e = field e.send_offset ++ field e.data_length ++ field e.ratio ++ field e.phase ++ field e.rx_port

-- the ports of departure, a bit each: ` 0x02`
abbrev pub mask_text : ℕ → List ℕ
mask_text tx = codes " 0x" ++ hex_digits 2 tx

-- a frame: `frame 0x0100 0 40 1 1 0 0x02`
abbrev pub entry_line : Entry → List ℕ
entry_line e = codes "frame " ++ frame_text e.frame.0 ++ entry_numbers e ++ mask_text e.tx ++ end_of_line

-- the range of red FrameIDs: `red 0x0100 0x06ff`
abbrev pub red_line : ℕ → ℕ → List ℕ
red_line first last = codes "red " ++ frame_text first ++ 32 ∷ [] ++ frame_text last ++ end_of_line

-- the begins of the red, orange and green period in ns
abbrev pub begins : Period → List ℕ
begins p = field p.red ++ field p.orange ++ field p.green

-- a port, the number of an assignment, and its begins when sending and when receiving: `period 1 0 0 6720 6720 0 0 0`
abbrev pub period_line : ℕ → ℕ → Assignment → List ℕ
period_line port number a = codes "period" ++ field port ++ field number ++ begins a.tx ++ begins a.rx ++ end_of_line

-- the numbers of the assignments of a phase when sending and when receiving: ` 0/1`
abbrev pub pair_text : PhasePair → List ℕ
pair_text pair = field pair.tx ++ 47 ∷ decimal pair.rx

-- a port, and the assignments of its phases: `phases 1 0/0 0/0 ..`
abbrev pub phases_line : ℕ → PortPeriods → List ℕ
phases_line port p = codes "phases" ++ field port ++ flat_map pair_text p.phases ++ end_of_line

-- a port's assignments, numbered from 0
abbrev pub assignments_text : ℕ → PortPeriods → List ℕ
assignments_text port p = numbered (period_line port) 0 p.assignments

-- ports are numbered from 1
abbrev pub global_text : GlobalBlock → List ℕ
global_text g = global_line g.bridge (length g.ports) ++ numbered port_line 1 g.ports

abbrev pub frames_text : FrameBlock → List ℕ
frames_text f = mode_line f.relative ++ flat_map entry_line f.entries

-- the assignments of every port, and then the phases of every port
abbrev pub periods_text : PeriodBlock → List ℕ
periods_text p = red_line p.first p.last ++ numbered assignments_text 1 p.ports ++ numbered phases_line 1 p.ports

-- the text of a device file
abbrev pub bundle_text : Bundle → List ℕ
bundle_text b = sync_line b.sync ++ global_text b.global ++ frames_text b.frames ++ periods_text b.periods
