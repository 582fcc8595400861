-- Sets of ports. The `tx` of an entry has a port's number as a bit, and bit 0 where the device keeps the frame: 0x15
-- stands for the ports 2 and 4, and here.
use Rattle.std.specs.Prelude.{ℕ, ◌-◌, ◌%◌, ◌==◌, Bool}

-- the ports by which the frame leaves: `tx` with bit 0 cleared
abbrev pub ports_of : ℕ → ℕ
ports_of tx = tx - tx % 2

-- the device keeps the frame
abbrev pub is_kept : ℕ → Bool
is_kept tx = tx % 2 == 1
