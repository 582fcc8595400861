-- What a frame says of its data beside them.
use Rattle.std.specs.Prelude.{ℕ, ◌*◌, ◌%◌, ◌==◌, Bool, not, ◌&&◌, bit_and, IsBitSet}
use Rattle.iso_station.specs.declared.mark.TheConstants.{COUNTS, VALID, RUNNING}

-- the CycleCounter of cycle k: with factor 32 it is 96 in cycle 3
abbrev pub counter_of : ℕ → ℕ → ℕ
counter_of factor k = k * factor % COUNTS

abbrev pub is_good : ℕ → Bool
is_good status = not (bit_and status VALID == 0) && not (bit_and status RUNNING == 0)

-- the bits 2 and 4 of a DataStatus: its data are valid, and its provider runs. They are so in 0x35.
abbrev pub IsGood : ℕ → Type 0
IsGood status = IsBitSet status 2 × IsBitSet status 4
