-- Counts of faults. A count stands still at the last value of a `u64`.
use Rattle.std.specs.Prelude.{ℕ, ◌+◌, ◌-◌, ◌^◌, ◌≤◌, min}

-- no call takes a fault back
abbrev pub IsLater : ℕ → ℕ → Type 0
IsLater before now = before ≤ now

-- the count after one more fault
abbrev pub one_more : ℕ → ℕ
one_more before = min (before + 1) (2 ^ 64 - 1)

-- the count rose in a call: it is greater after the call than before it, or stands at its last value
abbrev pub HasRisen : ℕ → ℕ → Type 0
HasRisen before now = one_more before ≤ now
