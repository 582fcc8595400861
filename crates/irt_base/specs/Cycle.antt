-- Cycles, frames and clocks, by formulas of one value each. Times are ns.
use Rattle.std.specs.Prelude.{◌≡◌, ℕ, ◌+◌, ◌*◌, ◌%◌, ◌≤◌}
use Rattle.irt_base.specs.declared.limits.TheConstants.{BYTE_TIME, FACTOR_TIME, FRAME_OVERHEAD, PARCEL_OVERHEAD, GUARD_WINDOWS}

-- A frame of this reduction ratio and phase (from 1) is due in cycle k: ratio 2 and phase 1 in 0, 2, 4 ..
abbrev pub IsDue : ℕ → ℕ → ℕ → Type 0
IsDue k ratio phase = (k % ratio) + 1 ≡ phase

-- Two frames, by ratio and phase, are both due in some cycle: ratio 2 and phase 1, ratio 4 and phase 3 are in
-- cycle 2, and 2, 6, 10 .. are all such cycles.
abbrev pub SharesCycle : ℕ → ℕ → ℕ → ℕ → Type 0
SharesCycle r1 p1 r2 p2 = (k : ℕ) × IsDue k r1 p1 × IsDue k r2 p2

-- Two numbers differ by at most so much: with 3, 10 is near 7 and 13.
abbrev pub IsNear : ℕ → ℕ → ℕ → Type 0
IsNear error a b = (a ≤ b + error) × (b ≤ a + error)

-- How long a frame with n bytes of data occupies a link, gap included: 40 bytes take 6720 ns.
abbrev pub wire_time : ℕ → ℕ
wire_time n = (n + FRAME_OVERHEAD) * BYTE_TIME

-- How long a parcel of n bytes occupies a link: 60 bytes take 6720 ns.
abbrev pub parcel_time : ℕ → ℕ
parcel_time n = (n + PARCEL_OVERHEAD) * BYTE_TIME

-- The length of a send cycle: factor 32 gives 1000000 ns.
abbrev pub cycle_time : ℕ → ℕ
cycle_time factor = factor * FACTOR_TIME

-- The guard before a cycle's end, for a window.
abbrev pub guard_time : ℕ → ℕ
guard_time window = GUARD_WINDOWS * window

-- By how much a clock that follows PTCP over so many links may be off. With stamp 8, drift 5, send 4 and
-- timeout 6, eight links give 400 ns.
abbrev pub budget_time : ℕ → ℕ → ℕ → ℕ → ℕ → ℕ
budget_time hops stamp drift send timeout = hops * (4 * stamp + 1) + 2 * stamp + drift * send * timeout
