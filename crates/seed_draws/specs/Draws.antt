-- Numbers drawn by a seed: the mix of SplitMix64, all sums and products modulo 2^64.
use Rattle.std.specs.Prelude.{ℕ, ◌+◌, ◌*◌, ◌/◌, ◌%◌, ◌^◌, ℤ, pos, ◌-ℤ◌}
use Rattle.std.specs.Int.RustNames.{bit_xor}

-- modulo 2^64
abbrev pub wrap : ℕ → ℕ
wrap n = n % 2 ^ 64

abbrev pub mix_start : ℕ → ℕ
mix_start z = wrap (z + 11400714819323198485)

abbrev pub mix_turn : ℕ → ℕ → ℕ → ℕ
mix_turn by times z = wrap (bit_xor z (z / 2 ^ by) * times)

abbrev pub mix_end : ℕ → ℕ
mix_end z = bit_xor z (z / 2 ^ 31)

-- A number scattered over 64 bits: of 0 it is 0xe220a8397b1dcdaf.
abbrev pub mix_of : ℕ → ℕ
mix_of z = mix_end (mix_turn 27 10723151780598845931 (mix_turn 30 13787848793156543929 (mix_start z)))

-- the number of a seed at three places
abbrev pub draw_of : ℕ → ℕ → ℕ → ℕ → ℕ
draw_of seed a b c = mix_of (wrap (mix_of (wrap (mix_of (wrap (mix_of seed + a)) + b)) + c))

-- a number as one from -bound to bound: of 7 within 2 it is 0
abbrev pub signed_within : ℕ → ℕ → ℤ
signed_within x bound = pos (x % (2 * bound + 1)) -ℤ pos bound
