-- Texts of numbers.
use Rattle.std.specs.Prelude.{◌≡◌, ◌<◌, ◌^◌, decimal, ℕ, zero, suc, ◌+◌, ◌-◌, ◌/◌, ◌%◌, nat_lt, if◌then◌else◌, List, [], ◌∷◌, ◌++◌}

-- the text of a hexadecimal digit: 48 is `0`, 97 is `a`
abbrev pub hex_digit : ℕ → ℕ
hex_digit n = if nat_lt n 10 then 48 + n else 97 + (n - 10)

-- the last so many hexadecimal digits of a number
unfoldable pub hex_digits : ℕ → ℕ → List ℕ
hex_digits zero value = []
hex_digits (suc count) value = hex_digits count (value / 16) ++ hex_digit (value % 16) ∷ []

-- a FrameID: `0x0100`
abbrev pub frame_text : ℕ → List ℕ
frame_text frame = 48 ∷ 120 ∷ hex_digits 4 frame

-- A number of 64 bits in decimal digits as it is printed: `0` and `42` are, `+5`, `05` and an empty text are not.
abbrev pub IsDecimal : List ℕ → ℕ → Type 0
IsDecimal text n = (n < 2 ^ 64) × (text ≡ decimal n)
