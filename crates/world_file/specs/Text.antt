-- The form of a world file.
use Rattle.std.specs.Prelude.{◌≡◌, ℕ, zero, suc, ◌+◌, ℤ, pos, negsuc, List, [], ◌∷◌, ◌++◌, map, length}
use Rattle.std.specs.Int.Digits.{digits_of}
use Rattle.std.specs.List.{flat_map}
use Rattle.irt_base.specs.declared.blocks.Bundle.{Bundle}
use Rattle.irt_base.specs.declared.plants.Plant.{Plant}
use Rattle.irt_world.specs.Rows.{Fits}
use Rattle.irt_world.specs.declared.rows.Row.{Row}
use Rattle.irt_world.specs.declared.rows.World.{World}

-- A number in decimal digits, of any length, without leading zeros: 48 is `0`.
unfoldable pub natural_text : ℕ → List ℕ
natural_text zero = 48 ∷ []
natural_text (suc n) = map (λ d. 48 + d) (digits_of 10 (suc n))

-- with `-` before a negative one
abbrev pub integer_text : ℤ → List ℕ
integer_text (pos n) = natural_text n
integer_text (negsuc n) = 45 ∷ natural_text (suc n)

-- each with one space before it
abbrev pub numbers_text : List ℤ → List ℕ
numbers_text numbers = flat_map (λ z. 32 ∷ integer_text z) numbers

-- the numbers of a line, in range or not
pub record Line : Type 0 where
  pub errors : List ℤ
  pub bridges : List ℤ
  pub cuts : List ℤ

-- A line, with the LF that ends it: `E 0 -1000 B 2000 C 3`.
abbrev pub line_text : Line → List ℕ
line_text l =
    69 ∷ (numbers_text l.errors ++ 32 ∷ 66 ∷ (numbers_text l.bridges ++ 32 ∷ 67 ∷ (numbers_text l.cuts ++ 10 ∷ [])))

-- the numbers of a row
abbrev pub line_of : Row → Line
line_of row = record { errors = row.errors; bridges = map (λ n. pos n) row.bridges; cuts = map (λ n. pos n) row.cuts }

-- a line for each row
abbrev pub rows_text : List Row → List ℕ
rows_text rows = flat_map (λ row. line_text (line_of row)) rows

-- the file of a world
abbrev pub world_text : World → List ℕ
world_text world = rows_text world.rows

-- The bytes are the file of a world of so many cycles, which fits a plan.
pub record IsWorldFile (plant : Plant) (bundles : List Bundle) (cycles : ℕ) (bytes : List ℕ) (world : World) : Type 0
  where
    pub count : length world.rows ≡ cycles
    pub fits : Fits plant bundles world
    pub text : bytes ≡ world_text world
