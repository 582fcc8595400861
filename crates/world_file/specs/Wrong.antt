-- The first line and place at which a world file is wrong.
use Rattle.std.specs.Prelude.{◌≡◌, ◌⊎◌, ℕ, ◌+◌, ◌<◌, ◌≤◌, ℤ, pos, ◌≤ℤ◌, ◌<ℤ◌, List, ◌++◌, All, length, take, slice_get, Some}
use Rattle.std.specs.List.{AllByRecursion}
use Rattle.irt_base.specs.declared.blocks.Bundle.{Bundle}
use Rattle.irt_base.specs.declared.plants.Plant.{Plant}
use Rattle.irt_world.specs.Forwardings.{forwardings}
use Rattle.irt_world.specs.Rows.{IsError, IsRowOf}
use Rattle.irt_world.specs.declared.forwardings.Forwarding.{Forwarding}
use Rattle.irt_world.specs.declared.rows.Row.{Row}
use Rattle.world_file.specs.Text.{Line, line_text, rows_text}
use Rattle.world_file.specs.declared.fault.WorldFault.{WorldFault}
use Rattle.world_file.specs.declared.fault.WorldFault.TheVariants as faults

-- one error per device, and one bridge delay per forwarding
pub record HasCounts (plant : Plant) (fs : List Forwarding) (l : Line) : Type 0 where
  pub errors : length l.errors ≡ length plant.devices
  pub bridges : length l.bridges ≡ length fs

-- a bridge delay of the forwarding's device
abbrev pub IsDelay : Forwarding → ℤ → Type 0
IsDelay f z = (pos f.bmin ≤ℤ z) × (z ≤ℤ pos f.bmax)

-- the number of a link of the plant
abbrev pub IsLinkNumber : Plant → ℤ → Type 0
IsLinkNumber plant z = (pos 0 ≤ℤ z) × (z <ℤ pos (length plant.links))

-- greater than each before it
abbrev pub Ascends : List ℤ → ℤ → Type 0
Ascends before z = AllByRecursion (λ y. y <ℤ z) before

-- The place is that of an error out of range. Places count from 1, over all numbers of the line.
pub record IsWrongError (l : Line) (place : ℕ) : Type 0 where
  pub n : ℕ
  pub z : ℤ
  pub at : place ≡ n + 1
  pub is : slice_get l.errors n ≡ Some z
  pub wrong : ¬ IsError z

-- the place is that of a bridge delay out of its device's range
pub record IsWrongDelay (fs : List Forwarding) (l : Line) (place : ℕ) : Type 0 where
  pub n : ℕ
  pub f : Forwarding
  pub z : ℤ
  pub at : place ≡ length l.errors + n + 1
  pub forwarding : slice_get fs n ≡ Some f
  pub is : slice_get l.bridges n ≡ Some z
  pub wrong : ¬ IsDelay f z

-- the place is that of a cut link that the plant lacks, or that is out of order
pub record IsWrongLink (plant : Plant) (l : Line) (place : ℕ) : Type 0 where
  pub n : ℕ
  pub z : ℤ
  pub at : place ≡ length l.errors + length l.bridges + n + 1
  pub is : slice_get l.cuts n ≡ Some z
  pub wrong : ¬ (IsLinkNumber plant z × Ascends (take n l.cuts) z)

-- the value at the place is out of its range or out of order
abbrev pub IsWrongPlace : Plant → List Forwarding → Line → ℕ → Type 0
IsWrongPlace plant fs l place = IsWrongError l place ⊎ (IsWrongDelay fs l place ⊎ IsWrongLink plant l place)

pub record IsFirstWrongPlace (plant : Plant) (fs : List Forwarding) (l : Line) (place : ℕ) : Type 0 where
  pub wrong : IsWrongPlace plant fs l place
  pub first : (other : ℕ) → IsWrongPlace plant fs l other → place ≤ other

-- the bytes begin with a line of the form, with the counts wanted
pub record BeginsWith (plant : Plant) (fs : List Forwarding) (bytes : List ℕ) (l : Line) : Type 0 where
  pub counts : HasCounts plant fs l
  pub rest : List ℕ
  pub text : bytes ≡ line_text l ++ rest

-- The line that the bytes begin with is wrong. The place 0 is the line as a whole: it is not of the form, has a wrong
-- count, or is missing. Any other place is that of its first wrong value.
abbrev pub IsWrongLine : Plant → List Forwarding → List ℕ → ℕ → Type 0
IsWrongLine plant fs bytes place =
    ((place ≡ 0) × ((l : Line) → ¬ BeginsWith plant fs bytes l))
    ⊎ ((l : Line) × BeginsWith plant fs bytes l × IsFirstWrongPlace plant fs l place)

-- The first line of a file that is wrong, from 1, and its first wrong place. All lines before it are rows in range.
-- It is one of those wanted, or one too many.
pub record IsFirstWrong (plant : Plant) (bundles : List Bundle) (cycles : ℕ) (bytes : List ℕ) (line place : ℕ) : Type 0
  where
    pub rows : List Row
    pub rest : List ℕ
    pub at : line ≡ length rows + 1
    pub before : All (IsRowOf plant bundles) rows
    pub text : bytes ≡ rows_text rows ++ rest
    pub wrong : ((length rows < cycles) × IsWrongLine plant (forwardings plant bundles) rest place)
        ⊎ ((length rows ≡ cycles) × (0 < length rest) × (place ≡ 0))

-- a refusal names the first wrong line and place
abbrev pub IsRefusal : Plant → List Bundle → ℕ → List ℕ → WorldFault → Type 0
IsRefusal plant bundles cycles bytes faults.NoMemory = Unit {0}
IsRefusal plant bundles cycles bytes (faults.Refused line place) = IsFirstWrong plant bundles cycles bytes line place

-- A refusal of the line that the bytes begin with, by its number.
abbrev pub IsLineRefusal : Plant → List Forwarding → List ℕ → ℕ → WorldFault → Type 0
IsLineRefusal plant fs bytes number faults.NoMemory = Unit {0}
IsLineRefusal plant fs bytes number (faults.Refused line place) = (line ≡ number) × IsWrongLine plant fs bytes place
