-- What a shelf holds, and what its calls may answer.
use Rattle.std.specs.Prelude.{◌≡◌, ◌≢◌, ℕ, ◌<◌, ⊤, List, length, Option, Some, None, Result, Ok, Err, OnOk}
use Rattle.std.specs.Global.{Vec}
use Rattle.irt_io.specs.Fault.{HasRisen}
use Rattle.irt_io.specs.declared.shelf.ShelfError.{ShelfError}
use Rattle.irt_io.specs.declared.shelf.ShelfError.TheVariants as errors

-- what each name holds
abbrev pub Files : Type 0
Files = List ℕ → Option (List ℕ)

-- What `load` may answer at a name that holds this. The causes exclude each other, so each answer but a
-- fault and want of memory comes exactly where its case holds.
abbrev pub IsLoadOf : Option (List ℕ) → ℕ → Result (Vec ℕ) ShelfError → Type 0
IsLoadOf held limit (Ok v) = held ≡ Some v.items
IsLoadOf held limit (Err errors.Absent) = held ≡ None
IsLoadOf held limit (Err errors.TooLong) = (bytes : List ℕ) × (held ≡ Some bytes) × (limit < length bytes)
IsLoadOf held limit (Err errors.Failed) = ⊤
IsLoadOf held limit (Err errors.NoMemory) = ⊤

-- the same, where the shelf tells its files
abbrev pub IsLoad : Option Files → List ℕ → ℕ → Result (Vec ℕ) ShelfError → Type 0
IsLoad None name limit result = ⊤
IsLoad (Some files) name limit result = IsLoadOf (files name) limit result

-- A fault of `load` was counted. None was where the shelf found the name not held, or too long.
abbrev pub IsLoadCause : ℕ → ℕ → Result (Vec ℕ) ShelfError → Type 0
IsLoadCause before now (Ok v) = ⊤
IsLoadCause before now (Err errors.Absent) = now ≡ before
IsLoadCause before now (Err errors.TooLong) = now ≡ before
IsLoadCause before now (Err errors.Failed) = HasRisen before now
IsLoadCause before now (Err errors.NoMemory) = ⊤

-- all other names hold what they held, and after Ok this one holds the bytes
pub record Stores {E : Type 0} (old new : Files) (name bytes : List ℕ) (result : Result (Unit {0}) E) : Type 0 where
  pub others : (other : List ℕ) → other ≢ name → new other ≡ old other
  pub stored : OnOk result (new name ≡ Some bytes)

-- the same, where the shelf tells its files, which no call changes
abbrev pub IsStore : Option Files → Option Files → List ℕ → List ℕ → Result (Unit {0}) ShelfError → Type 0
IsStore None None name bytes result = ⊤
IsStore None (Some new) name bytes result = ⊥
IsStore (Some old) None name bytes result = ⊥
IsStore (Some old) (Some new) name bytes result = Stores old new name bytes result

-- a fault of `store` was counted, and no error of `load` comes
abbrev pub IsStoreCause : ℕ → ℕ → Result (Unit {0}) ShelfError → Type 0
IsStoreCause before now (Ok u) = ⊤
IsStoreCause before now (Err errors.Absent) = ⊥
IsStoreCause before now (Err errors.TooLong) = ⊥
IsStoreCause before now (Err errors.Failed) = HasRisen before now
IsStoreCause before now (Err errors.NoMemory) = ⊤
