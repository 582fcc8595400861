-- What it is that reading bytes and spelling values are one.
use Rattle.std.specs.Prelude.{◌≡◌, ℕ, ◌<◌, ◌↔◌, List, get_or, Option, Some, None, Result, Ok, Err, IsErr}

abbrev pub IsBytes : List ℕ → Type 0
IsBytes bytes = (i : ℕ) → get_or bytes i 0 < 256

-- a value, unless a fault was found
abbrev pub unless_fault : {A E : Type 0} → Option E → A → Result A E
unless_fault None value = Ok value
unless_fault (Some fault) value = Err fault

-- For a function that reads the whole of a list, what values are valid, and how they are spelled. Of bytes
-- it reads a value exactly where they are the spelling of that value and it is valid.
pub record ReadingIsSpelling {A E : Type 0} (read : List ℕ → Result A E) (IsValid : A → Type 0) (spell : A → List ℕ) : Type 0 where
  pub reads : (bytes : List ℕ) (v : A) → IsBytes bytes → (read bytes ≡ Ok v) ↔ (IsValid v × (bytes ≡ spell v))
  -- it refuses exactly where nothing is spelled
  pub refuses : (bytes : List ℕ) → IsBytes bytes → IsErr (read bytes) ↔ ((v : A) → IsValid v → ¬ (bytes ≡ spell v))
  -- what is spelled is read back
  pub back : (v : A) → IsValid v → read (spell v) ≡ Ok v
  -- a spelling has one value
  pub one : (v w : A) → IsValid v → IsValid w → spell v ≡ spell w → v ≡ w
