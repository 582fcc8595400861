-- The scan of a device's FrameIDs.
use Rattle.std.specs.Prelude.{◌≡◌, ℕ, ◌<◌, List, Option, Some, None, slice_get}
use Rattle.irt_base.specs.Valid.{IsWithin}
use Rattle.irt_base.specs.declared.blocks.Entry.{Entry}

-- An entry's FrameID is out of the range, and those of the entries before it are not.
pub record IsFirstOut (first last : ℕ) (entries : List Entry) (frame : ℕ) : Type 0 where
  pub index : ℕ
  pub e : Entry
  pub stands : slice_get entries index ≡ Some e
  pub named : e.frame.0 ≡ frame
  pub out : ¬ IsWithin first last frame
  pub before : (n : ℕ) (d : Entry) → n < index → slice_get entries n ≡ Some d → IsWithin first last d.frame.0

abbrev pub IsFrameScan : ℕ → ℕ → List Entry → Option ℕ → Type 0
IsFrameScan first last entries None = (n : ℕ) (e : Entry) → slice_get entries n ≡ Some e → IsWithin first last e.frame.0
IsFrameScan first last entries (Some frame) = IsFirstOut first last entries frame
