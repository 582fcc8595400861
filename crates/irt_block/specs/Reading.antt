-- Reading fields from left to right. A reader answers a value and the bytes after it, or the first fault.
use Rattle.std.specs.Prelude.{◌≡◌, ◌≢◌, ◌⊎◌, ℕ, zero, suc, ◌-◌, ◌==◌, ◌&&◌, ◌||◌, nat_lt, nat_le, Bool, if◌then◌else◌, List, [], ◌∷◌, length, take, drop, Result, Ok, Err}
use Rattle.byteorder.specs.Endian.{big_bytes, big_number}
use Rattle.irt_block.specs.declared.fault.BlockKind.{BlockKind}
use Rattle.irt_block.specs.declared.fault.BlockKind.TheVariants as kinds
use Rattle.irt_block.specs.declared.fault.BlockFault.{BlockFault}
use Rattle.irt_block.specs.declared.extent.Extent.{Extent}
use Rattle.irt_block.specs.declared.extent.Holder.{Holder}
use Rattle.irt_block.specs.declared.extent.Holder.TheVariants as holders
use Rattle.irt_block.specs.declared.bytes.ByteClass.{ByteClass}
use Rattle.irt_block.specs.declared.bytes.ByteClass.TheVariants as classes

-- the first step, and if it succeeds the next
infixl 10 ◌>>=◌
abbrev pub ◌>>=◌ : {A B : Type 0} → Result A BlockFault → (A → Result B BlockFault) → Result B BlockFault
(Ok x) >>= f = f x
(Err e) >>= f = Err e

-- What a function returned, seen by view, is what reading gives.
abbrev pub GivesSurely : {X Y : Type 0} → (X → Y) → Result X BlockFault → Result Y BlockFault → Type 0
GivesSurely view (Ok x) read = read ≡ Ok (view x)
GivesSurely view (Err e) read = read ≡ Err e

abbrev pub fault_at : BlockKind → ℕ → BlockFault
fault_at kind offset = record { kind = kind; offset = offset }

-- the fault where memory ran out
abbrev pub no_memory : BlockFault
no_memory = fault_at kinds.NoMemory 0

-- The same of a function that takes memory: or memory ran out.
abbrev pub Fails : {Y : Type 0} → BlockFault → Result Y BlockFault → Type 0
Fails e read = (e ≡ no_memory) ⊎ (read ≡ Err e)

abbrev pub Gives : {X Y : Type 0} → (X → Y) → Result X BlockFault → Result Y BlockFault → Type 0
Gives view (Ok x) read = read ≡ Ok (view x)
Gives view (Err e) read = Fails e read

-- no refusal is for want of memory
abbrev pub IsSure : {Y : Type 0} → Result Y BlockFault → Type 0
IsSure read = (e : BlockFault) → read ≡ Err e → e.kind ≢ kinds.NoMemory

-- reads a value off the front of the bytes that are left of an extent
abbrev pub Reader : Type 0 → Type 0
Reader A = Extent → List ℕ → Result (A × List ℕ) BlockFault

-- the offset of the bytes that are left
abbrev pub offset_of : Extent → List ℕ → ℕ
offset_of extent rest = extent.end - length rest

-- the input, of so many bytes
abbrev pub input_of : ℕ → Extent
input_of n = record { end = n; holder = holders.Input }

-- the fault where bytes are missing: at the input's end, or in the block's BlockLength
abbrev pub missing_in : Holder → ℕ → BlockFault
missing_in holders.Input end = fault_at kinds.Short end
missing_in (holders.Block length_at) end = fault_at kinds.BadLength length_at

abbrev pub missing_of : Extent → BlockFault
missing_of extent = missing_in extent.holder extent.end

-- n bytes that spell a number, the highest first
unfoldable pub spelled : ℕ → ℕ → List ℕ
spelled n x = big_bytes n x

-- the number in the first n bytes
unfoldable pub number_in : ℕ → List ℕ → ℕ
number_in n rest = big_number n rest

-- n bytes as they are
abbrev pub raw_at : ℕ → Reader (List ℕ)
raw_at n extent rest = if nat_lt (length rest) n then Err (missing_of extent) else Ok (take n rest, drop n rest)

-- a number of n bytes
abbrev pub number_at : ℕ → Reader ℕ
number_at n extent rest = if nat_lt (length rest) n then Err (missing_of extent) else Ok (number_in n rest, drop n rest)

-- a rule of the field that begins at these bytes
abbrev pub rule_at : Bool → Extent → List ℕ → Result (Unit {0}) BlockFault
rule_at holds extent rest = if holds then Ok tt else Err (fault_at kinds.BadValue (offset_of extent rest))

-- a number of n bytes under a rule
abbrev pub ruled_at : ℕ → (ℕ → Bool) → Reader ℕ
ruled_at n rule extent rest =
    number_at n extent rest >>= λ x.
    rule_at (rule x.0) extent rest >>= λ _.
    Ok x

-- from low to high, both included
abbrev pub within : ℕ → ℕ → ℕ → Bool
within low high x = nat_le low x && nat_le x high

-- a number of n bytes that is always the same
abbrev pub constant_at : ℕ → ℕ → Reader (Unit {0})
constant_at n value extent rest =
    ruled_at n (λ x. x == value) extent rest >>= λ x.
    Ok (tt, x.1)

-- the bytes of a class: zeros, or the letters of a name
abbrev pub is_of : ByteClass → ℕ → Bool
is_of classes.Zero b = b == 0
is_of classes.Letter b = within 97 122 b || within 48 57 b || (b == 45) || (b == 46)

abbrev pub kind_of : ByteClass → BlockKind
kind_of classes.Zero = kinds.BadPad
kind_of classes.Letter = kinds.BadValue

-- the first of n bytes that is not of the class
abbrev pub bytes_pass : ByteClass → ℕ → Extent → List ℕ → Result (Unit {0}) BlockFault
bytes_pass class zero extent rest = Ok tt
bytes_pass class (suc n) extent [] = Ok tt
bytes_pass class (suc n) extent (b ∷ rest) =
    if is_of class b then bytes_pass class n extent rest else Err (fault_at (kind_of class) (offset_of extent (b ∷ rest)))

-- n bytes of a class: all have to be there before one is tested
unfoldable pub class_at : ByteClass → ℕ → Reader (List ℕ)
class_at class n extent rest =
    raw_at n extent rest >>= λ x.
    bytes_pass class n extent rest >>= λ _.
    Ok x

-- n bytes of padding
unfoldable pub pad_at : ℕ → Reader (Unit {0})
pad_at n extent rest =
    class_at classes.Zero n extent rest >>= λ x.
    Ok (tt, x.1)

-- an item as often as a count says
unfoldable pub repeat_at : {A : Type 0} → Reader A → ℕ → Reader (List A)
repeat_at item zero extent rest = Ok ([], rest)
repeat_at item (suc n) extent rest =
    item extent rest >>= λ first.
    repeat_at item n extent first.1 >>= λ others.
    Ok (first.0 ∷ others.0, others.1)

-- no bytes of a block are left after its last field
abbrev pub ended_at : Extent → List ℕ → Result (Unit {0}) BlockFault
ended_at extent rest = if length rest == 0 then Ok tt else Err (missing_of extent)

-- no bytes of an input of so many are left after the value
abbrev pub finished_at : ℕ → List ℕ → Result (Unit {0}) BlockFault
finished_at all rest = if length rest == 0 then Ok tt else Err (fault_at kinds.Trailing (all - length rest))
