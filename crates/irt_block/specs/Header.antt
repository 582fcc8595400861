-- A block: its header, and then its fields.
use Rattle.std.specs.Prelude.{ℕ, ◌+◌, ◌-◌, ◌==◌, ◌&&◌, nat_lt, not, if◌then◌else◌, List, [], ◌∷◌, ◌++◌, length, take, drop, slice_index, Result, Ok, Err}
use Rattle.irt_block.specs.declared.fault.BlockKind.TheVariants as kinds
use Rattle.irt_block.specs.declared.fault.BlockFault.{BlockFault}
use Rattle.irt_block.specs.declared.extent.Extent.{Extent}
use Rattle.irt_block.specs.declared.extent.Holder.TheVariants as holders
use Rattle.irt_block.specs.declared.header.BlockId.{BlockId}
use Rattle.irt_block.specs.Reading.{◌>>=◌, Reader, fault_at, offset_of, input_of, missing_of, spelled, number_in, ended_at, finished_at}

-- type, length and version: the length counts the version and the fields
abbrev pub header_bytes : BlockId → ℕ → List ℕ
header_bytes id length = spelled 2 id.kind ++ spelled 2 length ++ id.high ∷ id.low ∷ []

-- the one spelling of a block with these fields
abbrev pub block_bytes : BlockId → List ℕ → List ℕ
block_bytes id fields = header_bytes id (length fields + 2) ++ fields

-- the size of the block whose header stands here: 4 and BlockLength
unfoldable pub header_at : BlockId → Extent → List ℕ → Result ℕ BlockFault
header_at id extent rest =
    if nat_lt (length rest) 6 then Err (missing_of extent)
    else if not (number_in 2 rest == id.kind) then Err (fault_at kinds.BadType (offset_of extent rest))
    else if not ((slice_index rest 4 == id.high) && (slice_index rest 5 == id.low)) then Err (fault_at kinds.BadVersion (offset_of extent rest + 4))
    else if nat_lt (number_in 2 (drop 2 rest)) 2 then Err (fault_at kinds.BadLength (offset_of extent rest + 2))
    else if nat_lt (length rest) (4 + number_in 2 (drop 2 rest)) then Err (missing_of extent)
    else Ok (4 + number_in 2 (drop 2 rest))

-- where the block ends that begins at `at`, in an input that ends at `end`
abbrev pub end_of : BlockId → ℕ → ℕ → List ℕ → Result ℕ BlockFault
end_of id at end bytes =
    header_at id (input_of end) (take (end - at) (drop at bytes)) >>= λ size.
    Ok (at + size)

-- the bytes that the fields of a block of this size may use
abbrev pub inner_of : Extent → List ℕ → ℕ → Extent
inner_of extent rest size = record { end = offset_of extent rest + size; holder = holders.Block (offset_of extent rest + 2) }

-- an opened block: what its fields may use, their bytes, and the bytes after the block
abbrev pub open_at : BlockId → Extent → List ℕ → Result (Extent × (List ℕ × List ℕ)) BlockFault
open_at id extent rest =
    header_at id extent rest >>= λ size.
    Ok (inner_of extent rest size, (take (size - 6) (drop 6 rest), drop size rest))

-- a block whose fields are read by `fields`, which may leave no bytes of it
abbrev pub block_at : {A : Type 0} → BlockId → Reader A → Reader A
block_at id fields extent rest =
    open_at id extent rest >>= λ block.
    fields block.0 block.1.0 >>= λ value.
    ended_at block.0 value.1 >>= λ _.
    Ok (value.0, block.1.1)

-- a value that is all of the input
abbrev pub whole_of : {A : Type 0} → Reader A → List ℕ → Result A BlockFault
whole_of value bytes =
    value (input_of (length bytes)) bytes >>= λ x.
    finished_at (length bytes) x.1 >>= λ _.
    Ok x.0
