-- The order of a cycle's rows.
use Rattle.std.specs.Prelude.{◌≡◌, ◌≢◌, ◌<◌, ◌⊎◌, List, pos, ◌<ℤ◌, AllPairs}
use Rattle.cycle_rows.specs.declared.rows.JournalRow.{JournalRow}
use Rattle.cycle_rows.specs.declared.rows.JournalRow.TheVariants.{Occupy, Deliver, Missed, Sent, Refused, Lost, Came}
use Rattle.cycle_rows.specs.declared.rows.RowKey.{RowKey}

-- Occupations stand first, by device, port and start; then deliveries, then drops, each by device and FrameID; then
-- parcels that were sent, by device, port and start. Refused, lost and come parcels have no order but their kind's.
abbrev pub key_of : JournalRow → RowKey
key_of (Occupy k d p f start end) = record { kind = 0; device = d.0; port = p.0; at = start }
key_of (Deliver k d f end) = record { kind = 1; device = d.0; port = 0; at = pos f.0 }
key_of (Missed k d f) = record { kind = 2; device = d.0; port = 0; at = pos f.0 }
key_of (Sent k d p traffic serial start end) = record { kind = 3; device = d.0; port = p.0; at = start }
key_of (Refused k d p traffic serial) = record { kind = 4; device = 0; port = 0; at = pos 0 }
key_of (Lost k d p traffic serial) = record { kind = 5; device = 0; port = 0; at = pos 0 }
key_of (Came k d traffic serial) = record { kind = 6; device = 0; port = 0; at = pos 0 }

-- by kind, then device, then port, then time or FrameID
abbrev pub IsKeyBefore : RowKey → RowKey → Type 0
IsKeyBefore a b = (a.kind < b.kind) ⊎ ((a.kind ≡ b.kind) × ((a.device < b.device) ⊎ ((a.device ≡ b.device) ×
    ((a.port < b.port) ⊎ ((a.port ≡ b.port) × (a.at <ℤ b.at))))))

abbrev pub IsRowBefore : JournalRow → JournalRow → Type 0
IsRowBefore r s = IsKeyBefore (key_of r) (key_of s)

abbrev pub HasOtherKey : JournalRow → JournalRow → Type 0
HasOtherKey r s = key_of r ≢ key_of s

-- Each row stands before all later ones. So no two have one key.
abbrev pub AreInOrder : List JournalRow → Type 0
AreInOrder rows = AllPairs IsRowBefore rows
