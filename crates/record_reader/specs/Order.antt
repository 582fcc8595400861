-- The order of a record's rows, as their text shows it.
use Rattle.std.specs.Prelude.{◌≡◌, ◌==◌, ◌&&◌, ◌||◌, nat_lt, int_le, ⊤, Bool, true, List, [], ◌∷◌, pos}
use Rattle.cycle_rows.specs.Rows.{cycle_of}
use Rattle.cycle_rows.specs.declared.rows.JournalRow.{JournalRow}
use Rattle.cycle_rows.specs.declared.rows.JournalRow.TheVariants.{Occupy, Deliver, Missed, Sent, Refused, Lost, Came}
use Rattle.cycle_rows.specs.declared.rows.RowKey.{RowKey}

-- Where a row stands in its cycle: by kind, then device and port, then start or FrameID. What a kind does not order by
-- is 0: refused and come parcels have no order but their kind's, and lost ones none but their device's and port's.
abbrev pub place_of : JournalRow → RowKey
place_of (Occupy k d p f start end) = record { kind = 0; device = d.0; port = p.0; at = start }
place_of (Deliver k d f end) = record { kind = 1; device = d.0; port = 0; at = pos f.0 }
place_of (Missed k d f) = record { kind = 2; device = d.0; port = 0; at = pos f.0 }
place_of (Sent k d p traffic serial start end) = record { kind = 3; device = d.0; port = p.0; at = start }
place_of (Refused k d p traffic serial) = record { kind = 4; device = 0; port = 0; at = pos 0 }
place_of (Lost k d p traffic serial) = record { kind = 5; device = d.0; port = p.0; at = pos 0 }
place_of (Came k d traffic serial) = record { kind = 6; device = 0; port = 0; at = pos 0 }

-- the one is not behind the other
abbrev pub is_key_up_to : RowKey → RowKey → Bool
is_key_up_to a b = nat_lt a.kind b.kind || ((a.kind == b.kind) && (nat_lt a.device b.device || ((a.device == b.device)
    && (nat_lt a.port b.port || ((a.port == b.port) && int_le a.at b.at)))))

-- a row is of an earlier cycle, or of the same and not behind
abbrev pub stands_up_to : JournalRow → JournalRow → Bool
stands_up_to r s =
    nat_lt (cycle_of r) (cycle_of s) || ((cycle_of r == cycle_of s) && is_key_up_to (place_of r) (place_of s))

-- each row stands up to the next
abbrev pub StandInOrder : List JournalRow → Type 0
StandInOrder [] = ⊤
StandInOrder (r ∷ []) = ⊤
StandInOrder (r ∷ s ∷ rows) = (stands_up_to r s ≡ true) × StandInOrder (s ∷ rows)

-- the last row stands up to another one
abbrev pub follows : List JournalRow → JournalRow → Bool
follows [] r = true
follows (s ∷ []) r = stands_up_to s r
follows (s ∷ t ∷ rows) r = follows (t ∷ rows) r
