-- How a switch keeps the entries of the frames that it provides.
use Rattle.std.specs.Prelude.{ℕ, Bool, false, true, List, [], map, filter, drop, AllPairs}
use Rattle.std.specs.List.Sorted.{IsPermutation}
use Rattle.irt_base.specs.declared.blocks.Entry.{Entry}
use Rattle.irt_switch.specs.declared.action.Outgoing.{Outgoing}
use Rattle.irt_switch.specs.declared.release.ReleaseKey.{ReleaseKey}
use Rattle.irt_switch.specs.Release.{IsReleasedBefore, outgoing_of, is_due, is_provided}

abbrev pub key_of : Entry → ReleaseKey
key_of e = record { offset = e.send_offset; frame = e.frame.0 }

-- the entries that the device receives from nobody, by offset, then FrameID
pub record IsReleaseOrder (entries provided : List Entry) : Type 0 where
  pub same : IsPermutation (filter is_provided entries) provided
  pub sorted : AllPairs (λ (a b : Entry). IsReleasedBefore (outgoing_of a) (outgoing_of b)) provided

-- the due ones of those from a place on, where the device is in step
abbrev pub still_due : Bool → ℕ → ℕ → List Entry → List Outgoing
still_due true k past provided = map outgoing_of (filter (is_due k) (drop past provided))
still_due false k past provided = []
