-- The sweep of one phase over slots by their begin: each due slot against the due one before it.
use Rattle.std.specs.Prelude.{ℕ, ◌+◌, ◌%◌, ◌==◌, nat_le, Bool, true, ◌&&◌, if◌then◌else◌, List, [], ◌∷◌, Option, Some}
use Rattle.std.specs.Option.{option_map_or}
use Rattle.window_sweep.specs.Slots.{slack}
use Rattle.window_sweep.specs.declared.slot.SendSlot.{SendSlot}

abbrev pub is_due : ℕ → SendSlot → Bool
is_due k s = (k % s.ratio) + 1 == s.phase

abbrev pub is_before : ℕ → SendSlot → SendSlot → Bool
is_before window a b = nat_le (a.end + slack window a b) b.lo

-- a slot comes after the last due one, if there is one
abbrev pub follows : ℕ → Option SendSlot → SendSlot → Bool
follows window last s = option_map_or (λ (p : SendSlot). is_before window p s) last true

abbrev pub steps : ℕ → ℕ → Option SendSlot → List SendSlot → Bool
steps window k last [] = true
steps window k last (s ∷ rest) =
    if is_due k s then (follows window last s && steps window k (Some s) rest) else steps window k last rest
