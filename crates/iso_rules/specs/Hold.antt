-- How long data that came are held.
use Rattle.std.specs.Prelude.{◌≡◌, ℕ, ◌+◌, ◌-◌, ◌<◌, ◌≤◌, ◌⊎◌, List, [], Option, IsSome, unwrap_or, count_by, replicate, slice_get}
use Rattle.std.specs.List.{range_with_len}
use Rattle.irt_base.specs.Cycle.{IsDue}
use Rattle.irt_base.specs.declared.blocks.Entry.{Entry}
use Rattle.irt_base.specs.declared.limits.TheConstants.{HOLD_CYCLES}
use Rattle.irt_switch.specs.Release.{is_due}
use Rattle.iso_rules.specs.Station.{data_words}
use Rattle.plan_rules.specs.World.{WorldRow}

-- In how many cycles after one, up to another, a frame is due. With ratio 2 and phase 1 it is so in the cycles 0, 2, 4 and
-- so on, and in 2 cycles after 2, up to 7.
abbrev pub due_after : Entry → ℕ → ℕ → ℕ
due_after e c k = count_by (λ cycle. is_due cycle e) (range_with_len (c + 1) (k - c))

-- The data of a frame come in some cycles. After cycle k those of cycle c are held: they are the last ones that came, and
-- since then the frame was due in fewer than HOLD_CYCLES cycles.
pub record IsHeldFrom (Comes : ℕ → Type 0) (e : Entry) (k c : ℕ) : Type 0 where
  pub reached : c ≤ k
  pub comes : Comes c
  pub last : (later : ℕ) → c < later → later ≤ k → ¬ Comes later
  pub short : due_after e c k < HOLD_CYCLES

-- What is held of a frame after cycle k: the words of the cycle from which its data are held, and zeros where there is
-- no such cycle.
abbrev pub IsHeldPart : (ℕ → Type 0) → (ℕ → List ℕ) → Entry → ℕ → List ℕ → Type 0
IsHeldPart Comes words e k part =
    ((c : ℕ) × IsHeldFrom Comes e k c × (part ≡ words c))
    ⊎ (((c : ℕ) → ¬ IsHeldFrom Comes e k c) × (part ≡ replicate (data_words e) 0))

-- the same where `came` has the words that came in a cycle, if any did
abbrev pub IsHeldOf : (ℕ → Option (List ℕ)) → Entry → ℕ → List ℕ → Type 0
IsHeldOf came e k part = IsHeldPart (λ cycle. IsSome (came cycle)) (λ cycle. unwrap_or (came cycle) []) e k part

-- One of the last HOLD_CYCLES cycles up to k in which the frame is due: since then it was due in fewer.
pub record IsRecent (e : Entry) (k c : ℕ) : Type 0 where
  pub reached : c ≤ k
  pub due : IsDue c e.ratio e.phase
  pub short : due_after e c k < HOLD_CYCLES

-- Two worlds, and the words taken in them by app and cycle, agree in these cycles.
pub record AgreesInRecent (e : Entry) (k : ℕ) (world other : List WorldRow) (taken given : ℕ → ℕ → List ℕ) : Type 0 where
  pub rows : (c : ℕ) → IsRecent e k c → slice_get world c ≡ slice_get other c
  pub words : (c app : ℕ) → IsRecent e k c → taken app c ≡ given app c
