-- Loading and storing over plain values.
use Rattle.std.proofs.Common.{◌≡◌, ◌≤◌, inl, inr, ℕ, suc, List, length, replicate, Option, Some, None, Ok, Err, refl, sym, ◌∙◌, ap, subst, arith}
use Rattle.std.proofs.lemmas.List.{length-replicate}
use Rattle.irt_base.specs.Valid.{AreBytes}
use Rattle.std.specs.Global.{Vec}
use Rattle.irt_io.specs.Files.{Files, IsLoad, IsLoadCause, IsStore, IsStoreCause}
use Rattle.irt_io.specs.declared.shelf.ShelfError.{ShelfError}
use Rattle.irt_io.specs.declared.shelf.ShelfError.TheVariants as errors
use Rattle.irt_steps.specs.declared.stop.Stop.{Stop}
use Rattle.irt_steps.specs.declared.stop.Stop.TheVariants as stops
use Rattle.irt_steps.specs.Lines.{absent_line, long_line}
use Rattle.irt_steps.specs.Steps.{ending, Steps, gives, loads, stores, Holds, IsOver, IsUnloaded, missing, too_long, IsButFor}
use Rattle.irt_steps.specs.Follow.{Follows, IsEnding, IsFault, IsStopOf, HasStopCause}

abbrev pub one_load : List ℕ → ℕ → Steps (List ℕ)
one_load name limit = loads name limit (λ bytes. gives bytes)

abbrev items : Vec ℕ → List ℕ
items v = v.items

-- a file that the shelf gave is held
pub load_gives : (old new : Option Files) (name : List ℕ) (limit : ℕ) (v : Vec ℕ) → new ≡ old → length v.items ≤ limit → AreBytes v.items → IsLoad old name limit (Ok v) →
    Follows items (one_load name limit) old new (Ok v)
load_gives None new name limit v kept within bytes is = inl (v.items, record { held = tt; within = within; small = bytes }, (refl, kept))
load_gives (Some f) new name limit v kept within bytes is = inl (v.items, record { held = is; within = within; small = bytes }, (refl, kept))

-- an ending of one load
ending_comes : (old new : Option Files) (name : List ℕ) (limit status : ℕ) (text : List ℕ) (stop : Stop) → new ≡ old → IsEnding stop status text →
    IsUnloaded old name limit (ending status text) → Follows items (one_load name limit) old new (Err stop)
ending_comes old new name limit status text stops.NoMemory kept is why = inl kept
ending_comes old new name limit status text (stops.Fault line) kept is why = absurd is
ending_comes old new name limit status text (stops.Ends cause line) kept is why =
    inr (ending status text, why, ap (λ s. Err (ending s line.items)) is.0 ∙ ap (λ t. Err (ending status t)) is.1, kept)

fault_comes : (old new : Option Files) (name : List ℕ) (limit : ℕ) (stop : Stop) → new ≡ old → IsFault stop name → Follows items (one_load name limit) old new (Err stop)
fault_comes old new name limit stops.NoMemory kept is = inl kept
fault_comes old new name limit (stops.Fault line) kept is = (name, is, inl (refl, kept))
fault_comes old new name limit (stops.Ends cause line) kept is = absurd is

-- what a shelf that answers so holds at the name
absent_held : (old : Option Files) (name : List ℕ) (limit : ℕ) → IsLoad old name limit (Err errors.Absent) → Holds old name None
absent_held None name limit is = tt
absent_held (Some f) name limit is = is

long_held : (old : Option Files) (name : List ℕ) (limit : ℕ) → IsLoad old name limit (Err errors.TooLong) → IsOver old name limit
long_held None name limit is = record { bytes = replicate (suc limit) 0; held = tt; over = omega (arith, length-replicate {A = ℕ} (suc limit) 0) }
long_held (Some f) name limit is = record { bytes = is.0; held = is.1; over = is.2 }

pub load_stops : (old new : Option Files) (name : List ℕ) (limit : ℕ) (error : ShelfError) (stop : Stop) → new ≡ old → IsLoad old name limit (Err error) → IsStopOf error name stop →
    Follows items (one_load name limit) old new (Err stop)
load_stops old new name limit errors.Absent stop kept is so = ending_comes old new name limit 3 (absent_line name) stop kept so (missing (absent_held old name limit is))
load_stops old new name limit errors.TooLong stop kept is so = ending_comes old new name limit 4 (long_line name) stop kept so (too_long (long_held old name limit is))
load_stops old new name limit errors.Failed stop kept is so = fault_comes old new name limit stop kept so
load_stops old new name limit errors.NoMemory stop kept is so = subst (λ s. Follows items (one_load name limit) old new (Err s)) (sym so) (inl kept)

pub load_cause : (before now : ℕ) (name : List ℕ) (error : ShelfError) (stop : Stop) → IsLoadCause before now (Err error) → IsStopOf error name stop → HasStopCause before now stop
load_cause before now name errors.Absent stops.NoMemory is so = tt
load_cause before now name errors.Absent (stops.Fault line) is so = absurd so
load_cause before now name errors.Absent (stops.Ends code line) is so = tt
load_cause before now name errors.TooLong stops.NoMemory is so = tt
load_cause before now name errors.TooLong (stops.Fault line) is so = absurd so
load_cause before now name errors.TooLong (stops.Ends code line) is so = tt
load_cause before now name errors.Failed stops.NoMemory is so = tt
load_cause before now name errors.Failed (stops.Fault line) is so = is
load_cause before now name errors.Failed (stops.Ends code line) is so = tt
load_cause before now name errors.NoMemory stop is so = subst (λ s. HasStopCause before now s) (sym so) tt

-- ---- storing

abbrev pub one_store : List ℕ → List ℕ → Steps (Unit {0})
one_store name bytes = stores name bytes (gives tt)

pub store_gives : (old new : Option Files) (name bytes : List ℕ) (u : Unit {0}) → IsStore old new name bytes (Ok u) → Follows (λ (u : Unit {0}). u) (one_store name bytes) old new (Ok u)
store_gives None None name bytes u is = (None, record { others = tt; stored = tt }, (refl, refl))
store_gives None (Some g) name bytes u is = absurd is
store_gives (Some f) None name bytes u is = absurd is
store_gives (Some f) (Some g) name bytes u is = (Some g, record { others = is.others; stored = is.stored }, (refl, refl))

others_held : (old new : Option Files) (name bytes : List ℕ) (error : ShelfError) → IsStore old new name bytes (Err error) → IsButFor old new name
others_held None None name bytes error is = tt
others_held None (Some g) name bytes error is = is
others_held (Some f) None name bytes error is = is
others_held (Some f) (Some g) name bytes error is = is.others

pub store_stops : (old new : Option Files) (name bytes : List ℕ) (error : ShelfError) (stop : Stop) (before now : ℕ) → IsStore old new name bytes (Err error) →
    IsStoreCause before now (Err error) → IsStopOf error name stop → Follows (λ (u : Unit {0}). u) (one_store name bytes) old new (Err stop)
store_stops old new name bytes errors.Absent stop before now is cause so = absurd cause
store_stops old new name bytes errors.TooLong stop before now is cause so = absurd cause
store_stops old new name bytes errors.Failed stops.NoMemory before now is cause so = inl (others_held old new name bytes errors.Failed is)
store_stops old new name bytes errors.Failed (stops.Fault line) before now is cause so = (name, so, inl (refl, others_held old new name bytes errors.Failed is))
store_stops old new name bytes errors.Failed (stops.Ends why line) before now is cause so = absurd so
store_stops old new name bytes errors.NoMemory stop before now is cause so =
    subst (λ s. Follows (λ (u : Unit {0}). u) (one_store name bytes) old new (Err s)) (sym so) (inl (others_held old new name bytes errors.NoMemory is))

pub store_cause : (before now : ℕ) (name : List ℕ) (error : ShelfError) (stop : Stop) → IsStoreCause before now (Err error) → IsStopOf error name stop → HasStopCause before now stop
store_cause before now name errors.Absent stop is so = absurd is
store_cause before now name errors.TooLong stop is so = absurd is
store_cause before now name errors.Failed stops.NoMemory is so = tt
store_cause before now name errors.Failed (stops.Fault line) is so = is
store_cause before now name errors.Failed (stops.Ends code line) is so = absurd so
store_cause before now name errors.NoMemory stop is so = subst (λ s. HasStopCause before now s) (sym so) tt
