-- A command as its steps, over the files of a shelf.
use Rattle.std.specs.Prelude.{◌≡◌, ◌≢◌, ℕ, ◌<◌, ◌≤◌, ⊤, ◌⊎◌, List, length, Option, Some, None, Result, Ok, Err}
use Rattle.irt_base.specs.Valid.{AreBytes}
use Rattle.irt_io.specs.Files.{Files}
use Rattle.irt_steps.specs.Lines.{absent_line, long_line}

-- how a command ends: its status and what it prints
pub record Ending : Type 0 where
  pub status : ℕ
  pub text : List ℕ

abbrev pub ending : ℕ → List ℕ → Ending
ending status text = record { status = status; text = text }

-- The steps of a command: a value, an ending, a file to load, a file to store, and a question whose answers a
-- relation tells.
pub data Steps (A : Type 0) : Type 1 where
  gives : A → Steps A
  ends : Ending → Steps A
  loads : (name : List ℕ) (limit : ℕ) → (List ℕ → Steps A) → Steps A
  stores : (name bytes : List ℕ) → Steps A → Steps A
  asks : {B : Type 0} → (B → Type 0) → (B → Steps A) → Steps A

-- the first steps, and if they give a value the next ones
abbrev pub after : {A B : Type 0} → Steps A → (A → Steps B) → Steps B
after (gives x) f = f x
after (ends e) f = ends e
after (loads name limit next) f = loads name limit (λ bytes. after (next bytes) f)
after (stores name bytes next) f = stores name bytes (after next f)
after (asks P next) f = asks P (λ b. after (next b) f)

-- a step that no file bears on
abbrev pub judged : {A : Type 0} → Result A Ending → Steps A
judged (Ok x) = gives x
judged (Err e) = ends e

-- ---- the files of a shelf

-- What a name holds, where the shelf tells its files. Of a shelf that tells none any answer may come.
abbrev pub Holds : Option Files → List ℕ → Option (List ℕ) → Type 0
Holds None name what = ⊤
Holds (Some files) name what = files name ≡ what

-- All names but one hold what they held. No step changes whether a shelf tells its files.
abbrev pub IsButFor : Option Files → Option Files → List ℕ → Type 0
IsButFor None None name = ⊤
IsButFor None (Some new) name = ⊥
IsButFor (Some old) None name = ⊥
IsButFor (Some old) (Some new) name = (other : List ℕ) → other ≢ name → new other ≡ old other

-- the files after a store
pub record IsStored (old new : Option Files) (name bytes : List ℕ) : Type 0 where
  pub others : IsButFor old new name
  pub stored : Holds new name (Some bytes)

-- a file that is held, within the limit
pub record IsHeld (files : Option Files) (name : List ℕ) (limit : ℕ) (bytes : List ℕ) : Type 0 where
  pub held : Holds files name (Some bytes)
  pub within : length bytes ≤ limit
  pub small : AreBytes bytes

-- a file that is longer than the limit
pub record IsOver (files : Option Files) (name : List ℕ) (limit : ℕ) : Type 0 where
  pub bytes : List ℕ
  pub held : Holds files name (Some bytes)
  pub over : limit < length bytes

-- a file that a command cannot load, and how that ends the command
pub data IsUnloaded (files : Option Files) (name : List ℕ) (limit : ℕ) : Ending → Type 0 where
  missing : Holds files name None → IsUnloaded files name limit (ending 3 (absent_line name))
  too_long : IsOver files name limit → IsUnloaded files name limit (ending 4 (long_line name))

-- ---- where steps lead

-- The steps lead from files to files, and to a value or an ending.
abbrev pub Comes : {A : Type 0} → Steps A → Option Files → Option Files → Result A Ending → Type 0
Comes (gives x) old new result = (result ≡ Ok x) × (new ≡ old)
Comes (ends e) old new result = (result ≡ Err e) × (new ≡ old)
Comes (loads name limit next) old new result =
    ((bytes : List ℕ) × IsHeld old name limit bytes × Comes (next bytes) old new result)
    ⊎ ((e : Ending) × IsUnloaded old name limit e × (result ≡ Err e) × (new ≡ old))
Comes (stores name bytes next) old new result =
    (mid : Option Files) × IsStored old mid name bytes × Comes next mid new result
Comes (asks {B} P next) old new result = (b : B) × P b × Comes (next b) old new result

-- The shelf fails at a name, after steps that succeed.
abbrev pub FailsAt : {A : Type 0} → Steps A → Option Files → Option Files → List ℕ → Type 0
FailsAt (gives x) old new name = ⊥
FailsAt (ends e) old new name = ⊥
FailsAt (loads at limit next) old new name =
    ((name ≡ at) × (new ≡ old)) ⊎ ((bytes : List ℕ) × IsHeld old at limit bytes × FailsAt (next bytes) old new name)
FailsAt (stores at bytes next) old new name =
    ((name ≡ at) × IsButFor old new at)
    ⊎ ((mid : Option Files) × IsStored old mid at bytes × FailsAt next mid new name)
FailsAt (asks {B} P next) old new name = (b : B) × P b × FailsAt (next b) old new name

-- Memory runs out after some of the steps.
abbrev pub Halts : {A : Type 0} → Steps A → Option Files → Option Files → Type 0
Halts (gives x) old new = new ≡ old
Halts (ends e) old new = new ≡ old
Halts (loads at limit next) old new =
    (new ≡ old) ⊎ ((bytes : List ℕ) × IsHeld old at limit bytes × Halts (next bytes) old new)
Halts (stores at bytes next) old new =
    IsButFor old new at ⊎ ((mid : Option Files) × IsStored old mid at bytes × Halts next mid new)
Halts (asks {B} P next) old new = (new ≡ old) ⊎ ((b : B) × P b × Halts (next b) old new)

-- The steps come to the loading of a name. What was stored before is among the files.
abbrev pub LoadsNext : {A : Type 0} → Steps A → Option Files → List ℕ → ℕ → Option Files → Type 0
LoadsNext (gives x) files name limit now = ⊥
LoadsNext (ends e) files name limit now = ⊥
LoadsNext (loads at most next) files name limit now =
    ((name ≡ at) × (limit ≡ most) × (now ≡ files))
    ⊎ ((bytes : List ℕ) × IsHeld files at most bytes × LoadsNext (next bytes) files name limit now)
LoadsNext (stores at bytes next) files name limit now =
    (mid : Option Files) × IsStored files mid at bytes × LoadsNext next mid name limit now
LoadsNext (asks {B} P next) files name limit now = (b : B) × P b × LoadsNext (next b) files name limit now

-- Every question of the steps has one answer at most.
abbrev pub IsOneWay : {A : Type 0} → Steps A → Type 0
IsOneWay (gives x) = ⊤
IsOneWay (ends e) = ⊤
IsOneWay (loads name limit next) = (bytes : List ℕ) → IsOneWay (next bytes)
IsOneWay (stores name bytes next) = IsOneWay next
IsOneWay (asks {B} P next) = ((b c : B) → P b → P c → b ≡ c) × ((b : B) → IsOneWay (next b))
