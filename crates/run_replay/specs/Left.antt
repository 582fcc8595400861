-- What a plant left, beside a record.
use Rattle.std.specs.Prelude.{◌≡◌, ℕ, List, Some, slice_get}
use Rattle.iso_plant.specs.History.{AppCycles}
use Rattle.iso_plant.specs.declared.plant.History.{History}
use Rattle.iso_rules.specs.Lockstep.{AppLog}
use Rattle.record_text.specs.declared.record.Record.{Record}

-- the images of each app are those of its log
abbrev pub HaveImages : List AppCycles → List AppLog → Type 0
HaveImages histories logs =
    (n : ℕ) (a : AppCycles) (log : AppLog) → slice_get histories n ≡ Some a → slice_get logs n ≡ Some log →
    a.images ≡ log.images

-- so is the journal
pub record HasLeft (h : History) (r : Record) : Type 0 where
  pub images : HaveImages h.apps r.apps
  pub journal : h.journal ≡ r.journal
