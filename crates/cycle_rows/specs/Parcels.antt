-- What the rows of a cycle's parcels are taken to keep.
use Rattle.std.specs.Prelude.{◌≡◌, ℕ, ⊤, List, ℤ, All}
use Rattle.irt_base.specs.declared.blocks.Bundle.{Bundle}
use Rattle.irt_base.specs.declared.plants.Plant.{Plant}
use Rattle.plan_rules.specs.Expected.{IsFree}
use Rattle.plan_rules.specs.World.{WorldRow}
use Rattle.cycle_rows.specs.declared.rows.JournalRow.{JournalRow}
use Rattle.cycle_rows.specs.declared.rows.JournalRow.TheVariants.{Occupy, Deliver, Missed, Sent, Refused, Lost, Came}
use Rattle.cycle_rows.specs.Apart.{AreRowsApart}
use Rattle.cycle_rows.specs.Rows.{cycle_of}

-- in a cycle, a stretch of true time that a sender's port leaves to parcels
pub record IsFreeIn (plant : Plant) (bundles : List Bundle) (world : List WorldRow) (k device port : ℕ) (from until : ℤ) : Type 0 where
  pub free : IsFree plant bundles world device port from until
  pub cycle : free.cycle ≡ k

-- a row of a parcel, which is sent in such a stretch
abbrev pub IsParcelRow : Plant → List Bundle → List WorldRow → JournalRow → Type 0
IsParcelRow plant bundles world (Occupy k d p f start end) = ⊥
IsParcelRow plant bundles world (Deliver k d f end) = ⊥
IsParcelRow plant bundles world (Missed k d f) = ⊥
IsParcelRow plant bundles world (Sent k d p traffic serial start end) = IsFreeIn plant bundles world k d.0 p.0 start end
IsParcelRow plant bundles world (Refused k d p traffic serial) = ⊤
IsParcelRow plant bundles world (Lost k d p traffic serial) = ⊤
IsParcelRow plant bundles world (Came k d traffic serial) = ⊤

-- rows of the parcels of a cycle, which do not meet each other
pub record AreParcelRows (plant : Plant) (bundles : List Bundle) (world : List WorldRow) (k : ℕ) (rows : List JournalRow) : Type 0 where
  pub cycle : All (λ (r : JournalRow). cycle_of r ≡ k) rows
  pub each : All (IsParcelRow plant bundles world) rows
  pub apart : AreRowsApart rows
