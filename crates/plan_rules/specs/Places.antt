-- Where rules fail, which failure comes first, and which plans are accepted.
use Rattle.std.specs.Prelude.{◌≡◌, ℕ, ◌<◌, ◌⊎◌, List, Option, Some, None}
use Rattle.irt_base.specs.declared.blocks.Bundle.{Bundle}
use Rattle.irt_base.specs.declared.plants.Plant.{Plant}
use Rattle.plan_rules.specs.Rules.{KeepsRule}
use Rattle.plan_rules.specs.declared.place.Place.{Place}
use Rattle.plan_rules.specs.declared.place.Reject.{Reject}

-- a place without another frame: a device, one of its ports, a frame
abbrev pub place_of : ℕ → ℕ → ℕ → Place
place_of device port frame = record { device = record { 0 = device }; port = port; frame = frame; other = 0 }

-- the places of a device, and those at one of its ports
abbrev pub IsOf : ℕ → Place → Type 0
IsOf device at = at.device.0 ≡ device

abbrev pub IsAt : ℕ → ℕ → Place → Type 0
IsAt device port at = (at.device.0 ≡ device) × (at.port ≡ port)

-- by device, then port, then frame, then the other frame
abbrev pub IsLess : Place → Place → Type 0
IsLess a b = (a.device.0 < b.device.0) ⊎ ((a.device.0 ≡ b.device.0) × ((a.port < b.port) ⊎
    ((a.port ≡ b.port) × ((a.frame < b.frame) ⊎ ((a.frame ≡ b.frame) × (a.other < b.other))))))

-- A rule fails at a place and at none before it. So what the rule does not name is 0.
pub record IsLeastBreak (Holds : Place → Type 0) (at : Place) : Type 0 where
  pub breaks : ¬ Holds at
  pub least : (before : Place) → IsLess before at → Holds before

-- What the scan of a rule answers: nothing where it holds everywhere, else the least place at which it fails.
abbrev pub IsScan : (Place → Type 0) → Option Place → Type 0
IsScan Holds None = (at : Place) → Holds at
IsScan Holds (Some at) = IsLeastBreak Holds at

-- A rule fails at a place of a part, as a device's, and at none of the part before it.
pub record IsLeastOf (IsIn Holds : Place → Type 0) (at : Place) : Type 0 where
  pub within : IsIn at
  pub breaks : ¬ Holds at
  pub least : (before : Place) → IsIn before → IsLess before at → Holds before

-- What the scan of a part answers: nothing where the rule holds in all of it, else the least place at which it fails.
abbrev pub IsScanOf : (Place → Type 0) → (Place → Type 0) → Option Place → Type 0
IsScanOf IsIn Holds None = (at : Place) → IsIn at → Holds at
IsScanOf IsIn Holds (Some at) = IsLeastOf IsIn Holds at

-- The rules below a number hold everywhere.
abbrev pub KeepsBelow : Plant → List Bundle → ℕ → Type 0
KeepsBelow plant bundles next = (number : ℕ) (at : Place) → number < next → KeepsRule plant bundles number at

-- All rules hold everywhere.
abbrev pub IsAccepted : Plant → List Bundle → Type 0
IsAccepted plant bundles = (number : ℕ) (at : Place) → KeepsRule plant bundles number at

-- The first rule that fails, with its least place.
pub record IsReject (plant : Plant) (bundles : List Bundle) (r : Reject) : Type 0 where
  pub fails : IsLeastBreak (KeepsRule plant bundles r.rule) r.place
  pub first : KeepsBelow plant bundles r.rule
