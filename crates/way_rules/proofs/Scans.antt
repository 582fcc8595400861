-- Steps of scans, for any rule.
use Rattle.std.proofs.Common.{◌≡◌, ◌<◌, ◌≤◌, ℕ, None, refl, sym, subst, arith, inl, inr}
use Rattle.std.proofs.lemmas.Bool.{cases_lt}
use Rattle.plan_rules.specs.Places.{IsScanOf, IsOf}
use Rattle.plan_rules.specs.declared.place.Place.{Place}
use Rattle.way_rules.specs.Scan.{AtFrame}

-- the rule holds at the devices before this one
abbrev pub HoldsBefore : (Place → Type 0) → ℕ → Type 0
HoldsBefore Holds device = (at : Place) → at.device.0 < device → Holds at

-- the rule holds at the device's ports before this one
abbrev pub HoldsBelow : (Place → Type 0) → ℕ → ℕ → Type 0
HoldsBelow Holds device port = (at : Place) → at.device.0 ≡ device → at.port < port → Holds at

-- the rule holds at all ports of a device
pub below_end : (Holds : Place → Type 0) (device n : ℕ) → HoldsBelow Holds device n
    → ((at : Place) → at.device.0 ≡ device → n ≤ at.port → Holds at) → IsScanOf (IsOf device) Holds None
below_end Holds device n below past at of =
    elim (cases_lt at.port n) [ inl l ↦ below at of l | inr ge ↦ past at of ge ]

pub below_all : (device ports n : ℕ) (Holds : ℕ → ℕ → ℕ → Type 0)
    → ((port frame : ℕ) → ports ≤ port → Holds device 0 frame → Holds device port frame) → 1 ≤ ports → ports ≤ n
    → HoldsBelow (AtFrame Holds) device n → IsScanOf (IsOf device) (AtFrame Holds) None
below_all device ports n Holds later some past below =
    below_end (AtFrame Holds) device n below
    (λ at of ge.
    let zero : Holds device 0 at.frame = below (record { device = record { 0 = device }; port = 0; frame = at.frame; other = 0 }) refl (omega arith) in
    subst (λ (k : ℕ). Holds k at.port at.frame) (sym of) (later at.port at.frame (omega arith) zero))
