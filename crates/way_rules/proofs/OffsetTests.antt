-- What V4 and V5 mean at an entry.
use Rattle.std.proofs.Common.{◌≤◌, ℕ, List, ap, arith}
use Rattle.irt_base.specs.declared.blocks.Bundle.{Bundle}
use Rattle.irt_base.specs.declared.blocks.Entry.{Entry}
use Rattle.irt_base.specs.declared.plants.Plant.{Plant}
use Rattle.plan_rules.specs.Places.{place_of}
use Rattle.plan_rules.specs.Way.{IsAbsolute}
use Rattle.plan_rules.specs.Plan.{setup_of}
use Rattle.plan_rules.specs.Frames.{ForwardsLateEnough}
use Rattle.plan_rules.specs.declared.way.Way.{Way}
use Rattle.way_rules.specs.Fits.{StartsLate, LeavesSome}
use Rattle.way_rules.specs.Placed.{IsPlaced}
use Rattle.way_rules.proofs.OneWay.{OneParent, OneWindow, one_entry, forwarded, coming}

pub forwards-from : (plant : Plant) (bundles : List Bundle) (device port : ℕ) (e : Entry) (way : Way) → OneParent (setup_of plant bundles)
    → OneWindow (setup_of plant bundles) → IsPlaced plant bundles device e way → StartsLate plant device e way
    → ForwardsLateEnough plant bundles (place_of device port e.frame.0)
forwards-from plant bundles device port e way parents windows p test x hop window d comes own leaves is =
    let same = one_entry plant bundles device e x way p comes.stands in
    let (_, latest) = coming plant bundles device e way parents windows p x hop window comes in
    omega (arith, test d is, latest, ap (λ (y : Entry). y.send_offset) same)

pub starts_late-from : (plant : Plant) (bundles : List Bundle) (device port : ℕ) (e : Entry) (way : Way) → IsPlaced plant bundles device e way
    → 1 ≤ e.rx_port → IsAbsolute plant device → LeavesSome e → ForwardsLateEnough plant bundles (place_of device port e.frame.0)
    → StartsLate plant device e way
starts_late-from plant bundles device port e way p received own leaves holds d is =
    let f = forwarded plant bundles device e way p received in
    omega (arith, holds e f.hop f.window d f.comes own leaves is, f.latest)
