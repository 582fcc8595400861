-- Frames have the lengths that are demanded.
use Rattle.std.proofs.Common.{◌≡◌, ℕ, List, Option, Some, None, inl, refl}
use Rattle.std.specs.Prelude.{IsSome}
use Rattle.irt_base.specs.declared.blocks.Bundle.{Bundle}
use Rattle.irt_base.specs.declared.blocks.Entry.{Entry}
use Rattle.irt_base.specs.declared.plants.Demand.{Demand}
use Rattle.irt_base.specs.declared.plants.Plant.{Plant}
use Rattle.plan_rules.specs.Frames.{IsTreeAt, AgreesWithDemand}
use Rattle.plan_rules.specs.Places.{IsAccepted, place_of}
use Rattle.plan_rules.specs.Plan.{setup_of}
use Rattle.plan_rules.specs.Tree.{demand_of}
use Rattle.plan_rules.specs.Way.{entry_at}

some_of : {A : Type 0} (o : Option A) → IsSome o → (x : A) × (o ≡ Some x)
some_of None is = absurd (cc)
some_of (Some x) is = (x, refl)

pub demanded_length : (plant : Plant) (bundles : List Bundle) → IsAccepted plant bundles → (device frame : ℕ) (demand : Demand) (e : Entry) →
    demand_of plant frame ≡ Some demand → entry_at (setup_of plant bundles) device frame ≡ Some e → e.data_length ≡ demand.length
demanded_length plant bundles accepted device frame demand e demanded at =
    let tree : IsTreeAt plant bundles (place_of demand.provider.0 0 frame) = accepted 2 (place_of demand.provider.0 0 frame) in
    let (own, stands) = some_of (entry_at (setup_of plant bundles) demand.provider.0 frame) (tree.present demand demanded (inl refl)) in
    let agrees : AgreesWithDemand plant bundles (place_of device 0 frame) = accepted 3 (place_of device 0 frame) in
    (agrees demand own e demanded stands at).length
