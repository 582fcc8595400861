-- A plan and what is looked up in it.
use Rattle.std.specs.Prelude.{◌≡◌, ℕ, ◌≤◌, List, Option, Some, None, length, slice_get}
use Rattle.irt_base.specs.declared.limits.TheConstants.{MAX_DEVICES, MAX_DEMANDS}
use Rattle.irt_base.specs.Wiring.{peer_of}
use Rattle.irt_base.specs.declared.blocks.Bundle.{Bundle}
use Rattle.irt_base.specs.declared.blocks.Entry.{Entry}
use Rattle.irt_base.specs.declared.plants.Plant.{Plant}
use Rattle.plan_rules.specs.Way.{Setup, entry_at}
use Rattle.link_index.specs.Index.{IsIndexOf}
use Rattle.plan_rules.specs.Plan.{setup_of, IsPlan}
use Rattle.irt_window.specs.Demands.{AreNumbers}
use Rattle.irt_window.specs.declared.net.Net.{Net}

-- the plan as a setup
abbrev pub setup_in : Net → Setup
setup_in net = setup_of net.plant.now net.bundles.now

-- each end of a link is the other's peer
abbrev pub AreMutual : Plant → Type 0
AreMutual plant = (d p v q : ℕ) →
    peer_of plant d p ≡ Some (record { 0 = v }, record { 0 = q }) → peer_of plant v q ≡ Some (record { 0 = d }, record { 0 = p })

-- a plan with the tables of its links and demands
pub record IsNet (net : Net) : Type 0 where
  pub plan : IsPlan net.plant.now net.bundles.now
  pub links : IsIndexOf net.plant.now net.links.now
  pub numbers : AreNumbers net.plant.now net.numbers.now
  pub both_ways : AreMutual net.plant.now

-- the entry stands at this place in its device's block
pub record Stands (bundles : List Bundle) (device n : ℕ) (e : Entry) : Type 0 where
  pub bundle : Bundle
  pub held : slice_get bundles device ≡ Some bundle
  pub item : slice_get bundle.frames.entries n ≡ Some e

-- The place of a frame's entry at a device, or none where it has none.
abbrev pub IsEntryAt : Net → ℕ → ℕ → Option ℕ → Type 0
IsEntryAt net device frame None = entry_at (setup_in net) device frame ≡ None
IsEntryAt net device frame (Some n) =
    (e : Entry) × Stands net.bundles.now device n e × (entry_at (setup_in net) device frame ≡ Some e) × (e.frame.0 ≡ frame)

-- So many bundles, with so many entries each, that their sum is small.
pub record AreFew (bundles : List Bundle) : Type 0 where
  pub bundles_few : length bundles ≤ MAX_DEVICES
  pub entries_few : (device : ℕ) (b : Bundle) → slice_get bundles device ≡ Some b → length b.frames.entries ≤ MAX_DEMANDS
