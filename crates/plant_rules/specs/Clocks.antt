-- How far a device is from device 0, in links.
use Rattle.std.specs.Prelude.{◌≡◌, ℕ, zero, suc, ◌≤◌, ◌⊎◌, Contains}
use Rattle.irt_base.specs.Cycle.{budget_time}
use Rattle.irt_base.specs.declared.plants.Link.{Link}
use Rattle.irt_base.specs.declared.plants.SyncPlan.{SyncPlan}
use Rattle.irt_base.specs.declared.plants.Plant.{Plant}

-- the link leads from one device to the other, either way
abbrev pub Leads : ℕ → ℕ → Link → Type 0
Leads from to link = ((link.a.0 ≡ from) × (link.b.0 ≡ to)) ⊎ ((link.b.0 ≡ from) × (link.a.0 ≡ to))

-- there is a walk of so many links from device 0 to the device
abbrev pub IsClockWalk : Plant → ℕ → ℕ → Type 0
IsClockWalk p zero device = device ≡ 0
IsClockWalk p (suc links) device =
    (before : ℕ) × IsClockWalk p links before × ((link : Link) × Contains p.links link × Leads before device link)

-- the links of a shortest walk from device 0
pub record IsDistance (p : Plant) (device links : ℕ) : Type 0 where
  pub walk : IsClockWalk p links device
  pub shortest : (fewer : ℕ) → IsClockWalk p fewer device → links ≤ fewer

-- by how much a clock that follows over so many links may be off
abbrev pub clock_budget : SyncPlan → ℕ → ℕ
clock_budget sync hops = budget_time hops sync.stamp sync.drift sync.send sync.timeout

-- a clock follows device 0 within the window
pub record HasClock (p : Plant) (device : ℕ) : Type 0 where
  pub hops : ℕ
  pub distance : IsDistance p device hops
  pub budget : clock_budget p.sync hops ≤ p.window
