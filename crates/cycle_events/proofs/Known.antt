-- The laws below, put together for one cycle of an accepted plan.
use Rattle.std.proofs.Common.{◌≡◌, ℕ, List}
use Rattle.irt_base.specs.declared.blocks.Bundle.{Bundle}
use Rattle.irt_base.specs.declared.blocks.Entry.{Entry}
use Rattle.irt_base.specs.declared.plants.Plant.{Plant}
use Rattle.plant_rules.specs.Meets.{MeetsRules}
use Rattle.plan_rules.specs.Network.{EntriesAreDemanded, EntriesAreAlike, MeetsArrivals, SendsOn, DeliversArrivals, ForAccepted}
use Rattle.plan_rules.specs.Once.{StartsOnce}
use Rattle.plan_rules.specs.Places.{IsAccepted}
use Rattle.plan_rules.specs.Plan.{IsPlan, setup_of}
use Rattle.plan_rules.specs.Way.{Setup, IsParent, IsInRange}
use Rattle.plan_rules.specs.World.{WorldRow}
use Rattle.cycle_events.specs.Run.{play_of}
use Rattle.cycle_events.proofs.Facts.{Facts}

-- what the laws of plans promise
pub record Laws : Type 0 where
  pub entries : ForAccepted EntriesAreDemanded
  pub alike : ForAccepted EntriesAreAlike
  pub starts : ForAccepted (λ setup. (row : WorldRow) (k : ℕ) → StartsOnce setup row k)
  pub met : ForAccepted MeetsArrivals
  pub sent_on : ForAccepted SendsOn
  pub delivered : ForAccepted (λ setup. (world : List WorldRow) → DeliversArrivals setup world)
  pub parents : (setup : Setup) → MeetsRules setup.plant → (frame device : ℕ) (e : Entry) (u p v q : ℕ) →
      IsParent setup frame device e u p → IsParent setup frame device e v q → (u ≡ v) × (p ≡ q)

pub facts_of : Laws → (plant : Plant) (bundles : List Bundle) → IsPlan plant bundles → IsAccepted plant bundles → (row : WorldRow) → IsInRange (setup_of plant bundles) row → (k : ℕ) →
    Facts (play_of plant bundles row k)
facts_of laws plant bundles plan accepted row range k = record {
  entries = laws.entries plant bundles plan accepted;
  alike = laws.alike plant bundles plan accepted;
  starts = laws.starts plant bundles plan accepted row k;
  met = laws.met plant bundles plan accepted;
  delivered = laws.delivered plant bundles plan accepted;
  sent_on = laws.sent_on plant bundles plan accepted row range;
  parents = laws.parents (setup_of plant bundles) plan.rules;
}
