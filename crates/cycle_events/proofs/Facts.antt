-- What the laws of accepted plans say of one cycle.
use Rattle.std.proofs.Common.{◌≡◌, ℕ, List, Some}
use Rattle.irt_base.specs.declared.blocks.Entry.{Entry}
use Rattle.plan_rules.specs.Arrival.{Arrival, IsArrival}
use Rattle.plan_rules.specs.Network.{EntriesAreDemanded, EntriesAreAlike, MeetsArrivals, DeliversArrivals, IsSentOn}
use Rattle.plan_rules.specs.Once.{StartsOnce}
use Rattle.plan_rules.specs.Way.{entry_at, Leaves, IsParent}
use Rattle.plan_rules.specs.World.{WorldRow, IsInStep}
use Rattle.cycle_events.specs.Events.{Play}

pub record Facts (play : Play) : Type 0 where
  pub entries : EntriesAreDemanded play.setup
  pub alike : EntriesAreAlike play.setup
  pub starts : StartsOnce play.setup play.row play.cycle
  pub met : MeetsArrivals play.setup
  pub delivered : (world : List WorldRow) → DeliversArrivals play.setup world
  pub sent_on : (from : Entry) (a : Arrival) (e : Entry) (port : ℕ) → IsArrival play.setup play.row from a →
      IsInStep play.setup.plant play.row a.device → entry_at play.setup a.device a.frame ≡ Some e → Leaves e port → IsSentOn play.setup play.row a e port
  pub parents : (frame device : ℕ) (e : Entry) (u p v q : ℕ) → IsParent play.setup frame device e u p → IsParent play.setup frame device e v q → (u ≡ v) × (p ≡ q)
