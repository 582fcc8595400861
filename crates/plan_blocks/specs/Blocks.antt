-- The last ends of placed frames.
use Rattle.std.specs.Prelude.{ℕ, List}
use Rattle.irt_base.specs.declared.plants.Plant.{Plant}
use Rattle.fit_rules.specs.Blocks.{IsGreatest, IsSentEnd, IsReceivedEnd}
use Rattle.fit_rules.specs.declared.frame_plan.FramePlan.{FramePlan}
use Rattle.placement.specs.Tables.{IsPlace}
use Rattle.plan_blocks.specs.Ends.{end_at}

-- what is sent, and what is received
pub record AreLastEnds (plant : Plant) (plans : List FramePlan) (tx rx : List ℕ) : Type 0 where
  pub sent : (device port k : ℕ) → IsPlace device port k → IsGreatest (IsSentEnd plant plans device port k) (end_at tx device port k)
  pub received : (device port k : ℕ) → IsPlace device port k → IsGreatest (IsReceivedEnd plant plans device port k) (end_at rx device port k)
