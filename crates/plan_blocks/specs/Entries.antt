-- The entries of a device.
use Rattle.std.specs.Prelude.{◌≡◌, ℕ, ◌<◌, List, AllPairs, Contains, Some}
use Rattle.std.specs.List.{filter_map}
use Rattle.irt_base.specs.declared.blocks.Entry.{Entry}
use Rattle.fit_rules.specs.declared.frame_plan.FramePlan.{FramePlan}
use Rattle.fit_rules.specs.Shape.{entry_of}

-- in the order of the plans
abbrev pub entries_at : List FramePlan → ℕ → List Entry
entries_at plans device = filter_map (λ (plan : FramePlan). entry_of plan device) plans

-- plans by ascending FrameID, which their entries repeat
pub record AreByFrame (plans : List FramePlan) : Type 0 where
  pub ascending : AllPairs (λ (a b : FramePlan). a.frame.0 < b.frame.0) plans
  pub named : (plan : FramePlan) (device : ℕ) (e : Entry) → Contains plans plan → entry_of plan device ≡ Some e → e.frame ≡ plan.frame
