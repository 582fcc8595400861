use Rattle.std.proofs.Common.{◌≡◌, ◌++◌, drop}
use Rattle.plan_schedule.specs.Text.{plan_text}
use Rattle.plan_schedule.proofs.text.plan_text.Given as goal

-- what is there and what is still to come are the whole text
abbrev pub invariant-loop-schedule : goal.invariant-loop-schedule
invariant-loop-schedule l = l.text.items ++ plan_text (drop l.schedule-index l.schedules) l.red ≡ plan_text l.schedules l.red
