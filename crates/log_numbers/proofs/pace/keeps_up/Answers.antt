use Rattle.log_numbers.proofs.Keeping.{keeps_up_by_parts}
use Rattle.log_numbers.proofs.pace.keeps_up.Goals as goal
use Rattle.log_numbers.proofs.pace.keeps_up.Goals.{then-find_all, else-find_all}

pub returns-then-take_newest : goal.returns-then-take_newest
returns-then-take_newest c = elim c.if-find_all.branch [
  | then-find_all w ↦
      keeps_up_by_parts c.args.cycles c.args.log.now c.are_taken_near.result c.takes.result.now c.turns-turns.result.now
      c.takes.ensures c.turns-turns.ensures
      (c.find_all.ensures.0 w.if-find_all.true) (w.take_newest.ensures.0 (cc)) c.are_taken_near.ensures
  | else-find_all w ↦ absurd (cc)
]
