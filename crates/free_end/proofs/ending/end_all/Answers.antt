use Rattle.std.proofs.Common.{◌<◌, sym, subst, ℕ, List, [], length, get_or}
use Rattle.iso_rules.specs.declared.turn.Turn.{Turn}
use Rattle.free_end.specs.Ended.{HasLegalLog}
use Rattle.free_end.proofs.ending.end_all.Goals as goal

pub returns-in-Ok-clause-each : goal.returns-in-Ok-clause-each
returns-in-Ok-clause-each g c =
    subst (λ (all : List (List Turn)). (app : ℕ) → app < length all → HasLegalLog g.A.IsoApp.reply g.A.IsoApp.next_state g.N.Firsts.firsts c.args.plant.now app (get_or all app []))
    (sym c.from_vec.ensures) c.end_into.ensures.each
