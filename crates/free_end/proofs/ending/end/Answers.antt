use Rattle.std.proofs.Common.{sym, subst, ℕ, List}
use Rattle.iso_rules.specs.declared.turn.Turn.{Turn}
use Rattle.free_end.specs.Closed.{IsClosed}
use Rattle.free_end.specs.Ended.{HasLegalLog}
use Rattle.free_end.proofs.Logs.{legal_log}
use Rattle.free_end.proofs.ending.end.Goals as goal

pub returns : goal.returns
returns g c =
    subst (λ (ts : List Turn). HasLegalLog g.A.IsoApp.reply g.A.IsoApp.next_state g.N.Firsts.firsts c.args._plant.now c.args.wire ts) (sym c.close.ensures.turns)
    (legal_log g.A.IsoApp.reply g.A.IsoApp.next_state g.N.Firsts.firsts g.N.Naming.start c.args._plant.now c.args.wire c.args.port c.args.job.turns c.requires.ended c.requires.tied
    (subst (λ (n : ℕ). IsClosed g.A.IsoApp.reply g.A.IsoApp.next_state g.N.Firsts.firsts g.N.Naming.start c.args.wire n c.args.port c.args.job.turns) c.requires.found c.close.ensures.closed))
