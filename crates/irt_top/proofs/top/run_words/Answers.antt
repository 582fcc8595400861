use Rattle.std.proofs.Common.{sym, subst}
use Rattle.irt_words.specs.Asked.{texts_of}
use Rattle.irt_top.specs.Commands.{HasRanges}
use Rattle.irt_top.proofs.RangeLemmas.{asked_ranged}
use Rattle.irt_top.proofs.top.run_words.Goals as goal

pub run_asked-requires : goal.run_asked-requires
run_asked-requires g c = (c.type_bounds.sync-R, subst HasRanges (sym c.in-Ok.ensures) (asked_ranged (texts_of c.args.words.now)))
