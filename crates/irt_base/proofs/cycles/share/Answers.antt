use Rattle.std.proofs.lemmas.Bool.{eqb-true, eq-eqb}
use Rattle.irt_base.proofs.CycleLemmas.{shares_test, order_of}
use Rattle.irt_base.proofs.cycles.share.Goals as goal

pub returns : goal.returns
returns c =
    let both = shares_test c.args.r1 c.args.r2 c.args.p1 c.args.p2 c.min-least.result c.requires.first c.requires.second (order_of c.args.r1 c.args.r2) c.min-least.ensures in
    (λ h. both.0 (eqb-true _ _ h), λ h. eq-eqb _ _ (both.1 h))
