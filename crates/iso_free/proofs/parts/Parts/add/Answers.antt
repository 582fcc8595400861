use Rattle.std.proofs.Common.{◌∙◌, ap, length}
use Rattle.std.proofs.lemmas.List.{length-append}
use Rattle.iso_free.proofs.Begin.{begun_more}
use Rattle.iso_free.proofs.parts.Parts.add.Goals as goal

pub returns-clause-begun : goal.returns-clause-begun
returns-clause-begun g c =
    let r = c.requires in
    begun_more g.N.Naming.start _ _ _ _ _ _ _ _ c.args.parts.wire c.args.parts.port c.args.parts.buffer c.args.parts.job r.begun
    c.in_ok-push.ensures.items c.in_ok-push-2.ensures.items c.in_ok-push-3.ensures.items c.in_ok-push-4.ensures.items r.wire r.port r.buffer r.job

pub returns-clause-more : goal.returns-clause-more
returns-clause-more g c = ap (λ l. length l) c.in_ok-push.ensures.items ∙ length-append _ _
