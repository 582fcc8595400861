use Rattle.std.proofs.Common.{◌≡◌, ◌∙◌, rules, ap, sym}
use Rattle.std.specs.Prelude.{Some, slice_get}
use Rattle.iso_run.specs.Apps.{with_offer}
use Rattle.iso_run.specs.Ends.{offered_from}
use Rattle.iso_run.specs.declared.apps.LockstepApp.{LockstepApp}
use Rattle.iso_run.proofs.Places.{below_all, below_more, stands}
use Rattle.iso_run.proofs.turns.offer_all.Goals as goal

pub loop-index-preserved : goal.loop-index-preserved
loop-index-preserved g c =
    let i = c.loop-index.invariant in
    let count = c.requires.count in
    let app = c.index-apps-index.result in
    let is = c.index-apps-index.is in
    record {
      apps = below_more (λ n a b. b ≡ with_offer a) c.loop-index.index c.args.apps.now c.loop-index.apps app c.offer.new.self i.apps (search rules) is
          (λ first. c.offer.ensures.app ∙ ap with_offer (sym is));
      ends = below_more (λ n e f. (a : LockstepApp g.row.A.Denot) → slice_get c.args.apps.now n ≡ Some a → f ≡ offered_from a.output e)
          c.loop-index.index c.args.ends.now.ends.items c.loop-index.ends.ends.items c.index_mut.result.now c.offer.new.end i.ends (search rules)
          c.index_mut.ensures.value
          (λ first a at. c.offer.ensures.end
          ∙ ap (λ (b : LockstepApp g.row.A.Denot). offered_from b.output c.index_mut.result.now)
          (stands (λ n a b. b ≡ with_offer a) c.loop-index.index c.args.apps.now c.loop-index.apps a app i.apps at));
    }

pub returns-clause-apps : goal.returns-clause-apps
returns-clause-apps g c = below_all _ c.loop-index.index _ _ c.loop-index.invariant.apps (search rules)

pub returns-clause-ends : goal.returns-clause-ends
returns-clause-ends g c = below_all _ c.loop-index.index _ _ c.loop-index.invariant.ends (search rules)
