use Rattle.std.proofs.Common.{◌≡◌, ◌∙◌, ◌<◌, ◌^◌, rules, ap, sym, subst, length}
use Rattle.std.proofs.lemmas.Option.{get_or_from_slice_get}
use Rattle.std.specs.Prelude.{Some, slice_get}
use Rattle.iso_run.specs.Apps.{with_input}
use Rattle.iso_run.specs.Ends.{EndView}
use Rattle.iso_run.specs.declared.apps.LockstepApp.{LockstepApp}
use Rattle.iso_run.proofs.Places.{below_all, below_more, ready_here}
use Rattle.iso_run.proofs.turns.show_all.Goals as goal

pub show-requires-clause-words : goal.show-requires-clause-words
show-requires-clause-words g c =
    let (ready, room, fit) = ready_here _ c.loop-index.index c.args.apps.now c.loop-index.apps c.args.ends.now.ends.items c.index-apps-index.result c.index.result.now
    c.requires c.loop-index.invariant (search rules) c.index-apps-index.is c.index.ensures in
    fit.image ∙ sym ready.input ∙ ap (λ (b : LockstepApp g.row.A.Denot). length b.input.newest_words) c.index-apps-index.is

pub show-requires-clause-room : goal.show-requires-clause-room
show-requires-clause-room g c =
    let (ready, room, fit) = ready_here _ c.loop-index.index c.args.apps.now c.loop-index.apps c.args.ends.now.ends.items c.index-apps-index.result c.index.result.now
    c.requires c.loop-index.invariant (search rules) c.index-apps-index.is c.index.ensures in
    subst (λ (b : LockstepApp g.row.A.Denot). b.input.newest < 2 ^ 60) c.index-apps-index.is room

pub loop-index-preserved : goal.loop-index-preserved
loop-index-preserved g c =
    let is = c.index-apps-index.is in
    below_more (λ n a b. (e : EndView) → slice_get c.args.ends.now.ends.items n ≡ Some e → b ≡ with_input e.image a) c.loop-index.index
    c.args.apps.now c.loop-index.apps c.index-apps-index.result c.show.new.self c.loop-index.invariant (search rules) is
    (λ first e at. c.show.ensures
    ∙ ap (with_input c.index.result.now.image) (sym is)
    ∙ ap (λ (end : EndView). with_input end.image c.index-apps-index.result)
    (c.index.ensures ∙ get_or_from_slice_get c.args.ends.now.ends.items c.loop-index.index e c.index.result.now at))

pub returns : goal.returns
returns g c = below_all _ c.loop-index.index _ _ c.loop-index.invariant (search rules)
