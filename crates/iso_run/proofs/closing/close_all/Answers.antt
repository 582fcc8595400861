use Rattle.std.proofs.Common.{◌≡◌, ◌∙◌, ◌+◌, ap, arith, length, map, refl, rules, slice_get, sym, take, zip, Some}
use Rattle.std.proofs.lemmas.List.{length_push, length-set}
use Rattle.std.proofs.lemmas.Option.{slice_get_read}
use Rattle.std.specs.Vec.Iter.{into_iter_items}
use Rattle.iso_plant.specs.History.{AppCycles}
use Rattle.iso_run.specs.Logs.{log_from}
use Rattle.iso_run.specs.declared.apps.LockstepApp.{LockstepApp}
use Rattle.iso_run.proofs.OpenedApps.{opened_all, opened_next, others_stay, rest_next}
use Rattle.iso_run.proofs.closing.close_all.Goals as goal

pub loop-history-preserved : goal.loop-history-preserved
loop-history-preserved g c =
    let i = c.loop-history.invariant in
    let k = length c.loop-history.records in
    let next = c.in-Some.ensures.steps.0 in
    let pushed = c.in_ok-push.ensures.ok in
    let more : length c.push.new.self ≡ k + 1 = ap (λ l. length l) pushed ∙ length_push c.loop-history.records c.close_app.result in
    let (rest, within) = rest_next c.args.histories (into_iter_items c.loop-history.history-iterator) (into_iter_items c.next.new.self) k (length c.push.new.self)
    c.in-Some.history next i.rest more in
    let number : c.len-in-loop-history.result ≡ k = search rules in
    let counted = i.count in
    let count = c.requires in
    let app = c.index_mut-app.result.now in
    let at : slice_get c.args.apps.items k ≡ Some app =
    sym (i.same k (omega arith)) ∙ ap (slice_get c.loop-history.apps.items) (sym number)
    ∙ slice_get_read c.loop-history.apps.items (length c.loop-history.apps.items) c.len-in-loop-history.result app refl
    (omega (arith, within, more, number, counted, count)) c.index_mut-app.ensures.value in
    record {
      within = within;
      left = (let l = ap (λ l. length l) next in let q = i.left in omega arith);
      rest = rest;
      count = length-set c.loop-history.apps.items c.len-in-loop-history.result c.close_app.new.app ∙ counted;
      same = others_stay c.args.apps.items c.loop-history.apps.items k (length c.push.new.self) c.len-in-loop-history.result c.close_app.new.app i.same number more;
      records =
          opened_next (λ (p : LockstepApp g.row.A.Denot × AppCycles). log_from p.0 p.1) c.args.apps.items c.args.histories _ k app c.in-Some.history
          c.loop-history.records c.push.new.self c.close_app.result at (sym next ∙ i.rest) i.records pushed c.close_app.ensures
          ∙ ap (λ m. map (λ (p : LockstepApp g.row.A.Denot × AppCycles). log_from p.0 p.1) (take m (zip c.args.apps.items c.args.histories))) (sym more);
    }

pub returns : goal.returns
returns g c =
    let i = c.loop-history.invariant in
    opened_all _ c.args.apps.items c.args.histories (length c.loop-history.records) c.loop-history.records c.requires
    (ap (λ l. length l) (sym i.rest) ∙ sym i.left ∙ c.in-None.ensures.steps.0) i.records
