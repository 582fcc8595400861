use Rattle.std.proofs.Common.{rules, arith, ◌≡◌, ◌+◌, ◌∙◌, ap, length, refl, sym}
use Rattle.std.specs.Vec.Iter.{into_iter_items}
use Rattle.std.proofs.lemmas.Option.{slice_get_read}
use Rattle.iso_run.proofs.OpenedApps.{rest_next}
use Rattle.run_replay.proofs.Matching.{head_at, images_all, images_differ, images_more}
use Rattle.run_replay.proofs.replay.have_images.Goals as goal

pub returns-then-not-are_same_images : goal.returns-then-not-are_same_images
returns-then-not-are_same_images c =
    let i = c.loop-history.invariant in
    let app = c.loop-history.app in
    let next = c.in-Some.ensures.steps.0 in
    let (rest, within) = rest_next c.args.histories (into_iter_items c.loop-history.history-iterator) (into_iter_items c.next.new.self) app (app + 1)
    c.in-Some.history next i.rest refl in
    let count = c.requires in
    images_differ c.args.histories c.args.logs.now app c.in-Some.history c.index-logs-app.result c.as_slice.result.now c.images-in-loop-history.result.now
    c.are_same_images.result (head_at c.args.histories _ app c.in-Some.history (sym next ∙ i.rest))
    (slice_get_read c.args.logs.now (length c.args.logs.now) app c.index-logs-app.result refl (omega (arith, within, count)) c.index-logs-app.is)
    (c.as_slice.ensures ∙ c.into_lists-images.ensures.images) c.images-in-loop-history.ensures c.are_same_images.ensures c.if-not-are_same_images.true

pub loop-history-preserved : goal.loop-history-preserved
loop-history-preserved c =
    let i = c.loop-history.invariant in
    let app = c.loop-history.app in
    let next = c.in-Some.ensures.steps.0 in
    let (rest, within) = rest_next c.args.histories (into_iter_items c.loop-history.history-iterator) (into_iter_items c.next.new.self) app (app + 1)
    c.in-Some.history next i.rest refl in
    let count = c.requires in
    record {
      within = within;
      left = (let l = ap (λ l. length l) next in let q = i.left in omega arith);
      rest = rest;
      same = images_more c.args.histories c.args.logs.now app c.in-Some.history c.index-logs-app.result
          (head_at c.args.histories _ app c.in-Some.history (sym next ∙ i.rest))
          (slice_get_read c.args.logs.now (length c.args.logs.now) app c.index-logs-app.result refl (omega (arith, within, count)) c.index-logs-app.is)
          (sym (c.as_slice.ensures ∙ c.into_lists-images.ensures.images) ∙ c.are_same_images.ensures.0 c.if-not-are_same_images.false
          ∙ c.images-in-loop-history.ensures)
          i.same;
    }

pub returns : goal.returns
returns c =
    let i = c.loop-history.invariant in
    let none = ap (λ l. length l) (sym i.rest) ∙ sym i.left ∙ c.in-None.ensures.steps.0 in
    (λ holds. images_all c.args.histories c.args.logs.now c.loop-history.app none i.same, λ all. refl)
