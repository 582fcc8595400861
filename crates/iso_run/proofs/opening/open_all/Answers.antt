use Rattle.std.proofs.Common.{◌≡◌, ◌∙◌, ◌+◌, ◌<◌, ap, arith, length, map, rules, slice_get, sym, take, zip}
use Rattle.std.proofs.lemmas.List.{length_push}
use Rattle.std.specs.Vec.Iter.{into_iter_items}
use Rattle.irt_base.specs.declared.plants.App.{App}
use Rattle.plan_rules.proofs.Held.{some_at}
use Rattle.plan_rules.specs.Plan.{setup_of}
use Rattle.iso_run.specs.Opened.{opened_app, opened_end}
use Rattle.iso_run.proofs.OpenedApps.{opened_all, opened_next, rest_next}
use Rattle.iso_run.proofs.opening.open_all.Goals as goal

pub loop-app-preserved : goal.loop-app-preserved
loop-app-preserved g c =
    let i = c.loop-app.invariant in
    let plant = c.args.accepted.now.plant in
    let setup = setup_of plant c.args.accepted.now.bundles in
    let k = length c.loop-app.opened.items in
    let next = c.in-Some.ensures.steps.0 in
    let pushed = c.in_ok-push.ensures.items in
    let more : length c.push.new.self.items ≡ k + 1 = ap (λ l. length l) pushed ∙ length_push c.loop-app.opened.items c.in_ok-app.app in
    let (rest, within) = rest_next c.args.apps (into_iter_items c.loop-app.app-iterator) (into_iter_items c.next.new.self) k (length c.push.new.self.items)
    c.in-Some.app next i.rest more in
    let count = c.requires.apps in
    let there : k < length plant.apps = omega (arith, within, more, count) in
    let (x, is) = some_at plant.apps k there in
    let number : c.len-in-loop-app.result ≡ k = search rules in
    let at = ap (λ m. slice_get plant.apps m) number ∙ is in
    record {
      within = within;
      left = (let l = ap (λ l. length l) next in let q = i.left in omega arith);
      rest = rest;
      apps =
          opened_next (λ (p : App × g.row.A.Denot). opened_app setup p.0.device.0 p.1) plant.apps c.args.apps _ k x c.in-Some.app c.loop-app.opened.items
          c.push.new.self.items c.in_ok-app.app is (sym next ∙ i.rest) i.apps pushed (c.in_ok-app.ensures.app x at)
          ∙ ap (λ m. map (λ (p : App × g.row.A.Denot). opened_app setup p.0.device.0 p.1) (take m (zip plant.apps c.args.apps))) (sym more);
      ends =
          opened_next (λ (p : App × g.row.A.Denot). opened_end setup p.0.device.0) plant.apps c.args.apps _ k x c.in-Some.app c.loop-app.ends.items
          c.push-in-loop-app.new.self.items c.in_ok-app.end is (sym next ∙ i.rest) i.ends c.in_ok-push-2.ensures.items (c.in_ok-app.ensures.end x at)
          ∙ ap (λ m. map (λ (p : App × g.row.A.Denot). opened_end setup p.0.device.0) (take m (zip plant.apps c.args.apps))) (sym more);
    }

pub returns : goal.returns
returns g c =
    let i = c.loop-app.invariant in
    let none = ap (λ l. length l) (sym i.rest) ∙ sym i.left ∙ c.in-None.ensures.steps.0 in
    record {
      count = c.requires.apps;
      apps = opened_all _ c.args.accepted.now.plant.apps c.args.apps (length c.loop-app.opened.items) c.loop-app.opened.items c.requires.apps none i.apps;
      ends = opened_all _ c.args.accepted.now.plant.apps c.args.apps (length c.loop-app.opened.items) c.loop-app.ends.items c.requires.apps none i.ends;
    }
