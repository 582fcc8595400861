use Rattle.std.proofs.Common.{◌≡◌, ◌∙◌, ◌+◌, ap, arith, length, refl, slice_get, sym, Some}
use Rattle.std.proofs.lemmas.Option.{slice_get_read}
use Rattle.std.specs.Vec.Iter.{into_iter_items}
use Rattle.iso_run.proofs.OpenedApps.{rest_next}
use Rattle.plan_rules.specs.Plan.{setup_of}
use Rattle.run_judge.proofs.EachApp.{all_kept, all_shaped, kept_more, not_all}
use Rattle.run_judge.proofs.apps.are_kept.Goals as goal

pub loop-app-preserved : goal.loop-app-preserved
loop-app-preserved g c =
    let i = c.loop-app.invariant in
    let k = c.loop-app.number in
    let left = c.in-Some.ensures.steps.0 in
    let later = into_iter_items c.next.new.self in
    let (rest, within) = rest_next c.args.apps (into_iter_items c.loop-app.app-iterator) later k (k + 1)
    c.in-Some.app left i.rest refl in
    let many = c.requires.logs in
    let count = c.requires.apps in
    let log = c.index-logs-number.result in
    let at : slice_get c.args.logs.now k ≡ Some log =
    slice_get_read c.args.logs.now _ k log refl (omega (arith, within, many, count)) c.index-logs-number.is in
    let yes = c.if-not-branch.false in
    let setup = setup_of c.args.accepted.now.plant c.args.accepted.now.bundles in
    record {
      within = within;
      left = (let l = ap (λ l. length l) left in let q = i.left in omega arith);
      rest = rest;
      kept =
          kept_more g.A.IsoApp.reply g.A.IsoApp.next_state setup c.args.cycles c.args.apps c.args.logs.now
          k c.in-Some.app later c.device_of-device.result log (sym left ∙ i.rest) at c.device_of-device.ensures.device
          (record { legal = c.in_ok-is_kept.ensures.exact.0 (cc); shape = c.in_ok-is_kept.ensures.shape (cc) }) i.kept;
    }

pub returns-then-not-branch-clause-exact : goal.returns-then-not-branch-clause-exact
returns-then-not-branch-clause-exact g c =
    let i = c.loop-app.invariant in
    let k = c.loop-app.number in
    let left = c.in-Some.ensures.steps.0 in
    let later = into_iter_items c.next.new.self in
    let (rest, within) = rest_next c.args.apps (into_iter_items c.loop-app.app-iterator) later k (k + 1)
    c.in-Some.app left i.rest refl in
    let many = c.requires.logs in
    let count = c.requires.apps in
    let log = c.index-logs-number.result in
    let at : slice_get c.args.logs.now k ≡ Some log =
    slice_get_read c.args.logs.now _ k log refl (omega (arith, within, many, count)) c.index-logs-number.is in
    let failed = c.if-not-branch.true in
    let setup = setup_of c.args.accepted.now.plant c.args.accepted.now.bundles in
    not_all g.A.IsoApp.reply g.A.IsoApp.next_state setup c.args.cycles c.args.apps c.args.logs.now
    k c.in-Some.app later c.device_of-device.result log _ _ (sym left ∙ i.rest) at (omega (arith, within, count))
    c.device_of-device.ensures.device c.in_ok-is_kept.ensures.exact (λ yes. absurd (cc)) (λ yes. absurd (cc))

pub returns-clause-exact : goal.returns-clause-exact
returns-clause-exact g c =
    let i = c.loop-app.invariant in
    let setup = setup_of c.args.accepted.now.plant c.args.accepted.now.bundles in
    let none = ap (λ l. length l) (sym i.rest) ∙ sym i.left ∙ c.in-None.ensures.steps.0 in (
      λ _. all_kept g.A.IsoApp.reply g.A.IsoApp.next_state setup c.args.cycles c.args.apps c.args.logs.now
          c.loop-app.number none i.kept,
      λ _. refl,
    )

pub returns-clause-shape : goal.returns-clause-shape
returns-clause-shape g c = λ _.
    let i = c.loop-app.invariant in
    let setup = setup_of c.args.accepted.now.plant c.args.accepted.now.bundles in
    all_shaped g.A.IsoApp.reply g.A.IsoApp.next_state setup c.args.cycles c.args.apps c.args.logs.now
    c.loop-app.number c.requires.apps c.requires.logs
    (ap (λ l. length l) (sym i.rest) ∙ sym i.left ∙ c.in-None.ensures.steps.0) i.kept
