use Rattle.std.proofs.Common.{◌∙◌, sym, subst}
use Rattle.std.proofs.lemmas.List.{take_at}
use Rattle.iso_plant.specs.Replay.{setup_in}
use Rattle.iso_run.specs.Opened.{AreOpened}
use Rattle.iso_run.proofs.Recorded.{apps_count, recorded}
use Rattle.iso_run.proofs.lockstep.run_opened.Goals as goal

pub run_all-requires-clause-opened : goal.run_all-requires-clause-opened
run_all-requires-clause-opened g c κs within =
    let (states, opened) = c.requires.opened in
    (states, subst (λ l. AreOpened (setup_in c.args.plant) states l c.args.opened.ends.ends.items) (sym c.as_mut_slice.ensures.value) opened)

pub close-requires : goal.close-requires
close-requires g c =
    let (states, opened) = c.requires.opened in
    let there = subst (λ l. AreOpened (setup_in c.args.plant) states l c.args.opened.ends.ends.items) (sym c.as_mut_slice.ensures.value) opened in
    apps_count c.run_all.new.plant c.run_all.new.apps _ _ (c.in_ok-run_all.ensures.lockstep states there)
    (take_at c.run_all.new.apps _ _ (c.run_all.auto.apps ∙ c.as_mut_slice.ensures.len))

pub returns : goal.returns
returns g c = λ states opened.
    let there = subst (λ l. AreOpened (setup_in c.args.plant) states l c.args.opened.ends.ends.items) (sym c.as_mut_slice.ensures.value) opened in
    recorded g.A.IsoApp.reply g.A.IsoApp.next_state states c.args.plant c.run_all.new.plant c.run_all.new.apps _ c.run_all.new.ends.ends.items
    c.args.cycles c.close.result c.in_ok-run_all.ensures.same (c.in_ok-run_all.ensures.lockstep states there)
    (take_at c.run_all.new.apps _ _ (c.run_all.auto.apps ∙ c.as_mut_slice.ensures.len))
    c.in_ok-run_all.ensures.done c.requires.cycles c.close.ensures
