use Rattle.std.proofs.Common.{rules, ◌≡◌, length, subst, ℕ}
use Rattle.std.specs.Prelude.{Some}
use Rattle.iso_free.specs.Opened.{IsOpened}
use Rattle.iso_free.proofs.Begin.{loop_apps, opened_more}
use Rattle.iso_free.proofs.opening.open_all.Goals as goal

pub loop-app-preserved : goal.loop-app-preserved
loop-app-preserved g c =
    let same : c.len-in-loop-app.result ≡ length c.loop-app.all.items = search rules in
    record {
      apps = loop_apps (λ o. o.app) c.loop-app.all.items _ c.in_ok-opened.opened c.in-Some.app _ _ _ c.loop-app.invariant.apps c.in-Some.ensures.steps.0 c.in_ok-push.ensures.items c.in_ok-opened.ensures.app;
      opened = opened_more (Some c.args.plant.now) c.loop-app.all.items _ c.in_ok-opened.opened c.loop-app.invariant.opened c.in_ok-push.ensures.items
          (subst (λ (n : ℕ). IsOpened (Some c.args.plant.now) n c.in_ok-opened.opened) same c.in_ok-opened.ensures.opened);
    }
