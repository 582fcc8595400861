use Rattle.std.proofs.Common.{refl}
use Rattle.iso_run.proofs.Begun.{opened_in}
use Rattle.iso_run.proofs.Recorded.{record_of_plan}
use Rattle.iso_run.proofs.lockstep.run_lockstep.Goals as goal

pub run_opened-requires-clause-opened : goal.run_opened-requires-clause-opened
run_opened-requires-clause-opened g c κs within =
    let new = c.in_ok-plant.ensures in (
      c.args.apps,
      opened_in c.args.apps c.in_ok-plant.plant c.args.accepted.now.plant c.args.accepted.now.bundles c.in_ok-opened.opened.apps.items
          c.in_ok-opened.opened.apps.items c.in_ok-opened.opened.ends.ends.items new.plant new.bundles refl c.in_ok-opened.ensures,
    )

pub returns : goal.returns
returns g c =
    let new = c.in_ok-plant.ensures in
    let opened = opened_in c.args.apps c.in_ok-plant.plant c.args.accepted.now.plant c.args.accepted.now.bundles c.in_ok-opened.opened.apps.items
    c.in_ok-opened.opened.apps.items c.in_ok-opened.opened.ends.ends.items new.plant new.bundles refl c.in_ok-opened.ensures in
    record_of_plan g.A.IsoApp.reply g.A.IsoApp.next_state c.args.apps c.in_ok-plant.plant c.run_opened.result
    c.args.accepted.now.plant c.args.accepted.now.bundles c.args.routes.now.walks c.args.world new.plant new.bundles new.walks new.world
    (c.run_opened.ensures c.args.apps opened)
