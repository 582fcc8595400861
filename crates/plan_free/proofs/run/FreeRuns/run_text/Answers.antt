use Rattle.std.proofs.Common.{◌∙◌, ap}
use Rattle.plan_free.proofs.Legal.{legal_record, free_text}
use Rattle.plan_free.proofs.run.FreeRuns.run_text.Goals as goal
use Rattle.plan_run.specs.Run.{freely, kinds_of}

pub print_run-requires : goal.print_run-requires
print_run-requires g c =
    let a = c.args.accepted.now in
    let walks = c.args.routes.now.walks in
    let log = c.in_ok-log in (
      freely,
      walks,
      c.args.world,
      c.requires.some,
      legal_record a.plant a.bundles walks c.args.world _ log.log (c.in_ok-apps.ensures ∙ ap kinds_of c.plant.ensures) log.ensures.cycles log.ensures.legal,
    )

pub returns : goal.returns
returns g c =
    let a = c.args.accepted.now in
    let walks = c.args.routes.now.walks in
    let log = c.in_ok-log in
    free_text (λ v. v.items) a.plant a.bundles walks c.args.world log.log c.print_run.result
    (legal_record a.plant a.bundles walks c.args.world _ log.log (c.in_ok-apps.ensures ∙ ap kinds_of c.plant.ensures) log.ensures.cycles log.ensures.legal)
    c.print_run.ensures.text c.print_run.ensures.fits
