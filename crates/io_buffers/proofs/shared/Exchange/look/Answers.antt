use Rattle.std.proofs.Common.{◌∙◌, ◌∷◌, sym, ap, arith}
use Rattle.io_buffers.specs.Rule.{Sat, adds}
use Rattle.io_buffers.specs.Steps.{steps_in}
use Rattle.io_buffers.specs.declared.views.Made.TheVariants.{Probed}
use Rattle.io_buffers.proofs.Allowed.{allows_probe, allows_take}
use Rattle.io_buffers.proofs.shared.Exchange.look.Goals as goal

pub load-found-requires : goal.load-found-requires
load-found-requires c = (
  c.requires,
  omega (arith, c.args.self.now.sized),
  allows_probe _ _ _ c.args.pass.now.seat.me (steps_in c.args.pass.now.seat.me.0) c.args.pass.now.seated,
)

pub swap-old-requires : goal.swap-old-requires
swap-old-requires c =
    let pass = c.args.pass.now in (
      c.load-found.ensures.0 ∙ c.requires,
      omega (arith, c.args.self.now.sized),
      allows_take _ _ _ c.load-found.new.seat.me (Probed c.load-found.result ∷ steps_in pass.seat.me.0) pass.front
          (c.load-found.ensures.2 ∙ ap (λ (z : Sat). (adds (Probed c.load-found.result) z.0, z.1)) pass.seated)
          (sym c.is_fresh.ensures ∙ c.if-not-is_fresh.false)
          pass.fronted,
    )
