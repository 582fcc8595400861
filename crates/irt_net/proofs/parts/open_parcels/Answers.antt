use Rattle.std.proofs.Common.{sym, subst}
use Rattle.irt_base.specs.declared.plants.Plant.{Plant}
use Rattle.irt_net.proofs.Opening.{best_walks}
use Rattle.net_parcels.specs.Parcels.{HaveWalks}
use Rattle.irt_net.proofs.parts.open_parcels.Goals as goal

pub most_rows-requires : goal.most_rows-requires
most_rows-requires c =
    subst (λ (p : Plant). HaveWalks p c.in_ok-parcels.parcels.steps) (sym c.plant.ensures) (
      c.args.routes.now.walks,
      best_walks c.args.site.now.plant c.args.routes.now c.requires,
      (c.in_ok-parcels.ensures {u = tt}).steps,
    )
