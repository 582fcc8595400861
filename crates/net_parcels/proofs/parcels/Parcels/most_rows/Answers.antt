use Rattle.std.proofs.Common.{◌≡◌, ℕ, ◌∙◌, ap, ap₂}
use Rattle.net_parcels.proofs.Counts.{if_some, rows_same}
use Rattle.net_parcels.specs.Parcels.{ParcelsState, rows_by_steps}
use Rattle.parcel_rules.specs.Room.{most_rows}
use Rattle.net_parcels.proofs.parcels.Parcels.most_rows.Goals as goal

pub returns : goal.returns
returns c = λ walks are.
    if_some (λ n. n ≡ rows_by_steps c.as_slice.result.now c.as_slice-2.result.now) (λ n. n ≡ most_rows c.args.plant.now walks) c.rows_by_steps.result
    (λ n is. is ∙ ap₂ rows_by_steps c.as_slice.ensures (c.as_slice-2.ensures.value ∙ ap (λ (p : ParcelsState). p.steps) c.self.view_is)
    ∙ rows_same c.args.plant.now walks c.args.self.now.steps are) c.rows_by_steps.ensures
