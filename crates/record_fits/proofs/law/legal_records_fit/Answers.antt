use Rattle.std.proofs.Common.{ℕ, length}
use Rattle.parcel_rules.specs.Rows.{parcel_rows}
use Rattle.plan_rules.specs.Plan.{setup_of}
use Rattle.record_fits.proofs.Fits.{legal_fits}
use Rattle.record_fits.proofs.law.legal_records_fit.Goals as goal

pub returns : goal.returns
returns g c = λ plant bundles plan accepted walks world firsts r count legal numbers.
    let own = λ (k : ℕ). (c.parcels_of_accepted_plans_are_apart.ensures.rows plant bundles plan accepted walks world k).cycle in
    let order = c.journals_stand_by_cycle.ensures (setup_of plant bundles) world (parcel_rows plant bundles walks world) (length world) r.journal own legal.journal in
    legal_fits plant bundles plan walks world g.A.IsoApp.reply g.A.IsoApp.next_state firsts r own order count legal numbers
