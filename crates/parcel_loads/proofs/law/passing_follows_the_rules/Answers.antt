use Rattle.std.specs.Prelude.{[], slice_index_or, ◌==◌}
use Rattle.parcel_rules.specs.Steps.{step_at}
use Rattle.parcel_loads.proofs.Passings.{passed_as}
use Rattle.parcel_loads.proofs.law.passing_follows_the_rules.Goals as goal

pub returns : goal.returns
returns c = λ plant walks k o h t state many.
    passed_as k t o h state (step_at plant t.source (slice_index_or walks h.parcel.traffic []) h.device) many (t.target.0 == h.device.0)
