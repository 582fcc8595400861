-- What a device does with a parcel, beside what the rules of parcels say of it.
use Rattle.std.specs.Prelude.{◌≡◌, ℕ, ◌++◌, ◌∷◌, [], length, Option, Some, None, IfSome}
use Rattle.irt_base.specs.declared.plants.Class.{Class}
use Rattle.irt_base.specs.declared.plants.Traffic.{Traffic}
use Rattle.period_gate.specs.Gate.{queue_of, with_last}
use Rattle.irt_switch.specs.State.{SwitchState, gate_of}
use Rattle.parcel_rules.specs.declared.handed.Handed.{Handed}
use Rattle.parcel_rules.specs.Steps.{Step}
use Rattle.parcel_rules.specs.Loads.{Gates, gate_at, put, Offers, refused_row, came_row}
use Rattle.parcel_loads.specs.declared.passing.Passed.{Passed}
use Rattle.parcel_loads.specs.declared.passing.Passed.TheVariants.{Came, Queued, Refused, Stays}

-- as many parcels of a class wait at a switch's port as the rules say
abbrev pub HoldsAsMany : SwitchState → Class → Gates → Option Step → Type 0
HoldsAsMany state kind gates step =
    IfSome step (λ at. length (queue_of kind (gate_of state at.1.0)) ≡ length (queue_of kind (gate_at gates at)))

-- the offers after a parcel of an entry was handed over, by what became of it
abbrev pub offers_after : ℕ → Traffic → Offers → Handed → Option Step → Passed → Offers
offers_after k t o h step Came = record { gates = o.gates; refused = o.refused; came = o.came ++ came_row k h ∷ [] }
offers_after k t o h None (Queued port) = o
offers_after k t o h (Some at) (Queued port) = record {
  gates = put o.gates at (with_last t.«class» h.parcel (gate_at o.gates at));
  refused = o.refused;
  came = o.came;
}
offers_after k t o h None (Refused port) = o
offers_after k t o h (Some at) (Refused port) =
    record { gates = o.gates; refused = o.refused ++ refused_row k at h.parcel ∷ []; came = o.came }
offers_after k t o h step Stays = o
