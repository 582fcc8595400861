-- What becomes of a parcel that is handed over.
use Rattle.std.proofs.Common.{◌≡◌, ◌≢◌, ℕ, true, false, Bool, Option, Some, None, [], ◌∷◌, ◌++◌, length, refl, sym, ◌∙◌, ap, ◌==◌}
use Rattle.std.specs.Prelude.{if◌then◌else◌}
use Rattle.std.proofs.lemmas.Bool.{ne_eqb}
use Rattle.irt_base.specs.declared.plants.Traffic.{Traffic}
use Rattle.period_gate.specs.declared.queue.TheConstants.{QUEUE_ROOM}
use Rattle.period_gate.specs.Gate.{queue_of, with_last}
use Rattle.irt_switch.specs.State.{SwitchState, gate_of}
use Rattle.parcel_rules.specs.declared.handed.Handed.{Handed}
use Rattle.parcel_rules.specs.Steps.{Step}
use Rattle.parcel_rules.specs.Loads.{gate_at, put, Offers, refused_row, came_row, offer_by}
use Rattle.parcel_loads.specs.Follows.{HoldsAsMany, offers_after}
use Rattle.parcel_loads.specs.Passing.{offered_to, passed_of}
use Rattle.parcel_loads.specs.declared.passing.Passed.{Passed}
use Rattle.parcel_loads.specs.declared.passing.Passed.TheVariants.{Came, Queued, Refused}

pub passed_on : (state : SwitchState) (t : Traffic) (h : Handed) (found : Option Step) (step : Step) (r : Passed) → t.target.0 ≢ h.device.0 → Some step ≡ found →
    r ≡ offered_to state t.«class» (Some (h.device, step.1)) → r ≡ passed_of state t found h
passed_on state t h found step r other is given =
    given ∙ ap (λ (b : Bool). if b then Came else offered_to state t.«class» (Some step)) (sym (ne_eqb t.target.0 h.device.0 other)) ∙ ap (λ (o : Option Step). passed_of state t o h) is

-- ---- beside the rules

offered_so : (k : ℕ) (t : Traffic) (o : Offers) (h : Handed) (at : Step) (n m : ℕ) → n ≡ m →
    (if m == QUEUE_ROOM then record { gates = o.gates; refused = o.refused ++ refused_row k at h.parcel ∷ []; came = o.came }
    else record { gates = put o.gates at (with_last t.«class» h.parcel (gate_at o.gates at)); refused = o.refused; came = o.came })
    ≡ offers_after k t o h (Some at) (if n == QUEUE_ROOM then Refused at.1 else Queued at.1)
offered_so k t o h at n m same =
    ap (λ (x : ℕ). if x == QUEUE_ROOM then record { gates = o.gates; refused = o.refused ++ refused_row k at h.parcel ∷ []; came = o.came }
    else record { gates = put o.gates at (with_last t.«class» h.parcel (gate_at o.gates at)); refused = o.refused; came = o.came }) (sym same)
    ∙ by_test (n == QUEUE_ROOM)
  where
    by_test : (b : Bool) → (if b then record { gates = o.gates; refused = o.refused ++ refused_row k at h.parcel ∷ []; came = o.came }
        else record { gates = put o.gates at (with_last t.«class» h.parcel (gate_at o.gates at)); refused = o.refused; came = o.came })
        ≡ offers_after k t o h (Some at) (if b then Refused at.1 else Queued at.1)
    by_test true = refl
    by_test false = refl

offered_as : (k : ℕ) (t : Traffic) (o : Offers) (h : Handed) (state : SwitchState) (step : Option Step) → HoldsAsMany state t.«class» o.gates step →
    offer_by k t.«class» h.parcel o step ≡ offers_after k t o h step (offered_to state t.«class» step)
offered_as k t o h state None many = refl
offered_as k t o h state (Some at) many =
    offered_so k t o h at (length (queue_of t.«class» (gate_of state at.1.0))) (length (queue_of t.«class» (gate_at o.gates at))) many

pub passed_as : (k : ℕ) (t : Traffic) (o : Offers) (h : Handed) (state : SwitchState) (step : Option Step) → HoldsAsMany state t.«class» o.gates step → (b : Bool) →
    (if b then record { gates = o.gates; refused = o.refused; came = o.came ++ came_row k h ∷ [] } else offer_by k t.«class» h.parcel o step)
    ≡ offers_after k t o h step (if b then Came else offered_to state t.«class» step)
passed_as k t o h state step many true = refl
passed_as k t o h state step many false = offered_as k t o h state step many
