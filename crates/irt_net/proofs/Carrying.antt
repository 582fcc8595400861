-- The parcels of a network, and what they may still need of the journal.
use Rattle.std.proofs.Common.{◌≡◌, ℕ, ◌+◌, ◌<◌, List, [], ◌∷◌, length, get_or, refl, sym, ◌∙◌, ap, ap₂, arith, All}
use Rattle.std.specs.List.{sum_by, enumerate_from, range_with_len, Contains}
use Rattle.std.proofs.lemmas.List.Elements.{All-cons, All-contains, All-map, All-weaker}
use Rattle.std.proofs.lemmas.List.Sums.{sum_by-cons}
use Rattle.std.proofs.lemmas.Option.{slice_get-get_or}
use Rattle.irt_base.specs.declared.numbers.PortNo.{PortNo}
use Rattle.irt_base.specs.declared.plants.Device.{Device}
use Rattle.irt_base.specs.declared.plants.Plant.{Plant}
use Rattle.irt_switch.specs.State.{SwitchState}
use Rattle.cycle_rows.proofs.Lists.{Contains-here, Contains-later}
use Rattle.net_parcels.specs.Loads.{HoldLoads}
use Rattle.parcel_rules.proofs.Lists.{All-flat_map}
use Rattle.parcel_rules.specs.Cycle.{all_ports, ports_at}
use Rattle.parcel_rules.specs.Loads.{Loads, gate_at}
use Rattle.parcel_rules.specs.Room.{handed_rows, pending, rows_to_come, waiting_rows}
use Rattle.parcel_rules.specs.Steps.{Step}
use Rattle.parcel_rules.specs.declared.handed.Handed.{Handed}
use Rattle.period_gate.specs.declared.parcels.Parcel.{Parcel}

-- ---- the ports of a plant are at its devices

below_end : {X : Type 0} (n : ℕ) (xs : List X) → All (λ (e : ℕ × X). e.0 < n + length xs) (enumerate_from n xs)
below_end {X} n [] = λ i d below. absurd (omega arith)
below_end {X} n (x ∷ xs) = All-cons (λ (e : ℕ × X). e.0 < n + length (x ∷ xs)) (n, x) (enumerate_from (n + 1) xs) (omega arith)
    (All-weaker (λ (e : ℕ × X). e.0 < (n + 1) + length xs) (λ (e : ℕ × X). e.0 < n + length (x ∷ xs)) (λ e below. omega arith) (enumerate_from (n + 1) xs) (below_end (n + 1) xs))

pub at_devices : (plant : Plant) → All (λ (at : Step). at.0.0 < length plant.devices) (all_ports plant)
at_devices plant =
    All-flat_map (λ (at : Step). at.0.0 < length plant.devices) (λ (d : ℕ × Device). d.0 < 0 + length plant.devices)
    (λ (d : ℕ × Device). ports_at d.0 d.1) (enumerate_from 0 plant.devices) (below_end 0 plant.devices)
    (λ d below. All-map (λ (at : Step). at.0.0 < length plant.devices) (λ (port : ℕ). (record { 0 = d.0 }, record { 0 = port }))
    (range_with_len 1 (length d.1.ports)) (λ i x within. omega (arith, below)))

-- ---- what they may still need

same_rows : (plant : Plant) (walks : List (List PortNo)) (switches : List SwitchState) (a b : Loads) (flight : List Handed) →
    HoldLoads plant switches flight a → HoldLoads plant switches flight b → (at : Step) → Contains (all_ports plant) at → at.0.0 < length switches →
    waiting_rows plant walks at.0 (gate_at a.gates at) ≡ waiting_rows plant walks at.0 (gate_at b.gates at)
same_rows plant walks switches a b flight one two at among below =
    let s = get_or switches at.0.0 (first switches below) in
    let is = slice_get-get_or switches at.0.0 (first switches below) below in
    let p = one.gates at s among is in
    let q = two.gates at s among is in
    ap₂ (λ (xs ys : List Parcel). sum_by (rows_to_come plant walks at.0) xs + sum_by (rows_to_come plant walks at.0) ys)
    (sym p.orange ∙ q.orange) (sym p.green ∙ q.green)
  where
    first : (xs : List SwitchState) → at.0.0 < length xs → SwitchState
    first [] below = absurd (omega arith)
    first (x ∷ xs) below = x

-- what holds the same parcels needs the same rows
pub pending_same : (plant : Plant) (walks : List (List PortNo)) (switches : List SwitchState) (flight : List Handed) (a b : Loads) →
    length switches ≡ length plant.devices → HoldLoads plant switches flight a → HoldLoads plant switches flight b → pending plant walks a ≡ pending plant walks b
pending_same plant walks switches flight a b count one two =
    ap₂ (λ (m n : ℕ). m + n) (sum_same (all_ports plant) (λ at among. same_rows plant walks switches a b flight one two at among (within at among)))
    (ap (handed_rows plant walks) (sym one.flight ∙ two.flight))
  where
    within : (at : Step) → Contains (all_ports plant) at → at.0.0 < length switches
    within at among = let below = All-contains (λ (p : Step). p.0.0 < length plant.devices) (all_ports plant) at (at_devices plant) among in omega arith

    sum_same : (ports : List Step) → ((at : Step) → Contains ports at → waiting_rows plant walks at.0 (gate_at a.gates at) ≡ waiting_rows plant walks at.0 (gate_at b.gates at)) →
        sum_by (λ (at : Step). waiting_rows plant walks at.0 (gate_at a.gates at)) ports ≡ sum_by (λ (at : Step). waiting_rows plant walks at.0 (gate_at b.gates at)) ports
    sum_same [] each = refl
    sum_same (at ∷ more) each =
        sum_by-cons (λ (p : Step). waiting_rows plant walks p.0 (gate_at a.gates p)) at more
        ∙ ap₂ (λ (m n : ℕ). m + n) (each at (Contains-here at more)) (sum_same more (λ p among. each p (Contains-later at more p among)))
        ∙ sym (sum_by-cons (λ (p : Step). waiting_rows plant walks p.0 (gate_at b.gates p)) at more)
