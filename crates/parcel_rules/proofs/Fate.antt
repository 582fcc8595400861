-- What is made is accounted for.
use Rattle.std.proofs.Common.{◌≡◌, ℕ, zero, suc, ◌+◌, ◌≤◌, cond, List, [], ◌∷◌, ◌++◌, refl, ◌∙◌, ap, arith, length}
use Rattle.std.specs.List.{sum_by, range_with_len, flat_map}
use Rattle.std.proofs.lemmas.List.Sums.{sum_by_push}
use Rattle.irt_base.specs.declared.blocks.Bundle.{Bundle}
use Rattle.irt_base.specs.declared.numbers.PortNo.{PortNo}
use Rattle.irt_base.specs.declared.plants.Plant.{Plant}
use Rattle.plant_rules.specs.Meets.{MeetsRules}
use Rattle.plan_rules.specs.World.{WorldRow}
use Rattle.period_gate.specs.declared.parcels.Parcel.{Parcel}
use Rattle.cycle_rows.specs.declared.rows.JournalRow.{JournalRow}
use Rattle.parcel_rules.specs.declared.handed.Handed.{Handed}
use Rattle.parcel_rules.specs.Cycle.{all_ports, loads_at}
use Rattle.parcel_rules.specs.Fates.{is_parcel, is_refused, is_lost, is_come, waiting_count, handed_count, made_before, rows_before}
use Rattle.parcel_rules.specs.Made.{made_in}
use Rattle.parcel_rules.specs.Rows.{parcel_rows}
use Rattle.parcel_rules.proofs.Balance.{AreWeights}
use Rattle.parcel_rules.proofs.Placed.{HaveWalks}
use Rattle.parcel_rules.proofs.Queues.{SendFronts}
use Rattle.parcel_rules.proofs.Sums.{sum_both, sum_none, sum_flat_map}
use Rattle.parcel_rules.proofs.Whole.{load, cycle_weight}

-- ---- sums over cycles

range_last : (a n : ℕ) → range_with_len a (suc n) ≡ range_with_len a n ++ (a + n) ∷ []
range_last a zero = ap (λ (k : ℕ). k ∷ []) (omega arith)
range_last a (suc n) =
    let last : a + 1 + n ≡ a + suc n = omega arith in
    ap (λ (ks : List ℕ). a ∷ ks) (range_last (a + 1) n ∙ ap (λ (k : ℕ). range_with_len (a + 1) n ++ k ∷ []) last)

pub sum_cycles : {X : Type 0} (g : X → ℕ) (f : ℕ → List X) (n : ℕ) →
    sum_by g (flat_map f (range_with_len 0 (suc n))) ≡ sum_by g (flat_map f (range_with_len 0 n)) + sum_by g (f n)
sum_cycles g f n =
    let whole = sum_flat_map g f (range_with_len 0 (suc n)) in
    let before = sum_flat_map g f (range_with_len 0 n) in
    let split = ap (sum_by (λ (k : ℕ). sum_by g (f k))) (range_last 0 n) in
    let last = sum_by_push (λ (k : ℕ). sum_by g (f k)) (range_with_len 0 n) (0 + n) in
    let same : 0 + n ≡ n = omega arith in
    let one = ap (λ (k : ℕ). sum_by g (f k)) same in
    omega arith

-- ---- one parcel

module _ (traffic serial : ℕ) where
  abbrev one : Parcel → ℕ
  one p = cond (is_parcel traffic serial p) 1 0

  abbrev flies : Handed → ℕ
  flies h = one h.parcel

  abbrev written : JournalRow → ℕ
  written r = cond (is_refused traffic serial r) 1 0 + (cond (is_lost traffic serial r) 1 0 + cond (is_come traffic serial r) 1 0)

  weights : (plant : Plant) (walks : List (List PortNo)) (row : WorldRow) (k : ℕ) → AreWeights plant walks row k (λ at p. one p) flies written
  weights plant walks row k = record {
    came = λ h t there target. omega arith;
    refused = λ h t at there step. omega arith;
    queued = λ h t at there step. refl;
    crossed = λ at far sent wait leads. omega arith;
    lost = λ at sent wait. omega arith;
  }

  module _ (plant : Plant) (rules : MeetsRules plant) (bundles : List Bundle) (walks : List (List PortNo)) (have : HaveWalks plant walks) (fronts : SendFronts)
      (world : List WorldRow) where
    accounted : (n : ℕ) → n ≤ length world →
        load plant (λ at p. one p) flies (loads_at plant bundles walks world n) + sum_by written (rows_before plant bundles walks world n)
        ≡ sum_by flies (made_before plant n)
    accounted zero few = let none = sum_none (all_ports plant) in omega arith
    accounted (suc n) few =
        let before = accounted n (omega arith) in
        let cycle = cycle_weight plant rules bundles walks have fronts (λ at p. one p) flies written (weights plant walks) world n (omega arith) in
        let next : n + 1 ≡ suc n = omega arith in
        let loads = ap (λ (k : ℕ). load plant (λ at p. one p) flies (loads_at plant bundles walks world k)) next in
        let rows = sum_cycles written (parcel_rows plant bundles walks world) n in
        let made = sum_cycles flies (made_in plant) n in
        omega arith

    pub one_fate : (n : ℕ) → n ≤ length world →
        waiting_count plant traffic serial (loads_at plant bundles walks world n).gates
        + handed_count traffic serial (loads_at plant bundles walks world n).flight
        + sum_by (λ (r : JournalRow). cond (is_refused traffic serial r) 1 0) (rows_before plant bundles walks world n)
        + sum_by (λ (r : JournalRow). cond (is_lost traffic serial r) 1 0) (rows_before plant bundles walks world n)
        + sum_by (λ (r : JournalRow). cond (is_come traffic serial r) 1 0) (rows_before plant bundles walks world n)
        ≡ handed_count traffic serial (made_before plant n)
    one_fate n few =
        let whole = accounted n few in
        let rows = rows_before plant bundles walks world n in
        let first = sum_both (λ (r : JournalRow). cond (is_refused traffic serial r) 1 0)
        (λ r. cond (is_lost traffic serial r) 1 0 + cond (is_come traffic serial r) 1 0) rows in
        let second = sum_both (λ (r : JournalRow). cond (is_lost traffic serial r) 1 0) (λ r. cond (is_come traffic serial r) 1 0) rows in
        omega arith
