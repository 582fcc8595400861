-- The weights of parcels from cycle to cycle.
use Rattle.std.proofs.Common.{◌≡◌, ℕ, zero, suc, ◌+◌, ◌<◌, List, ◌++◌, Option, Some, None, refl, ◌∙◌, ap, arith, length, slice_get, All, inl, inr}
use Rattle.std.specs.List.{sum_by}
use Rattle.std.proofs.lemmas.List.Elements.{All-nil, All-append}
use Rattle.std.proofs.lemmas.List.Sums.{sum_by-append}
use Rattle.std.proofs.lemmas.Option.{slice_get_cases}
use Rattle.irt_base.specs.declared.blocks.Bundle.{Bundle}
use Rattle.irt_base.specs.declared.numbers.PortNo.{PortNo}
use Rattle.irt_base.specs.declared.plants.Class.TheVariants.{Orange, Green}
use Rattle.irt_base.specs.declared.plants.Plant.{Plant}
use Rattle.plant_rules.specs.Meets.{MeetsRules}
use Rattle.plan_rules.specs.World.{WorldRow}
use Rattle.period_gate.specs.declared.parcels.Parcel.{Parcel}
use Rattle.period_gate.specs.Gate.{queue_of, nothing_waiting}
use Rattle.cycle_rows.specs.declared.rows.JournalRow.{JournalRow}
use Rattle.parcel_rules.specs.declared.handed.Handed.{Handed}
use Rattle.parcel_rules.specs.Cycle.{after_sendings, after_row, loads_at}
use Rattle.parcel_rules.specs.Loads.{Loads, Offers, no_offers, offered}
use Rattle.parcel_rules.specs.Made.{made_in}
use Rattle.parcel_rules.specs.Rows.{rows_after, rows_in, parcel_rows, sent_rows, lost_rows}
use Rattle.parcel_rules.specs.Steps.{Step}
use Rattle.parcel_rules.proofs.Balance.{AreWeights, held_all, take_all}
use Rattle.parcel_rules.proofs.Placed.{HaveWalks, IsOn, IsWaitingAt, AllWait, all_made_on}
use Rattle.parcel_rules.proofs.Queues.{SendFronts}
use Rattle.parcel_rules.proofs.Sending.{left_wait, brought_on, sending_weight}

-- all parcels are in their places
pub record ArePlaced (plant : Plant) (walks : List (List PortNo)) (loads : Loads) : Type 0 where
  pub wait : AllWait plant walks loads.gates
  pub fly : All (IsOn plant walks) loads.flight

-- the weight of all parcels between two cycles
abbrev pub load : Plant → (Step → Parcel → ℕ) → (Handed → ℕ) → Loads → ℕ
load plant waits flies loads = held_all plant waits loads.gates + sum_by flies loads.flight

module _ (plant : Plant) (rules : MeetsRules plant) (bundles : List Bundle) (walks : List (List PortNo)) (have : HaveWalks plant walks) (fronts : SendFronts) where
  -- a cycle that the world has
  record Keeps (row : WorldRow) (k : ℕ) (waits : Step → Parcel → ℕ) (flies : Handed → ℕ) (written : JournalRow → ℕ) (loads : Loads) : Type 0 where
    weight : sum_by written (rows_after plant bundles row k (offered plant walks k loads))
        + load plant waits flies (after_sendings plant bundles row k (offered plant walks k loads).gates)
        ≡ load plant waits flies loads + sum_by flies (made_in plant k)
    placed : ArePlaced plant walks (after_sendings plant bundles row k (offered plant walks k loads).gates)
    offers : AllWait plant walks (offered plant walks k loads).gates

  one_cycle : (row : WorldRow) (k : ℕ) (waits : Step → Parcel → ℕ) (flies : Handed → ℕ) (written : JournalRow → ℕ) → AreWeights plant walks row k waits flies written →
      (loads : Loads) → ArePlaced plant walks loads → Keeps row k waits flies written loads
  one_cycle row k waits flies written weights loads placed =
      let o : Offers = offered plant walks k loads in
      let taken = take_all plant rules walks have row k waits flies written weights (loads.flight ++ made_in plant k) (no_offers loads.gates)
      (All-append (IsOn plant walks) loads.flight (made_in plant k) placed.fly (all_made_on plant walks have k)) placed.wait in
      let sent = sending_weight plant rules bundles walks have fronts row k o.gates taken.wait waits flies written weights in
      let offers = taken.weight in
      record {
        weight = omega (
          arith,
          sum_by-append flies loads.flight (made_in plant k),
          sum_by-append written (sent_rows plant bundles row k o.gates) (o.refused ++ (lost_rows plant bundles row k o.gates ++ o.came)),
          sum_by-append written o.refused (lost_rows plant bundles row k o.gates ++ o.came),
          sum_by-append written (lost_rows plant bundles row k o.gates) o.came,
        );
        placed = record {
          wait = left_wait plant rules bundles walks have fronts row k o.gates taken.wait;
          fly = brought_on plant rules bundles walks have fronts row k o.gates taken.wait;
        };
        offers = taken.wait;
      }

  -- no weight at all
  nothing : (row : WorldRow) (k : ℕ) → AreWeights plant walks row k (λ at p. 0) (λ h. 0) (λ r. 0)
  nothing row k = record {
    came = λ h t there target. refl;
    refused = λ h t at there step. refl;
    queued = λ h t at there step. refl;
    crossed = λ at far one wait leads. refl;
    lost = λ at one wait. refl;
  }

  pub placed_offers : (row : WorldRow) (k : ℕ) (loads : Loads) → ArePlaced plant walks loads → AllWait plant walks (offered plant walks k loads).gates
  placed_offers row k loads placed = (one_cycle row k (λ at p. 0) (λ h. 0) (λ r. 0) (nothing row k) loads placed).offers

  placed_after : (k : ℕ) (loads : Loads) → ArePlaced plant walks loads → (o : Option WorldRow) → ArePlaced plant walks (after_row plant bundles walks k loads o)
  placed_after k loads placed None = placed
  placed_after k loads placed (Some row) = (one_cycle row k (λ at p. 0) (λ h. 0) (λ r. 0) (nothing row k) loads placed).placed

  pub placed_at : (world : List WorldRow) (k : ℕ) → ArePlaced plant walks (loads_at plant bundles walks world k)
  placed_at world zero = record {
    wait = λ at kind. elim kind as (λ kind. All (IsWaitingAt plant walks at) (queue_of kind nothing_waiting)) [
      | Orange ↦ All-nil (IsWaitingAt plant walks at)
      | Green ↦ All-nil (IsWaitingAt plant walks at)
    ];
    fly = All-nil (IsOn plant walks);
  }
  placed_at world (suc k) = placed_after k (loads_at plant bundles walks world k) (placed_at world k) (slice_get world k)

  -- a cycle that the world has keeps weights that do so in each row
  pub cycle_weight : (waits : Step → Parcel → ℕ) (flies : Handed → ℕ) (written : JournalRow → ℕ) → ((row : WorldRow) (k : ℕ) → AreWeights plant walks row k waits flies written) →
      (world : List WorldRow) (k : ℕ) → k < length world →
      sum_by written (parcel_rows plant bundles walks world k) + load plant waits flies (loads_at plant bundles walks world (k + 1))
      ≡ load plant waits flies (loads_at plant bundles walks world k) + sum_by flies (made_in plant k)
  cycle_weight waits flies written weights world k below =
      elim (slice_get_cases world k).1 [
        | inl (row, within, is, same) ↦
            let now = (one_cycle row k waits flies written (weights row k) (loads_at plant bundles walks world k) (placed_at world k)).weight in
            let next : k + 1 ≡ suc k = omega arith in
            let rows : parcel_rows plant bundles walks world k ≡ rows_after plant bundles row k (offered plant walks k (loads_at plant bundles walks world k)) =
            ap (rows_in plant bundles walks k (loads_at plant bundles walks world k)) is in
            let after : loads_at plant bundles walks world (k + 1) ≡ after_sendings plant bundles row k (offered plant walks k (loads_at plant bundles walks world k)).gates =
            ap (loads_at plant bundles walks world) next ∙ ap (after_row plant bundles walks k (loads_at plant bundles walks world k)) is in
            (λ i. sum_by written (rows i) + load plant waits flies (after i)) ∙ now
        | inr (past, none) ↦ absurd (omega arith)
      ]
