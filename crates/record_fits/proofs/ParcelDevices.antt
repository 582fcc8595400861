-- Rows of parcels are on devices of the plant.
use Rattle.std.proofs.Common.{◌≡◌, ℕ, zero, suc, ◌<◌, List, [], ◌∷◌, ◌++◌, length, find, Option, Some, None, refl, sym, subst, slice_get, All}
use Rattle.std.specs.Prelude.{fold, ◌==◌, slice_index_or}
use Rattle.std.specs.List.{enumerate_from}
use Rattle.std.proofs.lemmas.List.Elements.{All-nil, All-push, All-head, All-tail, All-append, All-map}
use Rattle.cycle_rows.specs.declared.rows.JournalRow.{JournalRow}
use Rattle.irt_base.specs.Wiring.{peer_of}
use Rattle.irt_base.specs.declared.blocks.Bundle.{Bundle}
use Rattle.irt_base.specs.declared.numbers.DevId.{DevId}
use Rattle.irt_base.specs.declared.numbers.PortNo.{PortNo}
use Rattle.irt_base.specs.declared.plants.Class.{Class}
use Rattle.irt_base.specs.declared.plants.Plant.{Plant}
use Rattle.irt_base.specs.declared.plants.Traffic.{Traffic}
use Rattle.parcel_rules.specs.Cycle.{after_row, all_ports, brought, brought_from, handed_on, loads_at, sends}
use Rattle.parcel_rules.specs.Loads.{Gates, Loads, Offers, came_row, gate_at, hand_over, no_offers, offer, offer_by, offered, pass_on, refused_row}
use Rattle.parcel_rules.specs.Made.{handed_to, made_at_source, made_by, made_in}
use Rattle.parcel_rules.specs.Rows.{lost_row, lost_rows, lost_rows_at, parcel_rows, rows_in, sent_row, sent_rows, sent_rows_at}
use Rattle.parcel_rules.specs.Steps.{Step, leaves_from, step_at, steps_from}
use Rattle.parcel_rules.specs.declared.handed.Handed.{Handed}
use Rattle.parcel_rules.proofs.Lists.{All-flat_map, each_at}
use Rattle.parcel_rules.proofs.Offered.{AreAll, either_way}
use Rattle.parcel_rules.proofs.Placed.{leaves_device}
use Rattle.period_gate.specs.declared.parcels.Parcel.{Parcel}
use Rattle.period_gate.specs.declared.queue.TheConstants.{QUEUE_ROOM}
use Rattle.period_gate.specs.Gate.{queue_of}
use Rattle.plan_rules.specs.World.{WorldRow, is_uncut}
use Rattle.plant_rules.specs.Meets.{IsTraffic, MeetsRules}
use Rattle.record_fits.proofs.Devices.{IsAtDevice, IsOnPlant, numbered, ports_at_devices}

-- what a fold keeps at items that have a fact
fold_all : {A B : Type 0} (Q : A → Type 0) (I : B → Type 0) (f : B → A → B) → ((b : B) (a : A) → Q a → I b → I (f b a)) → (b : B) → I b → (xs : List A) →
    All Q xs → I (fold f b xs)
fold_all Q I f each b start [] all = start
fold_all Q I f each b start (x ∷ xs) all = fold_all Q I f each (f b x) (each b x (All-head Q x xs all) start) xs (All-tail Q x xs all)

module _ (plant : Plant) where
  -- a parcel is handed over at a device of the plant
  abbrev IsHandedThere : Handed → Type 0
  IsHandedThere h = h.device.0 < length plant.devices

  abbrev IsThere : JournalRow → Type 0
  IsThere row = IsOnPlant plant row

  -- ---- what is handed over

  made_there : MeetsRules plant → (k : ℕ) → All IsHandedThere (made_in plant k)
  made_there rules k =
      All-flat_map IsHandedThere (λ (e : ℕ × Traffic). slice_get plant.traffic e.0 ≡ Some e.1) (λ (e : ℕ × Traffic). made_at_source k e.0 e.1)
      (enumerate_from 0 plant.traffic) (numbered plant.traffic)
      (λ e there. All-map IsHandedThere (handed_to e.1.source) (made_by k e.0 e.1)
      (λ i parcel below. (each_at (IsTraffic plant) plant.traffic e.0 e.1 rules.traffic there).source))

  brought_there : (bundles : List Bundle) (row : WorldRow) (k : ℕ) (gates : Gates) → All IsHandedThere (brought plant bundles row k gates)
  brought_there bundles row k gates =
      All-flat_map IsHandedThere (IsAtDevice plant) (λ (at : Step). brought_from plant bundles row k gates at.0 (peer_of plant at.0.0 at.1.0)) (all_ports plant)
      (ports_at_devices plant) (λ at there. by_peer at there (peer_of plant at.0.0 at.1.0))
    where
      by_peer : (at : Step) → IsAtDevice plant at → (far : Option Step) → All IsHandedThere (brought_from plant bundles row k gates at.0 far)
      by_peer at there None = All-nil IsHandedThere
      by_peer at there (Some far) =
          either_way (All IsHandedThere) (is_uncut plant row far.0.0 far.1.0) _ _
          (All-map IsHandedThere (handed_on at.0) (sends plant bundles row k gates far) (λ i one below. there)) (All-nil IsHandedThere)

  module _ (walks : List (List PortNo)) (bundles : List Bundle) where
    after_there : (k : ℕ) (loads : Loads) → All IsHandedThere loads.flight → (row : Option WorldRow) →
        All IsHandedThere (after_row plant bundles walks k loads row).flight
    after_there k loads fly None = fly
    after_there k loads fly (Some row) = brought_there bundles row k (offered plant walks k loads).gates

    flight_there : (world : List WorldRow) (k : ℕ) → All IsHandedThere (loads_at plant bundles walks world k).flight
    flight_there world zero = All-nil IsHandedThere
    flight_there world (suc k) = after_there k (loads_at plant bundles walks world k) (flight_there world k) (slice_get world k)

    -- ---- offers

    module _ (k : ℕ) where
      offer_there : (kind : Class) (parcel : Parcel) (o : Offers) (at : Step) → IsAtDevice plant at → AreAll IsThere o → AreAll IsThere (offer k kind parcel o at)
      offer_there kind parcel o at there all =
          either_way (AreAll IsThere) (length (queue_of kind (gate_at o.gates at)) == QUEUE_ROOM) _ _
          (record { refused = All-push IsThere o.refused (refused_row k at parcel) all.refused there; came = all.came })
          (record { refused = all.refused; came = all.came })

      offer_by_there : (kind : Class) (o : Offers) (h : Handed) → IsHandedThere h → (steps : List Step) (step : Option Step) →
          find (leaves_from h.device) steps ≡ step → AreAll IsThere o → AreAll IsThere (offer_by k kind h.parcel o step)
      offer_by_there kind o h there steps None is all = all
      offer_by_there kind o h there steps (Some at) is all =
          offer_there kind h.parcel o at (subst (λ (d : DevId). d.0 < length plant.devices) (sym (leaves_device h.device steps at is)) there) all

      pass_there : (o : Offers) (h : Handed) → IsHandedThere h → (entry : Option Traffic) → AreAll IsThere o → AreAll IsThere (pass_on plant walks k o h entry)
      pass_there o h there None all = all
      pass_there o h there (Some t) all =
          let walk = slice_index_or walks h.parcel.traffic [] in
          either_way (AreAll IsThere) (t.target.0 == h.device.0) _ _
          (record { refused = all.refused; came = All-push IsThere o.came (came_row k h) all.came there })
          (offer_by_there t.«class» o h there (steps_from plant t.source walk) (step_at plant t.source walk h.device) refl all)

      offered_there : MeetsRules plant → (loads : Loads) → All IsHandedThere loads.flight → AreAll IsThere (offered plant walks k loads)
      offered_there rules loads fly =
          fold_all IsHandedThere (AreAll IsThere) (hand_over plant walks k) (λ o h there all. pass_there o h there (slice_get plant.traffic h.parcel.traffic) all)
          (no_offers loads.gates) (record { refused = All-nil IsThere; came = All-nil IsThere }) (loads.flight ++ made_in plant k)
          (All-append IsHandedThere loads.flight (made_in plant k) fly (made_there rules k))

      -- ---- rows

      sent_there : (row : WorldRow) (gates : Gates) → All IsThere (sent_rows plant bundles row k gates)
      sent_there row gates =
          All-flat_map IsThere (IsAtDevice plant) (sent_rows_at plant bundles row k gates) (all_ports plant) (ports_at_devices plant)
          (λ at there. All-map IsThere (sent_row plant row k at) (sends plant bundles row k gates at) (λ i one below. there))

      lost_there : (row : WorldRow) (gates : Gates) → All IsThere (lost_rows plant bundles row k gates)
      lost_there row gates =
          All-flat_map IsThere (IsAtDevice plant) (lost_rows_at plant bundles row k gates) (all_ports plant) (ports_at_devices plant)
          (λ at there. either_way (All IsThere) (is_uncut plant row at.0.0 at.1.0) _ _ (All-nil IsThere)
          (All-map IsThere (lost_row k at) (sends plant bundles row k gates at) (λ i one below. there)))

      rows_there : MeetsRules plant → (loads : Loads) → All IsHandedThere loads.flight → (row : Option WorldRow) →
          All IsThere (rows_in plant bundles walks k loads row)
      rows_there rules loads fly None = All-nil IsThere
      rows_there rules loads fly (Some row) =
          let o = offered plant walks k loads in
          let all = offered_there rules loads fly in
          let lost = lost_rows plant bundles row k o.gates in
          All-append IsThere (sent_rows plant bundles row k o.gates) (o.refused ++ (lost ++ o.came)) (sent_there row o.gates)
          (All-append IsThere o.refused (lost ++ o.came) all.refused (All-append IsThere lost o.came (lost_there row o.gates) all.came))

pub parcel_rows_on_plant : (plant : Plant) → MeetsRules plant → (walks : List (List PortNo)) (bundles : List Bundle) (world : List WorldRow) (k : ℕ) →
    All (IsOnPlant plant) (parcel_rows plant bundles walks world k)
parcel_rows_on_plant plant rules walks bundles world k =
    rows_there plant walks bundles k rules (loads_at plant bundles walks world k) (flight_there plant walks bundles world k) (slice_get world k)
