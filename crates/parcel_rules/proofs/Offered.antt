-- What holds of all rows that offers write.
use Rattle.std.proofs.Common.{ℕ, Bool, true, false, List, [], ◌∷◌, ◌++◌, length, Option, Some, None, slice_get, All}
use Rattle.std.specs.Prelude.{if◌then◌else◌, fold, ◌==◌}
use Rattle.std.proofs.lemmas.List.Elements.{All-nil, All-push}
use Rattle.irt_base.specs.declared.numbers.PortNo.{PortNo}
use Rattle.irt_base.specs.declared.plants.Class.{Class}
use Rattle.irt_base.specs.declared.plants.Plant.{Plant}
use Rattle.irt_base.specs.declared.plants.Traffic.{Traffic}
use Rattle.period_gate.specs.declared.parcels.Parcel.{Parcel}
use Rattle.period_gate.specs.declared.queue.TheConstants.{QUEUE_ROOM}
use Rattle.period_gate.specs.Gate.{queue_of}
use Rattle.cycle_rows.specs.declared.rows.JournalRow.{JournalRow}
use Rattle.parcel_rules.specs.declared.handed.Handed.{Handed}
use Rattle.parcel_rules.specs.Made.{made_in}
use Rattle.parcel_rules.specs.Steps.{Step}
use Rattle.parcel_rules.specs.Loads.{gate_at, Loads, Offers, no_offers, refused_row, came_row, offer, offer_by, pass_on, hand_over, offered}

-- what a fold keeps at each item
fold_keeps : {A B : Type 0} (I : B → Type 0) (f : B → A → B) → ((b : B) (a : A) → I b → I (f b a)) → (b : B) → I b → (xs : List A) → I (fold f b xs)
fold_keeps I f each b start [] = start
fold_keeps I f each b start (x ∷ xs) = fold_keeps I f each (f b x) (each b x start) xs

pub either_way : {A : Type 0} (P : A → Type 0) (b : Bool) (x y : A) → P x → P y → P (if b then x else y)
either_way P true x y one two = one
either_way P false x y one two = two

-- all rows so far have a fact
pub record AreAll (P : JournalRow → Type 0) (o : Offers) : Type 0 where
  pub refused : All P o.refused
  pub came : All P o.came

module _ (plant : Plant) (walks : List (List PortNo)) (k : ℕ) (P : JournalRow → Type 0) (refuses : (at : Step) (parcel : Parcel) → P (refused_row k at parcel))
    (comes : (h : Handed) → P (came_row k h)) where
  all_offer : (kind : Class) (parcel : Parcel) (o : Offers) (at : Step) → AreAll P o → AreAll P (offer k kind parcel o at)
  all_offer kind parcel o at all =
      either_way (AreAll P) (length (queue_of kind (gate_at o.gates at)) == QUEUE_ROOM) _ _
      (record { refused = All-push P o.refused (refused_row k at parcel) all.refused (refuses at parcel); came = all.came })
      (record { refused = all.refused; came = all.came })

  all_offer_by : (kind : Class) (parcel : Parcel) (o : Offers) (step : Option Step) → AreAll P o → AreAll P (offer_by k kind parcel o step)
  all_offer_by kind parcel o None all = all
  all_offer_by kind parcel o (Some at) all = all_offer kind parcel o at all

  all_pass : (o : Offers) (h : Handed) (entry : Option Traffic) → AreAll P o → AreAll P (pass_on plant walks k o h entry)
  all_pass o h None all = all
  all_pass o h (Some t) all =
      either_way (AreAll P) (t.target.0 == h.device.0) _ _
      (record { refused = all.refused; came = All-push P o.came (came_row k h) all.came (comes h) })
      (all_offer_by t.«class» h.parcel o _ all)

  pub offers_all : (loads : Loads) → AreAll P (offered plant walks k loads)
  offers_all loads =
      fold_keeps (AreAll P) (hand_over plant walks k) (λ o h all. all_pass o h (slice_get plant.traffic h.parcel.traffic) all) (no_offers loads.gates)
      (record { refused = All-nil P; came = All-nil P }) (loads.flight ++ made_in plant k)
