-- What has to be sent, delivered and dropped stands in the journal once.
use Rattle.std.proofs.Common.{◌≡◌, ℕ, ◌<◌, Bool, true, false, List, [], inl, inr, refl, ◌∙◌, ap, subst, arith}
use Rattle.std.specs.List.{Contains}
use Rattle.std.proofs.lemmas.List.Elements.{All-contains, All-nil}
use Rattle.irt_base.specs.declared.blocks.Bundle.{Bundle}
use Rattle.irt_base.specs.declared.plants.Plant.{Plant}
use Rattle.plan_rules.specs.Expected.{IsSafeOver}
use Rattle.plan_rules.specs.Once.{HasToSend, HasToReach}
use Rattle.plan_rules.specs.Plan.{setup_of}
use Rattle.plan_rules.specs.World.{WorldRow}
use Rattle.cycle_rows.specs.declared.rows.JournalRow.{JournalRow}
use Rattle.cycle_rows.specs.declared.rows.JournalRow.TheVariants.{Occupy, Deliver, Missed}
use Rattle.cycle_rows.specs.Apart.{AreClear}
use Rattle.cycle_rows.specs.Journal.{IsJournal, no_parcels}
use Rattle.cycle_rows.specs.Parcels.{IsParcelRow, AreParcelRows}
use Rattle.cycle_rows.specs.Rows.{IsMissed, IsFrameRow, cycle_of}
use Rattle.cycle_rows.specs.Safe.{is_sending, is_delivery, is_drop, IsSafeJournal}
use Rattle.cycle_rows.proofs.Apart.{rows_apart}
use Rattle.cycle_rows.proofs.Counted.{IsOfFrames, sending_is, sending_passes, delivery_is, delivery_passes, drop_is, drop_passes, counted}
use Rattle.cycle_rows.proofs.Journals.{row_of}
use Rattle.cycle_rows.proofs.Ordered.{count_one}
use Rattle.cycle_rows.proofs.Lists.{AllPairs-none}

-- a row of a parcel fails a test that only frames' rows pass
parcel_fails : (plant : Plant) (bundles : List Bundle) (world : List WorldRow) (p : JournalRow → Bool) → ((r : JournalRow) → IsParcelRow plant bundles world r → p r ≡ true → ⊥) →
    (r : JournalRow) → IsParcelRow plant bundles world r → (b : Bool) → p r ≡ b → p r ≡ false
parcel_fails plant bundles world p never r is false e = e
parcel_fails plant bundles world p never r is true e = absurd (never r is e)

module _ (plant : Plant) (bundles : List Bundle) (world : List WorldRow) (safe : IsSafeOver plant bundles world)
    (parcels : ℕ → List JournalRow) (keep : (k : ℕ) → AreParcelRows plant bundles world k (parcels k)) where
  abbrev IsParcel : JournalRow → Type 0
  IsParcel r = IsParcelRow plant bundles world r

  others_fail : (p : JournalRow → Bool) → ((r : JournalRow) → IsParcel r → p r ≡ true → ⊥) → (k : ℕ) (r : JournalRow) → Contains (parcels k) r → p r ≡ false
  others_fail p never k r is = parcel_fails plant bundles world p never r (All-contains (IsParcelRow plant bundles world) (parcels k) r (keep k).each is) (p r) refl

  -- ---- sendings

  sending_of : (k d p f : ℕ) → HasToSend (setup_of plant bundles) world k d p f → IsOfFrames (setup_of plant bundles) world parcels k (is_sending k d p f)
  sending_of k d p f has = record {
    cycles = λ r passes. let (start, end, same) = sending_is k d p f r passes in ap cycle_of same;
    others = others_fail (is_sending k d p f) (λ r is passes.
        let (start, end, same) = sending_is k d p f r passes in
        subst IsParcel same is);
    once = λ frames segment.
        let one = safe.sent.sent k d p f has in
        let r : JournalRow = Occupy k (record { 0 = d }) (record { 0 = p }) (record { 0 = f }) one.one.0 one.one.1 in
        count_one (is_sending k d p f) frames r segment.order ((segment.exactly r).1 (refl, one.is)) (sending_passes k d p f one.one.0 one.one.1)
        (λ s among passes.
        let (start, end, same) = sending_is k d p f s passes in
        let row = subst (IsFrameRow (setup_of plant bundles) world) same ((segment.exactly s).0 among).1 in
        let times = one.only (start, end) row in
        same ∙ (λ i. Occupy k (record { 0 = d }) (record { 0 = p }) (record { 0 = f }) (times i).0 (times i).1));
  }

  -- ---- deliveries

  delivery_of : (k d f : ℕ) → HasToReach (setup_of plant bundles) world k d f → IsOfFrames (setup_of plant bundles) world parcels k (is_delivery k d f)
  delivery_of k d f has = record {
    cycles = λ r passes. let (end, same) = delivery_is k d f r passes in ap cycle_of same;
    others = others_fail (is_delivery k d f) (λ r is passes.
        let (end, same) = delivery_is k d f r passes in
        subst IsParcel same is);
    once = λ frames segment.
        let one = safe.reached.reached k d f has in
        let r : JournalRow = Deliver k (record { 0 = d }) (record { 0 = f }) one.one in
        count_one (is_delivery k d f) frames r segment.order ((segment.exactly r).1 (refl, one.is)) (delivery_passes k d f one.one)
        (λ s among passes.
        let (end, same) = delivery_is k d f s passes in
        let row = subst (IsFrameRow (setup_of plant bundles) world) same ((segment.exactly s).0 among).1 in
        let ends = one.only end row in
        same ∙ (λ i. Deliver k (record { 0 = d }) (record { 0 = f }) (ends i)));
  }

  -- ---- drops

  drop_of : (k d f : ℕ) → IsMissed (setup_of plant bundles) world k d f → IsOfFrames (setup_of plant bundles) world parcels k (is_drop k d f)
  drop_of k d f missed = record {
    cycles = λ r passes. ap cycle_of (drop_is k d f r passes);
    others = others_fail (is_drop k d f) (λ r is passes. subst IsParcel (drop_is k d f r passes) is);
    once = λ frames segment.
        let r : JournalRow = Missed k (record { 0 = d }) (record { 0 = f }) in
        count_one (is_drop k d f) frames r segment.order ((segment.exactly r).1 (refl, missed)) (drop_passes k d f) (λ s among passes. drop_is k d f s passes);
  }

  -- ---- the journal

  -- a frame's row stands there for a cycle below the number of cycles, and takes place
  frame_row : (n : ℕ) (rows : List JournalRow) → IsJournal (setup_of plant bundles) world parcels n rows → (r : JournalRow) → Contains rows r → ¬ IsParcel r →
      (cycle_of r < n) × IsFrameRow (setup_of plant bundles) world r
  frame_row n rows journal r is no_parcel =
      let (k, below, of) = row_of (setup_of plant bundles) world parcels n rows journal r is in
      elim of [
        | inl frame ↦ let cycle = frame.0 in (omega arith, frame.1)
        | inr parcel ↦ absurd (no_parcel (All-contains (IsParcelRow plant bundles world) (parcels k) r (keep k).each parcel))
      ]

  pub safe_journal : (n : ℕ) (rows : List JournalRow) → IsJournal (setup_of plant bundles) world parcels n rows → IsSafeJournal (setup_of plant bundles) world n rows
  safe_journal n rows journal = record {
    apart = rows_apart plant bundles world safe parcels keep n rows journal;
    sends = record {
      once = λ k d p f below has. counted (setup_of plant bundles) world parcels k (is_sending k d p f) (sending_of k d p f has) n rows journal below;
      only = λ k d p f start end is.
          let (below, row) = frame_row n rows journal (Occupy k d p f start end) is (λ no. no) in
          (below, safe.sent.only (record { cycle = k; device = d.0; port = p.0; frame = f.0; start = start; end = end }) row);
    };
    delivers = record {
      once = λ k d f below has. counted (setup_of plant bundles) world parcels k (is_delivery k d f) (delivery_of k d f has) n rows journal below;
      only = λ k d f end is.
          let (below, row) = frame_row n rows journal (Deliver k d f end) is (λ no. no) in
          (below, safe.reached.only (record { cycle = k; device = d.0; frame = f.0; end = end }) row);
      in_time = λ k d f end is.
          let (below, row) = frame_row n rows journal (Deliver k d f end) is (λ no. no) in
          safe.in_time (record { cycle = k; device = d.0; frame = f.0; end = end }) row;
    };
    drops = record {
      once = λ k d f below missed. counted (setup_of plant bundles) world parcels k (is_drop k d f) (drop_of k d f missed) n rows journal below;
      only = λ k d f is. frame_row n rows journal (Missed k d f) is (λ no. no);
    };
  }

no_parcel_rows : (plant : Plant) (bundles : List Bundle) (world : List WorldRow) (k : ℕ) → AreParcelRows plant bundles world k []
no_parcel_rows plant bundles world k = record {
  cycle = All-nil (λ (r : JournalRow). cycle_of r ≡ k);
  each = All-nil (IsParcelRow plant bundles world);
  apart = AllPairs-none AreClear;
}

pub safe_frames : (plant : Plant) (bundles : List Bundle) (world : List WorldRow) → IsSafeOver plant bundles world →
    (n : ℕ) (rows : List JournalRow) → IsJournal (setup_of plant bundles) world no_parcels n rows → IsSafeJournal (setup_of plant bundles) world n rows
safe_frames plant bundles world safe = safe_journal plant bundles world safe no_parcels (no_parcel_rows plant bundles world)
