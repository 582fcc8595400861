-- What a plant left is what the record has where the record is replayed.
use Rattle.std.proofs.Common.{◌≡◌, ℕ, ◌<◌, Bool, List, [], length, map, slice_get, Some, sym, ◌∙◌, ap, subst, arith, IsTrue}
use Rattle.std.specs.Prelude.{◌↔◌}
use Rattle.std.proofs.lemmas.List.{ext_get_or, length-map}
use Rattle.std.proofs.lemmas.Option.{slice_get_within, get_or_from_slice_get}
use Rattle.cycle_rows.specs.Journal.{IsJournal}
use Rattle.cycle_rows.specs.declared.rows.JournalRow.{JournalRow}
use Rattle.irt_base.specs.declared.blocks.Bundle.{Bundle}
use Rattle.irt_base.specs.declared.numbers.PortNo.{PortNo}
use Rattle.irt_base.specs.declared.plants.App.{App}
use Rattle.irt_base.specs.declared.plants.Plant.{Plant}
use Rattle.irt_world.specs.Rows.{world_row}
use Rattle.irt_world.specs.declared.rows.World.{World}
use Rattle.iso_plant.specs.History.{AppCycles}
use Rattle.iso_plant.specs.Replay.{PlantView, IsReplay, images_of, setup_in, takes_of, world_in}
use Rattle.iso_plant.specs.declared.plant.History.{History}
use Rattle.iso_rules.specs.Image.{IsImage}
use Rattle.iso_rules.specs.Legal.{HasTrueImages}
use Rattle.iso_rules.specs.Lockstep.{AppLog, words_taken}
use Rattle.iso_run.specs.Run.{IsRunJournal}
use Rattle.parcel_rules.specs.Rows.{parcel_rows}
use Rattle.plan_rules.proofs.Held.{some_at}
use Rattle.plan_rules.specs.Plan.{setup_of}
use Rattle.plan_rules.specs.Way.{Setup}
use Rattle.plan_rules.specs.World.{WorldRow}
use Rattle.record_text.specs.declared.record.Record.{Record}
use Rattle.run_replay.proofs.Playing.{other_at, shape_in, takes_are}
use Rattle.run_replay.specs.Cycle.{HasTaken}
use Rattle.run_replay.specs.Left.{HasLeft}
use Rattle.run_replay.specs.Replayed.{HasShape, IsReplayed, words_of_logs}

-- the laws that this rests on: a device has one image after a cycle, and a run has one journal
abbrev pub ImagesAreOne : Type 0
ImagesAreOne = (setup : Setup) (world : List WorldRow) (taken : ℕ → ℕ → List ℕ) (device k : ℕ) (image other : List ℕ) →
    IsImage setup world taken device k image → IsImage setup world taken device k other → image ≡ other

abbrev pub JournalsAreOne : Type 0
JournalsAreOne = (setup : Setup) (world : List WorldRow) (parcels : ℕ → List JournalRow) (cycles : ℕ) (rows others : List JournalRow) →
    IsJournal setup world parcels cycles rows → IsJournal setup world parcels cycles others → rows ≡ others

-- the plant's history, by app
pub record AreHistories (v : PlantView) (histories : List AppCycles) : Type 0 where
  pub count : length histories ≡ length v.plant.apps
  pub apps : (n : ℕ) (a : AppCycles) → slice_get histories n ≡ Some a → (a.takes ≡ takes_of n v) × (a.images ≡ images_of n v)

module _ (v : PlantView) (logs : List AppLog) (replay : IsReplay v) (takes : v.takes ≡ map (λ (l : AppLog). l.takes) logs) where
  -- an image that the plant published
  shown : (n k : ℕ) (app : App) (image : List ℕ) → slice_get v.plant.apps n ≡ Some app → slice_get (images_of n v) k ≡ Some image →
      IsImage (setup_in v) (world_in v) (words_of_logs logs) app.device.0 k image
  shown n k app image is at =
      subst (λ ts. IsImage (setup_in v) (world_in v) (words_taken ts) app.device.0 k image) takes (replay.images n k app image is at)

  true_images : (n : ℕ) (app : App) (log : AppLog) → slice_get v.plant.apps n ≡ Some app → images_of n v ≡ log.images →
      HasTrueImages (setup_in v) (world_in v) (words_of_logs logs) app.device.0 log
  true_images n app log is same = λ k image at. shown n k app image is (ap (λ l. slice_get l k) same ∙ at)

  same_images : ImagesAreOne → (n : ℕ) (app : App) (log : AppLog) → slice_get v.plant.apps n ≡ Some app → length log.images ≡ v.done →
      HasTrueImages (setup_in v) (world_in v) (words_of_logs logs) app.device.0 log → images_of n v ≡ log.images
  same_images one n app log is count all =
      let long = replay.cycles.published n (slice_get_within v.plant.apps n app is) in
      ext_get_or [] (images_of n v) log.images (long ∙ sym count)
      (λ k within.
      let (image, at) = some_at (images_of n v) k within in
      let (other, stands) = some_at log.images k (omega (arith, within, long, count)) in
      get_or_from_slice_get (images_of n v) k image [] at
      ∙ one (setup_in v) (world_in v) (words_of_logs logs) app.device.0 k image other (shown n k app image is at) (all k other stands)
      ∙ sym (get_or_from_slice_get log.images k other [] stands))

-- the journal of the plant is that of a run over its world
run_journal : (v : PlantView) → IsReplay v → v.done ≡ length v.world.rows → IsRunJournal v.plant v.bundles v.walks v.world v.rows
run_journal v replay done =
    subst (λ k. IsJournal (setup_in v) (world_in v) (parcel_rows v.plant v.bundles v.walks (world_in v)) k v.rows)
    (done ∙ sym (length-map v.world.rows (world_row v.plant v.bundles))) replay.journal

module _ (v : PlantView) (h : History) (r : Record) (replay : IsReplay v) (done : v.done ≡ length v.world.rows)
    (shape : HasShape (setup_in v) (length v.world.rows) r.apps) (taken : HasTaken v r.apps) (all : AreHistories v h.apps) (journal : h.journal ≡ v.rows) where
  shaped : HasShape (setup_in v) v.done r.apps
  shaped = subst (λ k. HasShape (setup_in v) k r.apps) (sym done) shape

  left_replayed : HasLeft h r → IsReplayed v.plant v.bundles v.walks v.world r
  left_replayed left = record {
    images = λ n app log is at.
        let (a, stands) = other_at h.apps v.plant.apps n app (sym all.count) is in
        true_images v r.apps replay (takes_are v r.apps replay.cycles shaped taken) n app log is
        (sym (all.apps n a stands).1 ∙ left.images n a log stands at);
    journal = subst (λ rows. IsRunJournal v.plant v.bundles v.walks v.world rows) (sym journal ∙ left.journal) (run_journal v replay done);
  }

  replayed_left : ImagesAreOne → JournalsAreOne → IsReplayed v.plant v.bundles v.walks v.world r → HasLeft h r
  replayed_left one one_journal replayed = record {
    images = λ n a log stands at.
        let (app, is) = other_at v.plant.apps h.apps n a all.count stands in
        (all.apps n a stands).1
        ∙ same_images v r.apps replay (takes_are v r.apps replay.cycles shaped taken) one n app log is (shaped.apps n app log is at).each.images
        (replayed.images n app log is at);
    journal = journal ∙ one_journal _ _ _ _ v.rows r.journal (run_journal v replay done) replayed.journal;
  }

-- for the plan that the plant plays
judged_of : (v : PlantView) (h : History) (r : Record) (plant : Plant) (bundles : List Bundle) (walks : List (List PortNo)) (world : World) →
    v.plant ≡ plant → v.bundles ≡ bundles → v.walks ≡ walks → v.world ≡ world → IsReplay v → v.done ≡ length v.world.rows →
    HasShape (setup_in v) (length v.world.rows) r.apps → HasTaken v r.apps → AreHistories v h.apps → h.journal ≡ v.rows →
    ImagesAreOne → JournalsAreOne → HasLeft h r ↔ IsReplayed plant bundles walks world r
judged_of v h r plant bundles walks world plants blocks ways outside replay done shape taken all journal one one_journal =
    subst (λ p. HasLeft h r ↔ IsReplayed p bundles walks world r) plants
    (subst (λ b. HasLeft h r ↔ IsReplayed v.plant b walks world r) blocks
    (subst (λ w. HasLeft h r ↔ IsReplayed v.plant v.bundles w world r) ways
    (subst (λ w. HasLeft h r ↔ IsReplayed v.plant v.bundles v.walks w r) outside
    (left_replayed v h r replay done shape taken all journal, replayed_left v h r replay done shape taken all journal one one_journal))))

-- The answer is right.
pub judged : (v : PlantView) (h : History) (r : Record) (logs : List AppLog) (cycles : ℕ) (answer : Bool) (plant : Plant) (bundles : List Bundle)
    (walks : List (List PortNo)) (world : World) → v.plant ≡ plant → v.bundles ≡ bundles → v.walks ≡ walks → v.world ≡ world → IsReplay v →
    v.done ≡ cycles → cycles ≡ length world.rows → HasShape (setup_of plant bundles) (length world.rows) r.apps → logs ≡ r.apps → HasTaken v logs →
    AreHistories v h.apps → h.journal ≡ v.rows → ImagesAreOne → JournalsAreOne → IsTrue answer ↔ HasLeft h r →
    IsTrue answer ↔ IsReplayed plant bundles walks world r
judged v h r logs cycles answer plant bundles walks world plants blocks ways outside replay done count shape same taken all journal one one_journal left =
    let rows : length world.rows ≡ length v.world.rows = ap (λ (w : World). length w.rows) (sym outside) in
    let is = judged_of v h r plant bundles walks world plants blocks ways outside replay (done ∙ count ∙ rows)
    (shape_in v plant bundles (length world.rows) (length v.world.rows) r.apps plants blocks rows shape) (subst (λ l. HasTaken v l) same taken)
    all journal one one_journal in
    (λ holds. is.0 (left.0 holds), λ replayed. left.1 (is.1 replayed))
