-- Loaded frames are read as what was loaded.
use Rattle.std.proofs.Common.{◌≡◌, ℕ, ◌*◌, ◌/◌, ◌%◌, ◌==◌, List, length, slice_get, Option, Some, Ok, refl, sym, ◌∙◌, ap, subst, arith}
use Rattle.std.specs.List.{position_or_len}
use Rattle.std.proofs.Math.Nat.{mod-lt}
use Rattle.std.proofs.lemmas.Option.{same_Some}
use Rattle.irt_base.proofs.WordLaws.{length-bytes_of, words_of-bytes_of}
use Rattle.irt_base.specs.Valid.{IsDataLength}
use Rattle.irt_base.specs.Words.{bytes_of, words_of}
use Rattle.irt_base.specs.declared.blocks.Bundle.{Bundle}
use Rattle.irt_base.specs.declared.plants.Demand.{Demand}
use Rattle.irt_base.specs.declared.plants.Plant.{Plant}
use Rattle.iso_rules.specs.Image.{loaded_words}
use Rattle.iso_station.specs.Mark.{counter_of}
use Rattle.iso_station.specs.declared.mark.TheConstants.{DATA_STATUS}
use Rattle.plan_rules.specs.Places.{IsAccepted}
use Rattle.plan_rules.specs.Plan.{IsPlan, setup_of}
use Rattle.plan_rules.specs.Tree.{demand_of}
use Rattle.plan_rules.specs.Way.{Setup}
use Rattle.rtc3_frame.specs.Frame.{Fields, fields_at, frame_bytes, sent_fields}
use Rattle.rtc3_frame.proofs.FrameLaw.{frame_again, sent_is_frame}
use Rattle.plant_stations.specs.Loaded.{HasLoaded}
use Rattle.plant_stations.proofs.Loading.{demand_is, at_demand, asked_frame, one_number}

-- A demand's frame is read as what was loaded.
pub record HasRead (setup : Setup) (taken : ℕ → ℕ → List ℕ) (k : ℕ) (d : Demand) (frame : Option (List ℕ)) : Type 0 where
  pub bytes : List ℕ
  pub f : Fields
  pub stands : frame ≡ Some bytes
  pub told : fields_at bytes ≡ Ok f
  pub named : f.frame ≡ d.frame.0
  pub count : length f.csdu ≡ d.length
  pub words : words_of f.csdu ≡ loaded_words setup taken k d.frame.0
  pub counter : f.counter ≡ counter_of setup.plant.factor k
  pub good : f.status ≡ DATA_STATUS

whole_words : (count words bytes : ℕ) → words ≡ count / 8 → bytes ≡ 8 * words → count % 8 ≡ 0 → bytes ≡ count
whole_words count words bytes is long whole = omega (arith, is, long, whole)

data_again : (a b : ℕ) → a ≡ b → IsDataLength b → IsDataLength a
data_again a b same is = subst IsDataLength (sym same) is

module _ (plant : Plant) (bundles : List Bundle) (plan : IsPlan plant bundles) (accepted : IsAccepted plant bundles) where
  pub read_again : (taken : ℕ → ℕ → List ℕ) (k number : ℕ) (d : Demand) (frame : Option (List ℕ)) → slice_get plant.demands number ≡ Some d →
      HasLoaded (setup_of plant bundles) taken k d frame → HasRead (setup_of plant bundles) taken k d frame
  read_again taken k number d frame at loaded =
      let is = demand_is plant bundles plan accepted number d at in
      let words = loaded_words (setup_of plant bundles) taken k d.frame.0 in
      let counter = counter_of plant.factor k in
      let f = sent_fields d.frame.0 d.provider.0 (bytes_of words) counter DATA_STATUS in
      let long : length (bytes_of words) ≡ d.length =
      whole_words d.length (length words) (length (bytes_of words)) loaded.count (length-bytes_of words) is.length.1 in
      let (low, high) = is.frame in
      record {
        bytes = frame_bytes f;
        f = f;
        stands = loaded.layout;
        told = frame_again f (sent_is_frame d.frame.0 d.provider.0 (bytes_of words) counter DATA_STATUS (low, omega (arith, high))
            (data_again (length (bytes_of words)) d.length long is.length) (mod-lt (k * plant.factor) (omega arith)) (omega arith));
        named = refl;
        count = long;
        words = words_of-bytes_of words loaded.range;
        counter = refl;
        good = refl;
      }

  -- the demand at a number is the one that its frame is asked by
  pub asked_by : (number : ℕ) (d : Demand) → slice_get plant.demands number ≡ Some d → (x : Demand) → demand_of plant d.frame.0 ≡ Some x → x ≡ d
  asked_by number d at x asked =
      let place = position_or_len (λ (y : Demand). y.frame.0 == d.frame.0) plant.demands in
      let there = at_demand plant bundles plan accepted d.frame.0 place x asked refl in
      let one : place ≡ number =
      one_number plant.demands place number x d plan.rules.frames_differ there at (asked_frame plant bundles plan accepted d.frame.0 x asked) in
      same_Some x d (sym there ∙ ap (slice_get plant.demands) one ∙ at)
