-- All stations after a cycle.
use Rattle.std.proofs.Common.{◌≡◌, ℕ, ◌+◌, ◌<◌, List, ◌++◌, length, take, drop, slice_get, Option, Some, All, sym, ◌∙◌, ap, subst, arith}
use Rattle.std.proofs.lemmas.List.{take_at}
use Rattle.std.proofs.lemmas.List.Elements.{All-from_recursion}
use Rattle.std.proofs.lemmas.Option.{same_Some, slice_get_within, slice_get-get_or, get_or_from_slice_get}
use Rattle.cycle_frames.specs.Came.{HaveCome}
use Rattle.cycle_frames.specs.declared.came.Came.{Came}
use Rattle.irt_base.specs.declared.blocks.Bundle.{Bundle}
use Rattle.irt_base.specs.declared.blocks.Entry.{Entry}
use Rattle.irt_base.specs.declared.plants.App.{App}
use Rattle.irt_base.specs.declared.plants.Plant.{Plant}
use Rattle.iso_rules.specs.Hold.{IsHeldOf}
use Rattle.iso_rules.specs.Image.{IsPart, AreArrivals}
use Rattle.iso_rules.specs.Station.{words_in, consumed_of, input_count}
use Rattle.iso_station.specs.Consumer.{ConsumerState, image_in, image_count}
use Rattle.iso_station.specs.Cycles.{consumer_after, IsHeldImage}
use Rattle.plan_rules.specs.Places.{IsAccepted}
use Rattle.plan_rules.specs.Plan.{IsPlan, setup_of}
use Rattle.plan_rules.specs.Way.{Setup}
use Rattle.plan_rules.specs.World.{WorldRow}
use Rattle.plant_rules.specs.Meets.{IsApp}
use Rattle.rtc3_frame.specs.Frame.{Fields}
use Rattle.plant_stations.specs.Loaded.{AreLoaded}
use Rattle.plant_stations.specs.Stations.{HavePlayed, AreImages, AreTrueImages}
use Rattle.plant_stations.specs.Taken.{CanPlay, PlaysCycle, PlayCycle}
use Rattle.plant_stations.specs.Whole.{IsConsumerOf, AreConsumers}
use Rattle.plant_stations.proofs.Lists.{some_at}
use Rattle.plant_stations.proofs.Loading.{entries_here}
use Rattle.plant_stations.proofs.Turning.{own_count, plays_of, plays_cycle, has_taken, is_image}

-- a list that was written in the place of another of its length
pub in_place_of : {A : Type 0} (new old : List A) (n : ℕ) → length new ≡ n → take n (new ++ drop (length new) old) ≡ new
in_place_of new old n long = take_at new (drop (length new) old) n long

pub by_place : {A : Type 0} (P : A → Type 0) (xs : List A) → All P xs → (n : ℕ) (x : A) → slice_get xs n ≡ Some x → P x
by_place P xs all n x is = subst P (get_or_from_slice_get xs n x x is) (all n x (slice_get_within xs n x is))

pub from_places : {A : Type 0} (P : A → Type 0) (xs : List A) → ((n : ℕ) (x : A) → slice_get xs n ≡ Some x → P x) → All P xs
from_places P xs each n d within = each n _ (slice_get-get_or xs n d within)

module _ (plant : Plant) (bundles : List Bundle) (plan : IsPlan plant bundles) where
  abbrev setup : Setup
  setup = setup_of plant bundles

  pub app_bundle : (n : ℕ) (app : App) → slice_get plant.apps n ≡ Some app → (b : Bundle) × (slice_get bundles app.device.0 ≡ Some b)
  app_bundle n app at =
      let within : app.device.0 < length plant.devices =
      by_place (IsApp plant) plant.apps (All-from_recursion (IsApp plant) plant.apps plan.rules.apps) n app at in
      let count = plan.count in some_at bundles app.device.0 (omega (arith, within, count))

  count_is : (n : ℕ) (app : App) (c : ConsumerState) (consumers : List ConsumerState) → AreConsumers plant bundles consumers → slice_get plant.apps n ≡ Some app →
      slice_get consumers n ≡ Some c → image_count c ≡ input_count setup app.device.0
  count_is n app c consumers are at stands =
      let (b, held) = app_bundle n app at in
      own_count b c (are.each n app b c at held stands)
      ∙ ap (λ (es : List Entry). words_in (consumed_of es)) (sym (entries_here plant bundles app.device.0 b held))

  pub can_play : (k : ℕ) (consumers : List ConsumerState) (images : List (List ℕ)) → AreConsumers plant bundles consumers →
      All (λ (c : ConsumerState). c.cycle ≡ k) consumers → AreImages plant setup images → CanPlay plant.apps k consumers images
  can_play k consumers images are now wide = record {
    count = are.count;
    outs = wide.count;
    cycle = by_place (λ (c : ConsumerState). c.cycle ≡ k) consumers now;
    words = λ n c image stands out.
        let count = are.count in
        let within = slice_get_within consumers n c stands in
        let (app, at) = some_at plant.apps n (omega (arith, within, count)) in
        wide.each n app image at out ∙ sym (count_is n app c consumers are at stands);
  }

  module _ (k : ℕ) (frames : List (List ℕ)) (came : List Came) (old new : List ConsumerState) (images : List (List ℕ)) (are : AreConsumers plant bundles old)
      (now : All (λ (c : ConsumerState). c.cycle ≡ k) old) (play : PlayCycle plant.apps frames came old new images) where
    -- one of them before, its app and its image
    record IsBefore (n : ℕ) (b : ConsumerState) : Type 0 where
      app : App
      a : ConsumerState
      image : List ℕ
      at : slice_get plant.apps n ≡ Some app
      stands : slice_get old n ≡ Some a
      plays : PlaysCycle app.device.0 frames came a b image

    before : (n : ℕ) (b : ConsumerState) → slice_get new n ≡ Some b → IsBefore n b
    before n b is =
        let within = slice_get_within new n b is in
        let count = play.count in
        let counts = are.count in
        let outs = play.outs in
        let (app, at) = some_at plant.apps n (omega (arith, within, count)) in
        let (a, stands) = some_at old n (omega (arith, within, count, counts)) in
        let (image, out) = some_at images n (omega (arith, within, count, outs)) in
        record { app = app; a = a; image = image; at = at; stands = stands; plays = play.each n app a b image at stands is out }

    pub next_consumers : AreConsumers plant bundles new
    next_consumers = record {
      count = play.count;
      each = λ n app bundle b at held is.
          let was = before n b is in
          let one : was.app ≡ app = same_Some was.app app (sym was.at ∙ at) in
          plays_of bundle was.app.device.0 frames came was.a b was.image was.plays (are.each n app bundle was.a at held was.stands);
    }

    pub next_cycle : All (λ (c : ConsumerState). c.cycle ≡ k + 1) new
    next_cycle = from_places (λ (c : ConsumerState). c.cycle ≡ k + 1) new (λ n b is.
        let was = before n b is in
        plays_cycle was.app.device.0 frames came was.a b was.image was.plays
        ∙ ap (λ m. m + 1) (by_place (λ (c : ConsumerState). c.cycle ≡ k) old now n was.a was.stands))

    pub next_images : AreImages plant setup images
    next_images = record {
      count = play.outs;
      each = λ n app image at out.
          let within = slice_get_within plant.apps n app at in
          let count = play.count in
          let counts = are.count in
          let (a, stands) = some_at old n (omega (arith, within, counts)) in
          let (b, is) = some_at new n (omega (arith, within, count)) in
          (play.each n app a b image at stands is out).count ∙ count_is n app a old are at stands;
    }

    module _ (accepted : IsAccepted plant bundles) (world : List WorldRow) (taken : ℕ → ℕ → List ℕ) (old_frames : List (List ℕ))
        (played : HavePlayed world taken k (record { plant = plant; bundles = bundles; consumers = old; frames = old_frames }))
        (loaded : AreLoaded setup taken k frames) (have : HaveCome setup world k came) where
      own_before : (n : ℕ) (app : App) (a : ConsumerState) (at : slice_get plant.apps n ≡ Some app) (stands : slice_get old n ≡ Some a) →
          IsConsumerOf (played.each n app a at stands).bundle a
      own_before n app a at stands = let has = played.each n app a at stands in are.each n app has.bundle a at has.held stands

      pub next_played : (new_frames : List (List ℕ)) →
          HavePlayed world taken (k + 1) (record { plant = plant; bundles = bundles; consumers = new; frames = new_frames })
      next_played new_frames = record {
        count = play.count;
        each = λ n app b at is.
            let within = slice_get_within plant.apps n app at in
            let counts = are.count in
            let outs = play.outs in
            let (a, stands) = some_at old n (omega (arith, within, counts)) in
            let (image, out) = some_at images n (omega (arith, within, outs)) in
            has_taken plant bundles plan accepted world taken k frames came loaded have app.device.0 a b image
            (by_place (λ (c : ConsumerState). c.cycle ≡ k) old now n a stands) (play.each n app a b image at stands is out)
            (played.each n app a at stands) (own_before n app a at stands);
      }

      pub next_true : ((bundle : Bundle) (fs : ℕ → List Fields) (n : ℕ) → IsHeldImage bundle fs n (image_in (consumer_after bundle fs (n + 1)))) →
          ((s : Setup) (w : List WorldRow) (t : ℕ → ℕ → List ℕ) (d n : ℕ) (e : Entry) (o : ℕ → Option (List ℕ)) (part : List ℕ) →
          AreArrivals s w t d n e o → IsHeldOf o e n part → IsPart s w t d n e part) → AreTrueImages setup world taken k images
      next_true hold parts = record {
        count = play.outs;
        each = λ n app image at out.
            let within = slice_get_within plant.apps n app at in
            let count = play.count in
            let counts = are.count in
            let (a, stands) = some_at old n (omega (arith, within, counts)) in
            let (b, is) = some_at new n (omega (arith, within, count)) in
            is_image plant bundles plan accepted world taken k frames came loaded have app.device.0 a b image
            (by_place (λ (c : ConsumerState). c.cycle ≡ k) old now n a stands) (play.each n app a b image at stands is out)
            (played.each n app a at stands) (own_before n app a at stands) hold parts;
      }
