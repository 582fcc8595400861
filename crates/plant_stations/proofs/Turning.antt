-- The stations after a cycle.
use Rattle.std.proofs.Common.{◌≡◌, ◌⊎◌, ℕ, zero, suc, ◌+◌, ◌==◌, ◌<◌, Bool, if◌then◌else◌, List, [], ◌∷◌, map, Option, inl, inr, refl, sym, ◌∙◌, ap, subst, arith}
use Rattle.std.specs.List.{AllZip, Contains}
use Rattle.std.proofs.lemmas.Bool.{eq-eqb, ne_eqb}
use Rattle.std.proofs.lemmas.List.Sums.{sum_by-cons}
use Rattle.cycle_frames.specs.Came.{HaveCome}
use Rattle.cycle_frames.specs.declared.came.Came.{Came}
use Rattle.irt_base.specs.declared.blocks.Bundle.{Bundle}
use Rattle.irt_base.specs.declared.blocks.Entry.{Entry}
use Rattle.irt_base.specs.declared.plants.Plant.{Plant}
use Rattle.iso_rules.specs.Hold.{IsHeldOf}
use Rattle.iso_rules.specs.Image.{IsPart, IsImage, AreArrivals}
use Rattle.iso_rules.specs.Station.{data_words, words_in, entries_at, consumed_of}
use Rattle.iso_station.specs.Consumer.{ConsumerState, if_frame, with_frame, after_cycle, image_in, count_of, image_count}
use Rattle.iso_station.specs.Cycles.{with_frames, consumer_after, came_by, IsHeldImage}
use Rattle.iso_station.specs.Held.{Held, ended}
use Rattle.iso_station.proofs.HeldLemmas.{ended_entry}
use Rattle.iso_station.proofs.TakingLemmas.{if_frame_entry}
use Rattle.plan_rules.specs.Places.{IsAccepted}
use Rattle.plan_rules.specs.Plan.{IsPlan, setup_of}
use Rattle.plan_rules.specs.Way.{Setup}
use Rattle.plan_rules.specs.World.{WorldRow}
use Rattle.rtc3_frame.specs.Frame.{Fields}
use Rattle.plant_stations.specs.Loaded.{AreLoaded}
use Rattle.plant_stations.specs.Stations.{HasArrived, HasTaken}
use Rattle.plant_stations.specs.Taken.{PlaysCycle}
use Rattle.plant_stations.specs.Whole.{IsConsumerOf}
use Rattle.plant_stations.proofs.Arriving.{has_arrived}
use Rattle.plant_stations.proofs.Lists.{zip_of}
use Rattle.plant_stations.proofs.Loading.{entries_here}
use Rattle.plant_stations.proofs.Receiving.{same_cycle}

-- ---- what a consumer is of

map_entries : (f : Held → Held) → ((h : Held) → (f h).entry ≡ h.entry) → (frames : List Held) →
    map (λ (h : Held). h.entry) (map f frames) ≡ map (λ (h : Held). h.entry) frames
map_entries f same [] = refl
map_entries f same (h ∷ hs) =
    ap (λ e. e ∷ map (λ (x : Held). x.entry) (map f hs)) (same h) ∙ ap (λ es. h.entry ∷ es) (map_entries f same hs)

still_of : (bundle : Bundle) (fs : List Fields) (c : ConsumerState) → IsConsumerOf bundle c → IsConsumerOf bundle (with_frames fs c)
still_of bundle [] c is = is
still_of bundle (f ∷ fs) c is =
    still_of bundle fs (with_frame f c)
    (record { factor = is.factor; entries = map_entries (if_frame f) (if_frame_entry f) c.frames ∙ is.entries })

ended_of : (bundle : Bundle) (c : ConsumerState) → IsConsumerOf bundle c → IsConsumerOf bundle (after_cycle c)
ended_of bundle c is =
    record { factor = is.factor; entries = map_entries (ended c.cycle) (ended_entry c.cycle) c.frames ∙ is.entries }

count_by_entries : (frames : List Held) → words_in (map (λ (h : Held). h.entry) frames) ≡ count_of frames
count_by_entries [] = refl
count_by_entries (h ∷ hs) =
    sum_by-cons data_words h.entry (map (λ (x : Held). x.entry) hs)
    ∙ ap (λ n. data_words h.entry + n) (count_by_entries hs)
    ∙ sym (sum_by-cons (λ (x : Held). data_words x.entry) h hs)

pub own_count : (bundle : Bundle) (c : ConsumerState) → IsConsumerOf bundle c → image_count c ≡ words_in (consumed_of bundle.frames.entries)
own_count bundle c is = sym (count_by_entries c.frames) ∙ ap words_in is.entries

pub plays_of : (bundle : Bundle) (device : ℕ) (frames : List (List ℕ)) (came : List Came) (a b : ConsumerState) (out : List ℕ) →
    PlaysCycle device frames came a b out → IsConsumerOf bundle a → IsConsumerOf bundle b
plays_of bundle device frames came a b out plays is =
    subst (IsConsumerOf bundle) (sym plays.state)
    (ended_of bundle plays.taken (subst (IsConsumerOf bundle) (sym plays.takes.state) (still_of bundle plays.takes.fields a is)))

pub plays_cycle : (device : ℕ) (frames : List (List ℕ)) (came : List Came) (a b : ConsumerState) (out : List ℕ) →
    PlaysCycle device frames came a b out → b.cycle ≡ a.cycle + 1
plays_cycle device frames came a b out plays =
    ap (λ (c : ConsumerState). c.cycle) plays.state
    ∙ ap (λ (c : ConsumerState). c.cycle + 1) plays.takes.state ∙ ap (λ n. n + 1) (same_cycle plays.takes.fields a)

-- ---- one cycle more

-- the frames of a cycle beside those of others
abbrev frames_with : (ℕ → List Fields) → ℕ → List Fields → ℕ → List Fields
frames_with before k now j = if j == k then now else before j

with_now : (before : ℕ → List Fields) (k : ℕ) (now : List Fields) → frames_with before k now k ≡ now
with_now before k now = ap (λ (b : Bool). if b then now else before k) (eq-eqb k k refl)

with_before : (before : ℕ → List Fields) (k : ℕ) (now : List Fields) (j : ℕ) → j < k → frames_with before k now j ≡ before j
with_before before k now j less =
    ap (λ (b : Bool). if b then now else before j) (ne_eqb j k (λ same. omega (arith, less, same)))

after_same : (bundle : Bundle) (f g : ℕ → List Fields) (n : ℕ) → ((j : ℕ) → j < n → f j ≡ g j) → consumer_after bundle f n ≡ consumer_after bundle g n
after_same bundle f g zero same = refl
after_same bundle f g (suc n) same =
    ap (λ fs. after_cycle (with_frames fs (consumer_after bundle f n))) (same n (omega arith))
    ∙ ap (λ c. after_cycle (with_frames (g n) c)) (after_same bundle f g n (λ j less. same j (omega (arith, less))))

before_or_now : (j k : ℕ) → j < k + 1 → (j < k) ⊎ (j ≡ k)
before_or_now j k below = grind arith

module _ (plant : Plant) (bundles : List Bundle) (plan : IsPlan plant bundles) (accepted : IsAccepted plant bundles) (world : List WorldRow)
    (taken : ℕ → ℕ → List ℕ) (k : ℕ) (frames : List (List ℕ)) (came : List Came) (loaded : AreLoaded (setup_of plant bundles) taken k frames)
    (have : HaveCome (setup_of plant bundles) world k came) where
  abbrev setup : Setup
  setup = setup_of plant bundles

  module _ (device : ℕ) (a b : ConsumerState) (out : List ℕ) (now : a.cycle ≡ k) (plays : PlaysCycle device frames came a b out)
      (has : HasTaken plant bundles world taken k device a) (own : IsConsumerOf has.bundle a) where
    abbrev since : ℕ → List Fields
    since = frames_with has.frames k plays.takes.fields

    state_is : b ≡ consumer_after has.bundle since (k + 1)
    state_is =
        let one : k + 1 ≡ suc k = omega arith in
        let past : a ≡ consumer_after has.bundle since k =
        has.state ∙ after_same has.bundle has.frames since k (λ j less. sym (with_before has.frames k plays.takes.fields j less)) in
        plays.state ∙ ap after_cycle plays.takes.state ∙ ap (λ c. after_cycle (with_frames plays.takes.fields c)) past
        ∙ ap (λ fs. after_cycle (with_frames fs (consumer_after has.bundle since k))) (sym (with_now has.frames k plays.takes.fields))
        ∙ ap (consumer_after has.bundle since) (sym one)

    since_arrived : (j : ℕ) (e : Entry) → j < k + 1 → Contains (consumed_of has.bundle.frames.entries) e → HasArrived setup world taken device j (since j) e
    since_arrived j e below is = elim (before_or_now j k below) [
      | inl less ↦
          subst (λ fs. HasArrived setup world taken device j fs e) (sym (with_before has.frames k plays.takes.fields j less)) (has.arrived j e less is)
      | inr same ↦
          subst (λ i. HasArrived setup world taken device i (since i) e) (sym same)
          (subst (λ fs. HasArrived setup world taken device k fs e) (sym (with_now has.frames k plays.takes.fields))
          (has_arrived plant bundles plan accepted world taken k frames came loaded have device has.bundle has.held a plays.taken own now plays.takes e is))
    ]

    pub has_taken : HasTaken plant bundles world taken (k + 1) device b
    has_taken = record { bundle = has.bundle; held = has.held; frames = since; state = state_is; arrived = since_arrived }

    pub is_image : ((bundle : Bundle) (fs : ℕ → List Fields) (n : ℕ) → IsHeldImage bundle fs n (image_in (consumer_after bundle fs (n + 1)))) →
        ((s : Setup) (w : List WorldRow) (t : ℕ → ℕ → List ℕ) (d n : ℕ) (e : Entry) (o : ℕ → Option (List ℕ)) (part : List ℕ) →
        AreArrivals s w t d n e o → IsHeldOf o e n part → IsPart s w t d n e part) → IsImage setup world taken device k out
    is_image hold parts =
        let shown = hold has.bundle since k in
        let es : consumed_of has.bundle.frames.entries ≡ consumed_of (entries_at setup device) =
        ap consumed_of (sym (entries_here plant bundles device has.bundle has.held)) in
        record {
          parts = shown.parts;
          each = subst (λ (xs : List Entry). AllZip (IsPart setup world taken device k) xs shown.parts) es
              (zip_of (λ (e : Entry) (part : List ℕ). IsHeldOf (λ c. came_by e (since c)) e k part) (IsPart setup world taken device k)
              (consumed_of has.bundle.frames.entries) shown.parts
              (λ e part is held. parts setup world taken device k e (λ c. came_by e (since c)) part
              (record {
                each = λ c close reach. (since_arrived c e (omega (arith, close)) is).each reach;
                only = λ c close some. (since_arrived c e (omega (arith, close)) is).only some;
              }) held)
              shown.each);
          joined = plays.image ∙ ap image_in state_is ∙ shown.joined;
        }
