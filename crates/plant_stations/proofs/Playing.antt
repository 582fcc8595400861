-- The consumers of apps, one after the other.
use Rattle.std.proofs.Common.{◌≡◌, ◌≢◌, ◌⊎◌, ℕ, ◌+◌, ◌<◌, ◌≤◌, List, length, slice_get, Some, inl, inr, refl, sym, ◌∙◌, ap, subst, arith}
use Rattle.std.specs.Prelude.{slice_set}
use Rattle.std.proofs.lemmas.List.{length-set}
use Rattle.std.proofs.lemmas.Option.{same_Some, slice_get_within}
use Rattle.cycle_frames.specs.declared.came.Came.{Came}
use Rattle.irt_base.specs.declared.plants.App.{App}
use Rattle.iso_station.specs.Consumer.{ConsumerState}
use Rattle.iso_station.proofs.Placing.{set_there, set_elsewhere}
use Rattle.plant_stations.specs.Taken.{CanPlay, PlaysCycle, PlayCycle}

module _ (apps : List App) (frames : List (List ℕ)) (came : List Came) (k : ℕ) (old : List ConsumerState) (room : List (List ℕ)) where
  -- those before a number did
  pub record PlayedTo (new : List ConsumerState) (images : List (List ℕ)) (end : ℕ) : Type 0 where
    pub count : length new ≡ length apps
    pub outs : length images ≡ length apps
    pub each : (n : ℕ) (app : App) (a b : ConsumerState) (image : List ℕ) → n < end → slice_get apps n ≡ Some app → slice_get old n ≡ Some a →
        slice_get new n ≡ Some b → slice_get images n ≡ Some image → PlaysCycle app.device.0 frames came a b image
    pub left : (n : ℕ) → end ≤ n → slice_get new n ≡ slice_get old n
    pub rooms : (n : ℕ) → end ≤ n → slice_get images n ≡ slice_get room n

  pub none_played : CanPlay apps k old room → PlayedTo old room 0
  none_played ready = record {
    count = ready.count;
    outs = ready.outs;
    each = λ n app a b image before. absurd (omega arith);
    left = λ n after. refl;
    rooms = λ n after. refl;
  }

  pub all_played : (new : List ConsumerState) (images : List (List ℕ)) (end : ℕ) → length apps ≤ end → PlayedTo new images end →
      PlayCycle apps frames came old new images
  all_played new images end past to = record {
    count = to.count;
    outs = to.outs;
    each = λ n app a b image at.
        to.each n app a b image (let within = slice_get_within apps n app at in omega (arith, within, past)) at;
  }

  before_or_at : (n end : ℕ) → n < end + 1 → (n < end) ⊎ (n ≡ end)
  before_or_at n end below = grind arith

  pub play_step : (new : List ConsumerState) (images : List (List ℕ)) (i : ℕ) (app : App) (a b : ConsumerState) (was image : List ℕ) →
      PlayedTo new images i → slice_get apps i ≡ Some app → slice_get new i ≡ Some a → slice_get images i ≡ Some was →
      PlaysCycle app.device.0 frames came a b image → PlayedTo (slice_set new i b) (slice_set images i image) (i + 1)
  play_step new images i app a b was image to at stands out plays = record {
    count = length-set new i b ∙ to.count;
    outs = length-set images i image ∙ to.outs;
    each = λ n other first second shown below there before after given. elim (before_or_at n i below) [
      | inl less ↦
          let apart : n ≢ i = λ same. omega (arith, less, same) in
          to.each n other first second shown less there before (sym (set_elsewhere new i n b apart) ∙ after) (sym (set_elsewhere images i n image apart) ∙ given)
      | inr same ↦
          let one : app ≡ other = same_Some app other (sym at ∙ ap (slice_get apps) (sym same) ∙ there) in
          let start : a ≡ first = same_Some a first (sym stands ∙ to.left i (omega arith) ∙ ap (slice_get old) (sym same) ∙ before) in
          let end : b ≡ second = same_Some b second (sym (set_there new i b a stands) ∙ ap (slice_get (slice_set new i b)) (sym same) ∙ after) in
          let told : image ≡ shown = same_Some image shown (sym (set_there images i image was out) ∙ ap (slice_get (slice_set images i image)) (sym same) ∙ given) in
          subst (λ (x : App). PlaysCycle x.device.0 frames came first second shown) one
          (subst (λ (x : ConsumerState). PlaysCycle app.device.0 frames came x second shown) start
          (subst (λ (x : ConsumerState). PlaysCycle app.device.0 frames came a x shown) end
          (subst (λ ws. PlaysCycle app.device.0 frames came a b ws) told plays)))
    ];
    left = λ n after. set_elsewhere new i n b (λ same. omega (arith, after, same)) ∙ to.left n (omega (arith, after));
    rooms = λ n after. set_elsewhere images i n image (λ same. omega (arith, after, same)) ∙ to.rooms n (omega (arith, after));
  }
