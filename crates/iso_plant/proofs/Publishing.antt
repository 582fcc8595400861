-- Images published to apps, one after the other.
use Rattle.std.proofs.Common.{◌≡◌, ℕ, ◌+◌, ◌<◌, ◌≤◌, List, [], ◌∷◌, ◌++◌, length, slice_get, Some, inl, inr, refl, sym, ◌∙◌, ap, arith}
use Rattle.std.specs.Prelude.{slice_set}
use Rattle.std.proofs.lemmas.List.{length-set}
use Rattle.std.proofs.lemmas.Option.{same_Some, slice_get_within}
use Rattle.iso_station.proofs.Placing.{set_there, set_elsewhere}
use Rattle.iso_plant.specs.Exchanged.{CanPublish, PublishesAll}
use Rattle.iso_plant.specs.History.{AppCycles, AreSameEnds, PublishesTo, with_image}
use Rattle.iso_plant.specs.Step.{EndsView}
use Rattle.iso_plant.proofs.Taking.{before_or_at, same_ends, then_same}

module _ (old : List AppCycles) (images : List (List ℕ)) (before : EndsView) where
  -- to the apps before a number
  pub record PublishedTo (new : List AppCycles) (now : EndsView) (end : ℕ) : Type 0 where
    pub count : length new ≡ length old
    pub histories : (n : ℕ) (a : AppCycles) (image : List ℕ) → n < end → slice_get old n ≡ Some a → slice_get images n ≡ Some image →
        slice_get new n ≡ Some (with_image image a)
    pub left : (n : ℕ) → end ≤ n → slice_get new n ≡ slice_get old n
    pub same : AreSameEnds before now
    pub published : (n : ℕ) (image : List ℕ) → n < end → slice_get images n ≡ Some image → now.published n ≡ image ∷ []
    pub fresh : (n : ℕ) → end ≤ n → now.published n ≡ []
    pub taken : (n : ℕ) → now.takes n ≡ before.takes n

  pub none_published : CanPublish old images before → PublishedTo old before 0
  none_published ready = record {
    count = refl;
    histories = λ n a image below. absurd (omega (arith, below));
    left = λ n past. refl;
    same = same_ends before;
    published = λ n image below. absurd (omega (arith, below));
    fresh = λ n past. ready.fresh n;
    taken = λ n. refl;
  }

  pub all_published : (new : List AppCycles) (now : EndsView) (end : ℕ) → length images ≤ end → PublishedTo new now end →
      PublishesAll old new images before now
  all_published new now end past to =
      let below : (n : ℕ) (image : List ℕ) → slice_get images n ≡ Some image → n < end =
      λ n image at. omega (arith, slice_get_within images n image at, past) in
      record {
        count = to.count;
        histories = λ n a image there at. to.histories n a image (below n image at) there at;
        same = to.same;
        published = λ n image at. to.published n image (below n image at) at;
        taken = to.taken;
      }

  -- one more
  pub publish_step : (new : List AppCycles) (now next : EndsView) (i : ℕ) (a b : AppCycles) (image : List ℕ) → PublishedTo new now i →
      slice_get new i ≡ Some a → slice_get images i ≡ Some image → b ≡ with_image image a → PublishesTo i image now next →
      PublishedTo (slice_set new i b) next (i + 1)
  publish_step new now next i a b image to stands at is publishes =
      let was_old : slice_get old i ≡ Some a = sym (to.left i (omega arith)) ∙ stands in
      record {
        count = length-set new i b ∙ to.count;
        histories = λ n x shown below there given. elim (before_or_at n i below) [
          | inl less ↦ set_elsewhere new i n b (λ same. omega (arith, less, same)) ∙ to.histories n x shown less there given
          | inr same ↦
              let one : a ≡ x = same_Some a x (sym was_old ∙ ap (slice_get old) (sym same) ∙ there) in
              let told : image ≡ shown = same_Some image shown (sym at ∙ ap (slice_get images) (sym same) ∙ given) in
              ap (slice_get (slice_set new i b)) same ∙ set_there new i b a stands ∙ ap Some is
              ∙ ap (λ ws. Some (with_image ws a)) told ∙ ap (λ y. Some (with_image shown y)) one
        ];
        left = λ n past. set_elsewhere new i n b (λ same. omega (arith, past, same)) ∙ to.left n (omega (arith, past));
        same = then_same before now next to.same publishes.same;
        published = λ n shown below given. elim (before_or_at n i below) [
          | inl less ↦ publishes.others n (λ same. omega (arith, less, same)) ∙ to.published n shown less given
          | inr same ↦
              let told : image ≡ shown = same_Some image shown (sym at ∙ ap (slice_get images) (sym same) ∙ given) in
              ap next.published same ∙ publishes.published ∙ ap (λ ts. ts ++ image ∷ []) (to.fresh i (omega arith)) ∙ ap (λ ws. ws ∷ []) told
        ];
        fresh = λ n past. publishes.others n (λ same. omega (arith, past, same)) ∙ to.fresh n (omega (arith, past));
        taken = λ n. publishes.taken n ∙ to.taken n;
      }
