-- Takes from apps, one after the other.
use Rattle.std.proofs.Common.{◌≡◌, ◌≢◌, ◌⊎◌, ℕ, ◌+◌, ◌<◌, ◌≤◌, List, [], ◌∷◌, ◌++◌, length, get_or, slice_get, Some, inl, inr, refl, sym, ◌∙◌, ap, subst, arith}
use Rattle.std.specs.Prelude.{slice_set}
use Rattle.std.proofs.lemmas.List.{length-set}
use Rattle.std.proofs.lemmas.Option.{get_or_from_slice_get, same_Some, slice_get-get_or, slice_get_within}
use Rattle.irt_base.specs.declared.plants.App.{App}
use Rattle.iso_station.proofs.Placing.{set_there, set_elsewhere}
use Rattle.iso_plant.specs.Exchanged.{CanTake, HasOutput, TakesAll}
use Rattle.iso_plant.specs.History.{AppCycles, AreSameEnds, TakesFrom, with_take}
use Rattle.iso_plant.specs.Step.{EndsView}

pub same_ends : (e : EndsView) → AreSameEnds e e
same_ends e = record { apps = refl; output_words = λ n. refl; input_words = λ n. refl; offers = λ n. refl }

pub then_same : (a b c : EndsView) → AreSameEnds a b → AreSameEnds b c → AreSameEnds a c
then_same a b c first second = record {
  apps = second.apps ∙ first.apps;
  output_words = λ n. second.output_words n ∙ first.output_words n;
  input_words = λ n. second.input_words n ∙ first.input_words n;
  offers = λ n. second.offers n ∙ first.offers n;
}

pub before_or_at : (n end : ℕ) → n < end + 1 → (n < end) ⊎ (n ≡ end)
before_or_at n end below = grind arith

module _ (apps : List App) (old : List AppCycles) (sent : List (List ℕ)) (before : EndsView) where
  -- from the apps before a number
  pub record TakenTo (new : List AppCycles) (outputs : List (List ℕ)) (now : EndsView) (end : ℕ) : Type 0 where
    pub count : length new ≡ length old
    pub histories : (n : ℕ) (a : AppCycles) → n < end → slice_get old n ≡ Some a → slice_get new n ≡ Some (with_take (before.offers n) a)
    pub left : (n : ℕ) → end ≤ n → slice_get new n ≡ slice_get old n
    pub widths : (n : ℕ) (a : AppCycles) → n < end → slice_get old n ≡ Some a → length (before.offers n).words ≡ a.output_words
    pub places : length outputs ≡ length sent
    pub words : (n : ℕ) (app : App) → n < end → slice_get apps n ≡ Some app → slice_get outputs app.device.0 ≡ Some (before.offers n).words
    pub idle : (device : ℕ) → ((n : ℕ) (app : App) → n < end → slice_get apps n ≡ Some app → app.device.0 ≢ device) →
        slice_get outputs device ≡ slice_get sent device
    pub same : AreSameEnds before now
    pub taken : (n : ℕ) → n < end → now.takes n ≡ before.offers n ∷ []
    pub fresh : (n : ℕ) → end ≤ n → now.takes n ≡ []
    pub published : (n : ℕ) → now.published n ≡ before.published n

  pub none_taken : CanTake apps old sent before → TakenTo old sent before 0
  none_taken ready = record {
    count = refl;
    histories = λ n a below. absurd (omega (arith, below));
    left = λ n past. refl;
    widths = λ n a below. absurd (omega (arith, below));
    places = refl;
    words = λ n app below. absurd (omega (arith, below));
    idle = λ device no. refl;
    same = same_ends before;
    taken = λ n below. absurd (omega (arith, below));
    fresh = λ n past. ready.fresh n;
    published = λ n. refl;
  }

  pub all_taken : (new : List AppCycles) (outputs : List (List ℕ)) (now : EndsView) (end : ℕ) → CanTake apps old sent before → length apps ≤ end →
      TakenTo new outputs now end → TakesAll apps old new sent outputs before now
  all_taken new outputs now end ready past to =
      let old_below : (n : ℕ) (a : AppCycles) → slice_get old n ≡ Some a → n < end =
      λ n a at. omega (arith, slice_get_within old n a at, ready.count, past) in
      record {
        count = to.count;
        histories = λ n a at. to.histories n a (old_below n a at) at;
        widths = λ n a at. to.widths n a (old_below n a at) at;
        places = to.places;
        words = λ n app at. to.words n app (omega (arith, slice_get_within apps n app at, past)) at;
        idle = λ device no. to.idle device (λ n app below at. no n app at);
        same = to.same;
        taken = λ n within. to.taken n (omega (arith, within, past));
        published = to.published;
      }

  -- the next app can be taken from
  pub record CanTakeNext (new : List AppCycles) (outputs : List (List ℕ)) (now : EndsView) (i : ℕ) (app : App) (a : AppCycles) : Type 0 where
    pub room : 0 < a.take_room
    pub widths : now.output_words i ≡ a.output_words
    pub place : HasOutput outputs app a

  pub can_take_next : (new : List AppCycles) (outputs : List (List ℕ)) (now : EndsView) (i : ℕ) (app : App) (a : AppCycles) →
      CanTake apps old sent before → TakenTo new outputs now i → slice_get apps i ≡ Some app → slice_get new i ≡ Some a →
      CanTakeNext new outputs now i app a
  can_take_next new outputs now i app a ready to at stands =
      let was : slice_get old i ≡ Some a = sym (to.left i (omega arith)) ∙ stands in
      let place = ready.places i app a at was in
      record {
        room = ready.room i a was;
        widths = to.same.output_words i ∙ ready.words i a was;
        place = record {
          words = place.words;
          at = to.idle app.device.0
              (λ n other below there same. let both = ready.own n i other app there at same in omega (arith, below, both))
              ∙ place.at;
          count = place.count;
        };
      }

  -- one more
  pub take_step : (new : List AppCycles) (outputs : List (List ℕ)) (now next : EndsView) (i : ℕ) (app : App) (a b : AppCycles) (was out : List ℕ) →
      CanTake apps old sent before → TakenTo new outputs now i → slice_get apps i ≡ Some app → slice_get new i ≡ Some a →
      slice_get outputs app.device.0 ≡ Some was → b ≡ with_take (now.offers i) a → length (now.offers i).words ≡ a.output_words →
      out ≡ (now.offers i).words → TakesFrom i now next →
      TakenTo (slice_set new i b) (slice_set outputs app.device.0 out) next (i + 1)
  take_step new outputs now next i app a b was out ready to at stands place is wide told takes =
      let was_old : slice_get old i ≡ Some a = sym (to.left i (omega arith)) ∙ stands in
      record {
        count = length-set new i b ∙ to.count;
        histories = λ n x below there. elim (before_or_at n i below) [
          | inl less ↦ set_elsewhere new i n b (λ same. omega (arith, less, same)) ∙ to.histories n x less there
          | inr same ↦
              let one : a ≡ x = same_Some a x (sym was_old ∙ ap (slice_get old) (sym same) ∙ there) in
              ap (slice_get (slice_set new i b)) same ∙ set_there new i b a stands ∙ ap Some is
              ∙ ap (λ g. Some (with_take g a)) (to.same.offers i ∙ ap before.offers (sym same)) ∙ ap (λ y. Some (with_take (before.offers n) y)) one
        ];
        left = λ n past. set_elsewhere new i n b (λ same. omega (arith, past, same)) ∙ to.left n (omega (arith, past));
        widths = λ n x below there. elim (before_or_at n i below) [
          | inl less ↦ to.widths n x less there
          | inr same ↦
              let one : a ≡ x = same_Some a x (sym was_old ∙ ap (slice_get old) (sym same) ∙ there) in
              ap (λ m. length (before.offers m).words) same ∙ ap (λ g. length g.words) (sym (to.same.offers i)) ∙ wide ∙ ap (λ (y : AppCycles). y.output_words) one
        ];
        places = length-set outputs app.device.0 out ∙ to.places;
        words = λ n other below there. elim (before_or_at n i below) [
          | inl less ↦
              set_elsewhere outputs app.device.0 other.device.0 out
              (λ same. let both = ready.own n i other app there at same in omega (arith, less, both))
              ∙ to.words n other less there
          | inr same ↦
              let one : app ≡ other = same_Some app other (sym at ∙ ap (slice_get apps) (sym same) ∙ there) in
              ap (λ (y : App). slice_get (slice_set outputs app.device.0 out) y.device.0) (sym one) ∙ set_there outputs app.device.0 out was place
              ∙ ap Some told ∙ ap (λ g. Some g.words) (to.same.offers i) ∙ ap (λ m. Some (before.offers m).words) (sym same)
        ];
        idle = λ device no.
            set_elsewhere outputs app.device.0 device out (λ same. no i app (omega arith) at (sym same))
            ∙ to.idle device (λ n other below there. no n other (omega (arith, below)) there);
        same = then_same before now next to.same takes.same;
        taken = λ n below. elim (before_or_at n i below) [
          | inl less ↦ takes.others n (λ same. omega (arith, less, same)) ∙ to.taken n less
          | inr same ↦
              ap next.takes same ∙ takes.taken ∙ ap (λ ts. ts ++ now.offers i ∷ []) (to.fresh i (omega arith))
              ∙ ap (λ g. g ∷ []) (to.same.offers i ∙ ap before.offers (sym same))
        ];
        fresh = λ n past. takes.others n (λ same. omega (arith, past, same)) ∙ to.fresh n (omega (arith, past));
        published = λ n. takes.published n ∙ to.published n;
      }

  -- ---- the same where items are read by their index

  module _ (new : List AppCycles) (outputs : List (List ℕ)) (now : EndsView) (i device : ℕ) (d : App) (e : AppCycles) (f : List ℕ)
      (ready : CanTake apps old sent before) (to : TakenTo new outputs now i) (within : i < length apps)
      (is : device ≡ (get_or apps i d).device.0) where
    app_at : slice_get apps i ≡ Some (get_or apps i d)
    app_at = slice_get-get_or apps i d within

    stands : slice_get new i ≡ Some (get_or new i e)
    stands = slice_get-get_or new i e (omega (arith, within, ready.count, to.count))

    next : CanTakeNext new outputs now i (get_or apps i d) (get_or new i e)
    next = can_take_next new outputs now i (get_or apps i d) (get_or new i e) ready to app_at stands

    place_at : slice_get outputs device ≡ Some next.place.words
    place_at = ap (slice_get outputs) is ∙ next.place.at

    pub device_within : device < length outputs
    device_within = slice_get_within outputs device next.place.words place_at

    pub has_room : 0 < (get_or new i e).take_room
    has_room = next.room

    pub words_fit : now.output_words i ≡ (get_or new i e).output_words
    words_fit = next.widths

    pub out_fits : length (get_or outputs device f) ≡ (get_or new i e).output_words
    out_fits = ap length (get_or_from_slice_get outputs device next.place.words f place_at) ∙ next.place.count

    pub one_taken : (b : AppCycles) (out : List ℕ) (after : EndsView) → b ≡ with_take (now.offers i) (get_or new i e) →
        length (now.offers i).words ≡ (get_or new i e).output_words → out ≡ (now.offers i).words → TakesFrom i now after →
        TakenTo (slice_set new i b) (slice_set outputs device out) after (i + 1)
    one_taken b out after was wide told takes =
        subst (λ at. TakenTo (slice_set new i b) (slice_set outputs at out) after (i + 1)) (sym is)
        (take_step new outputs now after i (get_or apps i d) (get_or new i e) b next.place.words out ready to app_at stands next.place.at was wide told takes)
