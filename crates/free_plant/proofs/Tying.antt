-- What is under the lock stays tied.
use Rattle.std.specs.Prelude.{Option, IsTrue, true, false, if◌then◌else◌}
use Rattle.std.proofs.Common.{◌≡◌, ℕ, ◌+◌, ◌<◌, ◌≤◌, Bool, List, [], ◌∷◌, ◌++◌, length, map, refl, sym, ap, ◌∙◌, subst, arith}
use Rattle.std.proofs.lemmas.List.{length-map, map-append}
use Rattle.io_buffers.specs.Given.{Given, given}
use Rattle.irt_base.specs.declared.limits.TheConstants.{MAX_CYCLES}
use Rattle.iso_plant.specs.Replay.{IsReplay, PlantView, images_of, takes_of}
use Rattle.iso_plant.specs.Step.{EndsView, ServesPlant, Steps}
use Rattle.iso_rules.specs.Station.{input_count, output_count}
use Rattle.free_plant.specs.Buffers.{BufferView, buffer_at, published_to, takes_from, whole_take}
use Rattle.free_plant.specs.Named.{IsOfRun, app_count, cycles_of}
use Rattle.free_plant.specs.Publishing.{HavePublished}
use Rattle.free_plant.specs.Taking.{HaveTaken}
use Rattle.free_plant.specs.Ties.{HasWidths, IsLocked, IsReady, IsTied}
use Rattle.free_plant.specs.Views.{PortView, new_port, port_at, with_image, with_takes}
use Rattle.free_plant.proofs.ByName.{got_below, run_app, run_count, run_step}
use Rattle.take_lists.specs.Takes.{AreFresh, AreSomeOf, IsNearTake, without_further}
use Rattle.take_lists.proofs.Recorded.{front_snoc}
use Rattle.take_lists.proofs.TakeLists.{fresh_more, near_more, some_keep, some_on}

tied_more : (v : PlantView) (app : ℕ) (p q : PortView) (more : List Given) → q ≡ with_takes p more → IsTied v app p → IsTied v app q
tied_more v app p q more is t =
    subst (λ (r : PortView). IsTied v app r) (sym is) (record {
      place = t.place;
      whole = t.whole;
      recorded = t.recorded;
      takes = some_on t.whole p.taken more t.takes;
      fresh = t.fresh;
      near = t.near;
      images = t.images;
    })

pub locked_more : (start : Option PlantView) (v : PlantView) (old new : List PortView) (before after : List BufferView) (cycles k : ℕ) (all : Bool)
    → IsLocked start v old before cycles → HaveTaken start k old new after all → IsLocked start v new after cycles
locked_more start v old new before after cycles k all l h = record {
  run = l.run;
  cycles_are = l.cycles_are;
  few = l.few;
  ports_count = h.ports_count ∙ l.ports_count;
  buffers_count = h.buffers_count;
  tied = λ app lt. (let e = h.ports_count in let at : app < length old = omega arith in let m = h.more app at in tied_more v app _ _ m.0 m.1 (l.tied app at));
  widths = h.widths;
}

-- the ends of a cycle, by the buffers of all apps
abbrev pub ends_in : List BufferView → EndsView
ends_in buffers = record {
  apps = length buffers;
  output_words = λ n. length (buffer_at buffers n).offer.words;
  input_words = λ n. length (buffer_at buffers n).image;
  offers = λ n. (buffer_at buffers n).offer;
  takes = λ n. takes_from (buffer_at buffers n);
  published = λ n. published_to (buffer_at buffers n);
}

pub serves : (start : Option PlantView) (v : PlantView) (buffers : List BufferView) → IsOfRun start v → length buffers ≡ app_count start
    → ((app : ℕ) → app < length buffers → HasWidths start app (buffer_at buffers app)) → ServesPlant v (ends_in buffers)
serves start v buffers run count widths =
    let c = run_count start v run in record {
      count = count ∙ c;
      outputs = λ n app at. (let lt = got_below v.plant.apps n app at in (widths n (omega arith)).output ∙ run_app output_count 0 start v n app run at);
      inputs = λ n app at. (let lt = got_below v.plant.apps n app at in (widths n (omega arith)).input ∙ run_app input_count 0 start v n app run at);
    }

taken_one : (flag : Bool) (x y : Given) → (if flag then x ∷ [] else []) ≡ y ∷ [] → x ≡ y
taken_one true x y e = (cc)
taken_one false x y e = absurd (cc)

shown_one : (flag : Bool) (x y : List ℕ) → (if flag then x ∷ [] else []) ≡ y ∷ [] → x ≡ y
shown_one true x y e = (cc)
shown_one false x y e = absurd (cc)

-- a take without its further word is what was offered
short_take : (b : BufferView) → without_further (whole_take b) ≡ b.offer
short_take b = ap (λ (l : List ℕ). given b.offer.taken l) (front_snoc b.offer.words b.further)

module _ (v w : PlantView) (app : ℕ) (p q r : PortView) (b c : BufferView) (image : List ℕ) (t : IsTied v app p) (ready : IsReady v.done p q b)
    (done : length (takes_of app v) ≡ v.done) (take : takes_of app w ≡ takes_of app v ++ b.offer ∷ []) (shown : images_of app w ≡ images_of app v ++ image ∷ [])
    (last : r ≡ with_image q c.image c.offer.taken.number) (kept : c.image ≡ image) (offer : c.offer ≡ b.offer) where
  next_whole : List Given
  next_whole = t.whole ++ whole_take b ∷ []

  recorded_next : takes_of app w ≡ map without_further (t.whole ++ whole_take b ∷ [])
  recorded_next =
      take ∙ ((λ i. t.recorded i ++ sym (short_take b) i ∷ []) ∙ sym (map-append without_further t.whole (whole_take b ∷ [])))

  count_whole : v.done ≡ 0 + length t.whole
  count_whole =
      let a : length (takes_of app v) ≡ length (map without_further t.whole) = ap (λ (l : List Given). length l) t.recorded in
      let m = length-map t.whole without_further in omega arith

  taken_next : r.taken ≡ p.taken ++ ready.take ∷ []
  taken_next = ap (λ (x : PortView). x.taken) last ∙ ap (λ (x : PortView). x.taken) ready.taken

  last_next : r.last ≡ b.offer.taken.number
  last_next = ap (λ (x : PortView). x.last) last ∙ ap (λ (g : Given). g.taken.number) offer

  published_next : r.published ≡ images_of app w
  published_next =
      ap (λ (x : PortView). x.published) last
      ∙ ((λ i. (ap (λ (x : PortView). x.published) ready.taken ∙ t.images) i ++ kept i ∷ []) ∙ sym shown)

  pub tied_step : IsTied w app r
  tied_step = record {
    place = ap (λ (x : PortView). x.number) last ∙ (ap (λ (x : PortView). x.number) ready.taken ∙ t.place);
    whole = t.whole ++ whole_take b ∷ [];
    recorded = recorded_next;
    takes = subst (λ (l : List Given). AreSomeOf (t.whole ++ whole_take b ∷ []) l) (sym taken_next)
        (some_keep t.whole p.taken (whole_take b) ready.take t.takes ready.same);
    fresh = subst (λ (n : ℕ). AreFresh 0 (t.whole ++ whole_take b ∷ []) n) (sym last_next) (fresh_more 0 t.whole p.last (whole_take b) t.fresh ready.fresh);
    near = near_more 0 t.whole (whole_take b) t.near (subst (λ (n : ℕ). IsNearTake n (whole_take b)) count_whole ready.near);
    images = published_next;
  }

pub locked_step : (start : Option PlantView) (v w : PlantView) (old mid new : List PortView) (first before after : List BufferView) (cycles : ℕ) (all : Bool)
    → IsLocked start v old first cycles → IsReplay v → HaveTaken start v.done old mid before all → IsTrue all → Steps v w (ends_in before) (ends_in after)
    → HavePublished mid new after → IsLocked start w new after cycles
locked_step start v w old mid new first before after cycles all l replay h fits s p =
    let count = run_count start v l.run in
    let mid_count = h.ports_count in
    let new_count = p.count in
    let old_count = l.ports_count in
    let after_count : length after ≡ length before = s.ends in record {
      run = run_step start v w l.run s.same;
      cycles_are = l.cycles_are;
      few = l.few;
      ports_count = p.count ∙ (h.ports_count ∙ l.ports_count);
      buffers_count = after_count ∙ h.buffers_count;
      tied = λ app lt. (
          let at : app < length old = omega arith in
          let here : app < length v.plant.apps = omega arith in
          let step = s.apps app here in
          let kept : (buffer_at after app).image ≡ step.image = shown_one (buffer_at after app).is_shown _ _ step.published in
          let offer : (buffer_at after app).offer ≡ (buffer_at before app).offer = taken_one (buffer_at after app).is_taken _ _ step.taken in
          tied_step v w app (port_at old app) (port_at mid app) (port_at new app) (buffer_at before app) (buffer_at after app) step.image
          (l.tied app at) (h.ready fits app at).ready (replay.cycles.taken app here) step.take step.shown (p.each app (omega arith)) kept offer);
      widths = λ app lt. (
          let b = h.widths app (omega arith) in record { output = s.output_words app ∙ b.output; input = s.input_words app ∙ b.input });
    }

none_of : {X : Type 0} (xs : List X) → length xs ≡ 0 → xs ≡ []
none_of [] none = refl
none_of (x ∷ xs) none = absurd (omega arith)

tied_first : (v : PlantView) (app : ℕ) (p : PortView) → p ≡ new_port app → takes_of app v ≡ [] → images_of app v ≡ [] → IsTied v app p
tied_first v app p is takes images = subst (λ (q : PortView). IsTied v app q) (sym is) (record {
  place = refl;
  whole = [];
  recorded = takes;
  takes = tt;
  fresh = refl;
  near = tt;
  images = sym images;
})

pub locked_first : (start : Option PlantView) (v : PlantView) (ports : List PortView) (buffers : List BufferView) (cycles : ℕ) → IsOfRun start v → v.done ≡ 0 → IsReplay v
    → cycles ≡ cycles_of start → cycles ≤ MAX_CYCLES → length ports ≡ app_count start → ((app : ℕ) → app < length ports → port_at ports app ≡ new_port app)
    → length buffers ≡ app_count start → ((app : ℕ) → app < length buffers → HasWidths start app (buffer_at buffers app)) → IsLocked start v ports buffers cycles
locked_first start v ports buffers cycles run begun replay cycles_are few ports_count each buffers_count widths = record {
  run = run;
  cycles_are = cycles_are;
  few = few;
  ports_count = ports_count;
  buffers_count = buffers_count;
  tied = λ app lt. (
      let count = run_count start v run in
      let below : app < length v.plant.apps = omega arith in
      tied_first v app (port_at ports app) (each app lt) (none_of (takes_of app v) (replay.cycles.taken app below ∙ begun)) (none_of (images_of app v) (replay.cycles.published app below ∙ begun)));
  widths = widths;
}
