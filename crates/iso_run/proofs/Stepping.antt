-- The apps and their ends before, in and after a step of the plant.
use Rattle.std.proofs.Common.{◌≡◌, ℕ, ◌<◌, ◌^◌, false, List, [], length, map, slice_get, Some, inl, inr, sym, ◌∙◌, ap, subst, arith}
use Rattle.std.specs.Prelude.{unwrap_or}
use Rattle.std.proofs.lemmas.List.{length-map}
use Rattle.std.proofs.lemmas.Option.{same_Some, slice_get_within, slice_get_cases, get_or_from_slice_get, unwrap_or-slice_get}
use Rattle.irt_base.specs.declared.plants.App.{App}
use Rattle.iso_plant.specs.Replay.{PlantView, setup_in}
use Rattle.iso_plant.specs.Step.{ServesPlant, IsFresh, Steps}
use Rattle.iso_rules.specs.Station.{input_count, output_count}
use Rattle.iso_rules.specs.Turns.{AppRun}
use Rattle.iso_rules.proofs.PlayedRuns.{map_at}
use Rattle.plan_rules.proofs.Held.{some_at}
use Rattle.iso_run.specs.Apps.{with_input, with_offer, IsReady}
use Rattle.iso_run.specs.Each.{AreEach, AreReady, IsEndOf}
use Rattle.iso_run.specs.Ends.{EndView, end_at, new_end, offered_from, takes_from, published_to}
use Rattle.iso_run.specs.InLockstep.{AreBetween, ends_view}
use Rattle.iso_run.specs.declared.apps.LockstepApp.{LockstepApp}

-- what stood at a place of a list that was written
pub stood : {X Y : Type 0} (xs : List X) (ys : List Y) (n : ℕ) (y : Y) → length ys ≡ length xs → slice_get ys n ≡ Some y →
    (x : X) × (slice_get xs n ≡ Some x)
stood xs ys n y count is = (let within = slice_get_within ys n y is in some_at xs n (omega (arith, count, within)))

pub at_end : (ends : List EndView) (n : ℕ) (e : EndView) → slice_get ends n ≡ Some e → end_at ends n ≡ e
at_end ends n e is = get_or_from_slice_get ends n e (new_end 0 0) is

fresh_end : (e : EndView) → e.is_taken ≡ false → e.is_shown ≡ false → (takes_from e ≡ []) × (published_to e ≡ [])
fresh_end e taken shown = (cc, cc)

-- as many runs as apps
pub run_count : {A : Type 0} (runs : List (AppRun A)) (apps : List App) →
    map (λ (run : AppRun A). run.device) runs ≡ map (λ (app : App). app.device.0) apps → length runs ≡ length apps
run_count {A} runs apps devices =
    sym (length-map runs (λ (run : AppRun A). run.device)) ∙ ap (λ l. length l) devices ∙ length-map apps (λ (app : App). app.device.0)

-- a run's device is its app's
pub run_device : {A : Type 0} (runs : List (AppRun A)) (apps : List App) (n : ℕ) (run : AppRun A) (app : App) →
    map (λ (r : AppRun A). r.device) runs ≡ map (λ (x : App). x.device.0) apps → slice_get runs n ≡ Some run → slice_get apps n ≡ Some app →
    run.device ≡ app.device.0
run_device {A} runs apps n run app devices at is =
    same_Some run.device app.device.0
    (sym (map_at (λ (r : AppRun A). r.device) runs n run at) ∙ ap (λ l. slice_get l n) devices ∙ map_at (λ (x : App). x.device.0) apps n app is)

module _ {A : Type 0} where
  abbrev pub AreOffered : List (LockstepApp A) → List (LockstepApp A) → Type 0
  AreOffered apps offered = AreEach (λ n a b. b ≡ with_offer a) apps offered

  abbrev pub AreOfferedEnds : List (LockstepApp A) → List EndView → List EndView → Type 0
  AreOfferedEnds apps ends offered =
      AreEach (λ n e f. (a : LockstepApp A) → slice_get apps n ≡ Some a → f ≡ offered_from a.output e) ends offered

  abbrev pub AreShown : List EndView → List (LockstepApp A) → List (LockstepApp A) → Type 0
  AreShown ends apps shown = AreEach (λ n a b. (e : EndView) → slice_get ends n ≡ Some e → b ≡ with_input e.image a) apps shown

  -- before a step

  pub offered_ready : (apps offered : List (LockstepApp A)) (ends after : List EndView) → AreReady apps ends → AreOffered apps offered →
      AreOfferedEnds apps ends after → AreReady offered after
  offered_ready apps offered ends after all so set = record {
    count = set.count ∙ all.count ∙ sym so.count;
    ready = λ n b is.
        let (a, was) = stood apps offered n b so.count is in
        let r = all.ready n a was in
        subst IsReady (sym (so.each n a b was is)) (record { output = r.output; input = r.input; room = r.room });
    room = λ n b is.
        let (a, was) = stood apps offered n b so.count is in
        subst (λ (x : LockstepApp A). x.input.newest < 2 ^ 60) (sym (so.each n a b was is)) (all.room n a was);
    fit = λ n b f is at.
        let (a, was) = stood apps offered n b so.count is in
        let (e, stands) = stood ends after n f set.count at in
        let end : f ≡ offered_from a.output e = set.each n e f stands at a was in
        let fit = all.fit n a e was stands in
        subst (λ (x : LockstepApp A). IsEndOf x f) (sym (so.each n a b was is))
        (record {
          words = ap (λ (x : EndView). length x.offer.words) end ∙ (all.ready n a was).output;
          image = ap (λ (x : EndView). length x.image) end ∙ fit.image;
        });
  }

  pub offered_fresh : (apps : List (LockstepApp A)) (ends after : List EndView) → length ends ≡ length apps → AreOfferedEnds apps ends after →
      IsFresh (ends_view after)
  offered_fresh apps ends after count set =
      let one : (n : ℕ) → (takes_from (end_at after n) ≡ []) × (published_to (end_at after n) ≡ []) = λ n.
      elim (slice_get_cases after n).1 [
        | inl there ↦
            let (f, within, stays, got) = there in
            let (e, stands) = stood ends after n f set.count stays in
            let (a, was) = stood apps ends n e count stands in
            let is : end_at after n ≡ offered_from a.output e = at_end after n f stays ∙ set.each n e f stands stays a was in
            fresh_end (end_at after n) (ap (λ (x : EndView). x.is_taken) is) (ap (λ (x : EndView). x.is_shown) is)
        | inr past ↦
            let is : end_at after n ≡ new_end 0 0 = sym (unwrap_or-slice_get after n (new_end 0 0)) ∙ ap (λ o. unwrap_or o (new_end 0 0)) past.1 in
            fresh_end (end_at after n) (ap (λ (x : EndView). x.is_taken) is) (ap (λ (x : EndView). x.is_shown) is)
      ] in
      record { takes = λ n. (one n).0; published = λ n. (one n).1 }

  pub offered_serve : (runs : List (AppRun A)) (v : PlantView) (apps offered : List (LockstepApp A)) (ends after : List EndView) →
      AreBetween (setup_in v) runs v apps ends → AreOffered apps offered → AreOfferedEnds apps ends after → ServesPlant v (ends_view after)
  offered_serve runs v apps offered ends after between so set =
      let ready = offered_ready apps offered ends after between.ready so set in
      let run_count = run_count runs v.plant.apps between.devices in
      let one : (n : ℕ) (app : App) → slice_get v.plant.apps n ≡ Some app →
      (length (end_at after n).offer.words ≡ output_count (setup_in v) app.device.0) × (length (end_at after n).image ≡ input_count (setup_in v) app.device.0) = λ n app is.
      let (run, at) = stood runs v.plant.apps n app (sym run_count) is in
      let (a, was) = stood apps runs n run (sym between.count) at in
      let (b, now) = stood offered apps n a (sym so.count) was in
      let (f, stands) = stood after offered n b (sym ready.count) now in
      let device = run_device runs v.plant.apps n run app between.devices at is in
      let widths = (between.each n run a at was).widths in
      let same = so.each n a b was now in
      let fit = ready.fit n b f now stands in
      let end = at_end after n f stands in (
        ap (λ (x : EndView). length x.offer.words) end ∙ fit.words ∙ ap (λ (x : LockstepApp A). x.output_words) same ∙ widths.output ∙ ap (output_count (setup_in v)) device,
        ap (λ (x : EndView). length x.image) end ∙ fit.image ∙ ap (λ (x : LockstepApp A). x.input_words) same ∙ widths.input ∙ ap (input_count (setup_in v)) device,
      ) in
      record {
        count = ready.count ∙ so.count ∙ between.count ∙ run_count;
        outputs = λ n app is. (one n app is).0;
        inputs = λ n app is. (one n app is).1;
      }

  -- after it

  pub stepped_ready : (old new : PlantView) (apps : List (LockstepApp A)) (ends after : List EndView) → AreReady apps ends →
      Steps old new (ends_view ends) (ends_view after) → AreReady apps after
  stepped_ready old new apps ends after all step = record {
    count = step.ends ∙ all.count;
    ready = all.ready;
    room = all.room;
    fit = λ n a f is at.
        let (e, stands) = stood ends after n f step.ends at in
        let fit = all.fit n a e is stands in
        record {
          words = ap (λ (x : EndView). length x.offer.words) (sym (at_end after n f at)) ∙ step.output_words n
              ∙ ap (λ (x : EndView). length x.offer.words) (at_end ends n e stands) ∙ fit.words;
          image = ap (λ (x : EndView). length x.image) (sym (at_end after n f at)) ∙ step.input_words n
              ∙ ap (λ (x : EndView). length x.image) (at_end ends n e stands) ∙ fit.image;
        };
  }

  pub shown_ready : (apps shown : List (LockstepApp A)) (ends : List EndView) → AreReady apps ends → AreShown ends apps shown →
      (n : ℕ) (b : LockstepApp A) → slice_get shown n ≡ Some b → IsReady b
  shown_ready apps shown ends all so = λ n b is.
      let (a, was) = stood apps shown n b so.count is in
      let (e, at) = stood ends apps n a (sym all.count) was in
      let r = all.ready n a was in
      let fit = all.fit n a e was at in
      subst IsReady (sym (so.each n a b was is e at)) (record { output = r.output; input = fit.image; room = r.room })
