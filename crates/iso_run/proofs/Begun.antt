-- The apps before the first cycle are in lockstep.
use Rattle.std.proofs.Common.{◌≡◌, ℕ, ◌<◌, ◌^◌, List, [], ◌∷◌, length, map, zip, get_or, slice_get, Some, refl, sym, ◌∙◌, ap, subst, arith}
use Rattle.std.specs.Prelude.{slice_index_or}
use Rattle.std.proofs.lemmas.List.{ext_get_or, length-map, length-replicate}
use Rattle.std.proofs.lemmas.Option.{same_Some, get_or_from_slice_get}
use Rattle.irt_base.specs.declared.blocks.Bundle.{Bundle}
use Rattle.irt_base.specs.declared.plants.App.{App}
use Rattle.irt_base.specs.declared.plants.Plant.{Plant}
use Rattle.iso_plant.specs.Replay.{PlantView, IsReplay, setup_in, world_in}
use Rattle.iso_rules.specs.Lockstep.{IsLockstep, begun, new_runs}
use Rattle.iso_rules.specs.Station.{input_count, output_count}
use Rattle.iso_rules.specs.Turns.{AppRun, new_run}
use Rattle.iso_rules.proofs.PlayedRuns.{mapped_at, map_at}
use Rattle.plan_rules.proofs.Held.{some_at}
use Rattle.plan_rules.specs.Plan.{setup_of}
use Rattle.plan_rules.specs.Way.{Setup}
use Rattle.iso_run.specs.Apps.{IsReady}
use Rattle.iso_run.specs.Each.{IsEndOf}
use Rattle.iso_run.specs.Ends.{EndView}
use Rattle.iso_run.specs.InLockstep.{IsAppOf, IsInLockstep}
use Rattle.iso_run.specs.Opened.{opened_app, opened_end, AreOpened}
use Rattle.iso_run.specs.declared.apps.LockstepApp.{LockstepApp}
use Rattle.iso_run.proofs.Stepping.{run_count}

is_empty : {X : Type 0} (xs : List X) → length xs ≡ 0 → xs ≡ []
is_empty [] none = refl
is_empty (x ∷ xs) none = absurd (omega (arith, none))

-- lists of as many lists, of which each is empty
all_empty : {X : Type 0} (xs : List (List X)) (ys : List (List X)) → length xs ≡ length ys →
    ((n : ℕ) → n < length xs → length (slice_index_or xs n []) ≡ 0) → ((n : ℕ) (y : List X) → slice_get ys n ≡ Some y → y ≡ []) → xs ≡ ys
all_empty xs ys count none empty =
    ext_get_or [] xs ys count
    (λ n within.
    let (y, at) = some_at ys n (omega (arith, within, count)) in
    is_empty (get_or xs n []) (none n within) ∙ sym (get_or_from_slice_get ys n y [] at ∙ empty n y at))

new_devices : {A : Type 0} (apps : List App) (states : List A) → length states ≡ length apps →
    map (λ (r : AppRun A). r.device) (map (λ (p : App × A). new_run p.0.device.0 p.1) (zip apps states)) ≡ map (λ (a : App). a.device.0) apps
new_devices [] states count = refl
new_devices (a ∷ apps) [] count = absurd (omega (arith, count))
new_devices (a ∷ apps) (s ∷ states) count = ap (λ l. a.device.0 ∷ l) (new_devices apps states (omega (arith, count)))

opened_ready : {A : Type 0} (setup : Setup) (device : ℕ) (state : A) → IsReady (opened_app setup device state)
opened_ready setup device state =
    record { output = length-replicate (output_count setup device) 0; input = length-replicate (input_count setup device) 0; room = omega arith }

opened_stands : {A : Type 0} (setup : Setup) (device : ℕ) (state : A) → IsAppOf setup 0 (new_run device state) (opened_app setup device state)
opened_stands setup device state = record {
  state = refl;
  turns = refl;
  turn_count = refl;
  image_count = refl;
  widths = record { lengths = refl; output = refl; input = refl };
  published = record { output = refl; words = refl; fresh = refl; input = refl; held = refl };
}

pub begun_lockstep : {A : Type 0} (reply : A → List ℕ → ℕ → List ℕ) (next : A → List ℕ → ℕ → A) (states : List A) (v : PlantView)
    (apps : List (LockstepApp A)) (ends : List EndView) → v.done ≡ 0 → IsReplay v → AreOpened (setup_in v) states apps ends →
    IsInLockstep reply next states v apps ends
begun_lockstep {A} reply next states v apps ends done replay opened =
    let count = opened.count in
    let apps_are = opened.apps in
    let ends_are = opened.ends in
    let setup = setup_in v in
    let pairs : List (App × A) = zip v.plant.apps states in
    let runs : List (AppRun A) = new_runs v.plant states in
    let devices = new_devices v.plant.apps states count in
    let runs_are = run_count runs v.plant.apps devices in
    let app_count : length apps ≡ length pairs = ap (λ l. length l) apps_are ∙ length-map pairs _ in
    let app_at : (n : ℕ) (a : LockstepApp A) → slice_get apps n ≡ Some a →
    (p : App × A) × (slice_get pairs n ≡ Some p) × (opened_app setup p.0.device.0 p.1 ≡ a) = λ n a is.
    mapped_at (λ (p : App × A). opened_app setup p.0.device.0 p.1) pairs n a (ap (λ l. slice_get l n) (sym apps_are) ∙ is) in
    record {
      runs = runs;
      played = subst (λ k. IsLockstep reply next setup (world_in v) states k runs) (sym done) begun;
      between = record {
        devices = devices;
        takes = all_empty v.takes (map (λ (r : AppRun A). r.takes) runs) (replay.cycles.takes ∙ sym (length-map runs _ ∙ runs_are))
            (λ n within. replay.cycles.taken n (let c = replay.cycles.takes in omega (arith, c, within)) ∙ done)
            (λ n y at. let (r, there, same) = mapped_at (λ (r : AppRun A). r.takes) runs n y at in
            let (p, stands, made) = mapped_at (λ (p : App × A). new_run p.0.device.0 p.1) pairs n r there in
            sym (ap (λ (x : AppRun A). x.takes) made ∙ same));
        images = all_empty v.images (map (λ (r : AppRun A). r.images) runs) (replay.cycles.images ∙ sym (length-map runs _ ∙ runs_are))
            (λ n within. replay.cycles.published n (let c = replay.cycles.images in omega (arith, c, within)) ∙ done)
            (λ n y at. let (r, there, same) = mapped_at (λ (r : AppRun A). r.images) runs n y at in
            let (p, stands, made) = mapped_at (λ (p : App × A). new_run p.0.device.0 p.1) pairs n r there in
            sym (ap (λ (x : AppRun A). x.images) made ∙ same));
        count = app_count ∙ sym (length-map pairs _);
        ready = record {
          count = ap (λ l. length l) ends_are ∙ length-map pairs _ ∙ sym app_count;
          ready = λ n a is. (let (p, at, made) = app_at n a is in subst IsReady made (opened_ready setup p.0.device.0 p.1));
          room = λ n a is. (let (p, at, made) = app_at n a is in subst (λ (x : LockstepApp A). x.input.newest < 2 ^ 60) made (omega arith));
          fit = λ n a e is there.
              let (p, at, made) = app_at n a is in
              let e_is : opened_end setup p.0.device.0 ≡ e =
              same_Some _ e (sym (map_at (λ (q : App × A). opened_end setup q.0.device.0) pairs n p at) ∙ ap (λ l. slice_get l n) (sym ends_are) ∙ there) in
              subst (λ (x : LockstepApp A). IsEndOf x e) made (subst (λ f. IsEndOf (opened_app setup p.0.device.0 p.1) f) e_is
              (record { words = length-replicate (output_count setup p.0.device.0) 0; image = length-replicate (input_count setup p.0.device.0) 0 }));
        };
        each = λ n run a at is.
            let (p, there, made) = app_at n a is in
            let run_is : new_run p.0.device.0 p.1 ≡ run =
            same_Some _ run (sym (map_at (λ (q : App × A). new_run q.0.device.0 q.1) pairs n p there) ∙ at) in
            subst (λ k. IsAppOf setup k run a) (sym done)
            (subst (λ r. IsAppOf setup 0 r a) run_is (subst (λ x. IsAppOf setup 0 (new_run p.0.device.0 p.1) x) made (opened_stands setup p.0.device.0 p.1)));
      };
    }

-- for the plant that plays the plan
pub opened_in : {A : Type 0} (states : List A) (v : PlantView) (plant : Plant) (bundles : List Bundle) (opened apps : List (LockstepApp A)) (ends : List EndView) →
    v.plant ≡ plant → v.bundles ≡ bundles → opened ≡ apps → AreOpened (setup_of plant bundles) states apps ends → AreOpened (setup_in v) states opened ends
opened_in states v plant bundles opened apps ends plants blocks same all =
    subst (λ p. AreOpened (setup_of p v.bundles) states opened ends) (sym plants)
    (subst (λ b. AreOpened (setup_of plant b) states opened ends) (sym blocks) (subst (λ l. AreOpened (setup_of plant bundles) states l ends) (sym same) all))
