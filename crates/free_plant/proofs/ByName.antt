-- What is known of a plant by its name.
use Rattle.std.specs.Prelude.{Option, Some, None, slice_get}
use Rattle.std.specs.Option.{option_map_or}
use Rattle.std.proofs.Common.{◌≡◌, ℕ, zero, suc, ◌<◌, List, [], ◌∷◌, length, sym, ap, ◌∙◌, arith}
use Rattle.irt_base.specs.declared.plants.App.{App}
use Rattle.irt_base.specs.declared.plants.Plant.{Plant}
use Rattle.iso_plant.specs.Replay.{PlantView, setup_in}
use Rattle.iso_plant.specs.Step.{IsSamePlant}
use Rattle.plan_rules.specs.Plan.{setup_of}
use Rattle.plan_rules.specs.Way.{Setup}
use Rattle.free_plant.specs.Named.{IsOfRun, app_count, cycles_of, of_app}

pub got_below : {X : Type 0} (xs : List X) (n : ℕ) (x : X) → slice_get xs n ≡ Some x → n < length xs
got_below [] n x at = absurd (cc)
got_below (y ∷ xs) zero x at = omega arith
got_below (y ∷ xs) (suc n) x at = let h = got_below xs n x at in omega arith

pub same_setup : (s v : PlantView) → IsSamePlant s v → setup_in v ≡ setup_in s
same_setup s v r = λ i. setup_of (r.plant i) (r.bundles i)

pub run_count : (start : Option PlantView) (v : PlantView) → IsOfRun start v → app_count start ≡ length v.plant.apps
run_count None v r = absurd r
run_count (Some s) v r = ap (λ (p : Plant). length p.apps) (sym r.plant)

pub run_cycles : (start : Option PlantView) (v : PlantView) → IsOfRun start v → cycles_of start ≡ length v.world.rows
run_cycles None v r = absurd r
run_cycles (Some s) v r = ap (λ w. length w.rows) (sym r.world)

-- what is said of an app is said of its device in the plant
pub run_app : {X : Type 0} (f : Setup → ℕ → X) (none : X) (start : Option PlantView) (v : PlantView) (n : ℕ) (app : App) → IsOfRun start v
    → slice_get v.plant.apps n ≡ Some app → of_app (λ w device. f (setup_in w) device) none start n ≡ f (setup_in v) app.device.0
run_app f none None v n app r at = absurd r
run_app f none (Some s) v n app r at =
    ap (λ o. option_map_or (λ (a : App). f (setup_in s) a.device.0) o none) (ap (λ (p : Plant). slice_get p.apps n) (sym r.plant) ∙ at)
    ∙ ap (λ (t : Setup). f t app.device.0) (sym (same_setup s v r))

pub run_step : (start : Option PlantView) (v w : PlantView) → IsOfRun start v → IsSamePlant v w → IsOfRun start w
run_step None v w r same = absurd r
run_step (Some s) v w r same = record {
  plant = same.plant ∙ r.plant;
  bundles = same.bundles ∙ r.bundles;
  walks = same.walks ∙ r.walks;
  world = same.world ∙ r.world;
}
