-- The widths of an app, as its history has them.
use Rattle.std.proofs.Common.{◌≡◌, ℕ, ◌-◌, ◌<◌, List, [], length, get_or, Some, slice_get, sym, ◌∙◌, ap, subst, arith}
use Rattle.std.proofs.lemmas.Option.{slice_get-get_or}
use Rattle.irt_base.specs.declared.plants.App.{App}
use Rattle.iso_rules.specs.Station.{input_count, output_count}
use Rattle.iso_plant.specs.History.{AppCycles}
use Rattle.iso_plant.specs.Played.{net_setup}
use Rattle.iso_plant.specs.Replay.{PlantView, images_of, setup_in, takes_of}
use Rattle.iso_plant.specs.State.{IsHistoryOf, IsState, Parts, view_of}
use Rattle.iso_plant.proofs.Stepping.{histories_count, read_map}

module _ (p : Parts) (state : IsState p) where
  read_history : (n : ℕ) (app : App) (a : AppCycles) → n < length p.net.plant.apps → slice_get p.net.plant.apps n ≡ Some app → a ≡ get_or p.histories n a →
      IsHistoryOf (net_setup p.net) (length p.world.rows - p.done) app a
  read_history n app a within at is =
      let same = ap length state.planned.apps in
      state.histories n app a (ap (λ apps. slice_get apps n) state.planned.apps ∙ at)
      (slice_get-get_or p.histories n a (omega (arith, within, same, histories_count p state)) ∙ ap Some (sym is))

  module _ (old : PlantView) (view_is : view_of p ≡ old) (n : ℕ) (app : App) (a : AppCycles) (words : ℕ) (within : n < length old.plant.apps)
      (at : slice_get old.plant.apps n ≡ Some app) (is : a ≡ get_or p.histories n a) where
    history : IsHistoryOf (net_setup p.net) (length p.world.rows - p.done) app a
    history =
        read_history n app a (subst (λ (v : PlantView). n < length v.plant.apps) (sym view_is) within)
        (subst (λ (v : PlantView). slice_get v.plant.apps n ≡ Some app) (sym view_is) at) is

    pub output_is : words ≡ a.output_words → words ≡ output_count (setup_in old) app.device.0
    output_is told = told ∙ history.output_words ∙ ap (λ (v : PlantView). output_count (setup_in v) app.device.0) view_is

    pub input_is : words ≡ a.input_words → words ≡ input_count (setup_in old) app.device.0
    input_is told = told ∙ history.input_words ∙ ap (λ (v : PlantView). input_count (setup_in v) app.device.0) view_is

-- ---- what a run leaves

module _ (p : Parts) (state : IsState p) (old : PlantView) (view_is : view_of p ≡ old) (apps : List AppCycles) (are : apps ≡ p.histories) where
  pub count_is : length apps ≡ length old.plant.apps
  count_is =
      ap length are ∙ histories_count p state ∙ ap length state.planned.apps ∙ ap (λ (v : PlantView). length v.plant.apps) view_is

  pub lists_are : (n : ℕ) (a : AppCycles) → slice_get apps n ≡ Some a → (a.takes ≡ takes_of n old) × (a.images ≡ images_of n old)
  lists_are n a at =
      let there : slice_get p.histories n ≡ Some a = ap (λ list. slice_get list n) (sym are) ∙ at in (
        sym (read_map (λ (x : AppCycles). x.takes) p.histories n a [] there) ∙ ap (takes_of n) view_is,
        sym (read_map (λ (x : AppCycles). x.images) p.histories n a [] there) ∙ ap (images_of n) view_is,
      )
