-- What is opened has the widths of the plant.
use Rattle.std.specs.Prelude.{Some, slice_get}
use Rattle.std.proofs.Common.{◌≡◌, ℕ, zero, suc, ◌+◌, ◌^◌, ◌<◌, ◌≤◌, List, [], ◌∷◌, length, refl, sym, ap, ◌∙◌, subst, arith}
use Rattle.std.proofs.lemmas.List.{length-replicate}
use Rattle.io_buffers.specs.Passes.{width_of}
use Rattle.irt_base.specs.declared.blocks.Bundle.{Bundle}
use Rattle.irt_base.specs.declared.limits.TheConstants.{MAX_WORDS}
use Rattle.irt_base.specs.declared.plants.App.{App}
use Rattle.irt_base.specs.declared.plants.Plant.{Plant}
use Rattle.iso_plant.specs.Replay.{PlantView, setup_in}
use Rattle.iso_plant.specs.Step.{IsSamePlant}
use Rattle.iso_rules.specs.Station.{input_count, output_count, output_lengths}
use Rattle.plan_rules.specs.Plan.{setup_of}
use Rattle.plan_rules.specs.Way.{Setup}
use Rattle.free_plant.specs.Buffers.{BufferView, new_buffer}
use Rattle.free_plant.specs.Named.{input_width, output_width}
use Rattle.free_plant.proofs.ByName.{run_app}
use Rattle.iso_free.specs.Opened.{IsOpened}
use Rattle.iso_free.specs.declared.opening.OpenedApp.{OpenedApp}

first_app : (apps : List App) (n : ℕ) → n < length apps → (app : App) × (slice_get apps n ≡ Some app)
first_app [] n lt = absurd (omega arith)
first_app (a ∷ apps) zero lt = (a, refl)
first_app (a ∷ apps) (suc n) lt = first_app apps n (omega arith)

some_app : (v : PlantView) (n : ℕ) → n < length v.plant.apps → (app : App) × (slice_get v.plant.apps n ≡ Some app)
some_app v n lt = first_app v.plant.apps n lt

same_plan : (v : PlantView) (plant : Plant) (bundles : List Bundle) → v.plant ≡ plant → v.bundles ≡ bundles → setup_in v ≡ setup_of plant bundles
same_plan v plant bundles p b = λ i. setup_of (p i) (b i)

pub few_fit : (n : ℕ) → n ≤ 4096 → n + 1 < 2 ^ 16
few_fit n h = omega arith

its_own : (v : PlantView) → IsSamePlant v v
its_own v = record { plant = refl; bundles = refl; walks = refl; world = refl }

module _ (v : PlantView) (plant : Plant) (bundles : List Bundle) (n : ℕ) where
  pub few_words : (outputs inputs : ℕ) → v.plant ≡ plant → v.bundles ≡ bundles → n < length plant.apps
      → ((a : App) → slice_get v.plant.apps n ≡ Some a → outputs ≡ output_count (setup_in v) a.device.0)
      → ((a : App) → slice_get v.plant.apps n ≡ Some a → inputs ≡ input_count (setup_in v) a.device.0)
      → ((device : ℕ) → output_count (setup_of plant bundles) device ≤ MAX_WORDS) → ((device : ℕ) → input_count (setup_of plant bundles) device ≤ MAX_WORDS)
      → (outputs ≤ 4096) × (inputs ≤ 4096)
  few_words outputs inputs p b lt out in_ few_out few_in =
      let count : length v.plant.apps ≡ length plant.apps = ap (λ (x : Plant). length x.apps) p in
      let app = some_app v n (omega arith) in
      let setup = same_plan v plant bundles p b in
      let o = few_out app.0.device.0 in
      let i = few_in app.0.device.0 in
      let oe : outputs ≡ output_count (setup_of plant bundles) app.0.device.0 = out app.0 app.1 ∙ ap (λ (s : Setup). output_count s app.0.device.0) setup in
      let ie : inputs ≡ input_count (setup_of plant bundles) app.0.device.0 = in_ app.0 app.1 ∙ ap (λ (s : Setup). input_count s app.0.device.0) setup in
      (subst (λ (k : ℕ). k ≤ 4096) (sym oe) o, subst (λ (k : ℕ). k ≤ 4096) (sym ie) i)

  pub opened_is : {A : Type 0} (o : OpenedApp A) (device outputs inputs : ℕ) → v.plant ≡ plant → v.bundles ≡ bundles → n < length plant.apps
      → ((a : App) → slice_get plant.apps n ≡ Some a → device ≡ a.device.0)
      → ((a : App) → slice_get v.plant.apps n ≡ Some a → outputs ≡ output_count (setup_in v) a.device.0)
      → ((a : App) → slice_get v.plant.apps n ≡ Some a → inputs ≡ input_count (setup_in v) a.device.0)
      → o.lengths ≡ output_lengths (setup_of plant bundles) device → o.buffer ≡ new_buffer outputs inputs
      → width_of o.input.exchange ≡ inputs → width_of o.output.exchange ≡ outputs + 1 → IsOpened (Some v) n o
  opened_is o device outputs inputs p b lt at out in_ lengths buffer input output =
      let count : length v.plant.apps ≡ length plant.apps = ap (λ (x : Plant). length x.apps) p in
      let app = some_app v n (omega arith) in
      let setup = same_plan v plant bundles p b in
      let place : device ≡ app.0.device.0 = at app.0 (ap (λ (x : Plant). slice_get x.apps n) (sym p) ∙ app.1) in
      let ow : outputs ≡ output_width (Some v) n = out app.0 app.1 ∙ sym (run_app output_count 0 (Some v) v n app.0 (its_own v) app.1) in
      let iw : inputs ≡ input_width (Some v) n = in_ app.0 app.1 ∙ sym (run_app input_count 0 (Some v) v n app.0 (its_own v) app.1) in
      let zero_word : ℕ = 0 in record {
        lengths = lengths ∙ ((λ i. output_lengths (sym setup i) (place i)) ∙ sym (run_app output_lengths [] (Some v) v n app.0 (its_own v) app.1));
        buffer = record {
          output = ap (λ (x : BufferView). length x.offer.words) buffer ∙ (length-replicate outputs zero_word ∙ ow);
          input = ap (λ (x : BufferView). length x.image) buffer ∙ (length-replicate inputs zero_word ∙ iw);
        };
        input = input ∙ iw;
        output = output ∙ ap (λ (k : ℕ). k + 1) ow;
      }
