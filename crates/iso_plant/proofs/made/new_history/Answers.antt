use Rattle.std.proofs.Common.{◌≡◌, ◌<◌, ℕ, List, [], length, get_or, refl, subst, arith, IfOk, Some, slice_get, Result}
use Rattle.std.proofs.lemmas.Option.{slice_get_read}
use Rattle.irt_base.specs.declared.blocks.Bundle.{Bundle}
use Rattle.irt_base.specs.declared.memory.NoMemory.{NoMemory}
use Rattle.irt_base.specs.declared.plants.App.{App}
use Rattle.iso_rules.specs.Station.{input_count, output_count}
use Rattle.plan_rules.specs.Plan.{setup_of}
use Rattle.plan_rules.specs.Way.{Setup}
use Rattle.iso_plant.specs.History.{AppCycles}
use Rattle.iso_plant.specs.Made.{begun_history}
use Rattle.iso_plant.proofs.made.new_history.Goals as goal

at_device : (bundles : List Bundle) (i device : ℕ) (b : Bundle) → i ≡ device → device < length bundles → b ≡ get_or bundles i b →
    slice_get bundles device ≡ Some b
at_device bundles i device b same within is = slice_get_read bundles _ device b refl within (subst (λ j. b ≡ get_or bundles j b) same is)

abbrev begun_with : ℕ → ℕ → ℕ → AppCycles
begun_with outputs inputs cycles = record {
  takes = [];
  images = [];
  output_words = outputs;
  input_words = inputs;
  take_room = cycles;
  image_room = cycles;
}

begun_is : (r : Result AppCycles NoMemory) (setup : Setup) (outputs inputs cycles : ℕ) (app : App) →
    outputs ≡ output_count setup app.device.0 → inputs ≡ input_count setup app.device.0 →
    IfOk r (λ h. h ≡ begun_with outputs inputs cycles) → IfOk r (λ h. h ≡ begun_history setup cycles app)
begun_is r setup outputs inputs cycles app sent shown made =
    subst (λ n. IfOk r (λ h. h ≡ begun_with n (input_count setup app.device.0) cycles)) sent
    (subst (λ n. IfOk r (λ h. h ≡ begun_with outputs n cycles)) shown made)

pub overflow_cast-outputs : goal.overflow_cast-outputs
overflow_cast-outputs c =
    let device = c.args.app.now.device.0 in
    let at = at_device c.args.bundles.now _ device _ c.from.ensures c.requires.device c.index-bundles-from.is in
    let is = c.output_words-outputs.ensures.setup c.args.plant.now c.args.bundles.now device at in
    omega (arith, is, c.requires.few.outputs device)

pub overflow_cast-inputs : goal.overflow_cast-inputs
overflow_cast-inputs c =
    let device = c.args.app.now.device.0 in
    let at = at_device c.args.bundles.now _ device _ c.from.ensures c.requires.device c.index-bundles-from.is in
    let is = c.input_words-inputs.ensures.setup c.args.plant.now c.args.bundles.now device at in
    omega (arith, is, c.requires.few.inputs device)

pub returns : goal.returns
returns c =
    let device = c.args.app.now.device.0 in
    let at = at_device c.args.bundles.now _ device _ c.from.ensures c.requires.device c.index-bundles-from.is in
    let sent = c.output_words-outputs.ensures.setup c.args.plant.now c.args.bundles.now device at in
    let shown = c.input_words-inputs.ensures.setup c.args.plant.now c.args.bundles.now device at in
    begun_is c.new.result (setup_of c.args.plant.now c.args.bundles.now) _ _ _ c.args.app.now sent shown c.new.ensures
