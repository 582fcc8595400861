-- The plant before cycle 0.
use Rattle.std.proofs.Common.{◌≡◌, ℕ, ◌-◌, ◌<◌, ◌≤◌, All, List, [], length, replicate, slice_get, Some, sym, ◌∙◌, ap, subst, arith}
use Rattle.std.specs.Prelude.{option_map, slice_index_or, unwrap_or}
use Rattle.std.proofs.lemmas.List.{length-map, length-replicate}
use Rattle.std.proofs.lemmas.Option.{same_Some, slice_get-get_or, slice_get-map, slice_get_within}
use Rattle.cycle_rows.specs.Journal.{IsJournal, none}
use Rattle.irt_base.specs.declared.blocks.Bundle.{Bundle}
use Rattle.irt_base.specs.declared.blocks.FrameBlock.{FrameBlock}
use Rattle.irt_base.specs.declared.limits.TheConstants.{MAX_CYCLES, MAX_WORDS}
use Rattle.irt_base.specs.declared.numbers.PortNo.{PortNo}
use Rattle.irt_base.specs.declared.plants.App.{App}
use Rattle.irt_base.specs.declared.plants.Plant.{Plant}
use Rattle.irt_net.specs.Net.{HasRoomFor, NetState}
use Rattle.irt_world.specs.Rows.{Fits}
use Rattle.irt_world.specs.declared.rows.World.{World}
use Rattle.iso_rules.proofs.PlayedRuns.{mapped_at, map_at}
use Rattle.iso_rules.specs.Station.{input_count, output_count, provided_of, words_in}
use Rattle.parcel_rules.specs.Rows.{parcel_rows}
use Rattle.plan_rules.proofs.Held.{each_at, some_at}
use Rattle.plan_rules.specs.Places.{IsAccepted}
use Rattle.plan_rules.specs.Plan.{IsPlan, setup_of}
use Rattle.plant_stations.specs.Stations.{StationsState}
use Rattle.run_journal.specs.Written.{Written}
use Rattle.iso_plant.specs.History.{AppCycles}
use Rattle.iso_plant.specs.Made.{AreBlank, AreReady, HaveFewWords, begun_history, zero_image, zero_output}
use Rattle.iso_plant.specs.Played.{net_setup}
use Rattle.iso_plant.specs.Replay.{HasAllCycles, IsReplay, images_of, takes_of}
use Rattle.iso_plant.specs.State.{IsState, Parts, rows_of, view_of}
use Rattle.iso_plant.proofs.Stepping.{read_map}

-- ---- the same plan by another name

pub accepted_as : (plant other : Plant) (bundles others : List Bundle) → other ≡ plant → others ≡ bundles → IsAccepted plant bundles → IsAccepted other others
accepted_as plant other bundles others first second accepted =
    subst (λ p. IsAccepted p others) (sym first) (subst (IsAccepted plant) (sym second) accepted)

-- few words, as a law has them
abbrev pub AreFew : (Plant → List Bundle → ℕ → ℕ) → Type 0
AreFew count = (plant : Plant) (bundles : List Bundle) → IsPlan plant bundles → IsAccepted plant bundles → (device : ℕ) → count plant bundles device ≤ MAX_WORDS

pub few_words : (plant : Plant) (bundles : List Bundle) → IsPlan plant bundles → IsAccepted plant bundles →
    AreFew (λ p b. output_count (setup_of p b)) → AreFew (λ p b. input_count (setup_of p b)) → HaveFewWords (setup_of plant bundles)
few_words plant bundles plan accepted outputs inputs =
    record { outputs = outputs plant bundles plan accepted; inputs = inputs plant bundles plan accepted }

pub on_devices : (plant : Plant) (bundles : List Bundle) → IsPlan plant bundles → All (λ (a : App). a.device.0 < length bundles) plant.apps
on_devices plant bundles plan =
    λ k d within.
    subst (λ n. (slice_index_or plant.apps k d).device.0 < n) (sym plan.count)
    (each_at (λ (a : App). a.device.0 < length plant.devices) plant.apps k (slice_index_or plant.apps k d) plan.rules.apps
    (slice_get-get_or plant.apps k d within))

pub plan_as : (plant other : Plant) (bundles others : List Bundle) → other ≡ plant → others ≡ bundles → IsPlan plant bundles → IsPlan other others
plan_as plant other bundles others first second plan = subst (λ p. IsPlan p others) (sym first) (subst (IsPlan plant) (sym second) plan)

blank_as : (plant other : Plant) (bundles others : List Bundle) (cycles : ℕ) (apps : List App) (histories : List AppCycles)
    (outputs images : List (List ℕ)) → other ≡ plant → others ≡ bundles → AreBlank other others cycles apps histories outputs images →
    AreBlank plant bundles cycles apps histories outputs images
blank_as plant other bundles others cycles apps histories outputs images first second are =
    subst (λ p. AreBlank p bundles cycles apps histories outputs images) first
    (subst (λ b. AreBlank other b cycles apps histories outputs images) second are)

-- ---- what a plant begins with

record Begins (p : Parts) (plant : Plant) (bundles : List Bundle) (walks : List (List PortNo)) : Type 0 where
  pub plan : IsPlan plant bundles
  pub accepted : IsAccepted plant bundles
  pub fits : Fits plant bundles p.world
  pub cycles : length p.world.rows ≤ MAX_CYCLES
  pub ready : AreReady plant bundles walks (length p.world.rows) p.net p.stations p.journal
  pub blank : AreBlank plant bundles (length p.world.rows) p.apps p.histories p.outputs p.images

output_of : (plant : Plant) (bundles : List Bundle) (device : ℕ) (b : Bundle) → slice_get bundles device ≡ Some b →
    output_count (setup_of plant bundles) device ≡ words_in (provided_of b.frames.entries)
output_of plant bundles device b held =
    ap (λ o. words_in (provided_of (unwrap_or (option_map (λ (x : FrameBlock). x.entries) o) [])))
    (slice_get-map (λ (x : Bundle). x.frames) bundles device ∙ ap (option_map (λ (x : Bundle). x.frames)) held)

module _ (net : NetState) (stations : StationsState) (world : World) (journal : Written) (apps : List App) (histories : List AppCycles)
    (outputs images : List (List ℕ)) where
  abbrev pub parts : Parts
  parts = record {
    net = net;
    stations = stations;
    world = world;
    journal = journal;
    done = 0;
    apps = apps;
    histories = histories;
    outputs = outputs;
    images = images;
  }

  module _ (walks : List (List PortNo)) (begins : Begins parts net.plant net.bundles walks) where
    abbrev begun : App → AppCycles
    begun = begun_history (net_setup net) (length world.rows)

    history_at : (n : ℕ) (app : App) → slice_get net.plant.apps n ≡ Some app → slice_get histories n ≡ Some (begun app)
    history_at n app at = ap (λ list. slice_get list n) begins.blank.histories ∙ map_at begun net.plant.apps n app at

    no_takes : (n : ℕ) (app : App) → slice_get net.plant.apps n ≡ Some app → takes_of n (view_of parts) ≡ []
    no_takes n app at = read_map (λ (x : AppCycles). x.takes) histories n (begun app) [] (history_at n app at)

    no_images : (n : ℕ) (app : App) → slice_get net.plant.apps n ≡ Some app → images_of n (view_of parts) ≡ []
    no_images n app at = read_map (λ (x : AppCycles). x.images) histories n (begun app) [] (history_at n app at)

    histories_many : length histories ≡ length net.plant.apps
    histories_many = ap length begins.blank.histories ∙ length-map net.plant.apps begun

    cycles : HasAllCycles (view_of parts)
    cycles = record {
      takes = length-map histories (λ (x : AppCycles). x.takes) ∙ histories_many;
      images = length-map histories (λ (x : AppCycles). x.images) ∙ histories_many;
      taken = λ n within. let (app, at) = some_at net.plant.apps n within in ap length (no_takes n app at);
      published = λ n within. let (app, at) = some_at net.plant.apps n within in ap length (no_images n app at);
    }

    nothing_there : (xs : List (List ℕ)) (k : ℕ) (image : List ℕ) → xs ≡ [] → slice_get xs k ≡ Some image → ⊥
    nothing_there xs k image is at = absurd (omega (arith, slice_get_within xs k image at, ap length is))

    replay : IsReplay (view_of parts)
    replay = record {
      within = omega arith;
      cycles = cycles;
      images = λ n k app image at given. absurd (nothing_there _ k image (no_images n app at) given);
      journal =
          subst (IsJournal (net_setup net) (rows_of parts) (parcel_rows net.plant net.bundles net.walks (rows_of parts)) 0) (sym begins.ready.rows) none;
    }

    all_left : length world.rows ≡ length world.rows - 0
    all_left = omega arith

    zeros_at : (device : ℕ) (words : List ℕ) → slice_get outputs device ≡ Some words → words ≡ replicate (output_count (net_setup net) device) 0
    zeros_at device words at =
        let (b, held, is) = mapped_at zero_output net.bundles device words (ap (λ list. slice_get list device) (sym begins.blank.outputs) ∙ at) in
        sym is ∙ ap (λ n. replicate n 0) (sym (output_of net.plant net.bundles device b held))

    image_at : (n : ℕ) (app : App) (image : List ℕ) → slice_get net.plant.apps n ≡ Some app → slice_get images n ≡ Some image →
        image ≡ replicate (input_count (net_setup net) app.device.0) 0
    image_at n app image at given =
        same_Some image _ (sym given ∙ ap (λ list. slice_get list n) begins.blank.images ∙ map_at zero_image histories n (begun app) (history_at n app at))

    begun_state : IsState parts
    begun_state = record {
      planned = record {
        plan = begins.plan;
        accepted = begins.accepted;
        stations = record { plant = begins.ready.same.0; bundles = begins.ready.same.1 };
        apps = begins.blank.apps;
        fits = begins.fits;
        cycles = begins.cycles;
      };
      replay = replay;
      carries = begins.ready.empty;
      played = begins.ready.begun _ _;
      cycle = begins.ready.cycle;
      room = subst (λ n. HasRoomFor net n journal.room) all_left begins.ready.room;
      histories = λ n app a at there.
          let is = same_Some a (begun app) (sym there ∙ history_at n app (ap (λ list. slice_get list n) (sym begins.blank.apps) ∙ at)) in
          record {
            take_room = ap (λ (x : AppCycles). x.take_room) is ∙ all_left;
            image_room = ap (λ (x : AppCycles). x.image_room) is ∙ all_left;
            output_words = ap (λ (x : AppCycles). x.output_words) is;
            input_words = ap (λ (x : AppCycles). x.input_words) is;
          };
      widths = record {
        count = ap length begins.blank.outputs ∙ length-map net.bundles zero_output ∙ begins.plan.count;
        each = λ device words at. ap length (zeros_at device words at) ∙ length-replicate (output_count (net_setup net) device) 0;
      };
      idle = λ device words idle at. zeros_at device words at;
      images = record {
        count = ap length begins.blank.images ∙ length-map histories zero_image ∙ histories_many;
        each = λ n app image at given. ap length (image_at n app image at given) ∙ length-replicate (input_count (net_setup net) app.device.0) 0;
      };
    }

  pub begun_as : (plant other : Plant) (bundles others : List Bundle) (walks : List (List PortNo)) (many : ℕ) →
      AreReady plant bundles walks many net stations journal → AreBlank other others many apps histories outputs images →
      other ≡ plant → others ≡ bundles → IsPlan plant bundles → IsAccepted plant bundles → Fits plant bundles world →
      length world.rows ≤ MAX_CYCLES → many ≡ length world.rows → IsState parts
  begun_as plant other bundles others walks many ready are first second plan accepted fits most all =
      let begins : Begins parts plant bundles walks =
      record {
        plan = plan;
        accepted = accepted;
        fits = fits;
        cycles = most;
        ready = subst (λ n. AreReady plant bundles walks n net stations journal) all ready;
        blank =
            blank_as plant other bundles others (length world.rows) apps histories outputs images first second
            (subst (λ n. AreBlank other others n apps histories outputs images) all are);
      } in
      begun_state walks
      (subst (λ p. Begins parts p net.bundles walks) (sym ready.plant)
      (subst (λ b. Begins parts plant b walks) (sym ready.bundles) begins))
