-- The log of an app whose exchanges are closed.
use Rattle.std.specs.Prelude.{Option, Some, None, option_map, slice_get, replicate}
use Rattle.std.specs.List.{AllByRecursion, last_or}
use Rattle.std.proofs.Common.{◌≡◌, ℕ, zero, suc, ◌<◌, ◌≤◌, List, [], ◌∷◌, length, get_or, map, refl, sym, ap, ◌∙◌, subst, arith}
use Rattle.std.proofs.lemmas.List.{length-map}
use Rattle.io_buffers.specs.Given.{Given}
use Rattle.io_buffers.specs.Passes.{IsOfPublication}
use Rattle.io_buffers.specs.Steps.{NeverFell}
use Rattle.irt_base.specs.declared.plants.App.{App}
use Rattle.irt_world.specs.Rows.{world_row}
use Rattle.iso_plant.specs.Replay.{PlantView, images_of, setup_in, takes_of, world_in}
use Rattle.iso_rules.specs.Legal.{FindsAll, IsLateBefore, IsPublished, NeverFall, Replies, input_of}
use Rattle.iso_rules.specs.Station.{input_count, output_count, output_lengths}
use Rattle.iso_rules.specs.declared.turn.Turn.{Turn}
use Rattle.plan_rules.specs.Way.{Setup}
use Rattle.free_end.specs.Closed.{IsClosed}
use Rattle.free_end.specs.Ended.{HasEnded, HasLegalLog}
use Rattle.free_plant.specs.Named.{cycles_of, frame_widths, input_width, output_width}
use Rattle.free_plant.specs.Ties.{IsTied}
use Rattle.free_plant.specs.Views.{PortView}
use Rattle.free_plant.proofs.ByName.{got_below, run_app, run_cycles}
use Rattle.take_lists.specs.Rows.{AreLegalTakes, FindsMore, RepliesUpTo, output_rows}
use Rattle.take_lists.specs.Takes.{AreFresh, AreTakesOf}
use Rattle.take_lists.proofs.Recorded.{all_at, all_least, all_map, legal_takes}
use Rattle.take_lists.proofs.TakeLists.{some_takes}

turns_never_fall : (before : ℕ) (turns : List Turn) (last : ℕ) → AreFresh before (map input_of turns) last
    → AllByRecursion (λ (u : Given). before ≤ u.taken.number) (map input_of turns) → NeverFell (map input_of turns) → NeverFall before (map (λ (t : Turn). t.taken) turns)
turns_never_fall before [] last fresh least fell = tt
turns_never_fall before (t ∷ turns) last fresh least fell = (least.0, fresh.0, turns_never_fall t.taken.number turns last fresh.1 fell.0 fell.1)

finds_least : (n before : ℕ) (turns : List Turn) (found : ℕ) → n ≤ before → FindsMore before turns found → AllByRecursion (λ (t : Turn). n < t.found) turns
finds_least n before [] found le f = tt
finds_least n before (t ∷ turns) found le f = (let a = f.0 in omega arith, finds_least n t.found turns found (let a = f.0 in omega arith) f.2)

finds_newest : (before : ℕ) (turns : List Turn) (found : ℕ) → FindsMore before turns found → AllByRecursion (λ (t : Turn). t.found ≤ t.taken.number) turns
finds_newest before [] found f = tt
finds_newest before (t ∷ turns) found f = (f.1, finds_newest t.found turns found f.2)

finds_pairs : (before : ℕ) (turns : List Turn) (found : ℕ) → FindsMore before turns found → (i j : ℕ) (d : Turn) → i < j → j < length turns
    → (get_or turns i d).found < (get_or turns j d).found
finds_pairs before [] found f i j d lt below = absurd (omega arith)
finds_pairs before (t ∷ turns) found f zero zero d lt below = absurd (omega arith)
finds_pairs before (t ∷ turns) found f zero (suc j) d lt below = all_at (λ (u : Turn). t.found < u.found) turns (finds_least t.found t.found turns found (omega arith) f.2) j d (omega arith)
finds_pairs before (t ∷ turns) found f (suc i) zero d lt below = absurd (omega arith)
finds_pairs before (t ∷ turns) found f (suc i) (suc j) d lt below = finds_pairs t.found turns found f.2 i j d (omega arith) (omega arith)

finds_last : (t : Turn) (turns : List Turn) (found : ℕ) → FindsMore t.found turns found → option_map (λ (u : Turn). u.found) (last_or (Some t) turns) ≡ Some found
finds_last t [] found f = ap (λ (n : ℕ). Some n) (sym f)
finds_last t (s ∷ turns) found f = finds_last s turns found f.2

finds_end : (turns : List Turn) (found : ℕ) → 1 ≤ found → FindsMore 0 turns found → option_map (λ (u : Turn). u.found) (last_or None turns) ≡ Some found
finds_end [] found some f = absurd (omega arith)
finds_end (t ∷ turns) found some f = finds_last t turns found f.2

finds_all : (turns : List Turn) (found : ℕ) → 1 ≤ found → FindsMore 0 turns found → FindsAll found turns
finds_all turns found some f = record {
  some = λ k d lt. (let h = all_at (λ (t : Turn). 0 < t.found) turns (finds_least 0 0 turns found (omega arith) f) k d lt in omega arith);
  rising = finds_pairs 0 turns found f;
  last = finds_end turns found some f;
}

replies_are : {A : Type 0} (reply : A → List ℕ → ℕ → List ℕ) (next : A → List ℕ → ℕ → A) (setup : Setup) (device : ℕ) (state : A) (turns : List Turn) (after : A)
    → RepliesUpTo reply next (output_lengths setup device) (output_count setup device) state turns after → Replies reply next setup device state turns
replies_are reply next setup device state [] after r = tt
replies_are reply next setup device state (t ∷ turns) after r = (r.0, replies_are reply next setup device (next state t.input (output_count setup device)) turns after r.1)

input_whole : (ps : List (List ℕ)) (t : Given) → IsOfPublication ps t → IsPublished ps t
input_whole ps t of = record { made = of.made; whole = of.whole }

inputs_late : (cycles words : ℕ) (images : List (List ℕ)) (turns : List Turn) → length images ≡ cycles
    → AllByRecursion (IsOfPublication (replicate words 0 ∷ images)) (map input_of turns) → AllByRecursion (λ (t : Turn). IsLateBefore cycles t.taken) turns
inputs_late cycles words images [] count all = tt
inputs_late cycles words images (t ∷ turns) count all =
    ((λ out. (let h = all.0.late out in omega arith)), inputs_late cycles words images turns count all.1)

map_same : {X : Type 0} (f : X → X) (xs : List X) → ((x : X) → f x ≡ x) → map f xs ≡ xs
map_same f [] same = refl
map_same f (x ∷ xs) same = λ i. same x i ∷ map_same f xs same i

module _ {A : Type 0} (reply : A → List ℕ → ℕ → List ℕ) (next : A → List ℕ → ℕ → A) (firsts : List A) (start : Option PlantView) (v : PlantView) (n : ℕ)
    (p : PortView) (turns : List Turn) (ended : HasEnded start v) (tied : IsTied v n p) (closed : IsClosed reply next firsts start n (cycles_of start) p turns) where
  -- the takes of its cycles
  cycle_takes : AreLegalTakes (output_width start n) turns (takes_of n v)
  cycle_takes =
      subst (λ (l : List Given). AreLegalTakes (output_width start n) turns l) (sym tied.recorded)
      (legal_takes (output_width start n) turns tied.whole (record {
        of = some_takes (output_rows (output_width start n) turns) tied.whole p.taken tied.takes closed.outputs;
        last = p.last;
        fresh = tied.fresh;
        near = tied.near;
      }))

  turn_takes : AreTakesOf (replicate (input_width start n) 0 ∷ images_of n v) (map input_of turns)
  turn_takes = subst (λ (l : List (List ℕ)). AreTakesOf (replicate (input_width start n) 0 ∷ l) (map input_of turns)) tied.images closed.inputs

  module _ (app : App) (at : slice_get v.plant.apps n ≡ Some app) where
    cycle_count : v.done ≡ length (world_in v)
    cycle_count = ended.done ∙ (run_cycles start v ended.run ∙ sym (length-map v.world.rows (world_row v.plant v.bundles)))

    output_is : output_width start n ≡ output_count (setup_in v) app.device.0
    output_is = run_app output_count 0 start v n app ended.run at

    frames_are : frame_widths start n ≡ output_lengths (setup_in v) app.device.0
    frames_are = run_app output_lengths [] start v n app ended.run at

    input_is : input_width start n ≡ input_count (setup_in v) app.device.0
    input_is = run_app input_count 0 start v n app ended.run at

    legal_outputs : AreLegalTakes (output_count (setup_in v) app.device.0) turns (takes_of n v)
    legal_outputs = subst (λ (w : ℕ). AreLegalTakes w turns (takes_of n v)) output_is cycle_takes

    legal_inputs : AreTakesOf (replicate (input_count (setup_in v) app.device.0) 0 ∷ images_of n v) (map input_of turns)
    legal_inputs = subst (λ (w : ℕ). AreTakesOf (replicate w 0 ∷ images_of n v) (map input_of turns)) input_is turn_takes

    finds : FindsMore 0 turns (length (world_in v))
    finds = subst (λ (m : ℕ). FindsMore 0 turns m) (sym ended.done ∙ cycle_count) closed.turned.rises

    replied : (state : A) → slice_get firsts n ≡ Some state → Replies reply next (setup_in v) app.device.0 state turns
    replied state first =
        let same : closed.turned.first ≡ state = (let e = sym closed.turned.first_is ∙ first in (cc)) in
        replies_are reply next (setup_in v) app.device.0 state turns closed.after
        (subst (λ (s : A). RepliesUpTo reply next (output_lengths (setup_in v) app.device.0) (output_count (setup_in v) app.device.0) s turns closed.after) same
        (subst (λ (w : ℕ). RepliesUpTo reply next (output_lengths (setup_in v) app.device.0) w closed.turned.first turns closed.after) output_is
        (subst (λ (l : List ℕ). RepliesUpTo reply next l (output_width start n) closed.turned.first turns closed.after) frames_are closed.turned.replies)))

  pub legal_log : HasLegalLog reply next firsts v n turns
  legal_log app state at first =
      let below = got_below v.plant.apps n app at in
      let count = cycle_count app at in
      let outputs = legal_outputs app at in
      let inputs = legal_inputs app at in
      let some : 1 ≤ length (world_in v) = (let a = ended.some in let b = ended.done in omega arith) in
      let shown : length (images_of n v) ≡ length (world_in v) = ended.replay.cycles.published n below ∙ count in record {
        cycles = record { takes = ended.replay.cycles.taken n below ∙ count; images = shown };
        outputs = outputs.whole;
        images = λ k image seen. ended.replay.images n k app image at seen;
        inputs = all_at (IsPublished (replicate (input_count (setup_in v) app.device.0) 0 ∷ images_of n v)) (map input_of turns)
            (subst (λ (l : List Given). AllByRecursion (IsPublished (replicate (input_count (setup_in v) app.device.0) 0 ∷ images_of n v)) l) (map_same (λ (g : Given). g) (map input_of turns) (λ g. refl))
            (all_map (λ (g : Given). g) (IsOfPublication (replicate (input_count (setup_in v) app.device.0) 0 ∷ images_of n v))
            (IsPublished (replicate (input_count (setup_in v) app.device.0) 0 ∷ images_of n v)) (input_whole (replicate (input_count (setup_in v) app.device.0) 0 ∷ images_of n v)) (map input_of turns) inputs.each));
        numbers = record {
          outputs = outputs.numbers;
          inputs = turns_never_fall 0 turns closed.last closed.turned.fresh (all_least (map input_of turns)) inputs.risen;
        };
        pace = record {
          finds = finds_all turns (length (world_in v)) some (finds app at);
          newest = all_at (λ (t : Turn). t.found ≤ t.taken.number) turns (finds_newest 0 turns (length (world_in v)) (finds app at));
          near = outputs.near;
          opening = outputs.opening;
        };
        replies = replied app at state first;
        windows = record {
          outputs = outputs.windows;
          inputs = all_at (λ (t : Turn). IsLateBefore (length (world_in v)) t.taken) turns (inputs_late (length (world_in v)) (input_count (setup_in v) app.device.0) (images_of n v) turns shown inputs.each);
        };
      }
