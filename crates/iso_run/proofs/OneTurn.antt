-- An app's cycle and its turn.
use Rattle.std.proofs.Common.{◌≡◌, ℕ, ◌+◌, true, nat_lt, List, [], ◌∷◌, ◌++◌, length, map, replicate, sym, ◌∙◌, ap, subst, arith}
use Rattle.std.proofs.lemmas.Bool.Decides.{nat_tests}
use Rattle.std.proofs.lemmas.List.{get_or_at, length-map, length_push, map_push}
use Rattle.io_buffers.specs.Passes.{publication}
use Rattle.iso_rules.specs.Station.{input_count, output_count}
use Rattle.iso_rules.specs.Turns.{AppRun, inputs_published, after_take, after_image, turn_after, after_turn}
use Rattle.iso_rules.specs.declared.turn.Turn.{Turn}
use Rattle.iso_run.specs.Apps.{with_input, with_offer, output_of, turn_of, IsTurned}
use Rattle.iso_run.specs.InLockstep.{IsAppOf}
use Rattle.iso_run.specs.declared.apps.LockstepApp.{LockstepApp}
use Rattle.plan_rules.specs.Way.{Setup}

-- the last of k + 1 publications after the first
last_published : (first : List ℕ) (before : List (List ℕ)) (words : List ℕ) (k : ℕ) → length before ≡ k →
    publication (first ∷ before ++ words ∷ []) (k + 1) ≡ words
last_published first before words k count = get_or_at (first ∷ before) words [] [] (k + 1) (omega (arith, count))

below_next : (k : ℕ) → nat_lt k (k + 1) ≡ true
below_next k = grind (arith, nat_tests)

module _ {A : Type 0} (reply : A → List ℕ → ℕ → List ℕ) (next : A → List ℕ → ℕ → A) (setup : Setup) where
  pub one_turn : (k : ℕ) (run : AppRun A) (a b : LockstepApp A) (image : List ℕ) → IsAppOf setup k run a →
      IsTurned reply next (k + 1) (with_input image (with_offer a)) b →
      IsAppOf setup (k + 1) (after_turn reply next setup k (after_image image (after_take setup k run))) b
  one_turn k run a b image is turn =
      let shown : LockstepApp A = with_input image (with_offer a) in
      let ran : AppRun A = after_image image (after_take setup k run) in
      let made : Turn = turn_after reply setup k ran in
      let seen : publication (inputs_published setup run.device (run.images ++ image ∷ [])) (k + 1) ≡ image =
      last_published (replicate (input_count setup run.device) 0) run.images image k is.image_count in
      let number : a.input.newest ≡ k = is.published.input in
      let held : a.input.held ≡ k = is.published.held in
      let fresh : nat_lt a.input.held (a.input.newest + 1) ≡ nat_lt 0 (k + 1) =
      ap (λ m. nat_lt m (a.input.newest + 1)) held ∙ ap (λ m. nat_lt k (m + 1)) number ∙ below_next k ∙ grind (arith, nat_tests) in
      let state = is.state in
      let lengths = is.widths.lengths in
      let width = is.widths.output in
      let output : output_of reply next shown ≡ made.output = cc in
      let same : turn_of reply next (k + 1) shown ≡ made = cc in
      subst (λ (x : LockstepApp A). IsAppOf setup (k + 1) (after_turn reply next setup k ran) x) (sym turn.turned)
      (record {
        state = cc;
        turns = ap (λ ts. ts ++ turn_of reply next (k + 1) shown ∷ []) is.turns ∙ ap (λ (t : Turn). run.turns ++ t ∷ []) same;
        turn_count = length_push run.turns made ∙ ap (λ m. m + 1) is.turn_count;
        image_count = length_push run.images image ∙ ap (λ m. m + 1) is.image_count;
        widths = record { lengths = is.widths.lengths; output = is.widths.output; input = is.widths.input };
        published = record {
          output = ap (λ m. m + 1) is.published.output;
          words = output
              ∙ sym (last_published (replicate (output_count setup run.device) 0) (map (λ (t : Turn). t.output) run.turns) made.output k
              (length-map run.turns (λ (t : Turn). t.output) ∙ is.turn_count))
              ∙ ap (λ ws. publication (replicate (output_count setup run.device) 0 ∷ ws) (k + 1)) (sym (map_push (λ (t : Turn). t.output) run.turns made));
          fresh = ap (λ m. nat_lt m (k + 1)) is.published.output ∙ below_next k ∙ grind (arith, nat_tests);
          input = ap (λ m. m + 1) number;
          held = ap (λ m. m + 1) number;
        };
      })
