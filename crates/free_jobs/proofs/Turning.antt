-- A turn more.
use Rattle.std.specs.Prelude.{Option, Some, slice_get}
use Rattle.std.proofs.Common.{◌≡◌, ℕ, ◌<◌, ◌≤◌, nat_lt, List, [], ◌∷◌, ◌++◌, map, refl, sym, ap, ◌∙◌, subst}
use Rattle.std.proofs.lemmas.List.{map-append}
use Rattle.io_buffers.specs.Given.{Given}
use Rattle.io_buffers.specs.Passes.{ExchangeId, consumer_table, producer_table, published_by, taken_by}
use Rattle.io_buffers.specs.declared.shared.ConsumerPass.{ConsumerPass}
use Rattle.io_buffers.specs.declared.shared.ProducerPass.{ProducerPass}
use Rattle.iso_app.specs.Sealed.{sealed}
use Rattle.iso_plant.specs.Replay.{PlantView}
use Rattle.iso_rules.specs.Legal.{input_of}
use Rattle.iso_rules.specs.declared.turn.Turn.{Turn}
use Rattle.free_plant.specs.Named.{cycles_of, frame_widths, output_width}
use Rattle.free_jobs.specs.Jobs.{IsJob, TakesUpTo}
use Rattle.take_lists.specs.Rows.{FindsMore, RepliesUpTo, output_row}
use Rattle.take_lists.specs.Takes.{AreFresh, AreSomeOf, SameTake}
use Rattle.take_lists.proofs.TakeLists.{fresh_more, some_keep, some_on}

replies_more : {A : Type 0} (reply : A → List ℕ → ℕ → List ℕ) (next : A → List ℕ → ℕ → A) (lengths : List ℕ) (words : ℕ) (state : A) (turns : List Turn) (app after : A) (t : Turn)
    → RepliesUpTo reply next lengths words state turns app → t.output ≡ sealed lengths (reply app t.input words) → after ≡ next app t.input words
    → RepliesUpTo reply next lengths words state (turns ++ t ∷ []) after
replies_more reply next lengths words state [] app after t r out is =
    (subst (λ (a : _). t.output ≡ sealed lengths (reply a t.input words)) r out, subst (λ (a : _). after ≡ next a t.input words) r is)
replies_more reply next lengths words state (s ∷ turns) app after t r out is =
    (r.0, replies_more reply next lengths words (next state s.input words) turns app after t r.1 out is)

finds_more : (before : ℕ) (turns : List Turn) (found : ℕ) (t : Turn) → FindsMore before turns found → found < t.found → t.found ≤ t.taken.number
    → FindsMore before (turns ++ t ∷ []) t.found
finds_more before [] found t r later newest = (subst (λ (n : ℕ). n < t.found) r later, newest, refl)
finds_more before (s ∷ turns) found t r later newest = (r.0, r.1, finds_more s.found turns found t r.2 later newest)

module _ {A : Type 0} (reply : A → List ℕ → ℕ → List ℕ) (next : A → List ℕ → ℕ → A) (firsts : List A) (inputs outputs : List ExchangeId) (start : Option PlantView) (number : ℕ) where
  pub job_turn : (app after : A) (lengths : List ℕ) (taker taken : ConsumerPass) (giver given : ProducerPass) (turns more : List Turn) (found last : ℕ) (turn : Turn) (t : Given)
      → IsJob reply next firsts inputs outputs start number app lengths taker giver turns found last
      → more ≡ turns ++ turn ∷ []
      → consumer_table taken ≡ consumer_table taker → producer_table given ≡ producer_table giver
      → TakesUpTo (taken_by taker) (taken_by taken) t → SameTake (input_of turn) t
      → published_by given ≡ published_by giver ++ output_row turn ∷ []
      → turn.output ≡ sealed lengths (reply app turn.input (output_width start number)) → after ≡ next app turn.input (output_width start number)
      → found < turn.found → turn.found ≤ turn.taken.number → turn.found ≤ cycles_of start → turn.taken.fresh ≡ nat_lt last turn.taken.number
      → IsJob reply next firsts inputs outputs start number after lengths taken given more turn.found turn.taken.number
  job_turn app after lengths taker taken giver given turns more found last turn t j is own_taker own_giver upto same published out state later newest within fresh =
      let inputs_are : map input_of more ≡ map input_of turns ++ input_of turn ∷ [] = ap (λ (l : List Turn). map input_of l) is ∙ map-append input_of turns (turn ∷ []) in record {
        turned = record {
          first = j.turned.first;
          first_is = j.turned.first_is;
          replies = subst (λ (l : List Turn). RepliesUpTo reply next (frame_widths start number) (output_width start number) j.turned.first l after) (sym is)
              (replies_more reply next (frame_widths start number) (output_width start number) j.turned.first turns app after turn j.turned.replies
              (out ∙ ap (λ (l : List ℕ). sealed l (reply app turn.input (output_width start number))) j.frames) state);
          rises = subst (λ (l : List Turn). FindsMore 0 l turn.found) (sym is) (finds_more 0 turns found turn j.turned.rises later newest);
          fresh = subst (λ (l : List Given). AreFresh 0 l turn.taken.number) (sym inputs_are) (fresh_more 0 (map input_of turns) last (input_of turn) j.turned.fresh fresh);
        };
        below = j.below;
        side = record {
          input_table = subst (λ (z : ExchangeId). slice_get inputs number ≡ Some z) (sym own_taker) j.side.input_table;
          output_table = subst (λ (z : ExchangeId). slice_get outputs number ≡ Some z) (sym own_giver) j.side.output_table;
        };
        frames = j.frames;
        takes = subst (λ (l : List Given). AreSomeOf l (taken_by taken)) (sym inputs_are)
            (subst (λ (l : List Given). AreSomeOf (map input_of turns ++ input_of turn ∷ []) l) (sym upto.1)
            (some_keep (map input_of turns) (taken_by taker ++ upto.0) (input_of turn) t (some_on (map input_of turns) (taken_by taker) upto.0 j.takes) same));
        published = published ∙ (ap (λ (l : List (List ℕ)). l ++ output_row turn ∷ []) j.published ∙ sym (ap (λ (l : List Turn). map output_row l) is ∙ map-append output_row turns (turn ∷ [])));
        within = within;
        few = j.few;
      }
