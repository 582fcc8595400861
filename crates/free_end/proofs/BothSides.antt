-- What the passes of both sides tell.
use Rattle.std.specs.Prelude.{Option, replicate}
use Rattle.std.proofs.Common.{◌≡◌, ℕ, ◌+◌, List, ◌∷◌, map, subst}
use Rattle.io_buffers.specs.Given.{Given}
use Rattle.iso_plant.specs.Replay.{PlantView}
use Rattle.iso_rules.specs.Legal.{input_of}
use Rattle.iso_rules.specs.declared.turn.Turn.{Turn}
use Rattle.free_end.specs.Closed.{IsClosed}
use Rattle.free_jobs.specs.Jobs.{HasTurned}
use Rattle.free_plant.specs.Named.{input_width, output_width}
use Rattle.free_plant.specs.Views.{PortView}
use Rattle.take_lists.specs.Rows.{output_row}
use Rattle.take_lists.specs.Takes.{AreSomeOf, AreTakesOf}
use Rattle.take_lists.proofs.TakeLists.{some_takes}

same_takes : (first : List ℕ) (ps qs : List (List ℕ)) (ts us : List Given) → ps ≡ qs → ts ≡ us → AreTakesOf (first ∷ ps) ts → AreTakesOf (first ∷ qs) us
same_takes first ps qs ts us is same all = subst (λ (l : List (List ℕ)). AreTakesOf (first ∷ l) us) is (subst (λ (l : List Given). AreTakesOf (first ∷ ps) l) same all)

pub closed_from : {A : Type 0} (reply : A → List ℕ → ℕ → List ℕ) (next : A → List ℕ → ℕ → A) (firsts : List A) (start : Option PlantView)
    (wire number found : ℕ) (p : PortView) (turns : List Turn) (output_taken input_taken : List Given) (output_published input_published : List (List ℕ))
    → number ≡ wire → ((after : A) × (last : ℕ) × HasTurned reply next firsts start number found turns after last)
    → output_published ≡ map output_row turns → output_taken ≡ p.taken → input_published ≡ p.published → AreSomeOf (map input_of turns) input_taken
    → AreTakesOf (replicate (output_width start wire + 1) 0 ∷ output_published) output_taken
    → AreTakesOf (replicate (input_width start wire) 0 ∷ input_published) input_taken
    → IsClosed reply next firsts start wire found p turns
closed_from reply next firsts start wire number found p turns output_taken input_taken output_published input_published same turned rows taken published some outputs inputs = record {
  after = turned.0;
  last = turned.1;
  turned = subst (λ (n : ℕ). HasTurned reply next firsts start n found turns turned.0 turned.1) same turned.2;
  outputs = same_takes (replicate (output_width start wire + 1) 0) output_published (map output_row turns) output_taken p.taken rows taken outputs;
  inputs = some_takes (replicate (input_width start wire) 0 ∷ p.published) (map input_of turns) input_taken some
      (subst (λ (l : List (List ℕ)). AreTakesOf (replicate (input_width start wire) 0 ∷ l) input_taken) published inputs);
}
