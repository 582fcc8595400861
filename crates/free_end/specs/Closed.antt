-- What the passes of both sides tell of an app, once its exchanges are closed.
use Rattle.std.specs.Prelude.{◌≡◌, ℕ, ◌+◌, ⊤, List, [], ◌∷◌, map, replicate, Option}
use Rattle.iso_plant.specs.Replay.{PlantView}
use Rattle.iso_rules.specs.Legal.{input_of}
use Rattle.iso_rules.specs.declared.turn.Turn.{Turn}
use Rattle.free_jobs.specs.Jobs.{HasTurned, JobView}
use Rattle.free_plant.specs.Named.{cycles_of, input_width, output_width}
use Rattle.free_plant.specs.Ties.{IsTied}
use Rattle.free_plant.specs.Views.{PortView}
use Rattle.take_lists.specs.Rows.{output_rows}
use Rattle.take_lists.specs.Takes.{AreTakesOf}

pub record IsClosed {A : Type 0} (reply : A → List ℕ → ℕ → List ℕ) (next : A → List ℕ → ℕ → A) (firsts : List A)
    (start : Option PlantView) (number found : ℕ) (p : PortView) (turns : List Turn) : Type 0 where
  pub after : A
  pub last : ℕ
  pub turned : HasTurned reply next firsts start number found turns after last
  pub outputs : AreTakesOf (output_rows (output_width start number) turns) p.taken
  pub inputs : AreTakesOf (replicate (input_width start number) 0 ∷ p.published) (map input_of turns)

-- The exchanges, the port and the job of each app from number n on: what the plant has of it is tied to the port, and the job
-- found all cycles.
abbrev pub AreParts : Option PlantView → PlantView → ℕ → List ℕ → List PortView → List JobView → Type 0
AreParts start v n [] [] [] = ⊤
AreParts start v n (w ∷ ws) (p ∷ ps) (j ∷ js) =
    (w ≡ n) × IsTied v n p × (j.number ≡ n) × (j.found ≡ cycles_of start) × AreParts start v (n + 1) ws ps js
AreParts start v n ws ps js = ⊥
