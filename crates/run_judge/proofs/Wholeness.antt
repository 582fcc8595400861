-- The words of an app's log are whole where those of both sides are.
use Rattle.std.proofs.Common.{◌↔◌, ℕ}
use Rattle.iso_rules.specs.Legal.{HasWholeInputs, HasWholeOutputs}
use Rattle.iso_rules.specs.Lockstep.{AppLog}
use Rattle.plan_rules.specs.Way.{Setup}
use Rattle.run_judge.specs.Kept.{HasWholeWords}

module _ (setup : Setup) (device : ℕ) (log : AppLog) (P : Type 0) where
  pub inputs_tell : HasWholeOutputs setup device log → (P ↔ HasWholeInputs setup device log)
      → P ↔ HasWholeWords setup device log
  inputs_tell outputs tells =
      (λ p. record { outputs = outputs; inputs = tells.0 p }, λ whole. tells.1 whole.inputs)

  pub outputs_fail : ¬ P → (P ↔ HasWholeOutputs setup device log) → P ↔ HasWholeWords setup device log
  outputs_fail fails tells = (λ p. absurd (fails p), λ whole. tells.1 whole.outputs)
