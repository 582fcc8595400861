-- An app keeps up where each part of that holds.
use Rattle.std.specs.Prelude.{All}
use Rattle.std.proofs.Common.{◌≡◌, ℕ, ◌≤◌, ◌↔◌, List, Bool, IsTrue, subst}
use Rattle.io_buffers.specs.Given.{Given}
use Rattle.iso_rules.specs.Legal.{FindsAll, KeepsUp}
use Rattle.iso_rules.specs.Lockstep.{AppLog}
use Rattle.iso_rules.specs.declared.turn.Turn.{Turn}
use Rattle.log_numbers.specs.Near.{AreTakenNear}

module _ (cycles : ℕ) (log : AppLog) (r : Bool) where
  all_parts : FindsAll cycles log.turns → All (λ (t : Turn). t.found ≤ t.taken.number) log.turns
      → (IsTrue r ↔ AreTakenNear log.takes log.turns) → IsTrue r ↔ KeepsUp cycles log
  all_parts finds newest tells = (
    λ yes. record {
      finds = finds;
      newest = newest;
      near = λ k number g t at is turn. (tells.0 yes k g at).near number t is turn;
      opening = λ k g at is. (tells.0 yes k g at).opening is;
    },
    λ keeps. tells.1 (λ k g at. record {
      opening = λ is. keeps.opening k g at is;
      near = λ number t is turn. keeps.near k number g t at is turn;
    }),
  )

  pub keeps_up_by_parts : (takes : List Given) (turns : List Turn) → takes ≡ log.takes → turns ≡ log.turns
      → FindsAll cycles turns → All (λ (t : Turn). t.found ≤ t.taken.number) turns
      → (IsTrue r ↔ AreTakenNear takes turns) → IsTrue r ↔ KeepsUp cycles log
  keeps_up_by_parts takes turns same_takes same_turns finds newest tells =
      all_parts
      (subst (λ (ts : List Turn). FindsAll cycles ts) same_turns finds)
      (subst (λ (ts : List Turn). All (λ (t : Turn). t.found ≤ t.taken.number) ts) same_turns newest)
      (subst (λ (gs : List Given). IsTrue r ↔ AreTakenNear gs log.turns) same_takes
      (subst (λ (ts : List Turn). IsTrue r ↔ AreTakenNear takes ts) same_turns tells))
