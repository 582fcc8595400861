use Rattle.std.proofs.Common.{ℕ, ◌<◌, ◌≡◌, get_or}
use Rattle.irt_base.specs.declared.numbers.DevId.{DevId}
use Rattle.irt_window.proofs.demands.consumes.Given as goal

abbrev pub invariant-loop-consumer : goal.invariant-loop-consumer
invariant-loop-consumer l = (k : ℕ) (d : DevId) → k < l.consumer-index → (get_or l.demand.consumers k d).0 ≡ l.device.0 → ⊥
