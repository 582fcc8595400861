use Rattle.std.proofs.Common.{◌≡◌, ◌<◌, ◌≤◌, ℕ, get_or}
use Rattle.placement.specs.Layouts.{end_of}
use Rattle.placement.specs.declared.layout.Sending.{Sending}
use Rattle.placement.proofs.search.end_in_red.Given as goal

abbrev pub invariant-loop-sending : goal.invariant-loop-sending
invariant-loop-sending l = (k : ℕ) (d : Sending) → k < l.sending-index → (get_or l.layout.sendings k d).anchor.0 ≡ l.anchor.0 →
    end_of l.limits l.layout.wire (get_or l.layout.sendings k d) l.offset ≤ l.limits.red_max
