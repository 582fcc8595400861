use Rattle.std.proofs.Common.{◌≡◌, drop}
use Rattle.world_file.specs.Reading.{delays_read}
use Rattle.world_file.proofs.line.read_delays.Given as goal

-- what is still read goes on as all of it does
abbrev pub invariant-loop-forwarding : goal.invariant-loop-forwarding
invariant-loop-forwarding l =
    delays_read (drop l.forwarding-index l.forwardings) l.draft l.rest ≡ delays_read l.fn.forwardings l.fn.draft l.fn.bytes
