use Rattle.std.proofs.Common.{◌≡◌, drop}
use Rattle.world_file.specs.Reading.{errors_read}
use Rattle.world_file.proofs.line.read_errors.Given as goal

-- what is still read goes on as all of it does
abbrev pub invariant-loop : goal.invariant-loop
invariant-loop l = errors_read (drop l.index l.devices) l.draft l.rest ≡ errors_read l.fn.devices l.fn.draft l.fn.bytes
