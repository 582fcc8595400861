use Rattle.std.proofs.Common.{◌≡◌, ◌-◌, length}
use Rattle.world_file.specs.Reading.{links_read}
use Rattle.world_file.proofs.line.read_links.Given as goal

-- what is still read goes on as all of it does
abbrev pub invariant-loop : goal.invariant-loop
invariant-loop l = links_read l.links (length l.bytes - l.counter) l.draft l.rest ≡ links_read l.links (length l.fn.bytes) l.fn.draft l.fn.bytes
