use Rattle.std.proofs.Common.{◌≡◌, ◌-◌, drop}
use Rattle.irt_block.specs.Reading.{bytes_pass}
use Rattle.irt_block.proofs.fields.all_of_class.Given as goal

-- what is still tested decides as all of it does
abbrev pub invariant-loop-place : goal.invariant-loop-place
invariant-loop-place l = bytes_pass l.class (l.count - l.place) l.extent (drop l.place l.rest) ≡ bytes_pass l.class l.count l.extent l.rest
