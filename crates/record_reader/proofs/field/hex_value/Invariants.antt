use Rattle.std.proofs.Common.{◌≡◌, drop}
use Rattle.record_reader.specs.Reading.{hex_value}
use Rattle.record_reader.proofs.field.hex_value.Given as goal

abbrev pub invariant-loop-byte : goal.invariant-loop-byte
invariant-loop-byte l = hex_value l.value (drop l.byte-index l.text) ≡ hex_value 0 l.fn.text
