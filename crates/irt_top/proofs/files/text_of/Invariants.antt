use Rattle.std.proofs.Common.{◌≡◌, take, string_bytes}
use Rattle.irt_top.proofs.files.text_of.Given as goal

abbrev pub invariant-loop-letter : goal.invariant-loop-letter
invariant-loop-letter l = string_bytes l.text ≡ take l.letter-index l.name
