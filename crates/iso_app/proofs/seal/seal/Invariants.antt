use Rattle.std.proofs.Common.{◌≡◌, ◌≤◌, ◌++◌, length, take, drop}
use Rattle.iso_app.specs.Sealed.{sealed}
use Rattle.iso_app.proofs.seal.seal.Given as goal

abbrev pub invariant-loop-length : goal.invariant-loop-length
invariant-loop-length l = record {
  within : l.start ≤ length l.words;
  whole : take l.start l.words ++ sealed (drop l.length-index l.lengths) (drop l.start l.words) ≡ sealed l.lengths l.fn.words;
}
