use Rattle.std.proofs.Common.{◌<◌}
use Rattle.std.proofs.Math.Facts.{Fits-lt-pow}
use Rattle.std.proofs.lemmas.List.Elements.{recursion_from_All, All-from_get_or}
use Rattle.irt_io.proofs.bytes.are_bytes.Goals as goal

pub returns : goal.returns
returns c = recursion_from_All (λ b. b < 256) c.args.bytes.now (All-from_get_or (λ b. b < 256) c.args.bytes.now 0 (λ i below. Fits-lt-pow (c.type_inv.bytes i)))
