use Rattle.std.proofs.Common.{◌≡◌, ◌++◌, ℕ, List, subst}
use Rattle.std.specs.Prelude.{OnOk}
use Rattle.pd_blocks.proofs.SyncLaws.{zeros_cut}
use Rattle.pd_blocks.proofs.sync.put_zeros.Goals as goal

pub returns : goal.returns
returns c = subst (λ (z : List ℕ). OnOk c.put_bytes.result (c.put_bytes.new.out.items ≡ c.args.out.now.items ++ z)) (zeros_cut c.args.count c.requires) c.put_bytes.ensures
