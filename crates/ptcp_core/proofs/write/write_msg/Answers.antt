use Rattle.std.proofs.Common.{◌≡◌, length, sym, ◌∙◌, ap, arith}
use Rattle.std.proofs.lemmas.List.{drop_all}
use Rattle.ptcp_core.proofs.write.write_msg.Goals as goal

pub returns-in-Sync-clause-rest : goal.returns-in-Sync-clause-rest
returns-in-Sync-clause-rest c =
    let here : length c.sync.result ≡ 28 = ap length c.sync.ensures in
    drop_all 28 c.sync.result (omega (arith, here)) ∙ sym (drop_all 28 c.args.out.now (omega (arith, c.fits-out)))
