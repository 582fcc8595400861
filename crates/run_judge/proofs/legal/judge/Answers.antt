use Rattle.run_judge.proofs.Judged.{judged_where, refused_where}
use Rattle.run_judge.proofs.legal.judge.Goals as goal

pub returns-then-not-branch : goal.returns-then-not-branch
returns-then-not-branch g c =
    let failed = c.if-not-branch.true in
    let accepted = c.args.accepted.now in
    refused_where g.A.IsoApp.reply g.A.IsoApp.next_state accepted.plant accepted.bundles c.args.routes.now.walks
    c.args.world c.args.apps c.args.log.now c.len-2.result c.as_slice-logs.result.now c.len-2.ensures
    c.as_slice-logs.ensures _ _ (λ yes. absurd (cc)) (λ yes. absurd (cc)) c.in_ok-are_kept.ensures.exact

pub returns : goal.returns
returns g c =
    let kept = c.if-not-branch.false in
    let accepted = c.args.accepted.now in
    judged_where g.A.IsoApp.reply g.A.IsoApp.next_state accepted.plant accepted.bundles c.args.routes.now.walks
    c.args.world c.args.apps c.args.log.now c.len-2.result c.as_slice-logs.result.now c.len-2.ensures
    c.as_slice-logs.ensures c.replays.result c.requires.apps (c.in_ok-are_kept.ensures.exact.0 (cc))
    (c.in_ok-are_kept.ensures.shape (cc)) c.replays.ensures
