use Rattle.std.proofs.Common.{sym, ap, refl}
use Rattle.irt_switch.specs.declared.action.Outgoing.{Outgoing}
use Rattle.irt_switch.specs.State.{SwitchState}
use Rattle.net_starts.specs.Released.{IsSmallTime}
use Rattle.net_starts.proofs.Releasing.{releasing_begins, releasing_put, releasing_room, releasing_among, shorter, kept}
use Rattle.net_starts.proofs.releases.push_released.Goals as goal

pub loop-out-init : goal.loop-out-init
loop-out-init c = record { releasing = releasing_begins _ _ _ _; switch = refl }

pub released_start-requires-clause-time : goal.released_start-requires-clause-time
released_start-requires-clause-time c =
    releasing_among _ _ _ _ _ _ c.in-Some.out (λ (o : Outgoing). IsSmallTime 60 o.at) c.loop-out.invariant.releasing (sym c.in-Some.ensures.first) c.requires.times

pub push_starts-requires : goal.push_starts-requires
push_starts-requires c =
    releasing_room _ _ _ _ _ _ c.in-Some.out c.released_start.result c.loop-out.invariant.releasing c.in-Some.ensures.first c.released_start.ensures c.requires.room

pub loop-out-smaller : goal.loop-out-smaller
loop-out-smaller c = shorter _ _ c.in-Some.out c.in-Some.ensures.first (ap (λ (s : SwitchState). s.left) c.in-Some.ensures.rest)

pub loop-out-preserved : goal.loop-out-preserved
loop-out-preserved c = record {
  releasing = releasing_put _ _ _ _ _ _ _ _ c.in-Some.out c.released_start.result c.loop-out.invariant.releasing c.in-Some.ensures.first
      (ap (λ (s : SwitchState). s.left) c.in-Some.ensures.rest) c.released_start.ensures c.push_starts.ensures.put c.push_starts.ensures.room;
  switch = kept c.args.switch.now c.loop-out.switch _ _ c.loop-out.invariant.switch c.in-Some.ensures.rest;
}
