use Rattle.std.proofs.Common.{ap, subst, arith, ℕ}
use Rattle.std.specs.List.{AllByRecursion}
use Rattle.io_buffers.specs.Rule.{Sat}
use Rattle.io_buffers.specs.Steps.{steps_in, takes_in, publications, IsOfPublication}
use Rattle.io_buffers.proofs.Allowed.{joins, closing}
use Rattle.io_buffers.proofs.shared.Exchange.close.Goals as goal

pub join_seat-requires : goal.join_seat-requires
join_seat-requires c =
    let p = c.args.producer in
    let q = c.args.consumer in (
      c.requires.producer,
      c.requires.consumer,
      ap (λ (z : Sat). z.1) q.seated,
      omega (arith, c.args.self.sized),
      joins _ _ _ _ _ (steps_in p.seat.me.0) (steps_in q.seat.me.0) (ap (λ (z : Sat). z.0) p.seated) (ap (λ (z : Sat). z.0) q.seated),
    )

pub free-requires : goal.free-requires
free-requires c = λ k h. absurd (omega (arith, h, c.close_with-closed.ensures.counts.1, c.args.self.slotless))

pub returns-clause-each : goal.returns-clause-each
returns-clause-each c =
    let es = steps_in c.args.producer.seat.me.0 in
    let fs = steps_in c.args.consumer.seat.me.0 in
    subst (λ (m : ℕ). AllByRecursion (IsOfPublication (publications m es)) (takes_in fs)) c.args.self.keyed
    (closing _ _ _ es fs _ _ (ap (λ (z : Sat). z.0) c.join_seat.ensures.2) c.close_with-closed.ensures.values.2).0

pub returns-clause-risen : goal.returns-clause-risen
returns-clause-risen c =
    (closing _ _ _ (steps_in c.args.producer.seat.me.0) (steps_in c.args.consumer.seat.me.0) _ _ (ap (λ (z : Sat). z.0) c.join_seat.ensures.2) c.close_with-closed.ensures.values.2).1
