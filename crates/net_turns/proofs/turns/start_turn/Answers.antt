use Rattle.std.proofs.Common.{◌+◌, ◌≤◌, ◌++◌, length, subst, IsPermutation}
use Rattle.net_turns.proofs.turns.start_turn.Goals as goal

pub returns-clause-caused : goal.returns-clause-caused
returns-clause-caused c = λ bundles.
    subst (λ events. IsPermutation (events ++ c.args.queue.now.events) c.push_event.new.queue.events) (c.arrival.ensures bundles c.args.k) c.push_event.ensures.put

pub returns-clause-room : goal.returns-clause-room
returns-clause-room c = λ bundles.
    subst (λ events. c.args.queue.now.room ≤ c.push_event.new.queue.room + length events) (c.arrival.ensures bundles c.args.k) c.push_event.ensures.room
