use Rattle.std.proofs.Common.{arith, IsPermutation, ◌∷◌, ◌<◌, sym, subst, map, heap_items, heap_len, ap}
use Rattle.std.specs.BinaryHeap.{heap_capacity}
use Rattle.std.specs.Result.{IsOk}
use Rattle.std.proofs.lemmas.List.Sorted.{IsPermutation-map}
use Rattle.event_queue.specs.Waiting.{event_in, Waiting}
use Rattle.event_queue.proofs.Order.{put_in, some_room}
use Rattle.event_queue.proofs.queue.Queue.push.Goals as goal

fits : (c : goal.After-push) → IsOk c.push.result
fits c = c.push.ensures.succeeds (some_room (heap_capacity c.self.inside.heap) (heap_len c.self.inside.heap) (subst (λ (w : Waiting). 0 < w.room) (sym c.self.view_is) c.requires))

pub invariant_of-self : goal.invariant_of-self
invariant_of-self c = put_in c.push.result _ (fits c) c.push.ensures.heap_order c.self.invariant

pub returns-clause-put : goal.returns-clause-put
returns-clause-put c =
    let perm = IsPermutation-map event_in _ _ (put_in c.push.result _ (fits c) c.push.ensures.permutation) in
    subst (λ (w : Waiting). IsPermutation (c.args.event ∷ w.events) (map event_in (heap_items c.push.new.self))) c.self.view_is perm

pub returns-clause-room : goal.returns-clause-room
returns-clause-room c =
    let len = put_in c.push.result _ (fits c) c.push.ensures.len in
    let room = ap (λ (w : Waiting). w.room) c.self.view_is in
    omega arith
