use Rattle.std.proofs.Common.{◌+◌, ◌≤◌, length, arith, rules}
use Rattle.iso_station.specs.Consumer.{count_of}
use Rattle.iso_station.proofs.InPlace.{count_room}
use Rattle.iso_station.proofs.consumer.show_frames.Goals as goal

pub overflow_add-end : goal.overflow_add-end
overflow_add-end c =
    let room : c.loop-held.start + c.count.result ≤ count_of c.args.frames.now =
    count_room c.args.frames.now c.loop-held.held-index c.held-item.result c.loop-held.start c.count.result (omega arith) c.held-item.is c.loop-held.invariant.start c.count.ensures in
    let fits : c.loop-held.start + c.count.result ≤ length c.loop-held.out = omega (arith, room) in search (rules, fits)

pub slice_bounds-show-end : goal.slice_bounds-show-end
slice_bounds-show-end c =
    let room : c.loop-held.start + c.count.result ≤ count_of c.args.frames.now =
    count_room c.args.frames.now c.loop-held.held-index c.held-item.result c.loop-held.start c.count.result (omega arith) c.held-item.is c.loop-held.invariant.start c.count.ensures in
    let fits : c.loop-held.start + c.count.result ≤ length c.loop-held.out = omega (arith, room) in search (rules, fits)
