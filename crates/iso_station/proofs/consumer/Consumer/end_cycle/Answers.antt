use Rattle.std.proofs.Common.{map, drop, length, ap, sym, ◌∙◌}
use Rattle.iso_station.specs.Held.{ended}
use Rattle.iso_station.proofs.InPlace.{order_ended}
use Rattle.iso_station.proofs.consumer.Consumer.end_cycle.Goals as goal

pub invariant_of-self : goal.invariant_of-self
invariant_of-self c =
    order_ended c.args.k c.self.inside.frames.items c.end_frames.new.frames (drop (length c.end_frames.new.frames) c.self.inside.frames.items)
    c.self.inside.frames.len c.self.invariant (c.end_frames.ensures ∙ ap (map (ended c.args.k)) c.as_mut_slice.ensures.value) (sym c.self.inside.frames.ok.0)
