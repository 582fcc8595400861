use Rattle.std.proofs.Common.{List, map, ap, sym, ◌∙◌, subst}
use Rattle.irt_base.specs.declared.blocks.Entry.{Entry}
use Rattle.iso_rules.specs.Station.{consumed_of}
use Rattle.iso_station.specs.Held.{new_held}
use Rattle.iso_station.specs.Kept.{AreInOrder}
use Rattle.iso_station.proofs.InPlace.{order_of_block}
use Rattle.iso_station.proofs.consumer.Consumer.new.Goals as goal

pub invariant_of-result : goal.invariant_of-result
invariant_of-result c =
    subst AreInOrder (sym (c.in_ok-new_frames.ensures ∙ ap (λ (es : List Entry). map new_held (consumed_of es)) c.as_slice.ensures))
    (order_of_block c.args.bundle.now.frames.entries c.requires.frames.ascending)
