use Rattle.std.proofs.lemmas.Slice.Zip.{either_empty_from_Zip}
use Rattle.std.specs.Iterator.Adapters.{zip_first, zip_second}
use Rattle.std.specs.Slice.Iter.{iter_rest}
use Rattle.record_text.proofs.LinesLeft.{none_left}
use Rattle.record_text.proofs.apps.put_apps.Goals as goal

pub returns : goal.returns
returns c =
    none_left c.args.plant.now c.args.part (iter_rest (zip_first c.loop-app.app-iterator)) (iter_rest (zip_second c.loop-app.app-iterator))
    c.loop-app.out.items _ (either_empty_from_Zip c.loop-app.app-iterator c.next.new.self c.next.result c.in-None.is c.next.ensures.steps) c.loop-app.invariant
