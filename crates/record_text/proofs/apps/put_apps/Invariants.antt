-- What is written and what is left are all lines.
use Rattle.std.proofs.Common.{◌≡◌, ◌++◌}
use Rattle.std.specs.Iterator.Adapters.{zip_first, zip_second}
use Rattle.std.specs.List.{zip}
use Rattle.std.specs.Slice.Iter.{iter_rest}
use Rattle.record_text.specs.Text.{apps_text}
use Rattle.record_text.proofs.LinesLeft.{pairs_text}
use Rattle.record_text.proofs.apps.put_apps.Given as goal

abbrev pub invariant-loop-app : goal.invariant-loop-app
invariant-loop-app l =
    l.out.items ++ pairs_text l.plant l.part (zip (iter_rest (zip_first l.app-iterator)) (iter_rest (zip_second l.app-iterator)))
    ≡ l.fn.out.items ++ apps_text l.plant l.part l.apps
