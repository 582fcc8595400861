use Rattle.std.proofs.Common.{◌≡◌, ◌≤◌, ℕ, drop, length, map, take, zip}
use Rattle.std.specs.Prelude.{slice_get}
use Rattle.std.specs.Vec.Iter.{into_iter_items, into_iter_len}
use Rattle.iso_run.specs.Logs.{log_from}
use Rattle.iso_run.proofs.closing.close_all.Given as goal

abbrev pub invariant-loop-history : goal.invariant-loop-history
invariant-loop-history g l = record {
  within : length l.records ≤ length l.fn.histories;
  left : into_iter_len l.history-iterator ≡ length (into_iter_items l.history-iterator);
  rest : into_iter_items l.history-iterator ≡ drop (length l.records) l.fn.histories;
  count : length l.apps.items ≡ length l.fn.apps.items;
  same : (n : ℕ) → length l.records ≤ n → slice_get l.apps.items n ≡ slice_get l.fn.apps.items n;
  records : l.records ≡ map (λ p. log_from p.0 p.1) (take (length l.records) (zip l.fn.apps.items l.fn.histories));
}
