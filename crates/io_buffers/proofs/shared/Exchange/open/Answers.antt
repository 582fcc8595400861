use Rattle.std.proofs.Common.{rules, ◌≡◌, ◌∙◌, ◌+◌, ◌*◌, ℕ, ap, arith, replicate, List, set}
use Rattle.io_buffers.specs.Rule.{Sat}
use Rattle.io_buffers.proofs.Allowed.{starts_at, splits}
use Rattle.io_buffers.proofs.shared.Exchange.open.Goals as goal

pub of_words-requires : goal.of_words-requires
of_words-requires c =
    let e : c.in_ok-opening.opening.items ≡ replicate {A = ℕ} (1 + 3 * c.args.words) 0 = search rules in
    starts_at c.args.words c.as_slice.result.now (c.as_slice.ensures.value ∙ ap (λ (l : List ℕ). set {A = ℕ} l 0 1) e)

pub split_seat-other-requires : goal.split_seat-other-requires
split_seat-other-requires c = (
  c.in_ok-table.ensures.2,
  omega (arith, c.in_ok-table.ensures.0, c.as_slice.ensures.len, c.in_ok-opening.ensures.len),
  splits _ _ _ (ap (λ (z : Sat). z.0) c.in_ok-table.ensures.4),
)
