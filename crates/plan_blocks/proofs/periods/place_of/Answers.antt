use Rattle.std.proofs.Common.{◌≡◌, ◌==◌, ◌&&◌, true, false, ℕ, inl, inr, Some, subst, arith}
use Rattle.std.specs.Prelude.{slice_get}
use Rattle.std.proofs.lemmas.Bool.{cases_eq}
use Rattle.std.proofs.lemmas.Bool.Decides.{nat_tests}
use Rattle.std.proofs.lemmas.Option.{slice_get_within, get_or_from_slice_get}
use Rattle.irt_base.specs.declared.blocks.Assignment.{Assignment}
use Rattle.plan_blocks.proofs.periods.place_of.Goals as goal

self_equal : (n : ℕ) → (n == n) ≡ true
self_equal n = grind (arith, nat_tests)

-- an assignment is equal to itself
unequal : (a b c d e f : ℕ) → false ≡ (((a == a) && ((b == b) && (c == c))) && ((d == d) && ((e == e) && (f == f)))) → ⊥
unequal a b c d e f h =
    let wrong = rw (self_equal a, self_equal b, self_equal c, self_equal d, self_equal e, self_equal f) at h in
    absurd (cc)

abbrev none : Assignment
none = record { tx = record { red = 0; orange = 0; green = 0 }; rx = record { red = 0; orange = 0; green = 0 } }

pub loop-place-preserved : goal.loop-place-preserved
loop-place-preserved c = λ i below at. elim (cases_eq i c.loop-place.place) [
  | inl is ↦
      let here = get_or_from_slice_get c.args.assignments.now c.loop-place.place c.args.assignment none (subst (λ (n : ℕ). slice_get c.args.assignments.now n ≡ Some c.args.assignment) is at) in
      let equal = rw here at c.if-eq.ensures in
      unequal c.args.assignment.tx.red c.args.assignment.tx.orange c.args.assignment.tx.green c.args.assignment.rx.red c.args.assignment.rx.orange c.args.assignment.rx.green equal
  | inr other ↦ c.loop-place.invariant i (omega (arith, below, other)) at
]

pub returns-clause-new : goal.returns-clause-new
returns-clause-new c = λ all i at.
    c.loop-place.invariant i (let inside = slice_get_within c.args.assignments.now i c.args.assignment at in omega (arith, inside, c.loop-place-test.false)) at
