-- What the order of events says of their times.
use Rattle.std.proofs.Common.{◌≡◌, ℕ, false, List, arith, map}
use Rattle.std.specs.Prelude.{All, ℤ, ◌≤ℤ◌, ◌<ℤ◌}
use Rattle.std.specs.List.{AllByRecursion}
use Rattle.std.specs.Ordering.{is_lt, int_cmp, ordering_then, MatchOrdering}
use Rattle.std.specs.declared.cmp.Ordering.{Ordering}
use Rattle.std.specs.declared.cmp.Ordering.TheVariants.{Less, Equal, Greater}
use Rattle.std.specs.declared.cmp.Reverse.{Reverse}
use Rattle.std.specs.Cmp.{int_ranks}
use Rattle.std.proofs.lemmas.Int.{ints}
use Rattle.std.proofs.lemmas.List.Elements.{All-map, All-weaker, All-from_recursion}
use Rattle.cycle_events.specs.declared.events.Event.{Event}
use Rattle.std.specs.Result.{IsOk, OnOk}
use Rattle.std.proofs.Common.{Result, Ok, Err, ◌-◌, ◌<◌}
use Rattle.event_queue.specs.Waiting.{event_in, IsNotBefore}

first_says : (a b : ℤ) (r : Ordering) (o : Ordering) → MatchOrdering o (a <ℤ b) (a ≡ b) (b <ℤ a) → is_lt (ordering_then o r) ≡ false → b ≤ℤ a
first_says a b r Less h e = absurd (cc)
first_says a b r Equal h e = omega (arith, ints)
first_says a b r Greater h e = omega (arith, ints)

pub first_of : (a b : ℤ) (r : Ordering) → is_lt (ordering_then (int_cmp a b) r) ≡ false → b ≤ℤ a
first_of a b r e = first_says a b r (int_cmp a b) (int_ranks a b) e

pub not_before : (cmp : Event → Event → Ordering) → ((a b : Event) → is_lt (cmp a b) ≡ false → b.at ≤ℤ a.at) → (x : Reverse Event) (xs : List (Reverse Event)) →
    AllByRecursion (λ y. is_lt (cmp y.0 x.0) ≡ false) xs → All (IsNotBefore x.0) (map event_in xs)
not_before cmp first x xs h =
    All-map (IsNotBefore x.0) event_in xs (All-weaker (λ y. is_lt (cmp y.0 x.0) ≡ false) (λ y. IsNotBefore x.0 (event_in y))
    (λ y e. first y.0 x.0 e) xs (All-from_recursion (λ y. is_lt (cmp y.0 x.0) ≡ false) xs h))

-- a push that had room succeeded
pub put_in : {T E : Type 0} (r : Result T E) (P : Type 0) → IsOk r → OnOk r P → P
put_in (Ok x) P is h = h
put_in (Err e) P is h = absurd (cc)

pub some_room : (n m : ℕ) → 0 < n - m → m < n
some_room n m h = omega arith
