-- Looking up by index.
use Rattle.std.proofs.Common.{◌≡◌, ℕ, Bool, true, false, cond, List, [], length, position, Some, None, find, slice_get, refl, sym, ◌∙◌, ap, arith, nat_lt}
use Rattle.std.specs.Prelude.{ℤ}
use Rattle.std.specs.List.{position_or_len}
use Rattle.std.proofs.lemmas.Bool.{ltb-false}
use Rattle.std.proofs.lemmas.List.Folds.{find_at}
use Rattle.std.proofs.lemmas.Option.{same_Some, slice_get_past}
use Rattle.irt_base.specs.Wiring.{peer_of, hop_of}
use Rattle.plan_rules.specs.World.{is_uncut}
use Rattle.cycle_events.specs.Events.{Play, arrive_at, caused_by_start}

-- the item at the first place that passes is the first that does
pub at_place : {A : Type 0} (p : A → Bool) (xs : List A) (n : ℕ) → position p xs ≡ Some n → slice_get xs n ≡ find p xs
at_place {A} p xs n is = by_test (nat_lt (position_or_len p xs) (length xs)) is ∙ sym (find_at p xs)
  where
    by_test : (b : Bool) → cond b (Some (position_or_len p xs)) None ≡ Some n → slice_get xs n ≡ slice_get xs (position_or_len p xs)
    by_test true same = ap (slice_get xs) (sym (same_Some (position_or_len p xs) n same))
    by_test false same = absurd (cc)

-- where none passes, none is found
pub past_all : {A : Type 0} (p : A → Bool) (xs : List A) → position p xs ≡ None → slice_get xs (length xs) ≡ find p xs
past_all {A} p xs is =
    slice_get_past xs (length xs) (omega arith)
    ∙ sym (find_at p xs ∙ by_test (nat_lt (position_or_len p xs) (length xs)) refl is)
  where
    by_test : (b : Bool) → nat_lt (position_or_len p xs) (length xs) ≡ b → cond b (Some (position_or_len p xs)) None ≡ None →
        slice_get xs (position_or_len p xs) ≡ None
    by_test true same none = absurd (cc)
    by_test false same none = let past = ltb-false (position_or_len p xs) (length xs) same in slice_get_past xs (position_or_len p xs) (omega arith)

-- what a start causes, by the test of its link
pub caused : (play : Play) (start : ℤ) (device port frame : ℕ) (uncut : Bool) → uncut ≡ is_uncut play.setup.plant play.row device port →
    cond uncut (arrive_at start frame (peer_of play.setup.plant device port) (hop_of play.setup.plant device port)) [] ≡ caused_by_start play start device port frame
caused play start device port frame uncut is =
    ap (λ b. cond b (arrive_at start frame (peer_of play.setup.plant device port) (hop_of play.setup.plant device port)) []) is
