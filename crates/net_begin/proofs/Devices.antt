-- Switches of a network, one device after the other.
use Rattle.std.proofs.Common.{◌≡◌, ◌≢◌, Bool, ℕ, zero, suc, ◌+◌, ◌≤◌, ◌<◌, List, [], ◌∷◌, ◌++◌, length, map, take, drop, set, get_or, Some, None, slice_get, refl, sym, ◌∙◌, ap, subst, arith, inl, inr, append_assoc, append-nil, length-append, length-set, get_or-set_same, get_or-set_other, All}
use Rattle.std.specs.Prelude.{ℤ}
use Rattle.std.specs.List.Sorted.{IsPermutation}
use Rattle.std.proofs.lemmas.Bool.{cases_lt}
use Rattle.std.proofs.lemmas.Grind.{common_steps}
use Rattle.std.proofs.lemmas.List.Sorted.{IsPermutation-refl, IsPermutation-trans, IsPermutation-append_left, IsPermutation-append_right, IsPermutation-append_comm}
use Rattle.std.proofs.lemmas.Option.{same_Some, slice_get-get_or, slice_get_past}
use Rattle.irt_base.specs.declared.plants.Plant.{Plant}
use Rattle.irt_switch.specs.Begin.{Begins}
use Rattle.irt_switch.specs.State.{SwitchState}
use Rattle.irt_world.specs.declared.rows.Row.{Row}
use Rattle.cycle_events.specs.declared.events.Event.{Event}
use Rattle.cycle_events.specs.declared.events.What.TheVariants.{Start}
use Rattle.cycle_events.specs.Events.{event}
use Rattle.event_queue.specs.Waiting.{Waiting}
use Rattle.net_starts.specs.Released.{starts_from}
use Rattle.net_begin.specs.Begun.{HaveBegun, released, starts_of_all}
use Rattle.net_begin.specs.Clocks.{keeps_step}

pub at_set : {A : Type 0} (xs : List A) (place index : ℕ) (x : A) → index ≢ place → slice_get (set xs place x) index ≡ slice_get xs index
at_set xs place index x other =
    elim (cases_lt index (length xs)) [
      | inl below ↦
          slice_get-get_or (set xs place x) index x (omega (arith, length-set xs place x))
          ∙ ap Some (get_or-set_other xs place index x x other) ∙ sym (slice_get-get_or xs index x below)
      | inr past ↦ slice_get_past (set xs place x) index (omega (arith, length-set xs place x)) ∙ sym (slice_get_past xs index past)
    ]

pub at_place : {A : Type 0} (xs : List A) (place : ℕ) (x : A) → place < length xs → slice_get (set xs place x) place ≡ Some x
at_place xs place x below =
    slice_get-get_or (set xs place x) place x (omega (arith, length-set xs place x)) ∙ ap Some (get_or-set_same xs place x x below)

-- ---- beginning

-- the switches below a place have begun, the others are as they were
pub record HaveBegunBelow (plant : Plant) (row : Row) (k place : ℕ) (old new : List SwitchState) : Type 0 where
  pub count : length new ≡ length old
  pub each : (device : ℕ) (before after : SwitchState) → device < place → slice_get old device ≡ Some before → slice_get new device ≡ Some after →
      Begins before k (keeps_step plant row device) after
  pub others : (device : ℕ) → place ≤ device → slice_get new device ≡ slice_get old device

pub none_begun : (plant : Plant) (row : Row) (k : ℕ) (switches : List SwitchState) → HaveBegunBelow plant row k 0 switches switches
none_begun plant row k switches = record {
  count = refl;
  each = λ device before after below was is. absurd (omega arith);
  others = λ device from. refl;
}

pub one_begun : (plant : Plant) (row : Row) (k place : ℕ) (old new : List SwitchState) (was after d : SwitchState) (step : Bool) → HaveBegunBelow plant row k place old new →
    place < length old → was ≡ get_or new place d → step ≡ keeps_step plant row place → Begins was k step after → HaveBegunBelow plant row k (place + 1) old (set new place after)
one_begun plant row k place old new was after d step h below is stepped began =
    let begins : Begins was k (keeps_step plant row place) after = subst (λ b. Begins was k b after) stepped began in
    let count = h.count in
    let here : slice_get old place ≡ Some was =
    sym (h.others place (omega arith)) ∙ slice_get-get_or new place d (omega arith) ∙ ap Some (sym is) in
    let there = at_place new place after (omega arith) in
    record {
      count = length-set new place after ∙ count;
      each = λ device before later low held now.
          elim (cases_lt device place) [
            | inl less ↦ h.each device before later less held (sym (at_set new place device after (omega arith)) ∙ now)
            | inr more ↦
                let At : ℕ → Type 0 = λ n. slice_get old n ≡ Some before → slice_get (set new place after) n ≡ Some later → Begins before k (keeps_step plant row n) later in
                let at_it : At place = λ was_there is_there.
                let one : was ≡ before = same_Some was before (sym here ∙ was_there) in
                let two : after ≡ later = same_Some after later (sym there ∙ is_there) in
                subst (λ (s : SwitchState). Begins s k (keeps_step plant row place) later) one (subst (λ (s : SwitchState). Begins was k (keeps_step plant row place) s) two begins) in
                let same : place ≡ device = omega arith in
                subst At same at_it held now
          ];
      others = λ device from. at_set new place device after (omega arith) ∙ h.others device (omega arith);
    }

pub all_begun : (plant : Plant) (row : Row) (k place : ℕ) (old new : List SwitchState) → HaveBegunBelow plant row k place old new → length new ≤ place → HaveBegun plant row k old new
all_begun plant row k place old new h end = record {
  count = h.count;
  each = λ device before after held now. h.each device before after (within new device after end now) held now;
}
  where
    some_none : (x : SwitchState) → Some x ≡ None → ⊥
    some_none x e = absurd (cc)

    within : (xs : List SwitchState) (i : ℕ) (x : SwitchState) → length xs ≤ place → slice_get xs i ≡ Some x → i < place
    within xs i x short at =
        elim (cases_lt i place) [
          | inl below ↦ below
          | inr past ↦ absurd (some_none x (sym at ∙ slice_get_past xs i (omega arith)))
        ]

-- ---- releasing

-- The switches below a place have released all, and their starts were put in.
pub record HaveReleasedBelow (begin : ℕ → ℤ) (place : ℕ) (old new : List SwitchState) (before after : Waiting) : Type 0 where
  pub states : new ≡ map released (take place old) ++ drop place old
  pub put : IsPermutation (starts_of_all begin 0 (take place old) ++ before.events) after.events
  pub room : before.room ≤ after.room + length (starts_of_all begin 0 (take place old))

starts-append : (begin : ℕ → ℤ) (device : ℕ) (xs ys : List SwitchState) →
    starts_of_all begin device (xs ++ ys) ≡ starts_of_all begin device xs ++ starts_of_all begin (device + length xs) ys
starts-append begin device [] ys = let same : device ≡ device + 0 = omega arith in ap (λ n. starts_of_all begin n ys) same
starts-append begin device (x ∷ xs) ys =
    ap (λ more. starts_from (begin device) device x.left ++ more)
    (starts-append begin (device + 1) xs ys ∙ ap (λ n. starts_of_all begin (device + 1) xs ++ starts_of_all begin n ys) (next device (length xs)))
    ∙ sym (append_assoc (starts_from (begin device) device x.left) (starts_of_all begin (device + 1) xs) (starts_of_all begin (device + suc (length xs)) ys))
  where
    next : (a b : ℕ) → (a + 1) + b ≡ a + suc b
    next a b = omega arith

set_released : (xs : List SwitchState) (place : ℕ) (d : SwitchState) → place < length xs →
    set (map released (take place xs) ++ drop place xs) place (released (get_or xs place d)) ≡ map released (take (suc place) xs) ++ drop (suc place) xs
set_released [] place d below = absurd (omega arith)
set_released (x ∷ xs) zero d below = refl
set_released (x ∷ xs) (suc place) d below = ap (λ more. released x ∷ more) (set_released xs place d (omega arith))

got_rest : (xs : List SwitchState) (place : ℕ) (d : SwitchState) → place < length xs → get_or (map released (take place xs) ++ drop place xs) place d ≡ get_or xs place d
got_rest [] place d below = absurd (omega arith)
got_rest (x ∷ xs) zero d below = refl
got_rest (x ∷ xs) (suc place) d below = got_rest xs place d (omega arith)

take_more : (xs : List SwitchState) (place : ℕ) (d : SwitchState) → place < length xs → take (place + 1) xs ≡ take place xs ++ get_or xs place d ∷ []
take_more xs place d below = grind (arith, common_steps)

take_length : (xs : List SwitchState) (place : ℕ) → place < length xs → length (take place xs) ≡ place
take_length xs place below = grind (arith, common_steps)

pub none_released : (begin : ℕ → ℤ) (old : List SwitchState) (before : Waiting) → HaveReleasedBelow begin 0 old old before before
none_released begin old before = record { states = refl; put = IsPermutation-refl before.events; room = omega arith }

more_starts : (begin : ℕ → ℤ) (xs : List SwitchState) (place : ℕ) (d : SwitchState) → place < length xs →
    starts_of_all begin 0 (take (place + 1) xs) ≡ starts_of_all begin 0 (take place xs) ++ starts_from (begin place) place (get_or xs place d).left
more_starts begin xs place d below =
    ap (starts_of_all begin 0) (take_more xs place d below)
    ∙ (starts-append begin 0 (take place xs) (get_or xs place d ∷ [])
    ∙ ap (λ more. starts_of_all begin 0 (take place xs) ++ more) (append-nil _ ∙ ap (λ n. starts_from (begin n) n (get_or xs place d).left) (from_none (length (take place xs)) ∙ take_length xs place below)))
  where
    from_none : (n : ℕ) → 0 + n ≡ n
    from_none n = omega arith

-- the switch at the place, as it was
pub is_kept : (begin : ℕ → ℤ) (place : ℕ) (old new : List SwitchState) (before mid : Waiting) (was d : SwitchState) → HaveReleasedBelow begin place old new before mid →
    place < length old → was ≡ get_or new place d → was ≡ get_or old place d
is_kept begin place old new before mid was d h below is = is ∙ ap (λ xs. get_or xs place d) h.states ∙ got_rest old place d below

pub one_released : (begin : ℕ → ℤ) (place : ℕ) (old new : List SwitchState) (before mid later : Waiting) (was after d : SwitchState) → HaveReleasedBelow begin place old new before mid →
    place < length old → was ≡ get_or new place d → after ≡ released was → IsPermutation (starts_from (begin place) place was.left ++ mid.events) later.events →
    mid.room ≤ later.room + length (starts_from (begin place) place was.left) → HaveReleasedBelow begin (place + 1) old (set new place after) before later
one_released begin place old new before mid later was after d h below is done put room =
    let kept = is_kept begin place old new before mid was d h below is in
    let A : List Event = starts_of_all begin 0 (take place old) in
    let B : List Event = starts_from (begin place) place was.left in
    let shape : starts_of_all begin 0 (take (place + 1) old) ≡ A ++ B =
    more_starts begin old place d below ∙ ap (λ (s : SwitchState). A ++ starts_from (begin place) place s.left) (sym kept) in
    let one : IsPermutation ((A ++ B) ++ before.events) ((B ++ A) ++ before.events) = IsPermutation-append_left before.events (A ++ B) (B ++ A) (IsPermutation-append_comm A B) in
    let two : IsPermutation (B ++ (A ++ before.events)) (B ++ mid.events) = IsPermutation-append_right B (A ++ before.events) mid.events h.put in
    let three : IsPermutation ((B ++ A) ++ before.events) (B ++ mid.events) = subst (λ ys. IsPermutation ys (B ++ mid.events)) (sym (append_assoc B A before.events)) two in
    let all_put : IsPermutation ((A ++ B) ++ before.events) later.events = IsPermutation-trans _ _ _ one (IsPermutation-trans _ _ _ three put) in
    let counted : length (starts_of_all begin 0 (take (place + 1) old)) ≡ length A + length B = ap length shape ∙ length-append A B in
    let old_room = h.room in
    record {
      states = ap (λ (s : SwitchState). set new place s) (done ∙ ap released kept) ∙ ap (λ xs. set xs place (released (get_or old place d))) h.states
          ∙ set_released old place d below ∙ ap (λ n. map released (take n old) ++ drop n old) (one_more place);
      put = subst (λ ys. IsPermutation (ys ++ before.events) later.events) (sym shape) all_put;
      room = omega arith;
    }
  where
    one_more : (n : ℕ) → suc n ≡ n + 1
    one_more n = omega arith

pub fits : (begin : ℕ → ℤ) (place : ℕ) (old new : List SwitchState) (before mid : Waiting) (was d : SwitchState) → HaveReleasedBelow begin place old new before mid →
    place < length old → was ≡ get_or new place d → length (starts_of_all begin 0 old) ≤ before.room → length (starts_from (begin place) place was.left) ≤ mid.room
fits begin place old new before mid was d h below is room =
    let kept = is_kept begin place old new before mid was d h below is in
    let whole : starts_of_all begin 0 old ≡ starts_of_all begin 0 (take (place + 1) old) ++ starts_of_all begin (0 + length (take (place + 1) old)) (drop (place + 1) old) =
    ap (starts_of_all begin 0) (sym (joined old (place + 1))) ∙ starts-append begin 0 (take (place + 1) old) (drop (place + 1) old) in
    let a = ap length whole in
    let b = length-append (starts_of_all begin 0 (take (place + 1) old)) (starts_of_all begin (0 + length (take (place + 1) old)) (drop (place + 1) old)) in
    let c = ap length (more_starts begin old place d below) in
    let e = length-append (starts_of_all begin 0 (take place old)) (starts_from (begin place) place (get_or old place d).left) in
    let f = ap (λ (s : SwitchState). length (starts_from (begin place) place s.left)) kept in
    let g = h.room in
    omega arith
  where
    joined : (xs : List SwitchState) (n : ℕ) → take n xs ++ drop n xs ≡ xs
    joined xs n = grind (arith, common_steps)

pub all_released : (begin : ℕ → ℤ) (place : ℕ) (old new : List SwitchState) (before after : Waiting) → HaveReleasedBelow begin place old new before after → length new ≤ place →
    HaveReleasedBelow begin place old new before after × (take place old ≡ old) × (new ≡ map released old)
all_released begin place old new before after h end =
    let whole = all_taken old place (le_old old place new h.states end) in
    let none = none_left old place (le_old old place new h.states end) in (
      h,
      whole,
      h.states ∙ ap (λ xs. map released xs ++ drop place old) whole ∙ ap (λ ys. map released old ++ ys) none ∙ append-nil (map released old),
    )
  where
    le_old : (xs : List SwitchState) (n : ℕ) (ys : List SwitchState) → ys ≡ map released (take n xs) ++ drop n xs → length ys ≤ n → length xs ≤ n
    le_old xs n ys is le = let a = ap length is in let b = same_length xs n in omega arith
      where
        same_length : (zs : List SwitchState) (m : ℕ) → length (map released (take m zs) ++ drop m zs) ≡ length zs
        same_length [] zero = refl
        same_length [] (suc m) = refl
        same_length (z ∷ zs) zero = refl
        same_length (z ∷ zs) (suc m) = ap suc (same_length zs m)

    all_taken : (xs : List SwitchState) (n : ℕ) → length xs ≤ n → take n xs ≡ xs
    all_taken xs n le = grind (arith, common_steps)

    none_left : (xs : List SwitchState) (n : ℕ) → length xs ≤ n → drop n xs ≡ []
    none_left xs n le = grind (arith, common_steps)

pub same_count : (begin : ℕ → ℤ) (place : ℕ) (old new : List SwitchState) (before after : Waiting) → HaveReleasedBelow begin place old new before after → length new ≡ length old
same_count begin place old new before after h = ap length h.states ∙ same_length old place
  where
    same_length : (zs : List SwitchState) (m : ℕ) → length (map released (take m zs) ++ drop m zs) ≡ length zs
    same_length [] zero = refl
    same_length [] (suc m) = refl
    same_length (z ∷ zs) zero = refl
    same_length (z ∷ zs) (suc m) = ap suc (same_length zs m)

-- a switch that is still to release, as all are at first
pub still : (P : SwitchState → Type 0) (begin : ℕ → ℤ) (place : ℕ) (old new : List SwitchState) (before mid : Waiting) (was d : SwitchState) → HaveReleasedBelow begin place old new before mid →
    place < length new → was ≡ get_or new place d → All P old → P was
still P begin place old new before mid was d h below is all =
    let count = same_count begin place old new before mid h in
    let kept = is_kept begin place old new before mid was d h (omega arith) is in
    subst P (sym kept) (all place d (omega arith))

-- as the code puts the starts in: those from the begin of the device's cycle, which is an event
pub fits_by : (begin : ℕ → ℤ) (place : ℕ) (old new : List SwitchState) (before mid : Waiting) (was d : SwitchState) (e : Event) → HaveReleasedBelow begin place old new before mid →
    place < length new → was ≡ get_or new place d → e ≡ event (begin place) place 0 0 Start → length (starts_of_all begin 0 old) ≤ before.room →
    length (starts_from e.at e.device.0 was.left) ≤ mid.room
fits_by begin place old new before mid was d e h below is at room =
    let count = same_count begin place old new before mid h in
    subst (λ (x : Event). length (starts_from x.at x.device.0 was.left) ≤ mid.room) (sym at) (fits begin place old new before mid was d h (omega arith) is room)

pub one_released_by : (begin : ℕ → ℤ) (place : ℕ) (old new : List SwitchState) (before mid later : Waiting) (was after d : SwitchState) (e : Event) → HaveReleasedBelow begin place old new before mid →
    place < length new → was ≡ get_or new place d → after ≡ released was → e ≡ event (begin place) place 0 0 Start →
    IsPermutation (starts_from e.at e.device.0 was.left ++ mid.events) later.events →
    mid.room ≤ later.room + length (starts_from e.at e.device.0 was.left) → HaveReleasedBelow begin (place + 1) old (set new place after) before later
one_released_by begin place old new before mid later was after d e h below is done at put room =
    let count = same_count begin place old new before mid h in
    one_released begin place old new before mid later was after d h (omega arith) is done
    (subst (λ (x : Event). IsPermutation (starts_from x.at x.device.0 was.left ++ mid.events) later.events) at put)
    (subst (λ (x : Event). mid.room ≤ later.room + length (starts_from x.at x.device.0 was.left)) at room)

-- all have released
pub record HaveReleased (begin : ℕ → ℤ) (old new : List SwitchState) (before after : Waiting) : Type 0 where
  pub put : IsPermutation (starts_of_all begin 0 old ++ before.events) after.events
  pub room : before.room ≤ after.room + length (starts_of_all begin 0 old)
  pub released : new ≡ map released old

pub have_released : (begin : ℕ → ℤ) (place : ℕ) (old new : List SwitchState) (before after : Waiting) → HaveReleasedBelow begin place old new before after → length new ≤ place →
    HaveReleased begin old new before after
have_released begin place old new before after h end =
    let (below, whole, same) = all_released begin place old new before after h end in
    record {
      put = subst (λ xs. IsPermutation (starts_of_all begin 0 xs ++ before.events) after.events) whole h.put;
      room = subst (λ xs. before.room ≤ after.room + length (starts_of_all begin 0 xs)) whole h.room;
      released = same;
    }
