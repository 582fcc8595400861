-- Lists that are written place by place.
use Rattle.std.proofs.Common.{◌≡◌, ◌≢◌, ℕ, ◌+◌, ◌<◌, ◌≤◌, ◌^◌, List, length, get_or, slice_get, Some, inl, inr, refl, sym, ◌∙◌, ap, subst, arith, Bool, false}
use Rattle.std.specs.Prelude.{◌==◌, slice_set}
use Rattle.std.specs.List.{All, list_any}
use Rattle.std.proofs.lemmas.Bool.{cases_Bool, false≢true, eq-eqb, eqb-true}
use Rattle.std.proofs.lemmas.List.{length-set}
use Rattle.std.proofs.lemmas.List.Folds.{list_any_at}
use Rattle.std.proofs.lemmas.Option.{same_Some, slice_get_read, slice_get_within, get_or_from_slice_get, slice_get-get_or}
use Rattle.iso_station.proofs.Placing.{set_there, set_elsewhere}
use Rattle.iso_run.specs.Apps.{IsReady}
use Rattle.iso_run.specs.Each.{AreEach, AreEachBelow, AreReady, IsEndOf}
use Rattle.iso_run.specs.Ends.{EndView}
use Rattle.iso_run.specs.declared.apps.LockstepApp.{LockstepApp}

pub below_first : {X : Type 0} (R : ℕ → X → X → Type 0) (xs : List X) → AreEachBelow R 0 xs xs
below_first R xs = record {
  count = refl;
  each = λ n x y below was is. absurd (omega (arith, below));
  rest = λ n past. refl;
}

-- what stands at the next place
pub stands : {X : Type 0} (R : ℕ → X → X → Type 0) (place : ℕ) (old now : List X) (x d : X) → AreEachBelow R place old now → slice_get old place ≡ Some x →
    get_or now place d ≡ x
stands R place old now x d so_far is = get_or_from_slice_get now place x d (so_far.rest place (omega arith) ∙ is)

-- the next place is written
pub below_more : {X : Type 0} (R : ℕ → X → X → Type 0) (place : ℕ) (old now : List X) (x y : X) → AreEachBelow R place old now → place < length old →
    x ≡ get_or now place x → (slice_get old place ≡ Some x → R place x y) → AreEachBelow R (place + 1) old (slice_set now place y)
below_more R place old now x y so_far within read new =
    let stood : slice_get now place ≡ Some x = slice_get_read now (length now) place x refl (omega (arith, so_far.count, within)) read in
    let first : slice_get old place ≡ Some x = sym (so_far.rest place (omega arith)) ∙ stood in
    record {
      count = length-set now place y ∙ so_far.count;
      each = λ n v w below was is.
          elim (cases_Bool (n == place)) [
            | inr differs ↦
                let apart : n ≢ place = λ same. absurd (false≢true (sym differs ∙ eq-eqb n place same)) in
                so_far.each n v w (omega (arith, below, apart)) was (sym (set_elsewhere now place n y apart) ∙ is)
            | inl equals ↦
                let here : n ≡ place = eqb-true n place equals in
                let v_is : v ≡ x = same_Some v x (sym was ∙ ap (slice_get old) here ∙ first) in
                let w_is : w ≡ y = same_Some w y (sym is ∙ ap (slice_get (slice_set now place y)) here ∙ set_there now place y x stood) in
                subst (λ m. R m v w) (sym here) (subst (λ a. R place a w) (sym v_is) (subst (λ b. R place x b) (sym w_is) (new first)))
          ];
      rest = λ n past. set_elsewhere now place n y (λ same. absurd (omega (arith, past, same))) ∙ so_far.rest n (omega (arith, past));
    }

pub below_all : {X : Type 0} (R : ℕ → X → X → Type 0) (place : ℕ) (old now : List X) → AreEachBelow R place old now → length old ≤ place → AreEach R old now
below_all R place old now so_far past = record {
  count = so_far.count;
  each = λ n x y was is. (let within = slice_get_within old n x was in so_far.each n x y (omega (arith, within, past)) was is);
}

-- what holds at each place holds of each
pub all_from_places : {X : Type 0} (P : X → Type 0) (xs : List X) → ((n : ℕ) (x : X) → slice_get xs n ≡ Some x → P x) → All P xs
all_from_places P xs each = λ n d within. each n (get_or xs n d) (slice_get-get_or xs n d within)

-- where no one passes a test
pub none_passes : {X : Type 0} (test : X → Bool) (xs : List X) → list_any test xs ≡ false → (n : ℕ) (x : X) → slice_get xs n ≡ Some x → test x ≡ false
none_passes test xs none n x is =
    let there : get_or xs n x ≡ x = get_or_from_slice_get xs n x x is in
    elim (cases_Bool (test x)) [
      | inl passes ↦ absurd (false≢true (sym none ∙ list_any_at test xs n x (slice_get_within xs n x is) (ap test there ∙ passes)))
      | inr fails ↦ fails
    ]

-- where each place was written unless it failed, and none did
pub each_unless_failed : {X : Type 0} (R : ℕ → X → X → Type 0) (failed : X → Bool) (old now : List X) →
    AreEach (λ n x y. failed y ≡ false → R n x y) old now → list_any failed now ≡ false → AreEach R old now
each_unless_failed R failed old now all none = record {
  count = all.count;
  each = λ n x y was is. all.each n x y was is (none_passes failed now none n y is);
}

-- the app at the next place is ready, and has its end
pub ready_here : {A : Type 0} (R : ℕ → LockstepApp A → LockstepApp A → Type 0) (place : ℕ) (old now : List (LockstepApp A)) (ends : List EndView)
    (a : LockstepApp A) (e : EndView) → AreReady old ends → AreEachBelow R place old now → place < length old → a ≡ get_or now place a → e ≡ get_or ends place e →
    IsReady a × (a.input.newest < 2 ^ 60) × IsEndOf a e
ready_here R place old now ends a e all so_far within app end =
    let stood : slice_get old place ≡ Some a =
    sym (so_far.rest place (omega arith)) ∙ slice_get_read now (length now) place a refl (omega (arith, so_far.count, within)) app in
    (all.ready place a stood, all.room place a stood, all.fit place a e stood (slice_get_read ends (length ends) place e refl (omega (arith, all.count, within)) end))
