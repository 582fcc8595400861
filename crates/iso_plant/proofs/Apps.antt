-- Apps and their devices, and lists by app to which one item is added.
use Rattle.std.proofs.Common.{◌≡◌, ◌⊎◌, ℕ, zero, suc, ◌<◌, ◌≤◌, Bool, List, [], ◌∷◌, ◌++◌, length, take, drop, slice_get, Option, Some, None, inl, inr, refl, sym, ◌∙◌, ap, subst, arith, ltb, cond}
use Rattle.std.specs.Prelude.{◌==◌}
use Rattle.std.specs.List.{position_or_len}
use Rattle.std.proofs.Math.Seq.{take-append_seam}
use Rattle.std.proofs.lemmas.Bool.{both_ways, eq-eqb, eqb-true}
use Rattle.std.proofs.lemmas.Grind.{common_steps}
use Rattle.std.proofs.lemmas.List.Quantifiers.{position-Some}
use Rattle.std.proofs.lemmas.List.Sums.{fails_before_first}
use Rattle.std.proofs.lemmas.Option.{get_or_from_slice_get, same_Some, slice_get_within}
use Rattle.irt_base.specs.declared.plants.App.{App}
use Rattle.irt_base.specs.declared.plants.Plant.{Plant}
use Rattle.iso_rules.specs.Image.{app_on}
use Rattle.plan_rules.proofs.Held.{each_at, some_at}
use Rattle.plant_rules.specs.Meets.{MeetsRules}
use Rattle.plant_rules.specs.Words.{same_app_device}
use Rattle.iso_plant.specs.Exchanged.{HasNoApp, HaveOwnDevices}
use Rattle.iso_plant.proofs.Lists.{places_are_one}

-- ---- lists

-- what was written over a whole list
pub written_over : {X : Type 0} (n : ℕ) (xs old : List X) → length xs ≡ n → take n (xs ++ drop (length xs) old) ≡ xs
written_over n xs old is = subst (λ m. take m (xs ++ drop (length xs) old) ≡ xs) is (take-append_seam xs (drop (length xs) old))

pub get_before : {X : Type 0} (xs : List X) (x : X) (j : ℕ) → j < length xs → slice_get (xs ++ x ∷ []) j ≡ slice_get xs j
get_before [] x j below = absurd (omega (arith, below))
get_before (z ∷ xs) x zero below = refl
get_before (z ∷ xs) x (suc j) below = get_before xs x j (omega (arith, below))

pub get_last : {X : Type 0} (xs : List X) (x : X) → slice_get (xs ++ x ∷ []) (length xs) ≡ Some x
get_last [] x = refl
get_last (z ∷ xs) x = get_last xs x

pub get_push : {X : Type 0} (xs : List X) (x : X) (j : ℕ) (y : X) → slice_get (xs ++ x ∷ []) j ≡ Some y →
    (slice_get xs j ≡ Some y) ⊎ ((j ≡ length xs) × (x ≡ y))
get_push [] x zero y is = inr (refl, same_Some x y is)
get_push [] x (suc j) y is = absurd (cc)
get_push (z ∷ xs) x zero y is = inl is
get_push (z ∷ xs) x (suc j) y is = elim (get_push xs x j y is) [
  | inl before ↦ inl before
  | inr last ↦ inr (ap suc last.0, last.1)
]

pub none_past : {X : Type 0} (xs : List X) (n : ℕ) → slice_get xs n ≡ None → length xs ≤ n
none_past [] n is = omega arith
none_past (x ∷ xs) zero is = absurd (cc)
none_past (x ∷ xs) (suc n) is = let rest = none_past xs n is in omega (arith, rest)

-- ---- apps

pub own_devices : (plant : Plant) → MeetsRules plant → HaveOwnDevices plant.apps
own_devices plant rules n m a b first second same =
    places_are_one same_app_device (λ (x : App). x.device.0) (λ x y is. eq-eqb x.device.0 y.device.0 is) plant.apps rules.app_devices_differ n m a b
    first second same

pub device_within : (plant : Plant) → MeetsRules plant → (n : ℕ) (app : App) → slice_get plant.apps n ≡ Some app → app.device.0 < length plant.devices
device_within plant rules n app at = each_at (λ (a : App). a.device.0 < length plant.devices) plant.apps n app rules.apps at

pub record HasApp (plant : Plant) (device n : ℕ) : Type 0 where
  pub app : App
  pub at : slice_get plant.apps n ≡ Some app
  pub on : app.device.0 ≡ device

-- the test for a device
abbrev is_on : ℕ → App → Bool
is_on device a = a.device.0 == device

has_app : (plant : Plant) (device n : ℕ) → app_on plant device ≡ Some n → HasApp plant device n
has_app plant device n is =
    let (app, at) = some_at plant.apps n (within) in
    let first = position-Some (is_on device) plant.apps n app is in
    record {
      app = app;
      at = at;
      on = eqb-true app.device.0 device (ap (is_on device) (sym (get_or_from_slice_get plant.apps n app app at)) ∙ first.1);
    }
  where
    within : n < length plant.apps
    within = grind (arith, common_steps)

past_all : (p l : ℕ) → cond (ltb p l) (Some p) None ≡ None → l ≤ p
past_all p l is = grind (arith, common_steps)

has_none : (plant : Plant) (device : ℕ) → app_on plant device ≡ None → HasNoApp plant.apps device
has_none plant device is n app at same =
    let past : length plant.apps ≤ position_or_len (is_on device) plant.apps = past_all _ _ is in
    let fails = fails_before_first (is_on device) plant.apps n app (let within = slice_get_within plant.apps n app at in omega (arith, within, past)) in
    absurd (both_ways _ (ap (is_on device) (sym (get_or_from_slice_get plant.apps n app app at)) ∙ fails) (eq-eqb app.device.0 device same))

-- a device has an app, or none
pub app_cases : (plant : Plant) (device : ℕ) →
    ((n : ℕ) × (app_on plant device ≡ Some n) × HasApp plant device n) ⊎ ((app_on plant device ≡ None) × HasNoApp plant.apps device)
app_cases plant device = by_answer (app_on plant device) refl
  where
    by_answer : (o : Option ℕ) → app_on plant device ≡ o →
        ((n : ℕ) × (app_on plant device ≡ Some n) × HasApp plant device n) ⊎ ((app_on plant device ≡ None) × HasNoApp plant.apps device)
    by_answer None is = inr (is, has_none plant device is)
    by_answer (Some n) is = inl (n, is, has_app plant device n is)
