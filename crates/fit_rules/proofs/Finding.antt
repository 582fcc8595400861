-- What is found in lists in which one item alone passes.
use Rattle.std.proofs.Common.{◌≡◌, ℕ, zero, suc, Bool, true, false, List, [], ◌∷◌, Option, Some, None, find, option_and_then, slice_get, sym, ◌∙◌, ap, refl, inl, inr}
use Rattle.std.specs.Prelude.{◌==◌}
use Rattle.std.specs.List.{IsDistinct}
use Rattle.std.proofs.lemmas.Bool.{cases_Bool, cond-true, cond-false, both_ways, eq-eqb, eqb-true}
use Rattle.std.proofs.lemmas.Option.{same_Some}
use Rattle.irt_base.specs.declared.plants.Demand.{Demand}
use Rattle.irt_base.specs.declared.plants.Plant.{Plant}
use Rattle.plant_rules.specs.Meets.{MeetsRules}
use Rattle.plant_rules.specs.Words.{same_frame}
use Rattle.plan_rules.specs.Tree.{demand_of}
use Rattle.fit_rules.specs.Order.{IsDemandAt}
use Rattle.fit_rules.proofs.Entries.{no_entry}
use Rattle.fit_rules.proofs.Lists.{each_at}

-- an item at a place that passes a test
abbrev pub PassesAt : {X : Type 0} → (X → Bool) → List X → X → Type 0
PassesAt {X} test xs x = (n : ℕ) × (slice_get xs n ≡ Some x) × (test x ≡ true)

pub found_at : {X : Type 0} (test : X → Bool) (xs : List X) (x : X) → find test xs ≡ Some x → PassesAt test xs x
found_at test [] x is = no_entry x is
found_at test (y ∷ ys) x is = elim (cases_Bool (test y)) [
  | inl passes ↦
      let same : y ≡ x = same_Some y x (sym (cond-true (test y) (Some y) (find test ys) passes) ∙ is) in
      (0, ap Some same, ap test (sym same) ∙ passes)
  | inr fails ↦
      let (n, at, passes) = found_at test ys x (sym (cond-false (test y) (Some y) (find test ys) fails) ∙ is) in
      (suc n, at, passes)
]

pub find_one : {X : Type 0} (test : X → Bool) (xs : List X) (n : ℕ) (x : X) → slice_get xs n ≡ Some x → test x ≡ true →
    ((m : ℕ) (y : X) → slice_get xs m ≡ Some y → test y ≡ true → y ≡ x) → find test xs ≡ Some x
find_one test [] n x at passes one = no_entry x at
find_one test (y ∷ ys) zero x at passes one =
    cond-true (test y) (Some y) (find test ys) (ap test (same_Some y x at) ∙ passes) ∙ at
find_one test (y ∷ ys) (suc n) x at passes one = elim (cases_Bool (test y)) [
  | inl also ↦ cond-true (test y) (Some y) (find test ys) also ∙ ap Some (one 0 y refl also)
  | inr fails ↦ cond-false (test y) (Some y) (find test ys) fails ∙ find_one test ys n x at passes (λ m z is. one (suc m) z is)
]

pub bound : {X Y : Type 0} (f : X → Option Y) (o : Option X) (y : Y) → option_and_then f o ≡ Some y → (x : X) × (o ≡ Some x) × (f x ≡ Some y)
bound f None y is = no_entry y is
bound f (Some x) y is = (x, refl, is)

-- frames of different demands differ
pub frames_place : (xs : List Demand) → IsDistinct same_frame xs → (i j : ℕ) (d e : Demand) → slice_get xs i ≡ Some d → slice_get xs j ≡ Some e →
    d.frame.0 ≡ e.frame.0 → i ≡ j
unfolding IsDistinct
frames_place [] distinct i j d e is at same = no_entry d is
frames_place (x ∷ xs) distinct zero zero d e is at same = refl
frames_place (x ∷ xs) distinct zero (suc j) d e is at same =
    let differ = each_at (λ (y : Demand). same_frame x y ≡ false) xs j e distinct.0 at in
    absurd (both_ways _ differ (eq-eqb x.frame.0 e.frame.0 (ap (λ (z : Demand). z.frame.0) (same_Some x d is) ∙ same)))
frames_place (x ∷ xs) distinct (suc i) zero d e is at same =
    let differ = each_at (λ (y : Demand). same_frame x y ≡ false) xs i d distinct.0 is in
    absurd (both_ways _ differ (eq-eqb x.frame.0 d.frame.0 (ap (λ (z : Demand). z.frame.0) (same_Some x e at) ∙ sym same)))
frames_place (x ∷ xs) distinct (suc i) (suc j) d e is at same = ap suc (frames_place xs distinct.1 i j d e is at same)

pub same_demand : (plant : Plant) → MeetsRules plant → (i j : ℕ) (d e : Demand) → IsDemandAt plant i d → IsDemandAt plant j e → d.frame.0 ≡ e.frame.0 → d ≡ e
same_demand plant rules i j d e is at same =
    let places = frames_place plant.demands rules.frames_differ i j d e is at same in
    same_Some d e (sym is ∙ ap (slice_get plant.demands) places ∙ at)

pub demand_found : (plant : Plant) → MeetsRules plant → (i frame : ℕ) (d : Demand) → IsDemandAt plant i d → d.frame.0 ≡ frame → demand_of plant frame ≡ Some d
demand_found plant rules i frame d at named =
    find_one (λ (x : Demand). x.frame.0 == frame) plant.demands i d at (eq-eqb d.frame.0 frame named)
    (λ m e is passes. same_demand plant rules m i e d is at (eqb-true e.frame.0 frame passes ∙ sym named))

pub record IsDemandOf (plant : Plant) (frame : ℕ) (d : Demand) : Type 0 where
  pub index : ℕ
  pub there : IsDemandAt plant index d
  pub named : d.frame.0 ≡ frame

pub demand_place : (plant : Plant) (frame : ℕ) (d : Demand) → demand_of plant frame ≡ Some d → IsDemandOf plant frame d
demand_place plant frame d is =
    let (n, at, passes) = found_at (λ (x : Demand). x.frame.0 == frame) plant.demands d is in
    record { index = n; there = at; named = eqb-true d.frame.0 frame passes }
