-- Schedules, demand by demand.
use Rattle.std.proofs.Common.{◌≡◌, ◌<◌, ◌≤◌, ◌+◌, inl, inr, ℕ, List, [], ◌∷◌, ◌++◌, Some, None, get_or, refl, sym, ◌∙◌, ap, subst, arith}
use Rattle.std.specs.Prelude.{AllPairs, Contains}
use Rattle.std.proofs.lemmas.Bool.{cases_lt}
use Rattle.std.proofs.lemmas.List.Elements.{Contains-push, Contains-push_cases, Contains-append_left, Contains-get_or}
use Rattle.std.proofs.lemmas.List.Quantifiers.{all_pairs_push}
use Rattle.std.proofs.lemmas.Option.{none-some}
use Rattle.irt_base.specs.declared.limits.TheConstants.{MIN_FRAME, MAX_FRAME}
use Rattle.irt_base.specs.declared.blocks.Bundle.{Bundle}
use Rattle.irt_base.specs.declared.plants.Demand.{Demand}
use Rattle.irt_base.specs.declared.plants.Plant.{Plant}
use Rattle.irt_window.proofs.InTree.{demand_frame, valid_demand}
use Rattle.plant_rules.specs.Meets.{MeetsRules}
use Rattle.plan_rules.proofs.Arrivals.{some_of}
use Rattle.plan_rules.specs.Plan.{setup_of}
use Rattle.plan_rules.specs.Tree.{AreTrees, demand_of}
use Rattle.plan_rules.specs.Way.{Setup, entry_at}
use Rattle.plan_schedule.specs.Schedules.{IsScheduleOf, AreSchedules}
use Rattle.plan_schedule.specs.declared.frames.Schedule.{Schedule}

-- the schedules of the demands whose FrameIDs are below a limit
pub record AreBelow (plant : Plant) (bundles : List Bundle) (limit : ℕ) (schedules : List Schedule) : Type 0 where
  pub each : (s : Schedule) → Contains schedules s → IsScheduleOf (setup_of plant bundles) s
  pub below : (s : Schedule) → Contains schedules s → s.frame.0 < limit
  pub all : (frame : ℕ) (demand : Demand) → frame < limit → demand_of plant frame ≡ Some demand →
      (s : Schedule) × Contains schedules s × (s.frame.0 ≡ frame)
  pub ascending : AllPairs (λ (s t : Schedule). s.frame.0 < t.frame.0) schedules

in_range : (plant : Plant) (frame : ℕ) (demand : Demand) → MeetsRules plant → demand_of plant frame ≡ Some demand → (MIN_FRAME ≤ frame) × (frame ≤ MAX_FRAME)
in_range plant frame demand rules asked =
    let valid = (valid_demand plant frame demand rules asked).frame in
    let named = demand_frame plant frame demand asked in
    (subst (λ n. MIN_FRAME ≤ n) named valid.0, subst (λ n. n ≤ MAX_FRAME) named valid.1)

nothing : (s : Schedule) → ¬ Contains [] s
nothing s has = absurd (omega (arith, has.1))

-- no demand has a FrameID below the first
pub none_below : (plant : Plant) (bundles : List Bundle) (limit : ℕ) (schedules : List Schedule) → MeetsRules plant → limit ≤ MIN_FRAME → schedules ≡ [] → AreBelow plant bundles limit schedules
none_below plant bundles limit schedules rules low is = subst (AreBelow plant bundles limit) (sym is) (record {
  each = λ s has. absurd (nothing s has);
  below = λ s has. absurd (nothing s has);
  all = λ frame demand less asked. absurd (omega (arith, (in_range plant frame demand rules asked).0));
  ascending = λ i j d less within. absurd (omega arith);
})

-- none has the next FrameID
pub none_more : (plant : Plant) (bundles : List Bundle) (frame : ℕ) (schedules : List Schedule) → demand_of plant frame ≡ None → AreBelow plant bundles frame schedules → AreBelow plant bundles (frame + 1) schedules
none_more plant bundles frame schedules none are = record {
  each = are.each;
  below = λ s has. omega (arith, are.below s has);
  all = λ other demand less asked. elim (cases_lt other frame) [
    | inl before ↦ are.all other demand before asked
    | inr past ↦ let here : other ≡ frame = omega arith in absurd (none-some demand (sym none ∙ subst (λ n. demand_of plant n ≡ Some demand) here asked))
  ];
  ascending = are.ascending;
}

-- one has it
pub one_more : (plant : Plant) (bundles : List Bundle) (frame : ℕ) (schedules next : List Schedule) (s : Schedule) → IsScheduleOf (setup_of plant bundles) s → s.frame.0 ≡ frame →
    next ≡ schedules ++ s ∷ [] → AreBelow plant bundles frame schedules → AreBelow plant bundles (frame + 1) next
one_more plant bundles frame schedules next s own named is are = subst (AreBelow plant bundles (frame + 1)) (sym is) (record {
  each = λ t has. elim (Contains-push_cases schedules s t has) [
    | inl before ↦ are.each t before
    | inr here ↦ subst (IsScheduleOf (setup_of plant bundles)) here own
  ];
  below = λ t has. elim (Contains-push_cases schedules s t has) [
    | inl before ↦ omega (arith, are.below t before)
    | inr here ↦ omega (arith, ap (λ (x : Schedule). x.frame.0) here)
  ];
  all = λ other demand less asked. elim (cases_lt other frame) [
    | inl before ↦ let (t, has, at) = are.all other demand before asked in (t, Contains-append_left schedules (s ∷ []) t has, at)
    | inr past ↦ (s, Contains-push schedules s, omega arith)
  ];
  ascending = all_pairs_push (λ (x y : Schedule). x.frame.0 < y.frame.0) schedules s are.ascending
      (λ k d within. let low = are.below (get_or schedules k d) (Contains-get_or schedules k d within) in omega arith);
})

-- all FrameIDs were passed
pub all_below : (plant : Plant) (bundles : List Bundle) (limit : ℕ) (schedules : List Schedule) → MeetsRules plant → MAX_FRAME < limit → AreBelow plant bundles limit schedules → AreSchedules plant bundles schedules
all_below plant bundles limit schedules rules high are = record {
  each = are.each;
  all = λ frame demand asked. are.all frame demand (omega (arith, (in_range plant frame demand rules asked).1)) asked;
  ascending = are.ascending;
}

-- a demand's provider has an entry of its frame
pub provider_has : (setup : Setup) (demand : Demand) → AreTrees setup → demand_of setup.plant demand.frame.0 ≡ Some demand → ¬ (entry_at setup demand.provider.0 demand.frame.0 ≡ None)
provider_has setup demand trees asked none =
    let (e, is) = some_of (entry_at setup demand.provider.0 demand.frame.0) ((trees demand.provider.0 demand.frame.0).present demand asked (inl refl)) in
    none-some e (sym none ∙ is)
