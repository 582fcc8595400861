-- The schedules of a plan are one, and so is its text.
use Rattle.std.proofs.Common.{◌≡◌, ◌<◌, ℕ, List, Some, slice_get, sym, ◌∙◌, subst, arith}
use Rattle.std.specs.Prelude.{Contains}
use Rattle.std.proofs.lemmas.Option.{same_Some}
use Rattle.irt_base.specs.declared.blocks.Bundle.{Bundle}
use Rattle.irt_base.specs.declared.numbers.FrameId.{FrameId}
use Rattle.irt_base.specs.declared.plants.Demand.{Demand}
use Rattle.irt_base.specs.declared.plants.Plant.{Plant}
use Rattle.fit_rules.specs.Printed.{IsSchedule, IsRedEnd}
use Rattle.fit_rules.proofs.Lists.{contains_at, place_of}
use Rattle.fit_rules.proofs.Sorted.{IsAt, IsStrict, one_sorted}
use Rattle.plan_rules.specs.Plan.{setup_of}
use Rattle.plan_rules.specs.Tree.{demand_of}
use Rattle.plan_rules.specs.Way.{Setup}
use Rattle.plan_schedule.specs.Schedules.{IsScheduleOf, AreSchedules}
use Rattle.plan_schedule.specs.Text.{plan_text, IsPlanText}
use Rattle.plan_schedule.specs.declared.frames.Schedule.{Schedule}

-- the printed values of a demand are one
abbrev pub OneSchedule : Type 0
OneSchedule = (setup : Setup) (demand : Demand) (ratio phase planned other_ratio other_phase other_planned : ℕ) →
    IsSchedule setup demand ratio phase planned → IsSchedule setup demand other_ratio other_phase other_planned →
    (ratio ≡ other_ratio) × (phase ≡ other_phase) × (planned ≡ other_planned)

frame_same : (a b : FrameId) → a.0 ≡ b.0 → a ≡ b
frame_same a b is = λ i. record { 0 = is i }

one_row : OneSchedule → (setup : Setup) (s t : Schedule) → IsScheduleOf setup s → IsScheduleOf setup t → s.frame.0 ≡ t.frame.0 → s ≡ t
one_row law setup s t a b named =
    let asked : demand_of setup.plant s.frame.0 ≡ Some b.demand = subst (λ f. demand_of setup.plant f ≡ Some b.demand) (sym named) b.asked in
    let same : a.demand ≡ b.demand = same_Some a.demand b.demand (sym a.asked ∙ asked) in
    let values = law setup b.demand s.ratio s.phase s.planned t.ratio t.phase t.planned (subst (λ (d : Demand). IsSchedule setup d s.ratio s.phase s.planned) same a.is) b.is in
    let frame = frame_same s.frame t.frame named in
    λ i. record { frame = frame i; ratio = values.0 i; phase = values.1 i; planned = values.2 i }

strict : IsStrict (λ (s : Schedule). ℕ) (λ (s t : Schedule). s.frame.0 < t.frame.0)
strict = record { never = λ s _ less. omega arith; one_way = λ s t _ _ less more. omega arith }

module _ (law : OneSchedule) (plant : Plant) (bundles : List Bundle) where
  among : (xs ys : List Schedule) → AreSchedules plant bundles xs → AreSchedules plant bundles ys → (n : ℕ) (s : Schedule) → slice_get xs n ≡ Some s → IsAt ys s
  among xs ys a b n s at =
      let own = a.each s (contains_at xs n s at) in
      let (t, has, named) = b.all s.frame.0 own.demand own.asked in
      let same : t ≡ s = one_row law (setup_of plant bundles) t s (b.each t has) own named in
      place_of ys s (subst (Contains ys) same has)

  pub one_schedules : (xs ys : List Schedule) → AreSchedules plant bundles xs → AreSchedules plant bundles ys → xs ≡ ys
  one_schedules xs ys a b =
      one_sorted (λ (s : Schedule). ℕ) (λ (s t : Schedule). s.frame.0 < t.frame.0) strict xs ys a.ascending b.ascending (λ n s at. 0) (among xs ys a b) (among ys xs b a)

  pub one_text : ((end other : ℕ) → IsRedEnd bundles end → IsRedEnd bundles other → end ≡ other) → (x y : List ℕ) → IsPlanText plant bundles x → IsPlanText plant bundles y → x ≡ y
  one_text ends x y a b =
      let rows = one_schedules a.schedules b.schedules a.are b.are in
      let red = ends a.red b.red a.ends b.ends in
      a.is ∙ (λ i. plan_text (rows i) (red i)) ∙ sym b.is
