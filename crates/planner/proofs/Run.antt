-- Placing one demand after the other.
use Rattle.std.proofs.Common.{◌≡◌, ℕ, zero, suc, ◌+◌, ◌<◌, inl, inr, List, [], ◌∷◌, ◌++◌, Some, Ok, Err, Result, length, get_or, take, replicate, sym, ◌∙◌, ap, subst, arith, refl}
use Rattle.std.specs.Prelude.{All, Contains, slice_get, slice_index_or}
use Rattle.std.proofs.lemmas.Bool.{cases_lt}
use Rattle.std.proofs.lemmas.List.{take-append-le, get_or_past, get_or-map, get_or_default, length-map}
use Rattle.std.proofs.lemmas.Option.{slice_get-get_or, slice_get_within}
use Rattle.irt_base.specs.declared.plants.Demand.{Demand}
use Rattle.irt_base.specs.declared.plants.Plant.{Plant}
use Rattle.irt_route.specs.Routes.{RouteTables, IsRoutesOf}
use Rattle.fit_rules.specs.declared.frame_plan.FramePlan.{FramePlan}
use Rattle.fit_rules.specs.Fit.{IsFirstFit}
use Rattle.fit_rules.specs.Order.{IsDemandAt, parents_of, IsPlacedAt, ArePlaced}
use Rattle.placement.specs.Tables.{place_of, table_at}
use Rattle.placement.specs.declared.gaps.TheConstants.{TABLES}
use Rattle.plan_blocks.specs.Ends.{end_at}
use Rattle.plan_blocks.proofs.Lists.{get_more, length_more}
use Rattle.frame_ways.specs.FrameWays.{IsFrameWay}
use Rattle.frame_ways.specs.declared.frame_way.FrameWay.{FrameWay}
use Rattle.planner.specs.Steps.{IsEmpty, HoldsPlaced, IsStep, AreWays, IsRun}
use Rattle.planner.specs.Turns.{order_of}
use Rattle.planner.specs.declared.fault.PlanFault.{PlanFault}
use Rattle.planner.specs.declared.fault.PlanFault.TheVariants as faults
use Rattle.planner.specs.declared.placed.Placed.{Placed}
use Rattle.planner.specs.declared.turns.Turn.{Turn}

-- the demands of the first so many turns are placed
pub record AreRunBelow (plant : Plant) (routes : RouteTables) (order : List ℕ) (below : ℕ) (placed : Placed) : Type 0 where
  pub count : length placed.plans ≡ below
  pub fit : ArePlaced plant routes order placed.plans
  pub holds : HoldsPlaced plant placed

abbrev pub IsRunning : Plant → List FrameWay → List ℕ → ℕ → Placed → Type 0
IsRunning plant ways order below placed = (routes : RouteTables) → IsRoutesOf plant routes → AreWays plant routes ways →
    AreRunBelow plant routes order below placed

-- what a step says of every table of routes
abbrev pub StepsSo : Plant → Demand → FrameWay → Placed → Placed → Result (Unit {0}) PlanFault → Type 0
StepsSo plant demand way old new r = (routes : RouteTables) (index : ℕ) → IsRoutesOf plant routes → IsDemandAt plant index demand →
    IsFrameWay plant (parents_of routes index) demand way → HoldsPlaced plant old → IsStep plant (parents_of routes index) demand old new r

nothing : {A X : Type 0} (xs : List X) (x : X) → xs ≡ [] → Contains xs x → A
nothing xs x none (k, inside, is) = let long = ap length none in absurd (omega (arith, inside, long))

zeros : (n at : ℕ) → slice_index_or (replicate n 0) at 0 ≡ end_at [] 0 0 0
zeros zero at = refl
zeros (suc n) zero = refl
zeros (suc n) (suc at) = zeros n at

empty_holds : (plant : Plant) (placed : Placed) → IsEmpty placed → HoldsPlaced plant placed
empty_holds plant placed empty = record {
  slots = record {
    only = λ device port k s place has. nothing (table_at placed.gaps device port k) s (empty_table (place_of device port k)) has;
    all = λ device port k s place is. nothing placed.plans is.plan empty.plans is.placed;
  };
  ends = record {
    sent = λ device port k place. record {
      bound = λ x is. nothing placed.plans is.plan empty.plans is.placed;
      some = inr (no_end placed.tx empty.tx (place_of device port k), λ x is. nothing placed.plans is.plan empty.plans is.placed);
    };
    received = λ device port k place. record {
      bound = λ x is. nothing placed.plans is.plan empty.plans is.placed;
      some = inr (no_end placed.rx empty.rx (place_of device port k), λ x is. nothing placed.plans is.plan empty.plans is.placed);
    };
  };
  small = λ device port k place. let none = no_end placed.tx empty.tx (place_of device port k) in omega (arith, none);
  sound = λ plan device e has is. nothing placed.plans plan empty.plans has;
}
  where
    empty_table : (at : ℕ) → slice_index_or placed.gaps at [] ≡ []
    empty_table at = elim (cases_lt at (length placed.gaps)) [
      | inl less ↦ empty.gaps at [] less
      | inr past ↦ get_or_past placed.gaps at [] past
    ]

    no_end : (ends : List ℕ) → ends ≡ replicate TABLES 0 → (at : ℕ) → slice_index_or ends at 0 ≡ end_at [] 0 0 0
    no_end ends is at = ap (λ (xs : List ℕ). slice_index_or xs at 0) is ∙ zeros TABLES at

pub none_running : (plant : Plant) (ways : List FrameWay) (order : List ℕ) (placed : Placed) → IsEmpty placed → IsRunning plant ways order 0 placed
none_running plant ways order placed empty routes are known = record {
  count = ap length empty.plans;
  fit = λ n plan there. absurd (let within = slice_get_within placed.plans n plan there in let long = ap length empty.plans in omega (arith, within, long));
  holds = empty_holds plant placed empty;
}

take_whole : {X : Type 0} (xs : List X) (n : ℕ) → n ≡ length xs → take n xs ≡ xs
take_whole [] zero is = refl
take_whole [] (suc n) is = refl
take_whole (x ∷ xs) zero is = absurd (omega arith)
take_whole (x ∷ xs) (suc n) is = ap (λ ys. x ∷ ys) (take_whole xs n (omega arith))

-- one more frame is placed beside those before
one_more : (plant : Plant) (routes : RouteTables) (order : List ℕ) (plans : List FramePlan) (plan : FramePlan) (index : ℕ) (demand : Demand) →
    slice_get order (length plans) ≡ Some index → IsDemandAt plant index demand → IsFirstFit plant (parents_of routes index) plans demand plan →
    ArePlaced plant routes order plans → ArePlaced plant routes order (plans ++ plan ∷ [])
one_more plant routes order plans plan index demand next there fit before n other at = elim (get_more plans plan n other at) [
  | inl early ↦
      let within = slice_get_within plans n other early in
      subst (λ (ps : List FramePlan). IsPlacedAt plant routes order ps n other) (sym (take-append-le n plans (plan ∷ []) (omega (arith, within)))) (before n other early)
  | inr (last, same) ↦
      let front : take n (plans ++ plan ∷ []) ≡ plans = take-append-le n plans (plan ∷ []) (omega (arith, last)) ∙ take_whole plans n last in
      subst (λ (ps : List FramePlan). IsPlacedAt plant routes order ps n other) (sym front) (record {
        index = index;
        demand = demand;
        next = ap (slice_get order) last ∙ next;
        there = there;
        fit = subst (IsFirstFit plant (parents_of routes index) plans demand) same fit;
      })
]

module _ (plant : Plant) (ways : List FrameWay) (turns : List Turn) (n : ℕ) (turn : Turn) (demand : Demand) (way : FrameWay) (old : Placed)
    (inside : n < length turns) (turn_is : get_or turns n turn ≡ turn) (there : IsDemandAt plant turn.index demand) (has : slice_get ways turn.index ≡ Some way)
    (before : IsRunning plant ways (order_of turns) n old) where
  next_turn : slice_get (order_of turns) n ≡ Some turn.index
  next_turn = slice_get-get_or (order_of turns) n 0 (omega (arith, length-map turns (λ (t : Turn). t.index), inside))
      ∙ ap Some (get_or-map (λ (t : Turn). t.index) turns n turn 0 inside ∙ ap (λ (t : Turn). t.index) turn_is)

  -- the frame is placed
  pub next_running : (new : Placed) → StepsSo plant demand way old new (Ok tt) → IsRunning plant ways (order_of turns) (n + 1) new
  next_running new step routes are known =
      let run = before routes are known in
      let added = step routes turn.index are there (known.each turn.index demand way there has) run.holds in
      let next : slice_get (order_of turns) (length old.plans) ≡ Some turn.index = ap (slice_get (order_of turns)) run.count ∙ next_turn in
      record {
        count = ap length added.plans ∙ length_more old.plans added.plan ∙ ap (λ (m : ℕ). m + 1) run.count;
        fit = subst (ArePlaced plant routes (order_of turns)) (sym added.plans)
            (one_more plant routes (order_of turns) old.plans added.plan turn.index demand next there added.fit run.fit);
        holds = added.holds;
      }

  stop_is : (routes : RouteTables) (new : Placed) → ArePlaced plant routes (order_of turns) old.plans → slice_get (order_of turns) (length old.plans) ≡ Some turn.index →
      (fault : PlanFault) → IsStep plant (parents_of routes turn.index) demand old new (Err fault) → IsRun plant routes (order_of turns) (Err fault)
  stop_is routes new fit next faults.NoMemory is = tt
  stop_is routes new fit next (faults.Overrun frame) (named, none) =
      record { plans = old.plans; placed = fit; index = turn.index; demand = demand; next = next; there = there; named = sym named; none = none }

  -- the frame is not placed
  pub stopped : (new : Placed) (fault : PlanFault) → StepsSo plant demand way old new (Err fault) →
      (routes : RouteTables) → IsRoutesOf plant routes → AreWays plant routes ways → IsRun plant routes (order_of turns) (Err fault)
  stopped new fault step routes are known =
      let run = before routes are known in
      let next : slice_get (order_of turns) (length old.plans) ≡ Some turn.index = ap (slice_get (order_of turns)) run.count ∙ next_turn in
      stop_is routes new run.fit next fault (step routes turn.index are there (known.each turn.index demand way there has) run.holds)

pub all_run : (plant : Plant) (ways : List FrameWay) (turns : List Turn) (n : ℕ) (placed : Placed) → n ≡ length turns → IsRunning plant ways (order_of turns) n placed →
    (routes : RouteTables) → IsRoutesOf plant routes → AreWays plant routes ways → IsRun plant routes (order_of turns) (Ok placed)
all_run plant ways turns n placed all running routes are known =
    let run = running routes are known in
    record { all = run.count ∙ all ∙ sym (length-map turns (λ (t : Turn). t.index)); fit = run.fit; holds = run.holds }

-- the turn at a place, with its demand and way
pub record IsTurnAt (plant : Plant) (ways : List FrameWay) (turns : List Turn) (n : ℕ) (turn : Turn) (demand : Demand) (way : FrameWay) : Type 0 where
  pub inside : n < length turns
  pub is : get_or turns n turn ≡ turn
  pub there : IsDemandAt plant turn.index demand
  pub has : slice_get ways turn.index ≡ Some way

pub turn_at : (plant : Plant) (ways : List FrameWay) (turns : List Turn) (n : ℕ) (d : Turn) (place : ℕ) (seen : List Demand) (demand : Demand) (way : FrameWay) →
    n < length turns → place ≡ (get_or turns n d).index → seen ≡ plant.demands → demand ≡ get_or seen place demand → way ≡ get_or ways place way →
    length ways ≡ length plant.demands → All (λ (t : Turn). t.index < length plant.demands) turns →
    IsTurnAt plant ways turns n (get_or turns n d) demand way
turn_at plant ways turns n d place seen demand way inside at same is has count all =
    let below : place < length plant.demands = subst (λ m. m < length plant.demands) (sym at) (all n d inside) in
    let there : slice_get plant.demands place ≡ Some demand =
    slice_get-get_or plant.demands place demand below ∙ ap Some (ap (λ (xs : List Demand). get_or xs place demand) (sym same) ∙ sym is) in
    record {
      inside = inside;
      is = get_or_default turns n (get_or turns n d) d inside;
      there = subst (λ m. slice_get plant.demands m ≡ Some demand) at there;
      has = subst (λ m. slice_get ways m ≡ Some way) at (slice_get-get_or ways place way (omega (arith, below, count)) ∙ ap Some (sym has));
    }
