-- Sorted turns are the order of placing, and placed frames differ.
use Rattle.std.proofs.Common.{◌≡◌, ◌≢◌, ℕ, zero, suc, ◌+◌, ◌<◌, ◌≤◌, ◌⊎◌, inl, inr, List, [], ◌∷◌, Some, AllPairs, length, get_or, map, false, sym, ◌∙◌, ap, subst, arith}
use Rattle.std.specs.Prelude.{Contains, slice_get}
use Rattle.std.specs.List.{IsDistinct}
use Rattle.std.specs.List.Sorted.{IsPermutation, IsSortedByKey}
use Rattle.std.specs.Ordering.{nat_cmp, ordering_then, is_lt}
use Rattle.std.proofs.lemmas.Bool.{cases_lt, eqb-false}
use Rattle.std.proofs.lemmas.Bool.Decides.{nat_tests}
use Rattle.std.proofs.lemmas.List.{length-map}
use Rattle.std.proofs.lemmas.List.Elements.{All-from_recursion, All-contains, Contains-get_or}
use Rattle.std.proofs.lemmas.List.Sorted.{IsPermutation-sym, Contains-permutation, length_permutation}
use Rattle.std.proofs.lemmas.Option.{same_Some, slice_get-get_or, slice_get_within, get_or_from_slice_get}
use Rattle.irt_base.specs.declared.numbers.FrameId.{FrameId}
use Rattle.irt_base.specs.declared.plants.Demand.{Demand}
use Rattle.irt_base.specs.declared.plants.Plant.{Plant}
use Rattle.irt_route.specs.Routes.{RouteTables, IsRoutesOf}
use Rattle.plant_rules.specs.Words.{same_frame}
use Rattle.fit_rules.specs.declared.frame_plan.FramePlan.{FramePlan}
use Rattle.fit_rules.specs.Order.{HasFarthest, IsDemandAt, AreInOrder, IsOrder, ArePlaced}
use Rattle.frame_ways.specs.declared.frame_way.FrameWay.{FrameWay}
use Rattle.planner.specs.Steps.{AreWays}
use Rattle.planner.specs.Turns.{IsTurnOf, AreTurns, key_of, key_cmp, order_of}
use Rattle.planner.specs.declared.turns.Turn.{Turn}
use Rattle.planner.proofs.Entries.{no_item, contains_at, place_of}
use Rattle.planner.proofs.Places.{item_at, map_at, contains_map, pairs_map, pairs_of_steps, still_differ, numbers_differ}

-- by plain numbers: more hops, more bytes, a lesser frame
abbrev Sooner : ℕ → ℕ → ℕ → ℕ → ℕ → ℕ → Type 0
Sooner h l f k m g = (k < h) ⊎ ((h ≡ k) × ((m < l) ⊎ ((l ≡ m) × (f < g))))

not_later : (h l f k m g : ℕ) → is_lt (ordering_then (nat_cmp h k) (ordering_then (nat_cmp l m) (nat_cmp g f))) ≡ false →
    (k < h) ⊎ ((h ≡ k) × ((m < l) ⊎ ((l ≡ m) × (f ≤ g))))
not_later h l f k m g not = grind (arith, nat_tests)

strictly : (h l f k m g : ℕ) → f ≢ g → (k < h) ⊎ ((h ≡ k) × ((m < l) ⊎ ((l ≡ m) × (f ≤ g)))) → Sooner h l f k m g
strictly h l f k m g differ (inl more) = inl more
strictly h l f k m g differ (inr (same, inl long)) = inr (same, inl long)
strictly h l f k m g differ (inr (same, inr (also, least))) =
    inr (same, inr (also, elim (cases_lt f g) [ inl less ↦ less | inr past ↦ absurd (differ (omega arith)) ]))

sooner_follows : (h l f k m g x y z : ℕ) → Sooner h l f k m g → Sooner k m g x y z → Sooner h l f x y z
sooner_follows h l f k m g x y z (inl p) (inl q) = inl (omega arith)
sooner_follows h l f k m g x y z (inl p) (inr (q, r)) = inl (omega arith)
sooner_follows h l f k m g x y z (inr (p, q)) (inl r) = inl (omega arith)
sooner_follows h l f k m g x y z (inr (p, inl q)) (inr (r, inl s)) = inr (p ∙ r, inl (omega arith))
sooner_follows h l f k m g x y z (inr (p, inl q)) (inr (r, inr (s, t))) = inr (p ∙ r, inl (omega arith))
sooner_follows h l f k m g x y z (inr (p, inr (q, r))) (inr (s, inl t)) = inr (p ∙ s, inl (omega arith))
sooner_follows h l f k m g x y z (inr (p, inr (q, r))) (inr (s, inr (t, u))) = inr (p ∙ s, inr (q ∙ t, omega arith))

abbrev IsSooner : Turn → Turn → Type 0
IsSooner a b = Sooner a.hops a.length a.frame b.hops b.length b.frame

-- frames of different demands differ
frames_place : (xs : List Demand) → IsDistinct same_frame xs → (i j : ℕ) (d e : Demand) → i < j → slice_get xs i ≡ Some d → slice_get xs j ≡ Some e →
    d.frame.0 ≢ e.frame.0
unfolding IsDistinct
frames_place [] distinct i j d e less is at same = no_item d is
frames_place (x ∷ xs) distinct zero zero d e less is at same = absurd (omega arith)
frames_place (x ∷ xs) distinct zero (suc j) d e less is at same =
    let differ = All-contains (λ (y : Demand). same_frame x y ≡ false) xs e (All-from_recursion (λ (y : Demand). same_frame x y ≡ false) xs distinct.0) (contains_at xs j e at) in
    eqb-false x.frame.0 e.frame.0 differ (ap (λ (z : Demand). z.frame.0) (same_Some x d is) ∙ same)
frames_place (x ∷ xs) distinct (suc i) zero d e less is at same = absurd (omega arith)
frames_place (x ∷ xs) distinct (suc i) (suc j) d e less is at same = frames_place xs distinct.1 i j d e (omega arith) is at same

module _ (plant : Plant) (routes : RouteTables) (are : IsRoutesOf plant routes) (ways : List FrameWay) (known : AreWays plant routes ways)
    (turns sorted : List Turn) (all : AreTurns plant.demands ways turns) (same : IsPermutation turns sorted) where
  turn_in : (t : Turn) → Contains sorted t → (n : ℕ) × IsTurnOf plant.demands ways n t
  turn_in t has =
      let (n, at) = place_of turns t (Contains-permutation sorted turns t (IsPermutation-sym turns sorted same) has) in
      (n, all.each n t at)

  demand_is : (t : Turn) (n : ℕ) → (is : IsTurnOf plant.demands ways n t) → (d : Demand) → IsDemandAt plant t.index d → is.demand ≡ d
  demand_is t n is d at = same_Some is.demand d (sym is.there ∙ ap (slice_get plant.demands) (sym is.index_is) ∙ at)

  pub within : (t : Turn) → Contains sorted t → t.index < length plant.demands
  within t has =
      let (n, is) = turn_in t has in
      let inside = slice_get_within plant.demands n is.demand is.there in
      omega (arith, inside, is.index_is)

  turns_differ : AllPairs (λ (a b : Turn). a.frame ≢ b.frame) turns
  turns_differ i j d less inside one =
      let first = all.each i (get_or turns i d) (slice_get-get_or turns i d (omega (arith, less, inside))) in
      let second = all.each j (get_or turns j d) (slice_get-get_or turns j d inside) in
      frames_place plant.demands are.rules.frames_differ i j first.demand second.demand less first.there second.there (sym first.frame ∙ one ∙ second.frame)

  sorted_differ : AllPairs (λ (a b : ℕ). a ≢ b) (map (λ (t : Turn). t.frame) sorted)
  sorted_differ = still_differ (λ (t : Turn). t.frame) turns sorted same turns_differ

  sooner_as : (h l f k m g i n o p q r : ℕ) → h ≡ i → l ≡ n → f ≡ o → k ≡ p → m ≡ q → g ≡ r → Sooner h l f k m g → Sooner i n o p q r
  sooner_as h l f k m g i n o p q r a b c d e z (inl s) = inl (omega arith)
  sooner_as h l f k m g i n o p q r a b c d e z (inr (s, inl t)) = inr (omega arith, inl (omega arith))
  sooner_as h l f k m g i n o p q r a b c d e z (inr (s, inr (t, u))) = inr (omega arith, inr (omega arith, omega arith))

  far_of : (t : Turn) (n : ℕ) → (is : IsTurnOf plant.demands ways n t) → (d : Demand) → IsDemandAt plant t.index d → HasFarthest plant d is.way.hops
  far_of t n is d at = subst (λ (x : Demand). HasFarthest plant x is.way.hops) (demand_is t n is d at) (known.each n is.demand is.way is.there is.has).far

  in_order : (a b : Turn) → Contains sorted a → Contains sorted b → IsSooner a b → AreInOrder plant a.index b.index
  in_order a b has also sooner d e at there =
      let (n, first) = turn_in a has in
      let (m, second) = turn_in b also in
      let d_is = demand_is a n first d at in
      let e_is = demand_is b m second e there in
      record {
        hops = first.way.hops;
        other_hops = second.way.hops;
        farthest = far_of a n first d at;
        other_farthest = far_of b m second e there;
        before = sooner_as a.hops a.length a.frame b.hops b.length b.frame first.way.hops d.length d.frame.0 second.way.hops e.length e.frame.0
            first.hops (first.length ∙ ap (λ (x : Demand). x.length) d_is) (first.frame ∙ ap (λ (x : Demand). x.frame.0) d_is)
            second.hops (second.length ∙ ap (λ (x : Demand). x.length) e_is) (second.frame ∙ ap (λ (x : Demand). x.frame.0) e_is) sooner;
      }

  pub order_is : IsSortedByKey key_of key_cmp sorted → IsOrder plant (order_of sorted)
  order_is up = record {
    count = length-map sorted (λ (t : Turn). t.index) ∙ length_permutation turns sorted same ∙ all.count;
    all = λ index less.
        let (t, at) = item_at turns index (omega (arith, less, all.count)) in
        let is = all.each index t at in
        subst (λ (n : ℕ). Contains (order_of sorted) n) is.index_is
        (contains_map (λ (x : Turn). x.index) sorted t (Contains-permutation turns sorted t same (contains_at turns index t at)));
    sorted = pairs_map (λ (t : Turn). t.index) (AreInOrder plant) sorted (λ i j d less inside.
        in_order (get_or sorted i d) (get_or sorted j d) (Contains-get_or sorted i d (omega (arith, less, inside))) (Contains-get_or sorted j d inside)
        (sooner i j d less inside));
  }
    where
      sooner : AllPairs IsSooner sorted
      sooner = pairs_of_steps IsSooner (λ a b c. sooner_follows a.hops a.length a.frame b.hops b.length b.frame c.hops c.length c.frame) sorted (λ k d below.
          let a : Turn = get_or sorted k d in
          let b : Turn = get_or sorted (k + 1) d in
          let apart = numbers_differ (λ (t : Turn). t.frame) sorted sorted_differ k (k + 1) d (omega arith) below in
          strictly a.hops a.length a.frame b.hops b.length b.frame apart
          (not_later a.hops a.length a.frame b.hops b.length b.frame (up k d (omega arith) below)))

  -- the frame of a placed plan is that of its turn
  frame_at : (plans : List FramePlan) → length plans ≡ length (order_of sorted) → ArePlaced plant routes (order_of sorted) plans → (i : ℕ) (p : FramePlan) →
      slice_get plans i ≡ Some p → p.frame.0 ≡ get_or (map (λ (t : Turn). t.frame) sorted) i 0
  frame_at plans count placed i p at =
      let is = placed i p at in
      let inside = slice_get_within plans i p at in
      let (t, there) = item_at sorted i (omega (arith, inside, count, length-map sorted (λ (x : Turn). x.index))) in
      let (n, own) = turn_in t (contains_at sorted i t there) in
      let index : t.index ≡ is.index = same_Some t.index is.index (sym (map_at (λ (x : Turn). x.index) sorted i t there) ∙ is.next) in
      let demand = demand_is t n own is.demand (subst (λ m. IsDemandAt plant m is.demand) (sym index) is.there) in
      ap (λ (f : FrameId). f.0) is.fit.is.shape.frame ∙ ap (λ (x : Demand). x.frame.0) (sym demand) ∙ sym own.frame
      ∙ sym (get_or_from_slice_get (map (λ (x : Turn). x.frame) sorted) i t.frame 0 (map_at (λ (x : Turn). x.frame) sorted i t there))

  pub plans_differ : (plans : List FramePlan) → length plans ≡ length (order_of sorted) → ArePlaced plant routes (order_of sorted) plans →
      AllPairs (λ (a b : FramePlan). a.frame.0 ≢ b.frame.0) plans
  plans_differ plans count placed i j d less inside one =
      let first = frame_at plans count placed i (get_or plans i d) (slice_get-get_or plans i d (omega (arith, less, inside))) in
      let second = frame_at plans count placed j (get_or plans j d) (slice_get-get_or plans j d inside) in
      sorted_differ i j 0 less (omega (arith, inside, count, length-map sorted (λ (x : Turn). x.index), length-map sorted (λ (x : Turn). x.frame)))
      (sym first ∙ one ∙ second)
