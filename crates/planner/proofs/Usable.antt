-- The ways of a plant's demands are usable.
use Rattle.std.proofs.Common.{◌≡◌, ℕ, zero, suc, ◌+◌, ◌<◌, inl, inr, List, [], ◌∷◌, ◌++◌, Some, length, sym, ◌∙◌, ap, subst, arith, refl}
use Rattle.std.specs.Prelude.{All, slice_get}
use Rattle.std.proofs.lemmas.List.Elements.{All-push}
use Rattle.std.proofs.lemmas.Option.{slice_get_within}
use Rattle.irt_base.specs.declared.plants.Demand.{Demand}
use Rattle.irt_base.specs.declared.plants.Plant.{Plant}
use Rattle.irt_route.specs.Routes.{RouteTables, IsRoutesOf}
use Rattle.fit_rules.specs.Order.{IsDemandAt, parents_of}
use Rattle.plan_blocks.proofs.Lists.{get_more, length_more}
use Rattle.frame_ways.specs.FrameWays.{IsFrameWay}
use Rattle.frame_ways.specs.declared.frame_way.FrameWay.{FrameWay}
use Rattle.planner.specs.Steps.{IsUsable, AreWays}

usable_way : (plant : Plant) (routes : RouteTables) (index : ℕ) (demand : Demand) (way : FrameWay) → IsRoutesOf plant routes →
    IsFrameWay plant (parents_of routes index) demand way → IsUsable way
usable_way plant routes index demand way are known =
    let (e, is) = known.shape.full demand.provider.0 (inl refl) in
    let own = (known.shape.each demand.provider.0 e is).provided refl in
    let (a, (k, inside, at), here) = known.anchors.all demand.provider.0 e is (inl own) in
    let few = are.rules.device_count.1 in
    record {
      layout = known.layout;
      few = omega (arith, known.shape.count, few);
      arrivals = known.arrivals.valid;
      some = omega (arith, inside);
    }

-- the ways of the demands before a place
pub record AreWaysBelow (plant : Plant) (routes : RouteTables) (below : ℕ) (ways : List FrameWay) : Type 0 where
  pub count : length ways ≡ below
  pub each : (index : ℕ) (demand : Demand) (way : FrameWay) → IsDemandAt plant index demand → slice_get ways index ≡ Some way →
      IsFrameWay plant (parents_of routes index) demand way
  pub usable : All IsUsable ways

pub no_ways : (plant : Plant) (routes : RouteTables) → AreWaysBelow plant routes 0 []
no_ways plant routes = record {
  count = refl;
  each = λ index demand way at there. absurd (let within = slice_get_within [] index way there in omega (arith, within));
  usable = λ k d inside. absurd (omega (arith, inside));
}

some_demand : {X : Type 0} (xs : List X) (n : ℕ) → n < length xs → (x : X) × (slice_get xs n ≡ Some x)
some_demand [] n less = absurd (omega arith)
some_demand (x ∷ xs) zero less = (x, refl)
some_demand (x ∷ xs) (suc n) less = some_demand xs n (omega arith)

pub one_way : (plant : Plant) (routes : RouteTables) (n : ℕ) (ways : List FrameWay) (way : FrameWay) → IsRoutesOf plant routes → n < length plant.demands →
    ((d : Demand) → IsDemandAt plant n d → IsFrameWay plant (parents_of routes n) d way) → AreWaysBelow plant routes n ways →
    AreWaysBelow plant routes (n + 1) (ways ++ way ∷ [])
one_way plant routes n ways way are inside known before =
    let (demand, there) = some_demand plant.demands n inside in record {
      count = length_more ways way ∙ ap (λ (m : ℕ). m + 1) before.count;
      each = λ index d w at held. elim (get_more ways way index w held) [
        | inl early ↦ before.each index d w at early
        | inr (last, same) ↦
            let here : index ≡ n = last ∙ before.count in
            let its : IsDemandAt plant n d = subst (λ m. IsDemandAt plant m d) here at in
            subst (λ m. IsFrameWay plant (parents_of routes m) d w) (sym here) (subst (IsFrameWay plant (parents_of routes n) d) same (known d its))
      ];
      usable = All-push IsUsable ways way before.usable (usable_way plant routes n demand way are (known demand there));
    }

pub all_ways : (plant : Plant) (routes : RouteTables) (n : ℕ) (ways : List FrameWay) → n ≡ length plant.demands → AreWaysBelow plant routes n ways →
    AreWays plant routes ways
all_ways plant routes n ways all below = record { count = below.count ∙ all; each = below.each }
