-- The turns of demands, one after the other.
use Rattle.std.proofs.Common.{◌≡◌, ℕ, ◌+◌, ◌<◌, inl, inr, List, [], ◌∷◌, ◌++◌, Some, length, get_or, sym, ◌∙◌, ap, subst}
use Rattle.std.specs.Prelude.{slice_get}
use Rattle.std.proofs.lemmas.Option.{slice_get-get_or}
use Rattle.irt_base.specs.declared.plants.Demand.{Demand}
use Rattle.frame_ways.specs.declared.frame_way.FrameWay.{FrameWay}
use Rattle.plan_blocks.proofs.Lists.{get_more, length_more}
use Rattle.planner.specs.Turns.{IsTurnOf, AreTurns}
use Rattle.planner.specs.declared.turns.Turn.{Turn}

pub record AreTurnsBelow (demands : List Demand) (ways : List FrameWay) (below : ℕ) (turns : List Turn) : Type 0 where
  pub count : length turns ≡ below
  pub each : (index : ℕ) (t : Turn) → slice_get turns index ≡ Some t → IsTurnOf demands ways index t

pub one_turn : (demands : List Demand) (ways : List FrameWay) (n : ℕ) (turns : List Turn) (demand : Demand) (way : FrameWay) →
    n < length demands → n < length ways → demand ≡ get_or demands n demand → way ≡ get_or ways n way → AreTurnsBelow demands ways n turns →
    AreTurnsBelow demands ways (n + 1) (turns ++ record { hops = way.hops; length = demand.length; frame = demand.frame.0; index = n } ∷ [])
one_turn demands ways n turns demand way inside also is has before = record {
  count = length_more turns _ ∙ ap (λ (m : ℕ). m + 1) before.count;
  each = λ index t at. elim (get_more turns _ index t at) [
    | inl early ↦ before.each index t early
    | inr (last, same) ↦
        let here : index ≡ n = last ∙ before.count in
        subst (λ (m : ℕ). IsTurnOf demands ways m t) (sym here) (subst (λ (x : Turn). IsTurnOf demands ways n x) same own)
  ];
}
  where
    own : IsTurnOf demands ways n (record { hops = way.hops; length = demand.length; frame = demand.frame.0; index = n })
    own = record {
      demand = demand;
      way = way;
      there = slice_get-get_or demands n demand inside ∙ ap Some (sym is);
      has = slice_get-get_or ways n way also ∙ ap Some (sym has);
      index_is = λ i. n;
      hops = λ i. way.hops;
      length = λ i. demand.length;
      frame = λ i. demand.frame.0;
    }

pub all_turns : (demands : List Demand) (ways : List FrameWay) (n : ℕ) (turns : List Turn) → n ≡ length demands → AreTurnsBelow demands ways n turns →
    AreTurns demands ways turns
all_turns demands ways n turns all below = record { count = below.count ∙ all; each = below.each }
