-- The order of placing.
use Rattle.std.specs.Prelude.{◌≡◌, ℕ, List, Some, length, map, slice_get}
use Rattle.std.specs.Ordering.{nat_cmp, ordering_then}
use Rattle.std.specs.declared.cmp.Ordering.{Ordering}
use Rattle.irt_base.specs.declared.plants.Demand.{Demand}
use Rattle.frame_ways.specs.declared.frame_way.FrameWay.{FrameWay}
use Rattle.planner.specs.declared.turns.Turn.{Turn}
use Rattle.planner.specs.declared.turns.TurnKey.{TurnKey}

-- what decides about a demand's turn
pub record IsTurnOf (demands : List Demand) (ways : List FrameWay) (index : ℕ) (t : Turn) : Type 0 where
  pub demand : Demand
  pub way : FrameWay
  pub there : slice_get demands index ≡ Some demand
  pub has : slice_get ways index ≡ Some way
  pub index_is : t.index ≡ index
  pub hops : t.hops ≡ way.hops
  pub length : t.length ≡ demand.length
  pub frame : t.frame ≡ demand.frame.0

-- the turns of all demands, as they stand
pub record AreTurns (demands : List Demand) (ways : List FrameWay) (turns : List Turn) : Type 0 where
  pub count : length turns ≡ length demands
  pub each : (index : ℕ) (t : Turn) → slice_get turns index ≡ Some t → IsTurnOf demands ways index t

abbrev pub key_of : Turn → TurnKey
key_of t = record { far = record { 0 = t.hops }; long = record { 0 = t.length }; frame = t.frame }

-- by more hops, then by more bytes, then by a lesser FrameID
abbrev pub key_cmp : TurnKey → TurnKey → Ordering
key_cmp a b = ordering_then (nat_cmp b.far.0 a.far.0)
    (ordering_then (nat_cmp b.long.0 a.long.0) (nat_cmp a.frame b.frame))

-- the demands' places
abbrev pub order_of : List Turn → List ℕ
order_of turns = map (λ (t : Turn). t.index) turns
