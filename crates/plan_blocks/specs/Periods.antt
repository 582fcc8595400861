-- The periods of a port, by the last ends of its frames. Times are ns.
use Rattle.std.specs.Prelude.{◌≡◌, ℕ, ◌+◌, ◌<◌, ◌≤◌, ◌⊎◌, ◌++◌, ◌∷◌, [], List, Some, length, slice_get}
use Rattle.irt_base.specs.declared.blocks.Assignment.{Assignment}
use Rattle.irt_base.specs.declared.blocks.PhasePair.{PhasePair}
use Rattle.irt_base.specs.declared.blocks.PortPeriods.{PortPeriods}
use Rattle.fit_rules.specs.Blocks.{IsBeforePhase}
use Rattle.plan_blocks.specs.Ends.{end_at}

-- Red lasts to the last end. Orange follows on the sending side alone.
abbrev pub assignment_of : ℕ → ℕ → ℕ → Assignment
assignment_of orange tx rx = record {
  tx = record { red = 0; orange = tx; green = tx + orange };
  rx = record { red = 0; orange = rx; green = rx };
}

-- a phase's number names its periods, on both sides
pub record IsPair (orange tx rx : ℕ) (assignments : List Assignment) (pair : PhasePair) : Type 0 where
  pub one : pair.rx ≡ pair.tx
  pub named : slice_get assignments pair.tx ≡ Some (assignment_of orange tx rx)

-- The phases before one have their periods, in assignments that are numbered by the phases that first use them.
pub record ArePhasesBelow (orange : ℕ) (tx rx : List ℕ) (device port below : ℕ) (p : PortPeriods) : Type 0 where
  pub count : length p.phases ≡ below
  pub few : length p.assignments ≤ below
  pub each : (k : ℕ) (pair : PhasePair) → slice_get p.phases k ≡ Some pair →
      IsPair orange (end_at tx device port k) (end_at rx device port k) p.assignments pair
  pub differ : (i j : ℕ) (a : Assignment) → slice_get p.assignments i ≡ Some a → slice_get p.assignments j ≡ Some a → i ≡ j
  pub used : (i : ℕ) → i < length p.assignments → IsBeforePhase p below i
  pub first : (k i : ℕ) (pair : PhasePair) → slice_get p.phases k ≡ Some pair → i < pair.tx → IsBeforePhase p k i

-- The assignment has this number in the new list, at whose end it stands where the old one has it not.
abbrev pub IsNumber : List Assignment → Assignment → List Assignment → ℕ → Type 0
IsNumber old a new number =
    ((new ≡ old) × (slice_get old number ≡ Some a))
    ⊎ ((new ≡ old ++ a ∷ []) × (number ≡ length old) × ((i : ℕ) → slice_get old i ≡ Some a → ⊥))
