-- A port of valid blocks has a Tx period in each cycle.
use Rattle.std.proofs.Common.{◌≡◌, ℕ, ◌-◌, ◌%◌, ◌<◌, List, [], ◌∷◌, length, Some, option_map, option_and_then, slice_get, get_or, ◌∙◌, ap, arith}
use Rattle.std.proofs.lemmas.Option.{slice_get-get_or}
use Rattle.irt_base.specs.Periods.{period_at, port_period, number_of, side_of}
use Rattle.irt_base.specs.Valid.{IsPeriodBlock, IsPhasePair, IsPortPeriods, IsWithin}
use Rattle.irt_base.specs.declared.blocks.Period.{Period}
use Rattle.irt_base.specs.declared.blocks.PeriodBlock.{PeriodBlock}
use Rattle.irt_base.specs.declared.blocks.PhasePair.{PhasePair}
use Rattle.irt_base.specs.declared.blocks.PortPeriods.{PortPeriods}
use Rattle.irt_base.specs.declared.blocks.Side.TheVariants.{Tx}
use Rattle.irt_base.specs.declared.limits.TheConstants.{PHASES}
use Rattle.parcel_rules.proofs.Lists.{each_at}

item : {A : Type 0} (xs : List A) (n : ℕ) → n < length xs → (x : A) × (slice_get xs n ≡ Some x)
item [] n below = absurd (omega arith)
item (x ∷ xs) n below = (get_or (x ∷ xs) n x, slice_get-get_or (x ∷ xs) n x below)

of_port : (p : PortPeriods) (k : ℕ) → IsPortPeriods p → (x : Period) × (port_period p k Tx ≡ Some x)
of_port p k valid =
    let (pair, at) = item p.phases (k % PHASES) (omega (arith, valid.sixteen)) in
    let numbers = each_at (IsPhasePair (length p.assignments)) p.phases (k % PHASES) pair valid.phases at in
    let (a, named) = item p.assignments pair.tx numbers.tx in (
      a.tx,
      ap (option_and_then (λ (x : PhasePair). option_map (side_of Tx) (slice_get p.assignments (number_of Tx x)))) at ∙ ap (option_map (side_of Tx)) named,
    )

pub tx_of : (block : PeriodBlock) (port k : ℕ) → IsPeriodBlock block → IsWithin 1 (length block.ports) port →
    (x : Period) × (period_at block port k Tx ≡ Some x)
tx_of block port k valid within =
    let (p, at) = item block.ports (port - 1) (omega (arith, within.0, within.1)) in
    let (x, is) = of_port p k (each_at IsPortPeriods block.ports (port - 1) p valid.ports at) in
    (x, ap (option_and_then (λ (y : PortPeriods). port_period y k Tx)) at ∙ is)
