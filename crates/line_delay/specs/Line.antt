-- Half rounds and their lower median.
use Rattle.std.specs.Prelude.{ℕ, ◌-◌, ◌/◌, ◌≤◌, ◌<◌, Bool, ◌&&◌, not, nat_lt, nat_le, if◌then◌else◌, List, [], ◌∷◌, ◌++◌, length, drop, count_by, Contains, Result, Ok, Err}
use Rattle.line_delay.specs.declared.line.TheConstants.{WINDOW, MAX_HALF_ROUND}
use Rattle.line_delay.specs.declared.line.LineFault.{LineFault}
use Rattle.line_delay.specs.declared.line.LineFault.TheVariants.{TimesOutOfOrder, TooLong}

-- no stamp is before an earlier one of its clock, and the second device had the exchange no longer than
-- the first
abbrev pub are_in_order : ℕ → ℕ → ℕ → ℕ → Bool
are_in_order t1 t2 t3 t4 = nat_le t1 t4 && nat_le t2 t3 && nat_le (t3 - t2) (t4 - t1)

-- the half round of four stamps: 1000, 5000, 15000 and 12000 give 500, and 12003 for the last 501
abbrev pub half_of : ℕ → ℕ → ℕ → ℕ → ℕ
half_of t1 t2 t3 t4 = ((t4 - t1) - (t3 - t2)) / 2

-- the half round that is accepted, or why the response is refused
abbrev pub half_round : ℕ → ℕ → ℕ → ℕ → Result ℕ LineFault
half_round t1 t2 t3 t4 =
    if not (are_in_order t1 t2 t3 t4) then Err TimesOutOfOrder else
    if nat_lt MAX_HALF_ROUND (half_of t1 t2 t3 t4) then Err TooLong else
    Ok (half_of t1 t2 t3 t4)

-- the last of these, as many as count
abbrev pub newest : List ℕ → List ℕ
newest halves = drop (length halves - WINDOW) halves

-- the half rounds after one more response, of which a refused one changes nothing
abbrev pub accepted : List ℕ → Result ℕ LineFault → List ℕ
accepted halves (Ok half) = newest (halves ++ half ∷ [])
accepted halves (Err fault) = halves

-- The lower median: the number that stands at place (count - 1) / 2, rounded down, where they stand in
-- order. It is one of them; so many at most are less, and more than so many are at most as great.
pub record IsLowerMedian (numbers : List ℕ) (median : ℕ) : Type 0 where
  pub member : Contains numbers median
  pub less : count_by (λ n. nat_lt n median) numbers ≤ (length numbers - 1) / 2
  pub up_to : (length numbers - 1) / 2 < count_by (λ n. nat_le n median) numbers
