-- Responses whose stamps are near the truth.
use Rattle.std.specs.Prelude.{◌≡◌, ℕ, ◌+◌, ◌*◌, ◌≤◌, ℤ, pos, ◌+ℤ◌, ◌-ℤ◌, List, [], ◌∷◌}
use Rattle.irt_base.specs.Cycle.{IsNear}
use Rattle.line_delay.specs.declared.line.TheConstants.{MAX_HALF_ROUND}
use Rattle.line_delay.specs.Line.{half_round, accepted, IsLowerMedian}

-- the four stamps of a response
pub record Stamps : Type 0 where
  pub t1 : ℕ
  pub t2 : ℕ
  pub t3 : ℕ
  pub t4 : ℕ

-- What happened over a link of a delay: the true times, each by the clock that stamps it, where the second
-- clock is ahead of the first by an offset; and each stamp differs from its true time by at most the error.
pub record IsHonest (error delay : ℕ) (s : Stamps) : Type 0 where
  pub x1 : ℕ
  pub x2 : ℕ
  pub x3 : ℕ
  pub x4 : ℕ
  pub ahead : ℤ
  pub there : pos x2 ≡ pos x1 +ℤ pos delay +ℤ ahead
  pub back : pos x4 ≡ pos x3 +ℤ pos delay -ℤ ahead
  pub near1 : IsNear error s.t1 x1
  pub near2 : IsNear error s.t2 x2
  pub near3 : IsNear error s.t3 x3
  pub near4 : IsNear error s.t4 x4

-- An honest response over a link short enough to be measured, whose stay at the second device is at least twice
-- the error. With the error 8, a delay of 10 and a stay of 10000, the stamps 8, 2, 10018, 10012 are of this kind:
-- they are refused, and the delay is at most 16.
pub record IsMeasurable (error delay : ℕ) (s : Stamps) : Type 0 where
  pub honest : IsHonest error delay s
  pub stay : honest.x2 + 2 * error ≤ honest.x3
  pub short : delay + 2 * error ≤ MAX_HALF_ROUND

-- what is known of a link's delay by its half rounds: their lower median, and 0 where there is none
abbrev pub IsKnown : List ℕ → ℕ → Type 0
IsKnown [] known = known ≡ 0
IsKnown (half ∷ more) known = IsLowerMedian (half ∷ more) known

-- the half rounds after these responses
abbrev pub after_all : List ℕ → List Stamps → List ℕ
after_all halves [] = halves
after_all halves (s ∷ more) = after_all (accepted halves (half_round s.t1 s.t2 s.t3 s.t4)) more
