-- In which true time a frame starts, by its window.
use Rattle.std.specs.Prelude.{ℤ, ◌+ℤ◌, ◌≤ℤ◌}

-- A frame starts, in true time, between lo and hi after the beginning of its anchor's cycle. With origin
-- 1000000, error 1000 and the window 1800 to 3800 it starts between 1002800 and 1004800.
pub record IsInWindow (start origin error lo hi : ℤ) : Type 0 where
  pub low : (origin +ℤ error +ℤ lo) ≤ℤ start
  pub high : start ≤ℤ (origin +ℤ error +ℤ hi)
