-- Shelves and sinks that are kept in memory, and whose calls of given numbers fail.
use Rattle.std.specs.Prelude.{ℕ, ◌==◌, Bool, if◌then◌else◌, List}
use Rattle.std.specs.List.{list_any}
use Rattle.irt_io.specs.Fault.{one_more}

-- Which calls fail, by number from 0, how many calls were made, and how many of them failed.
pub record Script : Type 0 where
  pub fails : List ℕ
  pub calls : ℕ
  pub faults : ℕ

-- whether the next call fails
abbrev pub next_fails : Script → Bool
next_fails s = list_any (λ n. n == s.calls) s.fails

-- the script after one more call
abbrev pub after_call : Script → Script
after_call s = record {
  fails = s.fails;
  calls = one_more s.calls;
  faults = if next_fails s then one_more s.faults else s.faults;
}

-- A sink that takes at most `step` bytes in a call.
pub record FakeSink : Type 0 where
  pub step : ℕ
  pub bytes : List ℕ
  pub script : Script

pub record StepSink : Type 0 where
  pub step : ℕ
  pub bytes : List ℕ
