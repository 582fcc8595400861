-- What the types of a record keep of its numbers.
use Rattle.std.specs.Prelude.{◌^◌, ◌<◌, length}
use Rattle.std.specs.List.{AllByRecursion}
use Rattle.iso_rules.specs.Lockstep.{AppLog}
use Rattle.record_laws.specs.Fitting.{AreWords, HasRange, IsTake, IsTurn}
use Rattle.record_text.specs.declared.record.Record.{Record}

pub record HasLogNumbers (log : AppLog) : Type 0 where
  pub takes : AllByRecursion IsTake log.takes
  pub images : AllByRecursion AreWords log.images
  pub turn_count : length log.turns < 2 ^ 64
  pub turns : AllByRecursion IsTurn log.turns

pub record HasNumbers (r : Record) : Type 0 where
  pub cycles : r.cycles < 2 ^ 32
  pub apps : AllByRecursion HasLogNumbers r.apps
  pub row_count : length r.journal < 2 ^ 64
  pub rows : AllByRecursion HasRange r.journal
