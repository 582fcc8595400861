-- What sync messages meet, looked up by device and message, and clocks by that.
use Rattle.std.specs.Prelude.{◌≡◌, ℕ, ◌<◌, ◌*◌, ◌==◌, ℤ, pos, if◌then◌else◌, List, length, Option, Some, None, option_and_then, slice_get, unwrap_or}
use Rattle.irt_base.specs.declared.numbers.DevId.{DevId}
use Rattle.sync_world.specs.Clocks.{is_silent}
use Rattle.sync_world.specs.Lines.{passage_of}
use Rattle.sync_world.specs.declared.clocks.Clock.{Clock}
use Rattle.sync_world.specs.declared.domain.Domain.{Domain}
use Rattle.sync_world.specs.declared.lines.LinePassages.{LinePassages}
use Rattle.sync_world.specs.declared.lines.Passage.{Passage}
use Rattle.sync_world.specs.declared.table.TheConstants.{NO_PASSAGE}

-- what a message meets at a device, by a table
abbrev pub passage_in : List LinePassages → ℕ → DevId → Passage
passage_in table sync v =
    unwrap_or (option_and_then (λ (l : LinePassages). slice_get l.passages sync) (slice_get table v.0)) NO_PASSAGE

-- the table has what a message meets at each device
abbrev pub IsTableAt : Domain → ℕ → List LinePassages → Type 0
IsTableAt domain sync table =
    (v : DevId) → v.0 < length domain.lines → passage_in table sync v ≡ passage_of domain v.0 sync

-- the table has what those messages meet that are sent in so many cycles
abbrev pub IsTable : Domain → ℕ → List LinePassages → Type 0
IsTable domain cycles table = (sync : ℕ) → sync * domain.send < cycles → IsTableAt domain sync table

-- the error of a device in a cycle by its clock, none where it is muted
abbrev pub heard_by : ℕ → Clock → ℕ → ℕ → Option ℤ
heard_by device clock cycle patience =
    if device == 0 then Some (pos 0) else
    if is_silent clock.heard cycle patience then None else
    Some clock.error
