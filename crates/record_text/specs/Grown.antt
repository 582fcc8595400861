-- What a record has of an app, and one item more.
use Rattle.std.specs.Prelude.{ℕ, List, [], ◌∷◌, ◌++◌}
use Rattle.io_buffers.specs.Given.{Given}
use Rattle.iso_rules.specs.Lockstep.{AppLog}
use Rattle.iso_rules.specs.declared.turn.Turn.{Turn}

abbrev pub with_take : AppLog → Given → AppLog
with_take log g = record { takes = log.takes ++ g ∷ []; images = log.images; turns = log.turns }

abbrev pub with_image : AppLog → List ℕ → AppLog
with_image log words = record { takes = log.takes; images = log.images ++ words ∷ []; turns = log.turns }

abbrev pub with_turn : AppLog → Turn → AppLog
with_turn log t = record { takes = log.takes; images = log.images; turns = log.turns ++ t ∷ [] }
