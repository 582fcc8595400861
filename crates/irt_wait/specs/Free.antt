-- What `free` is asked for with.
use Rattle.std.specs.Prelude.{◌≡◌, Option, Some, None}
use Rattle.irt_top.specs.Commands.{calm_of}
use Rattle.irt_wait.specs.declared.FreeAsked.{FreeAsked}
use Rattle.irt_words.specs.Commands.{Command, free}

-- these are the arguments of `free`, where it is asked for
abbrev pub IsFreeOf : Option Command → Option FreeAsked → Type 0
IsFreeOf asked None = calm_of asked ≡ asked
IsFreeOf asked (Some f) = asked ≡ Some (free f.plant.now f.cycles f.seed)
