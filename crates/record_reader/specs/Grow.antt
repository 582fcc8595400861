-- What a record has of the apps, and one line more.
use Rattle.std.specs.Prelude.{ℕ, ◌==◌, if◌then◌else◌, List, [], ◌∷◌, map}
use Rattle.irt_base.specs.declared.plants.App.{App}
use Rattle.irt_base.specs.declared.plants.Plant.{Plant}
use Rattle.iso_rules.specs.Lockstep.{AppLog}
use Rattle.record_laws.specs.Lines.{log_in}
use Rattle.record_laws.specs.declared.line.Line.{Line}
use Rattle.record_laws.specs.declared.line.Line.TheVariants as says
use Rattle.record_text.specs.Grown.{with_image, with_take, with_turn}

-- the log of the first app on a device is changed
abbrev pub with_log : List App → ℕ → (AppLog → AppLog) → List AppLog → List AppLog
with_log [] device change logs = logs
with_log (a ∷ apps) device change [] = []
with_log (a ∷ apps) device change (log ∷ logs) =
    if a.device.0 == device then change log ∷ logs else log ∷ with_log apps device change logs

abbrev pub with_line : Plant → List AppLog → Line → List AppLog
with_line plant logs (says.Take k device g) = with_log plant.apps device.0 (λ log. with_take log g) logs
with_line plant logs (says.Row r) = logs
with_line plant logs (says.Image k device words) = with_log plant.apps device.0 (λ log. with_image log words) logs
with_line plant logs (says.Turn device number t) = with_log plant.apps device.0 (λ log. with_turn log t) logs
with_line plant logs (says.Last cycles occupied delivered dropped) = logs

-- what some lines say of each app
abbrev pub logs_in : Plant → List Line → List AppLog
logs_in plant lines = map (λ (a : App). log_in lines a.device.0) plant.apps
