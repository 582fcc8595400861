-- Lines whose numbers are of the types that hold them, and whose words are as many as the plant gives.
use Rattle.std.specs.Prelude.{◌≡◌, ◌^◌, ◌<◌, length}
use Rattle.irt_base.specs.declared.plants.Plant.{Plant}
use Rattle.record_laws.specs.Fitting.{AreWords, IsRowOf, IsTake, IsTurn}
use Rattle.record_laws.specs.declared.line.Line.{Line}
use Rattle.record_laws.specs.declared.line.Line.TheVariants as says
use Rattle.record_reader.specs.Reading.{input_words, output_words}

abbrev pub IsRightLine : Plant → Line → Type 0
IsRightLine plant (says.Take k device g) =
    (k < 2 ^ 32) × (device.0 < length plant.devices) × IsTake g × (length g.words ≡ output_words plant device)
IsRightLine plant (says.Row r) = IsRowOf plant (2 ^ 32) r
IsRightLine plant (says.Image k device words) =
    (k < 2 ^ 32) × (device.0 < length plant.devices) × AreWords words × (length words ≡ input_words plant device)
IsRightLine plant (says.Turn device number t) =
    (device.0 < length plant.devices) × (number < 2 ^ 64) × IsTurn t × (length t.input ≡ input_words plant device)
    × (length t.output ≡ output_words plant device)
IsRightLine plant (says.Last cycles occupied delivered dropped) =
    (cycles < 2 ^ 32) × (occupied < 2 ^ 64) × (delivered < 2 ^ 64) × (dropped < 2 ^ 64)
