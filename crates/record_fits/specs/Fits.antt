-- Which records fit a plant.
use Rattle.irt_base.specs.declared.plants.Plant.{Plant}
use Rattle.record_laws.specs.Fitting.{IsRecordOf}
use Rattle.record_text.specs.Text.{run_of}
use Rattle.record_text.specs.declared.record.Record.{Record}

-- The record is one of the plant's, of its own number of cycles: it has a log for each app, a take and an image for each
-- cycle, its rows stand by cycle and name devices of the plant, and its numbers are of the types that hold them.
abbrev pub FitsPlant : Plant → Record → Type 0
FitsPlant plant r = IsRecordOf plant r.cycles (run_of r)
