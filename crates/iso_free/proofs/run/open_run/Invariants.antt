use Rattle.std.proofs.Common.{map}
use Rattle.std.specs.Prelude.{Some}
use Rattle.io_buffers.specs.Passes.{table_of}
use Rattle.iso_free.proofs.run.open_run.Given as goal

abbrev pub ghosts-run_named-N-Naming : goal.ghosts-run_named-N-Naming
ghosts-run_named-N-Naming g a = record {
  inputs = map (λ o. table_of o.input.exchange) a.openings.items;
  outputs = map (λ o. table_of o.output.exchange) a.openings.items;
  start = Some a.plant;
}

abbrev pub ghosts-run_named-N-Firsts : goal.ghosts-run_named-N-Firsts
ghosts-run_named-N-Firsts g a = record { firsts = map (λ o. o.app) a.openings.items }
