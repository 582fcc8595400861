use Rattle.std.proofs.Common.{ap, string_bytes}
use Rattle.std.proofs.lemmas.Str.{IsUtf8-had}
use Rattle.toml.specs.View.{table_view}
use Rattle.plant_print.proofs.Documents.{printed_text}
use Rattle.plant_print.proofs.print.print_plant.Goals as goal

pub returns-in-Ok : goal.returns-in-Ok
returns-in-Ok c =
    printed_text c.args.plant.now (string_bytes c.in-Ok.text) c.into_bytes.result.items (table_view c.in_ok-table.table) c.requires
    c.in_ok-table.ensures.small (IsUtf8-had _ c.in-Ok.text.ok) c.in_ok-table.ensures.table c.in-Ok.ensures.reads_back
    (ap (λ v. v.items) c.into_bytes.ensures.value)
