-- What a free run leaves is a record of the freely going run.
use Rattle.std.proofs.Common.{◌≡◌, ℕ, List, length, Result, Ok, Err, IfOk, subst}
use Rattle.irt_base.specs.declared.blocks.Bundle.{Bundle}
use Rattle.irt_base.specs.declared.numbers.PortNo.{PortNo}
use Rattle.irt_base.specs.declared.plants.Plant.{Plant}
use Rattle.irt_world.specs.Rows.{world_rows}
use Rattle.irt_world.specs.declared.rows.World.{World}
use Rattle.iso_app.specs.Kinds.{reply_of}
use Rattle.iso_app.specs.declared.kinds.AppKind.{AppKind}
use Rattle.iso_rules.specs.Legal.{IsLegal}
use Rattle.iso_run.specs.Run.{IsRunJournal}
use Rattle.plan_rules.specs.Plan.{setup_of}
use Rattle.plan_run.specs.Run.{freely, IsLegalRecord, IsRunText, kinds_of, next_kind, text_of}
use Rattle.record_fits.specs.Fits.{FitsPlant}
use Rattle.record_text.specs.Text.{run_of}
use Rattle.record_text.specs.declared.record.Record.{Record}

pub legal_record : (plant : Plant) (bundles : List Bundle) (walks : List (List PortNo)) (world : World) (firsts : List AppKind) (r : Record) → firsts ≡ kinds_of plant →
    r.cycles ≡ length world.rows →
    IsLegal reply_of next_kind (setup_of plant bundles) (world_rows plant bundles world) firsts (IsRunJournal plant bundles walks world) (run_of r) →
    IsLegalRecord plant bundles walks world r
legal_record plant bundles walks world firsts r are cycles legal = record {
  cycles = cycles;
  legal = subst (λ (fs : List AppKind). IsLegal reply_of next_kind (setup_of plant bundles) (world_rows plant bundles world) fs (IsRunJournal plant bundles walks world) (run_of r)) are legal;
}

-- the text of that record is a free run's
pub free_text : {V E : Type 0} (items : V → List ℕ) (plant : Plant) (bundles : List Bundle) (walks : List (List PortNo)) (world : World) (r : Record) (result : Result V E) →
    IsLegalRecord plant bundles walks world r → IfOk result (λ v. items v ≡ text_of plant r) → FitsPlant plant r →
    IfOk result (λ v. IsRunText freely plant bundles walks world (items v))
free_text items plant bundles walks world r (Err e) is says fits = tt
free_text items plant bundles walks world r (Ok v) is says fits = record { log = r; is_record = is; fits = fits; says = says }
