-- The printed text is the plant's file.
use Rattle.std.proofs.Common.{◌≡◌, ◌≤◌, ℕ, List, Some, IsUtf8, ap, sym, subst, ◌∙◌}
use Rattle.toml.specs.Data.{Members, members_depth}
use Rattle.plant_print.proofs.Depth.{plant_shallow}
use Rattle.toml.specs.Parse.{parse_document}
use Rattle.irt_base.specs.declared.plants.Plant.{Plant}
use Rattle.plant_shape.specs.Shape.{document_shape, table_shape}
use Rattle.plant_shape.proofs.Documents.{document_some}
use Rattle.plant_rules.specs.Meets.{MeetsRules}
use Rattle.irt_topo.specs.Reading.{IsPlantDocument}
use Rattle.plant_print.specs.Printed.{printed_plant}
use Rattle.plant_print.specs.Written.{plant_members, HasWordFields}
use Rattle.plant_print.proofs.Reread.{plant_reads}
use Rattle.plant_print.proofs.Restated.{plant_back, links_fit}

pub printed_document : (bytes : List ℕ) (p : Plant) → MeetsRules p → HasWordFields p → IsUtf8 bytes → parse_document bytes ≡ Some (plant_members p)
    → IsPlantDocument bytes p
printed_document bytes p m small text parsed =
    record {
      raw = printed_plant p;
      shape = ap document_shape (document_some bytes (plant_members p) text parsed)
          ∙ ap table_shape (plant_reads p m small.loss (links_fit p m) small.updates small.params);
      stated = plant_back p m;
      rules = m;
    }

-- the same, of a table that is the plant's, and of bytes that are the text's
pub printed_text : (p : Plant) (bytes out : List ℕ) (ms : Members) → MeetsRules p → HasWordFields p → IsUtf8 bytes → ms ≡ plant_members p
    → (members_depth ms ≤ 80 → parse_document bytes ≡ Some ms) → out ≡ bytes → IsPlantDocument out p
printed_text p bytes out ms m small text same reads is =
    let P : Members → Type 0 = λ t. members_depth t ≤ 80 → parse_document bytes ≡ Some t in
    let Q : List ℕ → Type 0 = λ b. IsPlantDocument b p in
    subst Q (sym is) (printed_document bytes p m small text (subst P same reads (plant_shallow p)))
