-- The document of bytes, from what the reader of tables says.
use Rattle.std.proofs.Common.{◌≡◌, Bool, true, false, cond, List, ℕ, Some, None, Ok, Err, Result, Option, IsUtf8, refl, ap}
use Rattle.std.proofs.lemmas.Str.{IsUtf8-from_is_utf8, is_utf8-from_IsUtf8}
use Rattle.std.specs.Str.{is_utf8}
use Rattle.toml.specs.Data.{Members}
use Rattle.toml.specs.Parse.{parse_document}
use Rattle.plant_shape.specs.declared.fault.ShapeFault.{ShapeFault}
use Rattle.plant_shape.specs.declared.fault.ShapeFault.TheVariants as faults
use Rattle.plant_shape.specs.declared.raw.RawPlant.{RawPlant}
use Rattle.plant_shape.specs.Shape.{Gives, IsShapeAnswer, document_of, table_shape, raw_plant, shape_of}

pub document_some : (bytes : List ℕ) (ms : Members) → IsUtf8 bytes → parse_document bytes ≡ Some ms → document_of bytes ≡ Some ms
document_some bytes ms text parsed = rw (is_utf8-from_IsUtf8 bytes text) parsed

none_where : (b : Bool) (read : Option Members) → (b ≡ true → read ≡ None) → cond b read None ≡ None
none_where true read h = h refl
none_where false read h = refl

pub document_none : (bytes : List ℕ) → (IsUtf8 bytes → parse_document bytes ≡ None) → document_of bytes ≡ None
document_none bytes refused =
    none_where (is_utf8 bytes) (parse_document bytes) (λ text. refused (IsUtf8-from_is_utf8 bytes text))

pub answers_table : (r : Result RawPlant ShapeFault) (read : Option RawPlant) → Gives r read → IsShapeAnswer r (table_shape read)
answers_table (Ok x) read h = ap table_shape h
answers_table (Err faults.NoMemory) read h = tt
answers_table (Err faults.NotToml) read h = absurd h
answers_table (Err faults.Shape) read h = ap table_shape h

pub answers_shape : (bytes : List ℕ) (ms : Members) (r : Result RawPlant ShapeFault) → IsUtf8 bytes → parse_document bytes ≡ Some ms
    → Gives r (raw_plant ms) → IsShapeAnswer r (shape_of bytes)
answers_shape bytes ms r text parsed given =
    rw (document_some bytes ms text parsed) (answers_table r (raw_plant ms) given)
