-- A plant's file is read as that plant, and what is read so is its file.
use Rattle.std.proofs.Common.{◌≡◌, ℕ, List, Option, Some, None, Result, Ok, Err, IfOk, refl, sym, ◌∙◌, ap, subst}
use Rattle.irt_base.specs.declared.plants.Plant.{Plant}
use Rattle.plant_shape.specs.Shape.{ShapeRefusal, shape_of}
use Rattle.plant_shape.specs.Shape as shapes
use Rattle.plant_shape.specs.declared.raw.RawPlant.{RawPlant}
use Rattle.irt_topo.specs.Stated.{stated_plant}
use Rattle.irt_topo.specs.Rules.{first_failure}
use Rattle.plant_rules.specs.Meets.{MeetsRules}
use Rattle.irt_topo.specs.Reading.{PlantRefusal, judged, judged_shape, plant_of, IsPlantAnswer, IsPlantDocument}
use Rattle.irt_topo.specs.declared.rules.Rule.{Rule}
use Rattle.irt_topo.specs.declared.fault.PlantFault.{PlantFault}
use Rattle.irt_topo.proofs.Meeting.{MeetsRules-from_none, first_failure-from_MeetsRules}

abbrev stated_ok : Plant → Result Plant PlantRefusal
stated_ok p = Ok p

plant_or : Plant → Result Plant PlantRefusal → Plant
plant_or other (Ok p) = p
plant_or other (Err e) = other

same_ok : (q p : Plant) → stated_ok q ≡ stated_ok p → q ≡ p
unfolding plant_or
same_ok q p e = ap (plant_or q) e

judged_ok : (q p : Plant) (failure : Option (Rule × ℕ)) → judged q failure ≡ Ok p → (q ≡ p) × (failure ≡ None)
judged_ok q p None e = (same_ok q p e, refl)
judged_ok q p (Some failure) e = absurd cc

shape_ok : (bytes : List ℕ) (p : Plant) (shape : Result RawPlant ShapeRefusal) → shape_of bytes ≡ shape → judged_shape shape ≡ Ok p
    → IsPlantDocument bytes p
shape_ok bytes p (Ok raw) is e =
    let (same, none) = judged_ok (stated_plant raw) p (first_failure (stated_plant raw)) e in
    record {
      raw = raw;
      shape = is;
      stated = same;
      rules = subst MeetsRules same (MeetsRules-from_none (stated_plant raw) none);
    }
shape_ok bytes p (Err shapes.not_toml) is e = absurd cc
shape_ok bytes p (Err shapes.no_shape) is e = absurd cc

pub document-from_plant_of : (bytes : List ℕ) (p : Plant) → plant_of bytes ≡ Ok p → IsPlantDocument bytes p
document-from_plant_of bytes p e = shape_ok bytes p (shape_of bytes) refl e

judged_none : (p : Plant) (failure : Option (Rule × ℕ)) → failure ≡ None → judged p failure ≡ Ok p
judged_none p None e = refl
judged_none p (Some failure) e = absurd cc

pub plant_of-document : (bytes : List ℕ) (p : Plant) → IsPlantDocument bytes p → plant_of bytes ≡ Ok p
plant_of-document bytes p d =
    let meets : MeetsRules (stated_plant d.raw) = subst MeetsRules (sym d.stated) d.rules in
    ap judged_shape d.shape
    ∙ judged_none (stated_plant d.raw) (first_failure (stated_plant d.raw)) (first_failure-from_MeetsRules (stated_plant d.raw) meets)
    ∙ ap stated_ok d.stated

pub document_read : (bytes : List ℕ) (r : Result Plant PlantFault) → IsPlantAnswer r (plant_of bytes) → IfOk r (IsPlantDocument bytes)
document_read bytes (Ok p) h = document-from_plant_of bytes p h
document_read bytes (Err e) h = tt

pub rules_met : (bytes : List ℕ) (r : Result Plant PlantFault) → IsPlantAnswer r (plant_of bytes) → IfOk r MeetsRules
rules_met bytes (Ok p) h = (document-from_plant_of bytes p h).rules
rules_met bytes (Err e) h = tt

pub only_plant : (bytes : List ℕ) (r : Result Plant PlantFault) → IsPlantAnswer r (plant_of bytes) → (p : Plant) → IsPlantDocument bytes p → IsPlantAnswer r (Ok p)
only_plant bytes r h p d = let P : Result Plant PlantRefusal → Type 0 = λ stated. IsPlantAnswer r stated in subst P (plant_of-document bytes p d) h
