-- A file is refused exactly by what its refusal says.
use Rattle.std.proofs.Common.{◌≡◌, ℕ, List, Option, Some, None, Result, Ok, Err, IfErr, inl, inr, refl, sym, ◌∙◌, ap, subst}
use Rattle.toml.specs.Data.{Members}
use Rattle.irt_base.specs.declared.plants.Plant.{Plant}
use Rattle.plant_rules.specs.Meets.{MeetsRules}
use Rattle.plant_rules.specs.Rules.{FailsFirst}
use Rattle.plant_shape.specs.Shape.{ShapeRefusal, document_of, document_shape, table_shape, raw_plant, shape_of}
use Rattle.plant_shape.specs.Shape as shapes
use Rattle.plant_shape.specs.declared.raw.RawPlant.{RawPlant}
use Rattle.irt_topo.specs.Stated.{stated_plant, in_two_bytes}
use Rattle.irt_topo.specs.Rules.{first_failure, number_of}
use Rattle.irt_topo.specs.Reading.{PlantRefusal, not_toml, breaks, judged, judged_shape, plant_of, IsPlantAnswer, IsFaultOf, IsRefusal, LacksShape, StatesFailing}
use Rattle.irt_topo.specs.declared.rules.Rule.{Rule}
use Rattle.irt_topo.specs.declared.fault.PlantFault.{PlantFault}
use Rattle.irt_topo.specs.declared.fault.PlantFault.TheVariants as faults
use Rattle.irt_topo.proofs.Meeting.{MeetsRules-from_none}
use Rattle.irt_topo.proofs.FirstFailure.{failure_is_first, keeps_all, one_failure}

abbrev refused : PlantRefusal → Result Plant PlantRefusal
refused r = Err r

refusal_or : PlantRefusal → Result Plant PlantRefusal → PlantRefusal
refusal_or other (Ok p) = other
refusal_or other (Err r) = r

same_refusal : (q r : PlantRefusal) → refused q ≡ refused r → q ≡ r
unfolding refusal_or
same_refusal q r e = ap (refusal_or q) e

plant_case : (bytes : List ℕ) (raw : RawPlant) → shape_of bytes ≡ Ok raw → (f : Option (Rule × ℕ)) → first_failure (stated_plant raw) ≡ f
    → (r : PlantRefusal) → judged (stated_plant raw) f ≡ Err r → IsRefusal bytes r
plant_case bytes raw shape None is r e = absurd cc
plant_case bytes raw shape (Some g) is r e =
    subst (IsRefusal bytes) (same_refusal (breaks (number_of g.0) (in_two_bytes g.1)) r e)
    (inr (record { raw = raw; shape = shape; place = g.1; named = refl; fails = failure_is_first (stated_plant raw) g is }))

table_case : (bytes : List ℕ) (ms : Members) → document_of bytes ≡ Some ms → (read : Option RawPlant) → raw_plant ms ≡ read
    → (r : PlantRefusal) → judged_shape (table_shape read) ≡ Err r → IsRefusal bytes r
table_case bytes ms at None is r e =
    subst (IsRefusal bytes) (same_refusal (breaks 1 0) r e)
    (inl (record { members = ms; document = at; shapeless = is }, refl, refl))
table_case bytes ms at (Some raw) is r e =
    plant_case bytes raw (ap document_shape at ∙ ap table_shape is) (first_failure (stated_plant raw)) refl r e

document_case : (bytes : List ℕ) (document : Option Members) → document_of bytes ≡ document
    → (r : PlantRefusal) → judged_shape (document_shape document) ≡ Err r → IsRefusal bytes r
document_case bytes None at r e = subst (IsRefusal bytes) (same_refusal not_toml r e) at
document_case bytes (Some ms) at r e = table_case bytes ms at (raw_plant ms) refl r e

pub refusal-from_plant_of : (bytes : List ℕ) (r : PlantRefusal) → plant_of bytes ≡ Err r → IsRefusal bytes r
refusal-from_plant_of bytes r e = document_case bytes (document_of bytes) refl r e

failing_case : (p : Plant) (number place : ℕ) → FailsFirst p number place → (f : Option (Rule × ℕ)) → first_failure p ≡ f
    → judged p f ≡ Err (breaks number (in_two_bytes place))
failing_case p number place fails None is = absurd (fails.fails (keeps_all p (MeetsRules-from_none p is) number place))
failing_case p number place fails (Some g) is =
    let same = one_failure p (number_of g.0) number g.1 place (failure_is_first p g is) fails in
    ap (λ n. refused (breaks n (in_two_bytes g.1))) same.0 ∙ ap (λ k. refused (breaks number (in_two_bytes k))) same.1

pub plant_of-refusal : (bytes : List ℕ) (r : PlantRefusal) → IsRefusal bytes r → plant_of bytes ≡ Err r
plant_of-refusal bytes not_toml h = ap (λ d. judged_shape (document_shape d)) h
plant_of-refusal bytes (breaks number index) (inl (lacks, first, zeroth)) =
    ap judged_shape (ap document_shape lacks.document ∙ ap table_shape lacks.shapeless)
    ∙ ap (λ n. refused (breaks n 0)) (sym first) ∙ ap (λ k. refused (breaks number k)) (sym zeroth)
plant_of-refusal bytes (breaks number index) (inr s) =
    ap judged_shape s.shape ∙ failing_case (stated_plant s.raw) number s.place s.fails (first_failure (stated_plant s.raw)) refl
    ∙ ap (λ k. refused (breaks number k)) s.named

pub fault_read : (bytes : List ℕ) (r : Result Plant PlantFault) → IsPlantAnswer r (plant_of bytes) → IfErr r (IsFaultOf bytes)
fault_read bytes (Ok p) h = tt
fault_read bytes (Err faults.NoMemory) h = tt
fault_read bytes (Err faults.NotToml) h = refusal-from_plant_of bytes not_toml h
fault_read bytes (Err (faults.Rule number index)) h = refusal-from_plant_of bytes (breaks number index) h

pub only_refusal : (bytes : List ℕ) (r : Result Plant PlantFault) → IsPlantAnswer r (plant_of bytes) → (refusal : PlantRefusal)
    → IsRefusal bytes refusal → IsPlantAnswer r (Err refusal)
only_refusal bytes r h refusal is =
    let P : Result Plant PlantRefusal → Type 0 = λ stated. IsPlantAnswer r stated in
    subst P (plant_of-refusal bytes refusal is) h
