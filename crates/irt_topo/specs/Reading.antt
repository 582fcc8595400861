-- What a plant file is read as, and why one is refused.
use Rattle.std.specs.Prelude.{◌≡◌, ℕ, ◌⊎◌, Option, Some, None, Result, Ok, Err, ⊤, List}
use Rattle.toml.specs.Data.{Members}
use Rattle.irt_base.specs.declared.plants.Plant.{Plant}
use Rattle.plant_rules.specs.Meets.{MeetsRules}
use Rattle.plant_rules.specs.Rules.{FailsFirst}
use Rattle.plant_shape.specs.Shape.{ShapeRefusal, document_of, raw_plant, shape_of}
use Rattle.plant_shape.specs.Shape as shapes
use Rattle.plant_shape.specs.declared.raw.RawPlant.{RawPlant}
use Rattle.irt_topo.specs.Stated.{stated_plant, in_two_bytes}
use Rattle.irt_topo.specs.Rules.{first_failure, number_of}
use Rattle.irt_topo.specs.declared.rules.Rule.{Rule}
use Rattle.irt_topo.specs.declared.fault.PlantFault.{PlantFault}
use Rattle.irt_topo.specs.declared.fault.PlantFault.TheVariants as faults

-- Why bytes are no plant's file: they are no TOML document, or they break a rule, by number, at an index.
pub data PlantRefusal : Type 0 where
  not_toml : PlantRefusal
  breaks : ℕ → ℕ → PlantRefusal

-- the file is a TOML document with the shape of a plant, which states this plant, and that meets the rules
pub record IsPlantDocument (bytes : List ℕ) (p : Plant) : Type 0 where
  pub raw : RawPlant
  pub shape : shape_of bytes ≡ Ok raw
  pub stated : stated_plant raw ≡ p
  pub rules : MeetsRules p

-- P1 fails: the file is a TOML document without the keys, types and choices of a plant
pub record LacksShape (bytes : List ℕ) : Type 0 where
  pub members : Members
  pub document : document_of bytes ≡ Some members
  pub shapeless : raw_plant members ≡ None

-- The file has the shape of a plant, and the plant that it states fails this rule first, at an index that is
-- named as 65535 where it is greater.
pub record StatesFailing (bytes : List ℕ) (number index : ℕ) : Type 0 where
  pub raw : RawPlant
  pub shape : shape_of bytes ≡ Ok raw
  pub place : ℕ
  pub named : in_two_bytes place ≡ index
  pub fails : FailsFirst (stated_plant raw) number place

-- what a refusal says of the bytes
abbrev pub IsRefusal : List ℕ → PlantRefusal → Type 0
IsRefusal bytes not_toml = document_of bytes ≡ None
IsRefusal bytes (breaks number index) =
    (LacksShape bytes × (number ≡ 1) × (index ≡ 0)) ⊎ StatesFailing bytes number index

-- what a fault says of the bytes
abbrev pub IsFaultOf : List ℕ → PlantFault → Type 0
IsFaultOf bytes faults.NoMemory = ⊤
IsFaultOf bytes faults.NotToml = IsRefusal bytes not_toml
IsFaultOf bytes (faults.Rule number index) = IsRefusal bytes (breaks number index)

-- The same as a function of the bytes: the plant, or the refusal.
abbrev pub judged : Plant → Option (Rule × ℕ) → Result Plant PlantRefusal
judged p None = Ok p
judged p (Some failure) = Err (breaks (number_of failure.0) (in_two_bytes failure.1))

abbrev pub judged_shape : Result RawPlant ShapeRefusal → Result Plant PlantRefusal
judged_shape (Ok raw) = judged (stated_plant raw) (first_failure (stated_plant raw))
judged_shape (Err shapes.not_toml) = Err not_toml
judged_shape (Err shapes.no_shape) = Err (breaks 1 0)

abbrev pub plant_of : List ℕ → Result Plant PlantRefusal
plant_of bytes = judged_shape (shape_of bytes)

-- an answer is the one that is stated, or want of memory
abbrev pub IsPlantAnswer : Result Plant PlantFault → Result Plant PlantRefusal → Type 0
IsPlantAnswer (Ok p) stated = stated ≡ Ok p
IsPlantAnswer (Err faults.NoMemory) stated = ⊤
IsPlantAnswer (Err faults.NotToml) stated = stated ≡ Err not_toml
IsPlantAnswer (Err (faults.Rule number index)) stated = stated ≡ Err (breaks number index)
