-- How long the frame of a demand is.
use Rattle.std.specs.Prelude.{ℕ, option_map, unwrap_or}
use Rattle.irt_base.specs.declared.plants.Demand.{Demand}
use Rattle.irt_base.specs.declared.plants.Plant.{Plant}
use Rattle.plan_rules.specs.Tree.{demand_of}

-- the bytes of data that are demanded of a frame, 0 where it is not demanded
abbrev pub bytes_of : Plant → ℕ → ℕ
bytes_of plant frame = unwrap_or (option_map (λ (d : Demand). d.length) (demand_of plant frame)) 0
