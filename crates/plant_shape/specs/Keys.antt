-- Which keys each table of a plant file may have.
use Rattle.std.specs.Prelude.{codes, ℕ, Bool, true, ◌&&◌, List, [], ◌∷◌, bytes_eq}
use Rattle.std.specs.List.{list_any}
use Rattle.toml.specs.Data.{Members, no_members, member}
use Rattle.plant_shape.specs.declared.keys.TableKind.{TableKind}
use Rattle.plant_shape.specs.declared.keys.TableKind.TheVariants as kinds

-- the keys of each kind of table
abbrev pub keys_of : TableKind → List (List ℕ)
keys_of kinds.Top =
    codes "factor" ∷ codes "window" ∷ codes "red_max" ∷ codes "orange" ∷ codes "clocks" ∷ codes "sync"
    ∷ codes "device" ∷ codes "link" ∷ codes "demand" ∷ codes "traffic" ∷ codes "app" ∷ []
keys_of kinds.Sync = codes "send" ∷ codes "timeout" ∷ codes "drift" ∷ codes "stamp" ∷ codes "loss" ∷ []
keys_of kinds.Device = codes "name" ∷ codes "mode" ∷ codes "bmin" ∷ codes "bmax" ∷ codes "ports" ∷ []
keys_of kinds.Link = codes "from" ∷ codes "to" ∷ codes "from_port" ∷ codes "to_port" ∷ codes "delay" ∷ []
keys_of kinds.Demand = codes "frame" ∷ codes "from" ∷ codes "to" ∷ codes "length" ∷ codes "update" ∷ []
keys_of kinds.Traffic =
    codes "from" ∷ codes "to" ∷ codes "class" ∷ codes "length" ∷ codes "every" ∷ codes "count" ∷ []
keys_of kinds.App = codes "device" ∷ codes "kind" ∷ codes "param" ∷ []

abbrev pub is_key : TableKind → List ℕ → Bool
is_key kind key = list_any (bytes_eq key) (keys_of kind)

-- each key of the table is one of its kind's
abbrev pub all_known : TableKind → Members → Bool
all_known kind no_members = true
all_known kind (member key value rest) = is_key kind key && all_known kind rest
