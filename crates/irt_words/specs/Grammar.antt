-- The command `irt` as `clap` has it: one level of subcommands, whose arguments are positionals but for `--world`.
use Rattle.std.specs.Prelude.{◌≡◌, List, [], ◌∷◌, ◌++◌, map, codes, Some, true, false}
use Rattle.clap.specs.Words.{App, Rule, Shape, Text, new_rule, app_of}
use Rattle.clap.specs.declared.builder.command.Command.{Command}
use Rattle.clap.specs.declared.builder.command.Command.TheViews.{out-Command}
use Rattle.clap.specs.Simple.{new_shape}

-- an argument that must be there
abbrev pub required : Text → Rule
required name = record (new_rule name) { required = true }

abbrev pub required_all : List Text → List Rule
required_all names = map required names

abbrev pub seed_rule : Rule
seed_rule = new_rule (codes "seed")

-- the option `--world`, with one value
abbrev pub world_rule : Rule
world_rule = record (new_rule (codes "world")) { long = Some (codes "world") }

-- a subcommand with these arguments
abbrev pub subcommand : Text → List Rule → Shape
subcommand name rules = record (new_shape name) { rules = rules }

abbrev pub plant_rules : List Rule
plant_rules = required_all (codes "plant" ∷ [])

abbrev pub seeded_rules : List Rule
seeded_rules = required_all (codes "plant" ∷ codes "cycles" ∷ codes "seed" ∷ [])

abbrev pub run_rules : List Rule
run_rules = required_all (codes "plant" ∷ codes "cycles" ∷ []) ++ seed_rule ∷ world_rule ∷ []

abbrev pub gen_rules : List Rule
gen_rules = required_all (codes "seed" ∷ codes "devices" ∷ codes "frames" ∷ codes "name" ∷ [])

-- the subcommands of one file
abbrev pub short_subcommands : List Shape
short_subcommands =
    subcommand (codes "plan") plant_rules
    ∷ subcommand (codes "check") plant_rules
    ∷ subcommand (codes "show") (required_all (codes "file" ∷ []))
    ∷ []

abbrev pub run_subcommands : List Shape
run_subcommands = subcommand (codes "sync") seeded_rules ∷ subcommand (codes "run") run_rules ∷ []

abbrev pub other_subcommands : List Shape
other_subcommands = subcommand (codes "gen") gen_rules ∷ subcommand (codes "free") seeded_rules ∷ []

-- The words begin with a subcommand's name, which must be there. There is no help and no version.
abbrev pub irt_shape : Shape
irt_shape = record (new_shape (codes "irt")) {
  no_binary_name = true;
  disable_help_flag = true;
  disable_help_subcommand = true;
  disable_version_flag = true;
  subcommand_required = true;
}

abbrev pub bare_app : App
bare_app = record { top = irt_shape; subs = [] }

abbrev pub app_with : List Shape → App
app_with subs = record { top = record irt_shape { is_leaf = false }; subs = subs }

abbrev pub short_app : App
short_app = app_with short_subcommands

abbrev pub run_app : App
run_app = app_with (short_subcommands ++ run_subcommands)

abbrev pub irt_app : App
irt_app = app_with (short_subcommands ++ run_subcommands ++ other_subcommands)

-- a command without subcommands has this shape
pub record IsLeaf (command : Command) (shape : Shape) : Type 0 where
  pub app : app_of command ≡ record { top = shape; subs = [] }
  pub local : (out-Command command).has_globals ≡ false
