-- The lines that the commands print. Each ends with a line feed.
use Rattle.std.specs.Prelude.{ℕ, List, [], ◌∷◌, ◌++◌, codes, decimal}
use Rattle.irt_base.specs.Text.{frame_text}
use Rattle.irt_block.specs.declared.fault.BlockKind.{BlockKind}
use Rattle.irt_block.specs.declared.fault.BlockKind.TheVariants as kinds
use Rattle.irt_block.specs.declared.fault.BlockFault.{BlockFault}
use Rattle.irt_topo.specs.Reading.{PlantRefusal, not_toml, breaks}

abbrev pub usage_line : List ℕ
usage_line = codes "usage\n"

abbrev pub not_toml_line : List ℕ
not_toml_line = codes "plant not toml\n"

-- the first rule that fails, and its least index: `plant P13 0`
abbrev pub rule_line : ℕ → ℕ → List ℕ
rule_line number index = codes "plant P" ++ decimal number ++ 32 ∷ [] ++ decimal index ++ 10 ∷ []

-- why bytes are no plant's file
abbrev pub refusal_line : PlantRefusal → List ℕ
refusal_line not_toml = not_toml_line
refusal_line (breaks number index) = rule_line number index

abbrev pub kind_text : BlockKind → List ℕ
kind_text kinds.NoMemory = codes "NoMemory"
kind_text kinds.Short = codes "Short"
kind_text kinds.BadType = codes "BadType"
kind_text kinds.BadLength = codes "BadLength"
kind_text kinds.BadVersion = codes "BadVersion"
kind_text kinds.BadPad = codes "BadPad"
kind_text kinds.BadValue = codes "BadValue"
kind_text kinds.Trailing = codes "Trailing"

-- what is wrong with a device file, and where: `malformed a.ird 150 BadValue`
abbrev pub malformed_line : List ℕ → BlockFault → List ℕ
malformed_line name fault = codes "malformed " ++ name ++ 32 ∷ [] ++ decimal fault.offset ++ 32 ∷ [] ++ kind_text fault.kind ++ 10 ∷ []

abbrev pub accept_line : List ℕ
accept_line = codes "ACCEPT\n"

-- a frame and its first receiver to which no walk leads: `unreachable 0x0100 b`
abbrev pub unreachable_line : ℕ → List ℕ → List ℕ
unreachable_line frame device = codes "unreachable " ++ frame_text frame ++ 32 ∷ [] ++ device ++ 10 ∷ []

-- the first traffic entry without a walk: `no path 0`
abbrev pub no_path_line : ℕ → List ℕ
no_path_line traffic = codes "no path " ++ decimal traffic ++ 10 ∷ []

-- the least device to which no walk leads from device 0: `no clock b`
abbrev pub no_clock_line : List ℕ → List ℕ
no_clock_line device = codes "no clock " ++ device ++ 10 ∷ []

-- the first frame for which no phase has room: `overrun 0x0101`
abbrev pub overrun_line : ℕ → List ℕ
overrun_line frame = codes "overrun " ++ frame_text frame ++ 10 ∷ []

-- the check rule that fails and its place: `REJECT V7 a 1 0x0100 0x0000`
abbrev pub reject_line : ℕ → List ℕ → ℕ → ℕ → ℕ → List ℕ
reject_line rule device port frame other =
    codes "REJECT V" ++ decimal rule ++ 32 ∷ [] ++ device ++ 32 ∷ [] ++ decimal port ++ 32 ∷ [] ++ frame_text frame ++ 32 ∷ [] ++ frame_text other ++ 10 ∷ []

-- the first line and place at which a world file is wrong: `world 2 2`
abbrev pub world_line : ℕ → ℕ → List ℕ
world_line line place = codes "world " ++ decimal line ++ 32 ∷ [] ++ decimal place ++ 10 ∷ []

abbrev pub long_run_line : List ℕ
long_run_line = codes "run too long\n"
