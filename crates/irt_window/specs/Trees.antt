-- What is answered on rule V2 of a plan.
use Rattle.std.specs.Prelude.{◌≡◌, ◌≢◌, ℕ, ◌<◌, List, [], Option, Some, None, length, map, slice_index_or}
use Rattle.irt_base.specs.declared.blocks.Bundle.{Bundle}
use Rattle.irt_base.specs.declared.plants.Plant.{Plant}
use Rattle.plan_rules.specs.Tree.{AreTrees}
use Rattle.plan_rules.specs.Frames.{IsTreeAt}
use Rattle.plan_rules.specs.Places.{IsLeastBreak}
use Rattle.plan_rules.specs.Plan.{setup_of}
use Rattle.plan_rules.specs.Ways.{AreWays}
use Rattle.plan_rules.specs.declared.way.Way.{Way}
use Rattle.irt_window.specs.Marks.{way_in}
use Rattle.irt_window.specs.declared.windows.Windows.{Windows}
use Rattle.irt_window.specs.declared.windows.Trees.{Trees}
use Rattle.irt_window.specs.declared.windows.Trees.TheVariants.{Whole, Broken}

-- each entry has a way
abbrev pub AreFound : List (List (Option Way)) → Type 0
AreFound rows = (device n : ℕ) → device < length rows → n < length (slice_index_or rows device []) → way_in rows device n ≢ None

-- the ways, without the options
abbrev pub AreRowsOf : List (List (Option Way)) → List (List Way) → Type 0
AreRowsOf rows ways = map (λ (row : List Way). map (λ (way : Way). Some way) row) ways ≡ rows

-- the entries of a plan, and their ways
pub record AreWindows (plant : Plant) (bundles : List Bundle) (w : Windows) : Type 0 where
  pub entries : w.entries ≡ map (λ (b : Bundle). b.frames.entries) bundles
  pub ways : AreWays plant bundles w.ways

-- V2 holds everywhere, and these are the ways; or it fails, first at this place.
abbrev pub IsTreeAnswer : Plant → List Bundle → Trees → Type 0
IsTreeAnswer plant bundles (Whole w) = AreTrees (setup_of plant bundles) × AreWindows plant bundles w
IsTreeAnswer plant bundles (Broken at) = IsLeastBreak (IsTreeAt plant bundles) at
