-- Ways of entries, found one by one.
use Rattle.std.specs.Prelude.{◌≡◌, ◌≢◌, ℕ, ◌+◌, ◌*◌, ◌^◌, ◌<◌, ◌≤◌, Bool, true, false, List, [], Option, Some, None, length, map, replicate, slice_get, slice_index_or, sum_by}
use Rattle.irt_base.specs.declared.limits.TheConstants.{MAX_DELAY, MAX_DEVICES, MAX_DEMANDS}
use Rattle.irt_base.specs.declared.blocks.Bundle.{Bundle}
use Rattle.irt_base.specs.declared.blocks.Entry.{Entry}
use Rattle.irt_base.specs.declared.plants.Demand.{Demand}
use Rattle.plan_rules.specs.Way.{Setup, IsParent}
use Rattle.plan_rules.specs.Tree.{demand_of, IsReached, AreTrees}
use Rattle.plan_rules.specs.SendWindow.{HasWindow}
use Rattle.plan_rules.specs.Ways.{window_of, IsComing}
use Rattle.plan_rules.specs.declared.way.Way.{Way}
use Rattle.irt_window.specs.Plans.{setup_in, Stands}
use Rattle.irt_window.specs.declared.net.Net.{Net}
use Rattle.irt_window.specs.declared.marks.Marks.{Marks}

-- the way of an entry by device and place, where one is found
abbrev pub way_in : List (List (Option Way)) → ℕ → ℕ → Option Way
way_in rows device n = slice_index_or (slice_index_or rows device []) n None

-- how many entries have no way yet
abbrev pub open_of : Option Way → ℕ
open_of None = 1
open_of (Some way) = 0

abbrev pub open_in : List (List (Option Way)) → ℕ
open_in rows = sum_by (λ (row : List (Option Way)). sum_by open_of row) rows

-- A time is at most an offset, and a hop and a bridge delay for each way that is found.
abbrev pub IsSmall : ℕ → ℕ → Type 0
IsSmall left time = time + 4 * MAX_DELAY * left ≤ 2 ^ 32 + 4 * MAX_DELAY * (MAX_DEVICES * MAX_DEMANDS)

-- a way beside its bounds
pub record IsSound (setup : Setup) (device : ℕ) (e : Entry) (way : Way) : Type 0 where
  pub sends : HasWindow setup e.frame.0 device (window_of way)
  pub coming : 1 ≤ e.rx_port → IsComing setup device e way
  pub provided : e.rx_port ≡ 0 → way.port.0 ≡ 0

-- An entry has a way: parents lead from it to the provider. Where the entries form trees, the way is its own.
pub record IsMarked (net : Net) (left device : ℕ) (e : Entry) (way : Way) : Type 0 where
  pub demand : Demand
  pub asked : demand_of net.plant.now e.frame.0 ≡ Some demand
  pub reached : IsReached (setup_in net) demand.provider.0 e.frame.0 device
  pub sound : AreTrees (setup_in net) → IsSound (setup_in net) device e way
  pub ordered : way.lo ≤ way.hi
  pub small : IsSmall left way.hi
  pub small_latest : IsSmall left way.latest

pub record AreMarks (net : Net) (marks : Marks) : Type 0 where
  pub count : length marks.rows.items ≡ length net.bundles.now
  pub counts : (device : ℕ) (b : Bundle) → slice_get net.bundles.now device ≡ Some b →
      length (slice_index_or marks.rows.items device []) ≡ length b.frames.entries
  pub each : (device n : ℕ) (e : Entry) (way : Way) → Stands net.bundles.now device n e → way_in marks.rows.items device n ≡ Some way →
      IsMarked net marks.left device e way
  pub left_is : marks.left ≡ open_in marks.rows.items
  pub few : marks.left ≤ MAX_DEVICES * MAX_DEMANDS

-- An entry that gets no way: its device does not provide the frame, and its parent's entry has none.
pub record IsStuck (net : Net) (rows : List (List (Option Way))) (device : ℕ) (e : Entry) : Type 0 where
  pub other : (demand : Demand) → demand_of net.plant.now e.frame.0 ≡ Some demand → device ≢ demand.provider.0
  pub behind : (demand : Demand) → demand_of net.plant.now e.frame.0 ≡ Some demand → (parent port m : ℕ) (from : Entry) →
      IsParent (setup_in net) e.frame.0 device e parent port → Stands net.bundles.now parent m from → from.frame.0 ≡ e.frame.0 →
      way_in rows parent m ≡ None

-- the new way of an entry, or none where it gets none
abbrev pub IsNewWay : Net → Marks → ℕ → Entry → Option Way → Type 0
IsNewWay net marks device e None = IsStuck net marks.rows.items device e
IsNewWay net marks device e (Some way) = (less : ℕ) → less + 1 ≡ marks.left → IsMarked net less device e way

-- an entry that has no way gets none
abbrev pub IsStuckAt : Net → Marks → ℕ → ℕ → Type 0
IsStuckAt net marks device n = (e : Entry) → Stands net.bundles.now device n e → way_in marks.rows.items device n ≡ None →
    IsStuck net marks.rows.items device e

-- Either some entry got a way, or all is as before, with these entries stuck.
abbrev pub IsStep : (Marks → Type 0) → Marks → Marks → Bool → Type 0
IsStep Stuck before after true = after.left < before.left
IsStep Stuck before after false = (after ≡ before) × Stuck after

-- no entry gets a way any more
abbrev pub AreStuck : Net → Marks → Type 0
AreStuck net marks = (device n : ℕ) → IsStuckAt net marks device n

-- none at this device does
abbrev pub IsDeviceStuck : Net → ℕ → Marks → Type 0
IsDeviceStuck net device marks = (n : ℕ) → IsStuckAt net marks device n

-- no entry has a way yet
pub record AreNoMarks (bundles : List Bundle) (marks : Marks) : Type 0 where
  pub rows_are : marks.rows.items ≡ map (λ (b : Bundle). replicate (length b.frames.entries) None) bundles
  pub left_is : marks.left ≡ sum_by (λ (b : Bundle). length b.frames.entries) bundles
