-- The ports of a network with what they send in a cycle.
use Rattle.std.specs.Prelude.{◌≡◌, ℕ, ◌++◌, AllPairs, if◌then◌else◌, List, [], map, flat_map, Option, Some, None, option_map, option_and_then, slice_get, All}
use Rattle.irt_base.specs.Wiring.{peer_of}
use Rattle.irt_base.specs.declared.plants.Plant.{Plant}
use Rattle.cycle_rows.specs.declared.rows.JournalRow.{JournalRow}
use Rattle.irt_world.specs.Rows.{error_in, is_cut_in}
use Rattle.irt_world.specs.declared.rows.Row.{Row}
use Rattle.parcel_rules.specs.Cycle.{all_ports, handed_on}
use Rattle.parcel_rules.specs.Rows.{sent_row, lost_row}
use Rattle.parcel_rules.specs.Steps.{Step}
use Rattle.parcel_rules.specs.declared.handed.Handed.{Handed}
use Rattle.plan_rules.specs.World.{WorldRow, is_uncut}
use Rattle.net_parcels.specs.Notes.{NotesState}
use Rattle.net_parcels.specs.declared.outlets.Outlet.{Outlet}

-- a port, and the place of the port at the other end of its link
abbrev pub End : Type 0
End = Step × Option ℕ

abbrev pub end_of : Outlet → End
end_of outlet = (outlet.at, outlet.far)

abbrev pub ends_of : List Outlet → List End
ends_of outlets = map end_of outlets

abbrev pub ports_of : List Outlet → List Step
ports_of outlets = map (λ (e : End). e.0) (ends_of outlets)

-- the port at a place
abbrev pub port_in : List End → Option ℕ → Option Step
port_in ends place = option_and_then (λ (n : ℕ). option_map (λ (e : End). e.0) (slice_get ends n)) place

-- All ports of a plant in their order, each with the place of the port that its link leads to. In a line a, s, b the
-- port of a has place 0, those of s have 1 and 2, that of b has 3; 0 leads to 1, and 2 to 3.
pub record AreEndsOf (plant : Plant) (ends : List End) : Type 0 where
  pub ports : map (λ (e : End). e.0) ends ≡ all_ports plant
  pub far : All (λ (e : End). port_in ends e.1 ≡ peer_of plant e.0.0.0 e.0.1.0) ends

-- a row of the world as it is for parcels, for which bridge delays do not matter
abbrev pub parcel_world : Row → WorldRow
parcel_world row = record { error = error_in row; bridge = λ device frame. 0; is_cut = is_cut_in row }

-- the rows of what an outlet sends, and of what of it is lost
abbrev pub sent_rows_of : Plant → WorldRow → ℕ → Outlet → List JournalRow
sent_rows_of plant row k o = map (sent_row plant row k o.at) o.sent

abbrev pub lost_rows_of : Plant → WorldRow → ℕ → Outlet → List JournalRow
lost_rows_of plant row k o = if is_uncut plant row o.at.0.0 o.at.1.0 then [] else map (lost_row k o.at) o.sent

-- what the other end of a link brings to an outlet
abbrev pub over_link : Plant → WorldRow → Outlet → Option Outlet → List Handed
over_link plant row o None = []
over_link plant row o (Some far) = if is_uncut plant row far.at.0.0 far.at.1.0 then map (handed_on o.at.0) far.sent else []

abbrev pub brought_to : Plant → WorldRow → List Outlet → Outlet → List Handed
brought_to plant row outlets o = over_link plant row o (option_and_then (slice_get outlets) o.far)

-- each is another port than the others
abbrev pub ArePortsApart : List Step → Type 0
ArePortsApart ports = AllPairs (λ (at other : Step). at.0.0 ≡ other.0.0 → at.1.0 ≡ other.1.0 → ⊥) ports

-- All rows of a cycle: parcels sent, then those refused, lost and come.
abbrev pub all_rows_of : Plant → WorldRow → ℕ → List Outlet → NotesState → List JournalRow
all_rows_of plant row k outlets notes =
    flat_map (sent_rows_of plant row k) outlets ++ (notes.refused ++ (flat_map (lost_rows_of plant row k) outlets ++ notes.came))

abbrev pub port_of : ℕ → ℕ → Step
port_of device port = (record { 0 = device }, record { 0 = port })
