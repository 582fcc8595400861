-- What goes over links that are cut, and over those that are not.
use Rattle.std.proofs.Common.{◌≡◌, ℕ, ◌+◌, ◌≤◌, Bool, true, false, List, [], ◌++◌, map, length, Option, Some, None, sym, ◌∙◌, ap, subst, arith, append-nil}
use Rattle.std.proofs.lemmas.List.{length-map}
use Rattle.std.specs.Prelude.{if◌then◌else◌}
use Rattle.cycle_rows.specs.declared.rows.JournalRow.{JournalRow}
use Rattle.irt_base.specs.declared.plants.Plant.{Plant}
use Rattle.irt_world.specs.declared.rows.Row.{Row}
use Rattle.parcel_loads.specs.Flight.{FlightState}
use Rattle.parcel_rules.specs.Cycle.{handed_on}
use Rattle.parcel_rules.specs.Rows.{lost_row}
use Rattle.parcel_rules.specs.declared.handed.Handed.{Handed}
use Rattle.period_gate.specs.declared.parcels.Sent.{Sent}
use Rattle.plan_rules.specs.World.{is_uncut}
use Rattle.run_journal.specs.Written.{Written}
use Rattle.net_parcels.specs.Outlets.{parcel_world, lost_rows_of, over_link}
use Rattle.net_parcels.specs.declared.outlets.Outlet.{Outlet}

-- ---- what links bring

-- a flight with these put last
abbrev pub with_more : FlightState → List Handed → FlightState
with_more flight more = record flight { handed = flight.handed ++ more }

with_none : (flight : FlightState) → flight ≡ with_more flight []
with_none flight = ap (λ (hs : List Handed). record flight { handed = hs }) (sym (append-nil flight.handed))

abbrev pub no_rows : List JournalRow
no_rows = []

-- a journal has grown by these rows
pub record HasGrown (old new : Written) (more : List JournalRow) : Type 0 where
  pub rows : new.rows ≡ old.rows ++ more
  pub room : new.room + length more ≡ old.room

module _ (plant : Plant) (row : Row) (o : Outlet) where
  pub over_none : (flight : FlightState) (far : Option Outlet) → None ≡ far → flight ≡ with_more flight (over_link plant (parcel_world row) o far)
  over_none flight far none = with_none flight ∙ ap (λ (x : Option Outlet). with_more flight (over_link plant (parcel_world row) o x)) none

  pub over_cut : (flight : FlightState) (far : Option Outlet) (one : Outlet) → Some one ≡ far → false ≡ is_uncut plant (parcel_world row) one.at.0.0 one.at.1.0 →
      flight ≡ with_more flight (over_link plant (parcel_world row) o far)
  over_cut flight far one some cut =
      with_none flight
      ∙ ap (λ (b : Bool). with_more flight (if b then map (handed_on o.at.0) one.sent else [])) cut
      ∙ ap (λ (x : Option Outlet). with_more flight (over_link plant (parcel_world row) o x)) some

  pub over_uncut : (flight new : FlightState) (far : Option Outlet) (one : Outlet) (sent : List Sent) → Some one ≡ far →
      true ≡ is_uncut plant (parcel_world row) one.at.0.0 one.at.1.0 → sent ≡ one.sent → new ≡ with_more flight (map (handed_on o.at.0) sent) →
      new ≡ with_more flight (over_link plant (parcel_world row) o far)
  over_uncut flight new far one sent some uncut is brought =
      brought ∙ ap (λ (xs : List Sent). with_more flight (map (handed_on o.at.0) xs)) is
      ∙ ap (λ (b : Bool). with_more flight (if b then map (handed_on o.at.0) one.sent else [])) uncut
      ∙ ap (λ (x : Option Outlet). with_more flight (over_link plant (parcel_world row) o x)) some

  -- ---- what is lost

  pub lost_by_cut : (k : ℕ) → false ≡ is_uncut plant (parcel_world row) o.at.0.0 o.at.1.0 →
      map (lost_row k o.at) o.sent ≡ lost_rows_of plant (parcel_world row) k o
  lost_by_cut k cut = ap (λ (b : Bool). if b then [] else map (lost_row k o.at) o.sent) cut

  pub none_lost : (k : ℕ) → true ≡ is_uncut plant (parcel_world row) o.at.0.0 o.at.1.0 → no_rows ≡ lost_rows_of plant (parcel_world row) k o
  none_lost k uncut = ap (λ (b : Bool). if b then [] else map (lost_row k o.at) o.sent) uncut

  -- a journal that has not grown, and one that has grown by all that a port has sent
  pub lost_none : (k : ℕ) (old : Written) → true ≡ is_uncut plant (parcel_world row) o.at.0.0 o.at.1.0 → HasGrown old old (lost_rows_of plant (parcel_world row) k o)
  lost_none k old uncut =
      subst (HasGrown old old) (none_lost k uncut) (record { rows = sym (append-nil old.rows); room = omega arith })

  pub lost_all : (k : ℕ) (old new : Written) → false ≡ is_uncut plant (parcel_world row) o.at.0.0 o.at.1.0 →
      new.rows ≡ old.rows ++ map (lost_row k o.at) o.sent → new.room + length o.sent ≡ old.room → HasGrown old new (lost_rows_of plant (parcel_world row) k o)
  lost_all k old new cut rows room =
      let count = length-map o.sent (lost_row k o.at) in
      subst (HasGrown old new) (lost_by_cut k cut) (record { rows = rows; room = omega arith })

  pub lost_fits : (k room : ℕ) → false ≡ is_uncut plant (parcel_world row) o.at.0.0 o.at.1.0 →
      length (lost_rows_of plant (parcel_world row) k o) ≤ room → length o.sent ≤ room
  lost_fits k room cut fits =
      let count = length-map o.sent (lost_row k o.at) in
      let same = ap (λ (rows : List JournalRow). length rows) (lost_by_cut k cut) in
      omega arith
