-- What the steps of a cycle need, and what they come to.
use Rattle.std.proofs.Common.{◌≡◌, ℕ, ◌+◌, ◌*◌, ◌≤◌, List, [], ◌++◌, length, option_map, slice_get, refl, sym, ◌∙◌, ap, subst, arith, All}
use Rattle.std.specs.Prelude.{fold, flat_map}
use Rattle.std.proofs.lemmas.List.{length-map, length-replicate}
use Rattle.std.proofs.lemmas.Option.{same_Some, slice_get-map}
use Rattle.cycle_rows.specs.declared.rows.JournalRow.{JournalRow}
use Rattle.irt_base.specs.declared.numbers.PortNo.{PortNo}
use Rattle.irt_base.specs.declared.plants.Plant.{Plant}
use Rattle.irt_switch.specs.State.{SwitchState}
use Rattle.irt_world.specs.Rows.{world_row}
use Rattle.irt_world.specs.declared.rows.Row.{Row}
use Rattle.net_site.specs.Site.{SiteState, IsPlayedAt, bundles_of}
use Rattle.parcel_loads.specs.Flight.{FlightState}
use Rattle.parcel_rules.specs.Loads.{Loads, no_offers, hand_over, offered}
use Rattle.parcel_rules.specs.Made.{made_in}
use Rattle.parcel_rules.specs.Steps.{Step}
use Rattle.parcel_rules.specs.declared.handed.Handed.{Handed}
use Rattle.period_gate.specs.Gate.{nothing_waiting}
use Rattle.period_gate.specs.declared.queue.TheConstants.{QUEUE_ROOM}
use Rattle.plan_rules.specs.World.{WorldRow}
use Rattle.plant_rules.specs.Meets.{MeetsRules}
use Rattle.run_journal.specs.Written.{Written}
use Rattle.net_parcels.proofs.Cycles.{own_gates, own_held, gated, rows_as, left_held, flight_as, brought_devices}
use Rattle.net_parcels.proofs.Folded.{Follows}
use Rattle.net_parcels.proofs.Opened.{gates_begun, steps_at_ports}
use Rattle.net_parcels.specs.Gates.{IsGated, HasSent, HoldOffers, HoldSome, AreAtPorts, but_gates, all_but_gates}
use Rattle.net_parcels.specs.Invariant.{HasRoom, IsAtOneOf}
use Rattle.net_parcels.specs.Loads.{HoldLoads, AreStepsOf}
use Rattle.net_parcels.specs.Notes.{NotesState}
use Rattle.net_parcels.specs.Outlets.{end_of, ends_of, ports_of, AreEndsOf, parcel_world, all_rows_of, brought_to}
use Rattle.net_parcels.specs.Parcels.{HaveWalks, AllHaveOpened, GrowsByParcels, HasRoomIn, KeepAllButGates, parcel_part}
use Rattle.net_parcels.specs.declared.outlets.Outlet.{Outlet}

-- notes without rows
abbrev pub cleared : NotesState → NotesState
cleared notes = record notes { refused = []; came = [] }

pub steps_of : (p plant : Plant) → p ≡ plant → MeetsRules plant → (steps : List (List Step)) → HaveWalks plant steps → AreAtPorts p steps
steps_of p plant same rules steps (walks, best, are) = subst (λ x. AreAtPorts x steps) (sym same) (steps_at_ports plant rules walks best steps are)

pub as_many_outlets : (one other : List Outlet) → ends_of one ≡ ends_of other → length one ≡ length other
as_many_outlets one other same = sym (length-map one end_of) ∙ ap length same ∙ length-map other end_of

pub as_many_switches : (site : SiteState) (switches : List SwitchState) (row : Row) → IsPlayedAt site (bundles_of switches) row → length switches ≡ length site.plant.devices
as_many_switches site switches row played = sym (length-map switches (λ (s : SwitchState). s.bundle)) ∙ played.plan.count

module _ (site : SiteState) (row : Row) (k : ℕ) (steps : List (List Step)) (switches : List SwitchState) (notes cleared_notes : NotesState) (handed : List Handed)
    (played : IsPlayedAt site (bundles_of switches) row) (opened : AllHaveOpened site.plant row k switches) (is : cleared_notes ≡ cleared notes) where
  abbrev W : WorldRow
  W = world_row site.plant (bundles_of switches) row

  start : (loads : Loads) → HoldLoads site.plant switches handed loads → HoldOffers site.plant (bundles_of switches) W k switches cleared_notes (no_offers loads.gates)
  start loads hold = record {
    gates = gates_begun site.plant row k switches played.plan played.accepted opened loads.gates hold.gates;
    refused = ap (λ (n : NotesState). n.refused) is;
    came = ap (λ (n : NotesState). n.came) is;
  }

  abbrev own : Loads
  own = record { gates = own_gates switches; flight = handed }

  pub some_held : (p : Plant) → p ≡ site.plant → HoldSome p k switches cleared_notes
  some_held p same =
      subst (λ x. HoldSome x k switches cleared_notes) (sym same)
      (bundles_of switches, W, no_offers (own_gates switches), start own (own_held site.plant switches handed))

  module _ (p : Plant) (same : p ≡ site.plant) (mid : List SwitchState) (noted : NotesState)
      (rules : Follows p steps k switches cleared_notes mid noted (handed ++ made_in p k)) where
    offers_held : (walks : List (List PortNo)) (loads : Loads) → AreStepsOf site.plant walks steps → HoldLoads site.plant switches handed loads →
        HoldOffers site.plant (bundles_of switches) W k mid noted (offered site.plant walks k loads)
    offers_held walks loads are hold =
        subst (λ (hs : List Handed). HoldOffers site.plant (bundles_of switches) W k mid noted (fold (hand_over site.plant walks k) (no_offers loads.gates) (hs ++ made_in site.plant k))) hold.flight
        (subst (λ x. Follows x steps k switches cleared_notes mid noted (handed ++ made_in x k)) same rules (bundles_of switches) W walks (no_offers loads.gates) are (start loads hold))

    pub all_gated : HaveWalks site.plant steps → (outlets : List Outlet) → AreEndsOf site.plant (ends_of outlets) → All (IsGated mid) (ports_of outlets)
    all_gated (walks, best, are) outlets ends =
        gated site.plant (bundles_of switches) row k mid (offered site.plant walks k own).gates (offers_held walks own are (own_held site.plant switches handed)).gates outlets ends

    module _ (next : List SwitchState) (before outlets : List Outlet) (ends_before : AreEndsOf site.plant (ends_of before)) (ends_same : ends_of outlets ≡ ends_of before)
        (sent : All (HasSent mid next) outlets) where
      ends : AreEndsOf site.plant (ends_of outlets)
      ends = subst (AreEndsOf site.plant) (sym ends_same) ends_before

      rows_made : (walks : List (List PortNo)) (loads : Loads) → AreStepsOf site.plant walks steps → HoldLoads site.plant switches handed loads →
          all_rows_of site.plant (parcel_world row) k outlets noted ≡ parcel_part site.plant (bundles_of switches) walks row k loads
      rows_made walks loads are hold =
          let o = offers_held walks loads are hold in
          rows_as site.plant (bundles_of switches) row k mid (offered site.plant walks k loads).gates o.gates next outlets ends sent noted (offered site.plant walks k loads) refl o.refused o.came

      pub rows_fit : (room : ℕ) → HasRoomIn site.plant switches steps handed row k room → length (all_rows_of site.plant (parcel_world row) k outlets noted) ≤ room
      rows_fit room fits =
          let enough = fits.enough in
          let made = ap length (rows_made fits.walks fits.loads fits.are fits.held) in
          omega arith

      pub grown : (old new : Written) → new.rows ≡ old.rows ++ all_rows_of site.plant (parcel_world row) k outlets noted →
          new.room + length (all_rows_of site.plant (parcel_world row) k outlets noted) ≡ old.room → (flight later : FlightState) →
          later ≡ record flight { handed = flat_map (brought_to site.plant (parcel_world row) outlets) outlets } →
          (walks : List (List PortNo)) (loads : Loads) → AreStepsOf site.plant walks steps → HoldLoads site.plant switches handed loads →
          GrowsByParcels site.plant (bundles_of switches) walks row k loads old new next later.handed
      grown old new rows room flight later brings walks loads are hold =
          let o = offers_held walks loads are hold in
          let made = rows_made walks loads are hold in
          let count = ap length made in
          record {
            rows = rows ∙ ap (λ (xs : List JournalRow). old.rows ++ xs) made;
            room = omega arith;
            held = record {
              gates = left_held site.plant (bundles_of switches) row k mid (offered site.plant walks k loads).gates o.gates next outlets ends sent;
              flight = ap (λ (f : FlightState). f.handed) brings
                  ∙ flight_as site.plant (bundles_of switches) row k mid (offered site.plant walks k loads).gates o.gates next outlets ends sent;
            };
          }

-- what is on the way has its room again
pub has_room : (plant : Plant) (row : Row) (before outlets : List Outlet) (flight later : FlightState) → HasRoom before flight → ends_of outlets ≡ ends_of before →
    later ≡ record flight { handed = flat_map (brought_to plant (parcel_world row) outlets) outlets } → length later.handed ≤ length outlets * (2 * QUEUE_ROOM) → HasRoom outlets later
has_room plant row before outlets flight later inside same brings few = record {
  room = (let count = as_many_outlets outlets before same in let was = inside.room in let kept = ap (λ (f : FlightState). f.room) brings in omega arith);
  few = few;
  devices = subst (All (IsAtOneOf (ports_of outlets))) (sym (ap (λ (f : FlightState). f.handed) brings)) (brought_devices plant row outlets);
}

-- ---- the same walks and parcels, by another name

pub fits_as : (plant : Plant) (switches : List SwitchState) (row : Row) (k room : ℕ) (steps other : List (List Step)) (handed others : List Handed) → other ≡ steps → others ≡ handed →
    HasRoomIn plant switches steps handed row k room → HasRoomIn plant switches other others row k room
fits_as plant switches row k room steps other handed others same also fits =
    subst (λ x. HasRoomIn plant switches x others row k room) (sym same) (subst (λ x. HasRoomIn plant switches steps x row k room) (sym also) fits)

abbrev pub Grows : Plant → List SwitchState → Row → ℕ → Written → Written → List SwitchState → List Handed → List (List Step) → List Handed → Type 0
Grows plant switches row k old new next later steps handed =
    (walks : List (List PortNo)) (loads : Loads) → AreStepsOf plant walks steps → HoldLoads plant switches handed loads →
    GrowsByParcels plant (bundles_of switches) walks row k loads old new next later

pub grows_as : (plant : Plant) (switches : List SwitchState) (row : Row) (k : ℕ) (old new : Written) (next : List SwitchState) (later : List Handed) (steps other : List (List Step))
    (handed others : List Handed) → other ≡ steps → others ≡ handed →
    Grows plant switches row k old new next later other others → Grows plant switches row k old new next later steps handed
grows_as plant switches row k old new next later steps other handed others same also grows =
    subst (λ x. Grows plant switches row k old new next later x handed) same (subst (Grows plant switches row k old new next later other) also grows)

-- ---- what the switches keep

pub keep_all : (old new : List SwitchState) → all_but_gates new ≡ all_but_gates old → KeepAllButGates old new
keep_all old new kept = record {
  count = sym (length-map new but_gates) ∙ ap length kept ∙ length-map old but_gates;
  each = λ device s t was is.
      let one : but_gates t ≡ but_gates s = same_Some (but_gates t) (but_gates s)
      (sym (slice_get-map but_gates new device ∙ ap (option_map but_gates) is) ∙ ap (λ xs. slice_get xs device) kept ∙ slice_get-map but_gates old device ∙ ap (option_map but_gates) was) in
      record {
        bundle = ap (λ (x : SwitchState). x.bundle) one;
        cycle = ap (λ (x : SwitchState). x.cycle) one;
        in_step = ap (λ (x : SwitchState). x.in_step) one;
        left = ap (λ (x : SwitchState). x.left) one;
        gates = sym (length-replicate (length t.gates) nothing_waiting) ∙ ap (λ (x : SwitchState). length x.gates) one ∙ length-replicate (length s.gates) nothing_waiting;
      };
}
