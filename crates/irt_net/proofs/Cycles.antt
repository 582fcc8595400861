-- A cycle of a network: its frames, and then its parcels.
use Rattle.std.proofs.Common.{◌≡◌, ℕ, suc, ◌+◌, ◌*◌, ◌≤◌, List, ◌++◌, length, slice_get, refl, sym, ◌∙◌, ap, subst, arith, All, append_assoc, Result, Ok, Err, OnOk}
use Rattle.std.proofs.lemmas.List.{length-map}
use Rattle.cycle_events.specs.Run.{IsPlayIn}
use Rattle.cycle_frames.specs.Came.{HaveCome}
use Rattle.cycle_frames.specs.declared.came.Came.{Came}
use Rattle.event_queue.specs.Waiting.{Waiting}
use Rattle.irt_base.specs.declared.blocks.Bundle.{Bundle}
use Rattle.irt_base.specs.declared.numbers.PortNo.{PortNo}
use Rattle.irt_base.specs.declared.plants.Plant.{Plant}
use Rattle.irt_base.specs.Wiring.{peer_of}
use Rattle.irt_net.proofs.Begun.{all_at, all_from, same_map, there}
use Rattle.irt_net.proofs.Carrying.{pending_same}
use Rattle.irt_net.specs.Net.{HasRoomFor, IsReached, IsSameNet, NetState, PlaysCycle}
use Rattle.irt_net.specs.Parts.{HavePlayed}
use Rattle.irt_net.specs.Whole.{IsGated, IsWhole, walks_of}
use Rattle.irt_route.specs.Routes.{AreTrafficWalks}
use Rattle.irt_switch.specs.State.{SwitchState}
use Rattle.irt_world.specs.Forwardings.{forwardings}
use Rattle.irt_world.specs.Rows.{IsRowOf}
use Rattle.irt_world.specs.declared.rows.Row.{Row}
use Rattle.net_frames.specs.Frames.{GrowsByFrames, IsReadyFor, most_frames}
use Rattle.net_parcels.specs.Loads.{AreStepsOf, HoldGates, HoldLoads}
use Rattle.net_parcels.specs.Parcels.{GrowsByParcels, HasRoomIn, IsMadeFor, KeepAllButGates, ParcelsState, parcel_part}
use Rattle.net_site.specs.Site.{IsPlayedAt, SiteState, bundles_of, play_in}
use Rattle.parcel_rules.specs.Cycle.{after_row, loads_at}
use Rattle.parcel_rules.specs.Loads.{Gates, Loads, no_loads}
use Rattle.parcel_rules.specs.Room.{most_rows, pending}
use Rattle.parcel_rules.specs.Rows.{parcel_rows, rows_in}
use Rattle.plan_rules.specs.Places.{IsAccepted}
use Rattle.plan_rules.specs.Plan.{IsPlan, setup_of}
use Rattle.plan_rules.specs.World.{WorldRow}
use Rattle.plant_rules.specs.Meets.{MeetsRules}
use Rattle.run_journal.specs.Written.{Written}

-- the law of how many rows parcels get
abbrev pub KeepsRoom : Type 0
KeepsRoom = (plant : Plant) (bundles : List Bundle) → MeetsRules plant → (walks : List (List PortNo)) → AreTrafficWalks (peer_of plant) plant.traffic walks →
    (world : List WorldRow) (k : ℕ) → length (parcel_rows plant bundles walks world k) + pending plant walks (loads_at plant bundles walks world (k + 1))
    ≤ pending plant walks (loads_at plant bundles walks world k) + most_rows plant walks

-- what the frames of a cycle leave
pub record FramesLeave (site : SiteState) (row : Row) (k : ℕ) (old new : List SwitchState) (queue : Waiting) (came : List Came) (before after : Written) : Type 0 where
  pub rows : GrowsByFrames site.plant (bundles_of old) row k before after
  pub come : (world : List WorldRow) → IsPlayIn (play_in site.plant (bundles_of old) row k) world → HaveCome (setup_of site.plant (bundles_of old)) world k came
  pub blocks : bundles_of new ≡ bundles_of old
  pub gated : All IsGated new
  pub gates : (gates : Gates) → HoldGates site.plant old gates → HoldGates site.plant new gates
  pub ready : IsReadyFor (most_frames site.plant (bundles_of old)) queue

-- what its parcels leave
pub record ParcelsLeave (site : SiteState) (row : Row) (k : ℕ) (old new : List SwitchState) (p q : ParcelsState) (before after : Written) : Type 0 where
  pub kept : q ≡ record p { flight = q.flight }
  pub parcels : (walks : List (List PortNo)) (loads : Loads) → AreStepsOf site.plant walks p.steps → HoldLoads site.plant old p.flight loads →
      GrowsByParcels site.plant (bundles_of old) walks row k loads before after new q.flight
  pub switches : KeepAllButGates old new

abbrev pub net_of : SiteState → List SwitchState → ParcelsState → List Came → ℕ → NetState
net_of site switches parcels came most = record {
  plant = site.plant;
  bundles = bundles_of switches;
  walks = walks_of parcels.steps;
  switches = switches;
  flight = parcels.flight;
  came = came;
  most = most;
}

-- what both leave
pub record CycleLeaves (site : SiteState) (row : Row) (k : ℕ) (old : NetState) (switches : List SwitchState) (parcels : ParcelsState) (queue : Waiting)
    (came : List Came) (cap most : ℕ) (before after : Written) : Type 0 where
  pub whole : IsWhole site switches parcels queue cap most
  pub played : HavePlayed row k old (net_of site switches parcels came most) before after

-- where the parcels are before the first cycle, room for so many cycles is room enough
pub reserved : (law : (plant : Plant) (walks : List (List PortNo)) → pending plant walks no_loads ≡ 0) (site : SiteState) (s : List SwitchState) (p : ParcelsState)
    (queue : Waiting) (cap most : ℕ) (came : List Came) (cycles rows room : ℕ) → IsWhole site s p queue cap most → HoldLoads site.plant s p.flight no_loads →
    rows ≡ cycles * most → rows ≤ room → HasRoomFor (net_of site s p came most) cycles room
reserved law site s p queue cap most came cycles rows room whole none is enough loads carries =
    let count : length s ≡ length site.plant.devices = sym (length-map s (λ (x : SwitchState). x.bundle)) ∙ whole.plan.count in
    let same = pending_same site.plant (walks_of p.steps) s p.flight loads no_loads count carries none in
    let nothing = law site.plant (walks_of p.steps) in
    omega arith

pub on_ok : {A E : Type 0} (P Q : Type 0) (r : Result A E) → (P → Q) → OnOk r P → OnOk r Q
on_ok P Q (Ok x) more is = more is
on_ok P Q (Err e) more is = is

-- the blocks and the row are played
pub played_at : (site : SiteState) (row : Row) (s : List SwitchState) (p : ParcelsState) (queue : Waiting) (cap most : ℕ) → IsWhole site s p queue cap most →
    IsRowOf site.plant (bundles_of s) row → IsPlayedAt site (bundles_of s) row
played_at site row s p queue cap most whole fits = record { plan = whole.plan; accepted = whole.accepted; delays = whole.delays; fits = fits }

module _ (law : KeepsRoom) (site : SiteState) (row : Row) (k : ℕ) (s0 s1 : List SwitchState) (p : ParcelsState) (q0 q1 : Waiting) (cap most : ℕ)
    (was came : List Came) (j0 j1 : Written) (whole : IsWhole site s0 p q0 cap most) (reached : IsReached (net_of site s0 p was most) row k)
    (room : HasRoomFor (net_of site s0 p was most) 1 j0.room) (frames : FramesLeave site row k s0 s1 q1 came j0 j1) where
  abbrev L0 : Loads
  L0 = loads_at site.plant (bundles_of s0) (walks_of p.steps) reached.world k

  abbrev L1 : Loads
  L1 = loads_at site.plant (bundles_of s0) (walks_of p.steps) reached.world (k + 1)

  -- the parcels wait still
  held : (loads : Loads) → HoldLoads site.plant s0 p.flight loads → HoldLoads site.plant s1 p.flight loads
  held loads hold = record { gates = frames.gates loads.gates hold.gates; flight = hold.flight }

  rows_here : (world : List WorldRow) → IsPlayIn (play_in site.plant (bundles_of s0) row k) world → (loads : Loads) →
      rows_in site.plant (bundles_of s0) (walks_of p.steps) k loads (slice_get world k) ≡ parcel_part site.plant (bundles_of s0) (walks_of p.steps) row k loads
  rows_here world played loads = ap (rows_in site.plant (bundles_of s0) (walks_of p.steps) k loads) played.in_cycle

  rows_fit : length (parcel_part site.plant (bundles_of s0) (walks_of p.steps) row k L0) + pending site.plant (walks_of p.steps) L1
      ≤ pending site.plant (walks_of p.steps) L0 + most_rows site.plant (walks_of p.steps)
  rows_fit =
      let all = law site.plant (bundles_of s0) whole.plan.rules (walks_of p.steps) whole.walks reached.world k in
      let same = ap length (rows_here reached.world reached.played L0) in
      omega arith

  pub room_in : HasRoomIn site.plant s1 p.steps p.flight row k j1.room
  room_in = record {
    walks = walks_of p.steps;
    loads = L0;
    are = whole.steps;
    held = held L0 reached.carries;
    enough =
        let fit = rows_fit in
        let now = room L0 reached.carries in
        let grown = frames.rows.room in
        let few = frames.rows.few in
        let rows = whole.rows in
        let same = ap (λ (b : List Bundle). length (parcel_part site.plant b (walks_of p.steps) row k L0)) frames.blocks in
        omega arith;
  }

  module _ (s2 : List SwitchState) (q : ParcelsState) (cap1 : ℕ) (j2 : Written) (noted : cap1 ≡ cap) (parcels : ParcelsLeave site row k s1 s2 p q j1 j2) where
    blocks_after : bundles_of s2 ≡ bundles_of s0
    blocks_after =
        same_map (λ (s : SwitchState). s.bundle) s1 s2 parcels.switches.count (λ n x y was is. (parcels.switches.each n x y was is).bundle) ∙ frames.blocks

    gated_after : All IsGated s2
    gated_after = all_from IsGated s2 (λ n t at.
        let (s, here) = there s1 s2 n t parcels.switches.count at in
        let keeps = parcels.switches.each n s t here at in
        keeps.gates ∙ all_at IsGated s1 n s frames.gated here ∙ ap (λ (b : Bundle). length b.periods.ports) (sym keeps.bundle))

    steps_after : q.steps ≡ p.steps
    steps_after = ap (λ (x : ParcelsState). x.steps) parcels.kept

    whole_after : IsWhole site s2 q q1 cap1 most
    whole_after =
        let old : IsWhole site s0 p q1 cap1 most = record {
          plan = whole.plan;
          accepted = whole.accepted;
          delays = whole.delays;
          gated = whole.gated;
          made = whole.made;
          steps = whole.steps;
          walks = whole.walks;
          ready = frames.ready;
          noted = subst (λ (n : ℕ). most_frames site.plant (bundles_of s0) ≤ n) (sym noted) whole.noted;
          rows = whole.rows;
        } in record {
          plan = subst (λ b. IsPlan site.plant b) (sym blocks_after) old.plan;
          accepted = subst (λ b. IsAccepted site.plant b) (sym blocks_after) old.accepted;
          delays = subst (λ b. site.delays ≡ forwardings site.plant b) (sym blocks_after) old.delays;
          gated = gated_after;
          made = subst (IsMadeFor site.plant) (sym parcels.kept) (record { ends = old.made.ends; room = old.made.room });
          steps = subst (λ xs. AreStepsOf site.plant (walks_of xs) xs) (sym steps_after) old.steps;
          walks = subst (λ xs. AreTrafficWalks (peer_of site.plant) site.plant.traffic (walks_of xs)) (sym steps_after) old.walks;
          ready = subst (λ b. IsReadyFor (most_frames site.plant b) q1) (sym blocks_after) old.ready;
          noted = subst (λ b. most_frames site.plant b ≤ cap1) (sym blocks_after) old.noted;
          rows = subst (λ b. most_frames site.plant b + most_rows site.plant (walks_of q.steps) ≤ most) (sym blocks_after)
              (subst (λ xs. most_frames site.plant (bundles_of s0) + most_rows site.plant (walks_of xs) ≤ most) (sym steps_after) old.rows);
        }

    pub count_after : length s2 ≡ length s0
    count_after = sym (length-map s2 (λ (s : SwitchState). s.bundle)) ∙ ap length blocks_after ∙ length-map s0 (λ (s : SwitchState). s.bundle)

    same_net : IsSameNet (net_of site s0 p was most) (net_of site s2 q came most)
    same_net = record { plant = refl; bundles = blocks_after; walks = ap walks_of steps_after; most = refl }

    grown : (loads : Loads) → HoldLoads site.plant s0 p.flight loads → GrowsByParcels site.plant (bundles_of s0) (walks_of p.steps) row k loads j1 j2 s2 q.flight
    grown loads hold =
        subst (λ b. GrowsByParcels site.plant b (walks_of p.steps) row k loads j1 j2 s2 q.flight) frames.blocks
        (parcels.parcels (walks_of p.steps) loads whole.steps (held loads hold))

    plays : (world : List WorldRow) (loads : Loads) → IsPlayIn (play_in site.plant (bundles_of s0) row k) world → HoldLoads site.plant s0 p.flight loads →
        PlaysCycle world k loads (net_of site s0 p was most) (net_of site s2 q came most) j0 j2
    plays world loads played hold =
        let more = grown loads hold in record {
          frames = frames.rows.part;
          segment = frames.rows.segment world played;
          rows = more.rows ∙ ap (λ xs. xs ++ parcel_part site.plant (bundles_of s0) (walks_of p.steps) row k loads) frames.rows.rows
              ∙ append_assoc j0.rows frames.rows.part (parcel_part site.plant (bundles_of s0) (walks_of p.steps) row k loads)
              ∙ ap (λ xs. j0.rows ++ (frames.rows.part ++ xs)) (sym (rows_here world played loads));
          carries = subst (λ l. HoldLoads site.plant s2 q.flight l) (sym (ap (after_row site.plant (bundles_of s0) (walks_of p.steps) k loads) played.in_cycle)) more.held;
          came = frames.come world played;
        }

    room_after : (cycles : ℕ) → HasRoomFor (net_of site s0 p was most) (cycles + 1) j0.room → HasRoomFor (net_of site s2 q came most) cycles j2.room
    room_after cycles enough loads carries =
        let more = grown L0 reached.carries in
        let next : k + 1 ≡ suc k = omega arith in
        let after : HoldLoads site.plant s2 q.flight L1 = subst (λ l. HoldLoads site.plant s2 q.flight l)
        (sym (ap (loads_at site.plant (bundles_of s0) (walks_of p.steps) reached.world) next
        ∙ ap (after_row site.plant (bundles_of s0) (walks_of p.steps) k L0) reached.played.in_cycle)) more.held in
        let count : length s2 ≡ length site.plant.devices = sym (length-map s2 (λ (s : SwitchState). s.bundle)) ∙ ap length blocks_after ∙ whole.plan.count in
        let walks = ap (λ w. pending site.plant w loads) (ap walks_of steps_after) in
        let same = pending_same site.plant (walks_of p.steps) s2 q.flight loads L1 count carries after in
        let fit = rows_fit in
        let now = enough L0 reached.carries in
        let spread : (cycles + 1) * most ≡ cycles * most + most = omega arith in
        let frame_room = frames.rows.room in
        let few = frames.rows.few in
        let parcel_room = more.room in
        let rows = whole.rows in
        omega arith

    pub left : CycleLeaves site row k (net_of site s0 p was most) s2 q q1 came cap1 most j0 j2
    left = record { whole = whole_after; played = record { same = same_net; rows = plays; room = room_after } }
