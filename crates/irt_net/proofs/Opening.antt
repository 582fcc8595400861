-- A network before its first cycle.
use Rattle.std.proofs.Common.{◌≡◌, ℕ, suc, ◌+◌, ◌-◌, ◌≤◌, List, [], ◌∷◌, length, map, replicate, Some, slice_get, slice_index_or, refl, sym, ◌∙◌, ap, ap₂, subst, arith, All, inl, inr, vec_capacity}
use Rattle.std.specs.List.{flat_map, sum_by}
use Rattle.std.proofs.lemmas.Bool.{cases_lt}
use Rattle.std.proofs.lemmas.List.{get_or-replicate, get_or_past, length-append, length-map, length-replicate}
use Rattle.std.proofs.lemmas.List.Concat.{flat_map-cons}
use Rattle.std.proofs.lemmas.List.Sums.{sum_by-cons}
use Rattle.std.proofs.lemmas.Option.{get_or_from_slice_get, same_Some}
use Rattle.cycle_events.specs.Events.{ports_in}
use Rattle.cycle_events.specs.Places.{At_port, places_from, places_of_entry}
use Rattle.event_queue.specs.Waiting.{Waiting}
use Rattle.irt_base.specs.Wiring.{peer_of}
use Rattle.irt_base.specs.declared.blocks.Bundle.{Bundle}
use Rattle.irt_base.specs.declared.blocks.Entry.{Entry}
use Rattle.irt_base.specs.declared.numbers.DevId.{DevId}
use Rattle.irt_base.specs.declared.numbers.PortNo.{PortNo}
use Rattle.irt_base.specs.declared.plants.Plant.{Plant}
use Rattle.irt_base.specs.declared.plants.Traffic.{Traffic}
use Rattle.irt_net.proofs.Begun.{all_from}
use Rattle.irt_net.specs.Parts.{AreJoined, AreOpened, AreParcelsOf, AreTablesOf}
use Rattle.irt_net.specs.Places.{bundle_places, entry_places, plan_places}
use Rattle.irt_net.specs.Whole.{IsGated, IsWhole, walks_of}
use Rattle.irt_net.specs.declared.parts.Parts.{Parts}
use Rattle.irt_net.specs.declared.parts.Tables.{Tables}
use Rattle.irt_route.specs.Routes.{AreTrafficWalks, IsRoutesOf, RouteTables}
use Rattle.irt_route.specs.Walks.{far_of}
use Rattle.irt_switch.specs.State.{SwitchState, gate_of, new_switch}
use Rattle.irt_world.specs.Forwardings.{forwardings}
use Rattle.net_frames.proofs.Starting.{at_mapped}
use Rattle.net_frames.specs.Frames.{IsReadyFor, most_frames}
use Rattle.net_parcels.specs.Loads.{AreStepsOf, HoldLoads}
use Rattle.net_parcels.specs.Parcels.{IsMadeFor, ParcelsState}
use Rattle.net_site.specs.Site.{SiteState, bundles_of}
use Rattle.parcel_rules.specs.Loads.{no_loads}
use Rattle.parcel_rules.specs.Room.{most_rows}
use Rattle.parcel_rules.specs.Steps.{Step, steps_from}
use Rattle.parcel_rules.specs.declared.handed.Handed.{Handed}
use Rattle.period_gate.specs.Gate.{Waiting as Gate, nothing_waiting}
use Rattle.plan_rules.specs.Places.{IsAccepted}
use Rattle.plan_rules.specs.Plan.{IsPlan}

-- ---- switches

blocks_new : (bundles : List Bundle) → bundles_of (map new_switch bundles) ≡ bundles
blocks_new [] = refl
blocks_new (b ∷ more) = ap (λ xs. b ∷ xs) (blocks_new more)

nothing_there : (n index : ℕ) → slice_index_or (replicate n nothing_waiting) index nothing_waiting ≡ nothing_waiting
nothing_there n index =
    elim (cases_lt index n) [
      | inl below ↦ get_or-replicate n index nothing_waiting nothing_waiting below
      | inr past ↦ get_or_past (replicate n nothing_waiting) index nothing_waiting (omega (arith, length-replicate n nothing_waiting))
    ]

nothing_held : (plant : Plant) (bundles : List Bundle) (switches : List SwitchState) (flight : List Handed) → switches ≡ map new_switch bundles → flight ≡ [] →
    HoldLoads plant switches flight no_loads
nothing_held plant bundles switches flight made none = record {
  gates = λ at s among is.
      let (b, here, same) = at_mapped new_switch bundles at.0.0 s (ap (λ xs. slice_get xs at.0.0) (sym made) ∙ is) in
      let empty : gate_of s at.1.0 ≡ nothing_waiting = ap (λ (x : SwitchState). gate_of x at.1.0) (sym same) ∙ nothing_there (length b.periods.ports) (at.1.0 - 1) in
      record { orange = ap (λ (g : Gate). g.orange) empty; green = ap (λ (g : Gate). g.green) empty };
  flight = none;
}

gated_new : (bundles : List Bundle) → All IsGated (map new_switch bundles)
gated_new bundles = all_from IsGated (map new_switch bundles) (λ n s at.
    let (b, here, same) = at_mapped new_switch bundles n s at in
    subst IsGated same (length-replicate (length b.periods.ports) nothing_waiting))

-- ---- walks

ports_back : (plant : Plant) (at : DevId) (walk : List PortNo) → map (λ (step : Step). step.1) (steps_from plant at walk) ≡ walk
ports_back plant at [] = refl
ports_back plant at (port ∷ more) = ap (λ xs. port ∷ xs) (ports_back plant (far_of at (peer_of plant at.0 port.0)) more)

walks_back : (plant : Plant) (all walks : List (List PortNo)) (n : ℕ) (ts : List Traffic) (steps : List (List Step)) → length steps ≡ length ts → length walks ≡ length ts →
    ((i : ℕ) (t : Traffic) (w : List PortNo) (xs : List Step) → slice_get ts i ≡ Some t → slice_get walks i ≡ Some w → slice_get steps i ≡ Some xs → xs ≡ steps_from plant t.source w) →
    walks_of steps ≡ walks
walks_back plant all [] n [] [] count walk_count each = refl
walks_back plant all (w ∷ ws) n [] xs count walk_count each = absurd (omega arith)
walks_back plant all [] n [] (x ∷ xs) count walk_count each = absurd (omega arith)
walks_back plant all [] n (t ∷ ts) xs count walk_count each = absurd (omega arith)
walks_back plant all (w ∷ ws) n (t ∷ ts) [] count walk_count each = absurd (omega arith)
walks_back plant all (w ∷ ws) n (t ∷ ts) (x ∷ xs) count walk_count each =
    ap₂ (λ (a : List PortNo) (b : List (List PortNo)). a ∷ b)
    (ap (map (λ (step : Step). step.1)) (each 0 t w x refl refl refl) ∙ ports_back plant t.source w)
    (walks_back plant all ws (n + 1) ts xs (omega arith) (omega arith) (λ i u v ys. each (suc i) u v ys))

same_walks : (plant : Plant) (routes : RouteTables) (steps : List (List Step)) → IsRoutesOf plant routes → AreStepsOf plant routes.walks steps →
    walks_of steps ≡ routes.walks
same_walks plant routes steps are steps_are =
    walks_back plant routes.walks routes.walks 0 plant.traffic steps steps_are.count are.walk_count
    (λ i t w xs there walk_at at.
    same_Some xs (steps_from plant t.source w) (sym at ∙ steps_are.each i t there
    ∙ ap (λ (v : List PortNo). Some (steps_from plant t.source v)) (get_or_from_slice_get routes.walks i w [] walk_at)))

pub best_walks : (plant : Plant) (routes : RouteTables) → IsRoutesOf plant routes → AreTrafficWalks (peer_of plant) plant.traffic routes.walks
best_walks plant routes are = record { count = are.walk_count; each = are.walks }

-- ---- places

entry_count : (device : ℕ) (e : Entry) → length (places_of_entry device e) ≡ entry_places e
entry_count device e = let count = length-map (ports_in e.tx) (λ port. At_port device port e.frame.0) in omega arith

entries_count : (device : ℕ) (entries : List Entry) → length (flat_map (places_of_entry device) entries) ≡ sum_by entry_places entries
entries_count device [] = refl
entries_count device (e ∷ more) =
    ap length (flat_map-cons (places_of_entry device) e more) ∙ length-append (places_of_entry device e) (flat_map (places_of_entry device) more)
    ∙ ap₂ (λ (m n : ℕ). m + n) (entry_count device e) (entries_count device more) ∙ sym (sum_by-cons entry_places e more)

count_from : (device : ℕ) (bundles : List Bundle) → length (places_from device (map (λ (b : Bundle). b.frames) bundles)) ≡ plan_places bundles
count_from device [] = refl
count_from device (b ∷ more) =
    length-append (flat_map (places_of_entry device) b.frames.entries) (places_from (device + 1) (map (λ (x : Bundle). x.frames) more))
    ∙ ap₂ (λ (m n : ℕ). m + n) (entries_count device b.frames.entries) (count_from (device + 1) more) ∙ sym (sum_by-cons bundle_places b more)

-- ---- all of it

abbrev pub site_of : Plant → List Bundle → SiteState
site_of plant bundles = record { plant = plant; delays = forwardings plant bundles }

whole_new : (plant : Plant) (bundles : List Bundle) (routes : RouteTables) (site : SiteState) (switches : List SwitchState) (p : ParcelsState) (queue : Waiting)
    (cap places most : ℕ) → IsPlan plant bundles → IsAccepted plant bundles → IsRoutesOf plant routes → site ≡ site_of plant bundles →
    switches ≡ map new_switch bundles → IsMadeFor plant p → AreStepsOf plant routes.walks p.steps → queue.events ≡ [] → queue.room ≡ places → places ≤ cap →
    places ≡ plan_places bundles → most ≡ places + most_rows plant routes.walks → IsWhole site switches p queue cap most
whole_new plant bundles routes site switches p queue cap places most plan accepted are site_is made made_for steps empty room noted count sum =
    subst (λ (x : SiteState). IsWhole x switches p queue cap most) (sym site_is)
    (subst (λ (xs : List SwitchState). IsWhole (site_of plant bundles) xs p queue cap most) (sym made) whole)
  where
    same : bundles_of (map new_switch bundles) ≡ bundles
    same = blocks_new bundles

    walks : walks_of p.steps ≡ routes.walks
    walks = same_walks plant routes p.steps are steps

    most_is : most_frames plant bundles ≡ places
    most_is = count_from 0 bundles ∙ sym count

    whole : IsWhole (site_of plant bundles) (map new_switch bundles) p queue cap most
    whole = record {
      plan = subst (IsPlan plant) (sym same) plan;
      accepted = subst (IsAccepted plant) (sym same) accepted;
      delays = ap (forwardings plant) (sym same);
      gated = gated_new bundles;
      made = made_for;
      steps = subst (λ w. AreStepsOf plant w p.steps) (sym walks) steps;
      walks = subst (AreTrafficWalks (peer_of plant) plant.traffic) (sym walks) (best_walks plant routes are);
      ready = subst (λ b. IsReadyFor (most_frames plant b) queue) (sym same) (record { empty = empty; room = omega (arith, most_is, room) });
      noted = subst (λ b. most_frames plant b ≤ cap) (sym same) (omega (arith, most_is));
      rows = subst (λ b. most_frames plant b + most_rows plant (walks_of p.steps) ≤ most) (sym same)
          (let rest = ap (most_rows plant) walks in omega (arith, most_is));
    }

-- what was opened for a plan are the parts of its network before the first cycle
pub opened : (plant : Plant) (bundles : List Bundle) (routes : RouteTables) (parts : Parts) (site : SiteState) (tables : Tables) (places : ℕ) →
    IsPlan plant bundles → IsAccepted plant bundles → IsRoutesOf plant routes → places ≡ plan_places bundles → site ≡ site_of plant bundles →
    AreTablesOf bundles places tables → AreJoined site tables routes places parts → AreOpened plant bundles routes parts
opened plant bundles routes parts site tables places plan accepted are count site_is made joined =
    let here : parts.site ≡ site_of plant bundles = joined.same_site ∙ site_is in
    let frames = subst (AreTablesOf bundles places) (sym joined.same_tables) made in
    let parcels = subst (λ (s : SiteState). AreParcelsOf s.plant routes places parts.parcels parts.most) site_is joined.parcels in
    record {
      whole = whole_new plant bundles routes parts.site parts.tables.switches.items parts.parcels parts.tables.queue (vec_capacity parts.tables.came) places
          parts.most plan accepted are here frames.made parcels.made parcels.steps frames.empty frames.room frames.noted count parcels.rows;
      same_plant = ap (λ (s : SiteState). s.plant) here;
      same_bundles = ap bundles_of frames.made ∙ blocks_new bundles;
      same_walks = same_walks plant routes parts.parcels.steps are parcels.steps;
      empty = nothing_held parts.site.plant bundles parts.tables.switches.items parts.parcels.flight frames.made parcels.none;
    }
