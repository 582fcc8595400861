-- Outlets that are made one after the other.
use Rattle.std.proofs.Common.{◌≡◌, ℕ, ◌+◌, ◌<◌, ◌≤◌, List, [], ◌∷◌, ◌++◌, map, length, take, get_or, refl, sym, ◌∙◌, ap, subst, arith, slice_get, All, Option, Some, None, Contains, append_assoc}
use Rattle.std.specs.Prelude.{option_and_then, flat_map}
use Rattle.std.specs.List.{range_with_len, enumerate_from}
use Rattle.std.proofs.lemmas.List.FromFn.{length-enumerate_from, get_or-enumerate_from}
use Rattle.irt_base.specs.declared.plants.Device.{Device}
use Rattle.plan_rules.proofs.Wires.{mutual_peers}
use Rattle.plan_rules.proofs.Held.{some_at}
use Rattle.plant_rules.specs.Meets.{MeetsRules}
use Rattle.parcel_rules.proofs.Wires.{linked_among}
use Rattle.std.proofs.lemmas.List.{map-append}
use Rattle.std.proofs.lemmas.List.Elements.{All-nil, All-cons, All-append}
use Rattle.std.proofs.lemmas.Option.{slice_get_within, get_or_from_slice_get, slice_get-map}
use Rattle.irt_base.specs.Wiring.{peer_of}
use Rattle.irt_base.specs.declared.plants.Plant.{Plant}
use Rattle.parcel_rules.specs.Cycle.{ports_at, all_ports}
use Rattle.parcel_rules.specs.Steps.{Step}
use Rattle.net_parcels.proofs.Folded.{all_taken, range_more}
use Rattle.net_parcels.proofs.Joined.{take_more, flat_map_more}
use Rattle.net_parcels.specs.Outlets.{End, end_of, ends_of, ports_of, port_in, port_of, AreEndsOf}
use Rattle.net_parcels.specs.declared.outlets.Outlet.{Outlet}

abbrev pub LeadsIn : Plant → List Step → End → Type 0
LeadsIn plant ports e = option_and_then (slice_get ports) e.1 ≡ peer_of plant e.0.0.0 e.0.1.0

-- The outlets of the ports before a place.
pub record ArePlaced (plant : Plant) (ports : List Step) (place : ℕ) (outlets : List Outlet) : Type 0 where
  pub named : ports_of outlets ≡ take place ports
  pub far : All (LeadsIn plant ports) (ends_of outlets)

pub none_placed : (plant : Plant) (ports : List Step) → ArePlaced plant ports 0 []
none_placed plant ports = record { named = refl; far = All-nil (LeadsIn plant ports) }

pub one_placed : (plant : Plant) (ports : List Step) (place : ℕ) (outlets : List Outlet) (o : Outlet) → ArePlaced plant ports place outlets → slice_get ports place ≡ Some o.at →
    LeadsIn plant ports (end_of o) → ArePlaced plant ports (place + 1) (outlets ++ o ∷ [])
one_placed plant ports place outlets o h there leads = record {
  named = ap (map (λ (e : End). e.0)) (map-append end_of outlets (o ∷ [])) ∙ map-append (λ (e : End). e.0) (ends_of outlets) (end_of o ∷ [])
      ∙ ap (λ xs. xs ++ o.at ∷ []) h.named
      ∙ ap (λ x. take place ports ++ x ∷ []) (sym (get_or_from_slice_get ports place o.at o.at there)) ∙ sym (take_more ports place o.at (slice_get_within ports place o.at there));
  far = subst (All (LeadsIn plant ports)) (sym (map-append end_of outlets (o ∷ [])))
      (All-append (LeadsIn plant ports) (ends_of outlets) (end_of o ∷ []) h.far (All-cons (LeadsIn plant ports) (end_of o) [] leads (All-nil (LeadsIn plant ports))));
}

pub all_placed : (plant : Plant) (ports : List Step) (place : ℕ) (outlets : List Outlet) → ArePlaced plant ports place outlets → length ports ≤ place → ports ≡ all_ports plant →
    AreEndsOf plant (ends_of outlets)
all_placed plant ports place outlets h end all =
    let whole : ports_of outlets ≡ ports = h.named ∙ all_taken ports place end in
    record {
      ports = whole ∙ all;
      far = λ j d below. by_far (get_or_end j d) whole (h.far j d below);
    }
  where
    get_or_end : ℕ → End → End
    get_or_end j d = get_or (ends_of outlets) j d

    same_place : (xs : List Step) → ports_of outlets ≡ xs → (x : Option ℕ) → port_in (ends_of outlets) x ≡ option_and_then (slice_get xs) x
    same_place xs whole None = refl
    same_place xs whole (Some n) = sym (slice_get-map (λ (e : End). e.0) (ends_of outlets) n) ∙ ap (λ ys. slice_get ys n) whole

    by_far : (e : End) → ports_of outlets ≡ ports → LeadsIn plant ports e → port_in (ends_of outlets) e.1 ≡ peer_of plant e.0.0.0 e.0.1.0
    by_far e whole leads = same_place ports whole e.1 ∙ leads

-- ---- ports

pub port_more : (old now next : List Step) (device number : ℕ) → now ≡ old ++ map (port_of device) (range_with_len 1 number) → next ≡ now ++ port_of device (number + 1) ∷ [] →
    next ≡ old ++ map (port_of device) (range_with_len 1 (number + 1))
port_more old now next device number so_far one =
    one ∙ ap (λ xs. xs ++ port_of device (number + 1) ∷ []) so_far
    ∙ append_assoc old (map (port_of device) (range_with_len 1 number)) (port_of device (number + 1) ∷ [])
    ∙ ap (λ n. old ++ (map (port_of device) (range_with_len 1 number) ++ port_of device n ∷ [])) (let e : number + 1 ≡ 1 + number = omega arith in e)
    ∙ ap (λ xs. old ++ xs) (sym (ap (map (port_of device)) (range_more 1 number) ∙ map-append (port_of device) (range_with_len 1 number) ((1 + number) ∷ [])))

abbrev pub device_ports : ℕ × Device → List Step
device_ports d = ports_at d.0 d.1

pub device_more : (plant : Plant) (now next : List Step) (device : ℕ) (count : ℕ) → device < length plant.devices → ((d : Device) → slice_get plant.devices device ≡ Some d → count ≡ length d.ports) →
    now ≡ flat_map device_ports (take device (enumerate_from 0 plant.devices)) → next ≡ now ++ map (port_of device) (range_with_len 1 count) →
    next ≡ flat_map device_ports (take (device + 1) (enumerate_from 0 plant.devices))
device_more plant now next device count below counted so_far one =
    let (d, there) = some_at plant.devices device below in
    let entries = length-enumerate_from 0 plant.devices in
    let entry : get_or (enumerate_from 0 plant.devices) device (device, d) ≡ (device, d) =
    get_or-enumerate_from 0 plant.devices device (device, d) below ∙ (λ i. ((let e : 0 + device ≡ device = omega arith in e) i, get_or_from_slice_get plant.devices device d d there i)) in
    one ∙ ap (λ xs. xs ++ map (port_of device) (range_with_len 1 count)) so_far
    ∙ ap (λ n. flat_map device_ports (take device (enumerate_from 0 plant.devices)) ++ map (port_of device) (range_with_len 1 n)) (counted d there)
    ∙ sym (flat_map_more device_ports (enumerate_from 0 plant.devices) device (device, d) (omega arith) (sym entry))

pub devices_done : (plant : Plant) (now : List Step) (device : ℕ) → length plant.devices ≤ device → now ≡ flat_map device_ports (take device (enumerate_from 0 plant.devices)) → now ≡ all_ports plant
devices_done plant now device end so_far =
    so_far ∙ ap (flat_map device_ports) (all_taken (enumerate_from 0 plant.devices) device (let entries = length-enumerate_from 0 plant.devices in omega arith))

pub far_there : (plant : Plant) → MeetsRules plant → (ports : List Step) → ports ≡ all_ports plant → (at far : Step) → Some far ≡ peer_of plant at.0.0 at.1.0 → Contains ports far
far_there plant rules ports all at far leads =
    subst (λ xs. Contains xs far) (sym all) (linked_among plant rules far at (mutual_peers plant rules at.0.0 at.1.0 far.0.0 far.1.0 (sym leads)))

pub placed_next : (plant : Plant) (ports slice : List Step) (place : ℕ) (outlets next : List Outlet) (o : Outlet) → ports ≡ all_ports plant → slice ≡ ports →
    slice_get ports place ≡ Some o.at → option_and_then (slice_get slice) o.far ≡ peer_of plant o.at.0.0 o.at.1.0 → next ≡ outlets ++ o ∷ [] →
    ArePlaced plant (all_ports plant) place outlets → ArePlaced plant (all_ports plant) (place + 1) next
placed_next plant ports slice place outlets next o all same there leads put h =
    subst (ArePlaced plant (all_ports plant) (place + 1)) (sym put)
    (one_placed plant (all_ports plant) place outlets o h (ap (λ xs. slice_get xs place) (sym all) ∙ there)
    (ap (λ xs. option_and_then (slice_get xs) o.far) (sym (same ∙ all)) ∙ leads))
