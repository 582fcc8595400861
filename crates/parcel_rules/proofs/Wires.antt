-- The ports of a plant that meets its rules: linked ports are among them, and each is the other's peer.
use Rattle.std.proofs.Common.{◌≡◌, ℕ, zero, suc, ◌+◌, ◌-◌, ◌<◌, ◌≤◌, true, false, List, [], ◌∷◌, map, length, Some, sym, ◌∙◌, ap, ap₂, subst, arith, inl, inr, slice_get, leb}
use Rattle.std.specs.Option.{option_map_or}
use Rattle.std.specs.List.{Contains, flat_map, range_with_len, enumerate_from}
use Rattle.std.proofs.lemmas.Bool.{and_parts, leb-true}
use Rattle.std.proofs.lemmas.List.Elements.{Contains-append_left, Contains-append_right}
use Rattle.std.proofs.lemmas.List.FromFn.{length-range_with_len, get_or-range_with_len, length-enumerate_from, get_or-enumerate_from}
use Rattle.std.proofs.lemmas.Option.{get_or_from_slice_get, slice_get_within, slice_get_cases}
use Rattle.irt_base.specs.Wiring.{begins_at, ends_at, touches, link_at, far_end, peer_of}
use Rattle.irt_base.specs.declared.plants.Device.{Device}
use Rattle.irt_base.specs.declared.plants.Plant.{Plant}
use Rattle.plant_rules.specs.Words.{is_within, has_port}
use Rattle.plant_rules.specs.Meets.{HasPort, IsLink, MeetsRules}
use Rattle.plan_rules.proofs.Wires.{begins, ends, found, mapped}
use Rattle.parcel_rules.specs.Steps.{Step}
use Rattle.parcel_rules.specs.Cycle.{ports_at, all_ports}
use Rattle.std.proofs.lemmas.Bool.{or_cases}

-- ---- members of joined lists

pub Contains-flat_map : {X A : Type 0} (f : X → List A) (xs : List X) (x : X) (y : A) → Contains xs x → Contains (f x) y → Contains (flat_map f xs) y
Contains-flat_map f [] x y (k, below, is) has = absurd (omega arith)
Contains-flat_map f (z ∷ zs) x y (zero, below, is) has =
    Contains-append_left (f z) (flat_map f zs) y (subst (λ w. Contains (f w) y) (sym is) has)
Contains-flat_map f (z ∷ zs) x y (suc k, below, is) has =
    Contains-append_right (f z) (flat_map f zs) y (Contains-flat_map f zs x y (k, omega arith, is) has)

pub Contains-map : {X A : Type 0} (f : X → A) (xs : List X) (x : X) → Contains xs x → Contains (map f xs) (f x)
Contains-map f [] x (k, below, is) = absurd (omega arith)
Contains-map f (z ∷ zs) x (zero, below, is) = (0, omega arith, ap f is)
Contains-map f (z ∷ zs) x (suc k, below, is) =
    let (j, within, same) = Contains-map f zs x (k, omega arith, is) in
    (suc j, omega arith, same)

in_range : (a n k : ℕ) → a ≤ k → k < a + n → Contains (range_with_len a n) k
in_range a n k low high =
    (k - a, omega (arith, length-range_with_len a n), get_or-range_with_len a n (k - a) k (omega arith) ∙ omega arith)

in_enumeration : {X : Type 0} (xs : List X) (k : ℕ) (x : X) → slice_get xs k ≡ Some x → Contains (enumerate_from 0 xs) (k, x)
in_enumeration xs k x is =
    let below = slice_get_within xs k x is in (
      k,
      omega (arith, length-enumerate_from 0 xs),
      get_or-enumerate_from 0 xs k (k, x) below ∙ (λ i. ((let e : 0 + k ≡ k = omega arith in e) i, get_or_from_slice_get xs k x x is i)),
    )

-- ---- ports

-- a port of a device is among the ports of the plant
pub port_among : (plant : Plant) (device port : ℕ) → HasPort plant device port → Contains (all_ports plant) (record { 0 = device }, record { 0 = port })
port_among plant device port has =
    elim (slice_get_cases plant.devices device).1 [
      | inl (d, below, is, same) ↦
          let within : is_within 1 (length d.ports) port ≡ true = sym (ap (λ o. option_map_or (λ (x : Device). is_within 1 (length x.ports) port) o false) is) ∙ has in
          let (low, high) = and_parts (leb 1 port) (leb port (length d.ports)) within in
          let from = leb-true 1 port low in
          let until = leb-true port (length d.ports) high in
          Contains-flat_map (λ (e : ℕ × Device). ports_at e.0 e.1) (enumerate_from 0 plant.devices) (device, d) (record { 0 = device }, record { 0 = port })
          (in_enumeration plant.devices device d is)
          (Contains-map (λ (n : ℕ). (record { 0 = device }, record { 0 = n })) (range_with_len 1 (length d.ports)) port
          (in_range 1 (length d.ports) port from (omega arith)))
      | inr (past, none) ↦
          let fails : has_port plant device port ≡ false = ap (λ o. option_map_or (λ (x : Device). is_within 1 (length x.ports) port) o false) none in
          absurd (let both = sym has ∙ fails in cc)
    ]

-- a port with a link is a port of its device
pub linked_among : (plant : Plant) → MeetsRules plant → (at far : Step) → peer_of plant at.0.0 at.1.0 ≡ Some far → Contains (all_ports plant) at
linked_among plant rules at far is =
    let (l, there, same) = mapped (far_end at.0.0 at.1.0) (link_at plant at.0.0 at.1.0) far is in
    let (touched, link) = found (touches at.0.0 at.1.0) (IsLink plant) plant.links l rules.links there in
    port_among plant at.0.0 at.1.0 (elim (or_cases (begins_at at.0.0 at.1.0 l) (ends_at at.0.0 at.1.0 l) touched) [
      | inl so ↦ let (one, two) = begins at.0.0 at.1.0 l so in ap₂ (has_port plant) (sym one) (sym two) ∙ link.first_port
      | inr so ↦ let (one, two) = ends at.0.0 at.1.0 l so in ap₂ (has_port plant) (sym one) (sym two) ∙ link.second_port
    ])
