-- Frames arrive by ports that devices have.
use Rattle.std.proofs.Common.{◌≡◌, ℕ, ◌<◌, ◌≤◌, true, false, List, length, Some, slice_get, sym, ◌∙◌, ap, ap₂, arith, inl, inr, leb}
use Rattle.std.specs.Option.{option_map_or}
use Rattle.std.proofs.lemmas.Bool.{and_parts, leb-true, or_cases}
use Rattle.std.proofs.lemmas.Option.{slice_get_cases, slice_get_within}
use Rattle.irt_base.specs.Wiring.{begins_at, ends_at, touches, link_at, far_end, peer_of}
use Rattle.irt_base.specs.declared.blocks.Bundle.{Bundle}
use Rattle.irt_base.specs.declared.plants.Device.{Device}
use Rattle.irt_base.specs.declared.plants.Plant.{Plant}
use Rattle.plant_rules.specs.Words.{is_within, has_port}
use Rattle.plant_rules.specs.Meets.{HasPort, IsLink, MeetsRules}
use Rattle.plan_rules.specs.Headers.{RepeatsPlant}
use Rattle.plan_rules.specs.Places.{IsAccepted, place_of}
use Rattle.plan_rules.specs.Plan.{IsPlan}
use Rattle.plan_rules.proofs.Wires.{begins, ends, found, mapped, mutual_peers}
use Rattle.net_turns.specs.Known.{IsPortOf}

-- a linked port is a port of its device
linked_port : (plant : Plant) → MeetsRules plant → (d p v q : ℕ) → peer_of plant d p ≡ Some (record { 0 = v }, record { 0 = q }) → HasPort plant d p
linked_port plant rules d p v q is =
    let (l, there, same) = mapped (far_end d p) (link_at plant d p) (record { 0 = v }, record { 0 = q }) is in
    let (touched, link) = found (touches d p) (IsLink plant) plant.links l rules.links there in
    elim (or_cases (begins_at d p l) (ends_at d p l) touched) [
      | inl so ↦ let (one, two) = begins d p l so in ap₂ (has_port plant) (sym one) (sym two) ∙ link.first_port
      | inr so ↦ let (one, two) = ends d p l so in ap₂ (has_port plant) (sym one) (sym two) ∙ link.second_port
    ]

-- the device of a port, and the port among its ports
record IsAmong (plant : Plant) (device port : ℕ) : Type 0 where
  pub d : Device
  pub held : slice_get plant.devices device ≡ Some d
  pub low : 1 ≤ port
  pub high : port ≤ length d.ports

among : (plant : Plant) (device port : ℕ) → HasPort plant device port → IsAmong plant device port
among plant device port has =
    elim (slice_get_cases plant.devices device).1 [
      | inl (d, below, is, same) ↦
          let within : is_within 1 (length d.ports) port ≡ true = sym (ap (λ o. option_map_or (λ (x : Device). is_within 1 (length x.ports) port) o false) is) ∙ has in
          let (low, high) = and_parts (leb 1 port) (leb port (length d.ports)) within in
          record { d = d; held = is; low = leb-true 1 port low; high = leb-true port (length d.ports) high }
      | inr (past, none) ↦
          let fails : has_port plant device port ≡ false = ap (λ o. option_map_or (λ (x : Device). is_within 1 (length x.ports) port) o false) none in
          absurd (let both = sym has ∙ fails in cc)
    ]

one_of : (bundles : List Bundle) (n : ℕ) → n < length bundles → (b : Bundle) × (slice_get bundles n ≡ Some b)
one_of bundles n below =
    elim (slice_get_cases bundles n).1 [
      | inl (b, low, is, same) ↦ (b, is)
      | inr (past, none) ↦ absurd (omega arith)
    ]

pub far_port : (plant : Plant) (bundles : List Bundle) → IsPlan plant bundles → IsAccepted plant bundles → (d p v q : ℕ) →
    peer_of plant d p ≡ Some (record { 0 = v }, record { 0 = q }) → IsPortOf bundles v q
far_port plant bundles plan accepted d p v q is =
    let at = among plant v q (linked_port plant plan.rules v q d p (mutual_peers plant plan.rules d p v q is)) in
    let below = slice_get_within plant.devices v at.d at.held in
    let count = plan.count in
    let (b, held) = one_of bundles v (omega arith) in
    let (first, begin) = one_of bundles 0 (omega arith) in
    let repeats : RepeatsPlant plant bundles (place_of v 0 0) = accepted 1 (place_of v 0 0) in
    let ports = (repeats at.d first b at.held begin held).ports in
    let low = at.low in
    let high = at.high in
    record { bundle = b; held = held; has = (low, omega arith) }
