-- Ports of a plant that meets its rules.
use Rattle.std.proofs.Common.{◌≡◌, ℕ, ◌≤◌, Bool, true, false, List, [], ◌∷◌, Option, Some, None, sym, ◌∙◌, ap₂, subst, refl, find, option_map, slice_get, length, true≢false, leb, inl, inr}
use Rattle.std.specs.List.{AllByRecursion}
use Rattle.std.specs.Option.{option_map_or}
use Rattle.std.proofs.lemmas.Bool.{cases_Bool, and_parts, or_cases, eqb-true, cond-true, cond-false, leb-true}
use Rattle.std.proofs.lemmas.Option.{same_Some}
use Rattle.irt_base.specs.Wiring.{begins_at, ends_at, touches, link_at, far_end, peer_of}
use Rattle.irt_base.specs.declared.numbers.DevId.{DevId}
use Rattle.irt_base.specs.declared.numbers.PortNo.{PortNo}
use Rattle.irt_base.specs.declared.plants.Device.{Device}
use Rattle.irt_base.specs.declared.plants.Plant.{Plant}
use Rattle.plant_rules.specs.Words.{has_port, is_within}
use Rattle.plant_rules.specs.Meets.{HasPort, IsLink, MeetsRules}
use Rattle.frame_ways.proofs.Lists.{no_entry}

-- what is found passes the test, and has what all have
found : {X : Type 0} (test : X → Bool) (P : X → Type 0) (xs : List X) (x : X) → AllByRecursion P xs → find test xs ≡ Some x → (test x ≡ true) × P x
found test P [] x all is = no_entry x is
found test P (y ∷ ys) x all is =
    elim (cases_Bool (test y)) [
      | inl passes ↦
          let same : y ≡ x = same_Some y x (sym (cond-true (test y) (Some y) (find test ys) passes) ∙ is) in
          subst (λ z. (test z ≡ true) × P z) same (passes, all.0)
      | inr fails ↦ found test P ys x all.1 (sym (cond-false (test y) (Some y) (find test ys) fails) ∙ is)
    ]

mapped : {X Y : Type 0} (f : X → Y) (o : Option X) (y : Y) → option_map f o ≡ Some y → (x : X) × (o ≡ Some x)
mapped f None y is = no_entry y is
mapped f (Some x) y is = (x, refl)

-- a port with a link is a port of its device
linked_port : (plant : Plant) → MeetsRules plant → (device port : ℕ) (far : DevId × PortNo) → peer_of plant device port ≡ Some far → HasPort plant device port
linked_port plant rules device port far is =
    let (l, at) = mapped (far_end device port) (link_at plant device port) far is in
    let (touched, link) = found (touches device port) (IsLink plant) plant.links l rules.links at in
    elim (or_cases (begins_at device port l) (ends_at device port l) touched) [
      | inl so ↦ (let (one, two) = and_parts _ _ so in ap₂ (has_port plant) (sym (eqb-true l.a.0 device one)) (sym (eqb-true l.a_port.0 port two)) ∙ link.first_port)
      | inr so ↦ (let (one, two) = and_parts _ _ so in ap₂ (has_port plant) (sym (eqb-true l.b.0 device one)) (sym (eqb-true l.b_port.0 port two)) ∙ link.second_port)
    ]

port_from_one : (plant : Plant) (device port : ℕ) → HasPort plant device port → 1 ≤ port
port_from_one plant device port has = go (slice_get plant.devices device) has
  where
    go : (o : Option Device) → option_map_or (λ (d : Device). is_within 1 (length d.ports) port) o false ≡ true → 1 ≤ port
    go None is = absurd (true≢false (sym is))
    go (Some d) is = let (low, high) = and_parts (leb 1 port) (leb port (length d.ports)) is in leb-true 1 port low

-- ports with links count from 1
pub from_one : (plant : Plant) → MeetsRules plant → (device port : ℕ) (far : DevId × PortNo) → peer_of plant device port ≡ Some far → 1 ≤ port
from_one plant rules device port far is = port_from_one plant device port (linked_port plant rules device port far is)
