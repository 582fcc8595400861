-- Links of a plant that meets its rules: their ports are there, and a hop after the red limit ends in the cycle.
use Rattle.std.proofs.Common.{◌≡◌, ℕ, ◌+◌, ◌≤◌, Bool, true, false, List, [], ◌∷◌, Option, Some, None, sym, ◌∙◌, ap₂, subst, refl, find, option_map, slice_get, length, true≢false, leb, inl, inr}
use Rattle.std.specs.Prelude.{◌==◌}
use Rattle.std.specs.List.{AllByRecursion}
use Rattle.std.specs.Option.{option_map_or}
use Rattle.std.proofs.lemmas.Bool.{cases_Bool, and_parts, or_cases, eqb-true, both_ways, cond-true, cond-false, leb-true}
use Rattle.std.proofs.lemmas.Option.{same_Some}
use Rattle.irt_base.specs.Cycle.{cycle_time, guard_time}
use Rattle.irt_base.specs.Valid.{IsWithin}
use Rattle.irt_base.specs.Wiring.{begins_at, ends_at, touches, link_at, far_end, peer_of, hop_of, hop_over, tx_delay, rx_delay}
use Rattle.irt_base.specs.declared.numbers.DevId.{DevId}
use Rattle.irt_base.specs.declared.numbers.PortNo.{PortNo}
use Rattle.irt_base.specs.declared.plants.Device.{Device}
use Rattle.irt_base.specs.declared.plants.Link.{Link}
use Rattle.irt_base.specs.declared.plants.Plant.{Plant}
use Rattle.plant_rules.specs.Words.{has_port, is_within, hop_there, hop_back}
use Rattle.plant_rules.specs.Meets.{HasPort, IsLink, MeetsRules}
use Rattle.fit_rules.proofs.Entries.{no_entry}

-- what is found passes the test, and has what all have
pub found : {X : Type 0} (test : X → Bool) (P : X → Type 0) (xs : List X) (x : X) → AllByRecursion P xs → find test xs ≡ Some x → (test x ≡ true) × P x
found test P [] x all is = no_entry x is
found test P (y ∷ ys) x all is =
    elim (cases_Bool (test y)) [
      | inl passes ↦
          let same : y ≡ x = same_Some y x (sym (cond-true (test y) (Some y) (find test ys) passes) ∙ is) in
          subst (λ z. (test z ≡ true) × P z) same (passes, all.0)
      | inr fails ↦ found test P ys x all.1 (sym (cond-false (test y) (Some y) (find test ys) fails) ∙ is)
    ]

pub mapped : {X Y : Type 0} (f : X → Y) (o : Option X) (y : Y) → option_map f o ≡ Some y → (x : X) × (o ≡ Some x) × (f x ≡ y)
mapped f None y is = no_entry y is
mapped f (Some x) y is = (x, refl, same_Some (f x) y is)

pub begins : (d p : ℕ) (l : Link) → begins_at d p l ≡ true → (l.a.0 ≡ d) × (l.a_port.0 ≡ p)
begins d p l h = let (one, two) = and_parts _ (l.a_port.0 == p) h in (eqb-true _ _ one, eqb-true _ _ two)

pub ends : (d p : ℕ) (l : Link) → ends_at d p l ≡ true → (l.b.0 ≡ d) × (l.b_port.0 ≡ p)
ends d p l h = let (one, two) = and_parts _ (l.b_port.0 == p) h in (eqb-true _ _ one, eqb-true _ _ two)

pub far_of_begin : (d p : ℕ) (l : Link) → begins_at d p l ≡ true → far_end d p l ≡ (l.b, l.b_port)
far_of_begin d p l h = cond-true (begins_at d p l) (l.b, l.b_port) (l.a, l.a_port) h

pub far_of_end : (d p : ℕ) (l : Link) → begins_at d p l ≡ false → far_end d p l ≡ (l.a, l.a_port)
far_of_end d p l h = cond-false (begins_at d p l) (l.b, l.b_port) (l.a, l.a_port) h

-- a port with a link is a port of its device
pub linked_port : (plant : Plant) → MeetsRules plant → (device port : ℕ) (far : DevId × PortNo) → peer_of plant device port ≡ Some far → HasPort plant device port
linked_port plant rules device port far is =
    let (l, at, _) = mapped (far_end device port) (link_at plant device port) far is in
    let (touched, link) = found (touches device port) (IsLink plant) plant.links l rules.links at in
    elim (or_cases (begins_at device port l) (ends_at device port l) touched) [
      | inl so ↦ let (one, two) = begins device port l so in ap₂ (has_port plant) (sym one) (sym two) ∙ link.first_port
      | inr so ↦ let (one, two) = ends device port l so in ap₂ (has_port plant) (sym one) (sym two) ∙ link.second_port
    ]

-- a port that is there belongs to a device
pub record IsPortOf (plant : Plant) (device port : ℕ) : Type 0 where
  pub d : Device
  pub held : slice_get plant.devices device ≡ Some d
  pub within : IsWithin 1 (length d.ports) port

abbrev has_port_in : ℕ → Device → Bool
has_port_in port d = is_within 1 (length d.ports) port

pub port_of : (plant : Plant) (device port : ℕ) → HasPort plant device port → IsPortOf plant device port
port_of plant device port has = go (slice_get plant.devices device) refl has
  where
    go : (o : Option Device) → slice_get plant.devices device ≡ o → option_map_or (has_port_in port) o false ≡ true → IsPortOf plant device port
    go None none is = absurd (true≢false (sym is))
    go (Some d) held is =
        let (low, high) = and_parts (leb 1 port) (leb port (length d.ports)) is in
        record { d = d; held = held; within = (leb-true 1 port low, leb-true port (length d.ports) high) }

pub peer_port : (plant : Plant) → MeetsRules plant → (device port : ℕ) (far : DevId × PortNo) → peer_of plant device port ≡ Some far → IsPortOf plant device port
peer_port plant rules device port far is = port_of plant device port (linked_port plant rules device port far is)

-- P10, for a hop from either end
pub hop_fits : (plant : Plant) → MeetsRules plant → (device port hop : ℕ) → hop_of plant device port ≡ Some hop →
    plant.red_max + hop + guard_time plant.window ≤ cycle_time plant.factor
hop_fits plant rules device port hop is =
    let (l, at, long) = mapped (hop_over plant device port) (link_at plant device port) hop is in
    let (touched, link) = found (touches device port) (IsLink plant) plant.links l rules.links at in
    elim (cases_Bool (begins_at device port l)) [
      | inl so ↦
          let (one, two) = begins device port l so in
          let far = far_of_begin device port l so in
          let same : hop_there plant l ≡ hop =
          (λ i. tx_delay plant (one i) (two i) + l.delay + rx_delay plant ((sym far) i).0.0 ((sym far) i).1.0) ∙ long in
          subst (λ n. plant.red_max + n + guard_time plant.window ≤ cycle_time plant.factor) same link.there
      | inr other ↦
          elim (or_cases (begins_at device port l) (ends_at device port l) touched) [
            | inl so ↦ absurd (both_ways _ other so)
            | inr so ↦
                let (one, two) = ends device port l so in
                let far = far_of_end device port l other in
                let same : hop_back plant l ≡ hop =
                (λ i. tx_delay plant (one i) (two i) + l.delay + rx_delay plant ((sym far) i).0.0 ((sym far) i).1.0) ∙ long in
                subst (λ n. plant.red_max + n + guard_time plant.window ≤ cycle_time plant.factor) same link.back
          ]
    ]
