-- What the links bring to the ports is what the ports at their other ends send.
use Rattle.std.proofs.Common.{◌≡◌, ℕ, Bool, true, false, Option, Some, None, refl, sym, ◌∙◌, ap}
use Rattle.std.specs.Prelude.{if◌then◌else◌}
use Rattle.std.specs.List.{sum_by}
use Rattle.irt_base.specs.Wiring.{peer_of}
use Rattle.irt_base.specs.declared.plants.Plant.{Plant}
use Rattle.plant_rules.specs.Meets.{MeetsRules}
use Rattle.plan_rules.proofs.Wires.{mutual_peers}
use Rattle.parcel_rules.specs.Steps.{Step}
use Rattle.parcel_rules.specs.Cycle.{all_ports}
use Rattle.parcel_rules.proofs.Ports.{ports_differ}
use Rattle.parcel_rules.proofs.Lists.{everywhere}
use Rattle.parcel_rules.proofs.Sums.{sum_alike, sum_none, sum_swap, sum_single, is_same, same_step, same_self}
use Rattle.parcel_rules.proofs.Wires.{linked_among}

-- the other end is this port
abbrev is_peer : Option Step → Step → Bool
is_peer None other = false
is_peer (Some far) other = is_same other far

-- of the other end of a port
abbrev pub over : Option Step → (Step → ℕ) → ℕ
over None g = 0
over (Some far) g = g far

module _ (plant : Plant) (rules : MeetsRules plant) where
  abbrev peer_at : Step → Option Step
  peer_at at = peer_of plant at.0.0 at.1.0

  -- one side of a pair of peers is the peer of the other
  true_back : (x y : Step) → is_peer (peer_at x) y ≡ true → is_peer (peer_at y) x ≡ true
  true_back x y is = by_peer (peer_at x) refl is
    where
      by_peer : (o : Option Step) → peer_at x ≡ o → is_peer o y ≡ true → is_peer (peer_at y) x ≡ true
      by_peer None none passed = absurd (cc)
      by_peer (Some far) at passed =
          let same : y ≡ far = same_step y far passed in
          let there : peer_at x ≡ Some y = at ∙ ap Some (sym same) in
          let back : peer_at y ≡ Some x = mutual_peers plant rules x.0.0 x.1.0 y.0.0 y.1.0 there in
          ap (λ o. is_peer o x) back ∙ same_self x

  peers_alike : (x y : Step) → is_peer (peer_at x) y ≡ is_peer (peer_at y) x
  peers_alike x y = by_tests (is_peer (peer_at x) y) (is_peer (peer_at y) x) refl refl
    where
      by_tests : (a b : Bool) → is_peer (peer_at x) y ≡ a → is_peer (peer_at y) x ≡ b → is_peer (peer_at x) y ≡ is_peer (peer_at y) x
      by_tests true b first second = first ∙ sym (true_back x y first)
      by_tests false true first second = true_back y x second ∙ sym second
      by_tests false false first second = first ∙ sym second

  -- what the other end gives, as a sum over all ports
  as_sum : (g : Step → ℕ) (x : Step) → sum_by (λ y. if is_peer (peer_at x) y then g y else 0) (all_ports plant) ≡ over (peer_at x) g
  as_sum g x = by_peer (peer_at x) refl
    where
      by_peer : (o : Option Step) → peer_at x ≡ o → sum_by (λ y. if is_peer o y then g y else 0) (all_ports plant) ≡ over o g
      by_peer None none = sum_none (all_ports plant)
      by_peer (Some far) at =
          sum_single g far (all_ports plant) (ports_differ plant)
          (linked_among plant rules far x (mutual_peers plant rules x.0.0 x.1.0 far.0.0 far.1.0 at))

  -- of each two peers, one sum goes by one of them, the other by the other
  pub sum_over_links : (g : Step → Step → ℕ) →
      sum_by (λ x. over (peer_at x) (λ y. g x y)) (all_ports plant) ≡ sum_by (λ y. over (peer_at y) (λ x. g x y)) (all_ports plant)
  sum_over_links g =
      sym (sum_alike (λ x. sum_by (λ y. if is_peer (peer_at x) y then g x y else 0) (all_ports plant)) (λ x. over (peer_at x) (λ y. g x y)) (all_ports plant)
      (everywhere (λ (x : Step). sum_by (λ y. if is_peer (peer_at x) y then g x y else 0) (all_ports plant) ≡ over (peer_at x) (λ y. g x y)) (all_ports plant)
      (λ x. as_sum (g x) x)))
      ∙ sum_swap (λ (x y : Step). if is_peer (peer_at x) y then g x y else 0) (all_ports plant) (all_ports plant)
      ∙ (λ i. sum_by (λ (y : Step). sum_by (λ (x : Step). if peers_alike x y i then g x y else 0) (all_ports plant)) (all_ports plant))
      ∙ sum_alike (λ y. sum_by (λ x. if is_peer (peer_at y) x then g x y else 0) (all_ports plant)) (λ y. over (peer_at y) (λ x. g x y)) (all_ports plant)
      (everywhere (λ (y : Step). sum_by (λ x. if is_peer (peer_at y) x then g x y else 0) (all_ports plant) ≡ over (peer_at y) (λ x. g x y)) (all_ports plant)
      (λ y. as_sum (λ x. g x y) y))
