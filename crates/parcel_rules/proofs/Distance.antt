-- On a shortest walk each step leaves one link less to go.
use Rattle.std.proofs.Common.{◌≡◌, ℕ, suc, ◌+◌, ◌≤◌, Bool, true, false, cond, List, [], ◌∷◌, length, Some, find, refl, sym, ◌∙◌, ap, subst, arith, inl, inr}
use Rattle.std.specs.Prelude.{if◌then◌else◌}
use Rattle.std.proofs.lemmas.Bool.{cases_Bool, eqb-true, eq-eqb, cond-true, cond-false}
use Rattle.std.proofs.lemmas.Option.{same_Some}
use Rattle.irt_base.specs.Wiring.{peer_of}
use Rattle.irt_base.specs.declared.numbers.DevId.{DevId}
use Rattle.irt_base.specs.declared.numbers.PortNo.{PortNo}
use Rattle.irt_base.specs.declared.plants.Plant.{Plant}
use Rattle.irt_route.specs.Walks.{IsWalk, far_of}
use Rattle.parcel_rules.specs.Room.{links_left}
use Rattle.parcel_rules.specs.Steps.{Step, steps_from, leaves_from, step_at}
use Rattle.parcel_rules.proofs.Placed.{goes_on}

module _ (plant : Plant) where
  steps_count : (start : DevId) (ports : List PortNo) → length (steps_from plant start ports) ≡ length ports
  steps_count start [] = refl
  steps_count start (port ∷ more) = ap (λ (n : ℕ). suc n) (steps_count (far_of start (peer_of plant start.0 port.0)) more)

  left_here : (device : DevId) (step : Step) (more : List Step) → leaves_from device step ≡ true → links_left device (step ∷ more) ≡ length (step ∷ more)
  left_here device step more is = ap (λ (b : Bool). if b then length (step ∷ more) else links_left device more) is

  left_later : (device : DevId) (step : Step) (more : List Step) → leaves_from device step ≡ false → links_left device (step ∷ more) ≡ links_left device more
  left_later device step more is = ap (λ (b : Bool). if b then length (step ∷ more) else links_left device more) is

  -- at the start all links are to go
  pub left_at_start : (start : DevId) (ports : List PortNo) → links_left start (steps_from plant start ports) ≡ length ports
  left_at_start start [] = refl
  left_at_start start (port ∷ more) =
      left_here start (start, port) (steps_from plant (far_of start (peer_of plant start.0 port.0)) more) (eq-eqb start.0 start.0 refl)
      ∙ steps_count start (port ∷ more)

  -- a walk from a device to the end, no longer than another list of ports
  record HasWayWithin (end : ℕ) (device : DevId) (ports : List PortNo) : Type 0 where
    others : List PortNo
    walk : IsWalk (peer_of plant) device.0 others end
    short : length others ≤ length ports

  -- from each step of a walk a part of it leads on
  way_from : (start : DevId) (ports : List PortNo) (end : ℕ) → IsWalk (peer_of plant) start.0 ports end → (device : DevId) (step : Step) →
      find (leaves_from device) (steps_from plant start ports) ≡ Some step → HasWayWithin end device ports
  way_from start [] end walk device step is = absurd (cc)
  way_from start (port ∷ more) end (far, leads, rest) device step is =
      let Steps : DevId → List Step = λ d. steps_from plant d more in
      let next : DevId = far_of start (peer_of plant start.0 port.0) in
      elim (cases_Bool (leaves_from device (start, port))) [
        | inl here ↦ record {
          others = port ∷ more;
          walk = subst (λ (n : ℕ). IsWalk (peer_of plant) n (port ∷ more) end) (eqb-true start.0 device.0 here) (far, leads, rest);
          short = omega arith;
        }
        | inr not_here ↦
            let tail : find (leaves_from device) (Steps next) ≡ Some step =
            sym (cond-false (leaves_from device (start, port)) (Some (start, port)) (find (leaves_from device) (Steps next)) not_here) ∙ is in
            let way = way_from far.0 more end rest device step (subst (λ (d : DevId). find (leaves_from device) (Steps d) ≡ Some step) (ap (far_of start) leads) tail) in
            let short = way.short in
            record { others = way.others; walk = way.walk; short = omega arith }
      ]

  -- no walk to the end is shorter
  abbrev pub IsShortest : DevId → List PortNo → ℕ → Type 0
  IsShortest start ports end = (others : List PortNo) → IsWalk (peer_of plant) start.0 others end → length ports ≤ length others

  -- a device from which a part of a shortest walk leads on is not its start
  not_start : (start far : DevId) (port : PortNo) (more : List PortNo) (end : ℕ) → IsShortest start (port ∷ more) end → HasWayWithin end far more →
      (b : Bool) → leaves_from far (start, port) ≡ b → leaves_from far (start, port) ≡ false
  not_start start far port more end shortest way false is = is
  not_start start far port more end shortest way true is =
      let walk = subst (λ (n : ℕ). IsWalk (peer_of plant) n way.others end) (sym (eqb-true start.0 far.0 is)) way.walk in
      let least = shortest way.others walk in
      let short = way.short in
      absurd (omega arith)

  shortest_rest : (start : DevId) (port : PortNo) (more : List PortNo) (end : ℕ) (far : Step) → peer_of plant start.0 port.0 ≡ Some far →
      IsShortest start (port ∷ more) end → IsShortest far.0 more end
  shortest_rest start port more end far leads shortest others walk =
      let whole = shortest (port ∷ others) (far, leads, walk) in omega arith

  pub one_less : (start : DevId) (ports : List PortNo) (end : ℕ) → IsWalk (peer_of plant) start.0 ports end → IsShortest start ports end → (device : DevId) (at far : Step) →
      step_at plant start ports device ≡ Some at → peer_of plant at.0.0 at.1.0 ≡ Some far →
      links_left device (steps_from plant start ports) ≡ links_left far.0 (steps_from plant start ports) + 1
  one_less start [] end walk shortest device at far is over = absurd (cc)
  one_less start (port ∷ more) end (next, leads, rest) shortest device at far is over =
      let Steps : DevId → List Step = λ d. steps_from plant d more in
      let there : far_of start (peer_of plant start.0 port.0) ≡ next.0 = ap (far_of start) leads in
      let Goal : DevId → Type 0 = λ d. links_left device ((start, port) ∷ Steps d) ≡ links_left far.0 ((start, port) ∷ Steps d) + 1 in
      let Found : DevId → Type 0 = λ d. cond (leaves_from device (start, port)) (Some (start, port)) (find (leaves_from device) (Steps d)) ≡ Some at in
      let found : Found next.0 = subst Found there is in
      subst Goal (sym there)
      (elim (cases_Bool (leaves_from device (start, port))) [
        | inl here ↦
            let first : (start, port) ≡ at = same_Some (start, port) at (sym (cond-true (leaves_from device (start, port)) (Some (start, port)) (find (leaves_from device) (Steps next.0)) here) ∙ found) in
            let same : next ≡ far = same_Some next far (sym leads ∙ ap (λ (s : Step). peer_of plant s.0.0 s.1.0) first ∙ over) in
            let way : HasWayWithin end next.0 more = record { others = more; walk = rest; short = omega arith } in
            let away = not_start start next.0 port more end shortest way (leaves_from next.0 (start, port)) refl in
            let whole = left_here device (start, port) (Steps next.0) here in
            let left = left_later next.0 (start, port) (Steps next.0) away in
            let tail = left_at_start next.0 more in
            let count = steps_count next.0 more in
            let moved = ap (λ (s : Step). links_left s.0 ((start, port) ∷ Steps next.0)) same in
            omega arith
        | inr not_here ↦
            let tail : step_at plant next.0 more device ≡ Some at =
            sym (cond-false (leaves_from device (start, port)) (Some (start, port)) (find (leaves_from device) (Steps next.0)) not_here) ∙ found in
            let less = one_less next.0 more end rest (shortest_rest start port more end next leads shortest) device at far tail over in
            let on = goes_on plant next.0 more end rest device at tail in
            let same : on.far ≡ far = same_Some on.far far (sym on.leads ∙ over) in
            let way : HasWayWithin end on.far.0 more = elim on.next [
              | inl ends ↦ record { others = []; walk = sym ends; short = omega arith }
              | inr (step, there) ↦ way_from next.0 more end rest on.far.0 step there
            ] in
            let away = not_start start far.0 port more end shortest (subst (λ (s : Step). HasWayWithin end s.0 more) same way) (leaves_from far.0 (start, port)) refl in
            let whole = left_later device (start, port) (Steps next.0) not_here in
            let left = left_later far.0 (start, port) (Steps next.0) away in
            omega arith
      ])
