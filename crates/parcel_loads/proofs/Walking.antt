-- One step more of a walk.
use Rattle.std.proofs.Common.{◌≡◌, ℕ, suc, ◌+◌, ◌<◌, List, [], ◌∷◌, ◌++◌, drop, length, get_or, sym, ◌∙◌, ap, add-one, append_assoc}
use Rattle.std.proofs.Math.Seq.{drop-cons}
use Rattle.irt_base.specs.Wiring.{peer_of}
use Rattle.irt_base.specs.declared.numbers.DevId.{DevId}
use Rattle.irt_base.specs.declared.numbers.PortNo.{PortNo}
use Rattle.irt_base.specs.declared.plants.Plant.{Plant}
use Rattle.irt_route.specs.Walks.{far_of}
use Rattle.link_index.specs.declared.index.Wire.{Wire}
use Rattle.link_index.specs.Index.{IsIndexOf, peer_in}
use Rattle.parcel_rules.specs.Steps.{Step, steps_from}
use Rattle.std.specs.Prelude.{Option}

pub step_more : (plant : Plant) (rows : List (List (Option Wire))) → IsIndexOf plant rows → (walk : List PortNo) (i : ℕ) (port : PortNo) → i < length walk →
    port ≡ get_or walk i port → (at next : DevId) → next ≡ far_of at (peer_in rows at.0 port.0) → (before whole : List Step) →
    before ++ steps_from plant at (drop i walk) ≡ whole → (before ++ (at, port) ∷ []) ++ steps_from plant next (drop (i + 1) walk) ≡ whole
step_more plant rows index walk i port below is at next leads before whole so_far =
    let there : next ≡ far_of at (peer_of plant at.0 port.0) = leads ∙ ap (far_of at) (index.peers at.0 port.0) in
    let rest : drop i walk ≡ port ∷ drop (suc i) walk = drop-cons walk i port below ∙ ap (λ (p : PortNo). p ∷ drop (suc i) walk) (sym is) in
    append_assoc before ((at, port) ∷ []) (steps_from plant next (drop (i + 1) walk))
    ∙ ap (λ (n : ℕ). before ++ (at, port) ∷ steps_from plant next (drop n walk)) (add-one i)
    ∙ ap (λ (d : DevId). before ++ (at, port) ∷ steps_from plant d (drop (suc i) walk)) there
    ∙ ap (λ (ports : List PortNo). before ++ steps_from plant at ports) (sym rest) ∙ so_far
