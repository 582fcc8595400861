-- In an accepted plan a walk leads to every consumer, and a plant's traffic has one list of walks.
use Rattle.std.proofs.Common.{◌≡◌, ◌<◌, ℕ, zero, suc, inr, List, [], ◌∷◌, ◌++◌, length, Option, Some, None, IsSome, slice_get, slice_index_or, Contains, refl, sym, ◌∙◌, ap₂, subst, arith}
use Rattle.std.proofs.lemmas.Option.{same_Some}
use Rattle.irt_base.specs.Wiring.{peer_of}
use Rattle.irt_base.specs.declared.blocks.Bundle.{Bundle}
use Rattle.irt_base.specs.declared.numbers.DevId.{DevId}
use Rattle.irt_base.specs.declared.numbers.PortNo.{PortNo}
use Rattle.irt_base.specs.declared.plants.Demand.{Demand}
use Rattle.irt_base.specs.declared.plants.Plant.{Plant}
use Rattle.irt_base.specs.declared.plants.Traffic.{Traffic}
use Rattle.irt_route.specs.Routes.{AreTrafficWalks, IsUnreached}
use Rattle.irt_route.specs.Walks.{Peers, IsWalk, IsBestWalk}
use Rattle.irt_route.proofs.TreeLaws.{walk_append}
use Rattle.fit_rules.proofs.Finding.{demand_found}
use Rattle.fit_rules.proofs.Lists.{place_of as place_in}
use Rattle.plan_rules.specs.Places.{IsAccepted, place_of}
use Rattle.plan_rules.specs.Plan.{IsPlan, setup_of}
use Rattle.plan_rules.specs.Tree.{IsReached, here, through, IsInTree, Consumes}
use Rattle.plan_rules.specs.Way.{Setup, entry_at}

-- a chain of parents is a walk from the provider
walk_of : (setup : Setup) (provider frame device : ℕ) → IsReached setup provider frame device → (ports : List PortNo) × IsWalk (peer_of setup.plant) provider ports device
walk_of setup provider frame _ here = ([], refl)
walk_of setup provider frame _ (through device e parent port stands from before) =
    let (ports, walk) = walk_of setup provider frame parent before in
    let last : PortNo = record { 0 = port } in
    let far : DevId × PortNo = (record { 0 = device }, record { 0 = e.rx_port }) in
    (ports ++ last ∷ [], walk_append (peer_of setup.plant) provider ports (last ∷ []) parent device walk (far, from.leads, refl))

some_of : {X : Type 0} (o : Option X) → IsSome o → (x : X) × (o ≡ Some x)
some_of None some = absurd (cc)
some_of (Some x) some = (x, refl)

-- a device of this number is the device
consumes_it : (demand : Demand) (device : ℕ) (d : DevId) → Contains demand.consumers d → d.0 ≡ device → Consumes demand device
consumes_it demand device d among is =
    let same : d ≡ record { 0 = device } = λ i. record { 0 = is i } in
    subst (λ (x : DevId). Contains demand.consumers x) same among

pub consumers_are_reached : (plant : Plant) (bundles : List Bundle) → IsPlan plant bundles → IsAccepted plant bundles → (frame device : ℕ) →
    IsUnreached (peer_of plant) plant.demands frame device → ⊥
consumers_are_reached plant bundles plan accepted frame device (demand, among, un) =
    let setup = setup_of plant bundles in
    let (index, at) = place_in plant.demands demand among in
    let wanted = demand_found plant plan.rules index frame demand at un.frame_is in
    let (d, consumer, is) = un.consumer in
    let tree : IsInTree setup device frame = accepted 2 (place_of device 0 frame) in
    let (e, stands) = some_of (entry_at setup device frame) (tree.present demand wanted (inr (consumes_it demand device d consumer is))) in
    let (own, named, entry) = tree.each e stands in
    let same : own ≡ demand = same_Some own demand (sym named ∙ wanted) in
    let (ports, walk) = walk_of setup own.provider.0 own.frame.0 device entry.reached in
    un.apart ports (subst (λ (x : Demand). IsWalk (peer_of plant) x.provider.0 ports device) same walk)

-- lists that agree at every place
same_list : {X : Type 0} (xs ys : List X) (d : X) → length xs ≡ length ys → ((i : ℕ) → i < length xs → slice_index_or xs i d ≡ slice_index_or ys i d) → xs ≡ ys
same_list [] [] d long each = refl
same_list [] (y ∷ ys) d long each = absurd (omega (arith, long))
same_list (x ∷ xs) [] d long each = absurd (omega (arith, long))
same_list (x ∷ xs) (y ∷ ys) d long each = ap₂ (λ z zs. z ∷ zs) (each 0 (omega arith)) (same_list xs ys d (omega (arith, long)) (λ i within. each (suc i) (omega (arith, within))))

some_at : {X : Type 0} (xs : List X) (m : ℕ) → m < length xs → (x : X) × (slice_get xs m ≡ Some x)
some_at [] m below = absurd (omega (arith, below))
some_at (x ∷ xs) zero below = (x, refl)
some_at (x ∷ xs) (suc m) below = some_at xs m (omega (arith, below))

-- there is one best walk
abbrev pub OneWalk : Type 0
OneWalk = (peers : Peers) (start : ℕ) (ports others : List PortNo) (end : ℕ) → IsBestWalk peers start ports end → IsBestWalk peers start others end → ports ≡ others

pub one_list_of_walks : OneWalk → (peers : Peers) (entries : List Traffic) (walks others : List (List PortNo)) → AreTrafficWalks peers entries walks →
    AreTrafficWalks peers entries others → walks ≡ others
one_list_of_walks law peers entries walks others first second =
    let counts = first.count in
    same_list walks others [] (first.count ∙ sym second.count)
    (λ i within. let (t, at) = some_at entries i (omega (arith, counts, within)) in
    law peers t.source.0 (slice_index_or walks i []) (slice_index_or others i []) t.target.0 (first.each i t at) (second.each i t at))
