-- Routes, demand by demand and entry by entry.
use Rattle.std.proofs.Common.{◌≡◌, ◌<◌, ◌≤◌, ◌+◌, ℕ, zero, suc, List, [], ◌∷◌, ◌++◌, length, get_or, take, map, replicate, Option, Some, None, Result, Ok, Err, IfOk, IfErr, Contains, ◌⊎◌, inl, inr, refl, sym, ◌∙◌, ap, subst, arith}
use Rattle.std.proofs.lemmas.Bool.{cases_eq}
use Rattle.std.proofs.lemmas.List.{take_more, take_all, get_or_append_left, get_or_push, length_push, map_push}
use Rattle.std.proofs.lemmas.List.Elements.{Contains-append_left, Contains-push, Contains-push_cases, Contains-get_or}
use Rattle.std.proofs.lemmas.Option.{get_or_from_slice_get, same_Some, slice_get_within, slice_get-get_or, slice_get_cases}
use Rattle.std.specs.List.{slice_get}
use Rattle.irt_base.specs.Wiring.{peer_of}
use Rattle.irt_base.specs.declared.limits.TheConstants.{MAX_DEVICES}
use Rattle.irt_base.specs.declared.numbers.DevId.{DevId}
use Rattle.irt_base.specs.declared.numbers.PortNo.{PortNo}
use Rattle.irt_base.specs.declared.plants.Demand.{Demand}
use Rattle.irt_base.specs.declared.plants.Traffic.{Traffic}
use Rattle.irt_base.specs.declared.plants.Plant.{Plant}
use Rattle.plant_rules.specs.Meets.{MeetsRules}
use Rattle.irt_route.specs.declared.fault.RouteFault.{RouteFault}
use Rattle.irt_route.specs.declared.fault.RouteFault.TheVariants as faults
use Rattle.irt_route.specs.declared.next_hops.NextHop.{NextHop}
use Rattle.irt_route.specs.declared.next_hops.NextHops.{NextHops}
use Rattle.irt_route.specs.Walks.{Peers, IsWalk, IsBestWalk, IsApart}
use Rattle.irt_route.specs.NextHops.{IsNextHop}
use Rattle.irt_route.specs.Trees.{Parents, parent_at, IsBestStep, IsTreeStep, IsTreeParent, AreParents, GrowsBy}
use Rattle.irt_route.specs.Routes.{RouteTables, IsAmong, IsConsumer, IsRoutesOf, IsUnreached, IsFirstPlace, AreReached, IsFirstCutTraffic, IsFaultOf, IsRouteFault, AreAllNextHops, AreDemandsWithin, AreTrafficWithin, AreTrees, AreTrafficWalks, IsTrafficFault}
use Rattle.link_index.specs.declared.index.Wire.{Wire}
use Rattle.link_index.specs.Index.{peer_in, IsIndexOf}
use Rattle.irt_route.proofs.ClockLaws.{same_peers}
use Rattle.irt_route.proofs.TreeLaws.{parents_none, parents_more, last_step}
use Rattle.irt_route.proofs.Fronts.{front_step}

-- an item of a list with one more
slice_get_push : {A : Type 0} (xs : List A) (y : A) (i : ℕ) (x : A) → slice_get (xs ++ y ∷ []) i ≡ Some x
    → (slice_get xs i ≡ Some x) ⊎ ((i ≡ length xs) × (y ≡ x))
slice_get_push [] y zero x at = inr (refl, same_Some y x at)
slice_get_push [] y (suc i) x at = absurd cc
slice_get_push (z ∷ xs) y zero x at = inl at
slice_get_push (z ∷ xs) y (suc i) x at =
    elim (slice_get_push xs y i x at) [ inl before ↦ inl before | inr last ↦ inr (ap suc last.0, last.1) ]

slice_get-take : {A : Type 0} (xs : List A) (n i : ℕ) (x : A) → i < n → slice_get xs i ≡ Some x → slice_get (take n xs) i ≡ Some x
slice_get-take [] n i x below at = absurd cc
slice_get-take (y ∷ xs) zero i x below at = absurd (omega arith)
slice_get-take (y ∷ xs) (suc n) zero x below at = at
slice_get-take (y ∷ xs) (suc n) (suc i) x below at = slice_get-take xs n i x (omega arith) at

-- one more traffic entry
walks_push : (peers : Peers) (xs : List Traffic) (ws : List (List PortNo)) (e : Traffic) (w : List PortNo) → AreTrafficWalks peers xs ws
    → IsBestWalk peers e.source.0 w e.target.0 → AreTrafficWalks peers (xs ++ e ∷ []) (ws ++ w ∷ [])
walks_push peers xs ws e w are best =
    record {
      count = length_push ws w ∙ ap (λ n. n + 1) are.count ∙ sym (length_push xs e);
      each = λ index entry at. elim (slice_get_push xs e index entry at) [
        | inl before ↦
            let inside : index < length ws = omega (arith, slice_get_within xs index entry before, are.count) in
            subst (λ (ps : List PortNo). IsBestWalk peers entry.source.0 ps entry.target.0) (sym (get_or_append_left ws (w ∷ []) [] index inside))
            (are.each index entry before)
        | inr last ↦
            let here : length ws ≡ index = are.count ∙ sym last.0 in
            subst (λ (ps : List PortNo). IsBestWalk peers entry.source.0 ps entry.target.0) (sym (get_or_push ws w [] index here))
            (subst (λ (t : Traffic). IsBestWalk peers t.source.0 w t.target.0) last.1 best)
      ];
    }

pub walks_more : (W : Type 0) (peers : Peers) (items : W → List PortNo) (xs : List Traffic) (i : ℕ) (e : Traffic) (walks now : List W) (walk : W)
    → i < length xs → get_or xs i e ≡ e → AreTrafficWalks peers (take i xs) (map items walks) → IsBestWalk peers e.source.0 (items walk) e.target.0
    → now ≡ walks ++ walk ∷ [] → AreTrafficWalks peers (take (i + 1) xs) (map items now)
walks_more W peers items xs i e walks now walk below at are best is =
    let more : take (i + 1) xs ≡ take i xs ++ e ∷ [] = take_more xs i e below ∙ ap (λ y. take i xs ++ y ∷ []) at in
    subst (λ (ts : List Traffic). AreTrafficWalks peers ts (map items now)) (sym more)
    (subst (λ (ws : List (List PortNo)). AreTrafficWalks peers (take i xs ++ e ∷ []) ws) (sym (ap (map items) is ∙ map_push items walks walk))
    (walks_push peers (take i xs) (map items walks) e (items walk) are best))

pub walks_done : (peers : Peers) (xs : List Traffic) (i : ℕ) (ws : List (List PortNo)) → length xs ≤ i → AreTrafficWalks peers (take i xs) ws
    → AreTrafficWalks peers xs ws
walks_done peers xs i ws past are = subst (λ (ts : List Traffic). AreTrafficWalks peers ts ws) (take_all i xs past) are

pub first_cut : (peers : Peers) (xs : List Traffic) (i : ℕ) (e : Traffic) (ws : List (List PortNo)) → i < length xs → get_or xs i e ≡ e
    → AreTrafficWalks peers (take i xs) ws → IsApart peers e.source.0 e.target.0 → IsFirstCutTraffic peers xs i
first_cut peers xs i e ws below at are apart =
    record {
      entry = e;
      there = slice_get-get_or xs i e below ∙ ap Some at;
      apart = apart;
      first = λ j t less there.
          let best = are.each j t (slice_get-take xs i j t less there) in (get_or ws j [], best.walk);
    }

pub target_within : (devices : ℕ) (xs : List Traffic) (i : ℕ) (d : Traffic) → AreTrafficWithin devices xs → i < length xs
    → (get_or xs i d).target.0 < devices
target_within devices xs i d within below = (within (get_or xs i d) (Contains-get_or xs i d below)).1

-- one more demand
trees_push : (peers : Peers) (xs : List Demand) (ts : List Parents) (d : Demand) (t : Parents) → AreTrees peers xs ts
    → AreParents (IsTreeStep peers d.provider.0 (IsConsumer d)) t → AreTrees peers (xs ++ d ∷ []) (ts ++ t ∷ [])
trees_push peers xs ts d t are tree =
    record {
      count = length_push ts t ∙ ap (λ n. n + 1) are.count ∙ sym (length_push xs d);
      each = λ index demand at. elim (slice_get_push xs d index demand at) [
        | inl before ↦
            let inside : index < length ts = omega (arith, slice_get_within xs index demand before, are.count) in
            subst (λ (ps : Parents). AreParents (IsTreeStep peers demand.provider.0 (IsConsumer demand)) ps)
            (sym (get_or_append_left ts (t ∷ []) [] index inside)) (are.each index demand before)
        | inr last ↦
            let here : length ts ≡ index = are.count ∙ sym last.0 in
            subst (λ (ps : Parents). AreParents (IsTreeStep peers demand.provider.0 (IsConsumer demand)) ps)
            (sym (get_or_push ts t [] index here))
            (subst (λ (e : Demand). AreParents (IsTreeStep peers e.provider.0 (IsConsumer e)) t) last.1 tree)
      ];
    }

pub trees_more : (peers : Peers) (xs : List Demand) (i : ℕ) (d : Demand) (trees now : List Parents) (tree : Parents) → i < length xs → get_or xs i d ≡ d
    → AreTrees peers (take i xs) trees → AreParents (IsTreeStep peers d.provider.0 (IsConsumer d)) tree → now ≡ trees ++ tree ∷ []
    → AreTrees peers (take (i + 1) xs) now
trees_more peers xs i d trees now tree below at are is same =
    let more : take (i + 1) xs ≡ take i xs ++ d ∷ [] = take_more xs i d below ∙ ap (λ y. take i xs ++ y ∷ []) at in
    subst (λ (ds : List Demand). AreTrees peers ds now) (sym more)
    (subst (λ (ts : List Parents). AreTrees peers (take i xs ++ d ∷ []) ts) (sym same) (trees_push peers (take i xs) trees d tree are is))

pub trees_done : (peers : Peers) (xs : List Demand) (i : ℕ) (ts : List Parents) → length xs ≤ i → AreTrees peers (take i xs) ts → AreTrees peers xs ts
trees_done peers xs i ts past are = subst (λ (ds : List Demand). AreTrees peers ds ts) (take_all i xs past) are

-- one more consumer
none_among : (e : ℕ) → IsAmong [] e → ⊥
none_among e (d, (k, within, at), is) = omega arith

pub tree_none : (peers : Peers) (start : ℕ) → AreParents (IsTreeStep peers start (IsAmong [])) (replicate MAX_DEVICES None)
tree_none peers start = parents_none peers start (IsAmong []) none_among

pub tree_more : (peers : Peers) (start : ℕ) (xs : List DevId) (i : ℕ) (x : DevId) (old new : Parents) → i < length xs → get_or xs i x ≡ x
    → AreParents (IsTreeStep peers start (IsAmong (take i xs))) old → GrowsBy (IsBestStep peers start x.0) old new
    → AreParents (IsTreeStep peers start (IsAmong (take (i + 1) xs))) new
tree_more peers start xs i x old new below at are grows =
    let more : take (i + 1) xs ≡ take i xs ++ x ∷ [] = take_more xs i x below ∙ ap (λ y. take i xs ++ y ∷ []) at in
    subst (λ (ds : List DevId). AreParents (IsTreeStep peers start (IsAmong ds)) new) (sym more)
    (parents_more peers start x.0 (IsAmong (take i xs)) (IsAmong (take i xs ++ x ∷ [])) old new
    (λ e among. (among.0, Contains-append_left (take i xs) (x ∷ []) among.0 among.1, among.2))
    (x, Contains-push (take i xs) x, refl)
    (λ e among. elim (Contains-push_cases (take i xs) x among.0 among.1) [
      | inl before ↦ inl (among.0, before, among.2)
      | inr last ↦ inr (sym (ap (λ (d : DevId). d.0) last ∙ among.2))
    ]) are grows)

pub tree_done : (peers : Peers) (start : ℕ) (demand : Demand) (xs : List DevId) (i : ℕ) (t : Parents) → xs ≡ demand.consumers → length xs ≤ i
    → AreParents (IsTreeStep peers start (IsAmong (take i xs))) t → AreParents (IsTreeStep peers start (IsConsumer demand)) t
tree_done peers start demand xs i t same past are =
    subst (λ (ds : List DevId). AreParents (IsTreeStep peers start (IsAmong ds)) t) (take_all i xs past ∙ same) are

-- what a table of parents says of a device
parent_from : (peers : Peers) (start : DevId) (IsEnd : ℕ → Type 0) (parents : Parents) (device : ℕ) → AreParents (IsTreeStep peers start.0 IsEnd) parents
    → (parent : Option (DevId × PortNo)) → parent_at parents device ≡ parent → IsTreeParent peers start.0 IsEnd device parent
parent_from peers start IsEnd parents device are (Some from) is = are.sound device from is
parent_from peers start IsEnd parents device are None is =
    elim (cases_eq device start.0) [
      | inl same ↦ inl same
      | inr other ↦ inr (λ on. off_tree on.end on.is_end on.front on.back on.best on.here other)
    ]
  where
    off_tree : (end : ℕ) → IsEnd end → (front back : List PortNo) → IsBestWalk peers start.0 (front ++ back) end → IsWalk peers start.0 front device
        → (device ≡ start.0 → ⊥) → ⊥
    off_tree end is_end [] back best here other = other (sym here)
    off_tree end is_end (p ∷ ps) back best here other =
        let last = last_step peers start p ps device here in
        are.complete device last.from (front_step peers start IsEnd device end (p ∷ ps) back is_end best last) is

-- where no consumer is without a walk, each has one
pub reached : (peers : Peers) (all : List NextHops) (demands : List Demand) → AreAllNextHops peers all → AreDemandsWithin (length all) demands
    → IsFirstPlace (IsUnreached peers demands) None → AreReached peers demands
reached peers all demands ways within none demand member device (c, among, same) =
    elim ((slice_get_cases all device).1) [
      | inl there ↦
          let (to, are) = ways.ways device there.0 there.2 in
          way_there (get_or there.0.table demand.provider.0 None)
          (subst (λ (d : ℕ). IsNextHop peers d demand.provider.0 (get_or there.0.table demand.provider.0 None)) to (are demand.provider.0))
      | inr past ↦ absurd (omega (arith, within demand member c among, same, past.0))
    ]
  where
    way_there : (way : Option NextHop) → IsNextHop peers device demand.provider.0 way → (ports : List PortNo) × IsBestWalk peers demand.provider.0 ports device
    way_there None apart =
        absurd (none demand.frame.0 device (demand, member, record { frame_is = refl; consumer = (c, among, same); apart = apart }))
    way_there (Some w) (ports, best, of) = (ports, best)

-- the answers
pub fault_with : (peers : Peers) (demands : List Demand) (entries : List Traffic) (fault : RouteFault) → AreReached peers demands
    → IsTrafficFault peers entries fault → IsFaultOf peers demands entries fault
fault_with peers demands entries faults.NoMemory are is = is
fault_with peers demands entries (faults.Unreachable frame device) are is = absurd is
fault_with peers demands entries (faults.NoPath traffic) are is = (are, is)

contains_at : {A : Type 0} (xs : List A) (i : ℕ) (x : A) → slice_get xs i ≡ Some x → Contains xs x
contains_at xs i x at = (i, slice_get_within xs i x at, get_or_from_slice_get xs i x x at)

routes_are : (p : Plant) (routes : RouteTables) → MeetsRules p → AreTrees (peer_of p) p.demands routes.parents
    → AreTrafficWalks (peer_of p) p.traffic routes.walks → AreReached (peer_of p) p.demands → IsRoutesOf p routes
routes_are p routes m trees walks are =
    record {
      rules = m;
      tree_count = trees.count;
      walk_count = walks.count;
      trees = λ index demand at.
          record {
            reached = are demand (contains_at p.demands index demand at);
            tree = λ device. parent_from (peer_of p) demand.provider (IsConsumer demand) (get_or routes.parents index []) device
                (trees.each index demand at) (parent_at (get_or routes.parents index []) device) refl;
          };
      walks = walks.each;
    }

-- over an index that is the plant's
pub routes_answer : (p : Plant) (peers : Peers) (result : Result RouteTables RouteFault) → MeetsRules p → peers ≡ peer_of p
    → IfOk result (λ routes. AreTrees peers p.demands routes.parents) → IfOk result (λ routes. AreTrafficWalks peers p.traffic routes.walks)
    → IfOk result (λ routes. AreReached peers p.demands) → IfOk result (λ routes. IsRoutesOf p routes)
routes_answer p peers (Ok routes) m same trees walks are =
    routes_are p routes m (subst (λ (q : Peers). AreTrees q p.demands routes.parents) same trees)
    (subst (λ (q : Peers). AreTrafficWalks q p.traffic routes.walks) same walks)
    (subst (λ (q : Peers). AreReached q p.demands) same are)
routes_answer p peers (Err fault) m same trees walks are = tt

pub route_fault_answer : (p : Plant) (peers : Peers) (result : Result RouteTables RouteFault) → peers ≡ peer_of p
    → IfErr result (IsFaultOf peers p.demands p.traffic) → IfErr result (IsRouteFault p)
route_fault_answer p peers (Ok routes) same is = tt
route_fault_answer p peers (Err fault) same is = subst (λ (q : Peers). IsFaultOf q p.demands p.traffic fault) same is

-- the network's index is the plant's
pub network_peers : (p : Plant) (rows index : List (List (Option Wire))) → IsIndexOf p rows → index ≡ rows → peer_in index ≡ peer_of p
network_peers p rows index is same = ap peer_in same ∙ same_peers p rows is

-- what the calls on a plant's network say
pub routes_of_plant : (p : Plant) (rows index : List (List (Option Wire))) (demands : List Demand) (entries : List Traffic)
    (result : Result RouteTables RouteFault) → MeetsRules p → IsIndexOf p rows → index ≡ rows → demands ≡ p.demands → entries ≡ p.traffic
    → IfOk result (λ routes. AreTrees (peer_in index) demands routes.parents)
    → IfOk result (λ routes. AreTrafficWalks (peer_in index) entries routes.walks) → IfOk result (λ routes. AreReached (peer_in index) demands)
    → IfOk result (λ routes. IsRoutesOf p routes)
routes_of_plant p rows index demands entries result m is same of_demands of_traffic trees walks are =
    routes_answer p (peer_in index) result m (network_peers p rows index is same)
    (subst (λ (ds : List Demand). IfOk result (λ routes. AreTrees (peer_in index) ds routes.parents)) of_demands trees)
    (subst (λ (ts : List Traffic). IfOk result (λ routes. AreTrafficWalks (peer_in index) ts routes.walks)) of_traffic walks)
    (subst (λ (ds : List Demand). IfOk result (λ (routes : RouteTables). AreReached (peer_in index) ds)) of_demands are)

pub fault_of_plant : (p : Plant) (rows index : List (List (Option Wire))) (demands : List Demand) (entries : List Traffic)
    (result : Result RouteTables RouteFault) → IsIndexOf p rows → index ≡ rows → demands ≡ p.demands → entries ≡ p.traffic
    → IfErr result (IsFaultOf (peer_in index) demands entries) → IfErr result (IsRouteFault p)
fault_of_plant p rows index demands entries result is same of_demands of_traffic fault =
    route_fault_answer p (peer_in index) result (network_peers p rows index is same)
    (subst (λ (ts : List Traffic). IfErr result (IsFaultOf (peer_in index) p.demands ts)) of_traffic
    (subst (λ (ds : List Demand). IfErr result (IsFaultOf (peer_in index) ds entries)) of_demands fault))
