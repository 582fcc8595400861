-- The clock tree, device by device.
use Rattle.std.proofs.Common.{◌≡◌, ◌<◌, ◌≤◌, ◌+◌, ℕ, List, [], ◌∷◌, length, get_or, set, replicate, Option, Some, None, Result, Ok, Err, IfOk, IfErr, ◌⊎◌, inl, inr, refl, sym, ◌∙◌, ap, subst, arith}
use Rattle.std.proofs.lemmas.Bool.{cases_eq, cases_lt}
use Rattle.std.proofs.lemmas.List.{get_or-set_same, get_or-set_other, get_or-replicate, get_or_past, length-set}
use Rattle.irt_base.specs.Wiring.{peer_of}
use Rattle.irt_base.specs.declared.limits.TheConstants.{MAX_DEVICES, MAX_PORTS}
use Rattle.irt_base.specs.declared.numbers.DevId.{DevId}
use Rattle.irt_base.specs.declared.numbers.PortNo.{PortNo}
use Rattle.irt_base.specs.declared.plants.Plant.{Plant}
use Rattle.plant_rules.specs.Meets.{MeetsRules}
use Rattle.link_index.specs.declared.index.Wire.{Wire}
use Rattle.link_index.specs.Index.{peer_in, IsIndexOf}
use Rattle.irt_route.specs.declared.fault.ClockFault.{ClockFault}
use Rattle.irt_route.specs.declared.fault.ClockFault.TheVariants as faults
use Rattle.irt_route.specs.Walks.{Peers, IsBestWalk, IsApart, HasHops}
use Rattle.irt_route.specs.declared.next_hops.NextHop.{NextHop}
use Rattle.irt_route.specs.declared.next_hops.NextHops.{NextHops}
use Rattle.irt_route.specs.NextHops.{IsWired, IsNextHop, AreNextHops}
use Rattle.irt_route.specs.Trees.{IsBestStep, IsTreeStep, Parents, parent_at, GrowsBy}
use Rattle.irt_route.specs.Clocks.{ClockTable, HasClocks, IsCutOff, IsClockTreeOf, IsClockFault, IsGrownTree, IsGrownFault, hops_in}
use Rattle.irt_route.proofs.TreeLaws.{parents_none, parents_more, none_to_start, last_step}
use Rattle.irt_route.proofs.Follow.{way_hops}
use Rattle.irt_route.proofs.Distances.{distance}

abbrev no_hops : List ℕ
no_hops = replicate MAX_DEVICES 0

zero_at : (device : ℕ) → get_or no_hops device 0 ≤ 0
zero_at device = elim (cases_lt device MAX_DEVICES) [
  | inl below ↦ omega (arith, get_or-replicate {A = ℕ} MAX_DEVICES device 0 0 below)
  | inr past ↦ omega (arith, get_or_past no_hops device 0 (omega arith))
]

pub clocks_none : (peers : Peers) → HasClocks peers 0 (replicate MAX_DEVICES None) no_hops
clocks_none peers =
    record {
      tree = parents_none peers 0 (λ d. d < 0) (λ e below. omega arith);
      long = refl;
      links = λ device below. absurd (omega arith);
      small = λ device. omega (arith, zero_at device);
    }

last_or_more : (n e : ℕ) → e < n + 1 → (e < n) ⊎ (e ≡ n)
last_or_more n e below = elim (cases_lt e n) [ inl less ↦ inl less | inr above ↦ inr (omega arith) ]

pub clocks_more : (peers : Peers) (n i hop : ℕ) (parents now : Parents) (hops : List ℕ) → n < MAX_DEVICES → hop < 256 → i ≡ n
    → HasClocks peers n parents hops → GrowsBy (IsBestStep peers 0 n) parents now → HasHops peers 0 n hop → HasClocks peers (n + 1) now (set hops i hop)
clocks_more peers n i hop parents now hops there small at has grows links =
    record {
      tree = parents_more peers 0 n (λ d. d < n) (λ d. d < n + 1) parents now (λ e below. omega arith) (omega arith) (last_or_more n) has.tree grows;
      long = length-set hops i hop ∙ has.long;
      links = λ device below. elim (cases_eq device i) [
        | inl here ↦
            let same : device ≡ n = here ∙ at in
            subst (λ (h : ℕ). HasHops peers 0 device h) (sym (value_here device here))
            (subst (λ (d : ℕ). HasHops peers 0 d hop) (sym same) links)
        | inr other ↦
            subst (λ (h : ℕ). HasHops peers 0 device h) (sym (get_or-set_other hops i device hop 0 other))
            (has.links device (omega (arith, other)))
      ];
      small = λ device. elim (cases_eq device i) [
        | inl here ↦ omega (arith, value_here device here)
        | inr other ↦ omega (arith, get_or-set_other hops i device hop 0 other, has.small device)
      ];
    }
  where
    value_here : (device : ℕ) → device ≡ i → get_or (set hops i hop) device 0 ≡ hop
    value_here device here =
        let inside : i < length hops = omega (arith, has.long) in
        ap (λ d. get_or (set hops i hop) d 0) here ∙ get_or-set_same hops i hop 0 inside

pub cut_off : (peers : Peers) (devices device : ℕ) (parents : Parents) (hops : List ℕ) → device < devices → HasClocks peers device parents hops
    → IsApart peers 0 device → IsCutOff peers devices device
cut_off peers devices device parents hops there has apart =
    record {
      there = there;
      apart = apart;
      least = λ other below. let found = has.links other below in (found.ports, found.best.walk);
    }

-- a plant's wiring
pub wired : (p : Plant) (rows : List (List (Option Wire))) → MeetsRules p → IsIndexOf p rows → IsWired (peer_in rows)
wired p rows m is =
    record {
      ends = λ device port far at.
          let (here, within, there) = is.within device port far (sym (is.peers device port) ∙ at) in
          (omega (arith, m.device_count.1), omega arith, omega (arith, m.device_count.1));
    }

pub same_peers : (p : Plant) (rows : List (List (Option Wire))) → IsIndexOf p rows → peer_in rows ≡ peer_of p
same_peers p rows is = λ i device port. is.peers device port i

no_some : (x : DevId × PortNo) → None ≡ Some x → ⊥
no_some x e = cc

parent_there : (peers : Peers) (n device : ℕ) (parents : Parents) (hops : List ℕ) (parent : Option (DevId × PortNo)) → HasClocks peers n parents hops
    → 0 < device → device < n → parent_at parents device ≡ parent
    → (from : DevId × PortNo) × (parent ≡ Some from) × IsTreeStep peers 0 (λ d. d < n) from device
parent_there peers n device parents hops (Some from) has some below is = (from, refl, has.tree.sound device from is)
parent_there peers n device parents hops None has some below is = absurd (none_there (has.links device below).ports (has.links device below).best)
  where
    none_there : (ports : List PortNo) → IsBestWalk peers 0 ports device → ⊥
    none_there [] best = omega (arith, best.walk)
    none_there (p ∷ ps) best =
        let last = last_step peers (record { 0 = 0 }) p ps device best.walk in
        has.tree.complete device last.from
        (record { end = device; is_end = below; step = record { ports = p ∷ ps; best = best; step = last.step } }) is

no_parent : (peers : Peers) (n device : ℕ) (parents : Parents) (hops : List ℕ) (parent : Option (DevId × PortNo)) → HasClocks peers n parents hops
    → ((from : DevId × PortNo) → IsTreeStep peers 0 (λ d. d < n) from device → ⊥) → parent_at parents device ≡ parent → parent ≡ None
no_parent peers n device parents hops None has none is = refl
no_parent peers n device parents hops (Some from) has none is = absurd (none from (has.tree.sound device from is))

pub tree_of : (p : Plant) (tree : ClockTable) → MeetsRules p
    → ((device port : ℕ) (far : DevId × PortNo) → peer_of p device port ≡ Some far
    → (device < length p.devices) × (port ≤ MAX_PORTS) × (far.0.0 < length p.devices))
    → IsGrownTree (peer_of p) (length p.devices) tree → IsClockTreeOf p tree
tree_of p tree m within has =
    let n = length p.devices in
    record {
      rules = m;
      root = no_parent (peer_of p) n 0 tree.parents tree.hops (parent_at tree.parents 0) has
          (λ from step. none_to_start (peer_of p) 0 step.end from step.step) refl;
      parents = λ device some below. parent_there (peer_of p) n device tree.parents tree.hops (parent_at tree.parents device) has some below refl;
      past = λ device past. no_parent (peer_of p) n device tree.parents tree.hops (parent_at tree.parents device) has
          (λ from step.
          let one = step.step.step in
          let (_, _, inside) = within from.0.0 from.1.0 one.far one.over in
          omega (arith, one.there)) refl;
      hops = has.links;
      distance = λ device below. distance p device (hops_in tree device) m (has.links device below);
      small = has.small;
    }

-- what a device's way says
pub way_none : (peers : Peers) (ways : NextHops) (start : ℕ) (device : DevId) → AreNextHops peers ways → ways.target ≡ device
    → None ≡ get_or ways.table start None → IsApart peers start device.0
way_none peers ways start device are target none =
    subst (λ (d : DevId). IsApart peers start d.0) target
    (subst (λ (w : Option NextHop). IsNextHop peers ways.target.0 start w) (sym none) (are start))

pub clocks_on : (peers : Peers) (ways : NextHops) (n i : ℕ) (way : NextHop) (parents now : Parents) (hops : List ℕ) → n < MAX_DEVICES → way.hops < 256 → i ≡ n
    → HasClocks peers n parents hops → AreNextHops peers ways → ways.target ≡ record { 0 = n } → Some way ≡ get_or ways.table 0 None
    → GrowsBy (IsBestStep peers 0 ways.target.0) parents now → HasClocks peers (n + 1) now (set hops i way.hops)
clocks_on peers ways n i way parents now hops there small at has are target is grows =
    clocks_more peers n i way.hops parents now hops there small at has
    (subst (λ (d : DevId). GrowsBy (IsBestStep peers 0 d.0) parents now) target grows)
    (subst (λ (d : DevId). HasHops peers 0 d.0 way.hops) target (way_hops peers ways 0 way are is))

pub tree_answer : (p : Plant) (rows : List (List (Option Wire))) (devices : ℕ) (result : Result ClockTable ClockFault) → MeetsRules p → IsIndexOf p rows
    → devices ≡ length p.devices → IfOk result (IsGrownTree (peer_in rows) devices) → IfOk result (λ tree. IsClockTreeOf p tree)
tree_answer p rows devices (Ok tree) m is count has =
    tree_of p tree m
    (λ device port far at. is.within device port far at)
    (subst (λ (n : ℕ). IsGrownTree (peer_of p) n tree) count
    (subst (λ (peers : Peers). IsGrownTree peers devices tree) (same_peers p rows is) has))
tree_answer p rows devices (Err fault) m is count has = tt

pub fault_answer : (p : Plant) (rows : List (List (Option Wire))) (devices : ℕ) (result : Result ClockTable ClockFault) → IsIndexOf p rows
    → devices ≡ length p.devices → IfErr result (IsGrownFault (peer_in rows) devices) → IfErr result (IsClockFault p)
fault_answer p rows devices (Ok tree) is count has = tt
fault_answer p rows devices (Err faults.NoMemory) is count has = has
fault_answer p rows devices (Err (faults.NoClock device)) is count has =
    subst (λ (n : ℕ). IsCutOff (peer_of p) n device.0) count
    (subst (λ (peers : Peers). IsCutOff peers devices device.0) (same_peers p rows is) has)
