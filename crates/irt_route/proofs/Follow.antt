-- Best walks along ways.
use Rattle.std.proofs.Common.{◌≡◌, ◌<◌, ◌≤◌, ◌+◌, ◌-◌, ℕ, List, [], ◌∷◌, ◌++◌, length, get_or, Option, Some, None, sym, ◌∙◌, ap, subst, arith, append_assoc}
use Rattle.std.proofs.lemmas.List.{append-nil}
use Rattle.irt_base.specs.declared.numbers.DevId.{DevId}
use Rattle.irt_base.specs.declared.numbers.PortNo.{PortNo}
use Rattle.irt_route.specs.declared.next_hops.NextHop.{NextHop}
use Rattle.irt_route.specs.declared.next_hops.NextHops.{NextHops}
use Rattle.irt_route.specs.Walks.{Peers, IsBestWalk, IsFirstStep, HasHops, far_of}
use Rattle.irt_route.specs.NextHops.{IsNextHopOf, IsNextHop, AreNextHops, port_of}
use Rattle.irt_route.proofs.WalkLaws.{same_best, best_next}

step_on : (peers : Peers) (start : DevId) (end : ℕ) (port p : PortNo) (rest : List PortNo) (next : DevId) → port ≡ p
    → next ≡ far_of start (peers start.0 port.0) → IsBestWalk peers start.0 (p ∷ rest) end
    → (more : List PortNo) × (p ∷ rest ≡ port ∷ more) × IsBestWalk peers next.0 more end
step_on peers start end port p rest next same on best =
    let (far, at, after) = best_next peers start.0 p rest end best in
    let there : next ≡ far.0 = on ∙ ap (λ (q : PortNo). far_of start (peers start.0 q.0)) same ∙ ap (far_of start) at in
    (rest, ap (λ (q : PortNo). q ∷ rest) (sym same), subst (λ (d : DevId). IsBestWalk peers d.0 rest end) (sym there) after)

steps_of : (peers : Peers) (start : DevId) (end : ℕ) (port : PortNo) (next : DevId) (way : Option NextHop) → IsNextHop peers end start.0 way → port ≡ port_of way
    → next ≡ far_of start (peers start.0 port.0) → (ports : List PortNo) → IsBestWalk peers start.0 ports end → 0 < length ports
    → (rest : List PortNo) × (ports ≡ port ∷ rest) × IsBestWalk peers next.0 rest end
steps_of peers start end port next None apart is on ports best some = absurd (apart ports best.walk)
steps_of peers start end port next (Some w) (whole, other, of) is on [] best some = absurd (omega arith)
steps_of peers start end port next (Some w) (whole, other, of) is on (p ∷ rest) best some =
    let same = same_best peers start.0 whole (p ∷ rest) end other best in
    let begins : IsNextHopOf (p ∷ rest) w = subst (λ (ps : List PortNo). IsNextHopOf ps w) same of in
    step_on peers start end port p rest next (is ∙ begins.1) on best

pub first_step : (peers : Peers) (ways : NextHops) (start : DevId) (port : PortNo) (next : DevId) (way : Option NextHop) (peer : Option (DevId × PortNo))
    → AreNextHops peers ways → way ≡ get_or ways.table start.0 None → port ≡ port_of way → peer ≡ peers start.0 port.0 → next ≡ far_of start peer
    → IsFirstStep peers start.0 ways.target.0 (port, next)
first_step peers ways start port next way peer are there is at on =
    steps_of peers start ways.target.0 port next way (subst (λ (w : Option NextHop). IsNextHop peers ways.target.0 start.0 w) (sym there) (are start.0)) is
    (on ∙ ap (far_of start) at)

-- some of a walk is behind, and so many links ahead
pub record IsUnderWay (peers : Peers) (start at end left : ℕ) (walk : List PortNo) : Type 0 where
  pub rest : List PortNo
  pub ahead : IsBestWalk peers at rest end
  pub long : length rest ≡ left
  pub whole : IsBestWalk peers start (walk ++ rest) end

pub under_way-first : (peers : Peers) (start end hops : ℕ) (walk : List PortNo) → HasHops peers start end hops → walk ≡ []
    → IsUnderWay peers start start end (hops - 0) walk
under_way-first peers start end hops walk has none =
    record {
      rest = has.ports;
      ahead = has.best;
      long = omega (arith, has.long);
      whole = subst (λ (w : List PortNo). IsBestWalk peers start (w ++ has.ports) end) (sym none) has.best;
    }

pub under_way-more : (peers : Peers) (start at end hops i : ℕ) (walk more : List PortNo) (step : PortNo × DevId) → IsUnderWay peers start at end (hops - i) walk
    → i < hops → IsFirstStep peers at end step → more ≡ walk ++ step.0 ∷ [] → IsUnderWay peers start step.1.0 end (hops - (i + 1)) more
under_way-more peers start at end hops i walk more step under below first is =
    let (rest, split, ahead) = first under.rest under.ahead (omega (arith, under.long)) in
    record {
      rest = rest;
      ahead = ahead;
      long = omega (arith, under.long, ap length split);
      whole =
          subst (λ (w : List PortNo). IsBestWalk peers start w end)
          (ap (λ r. walk ++ r) split ∙ sym (append_assoc walk (step.0 ∷ []) rest) ∙ ap (λ w. w ++ rest) (sym is)) under.whole;
    }

pub under_way-all : (peers : Peers) (start at end hops i : ℕ) (walk : List PortNo) → IsUnderWay peers start at end (hops - i) walk → hops ≤ i
    → IsBestWalk peers start walk end
under_way-all peers start at end hops i walk under all = whole_of under.rest (omega (arith, under.long)) under.whole
  where
    whole_of : (rest : List PortNo) → length rest ≡ 0 → IsBestWalk peers start (walk ++ rest) end → IsBestWalk peers start walk end
    whole_of [] none whole = subst (λ (w : List PortNo). IsBestWalk peers start w end) (append-nil walk) whole
    whole_of (p ∷ ps) none whole = absurd (omega arith)

-- the hops of a way
pub way_hops : (peers : Peers) (ways : NextHops) (start : ℕ) (way : NextHop) → AreNextHops peers ways → Some way ≡ get_or ways.table start None
    → HasHops peers start ways.target.0 way.hops
way_hops peers ways start way are there =
    let (ports, best, of) = subst (λ (w : Option NextHop). IsNextHop peers ways.target.0 start w) (sym there) (are start) in
    record { ports = ports; best = best; long = long_of ports of }
  where
    long_of : (ports : List PortNo) → IsNextHopOf ports way → length ports ≡ way.hops
    long_of [] of = sym of
    long_of (p ∷ ps) of = sym of.0
