-- The links of a best walk from device 0 are the distance by which the plant rules count.
use Rattle.std.proofs.Common.{◌≡◌, ◌<◌, ◌+◌, ◌==◌, ◌&&◌, ◌||◌, ℕ, zero, suc, Bool, true, false, cond, if◌then◌else◌, List, [], ◌∷◌, ◌++◌, length, get_or, Option, Some, None, option_map, find, Contains, inl, inr, refl, sym, ◌∙◌, ap, subst, arith}
use Rattle.std.proofs.lemmas.Bool.{cases_Bool, and_parts, and_from, or_cases, or_left, or_right, eqb-true, eq-eqb, false≢true}
use Rattle.std.proofs.lemmas.List.{length-append}
use Rattle.std.proofs.lemmas.Option.{same_Some}
use Rattle.std.specs.List.{AllByRecursion, IsDistinct}
use Rattle.irt_base.specs.Wiring.{begins_at, ends_at, touches, link_at, far_end, peer_of}
use Rattle.irt_base.specs.declared.numbers.DevId.{DevId}
use Rattle.irt_base.specs.declared.numbers.PortNo.{PortNo}
use Rattle.irt_base.specs.declared.plants.Link.{Link}
use Rattle.irt_base.specs.declared.plants.Plant.{Plant}
use Rattle.plant_rules.specs.Clocks.{Leads, IsDistance, IsClockWalk}
use Rattle.plant_rules.specs.Words.{share_port}
use Rattle.plant_rules.specs.Meets.{IsLink, MeetsRules}
use Rattle.irt_route.specs.Walks.{IsWalk, HasHops}
use Rattle.irt_route.proofs.TreeLaws.{walk_append}

-- what is found passes, and is there
found_in : {A : Type 0} (test : A → Bool) (xs : List A) (x : A) → find test xs ≡ Some x → Contains xs x × (test x ≡ true)
found_in test [] x at = absurd cc
found_in {A} test (y ∷ ys) x at =
    elim (cases_Bool (test y)) [
      | inl is ↦
          let same : y ≡ x = same_Some _ _ (sym (ap (λ b. cond b (Some y) (find test ys)) is) ∙ at) in
          ((0, omega arith, same), subst (λ (z : A). test z ≡ true) same is)
      | inr not_ ↦
          let ((k, within, there), passes) = found_in test ys x (sym (ap (λ b. cond b (Some y) (find test ys)) not_) ∙ at) in
          ((suc k, omega arith, there), passes)
    ]

-- the other end of a link
leads_by : (device port : ℕ) (l : Link) (first : Bool) → begins_at device port l ≡ first → touches device port l ≡ true
    → (far : DevId × PortNo) → (if first then (l.b, l.b_port) else (l.a, l.a_port)) ≡ far → Leads device far.0.0 l
leads_by device port l true is touch far same =
    inl (eqb-true l.a.0 device (and_parts (l.a.0 == device) (l.a_port.0 == port) is).0, ap (λ (f : DevId × PortNo). f.0.0) same)
leads_by device port l false is touch far same =
    elim (or_cases (begins_at device port l) (ends_at device port l) touch) [
      | inl first ↦ absurd (false≢true (sym is ∙ first))
      | inr second ↦
          inr (eqb-true l.b.0 device (and_parts (l.b.0 == device) (l.b_port.0 == port) second).0, ap (λ (f : DevId × PortNo). f.0.0) same)
    ]

link_of : (p : Plant) (device port : ℕ) (far : DevId × PortNo) (found : Option Link) → link_at p device port ≡ found
    → option_map (far_end device port) found ≡ Some far → (link : Link) × Contains p.links link × Leads device far.0.0 link
link_of p device port far None at is = absurd cc
link_of p device port far (Some l) at is =
    let (member, touch) = found_in (touches device port) p.links l at in
    (l, member, leads_by device port l (begins_at device port l) refl touch far (same_Some _ _ is))

-- a walk by ports is one by links
walk_on : (p : Plant) (ports : List PortNo) (n start end : ℕ) → IsClockWalk p n start → IsWalk (peer_of p) start ports end
    → IsClockWalk p (n + length ports) end
walk_on p [] n start end before walk =
    let P : ℕ → Type 0 = λ m. IsClockWalk p m end in
    let sum : n ≡ n + length {A = PortNo} [] = omega arith in
    subst P sum (subst (λ (d : ℕ). IsClockWalk p n d) walk before)
walk_on p (port ∷ rest) n start end before (far, at, walk) =
    let P : ℕ → Type 0 = λ m. IsClockWalk p m end in
    let sum : suc n + length rest ≡ n + length (port ∷ rest) = omega arith in
    subst P sum (walk_on p rest (suc n) far.0.0 end (start, before, link_of p start port.0 far (link_at p start port.0) refl at) walk)

-- the link of each of its ports is the first that touches it
first_touching : (p : Plant) (device port : ℕ) (links : List Link) (l : Link) → IsDistinct share_port links
    → ((m : Link) → touches device port m ≡ true → share_port m l ≡ true) → touches device port l ≡ true → Contains links l
    → find (touches device port) links ≡ Some l
unfolding IsDistinct
first_touching p device port [] l distinct shares touch (k, within, at) = absurd (omega arith)
first_touching p device port (m ∷ ms) l distinct shares touch (zero, within, at) =
    let first : touches device port m ≡ true = subst (λ (n : Link). touches device port n ≡ true) (sym at) touch in
    ap (λ b. cond b (Some m) (find (touches device port) ms)) first ∙ ap Some at
first_touching p device port (m ∷ ms) l distinct shares touch (suc k, within, at) =
    elim (cases_Bool (touches device port m)) [
      | inl also ↦ absurd (false≢true (sym (apart ms k distinct.0 (omega arith) at) ∙ shares m also))
      | inr other ↦
          ap (λ b. cond b (Some m) (find (touches device port) ms)) other
          ∙ first_touching p device port ms l distinct.1 shares touch (k, omega arith, at)
    ]
  where
    apart : (ns : List Link) (k : ℕ) → AllByRecursion (λ n. share_port m n ≡ false) ns → k < length ns → get_or ns k l ≡ l → share_port m l ≡ false
    apart [] k all within at = absurd (omega arith)
    apart (n ∷ ns) zero all within at = subst (λ (o : Link). share_port m o ≡ false) at all.0
    apart (n ∷ ns) (suc k) all within at = apart ns k all.1 (omega arith) at

all_in : {A : Type 0} (P : A → Type 0) (xs : List A) (x : A) → AllByRecursion P xs → Contains xs x → P x
all_in P [] x all (k, within, at) = absurd (omega arith)
all_in P (y ∷ ys) x all (zero, within, at) = subst P at all.0
all_in P (y ∷ ys) x all (suc k, within, at) = all_in P ys x all.1 (k, omega arith, at)

shares_first : (l m : Link) → touches l.a.0 l.a_port.0 m ≡ true → share_port m l ≡ true
shares_first l m h =
    elim (or_cases (begins_at l.a.0 l.a_port.0 m) (ends_at l.a.0 l.a_port.0 m) h) [
      | inl first ↦ or_left (begins_at l.a.0 l.a_port.0 m || begins_at l.b.0 l.b_port.0 m || ends_at l.a.0 l.a_port.0 m) (ends_at l.b.0 l.b_port.0 m)
          (or_left (begins_at l.a.0 l.a_port.0 m || begins_at l.b.0 l.b_port.0 m) (ends_at l.a.0 l.a_port.0 m)
          (or_left (begins_at l.a.0 l.a_port.0 m) (begins_at l.b.0 l.b_port.0 m) first))
      | inr second ↦ or_left (begins_at l.a.0 l.a_port.0 m || begins_at l.b.0 l.b_port.0 m || ends_at l.a.0 l.a_port.0 m) (ends_at l.b.0 l.b_port.0 m)
          (or_right (begins_at l.a.0 l.a_port.0 m || begins_at l.b.0 l.b_port.0 m) (ends_at l.a.0 l.a_port.0 m) second)
    ]

shares_second : (l m : Link) → touches l.b.0 l.b_port.0 m ≡ true → share_port m l ≡ true
shares_second l m h =
    elim (or_cases (begins_at l.b.0 l.b_port.0 m) (ends_at l.b.0 l.b_port.0 m) h) [
      | inl first ↦ or_left (begins_at l.a.0 l.a_port.0 m || begins_at l.b.0 l.b_port.0 m || ends_at l.a.0 l.a_port.0 m) (ends_at l.b.0 l.b_port.0 m)
          (or_left (begins_at l.a.0 l.a_port.0 m || begins_at l.b.0 l.b_port.0 m) (ends_at l.a.0 l.a_port.0 m)
          (or_right (begins_at l.a.0 l.a_port.0 m) (begins_at l.b.0 l.b_port.0 m) first))
      | inr second ↦ or_right (begins_at l.a.0 l.a_port.0 m || begins_at l.b.0 l.b_port.0 m || ends_at l.a.0 l.a_port.0 m) (ends_at l.b.0 l.b_port.0 m) second
    ]

begins_here : (l : Link) → begins_at l.a.0 l.a_port.0 l ≡ true
begins_here l = and_from (l.a.0 == l.a.0) (l.a_port.0 == l.a_port.0) (eq-eqb l.a.0 l.a.0 refl) (eq-eqb l.a_port.0 l.a_port.0 refl)

ends_here : (l : Link) → ends_at l.b.0 l.b_port.0 l ≡ true
ends_here l = and_from (l.b.0 == l.b.0) (l.b_port.0 == l.b_port.0) (eq-eqb l.b.0 l.b.0 refl) (eq-eqb l.b_port.0 l.b_port.0 refl)

not_first : (l : Link) → (l.a.0 == l.b.0) ≡ false → begins_at l.b.0 l.b_port.0 l ≡ false
not_first l other = ap (λ b. b && l.a_port.0 == l.b_port.0) other

-- the peers of a link's ports
first_peer : (p : Plant) (l : Link) → MeetsRules p → Contains p.links l → peer_of p l.a.0 l.a_port.0 ≡ Some (l.b, l.b_port)
first_peer p l m member =
    ap (option_map (far_end l.a.0 l.a_port.0))
    (first_touching p l.a.0 l.a_port.0 p.links l m.ports_differ (shares_first l)
    (or_left (begins_at l.a.0 l.a_port.0 l) (ends_at l.a.0 l.a_port.0 l) (begins_here l)) member)
    ∙ ap (λ b. Some (if b then (l.b, l.b_port) else (l.a, l.a_port))) (begins_here l)

second_peer : (p : Plant) (l : Link) → MeetsRules p → Contains p.links l → peer_of p l.b.0 l.b_port.0 ≡ Some (l.a, l.a_port)
second_peer p l m member =
    ap (option_map (far_end l.b.0 l.b_port.0))
    (first_touching p l.b.0 l.b_port.0 p.links l m.ports_differ (shares_second l)
    (or_right (begins_at l.b.0 l.b_port.0 l) (ends_at l.b.0 l.b_port.0 l) (ends_here l)) member)
    ∙ ap (λ b. Some (if b then (l.b, l.b_port) else (l.a, l.a_port))) (not_first l (all_in (IsLink p) p.links l m.links member).two_devices)

-- a link that leads from one device to another has a port there
port_of_link : (p : Plant) (before device : ℕ) (l : Link) → MeetsRules p → Contains p.links l → Leads before device l
    → (port : PortNo) × IsWalk (peer_of p) before (port ∷ []) device
port_of_link p before device l m member (inl there) =
    (l.a_port, ((l.b, l.b_port), ap (λ d. peer_of p d l.a_port.0) (sym there.0) ∙ first_peer p l m member, there.1))
port_of_link p before device l m member (inr back) =
    (l.b_port, ((l.a, l.a_port), ap (λ d. peer_of p d l.b_port.0) (sym back.0) ∙ second_peer p l m member, back.1))

-- a walk by links is one by ports
pub ports_of_links : (p : Plant) (n device : ℕ) → MeetsRules p → IsClockWalk p n device
    → (ports : List PortNo) × IsWalk (peer_of p) 0 ports device × (length ports ≡ n)
ports_of_links p zero device m walk = ([], sym walk, refl)
ports_of_links p (suc n) device m (before, walk, (l, member, lead)) =
    let (ports, on, long) = ports_of_links p n before m walk in
    let (port, last) = port_of_link p before device l m member lead in (
      ports ++ port ∷ [],
      walk_append (peer_of p) 0 ports (port ∷ []) before device on last,
      omega (arith, length-append ports (port ∷ []), one_long port, long),
    )
  where
    one_long : (q : PortNo) → length (q ∷ []) ≡ 1
    one_long q = refl

pub distance : (p : Plant) (device hops : ℕ) → MeetsRules p → HasHops (peer_of p) 0 device hops → IsDistance p device hops
distance p device hops m has =
    record {
      walk =
          (let P : ℕ → Type 0 = λ n. IsClockWalk p n device in
          let sum : 0 + length has.ports ≡ hops = omega (arith, has.long) in
          subst P sum (walk_on p has.ports 0 0 device refl has.best.walk));
      shortest = λ fewer walk.
          let (ports, other, long) = ports_of_links p fewer device m walk in
          omega (arith, has.best.shortest ports other, has.long, long);
    }
