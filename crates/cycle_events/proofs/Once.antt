-- At any time of a run each event stands at most once among those handled and those that wait.
use Rattle.std.proofs.Common.{◌≡◌, ℕ, ◌≤◌, ◌==◌, ◌&&◌, Bool, true, false, cond, List, [], ◌∷◌, ◌++◌, map, get_or, Option, Some, None, refl, sym, ◌∙◌, ap, subst, arith, All}
use Rattle.std.specs.Prelude.{ℤ, pos, ◌+ℤ◌}
use Rattle.std.specs.List.{Contains, count_by}
use Rattle.std.proofs.lemmas.Bool.{eqb-true, eq-eqb}
use Rattle.std.proofs.lemmas.Bool.Decides.{nat_tests}
use Rattle.std.proofs.lemmas.List.Elements.{All-contains}
use Rattle.std.proofs.lemmas.Option.{same_Some}
use Rattle.irt_base.specs.Wiring.{peer_of, hop_of}
use Rattle.irt_base.specs.declared.numbers.DevId.{DevId}
use Rattle.irt_base.specs.declared.numbers.PortNo.{PortNo}
use Rattle.irt_base.specs.declared.blocks.Entry.{Entry}
use Rattle.plan_rules.specs.Arrival.{Arrival, IsArrival}
use Rattle.plan_rules.specs.Network.{IsSentAt}
use Rattle.plan_rules.specs.Way.{entry_at, IsParent, IsLive, provided, forwarded}
use Rattle.cycle_events.specs.declared.events.Event.{Event}
use Rattle.cycle_events.specs.declared.events.What.{What}
use Rattle.cycle_events.specs.declared.events.What.TheVariants.{Start, Arrive}
use Rattle.plan_rules.specs.World.{is_in_step, is_uncut}
use Rattle.cycle_events.specs.Events.{Play, arrival_of, Happens, HappensAs, IsFirst, is_bit, ports_in, event, arrive_at, start_after, starts_at, causes, causes_as}
use Rattle.cycle_events.specs.Places.{is_start, is_arrival, starts_by, comes_to}
use Rattle.cycle_events.specs.Run.{IsBegun}
use Rattle.cycle_rows.proofs.Lists.{count_none}
use Rattle.cycle_events.proofs.Facts.{Facts}
use Rattle.cycle_events.proofs.Lists.{count_filter, count_map, count_same}
use Rattle.cycle_events.proofs.Steps.{arrival_from}
use Rattle.cycle_events.proofs.Worklist.{IsRun, as_often_as_cause, as_often_as_first}

-- ---- ports of an entry are different

one_port : (p : ℕ) → count_by (λ n. n == p) (1 ∷ 2 ∷ 3 ∷ 4 ∷ 5 ∷ 6 ∷ 7 ∷ []) ≤ 1
one_port p = grind (arith, nat_tests)

ports_once : (tx p : ℕ) → count_by (λ n. n == p) (ports_in tx) ≤ 1
ports_once tx p =
    let f = count_filter (λ n. n == p) (is_bit tx) (1 ∷ 2 ∷ 3 ∷ 4 ∷ 5 ∷ 6 ∷ 7 ∷ []) in
    let o = one_port p in
    omega arith

and_true : (a b c : Bool) → a ≡ true → b ≡ true → (a && (c && b)) ≡ c
and_true a b true p q = rw (p, q) refl
and_true a b false p q = rw p refl

and_first : (a b c : Bool) → a ≡ false → (a && (c && b)) ≡ false
and_first a b c p = rw p refl

and_second : (a b c : Bool) → b ≡ false → (a && (c && b)) ≡ false
and_second true b true p = p
and_second true b false p = refl
and_second false b c p = refl

-- ---- starts are caused by the arrival

-- what a device starts: at most once by a port, where it is the device and the frame
pub starts_counted : (at : ℤ) (v f d p g : ℕ) (tx : ℕ) →
    count_by (starts_by d p g) (map (λ port. event at v port f Start) (ports_in tx)) ≤ cond ((v == d) && (f == g)) 1 0
starts_counted at v f d p g tx = go (v == d) (f == g) refl refl
  where
    go : (a b : Bool) → (v == d) ≡ a → (f == g) ≡ b → count_by (starts_by d p g) (map (λ port. event at v port f Start) (ports_in tx)) ≤ cond (a && b) 1 0
    go true true x y =
        let m = count_map (starts_by d p g) (λ port. event at v port f Start) (ports_in tx) in
        let s = count_same (λ n. (v == d) && ((n == p) && (f == g))) (λ n. n == p) (ports_in tx) (λ n. and_true (v == d) (f == g) (n == p) x y) in
        let o = ports_once tx p in
        omega arith
    go true false x y =
        let m = count_map (starts_by d p g) (λ port. event at v port f Start) (ports_in tx) in
        let s = count_none (λ n. (v == d) && ((n == p) && (f == g))) (ports_in tx) (λ n is. and_second (v == d) (f == g) (n == p) y) in
        omega arith
    go false b x y =
        let m = count_map (starts_by d p g) (λ port. event at v port f Start) (ports_in tx) in
        let s = count_none (λ n. (v == d) && ((n == p) && (f == g))) (ports_in tx) (λ n is. and_first (v == d) (f == g) (n == p) x) in
        omega arith

start_causes : (play : Play) (d p g : ℕ) (e : Event) (what : What) →
    count_by (starts_by d p g) (causes_as play e what) ≤ cond (is_arrival what && ((e.device.0 == d) && (e.frame.0 == g))) 1 0
start_causes play d p g e Start = go (is_uncut play.setup.plant play.row e.device.0 e.port.0) (peer_of play.setup.plant e.device.0 e.port.0) (hop_of play.setup.plant e.device.0 e.port.0)
  where
    go : (b : Bool) (far : Option (DevId × PortNo)) (hop : Option ℕ) → count_by (starts_by d p g) (cond b (arrive_at e.at e.frame.0 far hop) []) ≤ 0
    go false far hop = omega arith
    go true None hop = omega arith
    go true (Some far) None = omega arith
    go true (Some far) (Some hop) = omega arith
start_causes play d p g e Arrive = go (is_in_step play.setup.plant play.row e.device.0) (entry_at play.setup e.device.0 e.frame.0)
  where
    go : (b : Bool) (o : Option Entry) → count_by (starts_by d p g) (cond b (starts_at play e.device.0 e.frame.0 e.at o) []) ≤ cond ((e.device.0 == d) && (e.frame.0 == g)) 1 0
    go false o = omega arith
    go true None = omega arith
    go true (Some x) = starts_counted (start_after play e.device.0 e.frame.0 x e.at) e.device.0 e.frame.0 d p g x.tx

-- ---- an arrival is caused by the parent's start

coe3 : {X Y Z : Type 0} (P : X → Y → Z → Type 0) {x x' : X} {y y' : Y} {z z' : Z} → x ≡ x' → y ≡ y' → z ≡ z' → P x y z → P x' y' z'
coe3 P {x} {x'} {y} {y'} {z} {z'} p q r t = subst (λ w. P x' y' w) r (subst (λ w. P x' w z) q (subst (λ w. P w y z) p t))

parent_starts : (play : Play) → Facts play → (h : Event) (f d u p : ℕ) (e : Entry) → entry_at play.setup d f ≡ Some e → IsParent play.setup f d e u p →
    (sent : IsSentAt play.setup play.row play.cycle h.device.0 h.port.0 h.frame.0 h.at) → is_uncut play.setup.plant play.row h.device.0 h.port.0 ≡ true → (far : DevId × PortNo) →
    peer_of play.setup.plant h.device.0 h.port.0 ≡ Some far → (hop : ℕ) → hop_of play.setup.plant h.device.0 h.port.0 ≡ Some hop → far.0.0 ≡ d → h.frame.0 ≡ f →
    (h.device.0 ≡ u) × (h.port.0 ≡ p)
parent_starts play facts h f d u p e stands comes sent uncut far leads hop hops device frame =
    let a : Arrival = record { cycle = play.cycle; device = far.0.0; port = far.1.0; frame = h.frame.0; start = h.at +ℤ pos hop } in
    let is : IsArrival play.setup play.row sent.entry a = arrival_from play h.device.0 h.port.0 h.frame.0 h.at sent uncut far leads hop hops in
    let m = facts.met play.row sent.entry a is in
    let at : entry_at play.setup d f ≡ Some m.e = (λ i. entry_at play.setup (sym device i) (sym frame i)) ∙ m.stands in
    let same : m.e ≡ e = same_Some m.e e (sym at ∙ stands) in
    let mine : IsParent play.setup f d e h.device.0 h.port.0 = coe3 (λ (x y : ℕ) (z : Entry). IsParent play.setup x y z h.device.0 h.port.0) frame device same m.comes in
    facts.parents f d e h.device.0 h.port.0 u p mine comes

arrival_causes : (play : Play) → Facts play → (f d u p : ℕ) (e : Entry) → entry_at play.setup d f ≡ Some e → IsParent play.setup f d e u p →
    (h : Event) (what : What) → HappensAs play h what →
    count_by (comes_to d f) (causes_as play h what) ≤ cond (is_start what && ((h.device.0 == u) && ((h.port.0 == p) && (h.frame.0 == f)))) 1 0
arrival_causes play facts f d u p e stands comes h Start sent =
    go (is_uncut play.setup.plant play.row h.device.0 h.port.0) refl (peer_of play.setup.plant h.device.0 h.port.0) refl (hop_of play.setup.plant h.device.0 h.port.0) refl
  where
    met : is_uncut play.setup.plant play.row h.device.0 h.port.0 ≡ true → (far : DevId × PortNo) → peer_of play.setup.plant h.device.0 h.port.0 ≡ Some far → (hop : ℕ) →
        hop_of play.setup.plant h.device.0 h.port.0 ≡ Some hop → (a b : Bool) → (far.0.0 == d) ≡ a → (h.frame.0 == f) ≡ b →
        cond {A = ℕ} (a && b) 1 0 ≤ cond ((h.device.0 == u) && ((h.port.0 == p) && (h.frame.0 == f))) 1 0
    met uncut far leads hop hops true true x y =
        let (device, port) = parent_starts play facts h f d u p e stands comes sent uncut far leads hop hops (eqb-true far.0.0 d x) (eqb-true h.frame.0 f y) in
        rw (eq-eqb h.device.0 u device, eq-eqb h.port.0 p port, y) (omega arith)
    met uncut far leads hop hops true false x y = omega arith
    met uncut far leads hop hops false b x y = omega arith

    go : (b : Bool) → is_uncut play.setup.plant play.row h.device.0 h.port.0 ≡ b → (far : Option (DevId × PortNo)) → peer_of play.setup.plant h.device.0 h.port.0 ≡ far → (hop : Option ℕ) →
        hop_of play.setup.plant h.device.0 h.port.0 ≡ hop →
        count_by (comes_to d f) (cond b (arrive_at h.at h.frame.0 far hop) []) ≤ cond ((h.device.0 == u) && ((h.port.0 == p) && (h.frame.0 == f))) 1 0
    go false uncut far leads hop hops = omega arith
    go true uncut None leads hop hops = omega arith
    go true uncut (Some far) leads None hops = omega arith
    go true uncut (Some far) leads (Some hop) hops =
        let m = met uncut far leads hop hops (far.0.0 == d) (h.frame.0 == f) refl refl in
        omega arith
arrival_causes play facts f d u p e stands comes h Arrive is = go (is_in_step play.setup.plant play.row h.device.0) (entry_at play.setup h.device.0 h.frame.0)
  where
    none : (at : ℤ) (ports : List ℕ) → count_by (comes_to d f) (map (λ port. event at h.device.0 port h.frame.0 Start) ports) ≡ 0
    none at ports =
        let m = count_map (comes_to d f) (λ port. event at h.device.0 port h.frame.0 Start) ports in
        let s = count_none (λ (n : ℕ). false) ports (λ n is. refl) in
        omega arith

    go : (b : Bool) (o : Option Entry) → count_by (comes_to d f) (cond b (starts_at play h.device.0 h.frame.0 h.at o) []) ≤ 0
    go false o = omega arith
    go true None = omega arith
    go true (Some x) = let n = none (start_after play h.device.0 h.frame.0 x h.at) (ports_in x.tx) in omega arith

-- ---- each at most once

no_coming : (play : Play) → Facts play → (d f : ℕ) (e : Entry) → entry_at play.setup d f ≡ Some e → e.rx_port ≡ 0 → (h : Event) (what : What) → HappensAs play h what →
    (is_arrival what && ((h.device.0 == d) && (h.frame.0 == f))) ≡ false
no_coming play facts d f e stands own h Start is = refl
no_coming play facts d f e stands own h Arrive (from, is) = go (h.device.0 == d) (h.frame.0 == f) refl refl
  where
    go : (a b : Bool) → (h.device.0 == d) ≡ a → (h.frame.0 == f) ≡ b → (a && b) ≡ false
    go false b x y = refl
    go true false x y = refl
    go true true x y =
        let m = facts.met play.row from (arrival_of play h) is in
        let device = eqb-true h.device.0 d x in
        let frame = eqb-true h.frame.0 f y in
        let at : entry_at play.setup d f ≡ Some m.e = (λ i. entry_at play.setup (sym device i) (sym frame i)) ∙ m.stands in
        let none : m.e.rx_port ≡ 0 = ap (λ (z : Entry). z.rx_port) (same_Some m.e e (sym at ∙ stands)) ∙ own in
        absurd (omega (arith, none, m.comes.received))

no_first : (play : Play) (d p f u q : ℕ) (e : Entry) → entry_at play.setup d f ≡ Some e → IsParent play.setup f d e u q → (x : Event) → IsFirst play x → starts_by d p f x ≡ false
no_first play d p f u q e stands comes x first =
    subst (λ w. (is_start w && ((x.device.0 == d) && ((x.port.0 == p) && (x.frame.0 == f)))) ≡ false) (sym first.start)
    (go (x.device.0 == d) (x.port.0 == p) (x.frame.0 == f) refl refl refl)
  where
    go : (a b c : Bool) → (x.device.0 == d) ≡ a → (x.port.0 == p) ≡ b → (x.frame.0 == f) ≡ c → (a && (b && c)) ≡ false
    go false b c r s t = refl
    go true false c r s t = refl
    go true true false r s t = refl
    go true true true r s t =
        let there : entry_at play.setup d f ≡ Some first.sent.entry =
        (λ i. entry_at play.setup (sym (eqb-true x.device.0 d r) i) (sym (eqb-true x.frame.0 f t) i)) ∙ first.sent.stands in
        let none : e.rx_port ≡ 0 = ap (λ (z : Entry). z.rx_port) (same_Some e first.sent.entry (sym stands ∙ there)) ∙ first.own in
        absurd (omega (arith, none, comes.received))

not_coming : (play : Play) (d f : ℕ) (x : Event) → IsFirst play x → comes_to d f x ≡ false
not_coming play d f x is = subst (λ w. (is_arrival w && ((x.device.0 == d) && (x.frame.0 == f))) ≡ false) (sym is.start) refl

module _ (play : Play) (facts : Facts play) (first handled waiting : List Event) (begun : IsBegun play first) (run : IsRun first (causes play) handled waiting)
    (happen : All (Happens play) handled) where
  begins : (x : Event) → Contains first x → IsFirst play x
  begins x is = All-contains (IsFirst play) first x begun.only is

  -- what comes to a device comes at most as often as its parent starts it
  pub comes_once : (frame device : ℕ) (e : Entry) (parent gate : ℕ) → entry_at play.setup device frame ≡ Some e → IsParent play.setup frame device e parent gate →
      count_by (comes_to device frame) (handled ++ waiting) ≤ count_by (starts_by parent gate frame) (handled ++ waiting)
  comes_once frame device e parent gate at comes =
      as_often_as_cause first (causes play) handled waiting (comes_to device frame) (starts_by parent gate frame) run
      (count_none (comes_to device frame) first (λ x is. not_coming play device frame x (begins x is)))
      (λ n d l. arrival_causes play facts frame device parent gate e at comes (get_or handled n d) (get_or handled n d).what (happen n d l))

  pub starts_once : (frame device : ℕ) → IsLive play.setup play.row frame device → (port : ℕ) → count_by (starts_by device port frame) (handled ++ waiting) ≤ 1
  starts_once frame _ (provided device e at own step) port =
      let each : All (λ x. count_by (starts_by device port frame) (causes play x) ≡ 0) handled = λ n d l.
      let x = get_or handled n d in
      let bound = start_causes play device port frame x x.what in
      let none : cond {A = ℕ} (comes_to device frame x) 1 0 ≡ 0 = ap (λ b. cond {A = ℕ} b 1 0) (no_coming play facts device frame e at own x x.what (happen n d l)) in
      omega arith in
      let same = as_often_as_first first (causes play) handled waiting (starts_by device port frame) run each in
      let once = begun.once device port frame in
      omega arith
  starts_once frame _ (forwarded device e parent gate at comes live uncut step) port =
      let before = starts_once frame parent live gate in
      let came = comes_once frame device e parent gate at comes in
      let there = as_often_as_cause first (causes play) handled waiting (starts_by device port frame) (comes_to device frame) run
      (count_none (starts_by device port frame) first (λ x is. no_first play device port frame parent gate e at comes x (begins x is)))
      (λ n d l. start_causes play device port frame (get_or handled n d) (get_or handled n d).what) in
      omega arith
