-- The ports of a network send, one after the other.
use Rattle.std.proofs.Common.{replicate, ◌≡◌, ℕ, ◌+◌, ◌-◌, ◌<◌, ◌≤◌, Bool, true, false, List, [], length, set, map, get_or, Some, refl, sym, ◌∙◌, ap, subst, arith, inl, inr, slice_get, All, length-set, get_or-set_other}
use Rattle.std.specs.Prelude.{◌==◌, if◌then◌else◌, option_map}
use Rattle.std.proofs.Math.Seq.{map-set_same}
use Rattle.std.proofs.lemmas.Bool.{cases_Bool, eqb-true, eq-eqb, cases_lt}
use Rattle.std.proofs.lemmas.Option.{same_Some, slice_get-get_or, slice_get_within, get_or_from_slice_get, slice_get-map}
use Rattle.irt_switch.specs.State.{SwitchState, HasPort, gate_of, with_gate}
use Rattle.net_begin.proofs.Devices.{at_set, at_place}
use Rattle.parcel_rules.specs.Steps.{Step}
use Rattle.period_gate.specs.Gate.{Waiting, nothing_waiting}
use Rattle.period_gate.specs.SentList.{left_of, sent_of}
use Rattle.period_gate.specs.declared.parcels.Sent.{Sent}
use Rattle.net_parcels.proofs.Drained.{gate_put}
use Rattle.net_parcels.specs.Gates.{HasGate, IsGated, IsSent, HasLeft, HasSent, sent_by_port, but_gates, all_but_gates}
use Rattle.net_parcels.specs.Outlets.{End, end_of, ends_of, ports_of, ArePortsApart}
use Rattle.net_parcels.specs.declared.outlets.Outlet.{Outlet}

-- ---- switches that differ in their gates alone

-- another gate leaves all but what waits there
pub put_keeps : (s : SwitchState) (port : ℕ) (w : Waiting) → but_gates (with_gate s port w) ≡ but_gates s
put_keeps s port w = ap (λ (n : ℕ). record s { gates = replicate n nothing_waiting }) (length-set s.gates (port - 1) w)

pub gate_like : (s before : SwitchState) (port : ℕ) → but_gates s ≡ but_gates before → length s.gates ≡ length before.gates → HasGate before port → HasGate s port
gate_like s before port kept count has =
    let within = has.within in
    record {
      named = subst (λ (x : SwitchState). HasPort x.bundle port) (sym kept) has.named;
      within = omega arith;
    }

pub other_gate : (s : SwitchState) (port other : ℕ) (gate : Waiting) → 1 ≤ port → 1 ≤ other → (port ≡ other → ⊥) → gate_of (with_gate s port gate) other ≡ gate_of s other
other_gate s port other gate low too apart =
    get_or-set_other s.gates (port - 1) (other - 1) gate nothing_waiting (λ same. apart (let e : other - 1 ≡ port - 1 = same in omega arith))

-- ---- one port sends

module _ (old now next : List SwitchState) (o : Outlet) (is : IsSent now o next) where
  abbrev Put : SwitchState
  Put = with_gate is.s o.at.1.0 (left_of (gate_of is.s o.at.1.0) o.sent)

  put_there : slice_get next o.at.0.0 ≡ Some Put
  put_there = ap (λ (xs : List SwitchState). slice_get xs o.at.0.0) is.left ∙ at_place now o.at.0.0 Put (slice_get_within now o.at.0.0 is.s is.there)

  -- elsewhere nothing changes
  pub left_elsewhere : (at : Step) (sent : List Sent) → 1 ≤ o.at.1.0 → (o.at.0.0 ≡ at.0.0 → o.at.1.0 ≡ at.1.0 → ⊥) → HasLeft old now at sent → HasLeft old next at sent
  left_elsewhere at sent from_one apart h =
      elim (cases_Bool (o.at.0.0 == at.0.0)) [
        | inl here ↦
            let same : o.at.0.0 ≡ at.0.0 = eqb-true o.at.0.0 at.0.0 here in
            let one : is.s ≡ h.after = same_Some is.s h.after (sym is.there ∙ ap (slice_get now) same ∙ h.is) in
            let count = length-set is.s.gates (o.at.1.0 - 1) (left_of (gate_of is.s o.at.1.0) o.sent) in
            let counted = ap (λ (s : SwitchState). length s.gates) one in
            let was = h.count in
            record {
              before = h.before;
              after = Put;
              was = h.was;
              is = ap (slice_get next) (sym same) ∙ put_there;
              has = h.has;
              kept = put_keeps is.s o.at.1.0 (left_of (gate_of is.s o.at.1.0) o.sent) ∙ ap but_gates one ∙ h.kept;
              count = omega arith;
              left = other_gate is.s o.at.1.0 at.1.0 (left_of (gate_of is.s o.at.1.0) o.sent) from_one h.has.named.0 (apart same)
                  ∙ ap (λ (s : SwitchState). gate_of s at.1.0) one ∙ h.left;
            }
        | inr elsewhere ↦ record {
          before = h.before;
          after = h.after;
          was = h.was;
          is = ap (λ (xs : List SwitchState). slice_get xs at.0.0) is.left
              ∙ at_set now o.at.0.0 at.0.0 Put (λ same. not_both (o.at.0.0 == at.0.0) (eqb_self o.at.0.0 at.0.0 (sym same)) elsewhere)
              ∙ h.is;
          has = h.has;
          kept = h.kept;
          count = h.count;
          left = h.left;
        }
      ]
    where
      not_both : (b : Bool) → b ≡ true → b ≡ false → ⊥
      not_both b is is_not = absurd (let e = sym is ∙ is_not in cc)

      eqb_self : (a b : ℕ) → a ≡ b → (a == b) ≡ true
      eqb_self a b e = eq-eqb a b e

  -- and here the port has sent all that it sends
  pub sent_here : HasLeft old now o.at [] → HasSent old next o
  sent_here h =
      let one : is.s ≡ h.after = same_Some is.s h.after (sym is.there ∙ h.is) in
      let gated = gate_like h.after h.before o.at.1.0 h.kept h.count h.has in
      let count = length-set is.s.gates (o.at.1.0 - 1) (left_of (gate_of is.s o.at.1.0) o.sent) in
      let counted = ap (λ (s : SwitchState). length s.gates) one in
      let was = h.count in
      let gate : gate_of is.s o.at.1.0 ≡ gate_of h.before o.at.1.0 = ap (λ (s : SwitchState). gate_of s o.at.1.0) one ∙ h.left in
      let step : is.s.in_step ≡ h.before.in_step = ap (λ (s : SwitchState). s.in_step) one ∙ ap (λ (s : SwitchState). s.in_step) h.kept in
      record {
        left = record {
          before = h.before;
          after = Put;
          was = h.was;
          is = put_there;
          has = h.has;
          kept = put_keeps is.s o.at.1.0 (left_of (gate_of is.s o.at.1.0) o.sent) ∙ ap but_gates one ∙ h.kept;
          count = omega arith;
          left = gate_put is.s o.at.1.0 (left_of (gate_of is.s o.at.1.0) o.sent) (subst (λ (s : SwitchState). HasGate s o.at.1.0) (sym one) gated)
              ∙ ap (λ (g : Waiting). left_of g o.sent) gate;
        };
        sent = λ s there.
            let same : h.before ≡ s = same_Some h.before s (sym h.was ∙ there) in
            is.sent ∙ (λ i. if step i then sent_of (gate i) else []) ∙ ap (λ (x : SwitchState). sent_by_port x o.at.1.0) same;
      }

  pub kept_by : all_but_gates next ≡ all_but_gates now
  kept_by =
      ap all_but_gates is.left
      ∙ map-set_same but_gates now o.at.0.0 Put is.s
      (put_keeps is.s o.at.1.0 (left_of (gate_of is.s o.at.1.0) o.sent) ∙ ap but_gates (sym (get_or_from_slice_get now o.at.0.0 is.s is.s is.there)))

-- ---- all ports

pub at_index : {A : Type 0} (P : A → Type 0) (xs : List A) (k : ℕ) (x : A) → All P xs → slice_get xs k ≡ Some x → P x
at_index P xs k x all is = subst P (get_or_from_slice_get xs k x x is) (all k x (slice_get_within xs k x is))

port_in_place : (outlets : List Outlet) (j : ℕ) (o : Outlet) → slice_get outlets j ≡ Some o → slice_get (ports_of outlets) j ≡ Some o.at
port_in_place outlets j o is =
    slice_get-map (λ (e : End). e.0) (ends_of outlets) j
    ∙ ap (option_map (λ (e : End). e.0)) (slice_get-map end_of outlets j ∙ ap (option_map end_of) is)

-- The ports before a place have sent, the others have not.
pub record AreSending (old now : List SwitchState) (before outlets : List Outlet) (place : ℕ) : Type 0 where
  pub ends : ends_of outlets ≡ ends_of before
  pub sent : (j : ℕ) (o : Outlet) → j < place → slice_get outlets j ≡ Some o → HasSent old now o
  pub rest : (j : ℕ) (o : Outlet) → place ≤ j → slice_get outlets j ≡ Some o → HasLeft old now o.at []
  pub kept : all_but_gates now ≡ all_but_gates old

left_at_first : (old : List SwitchState) (at : Step) → IsGated old at → HasLeft old old at []
left_at_first old at (s, there, has) = record {
  before = s;
  after = s;
  was = there;
  is = there;
  has = has;
  kept = refl;
  count = refl;
  left = refl;
}

pub none_sent : (old : List SwitchState) (outlets : List Outlet) → All (IsGated old) (ports_of outlets) → AreSending old old outlets outlets 0
none_sent old outlets gated = record {
  ends = refl;
  sent = λ j o below is. absurd (omega arith);
  rest = λ j o from is.
      left_at_first old o.at (at_index (IsGated old) (ports_of outlets) j o.at gated (port_in_place outlets j o is));
  kept = refl;
}

pub is_gated : (old now : List SwitchState) (before outlets : List Outlet) (place : ℕ) (o : Outlet) → AreSending old now before outlets place →
    slice_get outlets place ≡ Some o → IsGated now o.at
is_gated old now before outlets place o h is =
    let left = h.rest place o (omega arith) is in
    (left.after, left.is, gate_like left.after left.before o.at.1.0 left.kept left.count left.has)

-- two places of one list
apart_at : (ports : List Step) (i j : ℕ) (x y : Step) → ArePortsApart ports → (i ≡ j → ⊥) → slice_get ports i ≡ Some x → slice_get ports j ≡ Some y →
    x.0.0 ≡ y.0.0 → x.1.0 ≡ y.1.0 → ⊥
apart_at ports i j x y apart other one two device port =
    elim (cases_lt i j) [
      | inl less ↦ at_pair i j x y less one two device port
      | inr more ↦ at_pair j i y x (let e : i ≡ j → ⊥ = other in not_same i j e more) two one (sym device) (sym port)
    ]
  where
    not_same : (a b : ℕ) → (a ≡ b → ⊥) → b ≤ a → b < a
    not_same a b e le = elim (cases_lt b a) [ inl less ↦ less | inr more ↦ absurd (e (omega arith)) ]

    at_pair : (a b : ℕ) (v w : Step) → a < b → slice_get ports a ≡ Some v → slice_get ports b ≡ Some w → v.0.0 ≡ w.0.0 → v.1.0 ≡ w.1.0 → ⊥
    at_pair a b v w less at_a at_b =
        let R : Step → Step → Type 0 = λ s t. s.0.0 ≡ t.0.0 → s.1.0 ≡ t.1.0 → ⊥ in
        let pair = apart a b v less (slice_get_within ports b w at_b) in
        subst (λ s. R s w) (get_or_from_slice_get ports a v v at_a) (subst (λ t. R (get_or ports a v) t) (get_or_from_slice_get ports b w v at_b) pair)

module _ (old now next : List SwitchState) (before outlets : List Outlet) (place : ℕ) (was o : Outlet) (h : AreSending old now before outlets place) where
  port_at : (j : ℕ) (x : Outlet) → slice_get outlets j ≡ Some x → slice_get (ports_of before) j ≡ Some x.at
  port_at j x there =
      ap (λ (ends : List End). slice_get (map (λ (e : End). e.0) ends) j) (sym h.ends) ∙ port_in_place outlets j x there

  pub one_sent : ArePortsApart (ports_of before) → slice_get outlets place ≡ Some was → o ≡ record was { sent = o.sent } → IsSent now o next →
      AreSending old next before (set outlets place o) (place + 1)
  one_sent apart there same is =
      let below = slice_get_within outlets place was there in
      let at_same : o.at ≡ was.at = ap (λ (x : Outlet). x.at) same in
      let left = h.rest place was (omega arith) there in
      let here : HasLeft old now o.at [] = subst (λ (at : Step). HasLeft old now at []) (sym at_same) left in
      let elsewhere : (j : ℕ) (x : Outlet) → (place ≡ j → ⊥) → slice_get outlets j ≡ Some x → o.at.0.0 ≡ x.at.0.0 → o.at.1.0 ≡ x.at.1.0 → ⊥ =
      λ j x other at. apart_at (ports_of before) place j o.at x.at apart other (port_at place was there ∙ ap Some (sym at_same)) (port_at j x at) in
      let got : (j : ℕ) (x : Outlet) → (j ≡ place → ⊥) → slice_get (set outlets place o) j ≡ Some x → slice_get outlets j ≡ Some x =
      λ j x other at. sym (at_set outlets place j o other) ∙ at in
      record {
        ends = map-set_same end_of outlets place o was (ap end_of same ∙ ap end_of (sym (get_or_from_slice_get outlets place was was there))) ∙ h.ends;
        sent = λ j x low at.
            elim (cases_lt j place) [
              | inl less ↦
                  let at_j = got j x (λ e. absurd (omega arith)) at in
                  let done = h.sent j x less at_j in
                  record { left = left_elsewhere old now next o is x.at x.sent here.has.named.0 (elsewhere j x (λ e. absurd (omega arith)) at_j) done.left; sent = done.sent }
              | inr more ↦
                  let equal : place ≡ j = omega arith in
                  let it : o ≡ x = same_Some o x (sym (at_place outlets place o below) ∙ ap (slice_get (set outlets place o)) equal ∙ at) in
                  subst (HasSent old next) it (sent_here old now next o is here)
            ];
        rest = λ j x from at.
            let at_j = got j x (λ e. absurd (omega arith)) at in
            left_elsewhere old now next o is x.at [] here.has.named.0 (elsewhere j x (λ e. absurd (omega arith)) at_j) (h.rest j x (omega arith) at_j);
        kept = kept_by old now next o is ∙ h.kept;
      }

pub all_sent : (old now : List SwitchState) (before outlets : List Outlet) (place : ℕ) → AreSending old now before outlets place → length outlets ≤ place →
    All (HasSent old now) outlets
all_sent old now before outlets place h end = λ j d below. h.sent j (get_or outlets j d) (omega arith) (slice_get-get_or outlets j d below)
