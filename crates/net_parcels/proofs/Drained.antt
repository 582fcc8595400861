-- A gate from which parcels are taken out, one after the other.
use Rattle.std.proofs.Common.{◌≡◌, ℕ, zero, suc, ◌+◌, ◌-◌, ◌<◌, ◌≤◌, Bool, true, false, List, [], ◌∷◌, ◌++◌, length, set, Option, Some, None, refl, sym, ◌∙◌, ap, subst, arith, append-nil, append_assoc, length-append}
use Rattle.std.specs.Prelude.{if◌then◌else◌}
use Rattle.std.proofs.lemmas.List.{set-get_or, get_or-set_same}
use Rattle.irt_switch.specs.State.{SwitchState, gate_of, with_gate, sent_next}
use Rattle.period_gate.specs.Gate.{Waiting, nothing_waiting, without_head, next_sent, left_after}
use Rattle.period_gate.specs.SentList.{left_of, sent_in, first_and_more}
use Rattle.period_gate.specs.declared.parcels.Sent.{Sent}
use Rattle.net_parcels.specs.Gates.{HasGate, sent_by_port}

-- ---- gates of a switch

pub gate_put : (s : SwitchState) (port : ℕ) (gate : Waiting) → HasGate s port → gate_of (with_gate s port gate) port ≡ gate
gate_put s port gate has = get_or-set_same s.gates (port - 1) gate nothing_waiting has.within

pub gate_kept : (s : SwitchState) (port : ℕ) → s ≡ with_gate s port (gate_of s port)
gate_kept s port = ap (λ (gates : List Waiting). record s { gates = gates }) (sym (set-get_or s.gates (port - 1) nothing_waiting))

set_twice : {A : Type 0} (xs : List A) (i : ℕ) (x y : A) → set (set xs i x) i y ≡ set xs i y
set_twice [] zero x y = refl
set_twice [] (suc i) x y = refl
set_twice (z ∷ zs) zero x y = refl
set_twice (z ∷ zs) (suc i) x y = ap (λ ys. z ∷ ys) (set_twice zs i x y)

pub gate_again : (s : SwitchState) (port : ℕ) (one other : Waiting) → with_gate (with_gate s port one) port other ≡ with_gate s port other
gate_again s port one other = ap (λ (gates : List Waiting). record s { gates = gates }) (set_twice s.gates (port - 1) one other)

pub left-append : (gate : Waiting) (sent : List Sent) (one : Sent) → left_of gate (sent ++ one ∷ []) ≡ without_head one.«class» (left_of gate sent)
left-append gate [] one = refl
left-append gate (first ∷ more) one = left-append (without_head first.«class» gate) more one

-- ---- taking out

-- what at most so many calls still give
abbrev pub more_sent : Bool → ℕ → Waiting → ℕ → List Sent
more_sent in_step calls gate time = if in_step then sent_in calls gate time else []

-- so many calls have given these
pub record IsDraining (old now : SwitchState) (port most call local : ℕ) (sent : List Sent) : Type 0 where
  pub state : now ≡ with_gate old port (left_of (gate_of old port) sent)
  pub rest : sent ++ more_sent old.in_step (most - call) (left_of (gate_of old port) sent) local ≡ sent_by_port old port
  pub few : length sent ≤ call

pub draining : (old : SwitchState) (port orange green : ℕ) → orange ≡ length (gate_of old port).orange → green ≡ length (gate_of old port).green →
    IsDraining old old port (orange + green) 0 0 []
draining old port orange green one two = record {
  state = gate_kept old port;
  rest = (let all : (orange + green) - 0 ≡ length (gate_of old port).orange + length (gate_of old port).green = omega arith in
      ap (λ n. more_sent old.in_step n (gate_of old port) 0) all);
  few = omega arith;
}

module _ (old now : SwitchState) (port most call local : ℕ) (sent : List Sent) (has : HasGate old port) (d : IsDraining old now port most call local sent) where
  gate_now : gate_of now port ≡ left_of (gate_of old port) sent
  gate_now = ap (λ (s : SwitchState). gate_of s port) d.state ∙ gate_put old port (left_of (gate_of old port) sent) has

  abbrev Left : Waiting
  Left = left_of (gate_of old port) sent

  next_now : sent_next now port local ≡ (if old.in_step then next_sent Left local else None)
  next_now = (λ i. if (d.state i).in_step then next_sent (gate_now i) local else None)

  after_now : (gives : Option Sent) → with_gate now port (left_after gives (gate_of now port)) ≡ with_gate old port (left_after gives Left)
  after_now gives =
      ap (λ (g : Waiting). with_gate now port (left_after gives g)) gate_now
      ∙ ap (λ (s : SwitchState). with_gate s port (left_after gives Left)) d.state
      ∙ gate_again old port Left (left_after gives Left)

  one_more : (after : SwitchState) (one : Sent) → call < most → Some one ≡ sent_next now port local →
      after ≡ with_gate now port (left_after (Some one) (gate_of now port)) → IsDraining old after port most (call + 1) one.end (sent ++ one ∷ [])
  one_more after one below given is = record {
    state = is ∙ after_now (Some one) ∙ ap (with_gate old port) (sym (left-append (gate_of old port) sent one));
    rest = append_assoc sent (one ∷ []) (more_sent old.in_step (most - (call + 1)) (left_of (gate_of old port) (sent ++ one ∷ [])) one.end)
        ∙ ap (λ ys. sent ++ ys) (by_step old.in_step (given ∙ next_now)) ∙ d.rest;
    few = (let few = d.few in let sum = length-append sent (one ∷ []) in omega arith);
  }
    where
      by_step : (b : Bool) → Some one ≡ (if b then next_sent Left local else None) →
          one ∷ more_sent b (most - (call + 1)) (left_of (gate_of old port) (sent ++ one ∷ [])) one.end ≡ more_sent b (most - call) Left local
      by_step true gives =
          let one_left : most - call ≡ suc (most - (call + 1)) = omega arith in
          ap (λ g. one ∷ sent_in (most - (call + 1)) g one.end) (left-append (gate_of old port) sent one)
          ∙ ap (λ o. first_and_more o (λ (x : Sent). sent_in (most - (call + 1)) (without_head x.«class» Left) x.end)) gives
          ∙ ap (λ n. sent_in n Left local) (sym one_left)
      by_step false gives = absurd (cc)

  pub one_put : (after : SwitchState) (one : Sent) (put : List Sent) → call < most → Some one ≡ sent_next now port local →
      after ≡ with_gate now port (left_after (Some one) (gate_of now port)) → put ≡ sent ++ one ∷ [] → IsDraining old after port most (call + 1) one.end put
  one_put after one put below given is pushed =
      subst (IsDraining old after port most (call + 1) one.end) (sym pushed) (one_more after one below given is)

  pub no_more : None ≡ sent_next now port local → sent ≡ sent_by_port old port
  no_more none = sym (append-nil sent) ∙ ap (λ ys. sent ++ ys) (sym (by_step old.in_step (none ∙ next_now) (most - call))) ∙ d.rest
    where
      by_step : (b : Bool) → None ≡ (if b then next_sent Left local else None) → (n : ℕ) → more_sent b n Left local ≡ []
      by_step true gives zero = refl
      by_step true gives (suc n) = ap (λ o. first_and_more o (λ (x : Sent). sent_in n (without_head x.«class» Left) x.end)) (sym gives)
      by_step false gives n = refl

  pub none_taken : (after : SwitchState) → after ≡ with_gate now port (left_after None (gate_of now port)) → after ≡ with_gate old port Left
  none_taken after is = is ∙ after_now None

  pub all_taken : most ≤ call → sent ≡ sent_by_port old port
  all_taken over =
      let none : most - call ≡ 0 = omega arith in
      sym (append-nil sent) ∙ ap (λ ys. sent ++ ys) (sym (ap (λ n. more_sent old.in_step n Left local) none ∙ by_step old.in_step)) ∙ d.rest
    where
      by_step : (b : Bool) → more_sent b 0 Left local ≡ []
      by_step true = refl
      by_step false = refl

  pub same_bundle : now.bundle ≡ old.bundle
  same_bundle = ap (λ (s : SwitchState). s.bundle) d.state
