-- A device mutes as a slave does.
use Rattle.std.proofs.Common.{◌≡◌, ℕ, zero, suc, ◌+◌, ◌-◌, ◌*◌, ◌/◌, ◌%◌, ◌==◌, ◌&&◌, ◌<◌, ◌≤◌, ◌↔◌, Bool, true, false, not, nat_lt, if◌then◌else◌, List, [], ◌∷◌, ◌++◌, Option, Some, None, refl, sym, ◌∙◌, ap, ap₂, subst, inl, inr, arith, append-nil, div-add-mod', lt_of_mul-lt-mul_right}
use Rattle.std.specs.Prelude.{ℤ}
use Rattle.std.proofs.lemmas.Bool.{cases_Bool, eqb-true}
use Rattle.std.proofs.lemmas.Bool.Decides.{nat_tests}
use Rattle.ptcp_core.specs.Clocks.{SlaveState, after_event, fresh_slave, is_newer, offset_of, state_by, state_of}
use Rattle.ptcp_core.specs.Honest.{after_all}
use Rattle.ptcp_core.specs.declared.messages.SyncMsg.{SyncMsg}
use Rattle.ptcp_core.specs.declared.slave.Accepted.{Accepted}
use Rattle.ptcp_core.specs.declared.slave.SyncEvent.{SyncEvent}
use Rattle.ptcp_core.specs.declared.slave.SyncEvent.TheVariants.{Sync, Tick}
use Rattle.ptcp_core.specs.declared.slave.SyncState.TheVariants.{Muted, Synced}
use Rattle.sync_world.specs.Clocks.{base_in, base_of, clock_at, is_mute, is_silent, set_by}
use Rattle.sync_world.specs.Events.{AreInTurn, Deliveries, delivered, events_to}
use Rattle.sync_world.specs.declared.clocks.Clock.{Clock}
use Rattle.sync_world.specs.declared.domain.Domain.{Domain}

-- one event after others
abbrev pub IsOneEventMore : Type 0
IsOneEventMore = (slave : SlaveState) (events : List SyncEvent) (event : SyncEvent) →
    after_all slave (events ++ event ∷ []) ≡ after_event (after_all slave events) event

-- the message accepted last is that which the clock heard last, whose number is below those of later cycles
abbrev pub IsLast : ℕ → ℕ → Option ℕ → Option Accepted → Type 0
IsLast send cycle None None = Unit {0}
IsLast send cycle None (Some last) = ⊥
IsLast send cycle (Some heard) None = ⊥
IsLast send cycle (Some heard) (Some last) = (last.cycle ≡ heard) × (heard < cycle) × (heard ≡ (last.number - 1) * send) × (1 ≤ last.number)

-- the slave knows what the clock heard before a cycle
pub record Follows (send timeout cycle ticked : ℕ) (heard : Option ℕ) (slave : SlaveState) : Type 0 where
  pub send_is : slave.send ≡ send
  pub timeout_is : slave.timeout ≡ timeout
  pub ticked_is : slave.ticked ≡ ticked
  pub last : IsLast send cycle heard slave.last

later_last : (send cycle : ℕ) (heard : Option ℕ) (o : Option Accepted) → IsLast send cycle heard o → IsLast send (suc cycle) heard o
later_last send cycle None None is = tt
later_last send cycle None (Some last) is = absurd is
later_last send cycle (Some heard) None is = absurd is
later_last send cycle (Some heard) (Some last) (same, before, number, some) = (same, omega (arith, before), number, some)

less_test : (a b : ℕ) → a < b → nat_lt a b ≡ true
less_test a b less = grind (arith, nat_tests)

-- the next message is newer
newer : (send cycle sync number : ℕ) (heard : Option ℕ) (o : Option Accepted) → IsLast send cycle heard o → number ≡ sync + 1 → cycle ≡ sync * send →
    is_newer o number ≡ true
newer send cycle sync number heard None is named sent = refl
newer send cycle sync number None (Some last) is named sent = absurd is
newer send cycle sync number (Some heard) (Some last) (same, before, was, some) named sent =
    let less : (last.number - 1) * send < sync * send = omega (arith, before, was, sent) in
    let fewer : last.number - 1 < sync = lt_of_mul-lt-mul_right send less in
    less_test last.number number (omega (arith, fewer, named, some))

accepts : (slave : SlaveState) (msg : SyncMsg) (received line : ℕ) → is_newer slave.last msg.number ≡ true →
    after_event slave (Sync msg received line)
    ≡ record slave { last = Some (record { number = msg.number; cycle = msg.cycle; offset = offset_of msg received line }) }
accepts slave msg received line new = rw new refl

hears : IsOneEventMore → (send timeout cycle sync : ℕ) (deliveries : Deliveries) (clock : Clock) (first : SlaveState) (events : List SyncEvent) (o : Option ℤ) →
    ((z : ℤ) → o ≡ Some z → cycle ≡ sync * send) → AreInTurn send deliveries → Follows send timeout cycle cycle clock.heard (after_all first events) →
    Follows send timeout (suc cycle) cycle (set_by clock cycle o).heard (after_all first (events ++ delivered deliveries sync o))
hears more send timeout cycle sync deliveries clock first events None sent turn follows =
    subst (λ (l : List SyncEvent). Follows send timeout (suc cycle) cycle clock.heard (after_all first l)) (sym (append-nil events))
    (record {
      send_is = follows.send_is;
      timeout_is = follows.timeout_is;
      ticked_is = follows.ticked_is;
      last = later_last send cycle clock.heard (after_all first events).last follows.last;
    })
hears more send timeout cycle sync deliveries clock first events (Some base) sent turn follows =
    let slave : SlaveState = after_all first events in
    let msg : SyncMsg = deliveries.msg sync in
    let (named, from) = turn sync in
    let at : cycle ≡ sync * send = sent base refl in
    let new = newer send cycle sync msg.number clock.heard slave.last follows.last named at in
    let same = more first events (Sync msg (deliveries.received sync) (deliveries.line sync)) ∙ accepts slave msg (deliveries.received sync) (deliveries.line sync) new in
    let number : msg.number - 1 ≡ sync = omega (arith, named) in
    subst (λ (s : SlaveState). Follows send timeout (suc cycle) cycle (Some cycle) s) (sym same)
    (record {
      send_is = follows.send_is;
      timeout_is = follows.timeout_is;
      ticked_is = follows.ticked_is;
      last = (from ∙ sym at, omega arith, at ∙ sym (ap (λ (n : ℕ). n * send) number), omega (arith, named));
    })

ticks : IsOneEventMore → (send timeout cycle : ℕ) (heard : Option ℕ) (first : SlaveState) (events : List SyncEvent) →
    Follows send timeout (suc cycle) cycle heard (after_all first events) →
    Follows send timeout (suc cycle) (suc cycle) heard (after_all first (events ++ Tick (suc cycle) ∷ []))
ticks more send timeout cycle heard first events follows =
    subst (λ (s : SlaveState). Follows send timeout (suc cycle) (suc cycle) heard s) (sym (more first events (Tick (suc cycle))))
    (record { send_is = follows.send_is; timeout_is = follows.timeout_is; ticked_is = refl; last = follows.last })

if_some : (b : Bool) (o : Option ℤ) (z : ℤ) → (if b then o else None) ≡ Some z → b ≡ true
if_some true o z is = refl
if_some false o z is = absurd (cc)

sent_in : (domain : Domain) (device cycle : ℕ) (z : ℤ) → base_in domain device cycle ≡ Some z → cycle ≡ cycle / domain.send * domain.send
sent_in domain device cycle z is =
    let test = if_some (cycle % domain.send == 0) (base_of domain device (cycle / domain.send)) z is in
    let rest : cycle % domain.send ≡ 0 = eqb-true (cycle % domain.send) 0 test in
    let whole : cycle / domain.send * domain.send + cycle % domain.send ≡ cycle = div-add-mod' cycle domain.send in
    omega (arith, rest, whole)

follows_clock : IsOneEventMore → (domain : Domain) (deliveries : Deliveries) (timeout device cycle : ℕ) → AreInTurn domain.send deliveries →
    Follows domain.send timeout cycle cycle (clock_at domain device cycle).heard
    (after_all (fresh_slave domain.send timeout) (events_to domain deliveries device cycle))
unfolding clock_at events_to
follows_clock more domain deliveries timeout device zero turn = record { send_is = refl; timeout_is = refl; ticked_is = refl; last = tt }
follows_clock more domain deliveries timeout device (suc cycle) turn =
    ticks more domain.send timeout cycle (set_by (clock_at domain device cycle) cycle (base_in domain device cycle)).heard (fresh_slave domain.send timeout)
    (events_to domain deliveries device cycle ++ delivered deliveries (cycle / domain.send) (base_in domain device cycle))
    (hears more domain.send timeout cycle (cycle / domain.send) deliveries (clock_at domain device cycle) (fresh_slave domain.send timeout)
    (events_to domain deliveries device cycle) (base_in domain device cycle) (λ z is. sent_in domain device cycle z is) turn
    (follows_clock more domain deliveries timeout device cycle turn))

by_test : (b t : Bool) (z : ℤ) → b ≡ t → (t ≡ true) ↔ ((if b then Muted else Synced z) ≡ Muted)
by_test true t z same = (λ is. refl, λ is. sym same)
by_test false t z same = (λ is. absurd (cc), λ is. absurd (cc))

state_cases : (send timeout cycle : ℕ) (heard : Option ℕ) (slave : SlaveState) (o : Option Accepted) → IsLast send cycle heard o → slave.send ≡ send →
    slave.timeout ≡ timeout → slave.ticked ≡ cycle → (is_silent heard cycle (send * timeout) ≡ true) ↔ (state_by slave o ≡ Muted)
state_cases send timeout cycle None slave None is sends waits ticked = (λ same. refl, λ same. refl)
state_cases send timeout cycle None slave (Some last) is sends waits ticked = absurd is
state_cases send timeout cycle (Some heard) slave None is sends waits ticked = absurd is
state_cases send timeout cycle (Some heard) slave (Some last) (same, before, number, some) sends waits ticked =
    by_test (nat_lt (last.cycle + slave.send * slave.timeout) slave.ticked) (nat_lt (heard + send * timeout) cycle) last.offset
    (ap₂ nat_lt (ap₂ (λ (m n : ℕ). m + n) same (ap₂ (λ (m n : ℕ). m * n) sends waits)) ticked)

not_master : (device : ℕ) (b : Bool) → 0 < device → (not (device == 0) && b) ≡ b
not_master device b some =
    elim (cases_Bool (device == 0)) [
      | inl is ↦ let none = eqb-true device 0 is in absurd (omega (arith, none, some))
      | inr other ↦ rw other refl
    ]

pub mutes_as_slave : IsOneEventMore → (domain : Domain) (deliveries : Deliveries) (timeout device cycle : ℕ) → 0 < device → AreInTurn domain.send deliveries →
    (is_mute domain timeout device cycle ≡ true)
    ↔ (state_of (after_all (fresh_slave domain.send timeout) (events_to domain deliveries device cycle)) ≡ Muted)
mutes_as_slave more domain deliveries timeout device cycle some turn =
    let slave : SlaveState = after_all (fresh_slave domain.send timeout) (events_to domain deliveries device cycle) in
    let follows = follows_clock more domain deliveries timeout device cycle turn in
    let (there, back) =
    state_cases domain.send timeout cycle (clock_at domain device cycle).heard slave slave.last follows.last follows.send_is follows.timeout_is follows.ticked_is in
    let same = not_master device (is_silent (clock_at domain device cycle).heard cycle (domain.send * timeout)) some in
    (λ mute. there (sym same ∙ mute), λ muted. same ∙ back muted)
