-- How near a slave's offset is to the true one.
use Rattle.std.proofs.Common.{◌≡◌, ℕ, zero, suc, ◌+◌, ◌-◌, ◌*◌, ◌≤◌, Bool, true, false, ℤ, pos, List, [], ◌∷◌, ◌++◌, Option, Some, None, refl, sym, ◌∙◌, ap, subst, arith}
use Rattle.std.proofs.lemmas.Int.{ints}
use Rattle.std.proofs.lemmas.Bool.Decides.{nat_tests}
use Rattle.std.proofs.Math.Nat.{mul-le-mul_left, mul_assoc}
use Rattle.irt_base.specs.Cycle.{budget_time}
use Rattle.ptcp_core.specs.declared.messages.SyncMsg.{SyncMsg}
use Rattle.ptcp_core.specs.declared.slave.Accepted.{Accepted}
use Rattle.ptcp_core.specs.declared.slave.SyncEvent.{SyncEvent}
use Rattle.ptcp_core.specs.declared.slave.SyncEvent.TheVariants.{Sync, Tick}
use Rattle.ptcp_core.specs.declared.slave.SyncState.TheVariants.{Synced}
use Rattle.ptcp_core.specs.Clocks.{SlaveState, fresh_slave, after_event, state_of, state_by, is_newer, offset_of}
use Rattle.ptcp_core.specs.Honest.{AreNear, SlaveClock, IsHonestSync, IsLater, IsHonestAt, AreHonest, after_all}

-- the true offset moves by at most the drift in each cycle
moved : (clock : SlaveClock) (k n : ℕ) → AreNear (clock.drift * n) (clock.ahead (k + n)) (clock.ahead k)
moved clock k zero =
    let same : clock.ahead (k + 0) ≡ clock.ahead k = ap clock.ahead (omega arith) in
    let none : pos (clock.drift * 0) ≡ pos 0 = ap pos (omega arith) in (omega (arith, ints, same, none), omega (arith, ints, same, none))
moved clock k (suc n) =
    let before = moved clock k n in
    let once = clock.drifts (k + n) in
    let same : clock.ahead (k + n + 1) ≡ clock.ahead (k + suc n) = ap clock.ahead (omega arith) in
    (omega (arith, ints, before.0, before.1, once.0, once.1, same), omega (arith, ints, before.0, before.1, once.0, once.1, same))

-- by how much the offset of one message may be wrong
abbrev pub at_once : SlaveClock → ℕ
at_once clock = clock.hops * (4 * clock.stamp + 1) + 2 * clock.stamp

one_sync : (clock : SlaveClock) (now : ℕ) (msg : SyncMsg) (stamped line : ℕ) → IsHonestSync clock now msg stamped line →
    AreNear (at_once clock) (offset_of msg stamped line) (clock.ahead now)
one_sync clock now msg stamped line h =
    (omega (arith, ints, h.truly, h.origin, h.received, h.known), omega (arith, ints, h.truly, h.origin, h.received, h.known))

-- a message that was accepted was honest in a cycle up to the last tick
pub record WasHeard (clock : SlaveClock) (ticked : ℕ) (last : Accepted) : Type 0 where
  pub heard : ℕ
  pub earlier : last.cycle ≤ heard
  pub ticked_since : heard ≤ ticked
  pub near : AreNear (at_once clock) last.offset (clock.ahead heard)

abbrev pub IsHeard : SlaveClock → ℕ → Option Accepted → Type 0
IsHeard clock ticked None = Unit {0}
IsHeard clock ticked (Some last) = WasHeard clock ticked last

-- before the first tick nothing was heard; after it the slave knows the cycle of the last one
abbrev pub Knows : SlaveClock → Option ℕ → SlaveState → Type 0
Knows clock None slave = slave.last ≡ None
Knows clock (Some now) slave = (slave.ticked ≡ now) × IsHeard clock now slave.last

later : (clock : SlaveClock) (before after : ℕ) (last : Option Accepted) → before ≤ after → IsHeard clock before last → IsHeard clock after last
later clock before after None le h = tt
later clock before after (Some last) le h =
    record { heard = h.heard; earlier = h.earlier; ticked_since = omega (arith, h.ticked_since); near = h.near }

ticks : (clock : SlaveClock) (now : Option ℕ) (slave : SlaveState) (cycle : ℕ) → IsLater now cycle → Knows clock now slave →
    Knows clock (Some cycle) (after_event slave (Tick cycle))
ticks clock None slave cycle l h =
    let Heard : Option Accepted → Type 0 = λ o. IsHeard clock cycle o in (refl, subst Heard (sym h) tt)
ticks clock (Some now) slave cycle l h = (refl, later clock now cycle slave.last (omega arith) h.1)

-- the slave where the message's number is tested
abbrev pub heard_by : Bool → SlaveState → SyncMsg → ℕ → ℕ → SlaveState
heard_by true slave msg stamped line =
    record slave { last = Some (record { number = msg.number; cycle = msg.cycle; offset = offset_of msg stamped line }) }
heard_by false slave msg stamped line = slave

hears_by : (b : Bool) (clock : SlaveClock) (now : ℕ) (slave : SlaveState) (msg : SyncMsg) (stamped line : ℕ) →
    IsHonestSync clock now msg stamped line → Knows clock (Some now) slave → Knows clock (Some now) (heard_by b slave msg stamped line)
hears_by false clock now slave msg stamped line honest h = h
hears_by true clock now slave msg stamped line honest h =
    (h.0, record { heard = now; earlier = honest.earlier; ticked_since = omega arith; near = one_sync clock now msg stamped line honest })

by_test : (b : Bool) (slave : SlaveState) (msg : SyncMsg) (stamped line : ℕ) → is_newer slave.last msg.number ≡ b →
    after_event slave (Sync msg stamped line) ≡ heard_by b slave msg stamped line
by_test true slave msg stamped line e = rw e refl
by_test false slave msg stamped line e = rw e refl

hears : (clock : SlaveClock) (now : Option ℕ) (slave : SlaveState) (msg : SyncMsg) (stamped line : ℕ) → IsHonestAt clock now msg stamped line →
    Knows clock now slave → Knows clock now (after_event slave (Sync msg stamped line))
hears clock None slave msg stamped line honest h = absurd honest
hears clock (Some now) slave msg stamped line honest h =
    let b = is_newer slave.last msg.number in
    let Know : SlaveState → Type 0 = λ s. Knows clock (Some now) s in
    subst Know (sym (by_test b slave msg stamped line refl)) (hears_by b clock now slave msg stamped line honest h)

kept_by : (b : Bool) (slave : SlaveState) (msg : SyncMsg) (stamped line : ℕ) →
    ((heard_by b slave msg stamped line).send ≡ slave.send) × ((heard_by b slave msg stamped line).timeout ≡ slave.timeout)
kept_by true slave msg stamped line = (refl, refl)
kept_by false slave msg stamped line = (refl, refl)

kept : (slave : SlaveState) (event : SyncEvent) → ((after_event slave event).send ≡ slave.send) × ((after_event slave event).timeout ≡ slave.timeout)
kept slave (Tick cycle) = (refl, refl)
kept slave (Sync msg stamped line) =
    let b = is_newer slave.last msg.number in
    let e = by_test b slave msg stamped line refl in
    let k = kept_by b slave msg stamped line in
    (ap (λ (s : SlaveState). s.send) e ∙ k.0, ap (λ (s : SlaveState). s.timeout) e ∙ k.1)

-- the state says that the last message was accepted, and is not late
abbrev pub IsTimely : SlaveState → Option Accepted → ℤ → Type 0
IsTimely slave None offset = ⊥
IsTimely slave (Some last) offset = (last.offset ≡ offset) × (slave.ticked ≤ last.cycle + slave.send * slave.timeout)

timely_by : (slave : SlaveState) (last : Accepted) (offset : ℤ) → state_by slave (Some last) ≡ Synced offset → IsTimely slave (Some last) offset
timely_by slave last offset e = grind (arith, nat_tests)

timely : (slave : SlaveState) (last : Option Accepted) (offset : ℤ) → state_by slave last ≡ Synced offset → IsTimely slave last offset
timely slave None offset e = (cc)
timely slave (Some last) offset e = timely_by slave last offset e

-- one message, so many cycles ago
within : (clock : SlaveClock) (send timeout now heard : ℕ) (offset : ℤ) → heard ≤ now → now ≤ heard + send * timeout →
    AreNear (at_once clock) offset (clock.ahead heard) →
    AreNear (budget_time clock.hops clock.stamp clock.drift send timeout) offset (clock.ahead now)
within clock send timeout now heard offset since wait near =
    let n : ℕ = now - heard in
    let far = moved clock heard n in
    let here : clock.ahead (heard + n) ≡ clock.ahead now = ap clock.ahead (omega arith) in
    let few : n ≤ send * timeout = omega arith in
    let drifted : clock.drift * n ≤ clock.drift * (send * timeout) = mul-le-mul_left clock.drift few in
    let all : clock.drift * send * timeout ≡ clock.drift * (send * timeout) = mul_assoc clock.drift send timeout in
    let there : clock.drift * n ≤ clock.drift * send * timeout = omega (arith, drifted, all) in
    (omega (arith, ints, far.0, far.1, here, there, near.0, near.1), omega (arith, ints, far.0, far.1, here, there, near.0, near.1))

ends : (clock : SlaveClock) (slave : SlaveState) (now : Option ℕ) (last : Option Accepted) (offset : ℤ) → slave.last ≡ last → Knows clock now slave →
    IsTimely slave last offset →
    AreNear (budget_time clock.hops clock.stamp clock.drift slave.send slave.timeout) offset (clock.ahead slave.ticked)
ends clock slave now None offset is h timely = absurd timely
ends clock slave None (Some last) offset is h timely = absurd (cc)
ends clock slave (Some now) (Some last) offset is h timely =
    let Heard : Option Accepted → Type 0 = λ o. IsHeard clock now o in
    let was : WasHeard clock now last = subst Heard is h.1 in
    let Near : ℤ → Type 0 = λ z. AreNear (at_once clock) z (clock.ahead was.heard) in
    within clock slave.send slave.timeout slave.ticked was.heard offset (omega (arith, h.0, was.ticked_since))
    (omega (arith, timely.1, was.earlier)) (subst Near timely.0 was.near)

along : (clock : SlaveClock) (events : List SyncEvent) (now : Option ℕ) (slave : SlaveState) (offset : ℤ) → AreHonest clock now events →
    Knows clock now slave → state_of (after_all slave events) ≡ Synced offset →
    AreNear (budget_time clock.hops clock.stamp clock.drift slave.send slave.timeout) offset (clock.ahead (after_all slave events).ticked)
along clock [] now slave offset honest h e = ends clock slave now slave.last offset refl h (timely slave slave.last offset e)
along clock (Tick cycle ∷ more) now slave offset honest h e =
    along clock more (Some cycle) (after_event slave (Tick cycle)) offset honest.1 (ticks clock now slave cycle honest.0 h) e
along clock (Sync msg stamped line ∷ more) now slave offset honest h e =
    let next = after_event slave (Sync msg stamped line) in
    let same = kept slave (Sync msg stamped line) in
    let Near : ℕ → ℕ → Type 0 = λ send timeout. AreNear (budget_time clock.hops clock.stamp clock.drift send timeout) offset
    (clock.ahead (after_all next more).ticked) in
    let BySend : ℕ → Type 0 = λ send. Near send slave.timeout in
    let ByTimeout : ℕ → Type 0 = λ timeout. Near next.send timeout in
    subst BySend same.0 (subst ByTimeout same.1 (along clock more now next offset honest.1 (hears clock now slave msg stamped line honest.0 h) e))

pub slave_near : (clock : SlaveClock) (send timeout : ℕ) (events : List SyncEvent) (offset : ℤ) → AreHonest clock None events →
    state_of (after_all (fresh_slave send timeout) events) ≡ Synced offset →
    AreNear (budget_time clock.hops clock.stamp clock.drift send timeout) offset (clock.ahead (after_all (fresh_slave send timeout) events).ticked)
slave_near clock send timeout events offset honest e = along clock events None (fresh_slave send timeout) offset honest refl e

-- one event more
pub one_more : (slave : SlaveState) (events : List SyncEvent) (event : SyncEvent) → after_all slave (events ++ event ∷ []) ≡ after_event (after_all slave events) event
one_more slave [] event = refl
one_more slave (first ∷ more) event = one_more (after_event slave first) more event
