-- What is known of a relayed message's travel.
use Rattle.std.proofs.Common.{◌≡◌, ℕ, ◌+◌, ◌*◌, ◌==◌, ◌||◌, Bool, nat_le, List, [], ◌∷◌, length, All, Option, Some, None, option_and_then, refl, sym, ◌∙◌, ap, subst, arith}
use Rattle.std.proofs.lemmas.List.Elements.{All-head, All-tail}
use Rattle.ptcp_core.specs.declared.messages.SyncMsg.{SyncMsg}
use Rattle.ptcp_core.specs.declared.messages.TheConstants.{TIME_END}
use Rattle.ptcp_core.specs.Clocks.{made_msg, corrected, relayed}
use Rattle.irt_base.specs.Cycle.{IsNear}
use Rattle.ptcp_core.specs.Honest.{Relay, IsHonestRelay, relayed_by, travel_of}

-- a message with one more hop and another correction
abbrev pub with_hop : SyncMsg → ℕ → ℕ → SyncMsg
with_hop m hops correction = record { number = m.number; cycle = m.cycle; hops = hops; origin = m.origin; correction = correction }

relayed-is : (m : SyncMsg) (line residence : ℕ) (b : Bool) (next : SyncMsg) → ((m.hops == 255) || nat_le TIME_END (corrected m line residence)) ≡ b →
    relayed m line residence ≡ Some next → next ≡ with_hop m (m.hops + 1) (corrected m line residence)
relayed-is m line residence b next test e = grind arith

-- one step of the devices
step : (m : SyncMsg) (r : Relay) (more : List Relay) (o : Option SyncMsg) (last : SyncMsg) → relayed m r.line r.residence ≡ o →
    option_and_then (λ n. relayed_by n more) o ≡ Some last →
    relayed_by (with_hop m (m.hops + 1) (corrected m r.line r.residence)) more ≡ Some last
step m r more None last is e = absurd (cc)
step m r more (Some next) last is e =
    let same = relayed-is m r.line r.residence _ next refl is in
    let Goes : SyncMsg → Type 0 = λ n. relayed_by n more ≡ Some last in subst Goes same e

-- the correction gains what the relays add, near the true travel
pub near_all : (stamp travel : ℕ) (relays : List Relay) (m last : SyncMsg) (error : ℕ) → All (IsHonestRelay stamp) relays →
    relayed_by m relays ≡ Some last → IsNear error m.correction travel →
    IsNear (error + length relays * (4 * stamp)) last.correction (travel + travel_of relays)
near_all stamp travel [] m last error honest e near =
    let same : m ≡ last = cc in
    let correction = ap (λ (n : SyncMsg). n.correction) same in (omega arith, omega arith)
near_all stamp travel (r ∷ more) m last error honest e near =
    let now = All-head (IsHonestRelay stamp) r more honest in
    let next = with_hop m (m.hops + 1) (corrected m r.line r.residence) in
    let gone = step m r more (relayed m r.line r.residence) last refl e in
    let added : IsNear (error + 4 * stamp) next.correction (travel + (r.delay + r.stay)) = (omega (arith, now.0, now.1), omega (arith, now.0, now.1)) in
    let rest = near_all stamp (travel + (r.delay + r.stay)) more next last (error + 4 * stamp) (All-tail (IsHonestRelay stamp) r more honest) gone added in
    (omega (arith, rest.0), omega (arith, rest.1))

pub near_law : (stamp number cycle now line delay : ℕ) (relays : List Relay) (msg : SyncMsg) → All (IsHonestRelay stamp) relays →
    relayed_by (made_msg number cycle now) relays ≡ Some msg → IsNear (2 * stamp) line delay →
    IsNear ((length relays + 1) * (4 * stamp + 1)) (msg.correction + line) (travel_of relays + delay)
near_law stamp number cycle now line delay relays msg honest e near =
    let all = near_all stamp 0 relays (made_msg number cycle now) msg 0 honest e (omega arith, omega arith) in
    (omega (arith, all.0), omega (arith, all.1))

counted : (relays : List Relay) (m last : SyncMsg) → relayed_by m relays ≡ Some last → last ≡ with_hop m (m.hops + length relays) last.correction
counted [] m last e =
    let same : m ≡ last = cc in
    let hops : m.hops ≡ m.hops + 0 = omega arith in
    sym same ∙ (λ i. with_hop m (hops i) ((ap (λ (n : SyncMsg). n.correction) same) i))
counted (r ∷ more) m last e =
    let next = with_hop m (m.hops + 1) (corrected m r.line r.residence) in
    let gone = step m r more (relayed m r.line r.residence) last refl e in
    let hops : m.hops + 1 + length more ≡ m.hops + length (r ∷ more) = omega arith in
    counted more next last gone ∙ (λ i. with_hop m (hops i) last.correction)

pub counted_law : (number cycle now : ℕ) (relays : List Relay) (msg : SyncMsg) → relayed_by (made_msg number cycle now) relays ≡ Some msg →
    msg ≡ with_hop (made_msg number cycle now) (length relays) msg.correction
counted_law number cycle now relays msg e =
    let hops : 0 + length relays ≡ length relays = omega arith in
    counted relays (made_msg number cycle now) msg e ∙ (λ i. with_hop (made_msg number cycle now) (hops i) msg.correction)
