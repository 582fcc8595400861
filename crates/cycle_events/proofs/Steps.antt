-- What an event causes happens, and not before it.
use Rattle.std.proofs.Common.{◌≡◌, ℕ, ◌+◌, ◌*◌, Bool, true, false, cond, [], Option, Some, None, get_or, refl, sym, ◌∙◌, ap, subst, arith, All}
use Rattle.std.specs.Prelude.{ℤ, pos, ◌+ℤ◌, ◌≤ℤ◌}
use Rattle.std.proofs.lemmas.Bool.{true≢false}
use Rattle.std.proofs.lemmas.Int.{ints}
use Rattle.std.proofs.lemmas.List.Elements.{All-nil, All-cons, All-map, Contains-get_or}
use Rattle.irt_base.specs.Cycle.{cycle_time}
use Rattle.irt_base.specs.Wiring.{peer_of, hop_of}
use Rattle.irt_base.specs.declared.numbers.DevId.{DevId}
use Rattle.irt_base.specs.declared.numbers.PortNo.{PortNo}
use Rattle.irt_base.specs.declared.blocks.Entry.{Entry}
use Rattle.plan_rules.specs.Arrival.{Arrival, IsArrival}
use Rattle.plan_rules.specs.Network.{IsSentAt, IsSentOn}
use Rattle.plan_rules.specs.Way.{entry_at, Leaves}
use Rattle.plan_rules.specs.World.{IsInStep, is_in_step, is_uncut}
use Rattle.cycle_events.specs.declared.events.Event.{Event}
use Rattle.cycle_events.specs.declared.events.What.{What}
use Rattle.cycle_events.specs.declared.events.What.TheVariants.{Start, Arrive}
use Rattle.cycle_events.specs.Events.{Play, arrival_of, Happens, HappensAs, ports_in, is_absolute, event, arrive_at, start_after, starts_at, causes, causes_as}
use Rattle.cycle_events.proofs.Facts.{Facts}
use Rattle.cycle_events.proofs.Tests.{step_passed, uncut_passed, absolute_passed, absolute_true, ports_leave}

-- ---- an uncut link leads a start to an arrival

abbrev pub arrival_from : (play : Play) (device port frame : ℕ) (start : ℤ) → (sent : IsSentAt play.setup play.row play.cycle device port frame start) → is_uncut play.setup.plant play.row device port ≡ true →
    (far : DevId × PortNo) → peer_of play.setup.plant device port ≡ Some far → (hop : ℕ) → hop_of play.setup.plant device port ≡ Some hop →
    IsArrival play.setup play.row sent.entry (record { cycle = play.cycle; device = far.0.0; port = far.1.0; frame = frame; start = start +ℤ pos hop })
arrival_from play device port frame start sent uncut far leads hop hops = record {
  sender = device;
  port = port;
  hop = hop;
  sent = start;
  stands = sent.stands;
  due = sent.due;
  leaves = sent.leaves;
  live = sent.live;
  uncut = uncut_passed play device port uncut;
  leads = leads;
  hops = hops;
  starts = sent.starts;
  comes = refl;
}

arrival_happens : (play : Play) (device port frame : ℕ) (start : ℤ) → IsSentAt play.setup play.row play.cycle device port frame start → (b : Bool) → is_uncut play.setup.plant play.row device port ≡ b →
    (far : Option (DevId × PortNo)) → peer_of play.setup.plant device port ≡ far → (hop : Option ℕ) → hop_of play.setup.plant device port ≡ hop →
    All (Happens play) (cond b (arrive_at start frame far hop) [])
arrival_happens play device port frame start sent false uncut far leads hop hops = All-nil (Happens play)
arrival_happens play device port frame start sent true uncut None leads hop hops = All-nil (Happens play)
arrival_happens play device port frame start sent true uncut (Some far) leads None hops = All-nil (Happens play)
arrival_happens play device port frame start sent true uncut (Some far) leads (Some hop) hops =
    All-cons (Happens play) (event (start +ℤ pos hop) far.0.0 far.1.0 frame Arrive) []
    (sent.entry, arrival_from play device port frame start sent uncut far leads hop hops) (All-nil (Happens play))

-- ---- a device in step that has received a frame starts it by each port

-- the start that the function gives is the one that follows the arrival
pub same_start : (play : Play) (a : Arrival) (e : Entry) (port : ℕ) → (on : IsSentOn play.setup play.row a e port) → a.cycle ≡ play.cycle → (b : Bool) → is_absolute play.setup.plant a.device ≡ b →
    on.start ≡ cond b (pos (play.cycle * cycle_time play.setup.plant.factor + e.send_offset) +ℤ play.row.error a.device) (a.start +ℤ pos (play.row.bridge a.device a.frame))
same_start play a e port on cycle true absolute =
    on.absolute (absolute_passed play.setup.plant a.device absolute)
    ∙ ap (λ k. pos (k * cycle_time play.setup.plant.factor + e.send_offset) +ℤ play.row.error a.device) cycle
same_start play a e port on cycle false relative =
    on.relative (λ absolute. true≢false (sym (absolute_true play.setup.plant a.device absolute) ∙ relative))

pub sent_then : (play : Play) (from : Entry) (a : Arrival) (e : Entry) (port : ℕ) → Facts play → a.cycle ≡ play.cycle → IsArrival play.setup play.row from a →
    IsInStep play.setup.plant play.row a.device → entry_at play.setup a.device a.frame ≡ Some e → Leaves e port →
    IsSentAt play.setup play.row play.cycle a.device port a.frame (start_after play a.device a.frame e a.start)
sent_then play from a e port facts cycle is step at leaves =
    let on = facts.sent_on from a e port is step at leaves in
    let same = same_start play a e port on cycle (is_absolute play.setup.plant a.device) refl in
    subst (λ k. IsSentAt play.setup play.row k a.device port a.frame (start_after play a.device a.frame e a.start)) cycle
    (subst (IsSentAt play.setup play.row a.cycle a.device port a.frame) same on.sent)

starts_happen : (play : Play) (from : Entry) (a : Arrival) → Facts play → a.cycle ≡ play.cycle → IsArrival play.setup play.row from a →
    (b : Bool) → is_in_step play.setup.plant play.row a.device ≡ b → (o : Option Entry) → entry_at play.setup a.device a.frame ≡ o →
    All (Happens play) (cond b (starts_at play a.device a.frame a.start o) [])
starts_happen play from a facts cycle is false step o at = All-nil (Happens play)
starts_happen play from a facts cycle is true step None at = All-nil (Happens play)
starts_happen play from a facts cycle is true step (Some e) at =
    All-map (Happens play) (λ port. event (start_after play a.device a.frame e a.start) a.device port a.frame Start) (ports_in e.tx)
    (λ n d below.
    sent_then play from a e (get_or (ports_in e.tx) n d) facts cycle is (step_passed play a.device step) at
    (ports_leave e (get_or (ports_in e.tx) n d) (Contains-get_or (ports_in e.tx) n d below)))

causes_happen_as : (play : Play) → Facts play → (e : Event) (what : What) → HappensAs play e what → All (Happens play) (causes_as play e what)
causes_happen_as play facts e Start is =
    arrival_happens play e.device.0 e.port.0 e.frame.0 e.at is (is_uncut play.setup.plant play.row e.device.0 e.port.0) refl
    (peer_of play.setup.plant e.device.0 e.port.0) refl (hop_of play.setup.plant e.device.0 e.port.0) refl
causes_happen_as play facts e Arrive (from, is) =
    starts_happen play from (arrival_of play e) facts refl is (is_in_step play.setup.plant play.row e.device.0) refl (entry_at play.setup e.device.0 e.frame.0) refl

pub causes_happen : (play : Play) → Facts play → (e : Event) → Happens play e → All (Happens play) (causes play e)
causes_happen play facts e is = causes_happen_as play facts e e.what is

-- ---- not before it

abbrev IsAfter : ℤ → Event → Type 0
IsAfter at c = at ≤ℤ c.at

after_gap : (at : ℤ) (n : ℕ) → at ≤ℤ (at +ℤ pos n)
after_gap at n = omega (arith, ints)

arrival_follows : (at : ℤ) (frame : ℕ) (b : Bool) (far : Option (DevId × PortNo)) (hop : Option ℕ) → All (IsAfter at) (cond b (arrive_at at frame far hop) [])
arrival_follows at frame false far hop = All-nil (IsAfter at)
arrival_follows at frame true None hop = All-nil (IsAfter at)
arrival_follows at frame true (Some far) None = All-nil (IsAfter at)
arrival_follows at frame true (Some far) (Some hop) =
    All-cons (IsAfter at) (event (at +ℤ pos hop) far.0.0 far.1.0 frame Arrive) [] (after_gap at hop) (All-nil (IsAfter at))

starts_follow : (play : Play) (from : Entry) (a : Arrival) → Facts play → a.cycle ≡ play.cycle → IsArrival play.setup play.row from a →
    (b : Bool) → is_in_step play.setup.plant play.row a.device ≡ b → (o : Option Entry) → entry_at play.setup a.device a.frame ≡ o →
    All (IsAfter a.start) (cond b (starts_at play a.device a.frame a.start o) [])
starts_follow play from a facts cycle is false step o at = All-nil (IsAfter a.start)
starts_follow play from a facts cycle is true step None at = All-nil (IsAfter a.start)
starts_follow play from a facts cycle is true step (Some e) at =
    All-map (IsAfter a.start) (λ port. event (start_after play a.device a.frame e a.start) a.device port a.frame Start) (ports_in e.tx)
    (λ n d below. later (get_or (ports_in e.tx) n d) (ports_leave e (get_or (ports_in e.tx) n d) (Contains-get_or (ports_in e.tx) n d below)))
  where
    later : (port : ℕ) → Leaves e port → a.start ≤ℤ start_after play a.device a.frame e a.start
    later port leaves =
        let on = facts.sent_on from a e port is (step_passed play a.device step) at leaves in
        subst (λ s. a.start ≤ℤ s) (same_start play a e port on cycle (is_absolute play.setup.plant a.device) refl) on.later

causes_follow_as : (play : Play) → Facts play → (e : Event) (what : What) → HappensAs play e what → All (IsAfter e.at) (causes_as play e what)
causes_follow_as play facts e Start is =
    arrival_follows e.at e.frame.0 (is_uncut play.setup.plant play.row e.device.0 e.port.0) (peer_of play.setup.plant e.device.0 e.port.0) (hop_of play.setup.plant e.device.0 e.port.0)
causes_follow_as play facts e Arrive (from, is) =
    starts_follow play from (arrival_of play e) facts refl is (is_in_step play.setup.plant play.row e.device.0) refl (entry_at play.setup e.device.0 e.frame.0) refl

pub causes_follow : (play : Play) → Facts play → (e : Event) → Happens play e → All (λ (c : Event). e.at ≤ℤ c.at) (causes play e)
causes_follow play facts e is = causes_follow_as play facts e e.what is
