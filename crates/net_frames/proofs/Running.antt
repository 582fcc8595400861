-- The turns of a run, and how far it has come.
use Rattle.std.proofs.Common.{◌≡◌, ℕ, ◌+◌, ◌*◌, ◌≤◌, ◌<◌, Bool, true, false, cond, ◌++◌, ◌∷◌, [], List, length, map, Option, Some, None, refl, sym, ◌∙◌, ap, subst, arith, append_assoc, append-nil, length-append}
use Rattle.std.specs.Prelude.{ℤ}
use Rattle.std.specs.List.{count_by}
use Rattle.std.specs.List.Sorted.{IsPermutation}
use Rattle.std.proofs.lemmas.List.Sorted.{length_permutation, sum_by-IsPermutation}
use Rattle.std.proofs.lemmas.List.Sums.{count_by-le-length, sum_by-append, sum_by-cons}
use Rattle.irt_base.specs.Wiring.{peer_of, hop_of}
use Rattle.irt_base.specs.declared.blocks.Entry.{Entry}
use Rattle.irt_base.specs.declared.numbers.DevId.{DevId}
use Rattle.irt_base.specs.declared.numbers.PortNo.{PortNo}
use Rattle.plan_rules.specs.Way.{entry_at}
use Rattle.plan_rules.specs.World.{is_in_step, is_uncut}
use Rattle.cycle_rows.proofs.Lists.{count_none}
use Rattle.cycle_events.specs.declared.events.Event.{Event}
use Rattle.cycle_events.specs.declared.events.What.{What}
use Rattle.cycle_events.specs.declared.events.What.TheVariants.{Start, Arrive}
use Rattle.cycle_events.specs.Events.{Play, arrive_at, causes, causes_as, event, ports_in, rows_as, rows_of, start_after, starts_at}
use Rattle.cycle_events.specs.Places.{is_arrival, places}
use Rattle.cycle_events.specs.Run.{IsBegun, IsNearEvent, IsRunning, IsTurn, RunsBegin, RunsGoOn, TurnsFit, TurnsGiveRows, TurnsHappen, rows_given}
use Rattle.cycle_events.proofs.Lists.{count_map}
use Rattle.event_queue.specs.Waiting.{Waiting}
use Rattle.run_journal.specs.Written.{Written}
use Rattle.net_frames.specs.Frames.{IsReadyFor}
use Rattle.net_frames.specs.Playing.{HasGiven, IsStarted}

-- Some events were handled, which gave the rows that were appended. For all that may still come there is room.
pub record IsUnderWay (play : Play) (old : Written) (queue : Waiting) (journal : Written) : Type 0 where
  pub first : List Event
  pub handled : List Event
  pub begun : IsBegun play first
  pub running : IsRunning play first handled queue.events
  pub rows : journal.rows ≡ old.rows ++ rows_given play handled
  pub space : journal.room + length (rows_given play handled) ≡ old.room
  pub few : length (rows_given play handled) ≤ length handled
  pub some : length handled ≤ length (places play.setup)
  pub ample : length (places play.setup) ≤ old.room
  pub room : length (places play.setup) ≤ queue.room + length queue.events

pub under_way : (play : Play) → RunsBegin play → (old : Written) (queue : Waiting) → IsStarted play queue.events → length (places play.setup) ≤ queue.room + length queue.events →
    length (places play.setup) ≤ old.room → IsUnderWay play old queue old
under_way play begin old queue started room ample = record {
  first = started.first;
  handled = [];
  begun = started.begun;
  running = begin started.first queue.events started.begun started.same;
  rows = sym (append-nil old.rows);
  space = omega arith;
  few = omega arith;
  some = omega arith;
  ample = ample;
  room = room;
}

-- what a turn needs
pub record HasRoom (play : Play) (popped : Waiting) (journal : Written) (e : Event) : Type 0 where
  pub one : 1 ≤ popped.room
  pub caused : length (causes play e) ≤ popped.room
  pub space : 1 ≤ journal.room

module _ (play : Play) (old : Written) (queue popped : Waiting) (journal : Written) (e : Event) (under : IsUnderWay play old queue journal)
    (taken : IsPermutation queue.events (e ∷ popped.events)) where
  turn : IsTurn play under.first under.handled queue.events e popped.events
  turn = record { begun = under.begun; running = under.running; taken = taken }

  pub near : TurnsHappen play → IsNearEvent play e
  near happen = happen under.first under.handled queue.events popped.events e turn

  pub has_room : TurnsFit play → popped.room ≡ queue.room + 1 → HasRoom play popped journal e
  has_room fit more =
      let fits = fit under.first under.handled queue.events popped.events e turn in
      let counted = length_permutation queue.events (e ∷ popped.events) taken in
      let room = under.room in
      let space = under.space in
      let few = under.few in
      let ample = under.ample in
      record { one = omega arith; caused = omega arith; space = omega arith }

  pub goes_on : RunsGoOn play → TurnsFit play → TurnsGiveRows play → popped.room ≡ queue.room + 1 → (after : Waiting) (later : Written) →
      IsPermutation (causes play e ++ popped.events) after.events → popped.room ≤ after.room + length (causes play e) → later.rows ≡ journal.rows ++ rows_of play e →
      later.room + length (rows_of play e) ≡ journal.room → IsUnderWay play old after later
  goes_on on fit give more after later put left rows space =
      let fits = fit under.first under.handled queue.events popped.events e turn in
      let gives = give under.handled e in
      let counted = length_permutation queue.events (e ∷ popped.events) taken in
      let moved = length_permutation (causes play e ++ popped.events) after.events put in
      let joined = length-append (causes play e) popped.events in
      let longer = length-append under.handled (e ∷ []) in
      let given = ap length gives.last ∙ length-append (rows_given play under.handled) (rows_of play e) in
      let one = gives.one in
      let few = under.few in
      let spaced = under.space in
      let room = under.room in
      record {
        first = under.first;
        handled = under.handled ++ e ∷ [];
        begun = under.begun;
        running = on under.first under.handled queue.events popped.events after.events e under.running taken put;
        rows = rows
            ∙ (ap (λ ys. ys ++ rows_of play e) under.rows
            ∙ (append_assoc old.rows (rows_given play under.handled) (rows_of play e) ∙ ap (λ ys. old.rows ++ ys) (sym gives.last)));
        space = omega arith;
        few = omega arith;
        some = omega arith;
        ample = under.ample;
        room = omega arith;
      }

-- ---- that it ends

-- What is still to come is less after each turn: a start gives a row and causes one arrival at most, and an arrival
-- causes only starts.
pub to_come : Waiting → Written → ℕ
to_come queue journal = 2 * journal.room + count_by (λ (e : Event). is_arrival e.what) queue.events

few_arrive : (play : Play) (e : Event) → length (causes_as play e Start) ≤ 1
few_arrive play e = go (is_uncut play.setup.plant play.row e.device.0 e.port.0) (peer_of play.setup.plant e.device.0 e.port.0) (hop_of play.setup.plant e.device.0 e.port.0)
  where
    go : (b : Bool) (far : Option (DevId × PortNo)) (hop : Option ℕ) → length (cond b (arrive_at e.at e.frame.0 far hop) []) ≤ 1
    go false far hop = omega arith
    go true None hop = omega arith
    go true (Some far) None = omega arith
    go true (Some far) (Some hop) = omega arith

none_arrive : (play : Play) (e : Event) → count_by (λ (x : Event). is_arrival x.what) (causes_as play e Arrive) ≡ 0
none_arrive play e = go (is_in_step play.setup.plant play.row e.device.0) (entry_at play.setup e.device.0 e.frame.0)
  where
    none : (at : ℤ) (ports : List ℕ) → count_by (λ (x : Event). is_arrival x.what) (map (λ port. event at e.device.0 port e.frame.0 Start) ports) ≡ 0
    none at ports =
        let m = count_map (λ (x : Event). is_arrival x.what) (λ port. event at e.device.0 port e.frame.0 Start) ports in
        let s = count_none (λ (n : ℕ). false) ports (λ n is. refl) in
        omega arith

    go : (b : Bool) (o : Option Entry) → count_by (λ (x : Event). is_arrival x.what) (cond b (starts_at play e.device.0 e.frame.0 e.at o) []) ≡ 0
    go false o = refl
    go true None = refl
    go true (Some x) = none (start_after play e.device.0 e.frame.0 x e.at) (ports_in x.tx)

progress : (play : Play) (e : Event) (what : What) → (what ≡ Start → length (rows_as play e what) ≡ 1) →
    count_by (λ (x : Event). is_arrival x.what) (causes_as play e what) + 1 ≤ 2 * length (rows_as play e what) + cond (is_arrival what) 1 0
progress play e Start one =
    let few = few_arrive play e in
    let less = count_by-le-length (λ (x : Event). is_arrival x.what) (causes_as play e Start) in
    let row = one refl in
    omega arith
progress play e Arrive one = let none = none_arrive play e in omega arith

by_counts : (before later rows queue taken popped arrives after both caused : ℕ) → taken ≡ queue → taken ≡ arrives + popped → after ≡ both → both ≡ caused + popped →
    caused + 1 ≤ 2 * rows + arrives → later + rows ≡ before → 2 * later + after < 2 * before + queue
by_counts before later rows queue taken popped arrives after both caused out first back joined less space = omega arith

pub comes_less : (play : Play) (queue popped after : Waiting) (journal later : Written) (e : Event) → (e.what ≡ Start → length (rows_of play e) ≡ 1) →
    IsPermutation queue.events (e ∷ popped.events) → IsPermutation (causes play e ++ popped.events) after.events → later.room + length (rows_of play e) ≡ journal.room →
    to_come after later < to_come queue journal
unfolding to_come
comes_less play queue popped after journal later e one taken put space =
    let arrives : Event → Bool = λ x. is_arrival x.what in
    let arriving : Event → ℕ = λ x. cond (is_arrival x.what) 1 0 in
    let out : count_by arrives (e ∷ popped.events) ≡ count_by arrives queue.events = sum_by-IsPermutation arriving queue.events (e ∷ popped.events) taken in
    let first : count_by arrives (e ∷ popped.events) ≡ cond (is_arrival e.what) 1 0 + count_by arrives popped.events = sum_by-cons arriving e popped.events in
    let back : count_by arrives after.events ≡ count_by arrives (causes play e ++ popped.events) = sum_by-IsPermutation arriving (causes play e ++ popped.events) after.events put in
    let joined : count_by arrives (causes play e ++ popped.events) ≡ count_by arrives (causes play e) + count_by arrives popped.events = sum_by-append arriving (causes play e) popped.events in
    let less : count_by arrives (causes play e) + 1 ≤ 2 * length (rows_of play e) + cond (is_arrival e.what) 1 0 = progress play e e.what one in
    by_counts _ _ _ _ _ _ _ _ _ _ out first back joined less space

-- ---- the end

pub run_ended : (play : Play) (old : Written) (queue : Waiting) (journal : Written) → IsUnderWay play old queue journal → queue.events ≡ [] → HasGiven play old journal
run_ended play old queue journal under none =
    let few = under.few in
    let some = under.some in
    record {
      first = under.first;
      handled = under.handled;
      begun = under.begun;
      run = subst (IsRunning play under.first under.handled) none under.running;
      rows = under.rows;
      room = under.space;
      few = omega arith;
    }

pub ready_again : (play : Play) (old : Written) (queue : Waiting) (journal : Written) → IsUnderWay play old queue journal → queue.events ≡ [] → IsReadyFor (length (places play.setup)) queue
ready_again play old queue journal under none =
    let room = under.room in
    let empty = ap length none in
    record { empty = none; room = omega arith }
