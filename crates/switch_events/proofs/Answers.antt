-- The answer to an arrival is what the arrival causes.
use Rattle.std.proofs.Common.{◌≡◌, ◌↔◌, ℕ, zero, suc, ◌≤◌, Bool, true, false, cond, List, [], ◌∷◌, map, filter, Option, Some, slice_get, refl, sym, ◌∙◌, ap, subst, arith, All, IsBitSet, IsTrue}
use Rattle.std.specs.Prelude.{ℤ, pos, ◌+ℤ◌, replicate}
use Rattle.std.specs.List.{Contains}
use Rattle.std.proofs.lemmas.List.Elements.{All-contains, All-from_recursion}
use Rattle.std.proofs.lemmas.Option.{same_Some}
use Rattle.irt_base.specs.Cycle.{wire_time}
use Rattle.irt_base.specs.declared.blocks.Bundle.{Bundle}
use Rattle.irt_base.specs.declared.blocks.Entry.{Entry}
use Rattle.irt_base.specs.declared.plants.Demand.{Demand}
use Rattle.irt_base.specs.declared.plants.Plant.{Plant}
use Rattle.plan_rules.specs.Arrival.{Arrival, IsArrival}
use Rattle.plan_rules.specs.Network.{EntriesAreDemanded, IsSentAt}
use Rattle.plan_rules.specs.Once.{StartsOnce}
use Rattle.plan_rules.specs.Places.{IsAccepted}
use Rattle.plan_rules.specs.Plan.{setup_of}
use Rattle.plan_rules.specs.Tree.{demand_of, Consumes}
use Rattle.plan_rules.specs.Way.{entry_at, Leaves}
use Rattle.plan_rules.specs.World.{WorldRow, IsInStep, is_in_step}
use Rattle.irt_switch.specs.declared.action.Action.{Action}
use Rattle.irt_switch.specs.declared.action.Action.TheVariants.{Forward, Dropped}
use Rattle.irt_switch.specs.Arrive.{Reception, action_of}
use Rattle.irt_switch.specs.Played.{IsToldOf, IsPlayed, GoesItsWay, TakesBridge}
use Rattle.cycle_rows.specs.declared.rows.JournalRow.TheVariants.{Occupy, Deliver, Missed}
use Rattle.cycle_events.specs.declared.events.Event.{Event}
use Rattle.cycle_events.specs.declared.events.What.TheVariants.{Start, Arrive}
use Rattle.cycle_events.specs.Events.{Play, arrival_of, Happens, HappensAs, is_bit, ports_in, event, start_after, starts_at, delivered, occupied, causes, causes_as, rows_of, rows_as}
use Rattle.cycle_events.specs.Run.{play_of, CausesHappen}
use Rattle.cycle_rows.proofs.Lists.{Contains-here, Contains-later}
use Rattle.cycle_events.proofs.Lists.{map_has}
use Rattle.cycle_events.proofs.Tests.{step_passed, bit_passed, bit_true, ports_leave}
use Rattle.switch_events.specs.Answered.{starts_of, true_of, brought_about, written_by, Tells, IsAnswer}
use Rattle.switch_events.proofs.Lengths.{demanded_length}

-- ---- a world with this row at this cycle

pub replicated : {A : Type 0} (x : A) (k : ℕ) → slice_get (replicate (suc k) x) k ≡ Some x
replicated x zero = refl
replicated x (suc k) = replicated x k

-- ---- lists by their members

pub filter_same : {A : Type 0} (p q : A → Bool) (xs : List A) → ((x : A) → Contains xs x → p x ≡ q x) → filter p xs ≡ filter q xs
filter_same p q [] same = refl
filter_same p q (x ∷ xs) same =
    let here = same x (Contains-here x xs) in
    let more = filter_same p q xs (λ y is. same y (Contains-later x xs y is)) in
    λ i. cond (here i) (x ∷ more i) (more i)

pub map_same : {A B : Type 0} (f g : A → B) (xs : List A) → ((x : A) → Contains xs x → f x ≡ g x) → map f xs ≡ map g xs
map_same f g [] same = refl
map_same f g (x ∷ xs) same =
    let here = same x (Contains-here x xs) in
    let more = map_same f g xs (λ y is. same y (Contains-later x xs y is)) in
    λ i. here i ∷ more i

from_one : All (λ n. 1 ≤ n) (1 ∷ 2 ∷ 3 ∷ 4 ∷ 5 ∷ 6 ∷ 7 ∷ [])
from_one = All-from_recursion (λ n. 1 ≤ n) (1 ∷ 2 ∷ 3 ∷ 4 ∷ 5 ∷ 6 ∷ 7 ∷ []) (omega arith, (omega arith, (omega arith, (omega arith, (omega arith, (omega arith, (omega arith, tt)))))))

-- two tests that mean the same
same_test : {P Q : Type 0} (a b : Bool) → (a ≡ true → P) → (P → Q) → (Q → b ≡ true) → (b ≡ true → Q) → (Q → P) → (P → a ≡ true) → a ≡ b
same_test true b to there back from again come = sym (back (there (to refl)))
same_test false true to there back from again come = come (again (from refl))
same_test false false to there back from again come = refl

same_ports : (ports : ℕ) (e : Entry) → ((port : ℕ) → IsBitSet ports port ↔ Leaves e port) → ports_in ports ≡ ports_in e.tx
same_ports ports e leaves =
    filter_same (is_bit ports) (is_bit e.tx) (1 ∷ 2 ∷ 3 ∷ 4 ∷ 5 ∷ 6 ∷ 7 ∷ []) (λ port among.
    same_test {P = IsBitSet ports port} {Q = Leaves e port} (is_bit ports port) (is_bit e.tx port) (bit_passed ports port) (leaves port).0 (λ l. bit_true e.tx port l.bit)
    (λ h. record { from_one = All-contains (λ n. 1 ≤ n) (1 ∷ 2 ∷ 3 ∷ 4 ∷ 5 ∷ 6 ∷ 7 ∷ []) port from_one among; bit = bit_passed e.tx port h })
    (leaves port).1 (bit_true ports port))

module _ (plant : Plant) (bundles : List Bundle) (accepted : IsAccepted plant bundles) (row : WorldRow) (k : ℕ)
    (entries : EntriesAreDemanded (setup_of plant bundles)) (starts : StartsOnce (setup_of plant bundles) row k)
    (causes_hold : CausesHappen (play_of plant bundles row k)) where
  abbrev play : Play
  play = play_of plant bundles row k

  -- ---- the answer of a device in step

  -- where a frame leaves, the answer's time is that of the start which the arrival causes
  same_time : (h : Event) (from : Entry) → IsArrival (setup_of plant bundles) row from (arrival_of play h) → is_in_step play.setup.plant play.row h.device.0 ≡ true → (at : ℤ) (ports : ℕ) (here : Bool) →
      (g : GoesItsWay (setup_of plant bundles) row (arrival_of play h) at ports here) → (port : ℕ) → Contains (ports_in g.e.tx) port →
      true_of play h.device.0 at ≡ start_after play h.device.0 h.frame.0 g.e h.at
  same_time h from is step at ports here g port among =
      let leaves = ports_leave g.e port among in
      let sent = g.sent port leaves in
      let arrive : Event = event h.at h.device.0 h.port.0 h.frame.0 Arrive in
      let then = start_after play h.device.0 h.frame.0 g.e h.at in
      let caused : Contains (causes play arrive) (event then h.device.0 port h.frame.0 Start) =
      start_among (is_in_step play.setup.plant play.row h.device.0) (entry_at (setup_of plant bundles) h.device.0 h.frame.0) step g.stands in
      let also : IsSentAt (setup_of plant bundles) row k h.device.0 port h.frame.0 then =
      All-contains (Happens play) (causes play arrive) (event then h.device.0 port h.frame.0 Start) (causes_hold arrive (from, is)) caused in
      let one = starts h.device.0 h.frame.0 sent.live in
      one.only (true_of play h.device.0 at) sent.starts ∙ sym (one.only then also.starts)
    where
      start_among : (b : Bool) (o : Option Entry) → b ≡ true → o ≡ Some g.e →
          Contains (cond b (starts_at play h.device.0 h.frame.0 h.at o) []) (event (start_after play h.device.0 h.frame.0 g.e h.at) h.device.0 port h.frame.0 Start)
      start_among b o p q = rw (p, q) (map_has (λ n. event (start_after play h.device.0 h.frame.0 g.e h.at) h.device.0 n h.frame.0 Start) (ports_in g.e.tx) port among)

  forward_causes : (h : Event) (from : Entry) → IsArrival (setup_of plant bundles) row from (arrival_of play h) → is_in_step play.setup.plant play.row h.device.0 ≡ true → (at : ℤ) (ports : ℕ) (here : Bool) →
      (g : GoesItsWay (setup_of plant bundles) row (arrival_of play h) at ports here) →
      starts_of (true_of play h.device.0 at) h.device.0 h.frame.0 ports ≡ causes_as play h Arrive
  forward_causes h from is step at ports here g =
      ap (map (λ port. event (true_of play h.device.0 at) h.device.0 port h.frame.0 Start)) (same_ports ports g.e g.leaves)
      ∙ map_same (λ port. event (true_of play h.device.0 at) h.device.0 port h.frame.0 Start)
      (λ port. event (start_after play h.device.0 h.frame.0 g.e h.at) h.device.0 port h.frame.0 Start) (ports_in g.e.tx)
      (λ port among. ap (λ t. event t h.device.0 port h.frame.0 Start) (same_time h from is step at ports here g port among))
      ∙ sym (caused (is_in_step play.setup.plant play.row h.device.0) (entry_at (setup_of plant bundles) h.device.0 h.frame.0) step g.stands)
    where
      caused : (b : Bool) (o : Option Entry) → b ≡ true → o ≡ Some g.e →
          cond b (starts_at play h.device.0 h.frame.0 h.at o) [] ≡ map (λ port. event (start_after play h.device.0 h.frame.0 g.e h.at) h.device.0 port h.frame.0 Start) (ports_in g.e.tx)
      caused b o p q = rw (p, q) refl

  forward_rows : (h : Event) (demand : Demand) → demand_of plant h.frame.0 ≡ Some demand → is_in_step play.setup.plant play.row h.device.0 ≡ true → (at : ℤ) (ports : ℕ) (here : Bool) →
      (g : GoesItsWay (setup_of plant bundles) row (arrival_of play h) at ports here) →
      written_by play h demand.length (Forward at ports here) ≡ rows_as play h Arrive
  forward_rows h demand demanded step at ports here g =
      let known = entries h.device.0 h.frame.0 g.e g.stands in
      let same : known.demand ≡ g.demand = same_Some known.demand g.demand (sym known.demanded ∙ g.demanded) in
      let keeps : here ≡ is_bit g.e.tx 0 =
      same_test {P = IsTrue here} {Q = IsBitSet g.e.tx 0} here (is_bit g.e.tx 0) (λ h. h) (λ t. known.kept.1 (subst (λ d. Consumes d h.device.0) (sym same) (g.kept.0 t)))
      (bit_true g.e.tx 0) (bit_passed g.e.tx 0) (λ b. g.kept.1 (subst (λ d. Consumes d h.device.0) same (known.kept.0 b))) (λ t. t) in
      let length : demand.length ≡ g.e.data_length = sym (demanded_length plant bundles accepted h.device.0 h.frame.0 demand g.e demanded g.stands) in
      (λ i. cond (keeps i) (Deliver k h.device h.frame (h.at +ℤ pos (wire_time (length i))) ∷ []) [])
      ∙ sym (given (is_in_step play.setup.plant play.row h.device.0) (entry_at (setup_of plant bundles) h.device.0 h.frame.0) step g.stands)
    where
      given : (b : Bool) (o : Option Entry) → b ≡ true → o ≡ Some g.e →
          cond b (delivered play h o) (Missed k h.device h.frame ∷ []) ≡ cond (is_bit g.e.tx 0) (Deliver k h.device h.frame (h.at +ℤ pos (wire_time g.e.data_length)) ∷ []) []
      given b o p q = rw (p, q) refl

  played : (h : Event) (from : Entry) (demand : Demand) → IsArrival (setup_of plant bundles) row from (arrival_of play h) → demand_of plant h.frame.0 ≡ Some demand →
      is_in_step play.setup.plant play.row h.device.0 ≡ true → (action : Action) → IsPlayed (setup_of plant bundles) row (arrival_of play h) action →
      (brought_about play h action ≡ causes_as play h Arrive) × (written_by play h demand.length action ≡ rows_as play h Arrive)
  played h from demand is demanded step (Dropped cause) never = absurd never
  played h from demand is demanded step (Forward at ports here) g = (forward_causes h from is step at ports here g, forward_rows h demand demanded step at ports here g)

  -- ---- the answer of any device

  told_of : (h : Event) (from : Entry) → IsArrival (setup_of plant bundles) row from (arrival_of play h) → (r : Reception) → Tells play h r →
      IsToldOf plant row from (arrival_of play h) r
  told_of h from is r told = record {
    fields = told.fields;
    told = told.read;
    frame = told.frame;
    count = told.count ∙ sym (demanded_length plant bundles accepted is.sender h.frame.0 told.demand from told.demanded is.stands);
    port = told.port;
    local = told.time;
  }

  module _ (switched : (from : Entry) (a : Arrival) → a.cycle ≡ k → IsArrival (setup_of plant bundles) row from a → IsInStep plant row a.device →
      (bundle : Bundle) (r : Reception) (bridge : ℕ) → slice_get bundles a.device ≡ Some bundle → IsToldOf plant row from a r → TakesBridge (setup_of plant bundles) row a bridge →
      IsPlayed (setup_of plant bundles) row a (action_of bundle a.cycle true r bridge)) where
    answered : (h : Event) (from : Entry) → IsArrival (setup_of plant bundles) row from (arrival_of play h) → (bundle : Bundle) → slice_get bundles h.device.0 ≡ Some bundle →
        (r : Reception) → (told : Tells play h r) → (bridge : ℕ) → TakesBridge (setup_of plant bundles) row (arrival_of play h) bridge → (b : Bool) → is_in_step play.setup.plant play.row h.device.0 ≡ b →
        (brought_about play h (action_of bundle k b r bridge) ≡ causes_as play h Arrive) × (written_by play h told.demand.length (action_of bundle k b r bridge) ≡ rows_as play h Arrive)
    answered h from is bundle held r told bridge takes true step =
        played h from told.demand is told.demanded step (action_of bundle k true r bridge)
        (switched from (arrival_of play h) refl is (step_passed play h.device.0 step) bundle r bridge held (told_of h from is r told) takes)
    answered h from is bundle held r told bridge takes false off = (sym (nothing_caused (is_in_step play.setup.plant play.row h.device.0) off), sym (missed (is_in_step play.setup.plant play.row h.device.0) off))
      where
        nothing_caused : (b : Bool) → b ≡ false → cond b (starts_at play h.device.0 h.frame.0 h.at (entry_at (setup_of plant bundles) h.device.0 h.frame.0)) [] ≡ []
        nothing_caused b p = rw p refl

        missed : (b : Bool) → b ≡ false → cond b (delivered play h (entry_at (setup_of plant bundles) h.device.0 h.frame.0)) (Missed k h.device h.frame ∷ []) ≡ (Missed k h.device h.frame ∷ [])
        missed b p = rw p refl

    happens_as : (h : Event) → h.what ≡ Arrive → Happens play h → HappensAs play h Arrive
    happens_as h what is = subst (HappensAs play h) what is

    pub answer : (h : Event) → h.what ≡ Arrive → Happens play h → (bundle : Bundle) → slice_get bundles h.device.0 ≡ Some bundle → (r : Reception) → (told : Tells play h r) →
        (bridge : ℕ) → TakesBridge (setup_of plant bundles) row (arrival_of play h) bridge →
        IsAnswer play h told.demand.length (action_of bundle k (is_in_step play.setup.plant play.row h.device.0) r bridge)
    answer h what is bundle held r told bridge takes =
        let (from, arrives) = happens_as h what is in
        let both = answered h from arrives bundle held r told bridge takes (is_in_step play.setup.plant play.row h.device.0) refl in
        record { causes = both.0 ∙ sym (ap (causes_as play h) what); rows = both.1 ∙ sym (ap (rows_as play h) what) }

  -- ---- starts

  pub start_rows : (h : Event) (demand : Demand) → h.what ≡ Start → Happens play h → demand_of plant h.frame.0 ≡ Some demand →
      rows_of play h ≡ Occupy k h.device h.port h.frame h.at (h.at +ℤ pos (wire_time demand.length)) ∷ []
  start_rows h demand what is demanded =
      let sent : HappensAs play h Start = subst (HappensAs play h) what is in
      let length : sent.entry.data_length ≡ demand.length = demanded_length plant bundles accepted h.device.0 h.frame.0 demand sent.entry demanded sent.stands in
      ap (rows_as play h) what ∙ given (entry_at (setup_of plant bundles) h.device.0 h.frame.0) sent.entry sent.stands
      ∙ ap (λ n. Occupy k h.device h.port h.frame h.at (h.at +ℤ pos (wire_time n)) ∷ []) length
    where
      given : (o : Option Entry) (e : Entry) → o ≡ Some e → occupied play h o ≡ (Occupy k h.device h.port h.frame h.at (h.at +ℤ pos (wire_time e.data_length)) ∷ [])
      given o e q = rw q refl
