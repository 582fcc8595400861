-- Rule V2 at a device and frame, by the entry that stands there and by the ways that are found.
use Rattle.std.proofs.Common.{◌≡◌, ◌<◌, ◌≤◌, ◌==◌, ◌⊎◌, ℕ, Bool, false, inl, inr, Option, Some, None, length, IsTrue, refl, sym, ◌∙◌, ap, subst, arith}
use Rattle.std.proofs.lemmas.Bool.{eqb-true, false≢true}
use Rattle.std.proofs.lemmas.List.Elements.{All-from_recursion}
use Rattle.std.proofs.lemmas.Option.{same_Some, slice_get_within, get_or_from_slice_get}
use Rattle.std.specs.Option.{is_some}
use Rattle.irt_base.specs.declared.blocks.Entry.{Entry}
use Rattle.irt_base.specs.declared.plants.Demand.{Demand}
use Rattle.irt_base.specs.declared.plants.Plant.{Plant}
use Rattle.plant_rules.specs.Meets.{MeetsRules, IsDemand, IsConsumer}
use Rattle.plan_rules.specs.Way.{Setup, entry_at, IsParent}
use Rattle.plan_rules.specs.Tree.{demand_of, Consumes, IsReached, here, through, IsReceiver, IsTreeEntry, IsInTree}
use Rattle.plan_rules.specs.declared.way.Way.{Way}
use Rattle.irt_window.specs.Marks.{way_in, AreMarks, AreStuck}
use Rattle.irt_window.specs.Plans.{IsNet, setup_in, Stands}
use Rattle.irt_window.specs.Rules.{HasTree, IsPlaced}
use Rattle.irt_window.specs.declared.marks.Marks.{Marks}
use Rattle.irt_window.specs.declared.net.Net.{Net}
use Rattle.irt_window.proofs.Finding.{find_place}
use Rattle.irt_window.proofs.NewWays.{valid_entry}
use Rattle.irt_window.proofs.Places.{stands_at, at_placed}

-- the demand of a frame has that frame, and is valid
pub demand_frame : (plant : Plant) (frame : ℕ) (demand : Demand) → demand_of plant frame ≡ Some demand → demand.frame.0 ≡ frame
demand_frame plant frame demand asked =
    let (n, at, is) = find_place (λ (d : Demand). d.frame.0 == frame) plant.demands demand asked in eqb-true _ _ is

pub valid_demand : (plant : Plant) (frame : ℕ) (demand : Demand) → MeetsRules plant → demand_of plant frame ≡ Some demand → IsDemand plant demand
valid_demand plant frame demand rules asked =
    let (n, at, is) = find_place (λ (d : Demand). d.frame.0 == frame) plant.demands demand asked in
    subst (IsDemand plant) (get_or_from_slice_get plant.demands n demand demand at)
    (All-from_recursion (IsDemand plant) plant.demands rules.demands n demand (slice_get_within plant.demands n demand at))

-- at the end an entry that parents lead from to the provider has a way
pub reached_marked : (net : Net) (marks : Marks) (demand : Demand) (frame : ℕ) → IsNet net → AreStuck net marks
    → demand_of net.plant.now frame ≡ Some demand → (device : ℕ) → IsReached (setup_in net) demand.provider.0 frame device
    → (n : ℕ) (e : Entry) → Stands net.bundles.now device n e → e.frame.0 ≡ frame → way_in marks.rows.items device n ≡ None → ⊥
reached_marked net marks demand frame is stuck asked _ here n e s named none =
    (stuck demand.provider.0 n e s none).other demand
    (subst (λ (f : ℕ). demand_of net.plant.now f ≡ Some demand) (sym named) asked) refl
reached_marked net marks demand frame is stuck asked _ (through device f parent port stands comes up) n e s named none =
    let same : f ≡ e =
    same_Some f e (sym stands ∙ ap (λ (x : ℕ). entry_at (setup_in net) device x) (sym named) ∙ stands_at net.plant.now net.bundles.now device n e is.plan s) in
    let (from, at, leaves) = comes.sent in
    let placed = at_placed net.plant.now net.bundles.now parent frame from at in
    let comes_here : IsParent (setup_in net) e.frame.0 device e parent port =
    subst (λ (x : ℕ). IsParent (setup_in net) x device e parent port) (sym named)
    (subst (λ (x : Entry). IsParent (setup_in net) frame device x parent port) same comes) in
    reached_marked net marks demand frame is stuck asked parent up placed.n from placed.stands placed.named
    ((stuck device n e s none).behind demand (subst (λ (x : ℕ). demand_of net.plant.now x ≡ Some demand) (sym named) asked) parent port placed.n from
    comes_here placed.stands (placed.named ∙ sym named))

pub reached_test : (net : Net) (marks : Marks) (demand : Demand) (device n : ℕ) (e : Entry) (way : Option Way) (yes : Bool) → IsNet net → AreMarks net marks
    → AreStuck net marks → Stands net.bundles.now device n e → demand_of net.plant.now e.frame.0 ≡ Some demand
    → way ≡ way_in marks.rows.items device n → yes ≡ is_some way
    → (IsTrue yes → IsReached (setup_in net) demand.provider.0 e.frame.0 device) × (IsReached (setup_in net) demand.provider.0 e.frame.0 device → IsTrue yes)
reached_test net marks demand device n e None answer is ms stuck s asked none test = (
  λ some. absurd (false≢true (sym test ∙ some)),
  λ reached. absurd (reached_marked net marks demand e.frame.0 is stuck asked device reached n e s refl (sym none)),
)
reached_test net marks demand device n e (Some way) answer is ms stuck s asked found test = (
  λ some.
      let m = ms.each device n e way s (sym found) in
      subst (λ (d : Demand). IsReached (setup_in net) d.provider.0 e.frame.0 device) (same_Some _ _ (sym m.asked ∙ asked)) m.reached,
  λ reached. test,
)

pub tree_from_parts : (setup : Setup) (demand : Demand) (device : ℕ) (e : Entry) → demand_of setup.plant e.frame.0 ≡ Some demand
    → IsPlaced setup demand device e → IsReached setup demand.provider.0 e.frame.0 device → IsTreeEntry setup demand device e
tree_from_parts setup demand device e asked p reached =
    let named : e.frame.0 ≡ demand.frame.0 = sym (demand_frame setup.plant e.frame.0 demand asked) in
    record {
      provided = p.own.provided;
      sent = λ port leaves. subst (λ (f : ℕ). IsReceiver setup f device port) named (p.linked.received port leaves);
      received = λ some.
          let (parent, port, comes) = p.linked.sent some in
          (parent, port, subst (λ (f : ℕ). IsParent setup f device e parent port) named comes);
      consumed = p.own.consumed;
      used = p.own.used;
      reached = subst (λ (f : ℕ). IsReached setup demand.provider.0 f device) named reached;
    }

pub parts_of_tree : (setup : Setup) (demand : Demand) (device : ℕ) (e : Entry) → demand_of setup.plant e.frame.0 ≡ Some demand
    → IsTreeEntry setup demand device e → IsPlaced setup demand device e × IsReached setup demand.provider.0 e.frame.0 device
parts_of_tree setup demand device e asked t =
    let named : demand.frame.0 ≡ e.frame.0 = demand_frame setup.plant e.frame.0 demand asked in (
      record {
        own = record { provided = t.provided; consumed = t.consumed; used = t.used };
        linked = record {
          received = λ port leaves. subst (λ (f : ℕ). IsReceiver setup f device port) named (t.sent port leaves);
          sent = λ some.
              let (parent, port, comes) = t.received some in
              (parent, port, subst (λ (f : ℕ). IsParent setup f device e parent port) named comes);
        };
      },
      subst (λ (f : ℕ). IsReached setup demand.provider.0 f device) named t.reached,
    )

-- the tests of an entry, where its demand is found
pub tree_test : (setup : Setup) (demand : Demand) (device : ℕ) (e : Entry) (reached : Bool) → demand_of setup.plant e.frame.0 ≡ Some demand
    → IsPlaced setup demand device e
    → (IsTrue reached → IsReached setup demand.provider.0 e.frame.0 device) × (IsReached setup demand.provider.0 e.frame.0 device → IsTrue reached)
    → (IsTrue reached → HasTree setup device e) × (HasTree setup device e → IsTrue reached)
tree_test setup demand device e reached asked placed test = (
  λ yes. (demand, asked, tree_from_parts setup demand device e asked placed (test.0 yes)),
  λ (found, asked_too, tree).
      let same : found ≡ demand = same_Some _ _ (sym asked_too ∙ asked) in
      test.1 (parts_of_tree setup demand device e asked (subst (λ (d : Demand). IsTreeEntry setup d device e) same tree)).1,
)

pub place_test : (setup : Setup) (demand : Demand) (device : ℕ) (e : Entry) (placed : Bool) → demand_of setup.plant e.frame.0 ≡ Some demand
    → (IsPlaced setup demand device e → IsTrue placed) → placed ≡ false
    → (IsTrue placed → HasTree setup device e) × (HasTree setup device e → IsTrue placed)
place_test setup demand device e placed asked test fails = (
  λ yes. absurd (false≢true (sym fails ∙ yes)),
  λ (found, asked_too, tree).
      let same : found ≡ demand = same_Some _ _ (sym asked_too ∙ asked) in
      test (parts_of_tree setup demand device e asked (subst (λ (d : Demand). IsTreeEntry setup d device e) same tree)).0,
)

pub in_tree_test : (setup : Setup) (device frame : ℕ) (e : Entry) (yes : Bool) → entry_at setup device frame ≡ Some e → e.frame.0 ≡ frame
    → (IsTrue yes → HasTree setup device e) × (HasTree setup device e → IsTrue yes)
    → (IsTrue yes → IsInTree setup device frame) × (IsInTree setup device frame → IsTrue yes)
in_tree_test setup device frame e answer at named test = (
  λ is.
      let (demand, asked, tree) = test.0 is in
      record {
        each = λ f f_at. (
          demand,
          subst (λ (x : ℕ). demand_of setup.plant x ≡ Some demand) named asked,
          subst (λ (x : Entry). IsTreeEntry setup demand device x) (same_Some e f (sym at ∙ f_at)) tree,
        );
        present = λ d d_asked part. rw at refl;
      },
  λ tree.
      let (demand, asked, entry) = tree.each e at in
      test.1 (demand, subst (λ (x : ℕ). demand_of setup.plant x ≡ Some demand) (sym named) asked, entry),
)

-- off the frames of a plan, and off its devices, nothing is asked
pub off_frames : (net : Net) (device frame : ℕ) → IsNet net → (frame < 256) ⊎ (1792 ≤ frame) → IsInTree (setup_in net) device frame
off_frames net device frame is off =
    record {
      each = λ e at.
          let placed = at_placed net.plant.now net.bundles.now device frame e at in
          let valid = (valid_entry net.bundles.now device placed.n e is.plan.blocks placed.stands).frame in
          absurd (elim off [ inl low ↦ omega (arith, valid, placed.named) | inr high ↦ omega (arith, valid, placed.named) ]);
      present = λ demand asked part.
          let valid = (valid_demand net.plant.now frame demand is.plan.rules asked).frame in
          let named = demand_frame net.plant.now frame demand asked in
          absurd (elim off [ inl low ↦ omega (arith, valid, named) | inr high ↦ omega (arith, valid, named) ]);
    }

consumer_device : (plant : Plant) (demand : Demand) (device : ℕ) → IsDemand plant demand → Consumes demand device → device < length plant.devices
consumer_device plant demand device valid (k, within, at) =
    let is : IsConsumer plant demand.provider (record { 0 = device }) =
    subst (IsConsumer plant demand.provider) at
    (All-from_recursion (IsConsumer plant demand.provider) demand.consumers valid.consumers k (record { 0 = device }) within) in
    is.device

pub off_devices : (net : Net) (device frame : ℕ) → IsNet net → length net.bundles.now ≤ device → IsInTree (setup_in net) device frame
off_devices net device frame is off =
    record {
      each = λ e at.
          let placed = at_placed net.plant.now net.bundles.now device frame e at in
          absurd (omega (arith, slice_get_within net.bundles.now device placed.stands.bundle placed.stands.held));
      present = λ demand asked part.
          let valid = valid_demand net.plant.now frame demand is.plan.rules asked in
          absurd (elim part [
            | inl own ↦ omega (arith, valid.provider, is.plan.count, own)
            | inr consumer ↦ omega (arith, consumer_device net.plant.now demand device valid consumer, is.plan.count)
          ]);
    }
