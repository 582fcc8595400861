-- What a consumer took in a cycle is what had to reach its device, with the words that were loaded.
use Rattle.std.proofs.Common.{◌≡◌, ℕ, ◌==◌, Bool, List, [], ◌∷◌, filter, slice_get, Option, Some, None, IsSome, refl, sym, ◌∙◌, ap, subst, arith}
use Rattle.std.specs.Prelude.{option_map}
use Rattle.std.specs.List.{Contains, last_or, position_or_len}
use Rattle.std.proofs.lemmas.Bool.{eq-eqb, eqb-true}
use Rattle.std.proofs.lemmas.Option.{same_Some}
use Rattle.cycle_frames.specs.Came.{HaveCome}
use Rattle.cycle_frames.specs.declared.came.Came.{Came}
use Rattle.irt_base.specs.Cycle.{IsDue}
use Rattle.irt_base.specs.Words.{words_of}
use Rattle.irt_base.specs.declared.blocks.Bundle.{Bundle}
use Rattle.irt_base.specs.declared.blocks.Entry.{Entry}
use Rattle.irt_base.specs.declared.plants.Demand.{Demand}
use Rattle.irt_base.specs.declared.plants.Plant.{Plant}
use Rattle.irt_switch.proofs.Members.{here, later, in_filter, from_filter, from_map}
use Rattle.iso_rules.specs.Image.{loaded_words}
use Rattle.iso_rules.specs.Station.{entries_at, consumed_of}
use Rattle.iso_rules.proofs.Serving.{consumed_entry}
use Rattle.iso_station.specs.Consumer.{ConsumerState, IsTakenFrame}
use Rattle.iso_station.specs.Cycles.{came_by}
use Rattle.iso_station.specs.Held.{Held}
use Rattle.iso_station.specs.Mark.{counter_of, IsGood}
use Rattle.iso_station.specs.declared.mark.TheConstants.{DATA_STATUS}
use Rattle.iso_station.proofs.TakingLemmas.{same_fields}
use Rattle.plan_rules.specs.Once.{HasToReach, IsDueFrame}
use Rattle.plan_rules.specs.Places.{IsAccepted}
use Rattle.plan_rules.specs.Plan.{IsPlan, setup_of}
use Rattle.plan_rules.specs.Way.{Setup}
use Rattle.plan_rules.specs.World.{WorldRow}
use Rattle.rtc3_frame.specs.Frame.{Fields, fields_at}
use Rattle.plant_stations.specs.Loaded.{AreLoaded}
use Rattle.plant_stations.specs.Stations.{HasArrived}
use Rattle.plant_stations.specs.Taken.{CameAs, TakesFrames}
use Rattle.plant_stations.specs.Whole.{IsConsumerOf}
use Rattle.plant_stations.proofs.Loading.{entries_here, factor_is, at_demand, asked_frame, as_demanded}
use Rattle.plant_stations.proofs.Reading.{HasRead, read_again, asked_by}

-- ---- the last of a list

pub last_of : {A : Type 0} (o : Option A) (xs : List A) (y : A) → Contains xs y → (x : A) × (last_or o xs ≡ Some x) × Contains xs x
last_of o [] y (n, within, is) = absurd (omega arith)
last_of o (x ∷ []) y is = (x, refl, here x [])
last_of o (x ∷ z ∷ zs) y is =
    let (w, at, has) = last_of (Some x) (z ∷ zs) z (here z zs) in (w, at, later x (z ∷ zs) w has)

pub last_is_of : {A : Type 0} (xs : List A) (x : A) → last_or None xs ≡ Some x → Contains xs x
last_is_of [] x is = absurd (cc)
last_is_of (y ∷ ys) x is =
    let (w, at, has) = last_of None (y ∷ ys) y (here y ys) in subst (Contains (y ∷ ys)) (same_Some w x (sym at ∙ is)) has

of_mapped : {A B : Type 0} (f : A → B) (o : Option A) → IsSome (option_map f o) → (x : A) × (o ≡ Some x)
of_mapped f None some = absurd (cc)
of_mapped f (Some x) some = (x, refl)

-- the status with which a provider sends
good_status : IsGood DATA_STATUS
good_status = (λ none. omega (arith, none), λ none. omega (arith, none))

module _ (plant : Plant) (bundles : List Bundle) (plan : IsPlan plant bundles) (accepted : IsAccepted plant bundles) (world : List WorldRow)
    (taken : ℕ → ℕ → List ℕ) (k : ℕ) (frames : List (List ℕ)) (came : List Came) (loaded : AreLoaded (setup_of plant bundles) taken k frames)
    (have : HaveCome (setup_of plant bundles) world k came) (device : ℕ) where
  abbrev setup : Setup
  setup = setup_of plant bundles

  -- what a frame that came says
  record IsTrue (f : Fields) : Type 0 where
    reach : HasToReach setup world k device f.frame
    words : words_of f.csdu ≡ loaded_words setup taken k f.frame

  due_demand : (number : ℕ) (d : Demand) → slice_get plant.demands number ≡ Some d → HasToReach setup world k device d.frame.0 → IsDueFrame setup k d.frame.0 d
  due_demand number d at reach =
      subst (IsDueFrame setup k d.frame.0) (asked_by plant bundles plan accepted number d at reach.demand reach.due.demanded) reach.due

  came_true : (f : Fields) → CameAs device frames came f → IsTrue f
  came_true f by =
      let (d, at) = have.demanded by.c by.stands in
      let reach : HasToReach setup world k device d.frame.0 =
      subst (λ n. HasToReach setup world k n d.frame.0) by.here ((have.each by.c d at).0 by.stands) in
      let read = read_again plant bundles plan accepted taken k by.c.demand d (slice_get frames by.c.demand) at
      (loaded by.c.demand d at (due_demand by.c.demand d at reach)) in
      let bytes : read.bytes ≡ by.bytes = same_Some read.bytes by.bytes (sym read.stands ∙ by.at) in
      let one : read.f ≡ f = same_fields (fields_at by.bytes) read.f f (ap fields_at (sym bytes) ∙ read.told) by.told in
      let frame : f.frame ≡ d.frame.0 = ap (λ (g : Fields). g.frame) (sym one) ∙ read.named in
      record {
        reach = subst (HasToReach setup world k device) (sym frame) reach;
        words = ap (λ (g : Fields). words_of g.csdu) (sym one) ∙ read.words ∙ ap (loaded_words setup taken k) (sym frame);
      }

  module _ (bundle : Bundle) (held : slice_get bundles device ≡ Some bundle) (old new : ConsumerState) (own : IsConsumerOf bundle old)
      (now : old.cycle ≡ k) (takes : TakesFrames device frames came old new) where
    abbrev of_entry : Entry → Fields → Bool
    of_entry e f = e.frame.0 == f.frame

    last_true : (e : Entry) (f : Fields) → last_or None (filter (of_entry e) takes.fields) ≡ Some f → IsTrue f × (e.frame.0 ≡ f.frame)
    last_true e f is =
        let (has, passes) = from_filter (of_entry e) takes.fields f (last_is_of (filter (of_entry e) takes.fields) f is) in
        (came_true f (takes.each f has), eqb-true e.frame.0 f.frame passes)

    -- The consumer takes the frame of an entry that has to reach its device.
    is_taken : (e : Entry) → Contains (consumed_of bundle.frames.entries) e → (reach : HasToReach setup world k device e.frame.0) → (number : ℕ) →
        slice_get plant.demands number ≡ Some reach.demand → reach.demand.frame.0 ≡ e.frame.0 → (frame : Option (List ℕ)) →
        (read : HasRead setup taken k reach.demand frame) → IsTakenFrame old read.bytes
    is_taken e has reach number at named frame read =
        let among : Contains (consumed_of (entries_at setup device)) e =
        subst (λ (es : List Entry). Contains (consumed_of es) e) (sym (entries_here plant bundles device bundle held)) has in
        let (kept, in_old, is) = from_map (λ (h : Held). h.entry) old.frames e (subst (λ (es : List Entry). Contains es e) (sym own.entries) has) in
        let alike = as_demanded plant bundles plan accepted device e.frame.0 reach.demand reach.due.own e reach.due.demanded reach.due.stands
        (consumed_entry plant bundles plan device e among) in
        let due : IsDue old.cycle e.ratio e.phase =
        subst (λ n. IsDue n e.ratio e.phase) (sym now)
        (subst (λ n. IsDue k e.ratio n) (sym alike.phase) (subst (λ n. IsDue k n reach.due.own.phase) (sym alike.ratio) reach.due.due)) in
        record {
          f = read.f;
          told = read.told;
          wanted = record {
            held = kept;
            stands = in_old;
            frame = ap (λ (x : Entry). x.frame.0) (sym is) ∙ sym named ∙ sym read.named;
            count = ap (λ (x : Entry). x.data_length) (sym is) ∙ alike.length ∙ sym read.count;
            due = subst (λ (x : Entry). IsDue old.cycle x.ratio x.phase) is due;
          };
          counter =
              read.counter ∙ ap (λ n. counter_of n k) (sym (own.factor ∙ factor_is plant bundles plan accepted device bundle held))
              ∙ ap (counter_of old.factor) (sym now);
          good = subst IsGood (sym read.good) good_status;
        }

    -- The words are those of any frame of the entry's that was taken.
    came_so : (e : Entry) (f : Fields) → Contains takes.fields f → e.frame.0 ≡ f.frame → came_by e takes.fields ≡ Some (loaded_words setup taken k e.frame.0)
    came_so e f has same =
        let own = in_filter (of_entry e) takes.fields f has (eq-eqb e.frame.0 f.frame same) in
        let (last, is, among) = last_of None (filter (of_entry e) takes.fields) f own in last_words e last is (last_true e last is)
      where
        last_words : (x : Entry) (g : Fields) → last_or None (filter (of_entry x) takes.fields) ≡ Some g → IsTrue g × (x.frame.0 ≡ g.frame) →
            came_by x takes.fields ≡ Some (loaded_words setup taken k x.frame.0)
        last_words x g is (so, named) =
            ap (option_map (λ (y : Fields). words_of y.csdu)) is ∙ ap Some (so.words ∙ ap (loaded_words setup taken k) (sym named))

    -- By the number of its demand, the frame of an entry that has to reach the device came, and was taken.
    comes_at : (e : Entry) → Contains (consumed_of bundle.frames.entries) e → (reach : HasToReach setup world k device e.frame.0) → (number : ℕ) →
        slice_get plant.demands number ≡ Some reach.demand → reach.demand.frame.0 ≡ e.frame.0 → HasToReach setup world k device reach.demand.frame.0 →
        HasRead setup taken k reach.demand (slice_get frames number) → came_by e takes.fields ≡ Some (loaded_words setup taken k e.frame.0)
    comes_at e has reach number at named to_d read =
        let one : Came = record { device = record { 0 = device }; demand = number } in
        let stands : Contains came one = (have.each one reach.demand at).1 to_d in
        let by : CameAs device frames came read.f =
        record { c = one; bytes = read.bytes; stands = stands; here = refl; at = read.stands; told = read.told } in
        came_so e read.f (takes.all read.f by (is_taken e has reach number at named (slice_get frames number) read)) (sym named ∙ sym read.named)

    each_comes : (e : Entry) → Contains (consumed_of bundle.frames.entries) e → HasToReach setup world k device e.frame.0 →
        came_by e takes.fields ≡ Some (loaded_words setup taken k e.frame.0)
    each_comes e has reach =
        let number = position_or_len (λ (x : Demand). x.frame.0 == e.frame.0) plant.demands in
        let at = at_demand plant bundles plan accepted e.frame.0 number reach.demand reach.due.demanded refl in
        let named = asked_frame plant bundles plan accepted e.frame.0 reach.demand reach.due.demanded in
        let to_d : HasToReach setup world k device reach.demand.frame.0 = subst (HasToReach setup world k device) (sym named) reach in
        comes_at e has reach number at named to_d
        (read_again plant bundles plan accepted taken k number reach.demand (slice_get frames number) at
        (loaded number reach.demand at (due_demand number reach.demand at to_d)))

    only_those : (e : Entry) → IsSome (came_by e takes.fields) → HasToReach setup world k device e.frame.0
    only_those e some =
        let (last, is) = of_mapped (λ (f : Fields). words_of f.csdu) (last_or None (filter (of_entry e) takes.fields)) some in
        let (true_one, same) = last_true e last is in
        subst (HasToReach setup world k device) (sym same) true_one.reach

    pub has_arrived : (e : Entry) → Contains (consumed_of bundle.frames.entries) e → HasArrived setup world taken device k takes.fields e
    has_arrived e has = record { each = each_comes e has; only = only_those e }
