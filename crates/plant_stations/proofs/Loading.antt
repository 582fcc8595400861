-- What the senders of an accepted plan load.
use Rattle.std.proofs.Common.{◌≡◌, ◌≢◌, ◌↔◌, ℕ, zero, suc, ◌+◌, ◌==◌, ◌<◌, Bool, true, false, if◌then◌else◌, List, [], ◌∷◌, length, take, drop, map, get_or, slice_get, Option, Some, None, AllPairs, refl, sym, ◌∙◌, ap, subst, arith}
use Rattle.std.specs.Prelude.{option_map, unwrap_or}
use Rattle.std.specs.List.{AllZip, Contains, IsDistinct, AllByRecursion, position_or_len}
use Rattle.std.proofs.lemmas.Bool.{eq-eqb, eqb-true}
use Rattle.std.proofs.lemmas.List.Elements.{All-from_recursion}
use Rattle.std.proofs.lemmas.List.Folds.{find_at}
use Rattle.std.proofs.lemmas.Option.{same_Some, slice_get-map, slice_get_within, slice_get-get_or, get_or_from_slice_get}
use Rattle.irt_base.specs.Valid.{IsBundle}
use Rattle.irt_base.specs.declared.blocks.Bundle.{Bundle}
use Rattle.irt_base.specs.declared.blocks.Entry.{Entry}
use Rattle.irt_base.specs.declared.blocks.FrameBlock.{FrameBlock}
use Rattle.irt_base.specs.declared.plants.Demand.{Demand}
use Rattle.irt_base.specs.declared.plants.Plant.{Plant}
use Rattle.irt_switch.specs.Release.{is_provided}
use Rattle.irt_switch.proofs.Members.{found_in, from_filter, pairs_map}
use Rattle.iso_rules.specs.Station.{data_words, words_in, part_of, entries_at, provided_of}
use Rattle.iso_rules.proofs.Serving.{own_entry}
use Rattle.iso_station.specs.Kept.{IsWhole}
use Rattle.iso_station.specs.Provider.{HasPlace, IsProvided}
use Rattle.iso_station.proofs.InPlace.{whole_of_block}
use Rattle.plan_rules.specs.Frames.{IsAsDemanded}
use Rattle.plan_rules.specs.Headers.{IsHeader}
use Rattle.plan_rules.specs.Places.{IsAccepted, place_of}
use Rattle.plan_rules.specs.Plan.{IsPlan, setup_of}
use Rattle.plan_rules.specs.Tree.{demand_of}
use Rattle.plan_rules.specs.Way.{Setup, entry_at}
use Rattle.plant_rules.specs.Meets.{IsDemand}
use Rattle.plant_rules.specs.Words.{same_frame}
use Rattle.rtc3_frame.specs.declared.frame.TheConstants.{HEAD, TAIL}
use Rattle.plant_stations.specs.Loaded.{AreWords, HaveWidths, AreReady}
use Rattle.plant_stations.specs.Whole.{HaveRoom, place_in, sender_of, AreSenders}
use Rattle.plant_stations.specs.declared.sender.Sender.{Sender}
use Rattle.plant_stations.proofs.Lists.{member, some_at}

-- ---- words that are cut

words_front : (n : ℕ) (words : List ℕ) → AreWords words → AreWords (take n words)
words_front zero words are = tt
words_front (suc n) [] are = tt
words_front (suc n) (w ∷ ws) are = (are.0, words_front n ws are.1)

words_back : (n : ℕ) (words : List ℕ) → AreWords words → AreWords (drop n words)
words_back zero words are = are
words_back (suc n) [] are = tt
words_back (suc n) (w ∷ ws) are = words_back n ws are.1

pub words_part : (es : List Entry) (frame : ℕ) (words : List ℕ) → AreWords words → AreWords (part_of es frame words)
words_part [] frame words are = tt
words_part (e ∷ es) frame words are =
    by_test (e.frame.0 == frame) (words_part es frame (drop (data_words e) words) (words_back (data_words e) words are))
  where
    by_test : (b : Bool) → AreWords (part_of es frame (drop (data_words e) words)) →
        AreWords (if b then take (data_words e) words else part_of es frame (drop (data_words e) words))
    by_test true rest = words_front (data_words e) words are
    by_test false rest = rest

-- ---- demands by number

pub none_like : (d : Demand) (ds : List Demand) (n : ℕ) (x : Demand) → AllByRecursion (λ (y : Demand). same_frame d y ≡ false) ds →
    slice_get ds n ≡ Some x → d.frame.0 ≢ x.frame.0
none_like d [] n x apart is same = absurd (cc)
none_like d (y ∷ ds) zero x apart is same =
    let one : y ≡ x = same_Some y x is in
    let equal : true ≡ false = sym (eq-eqb d.frame.0 y.frame.0 (same ∙ ap (λ (z : Demand). z.frame.0) (sym one))) ∙ apart.0 in absurd (cc)
none_like d (y ∷ ds) (suc n) x apart is same = none_like d ds n x apart.1 is same

pub one_number : (ds : List Demand) (n m : ℕ) (x y : Demand) → IsDistinct same_frame ds → slice_get ds n ≡ Some x → slice_get ds m ≡ Some y →
    x.frame.0 ≡ y.frame.0 → n ≡ m
unfolding IsDistinct
one_number [] n m x y apart first second same = absurd (cc)
one_number (d ∷ ds) zero zero x y apart first second same = refl
one_number (d ∷ ds) zero (suc m) x y apart first second same =
    absurd (none_like d ds m y apart.0 second (ap (λ (z : Demand). z.frame.0) (same_Some d x first) ∙ same))
one_number (d ∷ ds) (suc n) zero x y apart first second same =
    absurd (none_like d ds n x apart.0 first (ap (λ (z : Demand). z.frame.0) (same_Some d y second) ∙ sym same))
one_number (d ∷ ds) (suc n) (suc m) x y apart first second same = ap suc (one_number ds n m x y apart.1 first second same)

pub zip_mapped : {A B : Type 0} (R : A → B → Type 0) (f : A → B) (xs : List A) → ((x : A) → Contains xs x → R x (f x)) → AllZip R xs (map f xs)
zip_mapped R f [] each = tt
zip_mapped R f (x ∷ xs) each = (each x (0, omega arith, refl), zip_mapped R f xs (λ y (n, within, is). each y (suc n, omega arith, is)))

option_of : {A B : Type 0} (f : A → B) (o : Option A) (y : B) → option_map f o ≡ Some y → (x : A) × (o ≡ Some x) × (y ≡ f x)
option_of f None y is = absurd (cc)
option_of f (Some x) y is = (x, refl, sym (same_Some (f x) y is))

-- ---- the plan

abbrev frames_in : Bundle → FrameBlock
frames_in b = b.frames

pub entries_here : (plant : Plant) (bundles : List Bundle) (device : ℕ) (b : Bundle) → slice_get bundles device ≡ Some b →
    entries_at (setup_of plant bundles) device ≡ b.frames.entries
entries_here plant bundles device b is =
    ap (λ (o : Option FrameBlock). unwrap_or (option_map (λ (f : FrameBlock). f.entries) o) [])
    (slice_get-map frames_in bundles device ∙ ap (option_map frames_in) is)

module _ (plant : Plant) (bundles : List Bundle) (plan : IsPlan plant bundles) (accepted : IsAccepted plant bundles) where
  abbrev setup : Setup
  setup = setup_of plant bundles

  pub demand_is : (number : ℕ) (d : Demand) → slice_get plant.demands number ≡ Some d → IsDemand plant d
  demand_is number d is =
      subst (IsDemand plant) (get_or_from_slice_get plant.demands number d d is)
      (All-from_recursion (IsDemand plant) plant.demands plan.rules.demands number d (slice_get_within plant.demands number d is))

  pub bundle_is : (device : ℕ) (b : Bundle) → slice_get bundles device ≡ Some b → IsBundle b
  bundle_is device b is =
      subst IsBundle (get_or_from_slice_get bundles device b b is) (plan.blocks device b (slice_get_within bundles device b is))

  pub factor_is : (device : ℕ) (b : Bundle) → slice_get bundles device ≡ Some b → b.sync.factor ≡ plant.factor
  factor_is device b is =
      let within = slice_get_within bundles device b is in
      let count = plan.count in
      let (first, there) = some_at bundles 0 (omega (arith, within)) in
      let (d, at) = some_at plant.devices device (omega (arith, within, count)) in
      let header : IsHeader plant d first b = accepted 1 (place_of device 0 0) d first b at there is in header.factor

  -- the demand at the place of a frame, and its length
  pub at_demand : (frame number : ℕ) (d : Demand) → demand_of plant frame ≡ Some d → number ≡ position_or_len (λ (x : Demand). x.frame.0 == frame) plant.demands →
      slice_get plant.demands number ≡ Some d
  at_demand frame number d asked at = ap (slice_get plant.demands) at ∙ sym (find_at (λ (x : Demand). x.frame.0 == frame) plant.demands) ∙ asked

  pub asked_frame : (frame : ℕ) (d : Demand) → demand_of plant frame ≡ Some d → d.frame.0 ≡ frame
  asked_frame frame d asked =
      let (among, passes) = found_in (λ (x : Demand). x.frame.0 == frame) plant.demands d (sym asked) in eqb-true d.frame.0 frame passes

  pub as_demanded : (device frame : ℕ) (d : Demand) (own e : Entry) → demand_of plant frame ≡ Some d → entry_at setup d.provider.0 frame ≡ Some own →
      entry_at setup device frame ≡ Some e → IsAsDemanded plant d own e
  as_demanded device frame d own e asked stands at = accepted 3 (place_of device 0 frame) d own e asked stands at

  -- What is known of an entry that a device provides.
  pub record IsServed (device : ℕ) (e : Entry) : Type 0 where
    pub d : Demand
    pub asked : demand_of plant e.frame.0 ≡ Some d
    pub stands : slice_get plant.demands (place_in plant.demands e) ≡ Some d
    pub frame : d.frame.0 ≡ e.frame.0
    pub provider : d.provider.0 ≡ device
    pub at : entry_at setup device e.frame.0 ≡ Some e
    pub count : e.data_length ≡ d.length

  abbrev pub ServesProvided : Type 0
  ServesProvided = (device frame : ℕ) → ((e : Entry) × Contains (provided_of (entries_at setup device)) e × (e.frame.0 ≡ frame)) ↔
      ((d : Demand) × (demand_of plant frame ≡ Some d) × (d.provider.0 ≡ device))

  module _ (serves : ServesProvided) where
    pub served : (device : ℕ) (e : Entry) → Contains (provided_of (entries_at setup device)) e → IsServed device e
    served device e has =
        let (d, asked, from) = (serves device e.frame.0).0 (e, has, refl) in
        let (among, passes) = from_filter is_provided (entries_at setup device) e has in
        let at = own_entry plant bundles plan device e among in
        record {
          d = d;
          asked = asked;
          stands = at_demand e.frame.0 (place_in plant.demands e) d asked refl;
          frame = asked_frame e.frame.0 d asked;
          provider = from;
          at = at;
          count = (as_demanded device e.frame.0 d e e asked (ap (λ n. entry_at setup n e.frame.0) from ∙ at) at).length;
        }

    module _ (senders : List Sender) (are : AreSenders plant bundles senders) where
      -- a sender by its device
      pub record IsSender (device : ℕ) (s : Sender) : Type 0 where
        pub bundle : Bundle
        pub held : slice_get bundles device ≡ Some bundle
        pub is : s ≡ sender_of plant bundle device
        pub entries : provided_of bundle.frames.entries ≡ provided_of (entries_at setup device)

      pub sender_is : (device : ℕ) (s : Sender) → slice_get senders device ≡ Some s → IsSender device s
      sender_is device s at =
          let within = slice_get_within senders device s at in
          let count = are.count in
          let (b, held) = some_at bundles device (omega (arith, within, count)) in
          record { bundle = b; held = held; is = are.each device b s held at; entries = ap provided_of (sym (entries_here plant bundles device b held)) }

      pub in_place : (device : ℕ) (s : Sender) (e : Entry) (place : ℕ) → slice_get senders device ≡ Some s → IsProvided s.provider s.places e place →
          Contains (provided_of (entries_at setup device)) e × (place ≡ place_in plant.demands e)
      in_place device s e place at by =
          let own = sender_is device s at in
          let es = provided_of own.bundle.frames.entries in
          let stands : slice_get es by.number ≡ Some e = ap (λ (x : Sender). slice_get x.provider.entries by.number) (sym own.is) ∙ by.stands in
          let there : slice_get (map (place_in plant.demands) es) by.number ≡ Some place = ap (λ (x : Sender). slice_get x.places by.number) (sym own.is) ∙ by.at in
          let one : place_in plant.demands e ≡ place =
          same_Some (place_in plant.demands e) place (ap (option_map (place_in plant.demands)) (sym stands) ∙ sym (slice_get-map (place_in plant.demands) es by.number) ∙ there) in
          (subst (λ (xs : List Entry). Contains xs e) own.entries (member es by.number e stands), sym one)

      module _ (frames : List (List ℕ)) (room : HaveRoom plant.demands frames) where
        has_place : (device : ℕ) (e : Entry) → Contains (provided_of (entries_at setup device)) e → HasPlace frames e (place_in plant.demands e)
        has_place device e has =
            let is = served device e has in
            let within = slice_get_within plant.demands (place_in plant.demands e) is.d is.stands in
            let count = room.count in
            let (bytes, there) = some_at frames (place_in plant.demands e) (omega (arith, within, count)) in
            record {
              bytes = bytes;
              stands = there;
              count = room.each (place_in plant.demands e) is.d bytes is.stands there ∙ ap (λ n. n + (HEAD + TAIL)) (sym is.count);
            }

        places_fit : (device : ℕ) (s : Sender) → slice_get senders device ≡ Some s → AllZip (HasPlace frames) s.provider.entries s.places
        places_fit device s at =
            let own = sender_is device s at in
            subst (λ (x : Sender). AllZip (HasPlace frames) x.provider.entries x.places) (sym own.is)
            (zip_mapped (HasPlace frames) (place_in plant.demands) (provided_of own.bundle.frames.entries)
            (λ e has. has_place device e (subst (λ (xs : List Entry). Contains xs e) own.entries has)))

        whole_sender : (device : ℕ) (s : Sender) → slice_get senders device ≡ Some s → IsWhole s.provider.entries
        whole_sender device s at =
            let own = sender_is device s at in
            subst (λ (x : Sender). IsWhole x.provider.entries) (sym own.is)
            (whole_of_block own.bundle.frames (bundle_is device own.bundle own.held).frames)

        places_apart : (device : ℕ) (s : Sender) → slice_get senders device ≡ Some s → AllPairs (λ (a b : ℕ). a ≢ b) s.places
        places_apart device s at =
            let own = sender_is device s at in
            let es = provided_of own.bundle.frames.entries in
            let up = (whole_of_block own.bundle.frames (bundle_is device own.bundle own.held).frames).order in
            let in_es : (i : ℕ) (x : Entry) → i < length es → Contains (provided_of (entries_at setup device)) (get_or es i x) =
            λ i x within. subst (λ (xs : List Entry). Contains xs (get_or es i x)) own.entries (member es i (get_or es i x) (here_is es i x within)) in
            subst (λ (x : Sender). AllPairs (λ (a b : ℕ). a ≢ b) x.places) (sym own.is)
            (pairs_map (place_in plant.demands) (λ (a b : ℕ). a ≢ b) es
            (λ i j x before below same.
            let first = served device (get_or es i x) (in_es i x (omega arith)) in
            let second = served device (get_or es j x) (in_es j x below) in
            let one : first.d ≡ second.d =
            same_Some first.d second.d (sym first.stands ∙ ap (slice_get plant.demands) same ∙ second.stands) in
            let frames_same = sym first.frame ∙ ap (λ (y : Demand). y.frame.0) one ∙ second.frame in
            let less = up i j x before below in omega (arith, frames_same, less)))
          where
            here_is : (xs : List Entry) (i : ℕ) (x : Entry) → i < length xs → slice_get xs i ≡ Some (get_or xs i x)
            here_is xs i x within = slice_get-get_or xs i x within

        places_differ : (n m : ℕ) (s t : Sender) (e d : Entry) (place : ℕ) → slice_get senders n ≡ Some s → slice_get senders m ≡ Some t →
            IsProvided s.provider s.places e place → IsProvided t.provider t.places d place → n ≡ m
        places_differ n m s t e d place first second by other =
            let (has, at) = in_place n s e place first by in
            let (also, there) = in_place m t d place second other in
            let is = served n e has in
            let was = served m d also in
            let one : is.d ≡ was.d = same_Some is.d was.d (sym is.stands ∙ ap (slice_get plant.demands) (sym at ∙ there) ∙ was.stands) in
            sym is.provider ∙ ap (λ (x : Demand). x.provider.0) one ∙ was.provider

        pub ready : (outputs : List (List ℕ)) → HaveWidths setup outputs → AreReady senders outputs frames
        ready outputs wide = record {
          count = wide.count ∙ sym plan.count ∙ sym are.count;
          words = λ n s words at told.
              let own = sender_is n s at in
              wide.each n words told ∙ ap words_in (sym own.entries) ∙ ap (λ (x : Sender). words_in x.provider.entries) (sym own.is);
          whole = whole_sender;
          places = places_fit;
          apart = places_apart;
          others = places_differ;
        }
