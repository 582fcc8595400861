-- What is in the frames when all senders have loaded.
use Rattle.std.proofs.Common.{◌≡◌, ℕ, ◌/◌, ◌<◌, List, [], length, map, slice_get, Some, refl, sym, ◌∙◌, ap, subst, arith}
use Rattle.std.specs.Prelude.{option_map}
use Rattle.std.specs.List.{Contains}
use Rattle.std.specs.Option.{option_map_or}
use Rattle.std.proofs.lemmas.Option.{same_Some, slice_get-map, slice_get_within}
use Rattle.irt_base.specs.Cycle.{IsDue}
use Rattle.irt_base.specs.Words.{bytes_of}
use Rattle.irt_base.specs.declared.limits.TheConstants.{WORD_BYTES}
use Rattle.irt_base.specs.declared.blocks.Bundle.{Bundle}
use Rattle.irt_base.specs.declared.blocks.Entry.{Entry}
use Rattle.irt_base.specs.declared.plants.Demand.{Demand}
use Rattle.irt_base.specs.declared.plants.Plant.{Plant}
use Rattle.iso_rules.specs.Image.{loaded_words, sent_words}
use Rattle.iso_rules.specs.Station.{words_in, part_of, entries_at, provided_of}
use Rattle.iso_station.specs.Mark.{counter_of}
use Rattle.iso_station.specs.Provider.{IsProvided, sent_frame, new_provider}
use Rattle.iso_station.specs.declared.mark.TheConstants.{DATA_STATUS}
use Rattle.iso_station.proofs.InPlace.{whole_of_block}
use Rattle.plan_rules.specs.Once.{IsDueFrame}
use Rattle.plan_rules.specs.Places.{IsAccepted}
use Rattle.plan_rules.specs.Plan.{IsPlan, setup_of}
use Rattle.plan_rules.specs.Tree.{demand_of}
use Rattle.plan_rules.specs.Way.{Setup, entry_at}
use Rattle.rtc3_frame.specs.Frame.{frame_bytes, sent_fields}
use Rattle.plant_stations.specs.Loaded.{AreWords, AreOutputs, HaveWidths, HasLoaded, AreLoaded, OthersStay, IsSent, AreLikeLong, AreSent}
use Rattle.plant_stations.specs.Whole.{HaveRoom, place_in, sender_of, AreSenders}
use Rattle.plant_stations.specs.declared.sender.Sender.{Sender}
use Rattle.plant_stations.proofs.Lists.{by_number, some_at}
use Rattle.plant_stations.proofs.Loading.{ServesProvided, served, sender_is, in_place, demand_is, bundle_is, factor_is, one_number, words_part}
use Rattle.plant_stations.proofs.Senders.{length-part}

pub room_after : (demands : List Demand) (old new : List (List ℕ)) → HaveRoom demands old → AreLikeLong old new → HaveRoom demands new
room_after demands old new room like = record {
  count = like.count ∙ room.count;
  each = λ number d bytes at there.
      let within = slice_get_within new number bytes there in
      let count = like.count in
      let (before, was) = some_at old number (omega (arith, within, count)) in
      like.each number before bytes was there ∙ room.each number d before at was;
}

module _ (plant : Plant) (bundles : List Bundle) (plan : IsPlan plant bundles) (accepted : IsAccepted plant bundles)
    (serves : ServesProvided plant bundles plan accepted) (senders : List Sender) (are : AreSenders plant bundles senders)
    (taken : ℕ → ℕ → List ℕ) (k : ℕ) (outputs old new : List (List ℕ)) (wide : HaveWidths (setup_of plant bundles) outputs)
    (outs : AreOutputs (setup_of plant bundles) taken k outputs) (sent : AreSent senders k outputs old new) where
  abbrev setup : Setup
  setup = setup_of plant bundles

  loaded_part : (d : Demand) → demand_of plant d.frame.0 ≡ Some d →
      loaded_words setup taken k d.frame.0 ≡ part_of (provided_of (entries_at setup d.provider.0)) d.frame.0 (sent_words setup taken k d.provider.0)
  loaded_part d asked =
      ap (λ o. option_map_or (λ (x : Demand). part_of (provided_of (entries_at setup x.provider.0)) d.frame.0 (sent_words setup taken k x.provider.0)) o []) asked

  -- the demand's frame, by its sender, its entry and its words
  by_entry : (number : ℕ) (d : Demand) (s : Sender) (e : Entry) (words : List ℕ) → slice_get plant.demands number ≡ Some d → IsDueFrame setup k d.frame.0 d →
      slice_get senders d.provider.0 ≡ Some s → slice_get outputs d.provider.0 ≡ Some words →
      Contains (provided_of (entries_at setup d.provider.0)) e → e.frame.0 ≡ d.frame.0 → HasLoaded setup taken k d (slice_get new number)
  by_entry number d s e words at due there told has named =
      let n = d.provider.0 in
      let own = sender_is plant bundles plan accepted serves senders are n s there in
      let is = served plant bundles plan accepted serves n e has in
      let es = provided_of own.bundle.frames.entries in
      let p = new_provider own.bundle n in
      let one : is.d ≡ d = same_Some is.d d (sym is.asked ∙ ap (demand_of plant) named ∙ due.demanded) in
      let place : place_in plant.demands e ≡ number =
      one_number plant.demands (place_in plant.demands e) number is.d d plan.rules.frames_differ is.stands at (ap (λ (x : Demand). x.frame.0) one) in
      let (i, stands) = by_number es e (subst (λ (xs : List Entry). Contains xs e) (sym own.entries) has) in
      let by : IsProvided p (map (place_in plant.demands) es) e (place_in plant.demands e) =
      record { number = i; stands = stands; at = slice_get-map (place_in plant.demands) es i ∙ ap (option_map (place_in plant.demands)) stands } in
      let mine : due.own ≡ e = same_Some due.own e (sym due.stands ∙ ap (entry_at setup n) (sym named) ∙ is.at) in
      let now : IsDue k e.ratio e.phase = subst (λ (x : Entry). IsDue k x.ratio x.phase) mine due.due in
      let one_sent : IsSent (sender_of plant own.bundle n) k words new = subst (λ (x : Sender). IsSent x k words new) own.is (sent.each n s words there told) in
      let part : part_of es e.frame.0 words ≡ loaded_words setup taken k d.frame.0 =
      ap (λ (xs : List Entry). part_of xs e.frame.0 words) own.entries
      ∙ ap (λ m. part_of (provided_of (entries_at setup n)) m words) named
      ∙ ap (part_of (provided_of (entries_at setup n)) d.frame.0) (outs.each n words told)
      ∙ sym (loaded_part d due.demanded) in
      let count : length words ≡ words_in es = wide.each n words told ∙ ap words_in (sym own.entries) in
      let order = (whole_of_block own.bundle.frames (bundle_is plant bundles plan accepted n own.bundle own.held).frames).order in
      record {
        layout =
            ap (slice_get new) (sym place) ∙ one_sent.due e (place_in plant.demands e) by now
            ∙ ap (λ ws. Some (sent_frame p k e ws)) part
            ∙ ap (λ m. Some (frame_bytes (sent_fields m n (bytes_of (loaded_words setup taken k d.frame.0)) (counter_of own.bundle.sync.factor k) DATA_STATUS))) named
            ∙ ap (λ m. Some (frame_bytes (sent_fields d.frame.0 n (bytes_of (loaded_words setup taken k d.frame.0)) (counter_of m k) DATA_STATUS)))
            (factor_is plant bundles plan accepted n own.bundle own.held);
        count =
            ap length (sym part) ∙ length-part es i e words order stands count
            ∙ ap (λ m. m / WORD_BYTES) (is.count ∙ ap (λ (x : Demand). x.length) one);
        range = subst AreWords part (words_part es e.frame.0 words one_sent.range);
      }

  pub are_loaded : AreLoaded setup taken k new
  are_loaded number d at due =
      let n = d.provider.0 in
      let (e, has, named) = (serves n d.frame.0).1 (d, due.demanded, refl) in
      let within : n < length plant.devices = (demand_is plant bundles plan accepted number d at).provider in
      let count = plan.count in
      let many = are.count in
      let wides = wide.count in
      let (s, there) = some_at senders n (omega (arith, within, count, many)) in
      let (words, told) = some_at outputs n (omega (arith, within, wides)) in
      by_entry number d s e words at due there told has named

module _ (plant : Plant) (bundles : List Bundle) (plan : IsPlan plant bundles) (accepted : IsAccepted plant bundles)
    (serves : ServesProvided plant bundles plan accepted) (senders : List Sender) (are : AreSenders plant bundles senders)
    (k : ℕ) (outputs old new : List (List ℕ)) (sent : AreSent senders k outputs old new) where
  -- the demand at the place of an entry that is due is due
  due_there : (number : ℕ) (d : Demand) (n : ℕ) (s : Sender) (e : Entry) → slice_get plant.demands number ≡ Some d → slice_get senders n ≡ Some s →
      IsProvided s.provider s.places e number → IsDue k e.ratio e.phase → IsDueFrame (setup_of plant bundles) k d.frame.0 d
  due_there number d n s e at there by due =
      let (has, place) = in_place plant bundles plan accepted serves senders are n s e number there by in
      let is = served plant bundles plan accepted serves n e has in
      let one : is.d ≡ d = same_Some is.d d (sym is.stands ∙ ap (slice_get plant.demands) (sym place) ∙ at) in
      subst (λ (x : Demand). IsDueFrame (setup_of plant bundles) k x.frame.0 x) one (record {
        own = e;
        demanded = ap (demand_of plant) is.frame ∙ is.asked;
        stands =
            ap (λ m. entry_at (setup_of plant bundles) m is.d.frame.0) is.provider
            ∙ ap (entry_at (setup_of plant bundles) n) is.frame ∙ is.at;
        due = due;
      })

  pub others_stay : OthersStay (setup_of plant bundles) k old new
  others_stay number d at never = sent.other number (λ n s e there by due. never (due_there number d n s e at there by due))
