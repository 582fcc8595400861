-- Stations as they are made.
use Rattle.std.proofs.Common.{◌≡◌, ◌⊎◌, inl, inr, ℕ, zero, suc, ◌+◌, ◌<◌, length-append, List, [], ◌∷◌, ◌++◌, length, map, take, get_or, replicate, slice_get, Some, refl, sym, ◌∙◌, ap, subst, subst₂, arith}
use Rattle.std.specs.Prelude.{option_map}
use Rattle.std.proofs.lemmas.List.{length-map, length-replicate, length-take, take_more}
use Rattle.std.proofs.lemmas.Option.{same_Some, slice_get-map, slice_get_within, get_or_from_slice_get}
use Rattle.irt_base.specs.declared.blocks.Bundle.{Bundle}
use Rattle.irt_base.specs.declared.blocks.Entry.{Entry}
use Rattle.irt_base.specs.declared.plants.App.{App}
use Rattle.irt_base.specs.declared.plants.Demand.{Demand}
use Rattle.irt_base.specs.declared.plants.Plant.{Plant}
use Rattle.iso_rules.specs.Station.{consumed_of}
use Rattle.iso_station.specs.Consumer.{ConsumerState, new_consumer}
use Rattle.iso_station.specs.Held.{Held, new_held}
use Rattle.plan_rules.specs.World.{WorldRow}
use Rattle.plan_rules.specs.Places.{IsAccepted}
use Rattle.plan_rules.specs.Plan.{IsPlan}
use Rattle.rtc3_frame.specs.Frames.{zero_frames}
use Rattle.rtc3_frame.specs.declared.frame.TheConstants.{HEAD, TAIL}
use Rattle.plant_stations.specs.Stations.{HavePlayed, AreInCycle}
use Rattle.plant_stations.specs.Whole.{HaveRoom, sender_of, AreSenders, IsConsumerOf, AreConsumers, AreNewConsumers, AreStations}
use Rattle.plant_stations.specs.declared.sender.Sender.{Sender}
use Rattle.plant_stations.proofs.Ending.{from_places, app_bundle}
use Rattle.plant_stations.proofs.Lists.{some_at}

-- ---- lists that grow

pub at_more : {A : Type 0} (xs : List A) (x : A) (n : ℕ) (y : A) → slice_get (xs ++ x ∷ []) n ≡ Some y → (slice_get xs n ≡ Some y) ⊎ ((n ≡ length xs) × (x ≡ y))
at_more [] x zero y is = inr (refl, same_Some x y is)
at_more [] x (suc n) y is = absurd (cc)
at_more (z ∷ zs) x zero y is = inl is
at_more (z ∷ zs) x (suc n) y is = elim (at_more zs x n y is) [
  | inl front ↦ inl front
  | inr (last, same) ↦ inr (ap suc last, same)
]

pub length_more : {A : Type 0} (xs : List A) (x : A) → length (xs ++ x ∷ []) ≡ length xs + 1
length_more xs x = omega (arith, length-append xs (x ∷ []))

-- ---- senders

pub no_senders : (plant : Plant) → AreSenders plant [] []
no_senders plant = record { count = refl; each = λ n b s is. absurd (cc) }

one_sender_more : (plant : Plant) (bundles : List Bundle) (senders : List Sender) (b : Bundle) (s : Sender) → AreSenders plant bundles senders →
    s ≡ sender_of plant b (length bundles) → AreSenders plant (bundles ++ b ∷ []) (senders ++ s ∷ [])
one_sender_more plant bundles senders b s are is = record {
  count = length_more senders s ∙ ap (λ n. n + 1) are.count ∙ sym (length_more bundles b);
  each = λ n c t at stands. elim (at_more bundles b n c at) [
    | inl front ↦ elim (at_more senders s n t stands) [
      | inl early ↦ are.each n c t front early
      | inr (last, same) ↦ let within = slice_get_within bundles n c front in let count = are.count in absurd (omega (arith, within, last, count))
    ]
    | inr (last, same) ↦ elim (at_more senders s n t stands) [
      | inl early ↦ let within = slice_get_within senders n t early in let count = are.count in absurd (omega (arith, within, last, count))
      | inr (end, one) ↦ sym one ∙ is ∙ ap (λ (x : Bundle). sender_of plant x (length bundles)) same ∙ ap (sender_of plant c) (sym last)
    ]
  ];
}

pub sender_made : (plant : Plant) (bundles : List Bundle) (senders : List Sender) (i : ℕ) (d : Bundle) (s : Sender) → i < length bundles →
    AreSenders plant (take i bundles) senders → s ≡ sender_of plant (get_or bundles i d) i → AreSenders plant (take (i + 1) bundles) (senders ++ s ∷ [])
sender_made plant bundles senders i d s within are is =
    let long : length (take i bundles) ≡ i = omega (arith, within, length-take i bundles) in
    subst (λ bs. AreSenders plant bs (senders ++ s ∷ [])) (sym (take_more bundles i d within))
    (one_sender_more plant (take i bundles) senders (get_or bundles i d) s are (is ∙ ap (sender_of plant (get_or bundles i d)) (sym long)))

-- ---- consumers

pub no_consumers : (bundles : List Bundle) → AreNewConsumers [] bundles []
no_consumers bundles = record { count = refl; each = λ n app b c is. absurd (cc) }

one_consumer_more : (apps : List App) (bundles : List Bundle) (consumers : List ConsumerState) (app : App) (c : ConsumerState) →
    AreNewConsumers apps bundles consumers → ((b : Bundle) → slice_get bundles app.device.0 ≡ Some b → c ≡ new_consumer b) →
    AreNewConsumers (apps ++ app ∷ []) bundles (consumers ++ c ∷ [])
one_consumer_more apps bundles consumers app c are is = record {
  count = length_more consumers c ∙ ap (λ n. n + 1) are.count ∙ sym (length_more apps app);
  each = λ n a b s at held stands. elim (at_more apps app n a at) [
    | inl front ↦ elim (at_more consumers c n s stands) [
      | inl early ↦ are.each n a b s front held early
      | inr (last, same) ↦ let within = slice_get_within apps n a front in let count = are.count in absurd (omega (arith, within, last, count))
    ]
    | inr (last, same) ↦ elim (at_more consumers c n s stands) [
      | inl early ↦ let within = slice_get_within consumers n s early in let count = are.count in absurd (omega (arith, within, last, count))
      | inr (end, one) ↦ sym one ∙ is b (ap (λ (x : App). slice_get bundles x.device.0) same ∙ held)
    ]
  ];
}

pub consumer_made : (apps : List App) (bundles : List Bundle) (consumers : List ConsumerState) (i : ℕ) (d : App) (e : Bundle) (c : ConsumerState) → i < length apps →
    AreNewConsumers (take i apps) bundles consumers → c ≡ new_consumer (get_or bundles (get_or apps i d).device.0 e) →
    AreNewConsumers (take (i + 1) apps) bundles (consumers ++ c ∷ [])
consumer_made apps bundles consumers i d e c within are is =
    subst (λ xs. AreNewConsumers xs bundles (consumers ++ c ∷ [])) (sym (take_more apps i d within))
    (one_consumer_more (take i apps) bundles consumers (get_or apps i d) c are
    (λ b held. is ∙ ap new_consumer (get_or_from_slice_get bundles (get_or apps i d).device.0 b e held)))

new_entries : (es : List Entry) → map (λ (h : Held). h.entry) (map new_held es) ≡ es
new_entries [] = refl
new_entries (e ∷ es) = ap (λ l. e ∷ l) (new_entries es)

new_of : (b : Bundle) (c : ConsumerState) → c ≡ new_consumer b → IsConsumerOf b c
new_of b c is = subst (IsConsumerOf b) (sym is) (record { factor = refl; entries = new_entries (consumed_of b.frames.entries) })

pub are_consumers : (plant : Plant) (bundles : List Bundle) (consumers : List ConsumerState) → AreNewConsumers plant.apps bundles consumers → AreConsumers plant bundles consumers
are_consumers plant bundles consumers are = record { count = are.count; each = λ n app b c at held stands. new_of b c (are.each n app b c at held stands) }

module _ (plant : Plant) (bundles : List Bundle) (plan : IsPlan plant bundles) (consumers : List ConsumerState) (frames : List (List ℕ))
    (are : AreNewConsumers plant.apps bundles consumers) where
  pub begun : (world : List WorldRow) (taken : ℕ → ℕ → List ℕ) →
      HavePlayed world taken 0 (record { plant = plant; bundles = bundles; consumers = consumers; frames = frames })
  begun world taken = record {
    count = are.count;
    each = λ n app c at stands.
        let (b, held) = app_bundle plant bundles plan n app at in
        record { bundle = b; held = held; frames = λ k. []; state = are.each n app b c at held stands; arrived = λ k e before. absurd (omega (arith, before)) };
  }

  pub in_first : AreInCycle 0 (record { plant = plant; bundles = bundles; consumers = consumers; frames = frames })
  in_first = from_places (λ (c : ConsumerState). c.cycle ≡ 0) consumers (λ n c stands.
      let within = slice_get_within consumers n c stands in
      let count = are.count in
      let (app, at) = some_at plant.apps n (omega (arith, within, count)) in
      let (b, held) = app_bundle plant bundles plan n app at in
      ap (λ (x : ConsumerState). x.cycle) (are.each n app b c at held stands))

-- ---- frames

pub room_made : (demands : List Demand) (frames : List (List ℕ)) → frames ≡ zero_frames (map (λ (d : Demand). d.length) demands) → HaveRoom demands frames
room_made demands frames is =
    let size : ℕ → List ℕ = λ n. replicate (n + (HEAD + TAIL)) 0 in
    let long : Demand → ℕ = λ d. d.length in
    record {
      count = ap length is ∙ length-map (map long demands) size ∙ length-map demands long;
      each = λ number d bytes at stands.
          let there : slice_get frames number ≡ Some (size d.length) =
          ap (λ l. slice_get l number) is ∙ slice_get-map size (map long demands) number
          ∙ ap (option_map size) (slice_get-map long demands number ∙ ap (option_map long) at) in
          ap length (same_Some bytes (size d.length) (sym stands ∙ there)) ∙ length-replicate (d.length + (HEAD + TAIL)) 0;
    }

-- ---- copies

module _ (plant : Plant) (bundles : List Bundle) (plan : IsPlan plant bundles) (p : Plant) (bs : List Bundle) (senders : List Sender) (consumers : List ConsumerState)
    (frames : List (List ℕ)) (same : p ≡ plant) (same_blocks : bs ≡ bundles) (made : AreNewConsumers plant.apps bundles consumers) where
  pub stations_made : IsAccepted plant bundles → AreSenders plant bundles senders → HaveRoom plant.demands frames → AreStations p bs senders consumers frames
  stations_made accepted sending room =
      subst₂ (λ (x : Plant) (ys : List Bundle). AreStations x ys senders consumers frames) (sym same) (sym same_blocks)
      (record { plan = plan; accepted = accepted; provide = sending; consume = are_consumers plant bundles consumers made; room = room })

  pub begun_as : (world : List WorldRow) (taken : ℕ → ℕ → List ℕ) →
      HavePlayed world taken 0 (record { plant = p; bundles = bs; consumers = consumers; frames = frames })
  begun_as world taken =
      subst₂ (λ (x : Plant) (ys : List Bundle). HavePlayed world taken 0 (record { plant = x; bundles = ys; consumers = consumers; frames = frames }))
      (sym same) (sym same_blocks) (begun plant bundles plan consumers frames made world taken)
