-- A device has no more words than its demands.
use Rattle.std.proofs.Common.{◌≡◌, ◌↔◌, ℕ, ◌/◌, ◌==◌, ◌<◌, ◌≤◌, Bool, true, false, not, ◌||◌, if◌then◌else◌, List, [], ◌∷◌, length, filter, Option, Some, None, IsSome, inl, inr, refl, sym, ◌∙◌, ap, subst, arith}
use Rattle.std.specs.Prelude.{option_map, unwrap_or}
use Rattle.std.specs.List.{Contains, IsDistinct, list_any}
use Rattle.std.proofs.lemmas.Bool.{cases_lt, eq-eqb, eqb-true, eqb-false}
use Rattle.std.proofs.lemmas.List.Filters.{sum_by-filter_both}
use Rattle.std.proofs.lemmas.List.Kept.{AllPairs-filter}
use Rattle.std.proofs.lemmas.List.Sums.{sum_by-cons}
use Rattle.std.proofs.lemmas.Option.{slice_get-map, slice_get_past}
use Rattle.irt_base.specs.declared.limits.TheConstants.{WORD_BYTES, MAX_WORDS}
use Rattle.irt_base.specs.declared.blocks.Bundle.{Bundle}
use Rattle.irt_base.specs.declared.blocks.Entry.{Entry}
use Rattle.irt_base.specs.declared.blocks.FrameBlock.{FrameBlock}
use Rattle.irt_base.specs.declared.numbers.DevId.{DevId}
use Rattle.irt_base.specs.declared.plants.Demand.{Demand}
use Rattle.irt_base.specs.declared.plants.Plant.{Plant}
use Rattle.irt_switch.proofs.Finding.{AreAscending}
use Rattle.irt_switch.proofs.Members.{here, first_or_later, found_in, from_filter}
use Rattle.iso_rules.specs.Station.{data_words, words_in, entries_at, provided_of, consumed_of, input_count, output_count}
use Rattle.iso_rules.proofs.Serving.{consumed_entry}
use Rattle.plan_rules.specs.Places.{IsAccepted, place_of}
use Rattle.plan_rules.specs.Plan.{IsPlan, setup_of}
use Rattle.plan_rules.specs.Tree.{demand_of, Consumes, IsInTree}
use Rattle.plan_rules.specs.Way.{Setup, entry_at}
use Rattle.plant_rules.specs.Words.{consumes, provides, demand_words, same_frame, words_where}
use Rattle.plant_stations.proofs.Lists.{by_number}
use Rattle.plant_stations.proofs.Loading.{ServesProvided, none_like, as_demanded, asked_frame, served}

-- An entry has the words of one of some demands that pass a test.
pub record IsAsked (test : Demand → Bool) (ds : List Demand) (e : Entry) : Type 0 where
  pub d : Demand
  pub among : Contains ds d
  pub frame : d.frame.0 ≡ e.frame.0
  pub passes : test d ≡ true
  pub words : demand_words d ≡ data_words e

nothing : {A : Type 0} (x : A) → Contains [] x → ⊥
nothing x (n, below, is) = omega arith

abbrev is_of : Demand → Entry → Bool
is_of d e = e.frame.0 == d.frame.0

-- those of one demand's frame are one at most
few_of_one : (test : Demand → Bool) (d : Demand) (es : List Entry) → AreAscending es → ((e : Entry) → Contains es e → e.frame.0 ≡ d.frame.0) →
    ((e : Entry) → Contains es e → (test d ≡ true) × (demand_words d ≡ data_words e)) → words_in es ≤ (if test d then demand_words d else 0)
few_of_one test d [] up same has = omega arith
few_of_one test d (x ∷ []) up same has =
    let (passes, words) = has x (here x []) in
    let most : (if test d then demand_words d else 0) ≡ demand_words d = ap (λ (b : Bool). if b then demand_words d else 0) passes in
    omega (arith, words, most, sum_by-cons data_words x [])
few_of_one test d (x ∷ y ∷ es) up same has =
    let first = same x (here x (y ∷ es)) in
    let second = same y (1, omega arith, refl) in
    let less : x.frame.0 < y.frame.0 = up 0 1 x (omega arith) (omega arith) in absurd (omega (arith, first, second, less))

few : (test : Demand → Bool) (ds : List Demand) (es : List Entry) → IsDistinct same_frame ds → AreAscending es → ((e : Entry) → Contains es e → IsAsked test ds e) →
    words_in es ≤ words_where test ds
unfolding IsDistinct
few test [] [] apart up asked = omega arith
few test [] (e ∷ es) apart up asked = let is = asked e (here e es) in absurd (nothing is.d is.among)
few test (d ∷ ds) es apart up asked =
    let mine = filter (is_of d) es in
    let rest = filter (λ (e : Entry). not (is_of d e)) es in
    let first : words_in mine ≤ (if test d then demand_words d else 0) =
    few_of_one test d mine (AllPairs-filter (λ (a b : Entry). a.frame.0 < b.frame.0) (is_of d) es up)
    (λ e has. eqb-true e.frame.0 d.frame.0 (from_filter (is_of d) es e has).1)
    (λ e has. let (among, passes) = from_filter (is_of d) es e has in own e (asked e among) (eqb-true e.frame.0 d.frame.0 passes)) in
    let others : words_in rest ≤ words_where test ds =
    few test ds rest apart.1 (AllPairs-filter (λ (a b : Entry). a.frame.0 < b.frame.0) (λ (e : Entry). not (is_of d e)) es up)
    (λ e has. let (among, passes) = from_filter (λ (x : Entry). not (is_of d x)) es e has in other e (asked e among) (is_of d e) refl passes) in
    omega (
      arith,
      first,
      others,
      sum_by-filter_both (is_of d) (λ (e : Entry). not (is_of d e)) (λ e. refl) data_words es,
      sum_by-cons (λ (x : Demand). if test x then demand_words x else 0) d ds,
    )
  where
    own : (e : Entry) → IsAsked test (d ∷ ds) e → e.frame.0 ≡ d.frame.0 → (test d ≡ true) × (demand_words d ≡ data_words e)
    own e is same = elim (first_or_later d ds is.d is.among) [
      | inl one ↦ (ap test one ∙ is.passes, ap demand_words one ∙ is.words)
      | inr more ↦ let (n, at) = by_number ds is.d more in absurd (none_like d ds n is.d apart.0 at (sym same ∙ sym is.frame))
    ]

    other : (e : Entry) → IsAsked test (d ∷ ds) e → (b : Bool) → is_of d e ≡ b → not b ≡ true → IsAsked test ds e
    other e is true told passes = absurd (cc)
    other e is false told passes = elim (first_or_later d ds is.d is.among) [
      | inl one ↦ absurd (eqb-false e.frame.0 d.frame.0 told (sym is.frame ∙ ap (λ (x : Demand). x.frame.0) (sym one)))
      | inr more ↦ record { d = is.d; among = more; frame = is.frame; passes = is.passes; words = is.words }
    ]

passes_any : {A : Type 0} (p : A → Bool) (xs : List A) (x : A) → Contains xs x → p x ≡ true → list_any p xs ≡ true
passes_any p [] x is passes = absurd (nothing x is)
passes_any p (y ∷ ys) x is passes = elim (first_or_later y ys x is) [
  | inl same ↦ ap (λ (b : Bool). b || list_any p ys) (ap p same ∙ passes)
  | inr more ↦ go (p y) (passes_any p ys x more passes)
]
  where
    go : (b : Bool) → list_any p ys ≡ true → (b || list_any p ys) ≡ true
    go true rest = refl
    go false rest = rest

some_of : {A : Type 0} (o : Option A) → IsSome o → (x : A) × (o ≡ Some x)
some_of None some = absurd (cc)
some_of (Some x) some = (x, refl)

no_entries : (plant : Plant) (bundles : List Bundle) → IsPlan plant bundles → (device : ℕ) → length plant.devices ≤ device → entries_at (setup_of plant bundles) device ≡ []
no_entries plant bundles plan device past =
    let count = plan.count in
    ap (λ (o : Option FrameBlock). unwrap_or (option_map (λ (f : FrameBlock). f.entries) o) [])
    (slice_get-map (λ (b : Bundle). b.frames) bundles device ∙ ap (option_map (λ (b : Bundle). b.frames)) (slice_get_past bundles device (omega (arith, past, count))))

module _ (plant : Plant) (bundles : List Bundle) (plan : IsPlan plant bundles) (accepted : IsAccepted plant bundles) where
  abbrev setup : Setup
  setup = setup_of plant bundles

  abbrev pub ServesConsumed : Type 0
  ServesConsumed = (device frame : ℕ) → ((e : Entry) × Contains (consumed_of (entries_at setup device)) e × (e.frame.0 ≡ frame)) ↔
      ((d : Demand) × (demand_of plant frame ≡ Some d) × Consumes d device)

  some_demand : (frame : ℕ) (d : Demand) → demand_of plant frame ≡ Some d → Contains plant.demands d
  some_demand frame d asked = (found_in (λ (x : Demand). x.frame.0 == frame) plant.demands d (sym asked)).0

  pub few_inputs : ServesConsumed → ((device : ℕ) → AreAscending (consumed_of (entries_at setup device))) → (device : ℕ) → input_count setup device ≤ MAX_WORDS
  few_inputs serves up device = elim (cases_lt device (length plant.devices)) [
    | inl within ↦
        let most = (plan.rules.words device within).consumed in
        let least = few (consumes device) plant.demands (consumed_of (entries_at setup device)) plan.rules.frames_differ (up device) (λ e has.
        let (d, asked, takes) = (serves device e.frame.0).0 (e, has, refl) in
        let tree : IsInTree setup d.provider.0 e.frame.0 = accepted 2 (place_of d.provider.0 0 e.frame.0) in
        let (own, stands) = some_of (entry_at setup d.provider.0 e.frame.0) (tree.present d asked (inl refl)) in
        let alike = as_demanded plant bundles plan accepted device e.frame.0 d own e asked stands (consumed_entry plant bundles plan device e has) in
        record {
          d = d;
          among = some_demand e.frame.0 d asked;
          frame = asked_frame plant bundles plan accepted e.frame.0 d asked;
          passes = passes_any (λ (c : DevId). c.0 == device) d.consumers (record { 0 = device }) takes (eq-eqb device device refl);
          words = ap (λ n. n / WORD_BYTES) (sym alike.length);
        }) in
        omega (arith, most, least)
    | inr past ↦ subst (λ (es : List Entry). words_in (consumed_of es) ≤ MAX_WORDS) (sym (no_entries plant bundles plan device past)) (omega arith)
  ]

  pub few_outputs : (serves : ServesProvided plant bundles plan accepted) → ((device : ℕ) → AreAscending (provided_of (entries_at setup device))) →
      (device : ℕ) → output_count setup device ≤ MAX_WORDS
  few_outputs serves up device = elim (cases_lt device (length plant.devices)) [
    | inl within ↦
        let most = (plan.rules.words device within).provided in
        let least = few (provides device) plant.demands (provided_of (entries_at setup device)) plan.rules.frames_differ (up device) (λ e has.
        let is = served plant bundles plan accepted serves device e has in
        record {
          d = is.d;
          among = some_demand e.frame.0 is.d is.asked;
          frame = is.frame;
          passes = eq-eqb is.d.provider.0 device is.provider;
          words = ap (λ n. n / WORD_BYTES) (sym is.count);
        }) in
        omega (arith, most, least)
    | inr past ↦ subst (λ (es : List Entry). words_in (provided_of es) ≤ MAX_WORDS) (sym (no_entries plant bundles plan device past)) (omega arith)
  ]
