-- The frames of stations are those of the plant's demands.
use Rattle.std.proofs.Common.{◌≡◌, ◌↔◌, ℕ, ◌<◌, ◌==◌, List, [], Option, Some, None, IsSome, find, slice_get, inl, inr, refl, sym, ◌∙◌, ap, subst, arith}
use Rattle.std.specs.Prelude.{option_map, option_and_then, unwrap_or}
use Rattle.std.specs.List.{Contains}
use Rattle.std.proofs.lemmas.Bool.{eqb-true, eq-eqb}
use Rattle.std.proofs.lemmas.List.Kept.{AllPairs-filter}
use Rattle.std.proofs.lemmas.Option.{same_Some, slice_get-map, slice_get_cases}
use Rattle.irt_base.specs.Valid.{IsBundle}
use Rattle.irt_base.specs.declared.blocks.Bundle.{Bundle}
use Rattle.irt_base.specs.declared.blocks.Entry.{Entry}
use Rattle.irt_base.specs.declared.blocks.FrameBlock.{FrameBlock}
use Rattle.irt_base.specs.declared.plants.Demand.{Demand}
use Rattle.irt_base.specs.declared.plants.Plant.{Plant}
use Rattle.irt_switch.specs.Ports.{is_kept}
use Rattle.irt_switch.specs.Release.{is_provided}
use Rattle.irt_switch.proofs.Bits.{kept_bit}
use Rattle.irt_switch.proofs.Finding.{AreAscending, ascending}
use Rattle.irt_switch.proofs.Judged.{find_own}
use Rattle.irt_switch.proofs.Members.{in_filter, from_filter, found_in}
use Rattle.plan_rules.specs.Network.{EntriesAreDemanded}
use Rattle.plan_rules.specs.Places.{IsAccepted, place_of}
use Rattle.plan_rules.specs.Plan.{IsPlan, setup_of}
use Rattle.plan_rules.specs.Tree.{demand_of, Consumes, IsInTree}
use Rattle.plan_rules.specs.Way.{Setup, entry_at}
use Rattle.iso_rules.specs.Station.{entries_at, provided_of, consumed_of}

-- ---- entries

found_in_block : (frame : ℕ) (o : Option FrameBlock) →
    option_and_then (λ (b : FrameBlock). find (λ (e : Entry). e.frame.0 == frame) b.entries) o
    ≡ find (λ (e : Entry). e.frame.0 == frame) (unwrap_or (option_map (λ (b : FrameBlock). b.entries) o) [])
found_in_block frame None = refl
found_in_block frame (Some b) = refl

pub entry_is_found : (setup : Setup) (device frame : ℕ) →
    entry_at setup device frame ≡ find (λ (e : Entry). e.frame.0 == frame) (entries_at setup device)
entry_is_found setup device frame = found_in_block frame (slice_get setup.blocks device)

abbrev frames_in : Bundle → FrameBlock
frames_in b = b.frames

pub entries_ascend : (plant : Plant) (bundles : List Bundle) → IsPlan plant bundles → (device : ℕ) → AreAscending (entries_at (setup_of plant bundles) device)
entries_ascend plant bundles plan device =
    let In : Option FrameBlock → Type 0 = λ o. AreAscending (unwrap_or (option_map (λ (b : FrameBlock). b.entries) o) []) in
    let there = slice_get-map frames_in bundles device in
    elim (slice_get_cases bundles device).1 [
      | inl (b, within, is, same) ↦
          let valid : IsBundle b = subst IsBundle same (plan.blocks device b within) in
          subst In (sym (there ∙ ap (option_map frames_in) is)) (ascending b.frames.entries valid.frames.ascending)
      | inr (past, none) ↦ subst In (sym (there ∙ ap (option_map frames_in) none)) (λ i j d before below. absurd (omega arith))
    ]

-- an entry of a device is the one that its frame has there
pub own_entry : (plant : Plant) (bundles : List Bundle) → IsPlan plant bundles → (device : ℕ) (e : Entry) →
    Contains (entries_at (setup_of plant bundles) device) e → entry_at (setup_of plant bundles) device e.frame.0 ≡ Some e
own_entry plant bundles plan device e among =
    entry_is_found (setup_of plant bundles) device e.frame.0
    ∙ find_own (entries_at (setup_of plant bundles) device) e (entries_ascend plant bundles plan device) among

pub entry_among : (setup : Setup) (device frame : ℕ) (e : Entry) → entry_at setup device frame ≡ Some e → Contains (entries_at setup device) e
entry_among setup device frame e at =
    let (among, passes) = found_in (λ (x : Entry). x.frame.0 == frame) (entries_at setup device) e (sym at ∙ entry_is_found setup device frame) in among

some_of : {X : Type 0} (o : Option X) → IsSome o → (x : X) × (o ≡ Some x)
some_of None some = absurd (cc)
some_of (Some x) some = (x, refl)

-- ---- what is consumed and provided

abbrev pub IsConsumedEntry : Setup → ℕ → ℕ → Type 0
IsConsumedEntry setup device frame = (e : Entry) × Contains (consumed_of (entries_at setup device)) e × (e.frame.0 ≡ frame)

abbrev pub IsProvidedEntry : Setup → ℕ → ℕ → Type 0
IsProvidedEntry setup device frame = (e : Entry) × Contains (provided_of (entries_at setup device)) e × (e.frame.0 ≡ frame)

pub consumed_entry : (plant : Plant) (bundles : List Bundle) → IsPlan plant bundles → (device : ℕ) (e : Entry) →
    Contains (consumed_of (entries_at (setup_of plant bundles) device)) e → entry_at (setup_of plant bundles) device e.frame.0 ≡ Some e
consumed_entry plant bundles plan device e member =
    let (among, passes) = from_filter (λ (x : Entry). is_kept x.tx) (entries_at (setup_of plant bundles) device) e member in
    own_entry plant bundles plan device e among

pub serves_consumed : (plant : Plant) (bundles : List Bundle) → IsPlan plant bundles → IsAccepted plant bundles →
    EntriesAreDemanded (setup_of plant bundles) → (device frame : ℕ) →
    IsConsumedEntry (setup_of plant bundles) device frame ↔ ((d : Demand) × (demand_of plant frame ≡ Some d) × Consumes d device)
serves_consumed plant bundles plan accepted demanded device frame = (
  λ (e, member, named).
      let (among, passes) = from_filter (λ (x : Entry). is_kept x.tx) (entries_at (setup_of plant bundles) device) e member in
      let is = demanded device e.frame.0 e (own_entry plant bundles plan device e among) in
      (is.demand, ap (demand_of plant) (sym named) ∙ is.demanded, is.kept.0 ((kept_bit e.tx).0 passes)),
  λ (d, wanted, consumes).
      let tree : IsInTree (setup_of plant bundles) device frame = accepted 2 (place_of device 0 frame) in
      let (e, at) = some_of (entry_at (setup_of plant bundles) device frame) (tree.present d wanted (inr consumes)) in
      let is = demanded device frame e at in
      let same : is.demand ≡ d = same_Some is.demand d (sym is.demanded ∙ wanted) in
      let kept = (kept_bit e.tx).1 (is.kept.1 (subst (λ (x : Demand). Consumes x device) (sym same) consumes)) in
      (e, in_filter (λ (x : Entry). is_kept x.tx) (entries_at (setup_of plant bundles) device) e (entry_among (setup_of plant bundles) device frame e at) kept, is.named),
)

pub serves_provided : (plant : Plant) (bundles : List Bundle) → IsPlan plant bundles → IsAccepted plant bundles →
    EntriesAreDemanded (setup_of plant bundles) → (device frame : ℕ) →
    IsProvidedEntry (setup_of plant bundles) device frame ↔ ((d : Demand) × (demand_of plant frame ≡ Some d) × (d.provider.0 ≡ device))
serves_provided plant bundles plan accepted demanded device frame = (
  λ (e, member, named).
      let (among, passes) = from_filter is_provided (entries_at (setup_of plant bundles) device) e member in
      let tree : IsInTree (setup_of plant bundles) device e.frame.0 = accepted 2 (place_of device 0 e.frame.0) in
      let (d, wanted, own) = tree.each e (own_entry plant bundles plan device e among) in
      (d, ap (demand_of plant) (sym named) ∙ wanted, sym (own.provided.1 (eqb-true e.rx_port 0 passes))),
  λ (d, wanted, is).
      let tree : IsInTree (setup_of plant bundles) device frame = accepted 2 (place_of device 0 frame) in
      let (e, at) = some_of (entry_at (setup_of plant bundles) device frame) (tree.present d wanted (inl (sym is))) in
      let (x, asked, own) = tree.each e at in
      let same : x ≡ d = same_Some x d (sym asked ∙ wanted) in
      let here : device ≡ x.provider.0 = sym is ∙ ap (λ (y : Demand). y.provider.0) (sym same) in
      let named = demanded device frame e at in
      (e, in_filter is_provided (entries_at (setup_of plant bundles) device) e (entry_among (setup_of plant bundles) device frame e at) (eq-eqb e.rx_port 0 (own.provided.0 here)), named.named),
)

pub consumed_ascend : (plant : Plant) (bundles : List Bundle) → IsPlan plant bundles → (device : ℕ) → AreAscending (consumed_of (entries_at (setup_of plant bundles) device))
consumed_ascend plant bundles plan device =
    AllPairs-filter (λ (a b : Entry). a.frame.0 < b.frame.0) (λ (x : Entry). is_kept x.tx) (entries_at (setup_of plant bundles) device)
    (entries_ascend plant bundles plan device)

pub provided_ascend : (plant : Plant) (bundles : List Bundle) → IsPlan plant bundles → (device : ℕ) → AreAscending (provided_of (entries_at (setup_of plant bundles) device))
provided_ascend plant bundles plan device =
    AllPairs-filter (λ (a b : Entry). a.frame.0 < b.frame.0) is_provided (entries_at (setup_of plant bundles) device)
    (entries_ascend plant bundles plan device)
