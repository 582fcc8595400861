-- From the scans of devices to the scan of a rule.
use Rattle.std.proofs.Common.{◌≡◌, ◌↔◌, IsTrue, Bool, ◌<◌, ◌≤◌, ◌==◌, inl, inr, ℕ, zero, suc, List, [], ◌∷◌, length, get_or, Option, Some, refl, sym, ◌∙◌, ap, subst, arith}
use Rattle.std.proofs.lemmas.Bool.{cases_lt, cases_order, eqb-true, eq-eqb, cases_Bool}
use Rattle.std.proofs.lemmas.Option.{none-some, same_Some, slice_get-map, slice_get_within, slice_get_past, get_or_from_slice_get, gets}
use Rattle.std.proofs.lemmas.Grind.{common_steps}
use Rattle.std.proofs.lemmas.List.{length-map}
use Rattle.std.proofs.lemmas.List.Kept.{AllPairs-from_increasing}
use Rattle.std.specs.List.{slice_get, find}
use Rattle.std.specs.List.Sorted.{IsStrictlyIncreasing}
use Rattle.std.specs.Option.{option_map, option_and_then}
use Rattle.irt_base.specs.Periods.{period_at}
use Rattle.irt_base.specs.Valid.{IsWithin, IsBundle, frames_of}
use Rattle.irt_base.specs.declared.blocks.Bundle.{Bundle}
use Rattle.irt_base.specs.declared.blocks.Entry.{Entry}
use Rattle.irt_base.specs.declared.blocks.FrameBlock.{FrameBlock}
use Rattle.irt_base.specs.declared.blocks.Side.TheVariants.{Tx, Rx}
use Rattle.irt_base.specs.declared.plants.Device.{Device}
use Rattle.irt_base.specs.declared.plants.Plant.{Plant}
use Rattle.plan_rules.specs.Way.{entry_at}
use Rattle.plan_rules.specs.Headers.{RepeatsPlant, SharesRange, IsHeader}
use Rattle.plan_rules.specs.Periods.{IsRedFrame}
use Rattle.plan_rules.specs.Places.{IsLess, IsLeastOf, IsOf, place_of}
use Rattle.plan_rules.specs.Plan.{setup_of, IsPlan}
use Rattle.plan_rules.specs.declared.place.Place.{Place}
use Rattle.block_rules.specs.FrameScan.{IsFirstOut}
use Rattle.block_rules.specs.PortScan.{IsFirstPort}
use Rattle.block_rules.specs.Scanning.{Holds, KeepsPort}
use Rattle.block_rules.specs.declared.rules.BlockRule.{BlockRule}
use Rattle.block_rules.specs.declared.rules.BlockRule.TheVariants.{Device as OfDevice, RedFrame, Periods}
use Rattle.block_rules.specs.declared.rules.DeviceRule.{DeviceRule}
use Rattle.block_rules.specs.declared.rules.DeviceRule.TheVariants.{Header, Range}
use Rattle.block_rules.specs.declared.rules.PeriodRule.{PeriodRule}

-- a plan's bundles are valid
pub bundle_valid : (plant : Plant) (bundles : List Bundle) (device : ℕ) (b : Bundle) → IsPlan plant bundles → slice_get bundles device ≡ Some b → IsBundle b
bundle_valid plant bundles device b plan is = grind (arith, common_steps, gets, plan.blocks)

-- ---- over all devices

none_there : (plant : Plant) (bundles : List Bundle) (device : ℕ) (b : Bundle) → length bundles ≤ device → slice_get bundles device ≡ Some b → ⊥
none_there plant bundles device b past is = none-some b (sym (slice_get_past bundles device past) ∙ is)

-- no rule fails past the last device
pub holds_past : (rule : BlockRule) (plant : Plant) (bundles : List Bundle) (at : Place) → length bundles ≤ at.device.0 → Holds rule plant bundles at
holds_past (OfDevice Header) plant bundles at past = λ d first b there one is. absurd (none_there plant bundles at.device.0 b past is)
holds_past (OfDevice Range) plant bundles at past = λ first b one is. absurd (none_there plant bundles at.device.0 b past is)
holds_past RedFrame plant bundles at past = λ e b stands is. absurd (none_there plant bundles at.device.0 b past is)
holds_past (Periods rule) plant bundles at past = λ phase tx rx has. absurd (none_there plant bundles at.device.0 has.bundle past has.held)

pub holds_everywhere : (rule : BlockRule) (plant : Plant) (bundles : List Bundle) (n : ℕ) → length bundles ≤ n
    → ((at : Place) → at.device.0 < n → Holds rule plant bundles at) → (at : Place) → Holds rule plant bundles at
holds_everywhere rule plant bundles n past before at =
    elim (cases_lt at.device.0 n) [ inl below ↦ before at below | inr above ↦ holds_past rule plant bundles at (omega arith) ]

-- ---- the device as a whole

pub alone_at : (rule : DeviceRule) (plant : Plant) (bundles : List Bundle) (device : ℕ) → Holds (OfDevice rule) plant bundles (place_of device 0 0)
    → (at : Place) → at.device.0 ≡ device → Holds (OfDevice rule) plant bundles at
alone_at Header plant bundles device h at is = subst (λ (n : ℕ). RepeatsPlant plant bundles (place_of n 0 0)) (sym is) h
alone_at Range plant bundles device h at is = subst (λ (n : ℕ). SharesRange plant bundles (place_of n 0 0)) (sym is) h

-- V1 of the device, by the test of its own values
pub header_rule : (rule : DeviceRule) (plant : Plant) (bundles : List Bundle) (device : ℕ) (d : Device) (first b : Bundle) (r : Bool) → rule ≡ Header
    → slice_get plant.devices device ≡ Some d → slice_get bundles 0 ≡ Some first → slice_get bundles device ≡ Some b
    → (IsTrue r ↔ IsHeader plant d first b) → IsTrue r ↔ Holds (OfDevice rule) plant bundles (place_of device 0 0)
header_rule rule plant bundles device d first b r by at_d at_first at_b is =
    subst (λ (x : DeviceRule). IsTrue r ↔ Holds (OfDevice x) plant bundles (place_of device 0 0)) (sym by) (
      λ yes e one c there starts stands.
          subst (λ (x : Bundle). IsHeader plant e one x) (same_Some b c (sym at_b ∙ stands))
          (subst (λ (x : Bundle). IsHeader plant e x b) (same_Some first one (sym at_first ∙ starts))
          (subst (λ (x : Device). IsHeader plant x first b) (same_Some d e (sym at_d ∙ there)) (is.0 yes))),
      λ h. is.1 (h d first b at_d at_first at_b),
    )

-- ---- ports

before_port : (before : Place) (device port : ℕ) → before.device.0 ≡ device → IsLess before (place_of device port 0) → before.port < port
before_port before device port is less = grind arith

pub port_breaks : (rule : PeriodRule) (plant : Plant) (bundles : List Bundle) (own : Bundle) (device port : ℕ)
    → slice_get bundles device ≡ Some own → IsFirstPort (KeepsPort rule plant own.periods) (length own.periods.ports) port
    → IsLeastOf (IsOf device) (Holds (Periods rule) plant bundles) (place_of device port 0)
port_breaks rule plant bundles own device port is found = record {
  within = refl;
  breaks = λ h. found.fails (λ phase tx rx among sends receives.
      h phase tx rx (record { bundle = own; held = is; from_one = found.there.0; among = among; sends = sends; receives = receives }));
  least = λ before here less phase tx rx has.
      let same : has.bundle ≡ own = same_Some has.bundle own (sym has.held ∙ ap (slice_get bundles) here ∙ is) in
      found.before before.port has.from_one (before_port before device port here less) phase tx rx has.among
      (subst (λ (b : Bundle). period_at b.periods before.port phase Tx ≡ Some tx) same has.sends)
      (subst (λ (b : Bundle). period_at b.periods before.port phase Rx ≡ Some rx) same has.receives);
}

-- ---- frames

abbrev pub entry_in : List Entry → ℕ → Option Entry
entry_in entries frame = find (λ (e : Entry). e.frame.0 == frame) entries

pub entry_of : (plant : Plant) (bundles : List Bundle) (own : Bundle) (device frame : ℕ) → slice_get bundles device ≡ Some own
    → entry_at (setup_of plant bundles) device frame ≡ entry_in own.frames.entries frame
entry_of plant bundles own device frame is =
    ap (option_and_then (λ (block : FrameBlock). entry_in block.entries frame))
    (slice_get-map (λ (b : Bundle). b.frames) bundles device ∙ ap (option_map (λ (b : Bundle). b.frames)) is)

-- an entry that is found stands at some index
pub found_at : (entries : List Entry) (frame : ℕ) (e : Entry) → entry_in entries frame ≡ Some e
    → (n : ℕ) × (slice_get entries n ≡ Some e) × (e.frame.0 ≡ frame)
found_at [] frame e is = absurd (none-some e is)
found_at (d ∷ ds) frame e is = elim (cases_Bool (d.frame.0 == frame)) [
  | inl same ↦
      let first : d ≡ e = same_Some d e (sym (rw same refl) ∙ is) in
      (0, ap (λ (x : Entry). Some x) first, subst (λ (x : Entry). x.frame.0 ≡ frame) first (eqb-true d.frame.0 frame same))
  | inr other ↦
      let rest = found_at ds frame e (sym (rw other refl) ∙ is) in (suc rest.0, rest.1, rest.2)
]

-- a frame that stands at an index is found
pub finds : (entries : List Entry) (n : ℕ) (e : Entry) → slice_get entries n ≡ Some e
    → (d : Entry) × (entry_in entries e.frame.0 ≡ Some d) × (d.frame.0 ≡ e.frame.0)
finds [] n e is = absurd (none-some e is)
finds (d ∷ ds) zero e is =
    let same : d.frame.0 ≡ e.frame.0 = ap (λ (x : Entry). x.frame.0) (same_Some d e is) in
    (d, rw (eq-eqb d.frame.0 e.frame.0 same) refl, same)
finds (d ∷ ds) (suc n) e is = elim (cases_Bool (d.frame.0 == e.frame.0)) [
  | inl same ↦ (d, rw same refl, eqb-true d.frame.0 e.frame.0 same)
  | inr other ↦ let rest = finds ds n e is in (rest.0, rw other rest.1, rest.2)
]

frame_there : (entries : List Entry) (n : ℕ) (e : Entry) → slice_get entries n ≡ Some e → get_or (frames_of entries) n 0 ≡ e.frame.0
frame_there entries n e is =
    get_or_from_slice_get (frames_of entries) n e.frame.0 0
    (slice_get-map (λ (x : Entry). x.frame.0) entries n ∙ ap (option_map (λ (x : Entry). x.frame.0)) is)

-- a lesser frame stands before
stands_before : (entries : List Entry) (m n : ℕ) (d e : Entry) → IsStrictlyIncreasing (frames_of entries)
    → slice_get entries m ≡ Some d → slice_get entries n ≡ Some e → d.frame.0 < e.frame.0 → m < n
stands_before entries m n d e rises at_m at_n less = elim (cases_order m n) [
  | inl same ↦
      let one : d ≡ e = same_Some d e (sym at_m ∙ ap (slice_get entries) same ∙ at_n) in
      let frames : d.frame.0 ≡ e.frame.0 = ap (λ (x : Entry). x.frame.0) one in
      absurd (omega arith)
  | inr (inl below) ↦ below
  | inr (inr above) ↦
      let there : m < length (frames_of entries) = rw length-map (slice_get_within entries m d at_m) in
      let order = AllPairs-from_increasing (frames_of entries) rises n m 0 above there in
      absurd (omega (arith, order, frame_there entries m d at_m, frame_there entries n e at_n))
]

before_frame : (before : Place) (device frame : ℕ) → before.device.0 ≡ device → IsLess before (place_of device 0 frame) → before.frame < frame
before_frame before device frame is less = grind arith

module _ (plant : Plant) (bundles : List Bundle) (own : Bundle) (device : ℕ) (is : slice_get bundles device ≡ Some own) where
  -- the red range is of the device's own block
  red_of : (at : Place) → at.device.0 ≡ device → ((e : Entry) → entry_in own.frames.entries at.frame ≡ Some e → IsWithin own.periods.first own.periods.last at.frame)
      → IsRedFrame plant bundles at
  red_of at here h = λ e b stands held.
      let same : own ≡ b = same_Some own b (sym is ∙ ap (slice_get bundles) (sym here) ∙ held) in
      let there : slice_get bundles at.device.0 ≡ Some own = ap (slice_get bundles) here ∙ is in
      subst (λ (x : Bundle). IsWithin x.periods.first x.periods.last at.frame) same (h e (sym (entry_of plant bundles own at.device.0 at.frame there) ∙ stands))

  pub frames_hold : (entries : List Entry) → entries ≡ own.frames.entries
      → ((n : ℕ) (e : Entry) → slice_get entries n ≡ Some e → IsWithin own.periods.first own.periods.last e.frame.0)
      → (at : Place) → at.device.0 ≡ device → IsRedFrame plant bundles at
  frames_hold entries all h at here = red_of at here (λ e found.
      let stands = found_at own.frames.entries at.frame e found in
      subst (λ (f : ℕ). IsWithin own.periods.first own.periods.last f) stands.2
      (h stands.0 e (ap (λ (xs : List Entry). slice_get xs stands.0) all ∙ stands.1)))

  pub frame_breaks : (entries : List Entry) (frame : ℕ) → entries ≡ own.frames.entries → IsStrictlyIncreasing (frames_of own.frames.entries)
      → IsFirstOut own.periods.first own.periods.last entries frame
      → IsLeastOf (IsOf device) (IsRedFrame plant bundles) (place_of device 0 frame)
  frame_breaks entries frame all rises out =
      let stands : slice_get own.frames.entries out.index ≡ Some out.e = ap (λ (xs : List Entry). slice_get xs out.index) (sym all) ∙ out.stands in
      record {
        within = refl;
        breaks = λ red.
            let found = finds own.frames.entries out.index out.e stands in
            out.out (red found.0 own (entry_of plant bundles own device frame is ∙ ap (entry_in own.frames.entries) (sym out.named) ∙ found.1) is);
        least = λ before here less. red_of before here (λ e found.
            let at = found_at own.frames.entries before.frame e found in
            let low = before_frame before device frame here less in
            let first : at.0 < out.index = stands_before own.frames.entries at.0 out.index e out.e rises at.1 stands (omega (arith, at.2, out.named, low)) in
            subst (λ (f : ℕ). IsWithin own.periods.first own.periods.last f) at.2
            (out.before at.0 e first (ap (λ (xs : List Entry). slice_get xs at.0) all ∙ at.1)));
      }
