-- What a plan's blocks hold for a device and a frame.
use Rattle.std.proofs.Common.{◌≡◌, ℕ, ◌<◌, List, [], ◌∷◌, zero, suc, Some, sym, ◌∙◌, ap, subst, arith, length, map, ◌==◌, slice_get, find, All, inl, inr}
use Rattle.std.specs.List.{AllByRecursion}
use Rattle.std.proofs.lemmas.Bool.{eqb-true}
use Rattle.std.proofs.lemmas.Option.{same_Some, slice_get-map, slice_get_within, slice_get_cases, get_or_from_slice_get, option_and_then_some}
use Rattle.irt_base.specs.Valid.{IsEntry, IsBundle}
use Rattle.irt_base.specs.declared.blocks.Bundle.{Bundle}
use Rattle.irt_base.specs.declared.blocks.Entry.{Entry}
use Rattle.irt_base.specs.declared.blocks.FrameBlock.{FrameBlock}
use Rattle.irt_base.specs.declared.plants.Device.{Device}
use Rattle.irt_base.specs.declared.plants.Plant.{Plant}
use Rattle.plan_rules.specs.Way.{entry_at}
use Rattle.plan_rules.specs.Headers.{IsHeader}
use Rattle.plan_rules.specs.Plan.{IsPlan, setup_of}
use Rattle.plan_rules.specs.Places.{IsAccepted, place_of}
use Rattle.plan_rules.proofs.Kept as kept
use Rattle.plan_rules.proofs.Wires.{found, mapped}

pub all_at : {A : Type 0} (P : A → Type 0) (xs : List A) (k : ℕ) (x : A) → All P xs → slice_get xs k ≡ Some x → P x
all_at P xs k x all is = subst P (get_or_from_slice_get xs k x x is) (all k x (slice_get_within xs k x is))

pub each_at : {A : Type 0} (P : A → Type 0) (xs : List A) (k : ℕ) (x : A) → AllByRecursion P xs → slice_get xs k ≡ Some x → P x
each_at P [] k x all is = absurd (cc)
each_at P (y ∷ ys) zero x all is = subst P (same_Some y x is) all.0
each_at P (y ∷ ys) (suc k) x all is = each_at P ys k x all.1 is

pub some_at : {A : Type 0} (xs : List A) (k : ℕ) → k < length xs → (x : A) × (slice_get xs k ≡ Some x)
some_at xs k below =
    elim (slice_get_cases xs k).1 [
      | inl (x, within, is, same) ↦ (x, is)
      | inr (past, none) ↦ absurd (omega arith)
    ]

-- the block that has an entry
pub block_of : (plant : Plant) (bundles : List Bundle) (device frame : ℕ) (e : Entry) → entry_at (setup_of plant bundles) device frame ≡ Some e →
    (b : Bundle) × (slice_get bundles device ≡ Some b) × (find (λ (x : Entry). x.frame.0 == frame) b.frames.entries ≡ Some e)
block_of plant bundles device frame e at =
    option_and_then_some (λ (block : FrameBlock). find (λ (x : Entry). x.frame.0 == frame) block.entries)
    (slice_get (map (λ (b : Bundle). b.frames) bundles) device) e at
    (λ block there is.
    let (b, held, same) = mapped (λ (b : Bundle). b.frames) (slice_get bundles device) block (sym (slice_get-map (λ (b : Bundle). b.frames) bundles device) ∙ there) in
    (b, held, ap (λ (x : FrameBlock). find (λ (y : Entry). y.frame.0 == frame) x.entries) same ∙ is))

-- a device's blocks beside the plant
pub record AreBlocks (plant : Plant) (bundles : List Bundle) (device : ℕ) : Type 0 where
  pub bundle : Bundle
  pub d : Device
  pub first : Bundle
  pub held : slice_get bundles device ≡ Some bundle
  pub is_device : slice_get plant.devices device ≡ Some d
  pub valid : IsBundle bundle
  pub header : IsHeader plant d first bundle

-- a device of the plant has blocks, which agree with the plant
pub blocks_of : (plant : Plant) (bundles : List Bundle) → IsPlan plant bundles → IsAccepted plant bundles → (device : ℕ) (b : Bundle) →
    slice_get bundles device ≡ Some b → AreBlocks plant bundles device
blocks_of plant bundles plan accepted device b held =
    let (d, is_device) = some_at plant.devices device (omega (arith, slice_get_within bundles device b held, plan.count)) in
    let (first, at_first) = some_at bundles 0 (omega (arith, slice_get_within bundles device b held)) in
    record {
      bundle = b;
      d = d;
      first = first;
      held = held;
      is_device = is_device;
      valid = all_at IsBundle bundles device b plan.blocks held;
      header = kept.header plant bundles accepted (place_of device 0 0) d first b is_device at_first held;
    }

-- an entry has its device's blocks, is valid, and is its frame's
pub record IsHeld (plant : Plant) (bundles : List Bundle) (device frame : ℕ) (e : Entry) : Type 0 where
  pub blocks : AreBlocks plant bundles device
  pub is_frame : e.frame.0 ≡ frame
  pub valid : IsEntry e

pub held_of : (plant : Plant) (bundles : List Bundle) → IsPlan plant bundles → IsAccepted plant bundles → (device frame : ℕ) (e : Entry) →
    entry_at (setup_of plant bundles) device frame ≡ Some e → IsHeld plant bundles device frame e
held_of plant bundles plan accepted device frame e at =
    let (b, held, is) = block_of plant bundles device frame e at in
    let blocks = blocks_of plant bundles plan accepted device b held in
    let valid : IsBundle b = all_at IsBundle bundles device b plan.blocks held in
    let (same, entry) = found (λ (x : Entry). x.frame.0 == frame) IsEntry b.frames.entries e valid.frames.each is in
    record { blocks = blocks; is_frame = eqb-true e.frame.0 frame same; valid = entry }
