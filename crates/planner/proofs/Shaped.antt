-- A placed plan has its demand's shape, and the offsets of its anchors.
use Rattle.std.proofs.Common.{◌≡◌, ◌≢◌, ℕ, List, Option, Some, None, sym, ◌∙◌, ap, subst, refl}
use Rattle.std.specs.Prelude.{Contains}
use Rattle.std.proofs.lemmas.Option.{same_Some}
use Rattle.irt_base.specs.declared.blocks.Entry.{Entry}
use Rattle.irt_base.specs.declared.plants.Demand.{Demand}
use Rattle.irt_base.specs.declared.plants.Plant.{Plant}
use Rattle.irt_route.specs.Trees.{Parents}
use Rattle.plan_rules.specs.Way.{IsAnchor}
use Rattle.fit_rules.specs.declared.frame_plan.FramePlan.{FramePlan}
use Rattle.fit_rules.specs.Shape.{alone, entry_of, IsOn, IsEntryOf, HasShape}
use Rattle.placement.specs.Layouts.{offset_at}
use Rattle.placement.specs.declared.layout.Rate.{Rate}
use Rattle.placement.specs.declared.layout.Anchor.{Anchor}
use Rattle.frame_ways.specs.FrameWays.{base_of, IsFrameWay}
use Rattle.frame_ways.specs.declared.frame_way.FrameWay.{FrameWay}
use Rattle.planner.specs.Placed.{placed_entry, IsPlacedPlan}
use Rattle.planner.proofs.Entries.{no_item}
use Rattle.planner.proofs.Windows.{anchors_alike, HasOffsets}

-- an entry in another rate and with another offset
abbrev rated : Rate → ℕ → Entry → Entry
rated rate x e = record e { ratio = rate.ratio; phase = rate.phase; send_offset = x }

placed_back : (rate : Rate) (x : ℕ) (o : Option Entry) (e : Entry) → placed_entry rate x o ≡ Some e →
    (g : Entry) × (o ≡ Some g) × (rated rate x g ≡ e)
placed_back rate x None e is = no_item e is
placed_back rate x (Some g) e is = (g, refl, same_Some (rated rate x g) e is)

module _ (plant : Plant) (parents : Parents) (demand : Demand) (way : FrameWay) (known : IsFrameWay plant parents demand way)
    (rate : Rate) (offsets : List ℕ) (plan : FramePlan) (is : IsPlacedPlan way rate offsets plan) where
  rated_entry : (device x : ℕ) (g : Entry) → IsEntryOf plant parents demand 1 1 device g → IsEntryOf plant parents demand rate.ratio rate.phase device (rated rate x g)
  rated_entry device x g own = record {
    on = own.on;
    frame = own.frame;
    length = own.length;
    ratio_is = refl;
    phase_is = refl;
    provided = own.provided;
    received = λ from at. let got = own.received from at in record { from_one = got.from_one; leads = got.leads };
    sent = own.sent;
    kept = own.kept;
    small = own.small;
  }

  entry_back : (device : ℕ) (e : Entry) → entry_of plan device ≡ Some e →
      (g : Entry) × (entry_of (base_of way) device ≡ Some g) × (rated rate (offset_at is.kept device) g ≡ e)
  entry_back device e at = placed_back rate (offset_at is.kept device) (entry_of (base_of way) device) e (sym (is.each device) ∙ at)

  each_entry : (device : ℕ) (e : Entry) → entry_of plan device ≡ Some e → IsEntryOf plant parents demand rate.ratio rate.phase device e
  each_entry device e at =
      let (g, there, same) = entry_back device e at in
      subst (IsEntryOf plant parents demand rate.ratio rate.phase device) same
      (rated_entry device (offset_at is.kept device) g (known.shape.each device g there))

  full_entry : (device : ℕ) → IsOn demand parents device → (e : Entry) × (entry_of plan device ≡ Some e)
  full_entry device on =
      let (g, there) = known.shape.full device on in
      (rated rate (offset_at is.kept device) g, is.each device ∙ ap (placed_entry rate (offset_at is.kept device)) there)

  idle_entry : (device : ℕ) (e : Entry) → entry_of plan device ≡ Some e → ¬ IsAnchor (alone plant plan) device e → e.send_offset ≡ 0
  idle_entry device e at idle =
      let (g, there, same) = entry_back device e at in
      let none : (a : Anchor) → Contains way.layout.anchors a → a.device.0 ≢ device =
      λ a listed here.
      let own = known.anchors.only a listed in
      let stands : entry_of (base_of way) device ≡ Some own.e = subst (λ d. entry_of (base_of way) d ≡ Some own.e) here own.stands in
      idle (anchors_alike plant parents demand 1 1 rate.ratio rate.phase device own.e e (known.shape.each device own.e stands) (each_entry device e at)
      (base_of way) plan (subst (λ d. IsAnchor (alone plant (base_of way)) d own.e) here own.starts)) in
      sym (ap (λ (x : Entry). x.send_offset) same) ∙ is.are.else device none

  pub placed_shape : HasShape plant parents demand rate.ratio rate.phase plan
  placed_shape = record {
    frame = is.frame ∙ known.shape.frame;
    count = is.count ∙ known.shape.count;
    each = each_entry;
    full = full_entry;
    idle = idle_entry;
  }

  pub placed_offsets : HasOffsets plant plan offsets
  placed_offsets device e at starts =
      let (g, there, same) = entry_back device e at in
      let low = anchors_alike plant parents demand rate.ratio rate.phase 1 1 device e g (each_entry device e at) (known.shape.each device g there) plan (base_of way) starts in
      let (a, listed, here) = known.anchors.all device g there low in
      sym (ap (λ (x : Entry). x.send_offset) same) ∙ ap (offset_at is.kept) (sym here) ∙ is.are.at a listed ∙ ap (offset_at offsets) here
