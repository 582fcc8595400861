-- A plan is fitted in a phase exactly where its offsets are those that a placement finds.
use Rattle.std.proofs.Common.{◌≡◌, ℕ, zero, suc, ◌+◌, ◌≤◌, inl, List, [], ◌∷◌, Option, Some, None, sym, ◌∙◌, ap, subst, arith, refl}
use Rattle.std.specs.Prelude.{◌↔◌, Contains, map, slice_index_or}
use Rattle.std.proofs.lemmas.Option.{slice_get_within}
use Rattle.irt_base.specs.Cycle.{wire_time}
use Rattle.irt_base.specs.Valid.{IsRate}
use Rattle.irt_base.specs.declared.blocks.Entry.{Entry}
use Rattle.irt_base.specs.declared.plants.Demand.{Demand}
use Rattle.irt_base.specs.declared.plants.Plant.{Plant}
use Rattle.irt_route.specs.Routes.{RouteTables, IsRoutesOf}
use Rattle.plan_rules.specs.SendWindow.{SendWindow, slack_time}
use Rattle.plan_rules.specs.Way.{entry_at, IsAnchor}
use Rattle.fit_rules.specs.declared.frame_plan.FramePlan.{FramePlan}
use Rattle.fit_rules.specs.Fit.{IsLeastFrom, IsClearAt, IsReady, IsFitted, IsInPhase, IsLastEnd, IsFirstFit, HasNoFit, end_time}
use Rattle.fit_rules.specs.Moves.{offset_at}
use Rattle.fit_rules.specs.Order.{IsDemandAt, parents_of}
use Rattle.fit_rules.specs.Shape.{alone, entry_of, IsRatioFor, HasShape}
use Rattle.gap_table.specs.declared.slot.Slot.{Slot}
use Rattle.placement.specs.Layouts.{offset_at as offset_in, ready_after, end_of}
use Rattle.placement.specs.Placings.{IsOpen, ArePlaced, IsEnd, IsBestBelow, HasNoneBelow, rate_of}
use Rattle.placement.specs.declared.layout.After.{After}
use Rattle.placement.specs.declared.layout.Anchor.{Anchor}
use Rattle.placement.specs.declared.layout.Sending.{Sending}
use Rattle.placement.specs.declared.phases.Placing.{Placing}
use Rattle.frame_ways.specs.FrameWays.{base_of, IsStartedAfter, IsFrameWay}
use Rattle.frame_ways.specs.declared.frame_way.FrameWay.{FrameWay}
use Rattle.planner.specs.Placed.{limits_of, HoldsPlans}
use Rattle.planner.proofs.Laws.{FitLaws}
use Rattle.planner.proofs.Entries.{no_item, contains_at, place_of}
use Rattle.planner.proofs.Rooms.{AreRated, open_of, roomy_of}
use Rattle.planner.proofs.Windows.{own_alike, HasOffsets, IsSentSo, stands_in, entry_in_plan, base_anchor, plan_anchor, hangs_base, sent_so, sends_so}

least_alike : (P Q : ℕ → Type 0) → ((x : ℕ) → P x ↔ Q x) → (from begin x y : ℕ) → from ≡ begin → x ≡ y → IsLeastFrom P from x → IsLeastFrom Q begin y
least_alike P Q alike from begin x y one same is = record {
  reached = omega (arith, is.reached);
  holds = subst Q same ((alike x).0 is.holds);
  least = λ z reached before holds. is.least z (omega arith) (omega arith) ((alike z).1 holds);
}

flip : (P Q : Type 0) → P ↔ Q → Q ↔ P
flip P Q (there, back) = (back, there)

offset_or : Option Entry → ℕ
offset_or None = 0
offset_or (Some e) = e.send_offset

-- the offsets of a plan's entries
pub offsets_of : FramePlan → List ℕ
offsets_of plan = map offset_or plan.entries

read_offset : (entries : List (Option Entry)) (device : ℕ) (e : Entry) → slice_index_or entries device None ≡ Some e →
    e.send_offset ≡ slice_index_or (map offset_or entries) device 0
unfolding offset_or
read_offset [] device e is = no_item e is
read_offset (x ∷ rest) zero e is = sym (ap offset_or is)
read_offset (x ∷ rest) (suc device) e is = read_offset rest device e is

pub own_offsets : (plant : Plant) (plan : FramePlan) → HasOffsets plant plan (offsets_of plan)
unfolding offsets_of
own_offsets plant plan device e is starts = read_offset plan.entries device e is

module _ (laws : FitLaws) (plant : Plant) (routes : RouteTables) (index : ℕ) (demand : Demand) (are : IsRoutesOf plant routes)
    (at : IsDemandAt plant index demand) (way : FrameWay) (known : IsFrameWay plant (parents_of routes index) demand way)
    (placed : List FramePlan) (rated : AreRated placed) (tables : List (List Slot)) (holds : HoldsPlans plant placed tables) where
  module _ (ratio phase : ℕ) (rate : IsRate ratio phase) (plan : FramePlan) (shape : HasShape plant (parents_of routes index) demand ratio phase plan)
      (offsets : List ℕ) (has : HasOffsets plant plan offsets) where
    clear_open : (device : ℕ) (e : Entry) → entry_of plan device ≡ Some e → IsAnchor (alone plant plan) device e → (x : ℕ) →
        IsClearAt plant placed plan device x ↔ IsOpen (limits_of plant) (rate_of ratio phase) way.layout tables device x
    clear_open device e is starts x =
        let law = laws.clear plant (parents_of routes index) demand 1 1 (base_of way) known.shape known.zero ratio phase plan shape device x e is starts placed in (
          λ clear. open_of plant (parents_of routes index) demand way known ratio phase placed tables holds x device (law.0 clear),
          λ fits. law.1 (roomy_of plant (parents_of routes index) demand way known ratio phase placed tables holds x rate rated device fits),
        )

    ready_by : (device : ℕ) (e g : Entry) → entry_of plan device ≡ Some e → entry_of (base_of way) device ≡ Some g → (after : Option After) →
        IsStartedAfter plant (base_of way) device g after → IsReady plant plan device e (ready_after offsets after)
    ready_by device e g is there None own =
        inl (own_alike plant (parents_of routes index) demand 1 1 ratio phase device g e (known.shape.each device g there) (shape.each device e is) own, refl)
    ready_by device e g is there (Some f) (received, after) =
        let hangs = hangs_base laws plant (parents_of routes index) demand way known ratio phase plan shape offsets has after.comes.parent after.w after.comes.sends in
        let offset : offset_at plan f.anchor.0 ≡ Some (offset_in offsets f.anchor.0) = subst (λ a. offset_at plan a ≡ Some (offset_in offsets a)) after.hangs hangs.1 in
        laws.ready plant (parents_of routes index) demand 1 1 (base_of way) known.shape known.zero ratio phase plan shape device f.anchor.0 f.gap
        (offset_in offsets f.anchor.0) e is after offset

    ready_at : (a : Anchor) → Contains way.layout.anchors a → (e : Entry) → entry_of plan a.device.0 ≡ Some e →
        IsReady plant plan a.device.0 e (ready_after offsets a.after)
    ready_at a listed e is = let own = known.anchors.only a listed in ready_by a.device.0 e own.e is own.stands a.after own.after

    fitted_at : ArePlaced (limits_of plant) (rate_of ratio phase) way.layout tables offsets → (a : Anchor) → Contains way.layout.anchors a →
        (e : Entry) → entry_of plan a.device.0 ≡ Some e → IsAnchor (alone plant plan) a.device.0 e → IsFitted plant placed plan a.device.0 e
    fitted_at all a listed e is starts =
        let (n, there) = place_of way.layout.anchors a listed in
        let least = all n a (slice_get_within way.layout.anchors n a there) there in record {
          ready = ready_after offsets a.after;
          is_ready = ready_at a listed e is;
          least = least_alike (IsOpen (limits_of plant) (rate_of ratio phase) way.layout tables a.device.0) (IsClearAt plant placed plan a.device.0)
              (λ x. flip _ _ (clear_open a.device.0 e is starts x)) (ready_after offsets a.after) (ready_after offsets a.after)
              (offset_in offsets a.device.0) e.send_offset refl (sym (has a.device.0 e is starts)) least;
        }

    pub fitted_of : ArePlaced (limits_of plant) (rate_of ratio phase) way.layout tables offsets →
        (device : ℕ) (e : Entry) → entry_at (alone plant plan) device plan.frame.0 ≡ Some e →
        IsAnchor (alone plant plan) device e → IsFitted plant placed plan device e
    fitted_of all device e stands starts =
        let is = entry_in_plan laws plant (parents_of routes index) demand way known ratio phase plan shape offsets has device e stands in
        let (g, there, low) = base_anchor laws plant (parents_of routes index) demand way known ratio phase plan shape offsets has device e is starts in
        let (a, listed, same) = known.anchors.all device g there low in
        subst (λ d. IsFitted plant placed plan d e) same (fitted_at all a listed e
        (subst (λ d. entry_of plan d ≡ Some e) (sym same) is) (subst (λ d. IsAnchor (alone plant plan) d e) (sym same) starts))

    pub placed_of : ((device : ℕ) (e : Entry) → entry_at (alone plant plan) device plan.frame.0 ≡ Some e →
        IsAnchor (alone plant plan) device e → IsFitted plant placed plan device e) → ArePlaced (limits_of plant) (rate_of ratio phase) way.layout tables offsets
    placed_of all n a below there =
        let listed = contains_at way.layout.anchors n a there in
        let own = known.anchors.only a listed in
        let (e, is, starts) = plan_anchor laws plant (parents_of routes index) demand way known ratio phase plan shape offsets has a.device.0 own.e own.stands own.starts in
        let fitted = all a.device.0 e (stands_in laws plant (parents_of routes index) demand way known ratio phase plan shape offsets has a.device.0 e is) starts in
        let one = laws.one_ready plant routes index demand are at plan a.device.0 e fitted.ready (ready_after offsets a.after) fitted.is_ready (ready_at a listed e is) in
        least_alike (IsClearAt plant placed plan a.device.0) (IsOpen (limits_of plant) (rate_of ratio phase) way.layout tables a.device.0)
        (clear_open a.device.0 e is starts) fitted.ready (ready_after offsets a.after) e.send_offset (offset_in offsets a.device.0) one (has a.device.0 e is starts) fitted.least

  module _ (ratio phase : ℕ) (plan : FramePlan) (shape : HasShape plant (parents_of routes index) demand ratio phase plan)
      (offsets : List ℕ) (has : HasOffsets plant plan offsets) where
    same_sum : (offset greatest hi wire own same slack also : ℕ) → hi ≡ offset + greatest → wire ≡ same → own ≡ same → slack ≡ also →
        offset + greatest + wire + slack ≡ hi + own + also
    same_sum offset greatest hi wire own same slack also first second third fourth = omega arith

    pub end_is : (device port : ℕ) (e : Entry) (w : SendWindow) (s : Sending) → IsSentSo way demand.length offsets device port e w s →
        end_of (limits_of plant) way.layout.wire s (offset_in offsets s.anchor.0) ≡ end_time plant device e w
    end_is device port e w s so = same_sum (offset_in offsets s.anchor.0) s.greatest w.hi way.layout.wire (wire_time e.data_length) (wire_time demand.length)
        (slack_time plant.window s.device.0 s.anchor.0) (slack_time plant.window device w.anchor) so.hi known.wire (ap wire_time so.long)
        (ap (λ d. slack_time plant.window d s.anchor.0) so.device_is ∙ ap (slack_time plant.window device) so.anchor_is)

    pub end_of_plan : (end : ℕ) → IsLastEnd plant plan end → IsEnd (limits_of plant) way.layout offsets end
    end_of_plan end last = record {
      bound = λ s listed.
          let (e, w, using, so) = sends_so laws plant (parents_of routes index) demand way known ratio phase plan shape offsets has s listed in
          let is = end_is s.device.0 s.port.0 e w s so in
          let below = last.bound s.device.0 s.port.0 e w using in
          subst (λ n. n ≤ end) (sym is) below;
      some =
          let (device, port, e, w, using, is) = last.some in
          let (s, so) = sent_so laws plant (parents_of routes index) demand way known ratio phase plan shape offsets has device port e w using in
          (s, so.has, is ∙ sym (end_is device port e w s so));
    }

    pub last_end_of : (end : ℕ) → IsEnd (limits_of plant) way.layout offsets end → IsLastEnd plant plan end
    last_end_of end last = record {
      bound = λ device port e w using.
          let (s, so) = sent_so laws plant (parents_of routes index) demand way known ratio phase plan shape offsets has device port e w using in
          subst (λ n. n ≤ end) (end_is device port e w s so) (last.bound s so.has);
      some =
          let (s, listed, is) = last.some in
          let (e, w, using, so) = sends_so laws plant (parents_of routes index) demand way known ratio phase plan shape offsets has s listed in
          (s.device.0, s.port.0, e, w, using, is ∙ end_is s.device.0 s.port.0 e w s so);
    }

  module _ (ratio : ℕ) (for : IsRatioFor plant demand ratio) where
    -- a plan in a phase has the offsets of a placement
    other_placed : (phase : ℕ) (plan : FramePlan) → IsInPhase plant (parents_of routes index) placed demand phase plan →
        (1 ≤ phase) × (phase ≤ ratio) × HasShape plant (parents_of routes index) demand ratio phase plan ×
        ArePlaced (limits_of plant) (rate_of ratio phase) way.layout tables (offsets_of plan)
    other_placed phase plan is =
        let one : is.ratio ≡ ratio = laws.one_ratio plant demand is.ratio ratio is.rate for in
        let low = is.among.0 in
        let high = is.among.1 in
        let within : phase ≤ ratio = omega arith in
        let shape = subst (λ r. HasShape plant (parents_of routes index) demand r phase plan) one is.shape in
        (low, within, shape, placed_of ratio phase (for.is, (low, within)) plan shape (offsets_of plan) (own_offsets plant plan) is.fitted)

    pub no_fit : HasNoneBelow (limits_of plant) ratio way.layout tables (ratio + 1) → HasNoFit plant (parents_of routes index) placed demand
    no_fit none phase plan is =
        let (low, high, shape, all) = other_placed phase plan is in
        none phase (offsets_of plan) low (omega arith) all

    pub first_fit : (p : Placing) → IsBestBelow (limits_of plant) ratio way.layout tables (ratio + 1) p → (plan : FramePlan) →
        HasShape plant (parents_of routes index) demand ratio p.phase plan → HasOffsets plant plan p.offsets →
        IsFirstFit plant (parents_of routes index) placed demand plan
    first_fit p best plan shape has =
        let within : p.phase ≤ ratio = omega (arith, best.before) in record {
          phase = p.phase;
          end = p.end;
          is = record {
            ratio = ratio;
            rate = for;
            among = (best.from_one, within);
            shape = shape;
            fitted = fitted_of ratio p.phase (for.is, (best.from_one, within)) plan shape p.offsets has best.placed;
          };
          ends = last_end_of ratio p.phase plan shape p.offsets has p.end best.ends;
          best = λ phase end other is last.
              let (low, high, its, all) = other_placed phase other is in
              best.best phase (offsets_of other) end low (omega arith) all (end_of_plan ratio phase other its (offsets_of other) (own_offsets plant other) end last);
        }
