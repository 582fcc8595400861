-- What the deliveries of a segment tell.
use Rattle.std.proofs.Common.{◌≡◌, ◌≢◌, ◌↔◌, ◌==◌, ◌<◌, ◌≤◌, ◌⊎◌, ℕ, Bool, true, false, List, [], ◌∷◌, ◌++◌, drop, length, Option, Some, None, position, slice_get, get_or, cond, nat_lt, inl, inr, refl, sym, ◌∙◌, ap, subst, arith, eqb-true, eq-eqb, lt-ltb}
use Rattle.std.specs.Prelude.{ℤ}
use Rattle.std.specs.List.{All, AllPairs, Contains, position_or_len}
use Rattle.std.proofs.Math.Seq.{drop-append_seam}
use Rattle.std.proofs.lemmas.Int.{ints}
use Rattle.std.proofs.lemmas.List.Quantifiers.{position-Some}
use Rattle.std.proofs.lemmas.List.Sums.{position_or_len_is}
use Rattle.std.proofs.lemmas.Option.{get_or_from_slice_get, same_Some, slice_get_cases, slice_get-get_or, slice_get_within}
use Rattle.cycle_events.proofs.Worklist.{Contains-flat_map, from_flat_map}
use Rattle.cycle_frames.specs.Came.{HaveCome}
use Rattle.cycle_frames.specs.declared.came.Came.{Came}
use Rattle.cycle_events.proofs.Lists.{only_one}
use Rattle.cycle_rows.proofs.Lists.{nothing, Contains-here, all_of}
use Rattle.cycle_rows.specs.Journal.{IsSegment}
use Rattle.cycle_rows.specs.Order.{IsRowBefore}
use Rattle.cycle_rows.specs.declared.rows.JournalRow.{JournalRow}
use Rattle.cycle_rows.specs.declared.rows.JournalRow.TheVariants.{Occupy, Deliver, Missed, Sent, Refused, Lost, Came as came_row}
use Rattle.irt_base.specs.declared.blocks.Bundle.{Bundle}
use Rattle.irt_base.specs.declared.numbers.DevId.{DevId}
use Rattle.irt_base.specs.declared.numbers.FrameId.{FrameId}
use Rattle.irt_base.specs.declared.plants.Demand.{Demand}
use Rattle.irt_base.specs.declared.plants.Plant.{Plant}
use Rattle.irt_net.specs.Came.{came_at, came_in, came_of, demand_place}
use Rattle.parcel_rules.proofs.Lists.{Across, AllPairs-flat_map}
use Rattle.plan_rules.specs.Once.{HasToReach, ReachesExactly}
use Rattle.plan_rules.specs.Plan.{IsPlan, setup_of}
use Rattle.plan_rules.specs.World.{WorldRow}
use Rattle.plant_rules.specs.Meets.{MeetsRules}
use Rattle.fit_rules.proofs.Finding.{frames_place}

-- what was put behind a list, once the list is dropped
pub dropped : {A : Type 0} (n : ℕ) (old rows part : List A) → n ≡ length old → rows ≡ old ++ part → drop n rows ≡ part
dropped n old rows part place whole = ap (drop n) whole ∙ ap (λ m. drop m (old ++ part)) place ∙ drop-append_seam old part

-- the delivery by which something came
pub record IsTold (plant : Plant) (rows : List JournalRow) (c : Came) : Type 0 where
  pub k : ℕ
  pub f : FrameId
  pub end : ℤ
  pub stands : Contains rows (Deliver k c.device f end)
  pub place : demand_place plant f.0 ≡ Some c.demand

told_at : (d : DevId) (o : Option ℕ) (c : Came) → Contains (came_at d o) c → (c.device ≡ d) × (o ≡ Some c.demand)
told_at d None c is = absurd (nothing c is)
told_at d (Some number) c is =
    let one = only_one (record { device = d; demand = number }) c is in
    (sym (ap (λ (x : Came). x.device) one), ap (λ (x : Came). Some x.demand) one)

-- a row by which something came is a delivery
pub record IsDeliveryOf (plant : Plant) (r : JournalRow) (c : Came) : Type 0 where
  pub k : ℕ
  pub f : FrameId
  pub end : ℤ
  pub is : r ≡ Deliver k c.device f end
  pub place : demand_place plant f.0 ≡ Some c.demand

delivery_of : (plant : Plant) (r : JournalRow) (c : Came) → Contains (came_of plant r) c → IsDeliveryOf plant r c
delivery_of plant (Occupy k d p f start end) c is = absurd (nothing c is)
delivery_of plant (Deliver k d f end) c is =
    let (device, place) = told_at d (demand_place plant f.0) c is in
    record { k = k; f = f; end = end; is = ap (λ (x : DevId). Deliver k x f end) (sym device); place = place }
delivery_of plant (Missed k d f) c is = absurd (nothing c is)
delivery_of plant (Sent k d p traffic serial start end) c is = absurd (nothing c is)
delivery_of plant (Refused k d p traffic serial) c is = absurd (nothing c is)
delivery_of plant (Lost k d p traffic serial) c is = absurd (nothing c is)
delivery_of plant (came_row k d traffic serial) c is = absurd (nothing c is)

told : (plant : Plant) (rows : List JournalRow) (c : Came) → Contains (came_in plant rows) c → IsTold plant rows c
told plant rows c is =
    let (r, stands, here) = from_flat_map (came_of plant) rows c is in
    let by = delivery_of plant r c here in
    record { k = by.k; f = by.f; end = by.end; stands = subst (Contains rows) by.is stands; place = by.place }

-- ---- places of demands

within_of : (frame n : ℕ) (xs : List Demand) → position (λ (d : Demand). d.frame.0 == frame) xs ≡ Some n → n < length xs
within_of frame n [] is = absurd (cc)
within_of frame n (x ∷ xs) is = (position-Some (λ (d : Demand). d.frame.0 == frame) (x ∷ xs) n x is).0

-- the demand at the place is of the frame
pub placed : (plant : Plant) (frame n : ℕ) → demand_place plant frame ≡ Some n → (d : Demand) × (slice_get plant.demands n ≡ Some d) × (d.frame.0 ≡ frame)
placed plant frame n is =
    let within = within_of frame n plant.demands is in
    go (slice_get_cases plant.demands n).1 within
  where
    go : ((x : Demand) × (n < length plant.demands) × (slice_get plant.demands n ≡ Some x) × (get_or plant.demands n x ≡ x)) ⊎
        ((length plant.demands ≤ n) × (slice_get plant.demands n ≡ None)) → n < length plant.demands →
        (d : Demand) × (slice_get plant.demands n ≡ Some d) × (d.frame.0 ≡ frame)
    go (inl (x, below, at, same)) within =
        let (_, passes, _) = position-Some (λ (d : Demand). d.frame.0 == frame) plant.demands n x is in
        (x, at, eqb-true x.frame.0 frame (subst (λ (y : Demand). (y.frame.0 == frame) ≡ true) same passes))
    go (inr (past, none)) within = absurd (omega arith)

-- a demand's frame has the demand's place
pub place_of : (plant : Plant) → MeetsRules plant → (n : ℕ) (d : Demand) → slice_get plant.demands n ≡ Some d → demand_place plant d.frame.0 ≡ Some n
place_of plant rules n d at =
    let within = slice_get_within plant.demands n d at in
    let place : position_or_len asks plant.demands ≡ n = position_or_len_is asks plant.demands n d (omega arith) before (λ below. here) in
    ap (λ (m : ℕ). cond (nat_lt m (length plant.demands)) (Some m) None) place
    ∙ ap (λ (b : Bool). cond b (Some n) None) (lt-ltb n (length plant.demands) within)
  where
    asks : Demand → Bool
    asks e = e.frame.0 == d.frame.0

    here : asks (get_or plant.demands n d) ≡ true
    here = eq-eqb _ _ (ap (λ (e : Demand). e.frame.0) (get_or_from_slice_get plant.demands n d d at))

    before : (k : ℕ) → k < n → asks (get_or plant.demands k d) ≡ false
    before k below = go (asks (get_or plant.demands k d)) refl
      where
        go : (b : Bool) → asks (get_or plant.demands k d) ≡ b → asks (get_or plant.demands k d) ≡ false
        go false is = is
        go true is =
            let within = slice_get_within plant.demands n d at in
            let place = frames_place plant.demands rules.frames_differ k n (get_or plant.demands k d) d
            (slice_get-get_or plant.demands k d (omega arith)) at (eqb-true _ _ is) in
            absurd (omega arith)

-- ---- a segment

module _ (plant : Plant) (bundles : List Bundle) (plan : IsPlan plant bundles) (world : List WorldRow) (k : ℕ) (rows : List JournalRow)
    (segment : IsSegment (setup_of plant bundles) world k rows) (reaches : ReachesExactly (setup_of plant bundles) world) where
  come_differ : (x y : JournalRow) → IsRowBefore x y → Across (λ (a b : Came). a ≢ b) (came_of plant x) (came_of plant y)
  come_differ x y before =
      all_of (λ (a : Came). All (λ (b : Came). a ≢ b) (came_of plant y)) (came_of plant x) (λ a first.
      all_of (λ (b : Came). a ≢ b) (came_of plant y) (λ b second.
      λ same. two (delivery_of plant x a first) (delivery_of plant y b second) before same))
    where
      not_before : (k l : ℕ) (d e : DevId) (f g : FrameId) (s t : ℤ) → d.0 ≡ e.0 → f.0 ≡ g.0 → IsRowBefore (Deliver k d f s) (Deliver l e g t) → ⊥
      not_before k l d e f g s t devices frames (inl less) = omega arith
      not_before k l d e f g s t devices frames (inr (_, inl less)) = omega arith
      not_before k l d e f g s t devices frames (inr (_, inr (_, inl less))) = omega arith
      not_before k l d e f g s t devices frames (inr (_, inr (_, inr (_, less)))) = omega (arith, ints)

      two : {a b : Came} → (p : IsDeliveryOf plant x a) → (q : IsDeliveryOf plant y b) → IsRowBefore x y → a ≡ b → ⊥
      two {a} {b} p q before same =
          let (d, at, named) = placed plant p.f.0 a.demand p.place in
          let (e, there, called) = placed plant q.f.0 b.demand q.place in
          let one : d ≡ e = same_Some d e (sym at ∙ ap (λ (c : Came). slice_get plant.demands c.demand) same ∙ there) in
          let frames : p.f.0 ≡ q.f.0 = sym named ∙ ap (λ (z : Demand). z.frame.0) one ∙ called in
          let devices : a.device.0 ≡ b.device.0 = ap (λ (c : Came). c.device.0) same in
          let earlier = subst (λ (r : JournalRow). IsRowBefore r (Deliver q.k b.device q.f q.end)) p.is (subst (IsRowBefore x) q.is before) in
          not_before p.k q.k a.device b.device p.f q.f p.end q.end devices frames earlier

  came_each : (c : Came) (d : Demand) → slice_get plant.demands c.demand ≡ Some d →
      Contains (came_in plant rows) c ↔ HasToReach (setup_of plant bundles) world k c.device.0 d.frame.0
  came_each c d at = (there, back)
    where
      there : Contains (came_in plant rows) c → HasToReach (setup_of plant bundles) world k c.device.0 d.frame.0
      there is =
          let by = told plant rows c is in
          let (e, here, named) = placed plant by.f.0 c.demand by.place in
          let one : e ≡ d = same_Some e d (sym here ∙ at) in
          let (cycle, delivered) = (segment.exactly (Deliver by.k c.device by.f by.end)).0 by.stands in
          let reached = reaches.only _ delivered in
          subst (λ (n : ℕ). HasToReach (setup_of plant bundles) world n c.device.0 d.frame.0) cycle
          (subst (λ (n : ℕ). HasToReach (setup_of plant bundles) world by.k c.device.0 n) (sym named ∙ ap (λ (z : Demand). z.frame.0) one) reached)

      back : HasToReach (setup_of plant bundles) world k c.device.0 d.frame.0 → Contains (came_in plant rows) c
      back reach =
          let one = reaches.reached k c.device.0 d.frame.0 reach in
          let stands = (segment.exactly (Deliver k c.device d.frame one.one)).1 (refl, one.is) in
          Contains-flat_map (came_of plant) rows (Deliver k c.device d.frame one.one) c stands
          (subst (λ (o : Option ℕ). Contains (came_at c.device o) c) (sym (place_of plant plan.rules c.demand d at)) (Contains-here c []))

  pub have_come : HaveCome (setup_of plant bundles) world k (came_in plant rows)
  have_come = record {
    once = AllPairs-flat_map (λ (a b : Came). a ≢ b) IsRowBefore (came_of plant) rows segment.order (λ r. lonely r) come_differ;
    demanded = λ c is. let by = told plant rows c is in let (d, at, _) = placed plant by.f.0 c.demand by.place in (d, at);
    each = came_each;
  }
    where
      few : (r : JournalRow) → length (came_of plant r) ≤ 1
      few (Occupy k d p f start end) = omega arith
      few (Deliver k d f end) = at (demand_place plant f.0)
        where
          at : (o : Option ℕ) → length (came_at d o) ≤ 1
          at None = omega arith
          at (Some n) = omega arith
      few (Missed k d f) = omega arith
      few (Sent k d p traffic serial start end) = omega arith
      few (Refused k d p traffic serial) = omega arith
      few (Lost k d p traffic serial) = omega arith
      few (came_row k d traffic serial) = omega arith

      short : (xs : List Came) → length xs ≤ 1 → AllPairs (λ (a b : Came). a ≢ b) xs
      short xs few = λ i j d before below. absurd (omega arith)

      lonely : (r : JournalRow) → AllPairs (λ (a b : Came). a ≢ b) (came_of plant r)
      lonely r = short (came_of plant r) (few r)
