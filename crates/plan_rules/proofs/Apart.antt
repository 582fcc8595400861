-- Accepted plans keep frames apart, and out of what is left to parcels.
use Rattle.std.proofs.Common.{◌≡◌, ◌≢◌, ℕ, ◌+◌, ◌*◌, ◌<◌, ◌≤◌, ◌⊎◌, inl, inr, List, Some, sym, ◌∙◌, ap, ap₂, subst, subst₂, arith, slice_get, mul-le-mul_right, All}
use Rattle.std.specs.Prelude.{ℤ, pos, ◌+ℤ◌, ◌≤ℤ◌}
use Rattle.std.proofs.lemmas.Bool.{cases_eq, cases_order}
use Rattle.std.proofs.lemmas.Int.{ints}
use Rattle.std.proofs.lemmas.Option.{same_Some}
use Rattle.irt_base.specs.Cycle.{IsDue, SharesCycle, wire_time, cycle_time, guard_time}
use Rattle.irt_base.specs.Periods.{period_at}
use Rattle.irt_base.specs.declared.blocks.Bundle.{Bundle}
use Rattle.irt_base.specs.declared.blocks.Entry.{Entry}
use Rattle.irt_base.specs.declared.blocks.Period.{Period}
use Rattle.irt_base.specs.declared.blocks.Side.TheVariants.{Tx}
use Rattle.irt_base.specs.declared.plants.Plant.{Plant}
use Rattle.plan_rules.specs.World.{WorldRow, IsInStep}
use Rattle.plan_rules.proofs.StartWindow.{IsInWindow}
use Rattle.plan_rules.specs.World.{IsWithinWindow}
use Rattle.plan_rules.specs.Way.{IsInRange}
use Rattle.plan_rules.specs.SendWindow.{SendWindow}
use Rattle.plan_rules.specs.Occupation.{Occupation, IsOccupation, IsSameSending, IsSameDirection, IsDisjoint}
use Rattle.plan_rules.specs.Expected.{IsFree, NeverCollides, LeavesFree}
use Rattle.plan_rules.specs.Frames.{IsSending, IsBefore}
use Rattle.plan_rules.specs.Plan.{IsPlan, setup_of}
use Rattle.plan_rules.specs.Places.{IsAccepted}
use Rattle.plan_rules.proofs.Kept as kept
use Rattle.plan_rules.proofs.Sendings.{IsOnWire, sent_of, box_of, ends_before_orange}
use Rattle.plan_rules.proofs.Times.{IsInBox, boxes_apart, windows_apart}

swapped : {A B : Type 0} → A ⊎ B → B ⊎ A
swapped (inl a) = inr a
swapped (inr b) = inl b

-- of two frames of one direction that share a cycle, one is before the other by their windows
clear : (plant : Plant) (bundles : List Bundle) → IsAccepted plant bundles → (device port f g : ℕ) (d e : Entry) (v w : SendWindow) → f ≢ g →
    IsSending (setup_of plant bundles) device port f d v → IsSending (setup_of plant bundles) device port g e w →
    SharesCycle d.ratio d.phase e.ratio e.phase → IsBefore plant.window d v w ⊎ IsBefore plant.window e w v
clear plant bundles accepted device port f g d e v w differ first second shared =
    elim (cases_order f g) [
      | inl same ↦ absurd (differ same)
      | inr (inl less) ↦ kept.apart plant bundles accepted (record { device = record { 0 = device }; port = port; frame = f; other = g }) d e v w less first second shared
      | inr (inr more) ↦
          swapped (kept.apart plant bundles accepted (record { device = record { 0 = device }; port = port; frame = g; other = f }) e d w v more second first
          (shared.0, shared.2, shared.1))
    ]

-- by their windows, the first frame is off the wire before the second one starts
follows : (plant : Plant) (bundles : List Bundle) (p q : WorldRow) (d e : Entry) (a b : Occupation) → (s : IsOnWire plant bundles p d a) → (t : IsOnWire plant bundles q e b) →
    p ≡ q → a.cycle ≡ b.cycle → IsBefore plant.window d s.window t.window → a.end ≤ℤ b.start
follows plant bundles p q d e a b s t rows cycles before =
    let again = subst₂ (λ n (r : WorldRow). IsInWindow b.start (pos (n * cycle_time plant.factor)) (r.error t.window.anchor) (pos t.window.lo) (pos t.window.hi)) (sym cycles) (sym rows) t.inside in
    let off = subst (λ (r : WorldRow). IsInStep plant r t.window.anchor) (sym rows) t.anchor_in_step in
    subst (λ x. x ≤ℤ b.start) (sym s.ends)
    (windows_apart plant.window (a.cycle * cycle_time plant.factor) s.window.lo s.window.hi t.window.lo t.window.hi (wire_time d.data_length) s.window.anchor
    t.window.anchor p.error a.start b.start s.inside again s.anchor_in_step off before)

-- two frames of one cycle and direction
same_cycle : (plant : Plant) (bundles : List Bundle) → IsAccepted plant bundles → (p q : WorldRow) (d e : Entry) (a b : Occupation) →
    (s : IsOnWire plant bundles p d a) → (t : IsOnWire plant bundles q e b) → p ≡ q → a.cycle ≡ b.cycle → IsDue a.cycle d.ratio d.phase → IsDue b.cycle e.ratio e.phase →
    a.frame ≢ b.frame → IsSameDirection a b → IsDisjoint a b
same_cycle plant bundles accepted p q d e a b s t rows cycles due also differ direction =
    let second = subst₂ (λ n m. IsSending (setup_of plant bundles) n m b.frame e t.window) (sym direction.device) (sym direction.port) t.sending in
    let due_here : IsDue a.cycle e.ratio e.phase = subst (λ n. IsDue n e.ratio e.phase) (sym cycles) also in
    let shared : SharesCycle d.ratio d.phase e.ratio e.phase = (a.cycle, due, due_here) in
    elim (clear plant bundles accepted a.device a.port a.frame b.frame d e s.window t.window differ s.sending second shared) [
      | inl before ↦ inl (follows plant bundles p q d e a b s t rows cycles before)
      | inr after ↦ inr (follows plant bundles q p e d b a t s (sym rows) (sym cycles) after)
    ]

pair_apart : (plant : Plant) (bundles : List Bundle) → IsPlan plant bundles → IsAccepted plant bundles → (world : List WorldRow) →
    All (IsInRange (setup_of plant bundles)) world → (a b : Occupation) → IsOccupation (setup_of plant bundles) world a →
    IsOccupation (setup_of plant bundles) world b → ¬ IsSameSending a b → IsSameDirection a b → IsDisjoint a b
pair_apart plant bundles plan accepted world ranges a b p q differ direction =
    let s = sent_of plant bundles plan accepted world ranges a p in
    let t = sent_of plant bundles plan accepted world ranges b q in
    let first = box_of plant bundles p.row p.entry a s in
    let second = box_of plant bundles q.row q.entry b t in
    elim (cases_order a.cycle b.cycle) [
      | inr (inl before) ↦ inl (boxes_apart (cycle_time plant.factor) plant.window a.cycle b.cycle a.start a.end b.start b.end first second before)
      | inr (inr after) ↦ inr (boxes_apart (cycle_time plant.factor) plant.window b.cycle a.cycle b.start b.end a.start a.end second first after)
      | inl same ↦ elim (cases_eq a.frame b.frame) [
        | inl equal ↦ absurd (differ (record { cycle = same; device = direction.device; port = direction.port; frame = equal }))
        | inr other ↦
            let rows : p.row ≡ q.row = same_Some p.row q.row (sym p.in_cycle ∙ ap (slice_get world) same ∙ q.in_cycle) in
            same_cycle plant bundles accepted p.row q.row p.entry q.entry a b s t rows same p.due q.due other direction
      ]
    ]

pub never_collides : (plant : Plant) (bundles : List Bundle) → IsPlan plant bundles → IsAccepted plant bundles → (world : List WorldRow) →
    All (IsInRange (setup_of plant bundles)) world → NeverCollides plant bundles world
never_collides plant bundles plan accepted world ranges rows are =
    λ i j d first second direction.
    pair_apart plant bundles plan accepted world ranges _ _ (are.each i d (omega arith)) (are.each j d second) (are.once i j d first second) direction

-- a stretch that is left to parcels, in plain numbers
pub record IsOpen (period window k orange : ℕ) (error from until : ℤ) : Type 0 where
  pub off : IsWithinWindow error (pos window)
  pub opens : (pos (k * period + orange) +ℤ error) ≤ℤ from
  pub closes : (until +ℤ pos (guard_time window)) ≤ℤ (pos ((k + 1) * period) +ℤ error)

open_of : (plant : Plant) (bundles : List Bundle) (world : List WorldRow) (device port : ℕ) (from until : ℤ) → (f : IsFree plant bundles world device port from until) →
    IsOpen (cycle_time plant.factor) plant.window f.cycle f.tx.orange (f.row.error device) from until
open_of plant bundles world device port from until f = record { off = f.in_step; opens = f.opens; closes = f.closes }

earlier_frame : (period window j k orange : ℕ) (error s e from until : ℤ) → IsInBox period window j s e → IsOpen period window k orange error from until →
    j < k → e ≤ℤ from
earlier_frame period window j k orange error s e from until box free before =
    let next : (j + 1) * period ≤ k * period = mul-le-mul_right period (omega arith) in
    omega (arith, ints)

later_frame : (period window j k orange : ℕ) (error s e from until : ℤ) → IsInBox period window j s e → IsOpen period window k orange error from until →
    k < j → until ≤ℤ s
later_frame period window j k orange error s e from until box free after =
    let next : (k + 1) * period ≤ j * period = mul-le-mul_right period (omega arith) in
    omega (arith, ints)

-- a frame of the cycle itself is over when its orange period begins
frame_before : (period window k orange red : ℕ) (error e from until : ℤ) → e ≤ℤ (pos (k * period + red) +ℤ error) → red ≡ orange →
    IsOpen period window k orange error from until → e ≤ℤ from
frame_before period window k orange red error e from until ends same free = omega (arith, ints)

-- the sender's period of a cycle is one
one_period : (plant : Plant) (bundles : List Bundle) (world : List WorldRow) (row : WorldRow) (e : Entry) (o : Occupation) (from until : ℤ) →
    (s : IsOnWire plant bundles row e o) → (f : IsFree plant bundles world o.device o.port from until) → o.cycle ≡ f.cycle → s.cycle.tx.orange ≡ f.tx.orange
one_period plant bundles world row e o from until s f same =
    let blocks : s.blocks.bundle ≡ f.bundle = same_Some s.blocks.bundle f.bundle (sym s.blocks.held ∙ f.held) in
    let here : period_at f.bundle.periods o.port f.cycle Tx ≡ Some s.cycle.tx =
    ap₂ (λ (b : Bundle) (n : ℕ). period_at b.periods o.port n Tx) (sym blocks) (sym same) ∙ s.cycle.sends in
    ap (λ (p : Period). p.orange) (same_Some s.cycle.tx f.tx (sym here ∙ f.sends))

pub leaves_free : (plant : Plant) (bundles : List Bundle) → IsPlan plant bundles → IsAccepted plant bundles → (world : List WorldRow) →
    All (IsInRange (setup_of plant bundles)) world → LeavesFree plant bundles world
leaves_free plant bundles plan accepted world ranges o from until is f =
    let s = sent_of plant bundles plan accepted world ranges o is in
    let box = box_of plant bundles is.row is.entry o s in
    let free = open_of plant bundles world o.device o.port from until f in
    elim (cases_order o.cycle f.cycle) [
      | inr (inl before) ↦
          inl (earlier_frame (cycle_time plant.factor) plant.window o.cycle f.cycle f.tx.orange (f.row.error o.device) o.start o.end from until box free before)
      | inr (inr after) ↦
          inr (later_frame (cycle_time plant.factor) plant.window o.cycle f.cycle f.tx.orange (f.row.error o.device) o.start o.end from until box free after)
      | inl same ↦
          let rows : is.row ≡ f.row = same_Some is.row f.row (sym is.in_cycle ∙ ap (slice_get world) same ∙ f.in_cycle) in
          let ends = subst₂ (λ n (r : WorldRow). o.end ≤ℤ (pos (n * cycle_time plant.factor + s.cycle.tx.orange) +ℤ r.error o.device)) same rows
          (ends_before_orange plant bundles is.row is.entry o s) in
          inl (frame_before (cycle_time plant.factor) plant.window f.cycle f.tx.orange s.cycle.tx.orange (f.row.error o.device) o.end from until ends
          (one_period plant bundles world is.row is.entry o from until s f same) free)
    ]
