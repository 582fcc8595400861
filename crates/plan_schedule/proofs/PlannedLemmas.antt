-- By when a frame is received, by its ways.
use Rattle.std.proofs.Common.{◌≡◌, inl, inr, ℕ, ◌+◌, ◌<◌, ◌≤◌, List, Some, None, length, get_or, slice_get, refl, sym, ◌∙◌, ap, subst, arith}
use Rattle.std.proofs.lemmas.Option.{none-some, same_Some, slice_get_within, slice_get-get_or}
use Rattle.irt_base.specs.Cycle.{wire_time}
use Rattle.irt_base.specs.Wiring.{hop_of}
use Rattle.irt_base.specs.declared.blocks.Bundle.{Bundle}
use Rattle.irt_base.specs.declared.blocks.Entry.{Entry}
use Rattle.irt_base.specs.declared.plants.Plant.{Plant}
use Rattle.fit_rules.specs.Blocks.{IsGreatest}
use Rattle.fit_rules.specs.Printed.{IsPlannedSomewhere}
use Rattle.irt_window.proofs.Places.{at_placed}
use Rattle.irt_window.specs.Plans.{Stands}
use Rattle.plan_rules.specs.Arrival.{IsPlanned}
use Rattle.plan_rules.specs.Plan.{setup_of}
use Rattle.plan_rules.specs.SendWindow.{SendWindow, HasWindow}
use Rattle.plan_rules.specs.Way.{Setup, entry_at, IsParent}
use Rattle.plan_rules.specs.Ways.{AreWays, IsWay}
use Rattle.plan_rules.specs.declared.way.Way.{Way}
use Rattle.plan_schedule.specs.Greatest.{IsAnyBelow}
use Rattle.plan_schedule.proofs.GreatestLemmas.{greatest_as}

-- the way beside an entry
pub way_here : (plant : Plant) (bundles : List Bundle) (ways : List (List Way)) (row other : List Way) (device place : ℕ) (d : Way) (e : Entry) → AreWays plant bundles ways →
    row ≡ get_or ways device other → Stands bundles device place e → IsWay (setup_of plant bundles) device e (get_or row place d)
way_here plant bundles ways row other device place d e are is stands =
    let inside : device < length ways = omega (arith, are.count, slice_get_within bundles device stands.bundle stands.held) in
    let there : slice_get ways device ≡ Some row = slice_get-get_or ways device other inside ∙ ap Some (sym is) in
    let own = are.each device stands.bundle row stands.held there in
    let within : place < length row = omega (arith, own.count, slice_get_within stands.bundle.frames.entries place e stands.item) in
    own.each place e (get_or row place d) stands.item (slice_get-get_or row place d within)

-- a device without an entry of a frame receives none
pub none_planned : (setup : Setup) (device frame : ℕ) → entry_at setup device frame ≡ None → IsGreatest (IsPlanned setup device frame) 0
none_planned setup device frame none =
    record { bound = λ x p. absurd (none-some p.e (sym none ∙ p.stands)); some = inr (refl, λ x p. absurd (none-some p.e (sym none ∙ p.stands))) }

-- its provider receives none either
pub provided_planned : (setup : Setup) (device frame : ℕ) (e : Entry) → entry_at setup device frame ≡ Some e → e.rx_port ≡ 0 → IsGreatest (IsPlanned setup device frame) 0
provided_planned setup device frame e stands own = record { bound = λ x p. absurd (never p.e (same p.e p.stands) p.comes.received); some = inr (refl, λ x p. never p.e (same p.e p.stands) p.comes.received) }
  where
    same : (d : Entry) → entry_at setup device frame ≡ Some d → d ≡ e
    same d is = same_Some d e (sym is ∙ stands)

    never : (d : Entry) → d ≡ e → 1 ≤ d.rx_port → ⊥
    never d is received = omega (arith, ap (λ (x : Entry). x.rx_port) is, own)

-- at a device that a frame comes to, by the way
module _
    (setup : Setup)
    (parents : (frame device : ℕ) (e : Entry) (u p v q : ℕ) → IsParent setup frame device e u p → IsParent setup frame device e v q → (u ≡ v) × (p ≡ q))
    (windows : (frame device : ℕ) (v w : SendWindow) → HasWindow setup frame device v → HasWindow setup frame device w → v ≡ w)
  where
    one_planned : (device frame x y : ℕ) → IsPlanned setup device frame x → IsPlanned setup device frame y → x ≡ y
    one_planned device frame x y a b =
        let entries : a.e ≡ b.e = same_Some a.e b.e (sym a.stands ∙ b.stands) in
        let both = parents frame device a.e a.parent a.port b.parent b.port a.comes
        (subst (λ (e : Entry). IsParent setup frame device e b.parent b.port) (sym entries) b.comes) in
        let hops : a.hop ≡ b.hop = same_Some a.hop b.hop (sym a.hops ∙ (λ i. hop_of setup.plant (both.0 i) (both.1 i)) ∙ b.hops) in
        let sends : a.window ≡ b.window = windows frame b.parent a.window b.window (subst (λ d. HasWindow setup frame d a.window) both.0 a.sends) b.sends in
        a.is ∙ (λ i. (sends i).hi + hops i + wire_time (entries i).data_length + setup.plant.window) ∙ sym b.is

    pub planned_on : (device frame : ℕ) (e : Entry) (way : Way) (planned : ℕ) → entry_at setup device frame ≡ Some e → e.frame.0 ≡ frame → 1 ≤ e.rx_port →
        IsWay setup device e way → planned ≡ way.latest + wire_time e.data_length + setup.plant.window → IsGreatest (IsPlanned setup device frame) planned
    planned_on device frame e way planned stands named received is_way is =
        let coming = is_way.coming received in
        let p : IsPlanned setup device frame planned = record {
          e = e;
          parent = way.parent.0;
          port = way.port.0;
          hop = coming.hop;
          window = coming.window;
          stands = stands;
          comes = subst (λ f. IsParent setup f device e way.parent.0 way.port.0) named coming.comes;
          hops = coming.hops;
          sends = subst (λ f. HasWindow setup f way.parent.0 coming.window) named coming.sends;
          is = is ∙ ap (λ l. l + wire_time e.data_length + setup.plant.window) coming.latest;
        } in
        record { bound = λ x q. omega (arith, one_planned device frame x planned q p); some = inl p }

-- all receivers are among the devices that have bundles
pub planned_all : (plant : Plant) (bundles : List Bundle) (frame count last : ℕ) → length bundles ≤ count →
    IsGreatest (IsAnyBelow (λ device planned. IsPlanned (setup_of plant bundles) device frame planned) count) last →
    IsGreatest (IsPlannedSomewhere (setup_of plant bundles) frame) last
planned_all plant bundles frame count last all greatest =
    greatest_as (IsAnyBelow (λ device planned. IsPlanned (setup_of plant bundles) device frame planned) count) (IsPlannedSomewhere (setup_of plant bundles) frame) last
    (λ x any. (any.0, any.2))
    (λ x some.
    let placed = at_placed plant bundles some.0 frame some.1.e some.1.stands in
    (some.0, omega (arith, slice_get_within bundles some.0 placed.stands.bundle placed.stands.held), some.1))
    greatest
