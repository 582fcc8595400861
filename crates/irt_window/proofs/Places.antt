-- Entries at their places, and who sends to whom.
use Rattle.std.proofs.Common.{◌≡◌, ◌≤◌, ◌==◌, ℕ, inl, inr, List, Option, Some, None, slice_get, All, refl, sym, ◌∙◌, ap, subst, arith}
use Rattle.std.proofs.lemmas.Bool.{eqb-true, cases_lt, cases_eq}
use Rattle.std.proofs.lemmas.Option.{slice_get-map, slice_get_within, get_or_from_slice_get, none-some, same_Some}
use Rattle.irt_base.specs.Valid.{IsBundle}
use Rattle.irt_base.specs.declared.blocks.Bundle.{Bundle}
use Rattle.irt_base.specs.declared.blocks.Entry.{Entry}
use Rattle.irt_base.specs.declared.numbers.DevId.{DevId}
use Rattle.irt_base.specs.declared.numbers.PortNo.{PortNo}
use Rattle.irt_base.specs.declared.plants.Plant.{Plant}
use Rattle.plan_rules.specs.Way.{entry_at, IsParent}
use Rattle.link_index.specs.Index.{peer_in}
use Rattle.plan_rules.specs.Plan.{setup_of, IsPlan}
use Rattle.irt_window.specs.Plans.{IsNet, setup_in, Stands}
use Rattle.irt_window.specs.Parents.{Sends, IsSenderAnswer, IsParentAnswer}
use Rattle.irt_window.specs.Search.{entry_in}
use Rattle.irt_window.specs.declared.net.Net.{Net}
use Rattle.irt_window.specs.declared.links.Parent.{Parent}
use Rattle.irt_window.proofs.Finding.{rising, entry_at_place, find_place}

-- what holds of each bundle holds of one that is held
pub each_bundle : (P : Bundle → Type 0) (bundles : List Bundle) (device : ℕ) (b : Bundle) → All P bundles → slice_get bundles device ≡ Some b → P b
each_bundle P bundles device b all held =
    subst P (get_or_from_slice_get bundles device b b held) (all device b (slice_get_within bundles device b held))

pub entry_at_is : (plant : Plant) (bundles : List Bundle) (device frame : ℕ) (b : Bundle) → slice_get bundles device ≡ Some b
    → entry_at (setup_of plant bundles) device frame ≡ entry_in b.frames.entries frame
entry_at_is plant bundles device frame b held = rw (slice_get-map (λ (b : Bundle). b.frames) bundles device, held) refl

pub stands_at : (plant : Plant) (bundles : List Bundle) (device n : ℕ) (e : Entry) → IsPlan plant bundles → Stands bundles device n e
    → entry_at (setup_of plant bundles) device e.frame.0 ≡ Some e
stands_at plant bundles device n e plan s =
    entry_at_is plant bundles device e.frame.0 s.bundle s.held
    ∙ entry_at_place s.bundle.frames.entries n e
    (rising s.bundle.frames.entries (each_bundle IsBundle bundles device s.bundle plan.blocks s.held).frames.ascending) s.item

-- an entry of a frame, with its place
pub record Placed (bundles : List Bundle) (device frame : ℕ) (e : Entry) : Type 0 where
  pub n : ℕ
  pub stands : Stands bundles device n e
  pub named : e.frame.0 ≡ frame

placed_in : (plant : Plant) (bundles : List Bundle) (device frame : ℕ) (e : Entry) (held : Option Bundle) → held ≡ slice_get bundles device
    → entry_at (setup_of plant bundles) device frame ≡ Some e → Placed bundles device frame e
placed_in plant bundles device frame e None none is =
    absurd (none-some e (sym (rw (slice_get-map (λ (b : Bundle). b.frames) bundles device, ← none) refl) ∙ is))
placed_in plant bundles device frame e (Some b) held is =
    let (n, item, named) = find_place (λ (d : Entry). d.frame.0 == frame) b.frames.entries e (sym (entry_at_is plant bundles device frame b (sym held)) ∙ is) in
    record { n = n; stands = record { bundle = b; held = sym held; item = item }; named = eqb-true _ _ named }

pub at_placed : (plant : Plant) (bundles : List Bundle) (device frame : ℕ) (e : Entry)
    → entry_at (setup_of plant bundles) device frame ≡ Some e → Placed bundles device frame e
at_placed plant bundles device frame e is = placed_in plant bundles device frame e (slice_get bundles device) refl is

-- at one place stands one entry
pub one_entry : (bundles : List Bundle) (device n : ℕ) (d e : Entry) → Stands bundles device n d → Stands bundles device n e → d ≡ e
one_entry bundles device n d e s t =
    let same : s.bundle ≡ t.bundle = same_Some _ _ (sym s.held ∙ t.held) in
    same_Some d e (sym s.item ∙ ap (λ (b : Bundle). slice_get b.frames.entries n) same ∙ t.item)

-- an entry of one frame stands at one place
pub one_place : (bundles : List Bundle) (device m n : ℕ) (d e : Entry) → All IsBundle bundles → Stands bundles device m d → Stands bundles device n e
    → d.frame.0 ≡ e.frame.0 → m ≡ n
one_place bundles device m n d e all s t named =
    let same : s.bundle ≡ t.bundle = same_Some _ _ (sym s.held ∙ t.held) in
    let up = rising t.bundle.frames.entries (each_bundle IsBundle bundles device t.bundle all t.held).frames.ascending in
    let item : slice_get t.bundle.frames.entries m ≡ Some d = ap (λ (b : Bundle). slice_get b.frames.entries m) (sym same) ∙ s.item in
    elim (cases_lt m n) [
      | inl below ↦ absurd (omega (arith, up.at m n d e below item t.item))
      | inr above ↦ elim (cases_eq m n) [
        | inl here ↦ here
        | inr other ↦ absurd (omega (arith, up.at n m e d (omega arith) t.item item))
      ]
    ]

-- what a receiving port's peer answers as the sender is the answer for the parent
pub parent_answer : (net : Net) (device : ℕ) (e : Entry) (parent : DevId) (port : PortNo) (r : Option Parent) → IsNet net → 1 ≤ e.rx_port
    → peer_in net.links.now device e.rx_port ≡ Some (parent, port) → IsSenderAnswer net parent.0 port.0 e.frame.0 r → IsParentAnswer net device e r
parent_answer net device e parent port None is received peer none =
    λ u p comes.
    let there = is.both_ways u p device e.rx_port comes.leads in
    let same = same_Some _ _ (sym there ∙ sym (is.links.peers device e.rx_port) ∙ peer) in
    let (from, stands, leaves) = comes.sent in
    let device_is : u ≡ parent.0 = ap (λ (x : DevId × PortNo). x.0.0) same in
    let port_is : p ≡ port.0 = ap (λ (x : DevId × PortNo). x.1.0) same in
    none (subst (λ (d : ℕ). Sends (setup_in net) d port.0 e.frame.0) device_is
    (subst (λ (q : ℕ). Sends (setup_in net) u q e.frame.0) port_is (record { e = from; stands = stands; leaves = leaves })))
parent_answer net device e parent port (Some r) is received peer some =
    let there = is.both_ways device e.rx_port parent.0 port.0 (sym (is.links.peers device e.rx_port) ∙ peer) in
    let at : entry_at (setup_in net) parent.0 e.frame.0 ≡ Some some.from =
    subst (λ (f : ℕ). entry_at (setup_in net) parent.0 f ≡ Some some.from) some.named
    (stands_at net.plant.now net.bundles.now parent.0 r.place some.from is.plan some.placed) in
    let comes : IsParent (setup_in net) e.frame.0 device e parent.0 port.0 =
    record { received = received; sent = (some.from, at, some.leaves); leads = there } in
    record {
      comes = subst (λ (d : ℕ). IsParent (setup_in net) e.frame.0 device e d r.port.0) (sym some.same_device)
          (subst (λ (q : ℕ). IsParent (setup_in net) e.frame.0 device e parent.0 q) (sym some.same_port) comes);
      from = some.from;
      placed = subst (λ (d : ℕ). Stands net.bundles.now d r.place some.from) (sym some.same_device) some.placed;
      named = some.named;
    }
