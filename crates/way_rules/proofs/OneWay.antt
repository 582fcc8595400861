-- An entry's way is the one way of its frame.
use Rattle.std.proofs.Common.{◌≡◌, ◌≤◌, ◌+◌, ℕ, List, Some, sym, ◌∙◌, ap, subst, arith}
use Rattle.std.proofs.lemmas.Option.{same_Some}
use Rattle.irt_base.specs.Wiring.{hop_of}
use Rattle.irt_base.specs.declared.blocks.Bundle.{Bundle}
use Rattle.irt_base.specs.declared.blocks.Entry.{Entry}
use Rattle.irt_base.specs.declared.plants.Plant.{Plant}
use Rattle.plan_rules.specs.Way.{Setup, entry_at, IsParent, Leaves}
use Rattle.plan_rules.specs.SendWindow.{SendWindow, HasWindow}
use Rattle.plan_rules.specs.Plan.{setup_of}
use Rattle.plan_rules.specs.Frames.{IsForwarded, IsSending}
use Rattle.plan_rules.specs.Ways.{IsComing, window_of}
use Rattle.plan_rules.specs.declared.way.Way.{Way}
use Rattle.way_rules.specs.Placed.{IsPlaced}

-- what is unique in a setup
abbrev pub OneParent : Setup → Type 0
OneParent setup = (frame device : ℕ) (e : Entry) (u p v q : ℕ) → IsParent setup frame device e u p → IsParent setup frame device e v q → (u ≡ v) × (p ≡ q)

abbrev pub OneWindow : Setup → Type 0
OneWindow setup = (frame device : ℕ) (v w : SendWindow) → HasWindow setup frame device v → HasWindow setup frame device w → v ≡ w

pub one_entry : (plant : Plant) (bundles : List Bundle) (device : ℕ) (e x : Entry) (way : Way) → IsPlaced plant bundles device e way
    → entry_at (setup_of plant bundles) device e.frame.0 ≡ Some x → e ≡ x
one_entry plant bundles device e x way p is = same_Some e x (sym p.stands ∙ is)

-- the entry's frame, its parent's window and the hop
pub record Forwarded (plant : Plant) (bundles : List Bundle) (device : ℕ) (e : Entry) (way : Way) : Type 0 where
  pub hop : ℕ
  pub window : SendWindow
  pub comes : IsForwarded (setup_of plant bundles) device e.frame.0 e hop window
  pub earliest : way.earliest ≡ window.lo + hop
  pub latest : way.latest ≡ window.hi + hop

pub forwarded : (plant : Plant) (bundles : List Bundle) (device : ℕ) (e : Entry) (way : Way) → IsPlaced plant bundles device e way → 1 ≤ e.rx_port
    → Forwarded plant bundles device e way
forwarded plant bundles device e way p received =
    let c = p.way.coming received in
    record {
      hop = c.hop;
      window = c.window;
      comes = record { parent = way.parent.0; port = way.port.0; stands = p.stands; comes = c.comes; hops = c.hops; sends = c.sends };
      earliest = c.earliest;
      latest = c.latest;
    }

same_coming : (setup : Setup) (frame device : ℕ) (e : Entry) (way : Way) (hop parent port : ℕ) (window : SendWindow) → OneParent setup → OneWindow setup
    → IsComing setup device e way → IsParent setup e.frame.0 device e parent port → hop_of setup.plant parent port ≡ Some hop
    → HasWindow setup e.frame.0 parent window → (way.earliest ≡ window.lo + hop) × (way.latest ≡ window.hi + hop)
same_coming setup frame device e way hop parent port window parents windows c comes hops sends =
    let (one, two) = parents e.frame.0 device e way.parent.0 way.port.0 parent port c.comes comes in
    let own_hop : c.hop ≡ hop = same_Some c.hop hop (sym c.hops ∙ (ap (λ (u : ℕ). hop_of setup.plant u way.port.0) one
    ∙ (ap (λ (q : ℕ). hop_of setup.plant parent q) two ∙ hops))) in
    let own_window : c.window ≡ window = windows e.frame.0 parent c.window window
    (subst (λ (u : ℕ). HasWindow setup e.frame.0 u c.window) one c.sends) sends in (
      omega (arith, c.earliest, own_hop, ap (λ (w : SendWindow). w.lo) own_window),
      omega (arith, c.latest, own_hop, ap (λ (w : SendWindow). w.hi) own_window),
    )

-- however it comes, it comes by its way
pub coming : (plant : Plant) (bundles : List Bundle) (device : ℕ) (e : Entry) (way : Way) → OneParent (setup_of plant bundles)
    → OneWindow (setup_of plant bundles) → IsPlaced plant bundles device e way → (x : Entry) (hop : ℕ) (window : SendWindow)
    → IsForwarded (setup_of plant bundles) device e.frame.0 x hop window → (way.earliest ≡ window.lo + hop) × (way.latest ≡ window.hi + hop)
coming plant bundles device e way parents windows p x hop window f =
    let same = one_entry plant bundles device e x way p f.stands in
    let comes = subst (λ (y : Entry). IsParent (setup_of plant bundles) e.frame.0 device y f.parent f.port) (sym same) f.comes in
    same_coming (setup_of plant bundles) e.frame.0 device e way hop f.parent f.port window parents windows (p.way.coming comes.received) comes f.hops f.sends

pub one_window : (plant : Plant) (bundles : List Bundle) (device : ℕ) (e : Entry) (way : Way) → OneWindow (setup_of plant bundles)
    → IsPlaced plant bundles device e way → (window : SendWindow) → HasWindow (setup_of plant bundles) e.frame.0 device window → window ≡ window_of way
one_window plant bundles device e way windows p window sends = windows e.frame.0 device window (window_of way) sends p.way.sends

pub sending : (plant : Plant) (bundles : List Bundle) (device port : ℕ) (e : Entry) (way : Way) → IsPlaced plant bundles device e way → Leaves e port
    → IsSending (setup_of plant bundles) device port e.frame.0 e (window_of way)
sending plant bundles device port e way p leaves = record { stands = p.stands; leaves = leaves; sends = p.way.sends }
