-- A frame has one parent at a device, and one window.
use Rattle.std.proofs.Common.{◌≡◌, ℕ, ◌+◌, Some, sym, ◌∙◌, ap, subst, slice_get}
use Rattle.std.proofs.lemmas.Option.{same_Some}
use Rattle.irt_base.specs.Wiring.{hop_of}
use Rattle.irt_base.specs.declared.numbers.DevId.{DevId}
use Rattle.irt_base.specs.declared.numbers.PortNo.{PortNo}
use Rattle.irt_base.specs.declared.blocks.Entry.{Entry}
use Rattle.irt_base.specs.declared.plants.Device.{Device}
use Rattle.plant_rules.specs.Meets.{MeetsRules}
use Rattle.plan_rules.specs.Way.{Setup, entry_at, IsAnchor, IsParent}
use Rattle.plan_rules.specs.SendWindow.{SendWindow, HasWindow, at_anchor, behind}
use Rattle.plan_rules.proofs.Wires.{end_of, mutual_peers}

pub one_parent : (setup : Setup) → MeetsRules setup.plant → (frame device : ℕ) (e : Entry) (u p v q : ℕ) →
    IsParent setup frame device e u p → IsParent setup frame device e v q → (u ≡ v) × (p ≡ q)
one_parent setup rules frame device e u p v q first second =
    let back = mutual_peers setup.plant rules u p device e.rx_port first.leads in
    let again = mutual_peers setup.plant rules v q device e.rx_port second.leads in
    let same = same_Some (end_of u p) (end_of v q) (sym back ∙ again) in
    (ap (λ (x : DevId × PortNo). x.0.0) same, ap (λ (x : DevId × PortNo). x.1.0) same)

abbrev pub anchor_window : ℕ → Entry → SendWindow
anchor_window device e = record { lo = e.send_offset; hi = e.send_offset; anchor = device }

abbrev pub later_window : SendWindow → ℕ → Device → SendWindow
later_window w hop d = record { lo = w.lo + (hop + d.bmin); hi = w.hi + (hop + d.bmax); anchor = w.anchor }

-- the window of a frame at a device that starts it by its offset
pub window_of_anchor : (setup : Setup) (frame device : ℕ) (e : Entry) (w : SendWindow) → entry_at setup device frame ≡ Some e → IsAnchor setup device e →
    HasWindow setup frame device w → w ≡ anchor_window device e
window_of_anchor setup frame _ e _ at anchor (at_anchor device f is one) = ap (anchor_window device) (same_Some f e (sym is ∙ at))
window_of_anchor setup frame _ e _ at anchor (behind device f parent port hop w d is other comes sends hops held) =
    absurd (other (subst (IsAnchor setup device) (same_Some e f (sym at ∙ is)) anchor))

-- any other window stands behind the parent's
pub record IsBehind (setup : Setup) (frame device : ℕ) (e : Entry) (window : SendWindow) : Type 0 where
  pub parent : ℕ
  pub port : ℕ
  pub hop : ℕ
  pub before : SendWindow
  pub d : Device
  pub comes : IsParent setup frame device e parent port
  pub sends : HasWindow setup frame parent before
  pub hops : hop_of setup.plant parent port ≡ Some hop
  pub held : slice_get setup.plant.devices device ≡ Some d
  pub is : window ≡ later_window before hop d

pub window_behind : (setup : Setup) (frame device : ℕ) (e : Entry) (w : SendWindow) → entry_at setup device frame ≡ Some e → ¬ IsAnchor setup device e →
    HasWindow setup frame device w → IsBehind setup frame device e w
window_behind setup frame _ e _ at other (at_anchor device f is anchor) =
    absurd (other (subst (IsAnchor setup device) (same_Some f e (sym is ∙ at)) anchor))
window_behind setup frame _ e _ at other (behind device f parent port hop w d is still comes sends hops held) = record {
  parent = parent;
  port = port;
  hop = hop;
  before = w;
  d = d;
  comes = subst (λ x. IsParent setup frame device x parent port) (same_Some f e (sym is ∙ at)) comes;
  sends = sends;
  hops = hops;
  held = held;
  is = λ i. later_window w hop d;
}

-- two windows behind one parent
same_behind : (setup : Setup) (parent port : ℕ) (w v : SendWindow) (hop gap device : ℕ) (d e : Device) → w ≡ v → hop_of setup.plant parent port ≡ Some hop →
    hop_of setup.plant parent port ≡ Some gap → slice_get setup.plant.devices device ≡ Some d → slice_get setup.plant.devices device ≡ Some e →
    later_window w hop d ≡ later_window v gap e
same_behind setup parent port w v hop gap device d e windows first second held also =
    let hops = same_Some hop gap (sym first ∙ second) in
    let devices = same_Some d e (sym held ∙ also) in
    λ i. later_window (windows i) (hops i) (devices i)

pub one_window : (setup : Setup) → MeetsRules setup.plant → (frame device : ℕ) (v w : SendWindow) →
    HasWindow setup frame device v → HasWindow setup frame device w → v ≡ w
one_window setup rules frame _ _ w (at_anchor device e at anchor) second = sym (window_of_anchor setup frame device e w at anchor second)
one_window setup rules frame _ _ w (behind device e parent port hop before d at other comes sends hops held) second =
    let b = window_behind setup frame device e w at other second in
    let (parents, ports) = one_parent setup rules frame device e parent port b.parent b.port comes b.comes in
    let again : HasWindow setup frame parent b.before = subst (λ x. HasWindow setup frame x b.before) (sym parents) b.sends in
    let gap : hop_of setup.plant parent port ≡ Some b.hop = (λ i. hop_of setup.plant (parents i) (ports i)) ∙ b.hops in
    same_behind setup parent port before b.before hop b.hop device d b.d (one_window setup rules frame parent before b.before sends again) hops gap held b.held
    ∙ sym b.is
