-- Along the way of a frame: each start lies in its window.
use Rattle.std.proofs.Common.{◌≡◌, ℕ, ◌+◌, ◌*◌, Some, sym, ◌∙◌, ap, subst, subst₂, arith, slice_get}
use Rattle.std.specs.Prelude.{ℤ, pos, ◌+ℤ◌}
use Rattle.std.proofs.lemmas.Int.{ints}
use Rattle.std.proofs.lemmas.Option.{same_Some}
use Rattle.irt_base.specs.Cycle.{cycle_time}
use Rattle.irt_base.specs.Valid.{IsWithin}
use Rattle.irt_base.specs.declared.blocks.Entry.{Entry}
use Rattle.irt_base.specs.declared.plants.Device.{Device}
use Rattle.plant_rules.specs.Meets.{MeetsRules}
use Rattle.plan_rules.specs.World.{WorldRow, IsInStep, IsUncut}
use Rattle.plan_rules.proofs.StartWindow.{IsInWindow}
use Rattle.plan_rules.specs.Way.{Setup, entry_at, Leaves, IsParent, IsLive, provided, forwarded, IsStart, by_offset, by_arrival, IsRelay, IsInRange}
use Rattle.plan_rules.specs.SendWindow.{SendWindow, HasWindow, at_anchor, behind}
use Rattle.plan_rules.proofs.OneWay.{one_parent, anchor_window, later_window}

-- what is live is in step
pub in_step_of : (setup : Setup) (row : WorldRow) (frame device : ℕ) → IsLive setup row frame device → IsInStep setup.plant row device
in_step_of setup row frame _ (provided device e at own step) = step
in_step_of setup row frame _ (forwarded device e parent port at from live uncut step) = step

-- where a frame's route is live, it is so at the parent
pub live_parent : (setup : Setup) → MeetsRules setup.plant → (row : WorldRow) (frame device parent port : ℕ) (e : Entry) → entry_at setup device frame ≡ Some e →
    IsParent setup frame device e parent port → IsLive setup row frame device → IsLive setup row frame parent
live_parent setup rules row frame _ parent port e at comes (provided device f is own step) =
    let none : e.rx_port ≡ 0 = ap (λ (x : Entry). x.rx_port) (same_Some e f (sym at ∙ is)) ∙ own in
    absurd (omega (arith, none, comes.received))
live_parent setup rules row frame _ parent port e at comes (forwarded device f other gate is from live uncut step) =
    let again : IsParent setup frame device e other gate = subst (λ x. IsParent setup frame device x other gate) (same_Some f e (sym is ∙ at)) from in
    subst (IsLive setup row frame) (one_parent setup rules frame device e other gate parent port again comes).0 live

-- and the link from the parent is not cut
pub uncut_from : (setup : Setup) → MeetsRules setup.plant → (row : WorldRow) (frame device parent port : ℕ) (e : Entry) → entry_at setup device frame ≡ Some e →
    IsParent setup frame device e parent port → IsLive setup row frame device → IsUncut setup.plant row parent port
uncut_from setup rules row frame _ parent port e at comes (provided device f is own step) =
    let none : e.rx_port ≡ 0 = ap (λ (x : Entry). x.rx_port) (same_Some e f (sym at ∙ is)) ∙ own in
    absurd (omega (arith, none, comes.received))
uncut_from setup rules row frame _ parent port e at comes (forwarded device f other gate is from live uncut step) =
    let again : IsParent setup frame device e other gate = subst (λ x. IsParent setup frame device x other gate) (same_Some f e (sym is ∙ at)) from in
    let (parents, ports) = one_parent setup rules frame device e other gate parent port again comes in
    subst₂ (λ n p. IsUncut setup.plant row n p) parents ports uncut

-- a device sends a frame on by some port
pub record Sends (setup : Setup) (device frame : ℕ) : Type 0 where
  pub entry : Entry
  pub stands : entry_at setup device frame ≡ Some entry
  pub port : ℕ
  pub leaves : Leaves entry port

pub parent_sends : (setup : Setup) (frame device parent port : ℕ) (e : Entry) → IsParent setup frame device e parent port → Sends setup parent frame
parent_sends setup frame device parent port e comes =
    record { entry = comes.sent.0; stands = comes.sent.1; port = port; leaves = comes.sent.2 }

-- a start and the window that it lies in
pub record IsTimed (setup : Setup) (row : WorldRow) (k frame device : ℕ) (start : ℤ) : Type 0 where
  pub window : SendWindow
  pub has : HasWindow setup frame device window
  pub in_step : IsInStep setup.plant row window.anchor
  pub inside : IsInWindow start (pos (k * cycle_time setup.plant.factor)) (row.error window.anchor) (pos window.lo) (pos window.hi)

anchor_inside : (origin offset : ℕ) (error : ℤ) → IsInWindow (pos (origin + offset) +ℤ error) (pos origin) error (pos offset) (pos offset)
anchor_inside origin offset error = record { low = omega (arith, ints); high = omega (arith, ints) }

later_inside : (origin lo hi hop least most bridge : ℕ) (error start : ℤ) → IsInWindow start (pos origin) error (pos lo) (pos hi) → IsWithin least most bridge →
    IsInWindow (start +ℤ pos (hop + bridge)) (pos origin) error (pos (lo + (hop + least))) (pos (hi + (hop + most)))
later_inside origin lo hi hop least most bridge error start inside within = record { low = omega (arith, ints); high = omega (arith, ints) }

-- every device with an entry is in the plant
abbrev pub HasDevices : Setup → Type 0
HasDevices setup = (device frame : ℕ) (e : Entry) → entry_at setup device frame ≡ Some e → (d : Device) × (slice_get setup.plant.devices device ≡ Some d)

pub timed : (setup : Setup) → MeetsRules setup.plant → HasDevices setup → (row : WorldRow) → IsInRange setup row → (k frame device : ℕ) (start : ℤ) →
    IsStart setup row k frame device start → IsLive setup row frame device → Sends setup device frame → IsTimed setup row k frame device start
timed setup rules devices row range k frame _ _ (by_offset device e at anchor) live sends = record {
  window = anchor_window device e;
  has = at_anchor device e at anchor;
  in_step = in_step_of setup row frame device live;
  inside = anchor_inside (k * cycle_time setup.plant.factor) e.send_offset (row.error device);
}
timed setup rules devices row range k frame _ _ (by_arrival device e parent port hop before at other comes starts hops) live sends =
    let t = timed setup rules devices row range k frame parent before starts (live_parent setup rules row frame device parent port e at comes live)
    (parent_sends setup frame device parent port e comes) in
    let (d, held) = devices device frame e at in
    let relay : IsRelay setup device e = (other, (sends.port, subst (λ x. Leaves x sends.port) (same_Some sends.entry e (sym sends.stands ∙ at)) sends.leaves)) in
    record {
      window = later_window t.window hop d;
      has = behind device e parent port hop t.window d at other comes t.has hops held;
      in_step = t.in_step;
      inside = later_inside (k * cycle_time setup.plant.factor) t.window.lo t.window.hi hop d.bmin d.bmax (row.bridge device frame) (row.error t.window.anchor)
          before t.inside (range device frame e d at held relay);
    }
