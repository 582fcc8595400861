-- A new way, and the table with it.
use Rattle.std.proofs.Common.{◌≡◌, ◌≢◌, ◌<◌, ◌≤◌, ◌+◌, ℕ, inl, inr, List, [], Option, Some, None, length, get_or, set, slice_get, sum_by, All, refl, sym, ◌∙◌, ap, subst, arith}
use Rattle.std.proofs.lemmas.Bool.{cases_eq}
use Rattle.std.proofs.lemmas.List.{get_or-set_other, get_or-set_same, length-set}
use Rattle.std.proofs.lemmas.List.Elements.{All-from_recursion}
use Rattle.std.proofs.lemmas.List.Sums.{sum_by-set}
use Rattle.std.proofs.lemmas.Option.{same_Some, slice_get_within, get_or_from_slice_get}
use Rattle.irt_base.specs.Valid.{IsBundle, IsEntry}
use Rattle.irt_base.specs.declared.blocks.Bundle.{Bundle}
use Rattle.irt_base.specs.declared.blocks.Entry.{Entry}
use Rattle.irt_base.specs.declared.numbers.DevId.{DevId}
use Rattle.irt_base.specs.declared.numbers.PortNo.{PortNo}
use Rattle.irt_base.specs.declared.plants.Demand.{Demand}
use Rattle.irt_base.specs.declared.plants.Device.{Device}
use Rattle.irt_base.specs.declared.plants.Plant.{Plant}
use Rattle.plant_rules.specs.Meets.{MeetsRules, IsDevice}
use Rattle.plan_rules.specs.Way.{entry_at, IsParent}
use Rattle.plan_rules.specs.Tree.{demand_of, IsReached, here, through, AreTrees}
use Rattle.plan_rules.specs.SendWindow.{SendWindow, HasWindow, at_anchor, behind}
use Rattle.plan_rules.specs.Ways.{window_of}
use Rattle.plan_rules.specs.declared.way.Way.{Way}
use Rattle.irt_window.specs.Behind.{IsBehind}
use Rattle.irt_window.specs.Marks.{way_in, open_of, open_in, IsSound, IsMarked, AreMarks, IsStuck}
use Rattle.irt_window.specs.Parents.{HasParent}
use Rattle.irt_window.specs.Plans.{IsNet, setup_in, Stands}
use Rattle.irt_window.specs.declared.links.Parent.{Parent}
use Rattle.irt_window.specs.declared.marks.Marks.{Marks}
use Rattle.irt_window.specs.declared.net.Net.{Net}
use Rattle.irt_window.proofs.Places.{each_bundle, stands_at, one_entry, one_place}

-- an entry that stands in a plan is valid
pub valid_entry : (bundles : List Bundle) (device n : ℕ) (e : Entry) → All IsBundle bundles → Stands bundles device n e → IsEntry e
valid_entry bundles device n e all s =
    subst IsEntry (get_or_from_slice_get s.bundle.frames.entries n e e s.item)
    (All-from_recursion IsEntry s.bundle.frames.entries (each_bundle IsBundle bundles device s.bundle all s.held).frames.each n e
    (slice_get_within s.bundle.frames.entries n e s.item))

pub valid_device : (plant : Plant) (device : ℕ) (d : Device) → MeetsRules plant → slice_get plant.devices device ≡ Some d → IsDevice d
valid_device plant device d rules held =
    subst IsDevice (get_or_from_slice_get plant.devices device d d held)
    (All-from_recursion IsDevice plant.devices rules.devices device d (slice_get_within plant.devices device d held))

own_sound : (net : Net) (device : DevId) (e : Entry) (way : Way) (demand : Demand) → entry_at (setup_in net) device.0 e.frame.0 ≡ Some e
    → demand_of net.plant.now e.frame.0 ≡ Some demand → device.0 ≡ demand.provider.0
    → way ≡ record { parent = device; port = record { 0 = 0 }; earliest = 0; latest = 0; lo = e.send_offset; hi = e.send_offset; anchor = device }
    → AreTrees (setup_in net) → IsSound (setup_in net) device.0 e way
own_sound net device e way demand stands asked provides is trees =
    let (found, asked_too, tree) = (trees device.0 e.frame.0).each e stands in
    let same : demand ≡ found = same_Some demand found (sym asked ∙ asked_too) in
    let from_nobody : e.rx_port ≡ 0 = tree.provided.0 (provides ∙ ap (λ (d : Demand). d.provider.0) same) in
    rw is (record {
      sends = at_anchor device.0 e stands (inl from_nobody);
      coming = λ received. absurd (omega arith);
      provided = λ _. refl;
    })

pub own_marked : (net : Net) (device : DevId) (n : ℕ) (e : Entry) (way : Way) (demand : Demand) (left less : ℕ) → IsNet net
    → Stands net.bundles.now device.0 n e → demand_of net.plant.now e.frame.0 ≡ Some demand → demand.provider.0 ≡ device.0
    → way ≡ record { parent = device; port = record { 0 = 0 }; earliest = 0; latest = 0; lo = e.send_offset; hi = e.send_offset; anchor = device }
    → less + 1 ≡ left → left ≤ 32768 → IsMarked net less device.0 e way
own_marked net device n e way demand left less is placed asked provides way_is fewer few =
    let stands = stands_at net.plant.now net.bundles.now device.0 n e is.plan placed in
    let valid = valid_entry net.bundles.now device.0 n e is.plan.blocks placed in
    record {
      demand = demand;
      asked = asked;
      reached = subst (λ (d : ℕ). IsReached (setup_in net) demand.provider.0 e.frame.0 d) provides here;
      sound = own_sound net device e way demand stands asked (sym provides) way_is;
      ordered = rw way_is (omega arith);
      small = rw way_is (omega (arith, valid.offset));
      small_latest = rw way_is (omega arith);
    }

same_window : (lo lo' hi hi' anchor anchor' : ℕ) → lo' ≡ lo → hi' ≡ hi → anchor' ≡ anchor
    → ◌≡◌ {A = SendWindow} (record { lo = lo; hi = hi; anchor = anchor }) (record { lo = lo'; hi = hi'; anchor = anchor' })
same_window lo lo' hi hi' anchor anchor' a b c = rw (a, b, c) refl

window_behind : (net : Net) (device : ℕ) (e : Entry) (parent : Parent) (from way : Way) → entry_at (setup_in net) device e.frame.0 ≡ Some e
    → HasParent net device e parent → IsBehind net device e parent from way → HasWindow (setup_in net) e.frame.0 parent.device.0 (window_of from)
    → HasWindow (setup_in net) e.frame.0 device (window_of way)
window_behind net device e parent from way stands h b sends =
    let P : SendWindow → Type 0 = λ w. HasWindow (setup_in net) e.frame.0 device w in
    elim b.starts [
      | inl own ↦ subst P (same_window _ _ _ _ _ _ own.lo own.hi own.anchor) (at_anchor device e stands own.anchors)
      | inr late ↦
          subst P (same_window _ _ _ _ _ _ late.lo late.hi (ap (λ (d : DevId). d.0) late.anchor))
          (behind device e parent.device.0 parent.port.0 b.hop (window_of from) late.d stands late.relays h.comes sends b.hops late.held)
    ]

behind_sound : (net : Net) (device : ℕ) (e : Entry) (parent : Parent) (from way : Way) → entry_at (setup_in net) device e.frame.0 ≡ Some e
    → (h : HasParent net device e parent) → IsBehind net device e parent from way → IsSound (setup_in net) parent.device.0 h.from from
    → IsSound (setup_in net) device e way
behind_sound net device e parent from way stands h b s =
    let sends = subst (λ (f : ℕ). HasWindow (setup_in net) f parent.device.0 (window_of from)) h.named s.sends in
    record {
      sends = window_behind net device e parent from way stands h b sends;
      coming = λ received. record {
        hop = b.hop;
        window = window_of from;
        comes = subst (λ (d : DevId). IsParent (setup_in net) e.frame.0 device e d.0 way.port.0) (sym b.parent_is)
            (rw b.port_is h.comes);
        hops = rw (b.parent_is, b.port_is) b.hops;
        sends = rw b.parent_is sends;
        earliest = b.earliest;
        latest = b.latest;
      };
      provided = λ none. absurd (omega (arith, h.comes.received));
    }

pub behind_marked : (net : Net) (device n : ℕ) (e : Entry) (parent : Parent) (from way : Way) (left less : ℕ) → IsNet net
    → Stands net.bundles.now device n e → (h : HasParent net device e parent) → IsMarked net left parent.device.0 h.from from
    → IsBehind net device e parent from way → less + 1 ≡ left → left ≤ 32768 → IsMarked net less device e way
behind_marked net device n e parent from way left less is placed h m b fewer few =
    let stands = stands_at net.plant.now net.bundles.now device n e is.plan placed in
    let valid = valid_entry net.bundles.now device n e is.plan.blocks placed in
    record {
      demand = m.demand;
      asked = subst (λ (f : ℕ). demand_of net.plant.now f ≡ Some m.demand) h.named m.asked;
      reached = through device e parent.device.0 parent.port.0 stands h.comes
          (subst (λ (f : ℕ). IsReached (setup_in net) m.demand.provider.0 f parent.device.0) h.named m.reached);
      sound = λ trees. behind_sound net device e parent from way stands h b (m.sound trees);
      ordered = elim b.starts [
        | inl own ↦ omega (arith, own.lo, own.hi)
        | inr late ↦ omega (arith, late.lo, late.hi, m.ordered, (valid_device net.plant.now device late.d is.plan.rules late.held).bridge_order)
      ];
      small = elim b.starts [
        | inl own ↦ omega (arith, own.hi, valid.offset)
        | inr late ↦ omega (arith, late.hi, m.small, b.near, (valid_device net.plant.now device late.d is.plan.rules late.held).bridge)
      ];
      small_latest = omega (arith, b.latest, m.small, b.near);
    }

-- the parent's entry has no way, and no other is the parent
pub stuck_behind : (net : Net) (rows : List (List (Option Way))) (device : ℕ) (e : Entry) (parent : Parent) → IsNet net → HasParent net device e parent
    → ((demand : Demand) → demand_of net.plant.now e.frame.0 ≡ Some demand → device ≢ demand.provider.0)
    → way_in rows parent.device.0 parent.place ≡ None → IsStuck net rows device e
stuck_behind net rows device e parent is h other none =
    record {
      other = other;
      behind = λ demand asked u p m from comes placed named.
          let there = is.both_ways u p device e.rx_port comes.leads in
          let here_too = is.both_ways parent.device.0 parent.port.0 device e.rx_port h.comes.leads in
          let same = same_Some _ _ (sym there ∙ here_too) in
          let device_is : u ≡ parent.device.0 = ap (λ (x : DevId × PortNo). x.0.0) same in
          let at : Stands net.bundles.now parent.device.0 m from = subst (λ (d : ℕ). Stands net.bundles.now d m from) device_is placed in
          let place_is : m ≡ parent.place =
          one_place net.bundles.now parent.device.0 m parent.place from h.from is.plan.blocks at h.placed (named ∙ sym h.named) in
          rw (device_is, place_is) none;
    }

pub stuck_alone : (net : Net) (rows : List (List (Option Way))) (device : ℕ) (e : Entry)
    → ((demand : Demand) → demand_of net.plant.now e.frame.0 ≡ Some demand → device ≢ demand.provider.0)
    → ((parent port : ℕ) → ¬ IsParent (setup_in net) e.frame.0 device e parent port) → IsStuck net rows device e
stuck_alone net rows device e other none =
    record { other = other; behind = λ demand asked u p m from comes placed named. absurd (none u p comes) }

-- a mark stays one as fewer entries are left
marked_less : (net : Net) (left less device : ℕ) (e : Entry) (way : Way) → less ≤ left → IsMarked net left device e way → IsMarked net less device e way
marked_less net left less device e way fewer m =
    record {
      demand = m.demand;
      asked = m.asked;
      reached = m.reached;
      sound = m.sound;
      ordered = m.ordered;
      small = omega (arith, m.small);
      small_latest = omega (arith, m.small_latest);
    }

-- an entry that is open counts
open_row : (row : List (Option Way)) (n : ℕ) (way : Way) → n < length row → get_or row n None ≡ None
    → sum_by open_of (set row n (Some way)) + 1 ≡ sum_by open_of row
open_row row n way within none =
    let sums = sum_by-set open_of row n (Some way) None within in
    let one : open_of (get_or row n None) ≡ 1 = rw none refl in
    omega (arith, sums, one)

pub open_less : (rows : List (List (Option Way))) (device n : ℕ) (way : Way) → device < length rows → n < length (get_or rows device [])
    → way_in rows device n ≡ None
    → open_in (set rows device (set (get_or rows device []) n (Some way))) + 1 ≡ open_in rows
open_less rows device n way within placed none =
    let count : List (Option Way) → ℕ = λ row. sum_by open_of row in
    let sums = sum_by-set (λ (row : List (Option Way)). sum_by open_of row) rows device (set (get_or rows device []) n (Some way)) [] within in
    let row = open_row (get_or rows device []) n way placed none in
    omega (arith, sums, row)

pub some_open : (rows : List (List (Option Way))) (device n : ℕ) (way : Way) → device < length rows → n < length (get_or rows device [])
    → way_in rows device n ≡ None → 1 ≤ open_in rows
some_open rows device n way within placed none = omega (arith, open_less rows device n way within placed none)

-- the places of an entry in the table
pub device_within : (net : Net) (marks : Marks) (device n : ℕ) (e : Entry) → AreMarks net marks → Stands net.bundles.now device n e
    → device < length marks.rows.items
device_within net marks device n e m s = omega (arith, m.count, slice_get_within net.bundles.now device s.bundle s.held)

pub place_within : (net : Net) (marks : Marks) (device n : ℕ) (e : Entry) → AreMarks net marks → Stands net.bundles.now device n e
    → n < length (get_or marks.rows.items device [])
place_within net marks device n e m s =
    omega (arith, m.counts device s.bundle s.held, slice_get_within s.bundle.frames.entries n e s.item)

pub left_some : (net : Net) (marks : Marks) (device n : ℕ) (e : Entry) (way : Way) → AreMarks net marks → Stands net.bundles.now device n e
    → way_in marks.rows.items device n ≡ None → 1 ≤ marks.left
left_some net marks device n e way m s none =
    omega (arith, m.left_is, some_open marks.rows.items device n way (device_within net marks device n e m s) (place_within net marks device n e m s) none)

set_here : (rows : List (List (Option Way))) (device n : ℕ) (way : Way) → device < length rows → n < length (get_or rows device [])
    → way_in (set rows device (set (get_or rows device []) n (Some way))) device n ≡ Some way
set_here rows device n way within placed =
    rw (get_or-set_same rows device (set (get_or rows device []) n (Some way)) [] within) (get_or-set_same (get_or rows device []) n (Some way) None placed)

set_beside : (rows : List (List (Option Way))) (device n m : ℕ) (way : Way) → device < length rows → m ≢ n
    → way_in (set rows device (set (get_or rows device []) n (Some way))) device m ≡ way_in rows device m
set_beside rows device n m way within other =
    rw (get_or-set_same rows device (set (get_or rows device []) n (Some way)) [] within) (get_or-set_other (get_or rows device []) n m (Some way) None other)

set_elsewhere : (rows : List (List (Option Way))) (device n d m : ℕ) (way : Way) → d ≢ device
    → way_in (set rows device (set (get_or rows device []) n (Some way))) d m ≡ way_in rows d m
set_elsewhere rows device n d m way other = rw (get_or-set_other rows device d (set (get_or rows device []) n (Some way)) [] other) refl

set_counts : (rows : List (List (Option Way))) (device n d : ℕ) (way : Way) → device < length rows
    → length (get_or (set rows device (set (get_or rows device []) n (Some way))) d []) ≡ length (get_or rows d [])
set_counts rows device n d way within =
    elim (cases_eq d device) [
      | inl same ↦
          rw (same, get_or-set_same rows device (set (get_or rows device []) n (Some way)) [] within)
          (length-set (get_or rows device []) n (Some way))
      | inr other ↦ rw (get_or-set_other rows device d (set (get_or rows device []) n (Some way)) [] other) refl
    ]

set_each : (net : Net) (marks : Marks) (less device n : ℕ) (e : Entry) (way : Way) → AreMarks net marks → Stands net.bundles.now device n e
    → less + 1 ≡ marks.left → IsMarked net less device e way → (d m : ℕ) (f : Entry) (w : Way) → Stands net.bundles.now d m f
    → way_in (set marks.rows.items device (set (get_or marks.rows.items device []) n (Some way))) d m ≡ Some w → IsMarked net less d f w
set_each net marks less device n e way ms s fewer new d m f w placed is =
    let rows = marks.rows.items in
    let within = device_within net marks device n e ms s in
    let kept : way_in rows d m ≡ Some w → IsMarked net less d f w =
    λ old. marked_less net marks.left less d f w (omega arith) (ms.each d m f w placed old) in
    elim (cases_eq d device) [
      | inl same ↦ elim (cases_eq m n) [
        | inl same_place ↦
            let at : Stands net.bundles.now device n f =
            subst (λ (x : ℕ). Stands net.bundles.now x n f) same (subst (λ (x : ℕ). Stands net.bundles.now d x f) same_place placed) in
            let read : Some way ≡ Some w =
            sym (set_here rows device n way within (place_within net marks device n e ms s))
            ∙ subst (λ (x : ℕ). way_in (set rows device (set (get_or rows device []) n (Some way))) x n ≡ Some w) same
            (subst (λ (x : ℕ). way_in (set rows device (set (get_or rows device []) n (Some way))) d x ≡ Some w) same_place is) in
            subst (λ (x : ℕ). IsMarked net less x f w) (sym same)
            (subst (λ (x : Entry). IsMarked net less device x w) (one_entry net.bundles.now device n e f s at)
            (subst (λ (x : Way). IsMarked net less device e x) (same_Some way w read) new))
        | inr beside ↦
            kept
            (subst (λ (x : ℕ). way_in rows x m ≡ Some w) (sym same)
            (sym (set_beside rows device n m way within beside)
            ∙ subst (λ (x : ℕ). way_in (set rows device (set (get_or rows device []) n (Some way))) x m ≡ Some w) same is))
      ]
      | inr elsewhere ↦ kept (sym (set_elsewhere rows device n d m way elsewhere) ∙ is)
    ]

pub marks_set : (net : Net) (old new : Marks) (device n : ℕ) (e : Entry) (way : Way) → AreMarks net old → Stands net.bundles.now device n e
    → way_in old.rows.items device n ≡ None
    → new.rows.items ≡ set old.rows.items device (set (get_or old.rows.items device []) n (Some way)) → new.left + 1 ≡ old.left
    → IsMarked net new.left device e way → AreMarks net new
marks_set net old new device n e way ms s none rows_are fewer marked =
    let within = device_within net old device n e ms s in
    record {
      count = rw rows_are (length-set old.rows.items device (set (get_or old.rows.items device []) n (Some way)) ∙ ms.count);
      counts = λ d b held. rw rows_are (set_counts old.rows.items device n d way within ∙ ms.counts d b held);
      each = λ d m f w placed is.
          set_each net old new.left device n e way ms s fewer marked d m f w placed
          (subst (λ (rows : List (List (Option Way))). way_in rows d m ≡ Some w) rows_are is);
      left_is = rw rows_are (omega (arith, open_less old.rows.items device n way within (place_within net old device n e ms s) none, ms.left_is));
      few = omega (arith, ms.few);
    }
