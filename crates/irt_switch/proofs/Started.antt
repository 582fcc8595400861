-- Over a plan, what a device releases is what it starts itself.
use Rattle.std.proofs.Common.{◌≡◌, ℕ, ◌+◌, ◌*◌, ◌==◌, List, find, Some, slice_get, IsBitSet, inl, refl, sym, ◌∙◌, ap, subst}
use Rattle.std.specs.Prelude.{ℤ, pos, ◌+ℤ◌}
use Rattle.std.proofs.lemmas.Option.{slice_get_within, get_or_from_slice_get}
use Rattle.irt_base.specs.Cycle.{cycle_time}
use Rattle.irt_base.specs.Valid.{IsBundle}
use Rattle.irt_base.specs.declared.blocks.Bundle.{Bundle}
use Rattle.irt_base.specs.declared.blocks.Entry.{Entry}
use Rattle.irt_base.specs.declared.plants.Plant.{Plant}
use Rattle.plan_rules.specs.Network.{IsSentAt}
use Rattle.plan_rules.specs.Plan.{IsPlan, setup_of}
use Rattle.plan_rules.specs.Way.{entry_at, provided, IsStart, by_offset}
use Rattle.plan_rules.specs.World.{WorldRow, IsInStep}
use Rattle.irt_switch.specs.declared.action.Outgoing.{Outgoing}
use Rattle.irt_switch.specs.Played.{true_time}
use Rattle.irt_switch.specs.Release.{IsReleased, outgoing_of}
use Rattle.irt_switch.proofs.Bits.{ports_bits}
use Rattle.irt_switch.proofs.Finding.{ascending}
use Rattle.irt_switch.proofs.Judged.{find_own}
use Rattle.irt_switch.proofs.Members.{found_in}
use Rattle.irt_switch.proofs.Played.{block_entry, by_offset_time}

pub started : (plant : Plant) (bundles : List Bundle) → IsPlan plant bundles → (row : WorldRow) (k device port : ℕ) (b : Bundle) (o : Outgoing) →
    slice_get bundles device ≡ Some b → IsInStep plant row device → IsReleased b k o → IsBitSet o.ports port →
    IsSentAt (setup_of plant bundles) row k device port o.frame.0 (true_time plant row k device o.at)
started plant bundles plan row k device port b o held step is set =
    let setup = setup_of plant bundles in
    let valid = subst IsBundle (get_or_from_slice_get bundles device b b held) (plan.blocks device b (slice_get_within bundles device b held)) in
    let e = is.e in
    let at : entry_at setup device e.frame.0 ≡ Some e =
    block_entry plant bundles device e.frame.0 b held ∙ find_own b.frames.entries e (ascending b.frames.entries valid.frames.ascending) is.stands in
    let origin = k * cycle_time plant.factor in
    let starts = by_offset device e at (inl is.provided) in
    let For : Outgoing → Type 0 = λ x. IsSentAt setup row k device port x.frame.0 (true_time plant row k device x.at) in
    subst For (sym is.is) (record {
      entry = e;
      stands = at;
      due = is.due;
      leaves = (ports_bits e port).0 (subst (λ n. IsBitSet n port) (ap (λ (x : Outgoing). x.ports) is.is) set);
      live = provided device e at is.provided step;
      starts = subst (IsStart setup row k e.frame.0 device) (by_offset_time origin e.send_offset (row.error device) (pos (origin + e.send_offset) +ℤ row.error device) refl) starts;
    })

pub all_started : (plant : Plant) (bundles : List Bundle) (row : WorldRow) (k device port frame : ℕ) (start : ℤ) (b : Bundle) → slice_get bundles device ≡ Some b →
    (s : IsSentAt (setup_of plant bundles) row k device port frame start) → s.entry.rx_port ≡ 0 → IsReleased b k (outgoing_of s.entry)
all_started plant bundles row k device port frame start b held s own =
    let found : find (λ (x : Entry). x.frame.0 == frame) b.frames.entries ≡ Some s.entry = sym (block_entry plant bundles device frame b held) ∙ s.stands in
    record { e = s.entry; stands = (found_in (λ (x : Entry). x.frame.0 == frame) b.frames.entries s.entry (sym found)).0; provided = own; due = s.due; is = refl }
