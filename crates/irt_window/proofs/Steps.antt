-- Rounds of marking, step by step.
use Rattle.std.proofs.Common.{◌≡◌, ◌<◌, ◌≤◌, ◌+◌, ℕ, Bool, true, false, ◌||◌, inl, inr, List, Some, length, get_or, slice_get, refl, sym, ◌∙◌, ap, subst, arith}
use Rattle.std.proofs.lemmas.Bool.{cases_eq}
use Rattle.std.proofs.lemmas.Option.{slice_get_within, slice_get-get_or, slice_get_read, same_Some}
use Rattle.irt_base.specs.declared.blocks.Bundle.{Bundle}
use Rattle.irt_base.specs.declared.blocks.Entry.{Entry}
use Rattle.irt_window.specs.Marks.{IsStep, IsStuckAt, IsDeviceStuck, AreStuck}
use Rattle.irt_window.specs.Plans.{Stands}
use Rattle.irt_window.specs.declared.marks.Marks.{Marks}
use Rattle.irt_window.specs.declared.net.Net.{Net}

-- two steps, one after the other
pub two_steps : (First Second Both : Marks → Type 0) (before mid after : Marks) (found more : Bool) → ((m : Marks) → First m → Second m → Both m)
    → IsStep First before mid found → IsStep Second mid after more → IsStep Both before after (found || more)
two_steps First Second Both before mid after true true join a b = omega arith
two_steps First Second Both before mid after true false join a b = subst (λ (m : Marks). m.left < before.left) (sym b.0) a
two_steps First Second Both before mid after false true join a b = subst (λ (m : Marks). after.left < m.left) a.0 b
two_steps First Second Both before mid after false false join a b =
    (b.0 ∙ a.0, join after (subst First (sym b.0) a.1) b.1)

pub same_step : (First Second : Marks → Type 0) (before after : Marks) (found : Bool) → ((m : Marks) → First m → Second m)
    → IsStep First before after found → IsStep Second before after found
same_step First Second before after true weaken a = a
same_step First Second before after false weaken a = (a.0, weaken after a.1)

pub next_place : (net : Net) (device place : ℕ) (before mid after : Marks) (found more : Bool)
    → IsStep (λ (m : Marks). (n : ℕ) → n < place → IsStuckAt net m device n) before mid found
    → IsStep (λ (m : Marks). IsStuckAt net m device place) mid after more
    → IsStep (λ (m : Marks). (n : ℕ) → n < place + 1 → IsStuckAt net m device n) before after (found || more)
next_place net device place before mid after found more a b =
    two_steps (λ (m : Marks). (n : ℕ) → n < place → IsStuckAt net m device n) (λ (m : Marks). IsStuckAt net m device place)
    (λ (m : Marks). (n : ℕ) → n < place + 1 → IsStuckAt net m device n) before mid after found more
    (λ m below here n less. elim (cases_eq n place) [
      | inl same ↦ subst (λ (x : ℕ). IsStuckAt net m device x) (sym same) here
      | inr other ↦ below n (omega arith)
    ])
    a b

pub next_device : (net : Net) (device : ℕ) (before mid after : Marks) (found more : Bool)
    → IsStep (λ (m : Marks). (d : ℕ) → d < device → IsDeviceStuck net d m) before mid found
    → IsStep (IsDeviceStuck net device) mid after more
    → IsStep (λ (m : Marks). (d : ℕ) → d < device + 1 → IsDeviceStuck net d m) before after (found || more)
next_device net device before mid after found more a b =
    two_steps (λ (m : Marks). (d : ℕ) → d < device → IsDeviceStuck net d m) (IsDeviceStuck net device)
    (λ (m : Marks). (d : ℕ) → d < device + 1 → IsDeviceStuck net d m) before mid after found more
    (λ m below here d less. elim (cases_eq d device) [
      | inl same ↦ subst (λ (x : ℕ). IsDeviceStuck net x m) (sym same) here
      | inr other ↦ below d (omega arith)
    ])
    a b

pub all_places : (net : Net) (device end : ℕ) (b : Bundle) (before after : Marks) (found : Bool) → slice_get net.bundles.now device ≡ Some b
    → length b.frames.entries ≤ end → IsStep (λ (m : Marks). (n : ℕ) → n < end → IsStuckAt net m device n) before after found
    → IsStep (IsDeviceStuck net device) before after found
all_places net device end b before after found held enough a =
    same_step (λ (m : Marks). (n : ℕ) → n < end → IsStuckAt net m device n) (IsDeviceStuck net device) before after found
    (λ m below n e s none.
    let same : s.bundle ≡ b = same_Some s.bundle b (sym s.held ∙ held) in
    let item : slice_get b.frames.entries n ≡ Some e = ap (λ (x : Bundle). slice_get x.frames.entries n) (sym same) ∙ s.item in
    below n (omega (arith, slice_get_within b.frames.entries n e item)) e s none)
    a

pub all_devices : (net : Net) (end : ℕ) (before after : Marks) (found : Bool) → length net.bundles.now ≤ end
    → IsStep (λ (m : Marks). (d : ℕ) → d < end → IsDeviceStuck net d m) before after found → IsStep (AreStuck net) before after found
all_devices net end before after found enough a =
    same_step (λ (m : Marks). (d : ℕ) → d < end → IsDeviceStuck net d m) (AreStuck net) before after found
    (λ m below d n e s none. below d (omega (arith, slice_get_within net.bundles.now d s.bundle s.held)) n e s none)
    a

-- what stands at an index
pub bundle_at : (bundles : List Bundle) (device index : ℕ) (b : Bundle) → index ≡ device → device < length bundles → b ≡ get_or bundles index b
    → slice_get bundles device ≡ Some b
bundle_at bundles device index b same within is =
    slice_get_read bundles (length bundles) device b refl within (is ∙ ap (λ (i : ℕ). get_or bundles i b) same)

pub count_at : (bundles : List Bundle) (index count : ℕ) (b : Bundle) → b ≡ get_or bundles index b
    → count ≡ length (get_or bundles index b).frames.entries → length b.frames.entries ≡ count
count_at bundles index count b is count_is = ap (λ (x : Bundle). length x.frames.entries) is ∙ sym count_is

pub entry_there : (net : Net) (device place : ℕ) (b : Bundle) → slice_get net.bundles.now device ≡ Some b → place < length b.frames.entries
    → (e : Entry) × Stands net.bundles.now device place e
entry_there net device place b held within =
    let zero : Entry = record { send_offset = 0; data_length = 0; ratio = 0; phase = 0; frame = record { 0 = 0 }; rx_port = 0; tx = 0 } in
    (get_or b.frames.entries place zero, record { bundle = b; held = held; item = slice_get-get_or b.frames.entries place zero within })
