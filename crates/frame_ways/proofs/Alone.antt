-- A frame's entries, alone in a setup.
use Rattle.std.proofs.Common.{◌≡◌, ℕ, zero, suc, Bool, true, false, cond, true≢false, List, [], ◌∷◌, Option, Some, None, sym, ◌∙◌, ap, refl}
use Rattle.std.specs.Prelude.{◌==◌, map, slice_index_or}
use Rattle.std.proofs.lemmas.Bool.{eq-eqb}
use Rattle.std.proofs.lemmas.Option.{same_Some}
use Rattle.irt_base.specs.declared.blocks.Entry.{Entry}
use Rattle.irt_base.specs.declared.numbers.FrameId.{FrameId}
use Rattle.irt_base.specs.declared.plants.Plant.{Plant}
use Rattle.plan_rules.specs.Way.{entry_at}
use Rattle.fit_rules.specs.declared.frame_plan.FramePlan.{FramePlan}
use Rattle.fit_rules.specs.Shape.{alone, block_of, entry_of}
use Rattle.frame_ways.proofs.Lists.{no_entry}

abbrev entry_in : Plant → List (Option Entry) → ℕ → ℕ → Option Entry
entry_in plant entries device frame = entry_at (record { plant = plant; blocks = map block_of entries }) device frame

pick : (b : Bool) (x e : Entry) → cond b (Some x) None ≡ Some e → Some x ≡ Some e
pick true x e is = is
pick false x e is = no_entry e is

in_from : (plant : Plant) (entries : List (Option Entry)) (device frame : ℕ) (e : Entry) →
    entry_in plant entries device frame ≡ Some e → slice_index_or entries device None ≡ Some e
in_from plant [] device frame e is = is
in_from plant (None ∷ rest) zero frame e is = no_entry e is
in_from plant (Some x ∷ rest) zero frame e is = pick _ x e is
in_from plant (row ∷ rest) (suc device) frame e is = in_from plant rest device frame e is

kept : (b : Bool) (e : Entry) → b ≡ true → cond b (Some e) None ≡ Some e
kept true e is = refl
kept false e is = absurd (true≢false (sym is))

named : (x e : Entry) (frame : ℕ) → Some x ≡ Some e → e.frame.0 ≡ frame → (x.frame.0 == frame) ≡ true
named x e frame is same = ap (λ (z : Entry). z.frame.0 == frame) (same_Some x e is) ∙ ap (λ n. n == frame) same ∙ eq-eqb frame frame refl

in_stands : (plant : Plant) (entries : List (Option Entry)) (device frame : ℕ) (e : Entry) →
    slice_index_or entries device None ≡ Some e → e.frame.0 ≡ frame → entry_in plant entries device frame ≡ Some e
in_stands plant [] device frame e is same = is
in_stands plant (None ∷ rest) zero frame e is same = no_entry e is
in_stands plant (Some x ∷ rest) zero frame e is same = kept _ x (named x e frame is same) ∙ is
in_stands plant (row ∷ rest) (suc device) frame e is same = in_stands plant rest device frame e is same

pub entry_from : (plant : Plant) (base : FramePlan) (device : ℕ) (e : Entry) → entry_at (alone plant base) device base.frame.0 ≡ Some e → entry_of base device ≡ Some e
entry_from plant base device e is = in_from plant base.entries device base.frame.0 e is

pub entry_stands : (plant : Plant) (base : FramePlan) (device : ℕ) (e : Entry) → entry_of base device ≡ Some e → e.frame ≡ base.frame →
    entry_at (alone plant base) device base.frame.0 ≡ Some e
entry_stands plant base device e is same = in_stands plant base.entries device base.frame.0 e is (ap (λ (f : FrameId). f.0) same)
