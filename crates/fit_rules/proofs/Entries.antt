-- A frame's entries, alone in a setup.
use Rattle.std.proofs.Common.{◌≡◌, ℕ, zero, suc, Bool, true, false, cond, true≢false, List, [], ◌∷◌, Option, Some, None, sym, ◌∙◌, ap, refl}
use Rattle.std.specs.Prelude.{◌==◌, is_some, map, slice_index_or}
use Rattle.std.proofs.lemmas.Bool.{eq-eqb}
use Rattle.std.proofs.lemmas.Option.{same_Some}
use Rattle.irt_base.specs.declared.blocks.Entry.{Entry}
use Rattle.irt_base.specs.declared.blocks.FrameBlock.{FrameBlock}
use Rattle.irt_base.specs.declared.plants.Plant.{Plant}
use Rattle.plan_rules.specs.Way.{Setup, entry_at}
use Rattle.fit_rules.specs.Shape.{block_of}

abbrev pub setup : Plant → List FrameBlock → Setup
setup plant blocks = record { plant = plant; blocks = blocks }

abbrev pub entry_in : Plant → List (Option Entry) → ℕ → ℕ → Option Entry
entry_in plant entries device frame = entry_at (setup plant (map block_of entries)) device frame

pub no_entry : {A X : Type 0} (x : X) → None ≡ Some x → A
no_entry x is = absurd (true≢false (sym (ap is_some is)))

pick : (b : Bool) (x e : Entry) → cond b (Some x) None ≡ Some e → Some x ≡ Some e
pick true x e is = is
pick false x e is = no_entry e is

pub entry_from : (plant : Plant) (entries : List (Option Entry)) (device frame : ℕ) (e : Entry) →
    entry_in plant entries device frame ≡ Some e → slice_index_or entries device None ≡ Some e
entry_from plant [] device frame e is = is
entry_from plant (None ∷ rest) zero frame e is = no_entry e is
entry_from plant (Some x ∷ rest) zero frame e is = pick _ x e is
entry_from plant (row ∷ rest) (suc device) frame e is = entry_from plant rest device frame e is

kept : (b : Bool) (e : Entry) → b ≡ true → cond b (Some e) None ≡ Some e
kept true e is = refl
kept false e is = absurd (true≢false (sym is))

named : (x e : Entry) (frame : ℕ) → Some x ≡ Some e → e.frame.0 ≡ frame → (x.frame.0 == frame) ≡ true
named x e frame is same = ap (λ (z : Entry). z.frame.0 == frame) (same_Some x e is) ∙ ap (λ n. n == frame) same ∙ eq-eqb frame frame refl

pub entry_stands : (plant : Plant) (entries : List (Option Entry)) (device frame : ℕ) (e : Entry) →
    slice_index_or entries device None ≡ Some e → e.frame.0 ≡ frame → entry_in plant entries device frame ≡ Some e
entry_stands plant [] device frame e is same = is
entry_stands plant (None ∷ rest) zero frame e is same = no_entry e is
entry_stands plant (Some x ∷ rest) zero frame e is same = kept _ x (named x e frame is same) ∙ is
entry_stands plant (row ∷ rest) (suc device) frame e is same = entry_stands plant rest device frame e is same
