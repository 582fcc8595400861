-- Entries of a frame alone, and items of lists.
use Rattle.std.proofs.Common.{◌≡◌, ℕ, zero, suc, Bool, true, false, cond, true≢false, List, [], ◌∷◌, Option, Some, None, slice_get, sym, ◌∙◌, ap, refl}
use Rattle.std.specs.Prelude.{◌==◌, is_some, map, slice_index_or, Contains}
use Rattle.std.proofs.lemmas.Bool.{eq-eqb}
use Rattle.std.proofs.lemmas.Option.{same_Some, slice_get_within, get_or_from_slice_get, slice_get-get_or}
use Rattle.irt_base.specs.declared.blocks.Entry.{Entry}
use Rattle.irt_base.specs.declared.plants.Plant.{Plant}
use Rattle.plan_rules.specs.Way.{entry_at, IsAnchor}
use Rattle.plan_rules.specs.SendWindow.{SendWindow, HasWindow, at_anchor, behind}
use Rattle.plan_rules.specs.Way.{Setup}
use Rattle.fit_rules.specs.Shape.{block_of}

abbrev pub entry_in : Plant → List (Option Entry) → ℕ → ℕ → Option Entry
entry_in plant entries device frame = entry_at (record { plant = plant; blocks = map block_of entries }) device frame

pub no_item : {A X : Type 0} (x : X) → None ≡ Some x → A
no_item x is = absurd (true≢false (sym (ap is_some is)))

pick : (b : Bool) (x e : Entry) → cond b (Some x) None ≡ Some e → Some x ≡ Some e
pick true x e is = is
pick false x e is = no_item e is

pub entry_from : (plant : Plant) (entries : List (Option Entry)) (device frame : ℕ) (e : Entry) →
    entry_in plant entries device frame ≡ Some e → slice_index_or entries device None ≡ Some e
entry_from plant [] device frame e is = is
entry_from plant (None ∷ rest) zero frame e is = no_item e is
entry_from plant (Some x ∷ rest) zero frame e is = pick _ x e is
entry_from plant (row ∷ rest) (suc device) frame e is = entry_from plant rest device frame e is

kept : (b : Bool) (e : Entry) → b ≡ true → cond b (Some e) None ≡ Some e
kept true e is = refl
kept false e is = absurd (true≢false (sym is))

named : (x e : Entry) (frame : ℕ) → Some x ≡ Some e → e.frame.0 ≡ frame → (x.frame.0 == frame) ≡ true
named x e frame is same = ap (λ (z : Entry). z.frame.0 == frame) (same_Some x e is) ∙ ap (λ n. n == frame) same ∙ eq-eqb frame frame refl

pub entry_stands : (plant : Plant) (entries : List (Option Entry)) (device frame : ℕ) (e : Entry) →
    slice_index_or entries device None ≡ Some e → e.frame.0 ≡ frame → entry_in plant entries device frame ≡ Some e
entry_stands plant [] device frame e is same = is
entry_stands plant (None ∷ rest) zero frame e is same = no_item e is
entry_stands plant (Some x ∷ rest) zero frame e is same = kept _ x (named x e frame is same) ∙ is
entry_stands plant (row ∷ rest) (suc device) frame e is same = entry_stands plant rest device frame e is same

-- a window hangs on an anchor
pub anchor_entry : (s : Setup) (frame device : ℕ) (w : SendWindow) → HasWindow s frame device w →
    (e : Entry) × (entry_at s w.anchor frame ≡ Some e) × IsAnchor s w.anchor e
anchor_entry s frame _ _ (at_anchor d e is anchor) = (e, is, anchor)
anchor_entry s frame _ _ (behind d e parent port hop w dev is other comes sends hops held) = anchor_entry s frame parent w sends

pub contains_at : {X : Type 0} (xs : List X) (n : ℕ) (x : X) → slice_get xs n ≡ Some x → Contains xs x
contains_at xs n x is = (n, slice_get_within xs n x is, get_or_from_slice_get xs n x x is)

pub place_of : {X : Type 0} (xs : List X) (x : X) → Contains xs x → (n : ℕ) × (slice_get xs n ≡ Some x)
place_of {X} xs x (n, within, is) = (n, slice_get-get_or xs n x within ∙ ap (λ (y : X). Some y) is)
