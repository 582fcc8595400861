-- A frame that is written over, and frames that are made.
use Rattle.std.proofs.Common.{◌≡◌, ◌<◌, ℕ, List, [], ◌∷◌, ◌++◌, length, take, drop, map, get_or, set, refl, sym, ◌∙◌, ap, arith, zero, suc, slice_get, Some}
use Rattle.std.specs.Global.{Vec}
use Rattle.std.specs.Vec.{with_items}
use Rattle.std.proofs.lemmas.List.{map-set, get_or_default, length-map}
use Rattle.rtc3_frame.specs.Frames.{written_over, with_frame}

get_or-items : (xs : List (Vec ℕ)) (i : ℕ) (v : Vec ℕ) → get_or (map (λ (x : Vec ℕ). x.items) xs) i v.items ≡ (get_or xs i v).items
get_or-items [] i v = refl
get_or-items (x ∷ xs) zero v = refl
get_or-items (x ∷ xs) (suc i) v = get_or-items xs i v

pub written_frame : (xs : List (Vec ℕ)) (i : ℕ) (v : Vec ℕ) (bytes : List ℕ) → i < length xs → v ≡ get_or xs i v →
    map (λ (x : Vec ℕ). x.items) (set xs i (with_items v bytes)) ≡ with_frame (map (λ (x : Vec ℕ). x.items) xs) i bytes
written_frame xs i v bytes inside is =
    let views : List (List ℕ) = map (λ (x : Vec ℕ). x.items) xs in
    let within : i < length views = omega (arith, length-map xs (λ (x : Vec ℕ). x.items)) in
    let old : get_or views i [] ≡ v.items =
    get_or_default views i [] v.items within ∙ get_or-items xs i v ∙ sym (ap (λ (x : Vec ℕ). x.items) is) in
    map-set (λ (x : Vec ℕ). x.items) xs i (with_items v bytes)
    ∙ ap (λ n. set views i (take n (bytes ++ drop (length bytes) v.items))) v.ok.0
    ∙ ap (λ l. set views i (written_over l bytes)) (sym old)

pub frame_there : (xs : List (Vec ℕ)) (i : ℕ) (v : Vec ℕ) → i < length xs → v ≡ get_or xs i v →
    slice_get (map (λ (x : Vec ℕ). x.items) xs) i ≡ Some v.items
frame_there [] i v inside is = absurd (omega arith)
frame_there (x ∷ xs) zero v inside is = ap (λ (y : Vec ℕ). Some y.items) (sym is)
frame_there (x ∷ xs) (suc i) v inside is = frame_there xs i v (omega arith) is

pub frames_count : (xs : List (Vec ℕ)) → length (map (λ (x : Vec ℕ). x.items) xs) ≡ length xs
frames_count xs = length-map xs (λ (x : Vec ℕ). x.items)
