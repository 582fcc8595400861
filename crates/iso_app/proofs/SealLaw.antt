-- One more frame is sealed.
use Rattle.std.proofs.Common.{◌≡◌, ◌≤◌, ℕ, ◌+◌, ◌-◌, min, List, ◌∷◌, ◌++◌, length, take, drop, sym, ◌∙◌, ap, arith, append_assoc, length-drop}
use Rattle.std.proofs.lemmas.List.{length-set, length-take, take_min, drop_min, drop-drop}
use Rattle.std.proofs.lemmas.Slice.{take-put_mid, drop-put_mid}
use Rattle.iso_app.specs.Sealed.{sealed, sealed_frame}
use borrow.Rule.Slice.PartMut.{put_mid}

length-sealed_frame : (xs : List ℕ) → length (sealed_frame xs) ≡ length xs
length-sealed_frame xs = length-set xs _ _

-- start and count are a frame's place, wanted its length where all of it is there
pub seal_step : (words frame : List ℕ) (start count width wanted : ℕ) (more : List ℕ) → start ≤ length words → width ≡ count →
    count ≡ min wanted (length words - start) → frame ≡ sealed_frame (take width (drop start words)) →
    take (start + count) (put_mid start width words frame) ++ sealed more (drop (start + count) (put_mid start width words frame))
    ≡ take start words ++ sealed (wanted ∷ more) (drop start words)
seal_step words frame start count width wanted more within width_is count_is frame_is =
    let rest : List ℕ = drop start words in
    let here : count ≡ min wanted (length rest) = count_is ∙ ap (λ n. min wanted n) (sym (length-drop start words)) in
    let some : width ≡ min wanted (length rest) = width_is ∙ here in
    let taken : take width rest ≡ take wanted rest = ap (λ n. take n rest) some ∙ take_min wanted rest in
    let dropped : drop count rest ≡ drop wanted rest = ap (λ n. drop n rest) here ∙ drop_min wanted rest in
    let sized : length frame ≡ width =
    ap length frame_is ∙ length-sealed_frame (take width rest) ∙ length-take width rest ∙ omega (arith, some) in
    let front : take (start + count) (put_mid start width words frame) ≡ take start words ++ frame =
    take-put_mid start width words frame (start + count) (omega arith) within in
    let back : drop (start + count) (put_mid start width words frame) ≡ drop wanted rest =
    drop-put_mid start width words frame (start + count) (omega arith) within sized ∙ sym (drop-drop count start words) ∙ dropped in
    ap (λ l. l ++ sealed more (drop (start + count) (put_mid start width words frame))) front
    ∙ ap (λ l. (take start words ++ frame) ++ sealed more l) back
    ∙ append_assoc (take start words) frame (sealed more (drop wanted rest))
    ∙ ap (λ l. take start words ++ (l ++ sealed more (drop wanted rest))) (frame_is ∙ ap sealed_frame taken)
