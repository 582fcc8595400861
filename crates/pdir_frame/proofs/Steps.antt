-- Reading entries one after the other, as a loop does.
use Rattle.std.proofs.Common.{◌≡◌, ℕ, zero, suc, ◌+◌, ◌==◌, true, false, List, [], ◌∷◌, ◌++◌, length, Result, Ok, Err, refl, sym, ap, ◌∙◌}
use Rattle.std.proofs.lemmas.List.{append-nil}
use Rattle.irt_base.specs.declared.blocks.Entry.{Entry}
use Rattle.irt_block.specs.declared.fault.BlockFault.{BlockFault}
use Rattle.irt_block.specs.declared.extent.Extent.{Extent}
use Rattle.irt_block.specs.Reading.{Fails}
use Rattle.irt_block.proofs.Loops.{with_front, regroup, fails_on}
use Rattle.pdir_frame.specs.Frames.{entry_at, entries_at}

pub entry_goes_on : (front : List Entry) (n m least : ℕ) (extent : Extent) (bytes : List ℕ) (e : Entry) (after : List ℕ) (total : Result (List Entry × List ℕ) BlockFault) → n ≡ suc m → (length bytes == 0) ≡ false → entry_at least extent bytes ≡ Ok (e, after)
    → with_front front (entries_at n least extent bytes) ≡ total → with_front (front ++ e ∷ []) (entries_at m (e.frame.0 + 1) extent after) ≡ total
unfolding entries_at
entry_goes_on front n m least extent bytes e after total k more h so_far =
    let one : with_front front (entries_at n least extent bytes) ≡ with_front (front ++ e ∷ []) (entries_at m (e.frame.0 + 1) extent after) = rw (k, more, h) (regroup front e (entries_at m (e.frame.0 + 1) extent after)) in
    sym one ∙ so_far

pub entry_ends : (fault : BlockFault) (front : List Entry) (n m least : ℕ) (extent : Extent) (bytes : List ℕ) (total : Result (List Entry × List ℕ) BlockFault) → n ≡ suc m → (length bytes == 0) ≡ false → Fails fault (entry_at least extent bytes)
    → with_front front (entries_at n least extent bytes) ≡ total → Fails fault total
unfolding entries_at
entry_ends fault front n m least extent bytes total k more h so_far = fails_on fault (entry_at least extent bytes) total h (λ bad.
    let one : with_front front (entries_at n least extent bytes) ≡ Err fault = rw (k, more, bad) refl in
    sym so_far ∙ one)

pub entries_full : (front : List Entry) (n least : ℕ) (extent : Extent) (bytes : List ℕ) (total : Result (List Entry × List ℕ) BlockFault) → n ≡ 0 → with_front front (entries_at n least extent bytes) ≡ total → total ≡ Ok (front, bytes)
unfolding entries_at
entries_full front n least extent bytes total k so_far =
    let one : with_front front (entries_at n least extent bytes) ≡ Ok (front, bytes) = rw k (ap (λ (es : List Entry). Ok (es, bytes)) (append-nil front)) in
    sym so_far ∙ one

pub entries_out : (front : List Entry) (n least : ℕ) (extent : Extent) (bytes : List ℕ) (total : Result (List Entry × List ℕ) BlockFault) → (length bytes == 0) ≡ true → with_front front (entries_at n least extent bytes) ≡ total → total ≡ Ok (front, bytes)
unfolding entries_at
entries_out front zero least extent bytes total none so_far = entries_full front 0 least extent bytes total refl so_far
entries_out front (suc n) least extent bytes total none so_far =
    let one : with_front front (entries_at (suc n) least extent bytes) ≡ Ok (front, bytes) = rw none (ap (λ (es : List Entry). Ok (es, bytes)) (append-nil front)) in
    sym so_far ∙ one
