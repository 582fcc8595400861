-- Reading in a loop: the step of a loop is the step of a reader.
use Rattle.std.proofs.Common.{◌≡◌, ℕ, suc, ◌+◌, ◌-◌, ◌<◌, ◌≤◌, true, false, cond, List, [], ◌∷◌, ◌++◌, length, drop, get_or, Result, Ok, Err, refl, sym, ap, ◌∙◌, append_assoc, add-one, arith, drop-cons, inl, inr}
use Rattle.std.proofs.lemmas.List.{append-nil, length-drop}
use Rattle.irt_block.specs.declared.fault.BlockFault.{BlockFault}
use Rattle.irt_block.specs.declared.extent.Extent.{Extent}
use Rattle.irt_block.specs.declared.bytes.ByteClass.{ByteClass}
use Rattle.irt_block.specs.Reading.{◌>>=◌, Reader, Fails, fault_at, is_of, kind_of, bytes_pass, repeat_at}

-- a fault of a part is that of the whole, want of memory aside
pub fails_on : {A B : Type 0} (e : BlockFault) (part : Result A BlockFault) (whole : Result B BlockFault) → Fails e part → (part ≡ Err e → whole ≡ Err e) → Fails e whole
fails_on e part whole (inl none_left) go = inl none_left
fails_on e part whole (inr bad) go = inr (go bad)

-- ---- bytes of a class

-- the byte at a place is the first of those that are left
byte_there : (class : ByteClass) (n at : ℕ) (extent : Extent) (rest : List ℕ) → at < n → n ≤ length rest → length rest ≤ extent.end →
    bytes_pass class (n - at) extent (drop at rest) ≡ cond (is_of class (get_or rest at 0)) (bytes_pass class (n - (at + 1)) extent (drop (at + 1) rest)) (Err (fault_at (kind_of class) ((extent.end - length rest) + at)))
byte_there class n at extent rest lt long inside =
    let k : n - at ≡ suc (n - (at + 1)) = omega arith in
    let front : drop at rest ≡ get_or rest at 0 ∷ drop (at + 1) rest = rw (add-one at) (drop-cons rest at 0 (omega arith)) in
    let left : length (drop at rest) ≡ length rest - at = length-drop at rest in
    let place : extent.end - length (get_or rest at 0 ∷ drop (at + 1) rest) ≡ (extent.end - length rest) + at = ap (λ n. extent.end - n) (sym (ap length front) ∙ left) ∙ omega arith in
    rw (k, front, place) refl

pub byte_passes : (class : ByteClass) (n at : ℕ) (extent : Extent) (rest : List ℕ) (total : Result (Unit {0}) BlockFault) → at < n → n ≤ length rest → length rest ≤ extent.end →
    is_of class (get_or rest at 0) ≡ true → bytes_pass class (n - at) extent (drop at rest) ≡ total → bytes_pass class (n - (at + 1)) extent (drop (at + 1) rest) ≡ total
byte_passes class n at extent rest total lt long inside good so_far =
    sym (byte_there class n at extent rest lt long inside ∙ rw good refl) ∙ so_far

pub byte_fails : (class : ByteClass) (n at : ℕ) (extent : Extent) (rest : List ℕ) (total : Result (Unit {0}) BlockFault) → at < n → n ≤ length rest → length rest ≤ extent.end →
    is_of class (get_or rest at 0) ≡ false → bytes_pass class (n - at) extent (drop at rest) ≡ total → total ≡ Err (fault_at (kind_of class) ((extent.end - length rest) + at))
byte_fails class n at extent rest total lt long inside bad so_far =
    sym so_far ∙ byte_there class n at extent rest lt long inside ∙ rw bad refl

-- ---- an item as often as a count says

-- what was read before, and what is still read
abbrev pub with_front : {A : Type 0} → List A → Result (List A × List ℕ) BlockFault → Result (List A × List ℕ) BlockFault
with_front front read = read >>= λ x. Ok (front ++ x.0, x.1)

pub regroup : {A : Type 0} (front : List A) (n : A) (read : Result (List A × List ℕ) BlockFault) → with_front front (read >>= λ x. Ok (n ∷ x.0, x.1)) ≡ with_front (front ++ n ∷ []) read
regroup {A} front n (Ok x) = ap (λ (ns : List A). Ok (ns, x.1)) (simp append_assoc)
regroup front n (Err f) = refl

pub goes_on : {A : Type 0} (item : Reader A) (front pushed : List A) (count i : ℕ) (extent : Extent) (bytes : List ℕ) (n : A) (after : List ℕ) (total : Result (List A × List ℕ) BlockFault) → pushed ≡ front ++ n ∷ [] → i < count → item extent bytes ≡ Ok (n, after)
    → with_front front (repeat_at item (count - i) extent bytes) ≡ total → with_front pushed (repeat_at item (count - (i + 1)) extent after) ≡ total
unfolding repeat_at
goes_on {A} item front pushed count i extent bytes n after total is lt h so_far =
    let k : count - i ≡ suc (count - (i + 1)) = omega arith in
    let one : with_front front (repeat_at item (count - i) extent bytes) ≡ with_front (front ++ n ∷ []) (repeat_at item (count - (i + 1)) extent after) = rw (k, h) (regroup front n (repeat_at item (count - (i + 1)) extent after)) in
    ap (λ (xs : List A). with_front xs (repeat_at item (count - (i + 1)) extent after)) is ∙ sym one ∙ so_far

pub ends : {A : Type 0} (e : BlockFault) (item : Reader A) (front : List A) (count i : ℕ) (extent : Extent) (bytes : List ℕ) (total : Result (List A × List ℕ) BlockFault) → i < count → Fails e (item extent bytes)
    → with_front front (repeat_at item (count - i) extent bytes) ≡ total → Fails e total
unfolding repeat_at
ends e item front count i extent bytes total lt h so_far = fails_on e (item extent bytes) total h (λ bad.
    let k : count - i ≡ suc (count - (i + 1)) = omega arith in
    let one : with_front front (repeat_at item (count - i) extent bytes) ≡ Err e = rw (k, bad) refl in
    sym so_far ∙ one)

pub is_done : {A : Type 0} (item : Reader A) (front : List A) (count i : ℕ) (extent : Extent) (bytes : List ℕ) (total : Result (List A × List ℕ) BlockFault) → count ≤ i → with_front front (repeat_at item (count - i) extent bytes) ≡ total → total ≡ Ok (front, bytes)
unfolding repeat_at
is_done {A} item front count i extent bytes total le so_far =
    let k : count - i ≡ 0 = omega arith in
    let one : with_front front (repeat_at item (count - i) extent bytes) ≡ Ok (front, bytes) = rw k (ap (λ (ns : List A). Ok (ns, bytes)) (append-nil front)) in
    sym so_far ∙ one
