-- A block is a codec if its fields are read to their end, and a whole input is a value and nothing else.
use Rattle.std.proofs.Common.{◌≡◌, ℕ, ◌+◌, ◌-◌, ◌^◌, ◌<◌, ◌≤◌, Bool, true, false, cond, not, eqb, nat_lt, ◌==◌, List, [], ◌∷◌, ◌++◌, length, take, drop, slice_index, Result, Ok, Err, refl, sym, ap, subst, ◌∙◌, append_assoc, arith, length-drop, drop-drop}
use Rattle.std.specs.Prelude.{IfOk, replicate}
use Rattle.std.proofs.lemmas.Bool.{ltb-false, le-ltb, eqb-true, and_parts}
use Rattle.std.proofs.lemmas.List.{take_at, drop_at, take-append-drop, length-append, length-take, append-nil, nil_from_length}
use Rattle.irt_block.specs.declared.fault.BlockFault.{BlockFault}
use Rattle.irt_block.specs.declared.fault.BlockKind.TheVariants as kinds
use Rattle.irt_block.specs.declared.extent.Extent.{Extent}
use Rattle.irt_block.specs.declared.header.BlockId.{BlockId}
use Rattle.irt_block.specs.Reading.{◌>>=◌, Reader, Gives, IsSure, fault_at, input_of, missing_of, spelled, number_in, ended_at, finished_at}
use Rattle.irt_block.specs.Header.{header_bytes, block_bytes, header_at, inner_of, open_at, block_at, whole_of}
use Rattle.byte_laws.specs.Spelling.{IsBytes, ReadingIsSpelling}
use Rattle.byte_laws.proofs.Spelling.{one_spelling}
use Rattle.byte_laws.proofs.Words.{IsBytes-drop, IsBytes-take}
use Rattle.irt_block.proofs.Numbers.{length-spelled, number_in-spelled, number_in-lt, spelled-number_in}
use Rattle.irt_block.proofs.Steps.{bind_ok, guard_not, guard_so, guard_past, done, ok_is, after_ok, Takes, Takes-then, failed, sure_ok, sure_err, sure_missing, sure_if, sure_bind, sure_map}
use Rattle.irt_block.proofs.Codec.{Codec, pair_read, pair_sure, IsView, view_takes, view_sure}

-- ---- the header

split_header : (bytes : List ℕ) → 6 ≤ length bytes → bytes ≡ take 2 bytes ++ (take 2 (drop 2 bytes) ++ slice_index bytes 4 ∷ slice_index bytes 5 ∷ drop 6 bytes)
split_header (a ∷ b ∷ c ∷ d ∷ e ∷ f ∷ bytes) long = refl
split_header [] long = absurd (omega arith)
split_header (a ∷ []) long = absurd (omega arith)
split_header (a ∷ b ∷ []) long = absurd (omega arith)
split_header (a ∷ b ∷ c ∷ []) long = absurd (omega arith)
split_header (a ∷ b ∷ c ∷ d ∷ []) long = absurd (omega arith)
split_header (a ∷ b ∷ c ∷ d ∷ e ∷ []) long = absurd (omega arith)

not_false : (b : Bool) → not b ≡ false → b ≡ true
not_false true h = refl
not_false false h = absurd cc

-- a header that was read
pub record IsHeader (id : BlockId) (bytes : List ℕ) (size : ℕ) : Type 0 where
  pub least : 6 ≤ size
  pub there : size ≤ length bytes
  pub most : size < 65540
  pub parts : bytes ≡ header_bytes id (size - 4) ++ drop 6 bytes

header_regroup : (id : BlockId) (n : ℕ) (rest : List ℕ) → header_bytes id n ++ rest ≡ spelled 2 id.kind ++ (spelled 2 n ++ id.high ∷ id.low ∷ rest)
header_regroup id n rest =
    append_assoc (spelled 2 id.kind ++ spelled 2 n) (id.high ∷ id.low ∷ []) rest
    ∙ append_assoc (spelled 2 id.kind) (spelled 2 n) (id.high ∷ id.low ∷ rest)

pub header_takes : (id : BlockId) (extent : Extent) (bytes : List ℕ) (size : ℕ) → IsBytes bytes → header_at id extent bytes ≡ Ok size → IsHeader id bytes size
unfolding header_at
header_takes id extent bytes size fits e =
    let g1 = guard_past _ _ _ _ e in
    let g2 = guard_past _ _ _ _ g1.1 in
    let g3 = guard_past _ _ _ _ g2.1 in
    let g4 = guard_past _ _ _ _ g3.1 in
    let g5 = guard_not _ _ _ _ g4.1 in
    let six : 6 ≤ length bytes = ltb-false _ _ g1.0 in
    let kind : number_in 2 bytes ≡ id.kind = eqb-true _ _ (not_false _ g2.0) in
    let version = and_parts _ _ (not_false _ g3.0) in
    let high : slice_index bytes 4 ≡ id.high = eqb-true _ _ version.0 in
    let low : slice_index bytes 5 ≡ id.low = eqb-true _ _ version.1 in
    let two : 2 ≤ number_in 2 (drop 2 bytes) = ltb-false _ _ g4.0 in
    let all : 4 + number_in 2 (drop 2 bytes) ≤ length bytes = ltb-false _ _ g5.0 in
    let is : 4 + number_in 2 (drop 2 bytes) ≡ size = g5.1 in
    let below : number_in 2 (drop 2 bytes) < 65536 = number_in-lt 2 (drop 2 bytes) (IsBytes-drop 2 bytes fits) in
    let size_is : number_in 2 (drop 2 bytes) ≡ size - 4 = omega arith in
    let first : take 2 bytes ≡ spelled 2 id.kind = sym (spelled-number_in 2 bytes (omega arith) fits) ∙ ap (spelled 2) kind in
    let second : take 2 (drop 2 bytes) ≡ spelled 2 (size - 4) = sym (spelled-number_in 2 (drop 2 bytes) (omega (arith, length-drop 2 bytes)) (IsBytes-drop 2 bytes fits)) ∙ ap (spelled 2) size_is in
    let third : slice_index bytes 4 ∷ slice_index bytes 5 ∷ drop 6 bytes ≡ id.high ∷ id.low ∷ drop 6 bytes = ap (λ (h : ℕ). h ∷ slice_index bytes 5 ∷ drop 6 bytes) high ∙ ap (λ (l : ℕ). id.high ∷ l ∷ drop 6 bytes) low in
    let whole : take 2 bytes ++ (take 2 (drop 2 bytes) ++ slice_index bytes 4 ∷ slice_index bytes 5 ∷ drop 6 bytes) ≡ spelled 2 id.kind ++ (spelled 2 (size - 4) ++ id.high ∷ id.low ∷ drop 6 bytes) =
    ap (λ (x : List ℕ). x ++ (take 2 (drop 2 bytes) ++ slice_index bytes 4 ∷ slice_index bytes 5 ∷ drop 6 bytes)) first
    ∙ ap (λ (x : List ℕ). spelled 2 id.kind ++ (x ++ slice_index bytes 4 ∷ slice_index bytes 5 ∷ drop 6 bytes)) second
    ∙ ap (λ (x : List ℕ). spelled 2 id.kind ++ (spelled 2 (size - 4) ++ x)) third in
    record {
      least = omega arith;
      there = omega arith;
      most = omega arith;
      parts = split_header bytes six ∙ whole ∙ sym (header_regroup id (size - 4) (drop 6 bytes));
    }

version_there : (k n h l : ℕ) (rest : List ℕ) → (slice_index (spelled 2 k ++ (spelled 2 n ++ h ∷ l ∷ rest)) 4 ≡ h) × (slice_index (spelled 2 k ++ (spelled 2 n ++ h ∷ l ∷ rest)) 5 ≡ l)
unfolding spelled
version_there k n h l rest = (refl, refl)

pub length-header : (id : BlockId) (n : ℕ) → length (header_bytes id n) ≡ 6
unfolding spelled
length-header id n = refl

eqb-same : (n : ℕ) → eqb n n ≡ true
eqb-same n = grind arith

pub header_again : (id : BlockId) (extent : Extent) (n : ℕ) (rest : List ℕ) → id.kind < 2 ^ 16 → n < 2 ^ 16 → 2 ≤ n → n ≤ length rest + 2 → header_at id extent (header_bytes id n ++ rest) ≡ Ok (4 + n)
unfolding header_at
header_again id extent n rest kind_fits n_fits two there =
    let tail : List ℕ = spelled 2 n ++ id.high ∷ id.low ∷ rest in
    let whole : List ℕ = spelled 2 id.kind ++ tail in
    let size : length whole ≡ 6 + length rest = sym (ap length (header_regroup id n rest)) ∙ length-append (header_bytes id n) rest ∙ ap (λ m. m + length rest) (length-header id n) in
    let v = version_there id.kind n id.high id.low rest in
    let long : nat_lt (length whole) 6 ≡ false = le-ltb _ _ (omega arith) in
    let kind : number_in 2 whole ≡ id.kind = number_in-spelled 2 id.kind tail kind_fits in
    let at2 : drop 2 whole ≡ tail = drop_at (spelled 2 id.kind) tail 2 (length-spelled 2 id.kind) in
    let len : number_in 2 (drop 2 whole) ≡ n = ap (number_in 2) at2 ∙ number_in-spelled 2 n (id.high ∷ id.low ∷ rest) n_fits in
    let least : nat_lt n 2 ≡ false = le-ltb _ _ two in
    let all : nat_lt (length whole) (4 + n) ≡ false = le-ltb _ _ (omega arith) in
    ap (header_at id extent) (header_regroup id n rest) ∙ rw (long, kind, eqb-same id.kind, v.0, v.1, eqb-same id.high, eqb-same id.low, len, least, all) refl

-- ---- opening a block

pub open_again : (id : BlockId) (extent : Extent) (fields rest : List ℕ) → id.kind < 2 ^ 16 → length fields + 2 < 2 ^ 16 →
    open_at id extent (block_bytes id fields ++ rest) ≡ Ok (inner_of extent (block_bytes id fields ++ rest) (4 + (length fields + 2)), (fields, rest))
open_again id extent fields rest kind_fits fits =
    let h : List ℕ = header_bytes id (length fields + 2) in
    let regrouped : block_bytes id fields ++ rest ≡ h ++ (fields ++ rest) = append_assoc h fields rest in
    let head : header_at id extent (block_bytes id fields ++ rest) ≡ Ok (4 + (length fields + 2)) =
    ap (header_at id extent) regrouped ∙ header_again id extent (length fields + 2) (fields ++ rest) kind_fits fits (omega arith) (omega (arith, length-append fields rest)) in
    let six : drop 6 (block_bytes id fields ++ rest) ≡ fields ++ rest = ap (drop 6) regrouped ∙ drop_at h (fields ++ rest) 6 (length-header id (length fields + 2)) in
    let inner : take (4 + (length fields + 2) - 6) (drop 6 (block_bytes id fields ++ rest)) ≡ fields =
    ap (take (4 + (length fields + 2) - 6)) six ∙ take_at fields rest (4 + (length fields + 2) - 6) (omega arith) in
    let size : length (block_bytes id fields) ≡ 4 + (length fields + 2) = length-append h fields ∙ ap (λ m. m + length fields) (length-header id (length fields + 2)) ∙ omega arith in
    let outer : drop (4 + (length fields + 2)) (block_bytes id fields ++ rest) ≡ rest = drop_at (block_bytes id fields) rest (4 + (length fields + 2)) size in
    rw (head, inner, outer) refl

-- ---- the fields of a block

-- as a codec, but what is spelled has to be all that there is
pub record Body (A : Type 0) : Type 1 where
  pub spell : A → List ℕ
  pub Fits : A → Type 0
  pub read : Reader A
  pub takes : (extent : Extent) (bytes : List ℕ) (x : A × List ℕ) → IsBytes bytes → read extent bytes ≡ Ok x → Takes bytes (spell x.0) x.1 × Fits x.0
  pub again : (extent : Extent) (x : A) → Fits x → read extent (spell x) ≡ Ok (x, [])
  pub sure : (extent : Extent) (bytes : List ℕ) → IsSure (read extent bytes)

pub ended_again : {A : Type 0} (c : Codec A) (extent : Extent) (x : A) → c.Fits x → c.read extent (c.spell x) ≡ Ok (x, [])
ended_again c extent x fits = ap (c.read extent) (sym (append-nil (c.spell x))) ∙ c.again extent x [] fits

abbrev pub ended : {A : Type 0} → Codec A → Body A
ended c = record { spell = c.spell; Fits = c.Fits; read = c.read; takes = c.takes; again = ended_again c; sure = c.sure }

pub before_takes : {A B : Type 0} (c : Codec A) (d : A → Body B) (extent : Extent) (bytes : List ℕ) (x : (A × B) × List ℕ) → IsBytes bytes → pair_read c.read (λ a. (d a).read) extent bytes ≡ Ok x → Takes bytes (c.spell x.0.0 ++ (d x.0.0).spell x.0.1) x.1 × (c.Fits x.0.0 × (d x.0.0).Fits x.0.1)
unfolding pair_read
before_takes {A} {B} c d extent bytes x fits e =
    let a = bind_ok (c.read extent bytes) (λ y. (d y.0).read extent y.1 >>= λ z. Ok ((y.0, z.0), z.1)) x e in
    let b = bind_ok ((d a.0.0).read extent a.0.1) (λ z. Ok ((a.0.0, z.0), z.1)) x a.2 in
    let s = c.takes extent bytes a.0 fits a.1 in
    let t = (d a.0.0).takes extent a.0.1 b.0 s.0.rest_fits b.1 in
    let made : (A × B) × List ℕ = ((a.0.0, b.0.0), b.0.1) in
    subst (λ (y : (A × B) × List ℕ). Takes bytes (c.spell y.0.0 ++ (d y.0.0).spell y.0.1) y.1 × (c.Fits y.0.0 × (d y.0.0).Fits y.0.1)) (ok_is made x b.2)
    (Takes-then bytes (c.spell a.0.0) a.0.1 ((d a.0.0).spell b.0.0) b.0.1 s.0 t.0, (s.1, t.1))

pub before_again : {A B : Type 0} (c : Codec A) (d : A → Body B) (extent : Extent) (x : A × B) → c.Fits x.0 × (d x.0).Fits x.1 → pair_read c.read (λ a. (d a).read) extent (c.spell x.0 ++ (d x.0).spell x.1) ≡ Ok (x, [])
unfolding pair_read
before_again c d extent x fits = rw (c.again extent x.0 ((d x.0).spell x.1) fits.0, (d x.0).again extent x.1 fits.1) refl

-- a field, and then the others up to the end
abbrev pub before : {A B : Type 0} → Codec A → (A → Body B) → Body (A × B)
before c d = record {
  spell = λ x. c.spell x.0 ++ (d x.0).spell x.1;
  Fits = λ x. c.Fits x.0 × (d x.0).Fits x.1;
  read = pair_read c.read (λ a. (d a).read);
  takes = before_takes c d;
  again = before_again c d;
  sure = λ extent bytes. pair_sure c.read (λ a. (d a).read) extent bytes (c.sure extent bytes) (λ a rest. (d a).sure extent rest);
}

-- ---- a block

left_none : (extent : Extent) (rest : List ℕ) (u : Unit {0}) → ended_at extent rest ≡ Ok u → rest ≡ []
left_none extent rest u e = nil_from_length rest (eqb-true _ _ (guard_so (length rest == 0) (missing_of extent) tt u e).0)

pub block_takes : {A : Type 0} (id : BlockId) (body : Body A) (extent : Extent) (bytes : List ℕ) (x : A × List ℕ) → IsBytes bytes → block_at id body.read extent bytes ≡ Ok x → Takes bytes (block_bytes id (body.spell x.0)) x.1 × (body.Fits x.0 × (length (body.spell x.0) + 2 < 2 ^ 16))
block_takes {A} id body extent bytes x fits e =
    let o = bind_ok (open_at id extent bytes) (λ block. body.read block.0 block.1.0 >>= λ value. ended_at block.0 value.1 >>= λ _. Ok (value.0, block.1.1)) x e in
    let h = bind_ok (header_at id extent bytes) (λ size. Ok (inner_of extent bytes size, (take (size - 6) (drop 6 bytes), drop size bytes))) o.0 o.1 in
    let size = h.0 in
    let fields : List ℕ = take (size - 6) (drop 6 bytes) in
    let opened : Extent × (List ℕ × List ℕ) = (inner_of extent bytes size, (fields, drop size bytes)) in
    let go = after_ok opened o.0 (λ block. body.read block.0 block.1.0 >>= λ value. ended_at block.0 value.1 >>= λ _. Ok (value.0, block.1.1)) x h.2 o.2 in
    let v = bind_ok (body.read opened.0 fields) (λ value. ended_at opened.0 value.1 >>= λ _. Ok (value.0, drop size bytes)) x go in
    let u = bind_ok (ended_at opened.0 v.0.1) (λ _. Ok (v.0.0, drop size bytes)) x v.2 in
    let none : v.0.1 ≡ [] = left_none opened.0 v.0.1 u.0 u.1 in
    let is = header_takes id extent bytes size fits h.1 in
    let t = body.takes opened.0 fields v.0 (IsBytes-take (size - 6) (drop 6 bytes) (IsBytes-drop 6 bytes fits)) v.1 in
    let spelled_so : fields ≡ body.spell v.0.0 = t.0.parts ∙ ap (λ (r : List ℕ). body.spell v.0.0 ++ r) none ∙ append-nil (body.spell v.0.0) in
    let least = is.least in
    let there = is.there in
    let most = is.most in
    let long : length fields ≡ size - 6 = omega (arith, length-take (size - 6) (drop 6 bytes), length-drop 6 bytes) in
    let count : length (body.spell v.0.0) ≡ size - 6 = sym (ap length spelled_so) ∙ long in
    let sum : 6 + (size - 6) ≡ size = omega arith in
    let behind : drop (size - 6) (drop 6 bytes) ≡ drop size bytes = drop-drop (size - 6) 6 bytes ∙ ap (λ n. drop n bytes) sum in
    let length_is : size - 4 ≡ length (body.spell v.0.0) + 2 = omega arith in
    let parts : bytes ≡ block_bytes id (body.spell v.0.0) ++ drop size bytes =
    is.parts
    ∙ ap (λ (r : List ℕ). header_bytes id (size - 4) ++ r) (sym (take-append-drop (size - 6) (drop 6 bytes)) ∙ ap (λ (r : List ℕ). r ++ drop (size - 6) (drop 6 bytes)) spelled_so ∙ ap (λ (r : List ℕ). body.spell v.0.0 ++ r) behind)
    ∙ ap (λ n. header_bytes id n ++ (body.spell v.0.0 ++ drop size bytes)) length_is
    ∙ sym (append_assoc (header_bytes id (length (body.spell v.0.0) + 2)) (body.spell v.0.0) (drop size bytes)) in
    let made : A × List ℕ = (v.0.0, drop size bytes) in
    subst (λ (y : A × List ℕ). Takes bytes (block_bytes id (body.spell y.0)) y.1 × (body.Fits y.0 × (length (body.spell y.0) + 2 < 2 ^ 16))) (ok_is made x u.2)
    (record { parts = parts; rest_fits = IsBytes-drop size bytes fits }, (t.1, omega arith))

pub block_again : {A : Type 0} (id : BlockId) (body : Body A) (extent : Extent) (x : A) (rest : List ℕ) → id.kind < 2 ^ 16 → body.Fits x × (length (body.spell x) + 2 < 2 ^ 16) → block_at id body.read extent (block_bytes id (body.spell x) ++ rest) ≡ Ok (x, rest)
block_again id body extent x rest kind_fits fits =
    let inner = inner_of extent (block_bytes id (body.spell x) ++ rest) (4 + (length (body.spell x) + 2)) in
    rw (open_again id extent (body.spell x) rest kind_fits fits.1, body.again inner x fits.0) refl

type_sure : kinds.BadType ≡ kinds.NoMemory → ⊥
type_sure e = absurd cc

version_sure : kinds.BadVersion ≡ kinds.NoMemory → ⊥
version_sure e = absurd cc

length_sure : kinds.BadLength ≡ kinds.NoMemory → ⊥
length_sure e = absurd cc

trailing_sure : kinds.Trailing ≡ kinds.NoMemory → ⊥
trailing_sure e = absurd cc

-- a test whose failure is a fault of the bytes
guard_sure : {A : Type 0} (b : Bool) (d : BlockFault) (r : Result A BlockFault) → (d.kind ≡ kinds.NoMemory → ⊥) → IsSure r → IsSure (cond b (Err d) r)
guard_sure b d r other r_sure = sure_if b (failed d) r (sure_err d other) r_sure

pub header_sure : (id : BlockId) (extent : Extent) (bytes : List ℕ) → IsSure (header_at id extent bytes)
unfolding header_at
header_sure id extent bytes =
    sure_if _ _ _ (sure_missing extent)
    (guard_sure _ _ _ type_sure
    (guard_sure _ _ _ version_sure
    (guard_sure _ _ _ length_sure
    (sure_if _ _ _ (sure_missing extent) (sure_ok (4 + number_in 2 (drop 2 bytes)))))))

pub block_sure : {A : Type 0} (id : BlockId) (body : Body A) (extent : Extent) (bytes : List ℕ) → IsSure (block_at id body.read extent bytes)
block_sure id body extent bytes =
    sure_bind (open_at id extent bytes) (λ block. body.read block.0 block.1.0 >>= λ value. ended_at block.0 value.1 >>= λ _. Ok (value.0, block.1.1))
    (sure_map (header_at id extent bytes) (λ size. (inner_of extent bytes size, (take (size - 6) (drop 6 bytes), drop size bytes))) (header_sure id extent bytes)) (λ block.
    sure_bind (body.read block.0 block.1.0) (λ value. ended_at block.0 value.1 >>= λ _. Ok (value.0, block.1.1)) (body.sure block.0 block.1.0) (λ value.
    sure_map (ended_at block.0 value.1) (λ _. (value.0, block.1.1)) (sure_if (length value.1 == 0) (done tt) (failed (missing_of block.0)) (sure_ok tt) (sure_missing block.0))))

abbrev pub block : {A : Type 0} → (id : BlockId) → id.kind < 2 ^ 16 → Body A → Codec A
block id kind_fits body = record {
  spell = λ x. block_bytes id (body.spell x);
  Fits = λ x. body.Fits x × (length (body.spell x) + 2 < 2 ^ 16);
  read = block_at id body.read;
  takes = block_takes id body;
  again = λ extent x rest fits. block_again id body extent x rest kind_fits fits;
  sure = block_sure id body;
}

-- ---- a whole input

pub whole_takes : {A : Type 0} (c : Codec A) (bytes : List ℕ) (x : A) → IsBytes bytes → whole_of c.read bytes ≡ Ok x → c.Fits x × (bytes ≡ c.spell x)
whole_takes {A} c bytes x fits e =
    let a = bind_ok (c.read (input_of (length bytes)) bytes) (λ y. finished_at (length bytes) y.1 >>= λ _. Ok y.0) x e in
    let b = bind_ok (finished_at (length bytes) a.0.1) (λ _. Ok a.0.0) x a.2 in
    let none : a.0.1 ≡ [] = nil_from_length a.0.1 (eqb-true _ _ (guard_so (length a.0.1 == 0) (fault_at kinds.Trailing (length bytes - length a.0.1)) tt b.0 b.1).0) in
    let t = c.takes (input_of (length bytes)) bytes a.0 fits a.1 in
    let parts : bytes ≡ c.spell a.0.0 = t.0.parts ∙ ap (λ (r : List ℕ). c.spell a.0.0 ++ r) none ∙ append-nil (c.spell a.0.0) in
    subst (λ (y : A). c.Fits y × (bytes ≡ c.spell y)) (ok_is a.0.0 x b.2) (t.1, parts)

pub whole_again : {A : Type 0} (c : Codec A) (x : A) → c.Fits x → whole_of c.read (c.spell x) ≡ Ok x
whole_again c x fits = rw (ended_again c (input_of (length (c.spell x))) x fits) refl

pub whole_sure : {A : Type 0} (c : Codec A) (bytes : List ℕ) → IsSure (whole_of c.read bytes)
whole_sure c bytes =
    sure_bind (c.read (input_of (length bytes)) bytes) (λ x. finished_at (length bytes) x.1 >>= λ _. Ok x.0) (c.sure (input_of (length bytes)) bytes) (λ x.
    let d = fault_at kinds.Trailing (length bytes - length x.1) in
    sure_map (finished_at (length bytes) x.1) (λ _. x.0) (sure_if (length x.1 == 0) (done tt) (failed d) (sure_ok tt) (sure_err d trailing_sure)))

-- the law of a codec whose values are those that are valid
pub whole_law : {A : Type 0} (c : Codec A) (IsValid : A → Type 0) → ((v : A) → c.Fits v → IsValid v) → ((v : A) → IsValid v → c.Fits v) → ReadingIsSpelling (whole_of c.read) IsValid c.spell
whole_law c IsValid valid fits =
    one_spelling (whole_of c.read) IsValid c.spell (λ bytes v are_bytes e. let t = whole_takes c bytes v are_bytes e in (valid v t.0, t.1)) (λ v is. whole_again c v (fits v is))

module _ {A : Type 0} (read : List ℕ → Result A BlockFault) (IsValid : A → Type 0) (spell : A → List ℕ) (law : ReadingIsSpelling read IsValid spell) where
  -- what a reader returned is valid, and spelled so
  pub found_by : (bytes : List ℕ) (r : Result A BlockFault) → IsBytes bytes → Gives (λ (x : A). x) r (read bytes) → IfOk r (λ x. IsValid x × (bytes ≡ spell x))
  found_by bytes (Ok x) fits given = (law.reads bytes x fits).0 given
  found_by bytes (Err e) fits given = tt

  -- what is spelled so is returned, want of memory aside
  pub only_by : (bytes : List ℕ) (r : Result A BlockFault) → Gives (λ (x : A). x) r (read bytes) → (x : A) → IsValid x → bytes ≡ spell x → Gives (λ (y : A). y) r (Ok x)
  only_by bytes r given x valid e = subst (λ (answer : Result A BlockFault). Gives (λ (y : A). y) r answer) (ap read e ∙ law.back x valid) given

-- ---- the same bytes as another value, up to the end

pub body_view_again : {A B : Type 0} (c : Body A) (to : A → B) (from : B → A) (spell : B → List ℕ) (Fits : B → Type 0) (read : Reader B) (v : IsView c.spell c.Fits c.read to from spell Fits read)
    (extent : Extent) (x : B) → Fits x → read extent (spell x) ≡ Ok (x, [])
body_view_again {A} {B} c to from spell Fits read v extent x fits =
    let b = v.back x fits in
    let two : (c.read extent (c.spell (from x)) >>= λ y. Ok (to y.0, y.1)) ≡ Ok (to (from x), []) = rw (c.again extent (from x) b.0) refl in
    ap (read extent) (v.spell_is x) ∙ v.read_is extent (c.spell (from x)) ∙ two ∙ ap (λ (y : B). Ok (y, [])) b.1

abbrev pub body_view : {A B : Type 0} → (c : Body A) → (to : A → B) → (from : B → A) → (spell : B → List ℕ) → (Fits : B → Type 0) → (read : Reader B) → IsView c.spell c.Fits c.read to from spell Fits read → Body B
body_view c to from spell Fits read v = record {
  spell = spell;
  Fits = Fits;
  read = read;
  takes = view_takes c.spell c.Fits c.read to from spell Fits read v c.takes;
  again = body_view_again c to from spell Fits read v;
  sure = view_sure c.spell c.Fits c.read to from spell Fits read v c.sure;
}

-- ---- writing

-- the bytes of a block's fields, behind the place of its header
pub written_fits : (fields out : List ℕ) → length fields + 2 < 2 ^ 16 → out ≡ replicate 6 0 ++ fields → length out < 65540
written_fits fields out fits e = let size = ap length e ∙ length-append {A = ℕ} (replicate 6 0) fields in omega arith
