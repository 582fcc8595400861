-- Entries by ascending FrameID up to the block's end, and the whole block.
use Rattle.std.proofs.Common.{◌≡◌, ℕ, zero, suc, ◌+◌, ◌*◌, ◌^◌, ◌≤◌, ◌<◌, ◌==◌, Bool, true, false, List, [], ◌∷◌, ◌++◌, length, lit<, lit≤, inl, inr, Ok, refl, ap, subst, ◌∙◌, append_assoc, arith, slice_index}
use Rattle.std.specs.Prelude.{replicate}
use Rattle.std.specs.List.{AllByRecursion, flat_map}
use Rattle.std.specs.List.Sorted.{IsStrictlyIncreasing}
use Rattle.std.proofs.lemmas.List.{length-append}
use Rattle.std.proofs.lemmas.List.Concat.{flat_map-cons}
use Rattle.irt_base.specs.declared.limits.TheConstants.{MIN_FRAME, MAX_DEMANDS}
use Rattle.irt_base.specs.declared.blocks.Entry.{Entry}
use Rattle.irt_base.specs.declared.blocks.FrameBlock.{FrameBlock}
use Rattle.irt_base.specs.Valid.{IsEntry, IsFrameBlock, frames_of}
use Rattle.irt_block.specs.declared.extent.Extent.{Extent}
use Rattle.byte_laws.specs.Spelling.{ReadingIsSpelling}
use Rattle.irt_block.specs.Header.{whole_of}
use Rattle.irt_block.specs.Reading.{◌>>=◌, IsSure, spelled, within}
use Rattle.irt_block.proofs.Numbers.{length-spelled}
use Rattle.byte_laws.specs.Spelling.{IsBytes}
use Rattle.irt_block.proofs.Steps.{bind_ok, done, ok_is, chosen, Takes, Takes-then, sure_ok, sure_if, sure_bind, sure_map}
use Rattle.irt_block.proofs.Codec.{Codec, ruled, padding, pair_steps}
use Rattle.irt_block.proofs.Blocks.{Body, before, block, body_view, whole_law}
use Rattle.pdir_frame.specs.Frames.{frames_id, entry_bytes, properties_of, fields_bytes, frame_bytes, entry_at, entries_at, fields_at, frames_in}
use Rattle.irt_block.proofs.Rules.{within_rule}
use Rattle.pdir_frame.proofs.Entries.{entry_codec, entry_sure}

-- ---- entries

-- each FrameID is above the one before, and the first is `least` or more
abbrev pub Ascends : ℕ → List Entry → Type 0
Ascends least [] = Unit {0}
Ascends least (e ∷ es) = (least ≤ e.frame.0) × Ascends (e.frame.0 + 1) es

pub record AreEntries (n least : ℕ) (es : List Entry) : Type 0 where
  pub count : length es ≤ n
  pub each : AllByRecursion IsEntry es
  pub ascends : Ascends least es

pub length-entry : (e : Entry) → length (entry_bytes e) ≡ 20
unfolding spelled
length-entry e = refl

pub length-entries : (es : List Entry) → length (flat_map entry_bytes es) ≡ 20 * length es
length-entries [] = refl
length-entries (e ∷ es) =
    let rest = length-entries es in
    let first = length-entry e in
    let both : length (flat_map entry_bytes (e ∷ es)) ≡ length (entry_bytes e) + length (flat_map entry_bytes es) = ap length (flat_map-cons entry_bytes e es) ∙ length-append (entry_bytes e) (flat_map entry_bytes es) in
    omega (arith, both, rest, first)

is_empty_not : (bytes : List ℕ) → 1 ≤ length bytes → (length bytes == 0) ≡ false
is_empty_not bytes h = grind arith

pub entries_takes : (n least : ℕ) → MIN_FRAME ≤ least → (extent : Extent) (bytes : List ℕ) (x : List Entry × List ℕ) → IsBytes bytes → entries_at n least extent bytes ≡ Ok x → Takes bytes (flat_map entry_bytes x.0) x.1 × AreEntries n least x.0
unfolding entries_at
entries_takes zero least from extent bytes x fits e =
    subst (λ (y : List Entry × List ℕ). Takes bytes (flat_map entry_bytes y.0) y.1 × AreEntries 0 least y.0) (ok_is ([], bytes) x e) (record { parts = refl; rest_fits = fits }, record { count = omega arith; each = tt; ascends = tt })
entries_takes (suc n) least from extent bytes x fits e =
    elim (chosen (length bytes == 0) _ _ _ e) [
      | inl none ↦ subst (λ (y : List Entry × List ℕ). Takes bytes (flat_map entry_bytes y.0) y.1 × AreEntries (suc n) least y.0) (ok_is ([], bytes) x none.1) (record { parts = refl; rest_fits = fits }, record { count = omega arith; each = tt; ascends = tt })
      | inr more ↦
          let a = bind_ok (entry_at least extent bytes) (λ first. entries_at n (first.0.frame.0 + 1) extent first.1 >>= λ others. Ok (first.0 ∷ others.0, others.1)) x more.1 in
          let b = bind_ok (entries_at n (a.0.0.frame.0 + 1) extent a.0.1) (λ others. Ok (a.0.0 ∷ others.0, others.1)) x a.2 in
          let first = (entry_codec least from).takes extent bytes a.0 fits a.1 in
          let low = first.1.1 in
          let second = entries_takes n (a.0.0.frame.0 + 1) (omega arith) extent a.0.1 b.0 first.0.rest_fits b.1 in
          let count = second.1.count in
          let both = Takes-then bytes (entry_bytes a.0.0) a.0.1 (flat_map entry_bytes b.0.0) b.0.1 first.0 second.0 in
          let made : List Entry × List ℕ = (a.0.0 ∷ b.0.0, b.0.1) in
          subst (λ (y : List Entry × List ℕ). Takes bytes (flat_map entry_bytes y.0) y.1 × AreEntries (suc n) least y.0) (ok_is made x b.2)
          (rw flat_map-cons both, record { count = omega arith; each = (first.1.0, second.1.each); ascends = (low, second.1.ascends) })
    ]

pub entries_again : (n least : ℕ) → MIN_FRAME ≤ least → (extent : Extent) (es : List Entry) → AreEntries n least es → entries_at n least extent (flat_map entry_bytes es) ≡ Ok (es, [])
unfolding entries_at
entries_again zero least from extent [] fits = refl
entries_again zero least from extent (e ∷ es) fits = let h = fits.count in absurd (omega arith)
entries_again (suc n) least from extent [] fits = refl
entries_again (suc n) least from extent (e ∷ es) fits =
    let count = fits.count in
    let low = fits.ascends.0 in
    let cut : flat_map entry_bytes (e ∷ es) ≡ entry_bytes e ++ flat_map entry_bytes es = flat_map-cons entry_bytes e es in
    let long : (length (entry_bytes e ++ flat_map entry_bytes es) == 0) ≡ false = is_empty_not _ (omega (arith, length-append (entry_bytes e) (flat_map entry_bytes es), length-entry e)) in
    let one = (entry_codec least from).again extent e (flat_map entry_bytes es) (fits.each.0, low) in
    let others = entries_again n (e.frame.0 + 1) (omega arith) extent es (record { count = omega arith; each = fits.each.1; ascends = fits.ascends.1 }) in
    ap (entries_at (suc n) least extent) cut ∙ rw (long, one, others) refl

pub entries_sure : (n least : ℕ) (extent : Extent) (bytes : List ℕ) → IsSure (entries_at n least extent bytes)
unfolding entries_at
entries_sure zero least extent bytes = sure_ok ([], bytes)
entries_sure (suc n) least extent bytes =
    let more = λ (first : Entry × List ℕ). entries_at n (first.0.frame.0 + 1) extent first.1 >>= λ others. Ok (first.0 ∷ others.0, others.1) in
    sure_if (length bytes == 0) (done ([], bytes)) (entry_at least extent bytes >>= more) (sure_ok ([], bytes))
    (sure_bind (entry_at least extent bytes) more (entry_sure least extent bytes) (λ first.
    sure_map (entries_at n (first.0.frame.0 + 1) extent first.1) (λ others. (first.0 ∷ others.0, others.1)) (entries_sure n (first.0.frame.0 + 1) extent first.1)))

abbrev pub entries : (n least : ℕ) → MIN_FRAME ≤ least → Body (List Entry)
entries n least from = record {
  spell = flat_map entry_bytes;
  Fits = AreEntries n least;
  read = entries_at n least;
  takes = entries_takes n least from;
  again = entries_again n least from;
  sure = entries_sure n least;
}

-- ---- ascending, by neighbours

rises : (least : ℕ) (es : List Entry) → Ascends least es → IsStrictlyIncreasing (frames_of es)
rises least [] h k lt = absurd (omega arith)
rises least (e ∷ []) h k lt = absurd (omega arith)
rises least (e ∷ f ∷ es) h zero lt = let step = h.1.0 in omega arith
rises least (e ∷ f ∷ es) h (suc k) lt =
    let next : suc k + 1 ≡ suc (k + 1) = omega arith in
    rw next (rises (e.frame.0 + 1) (f ∷ es) h.1 k (omega arith))

tail_rises : (a : ℕ) (xs : List ℕ) → IsStrictlyIncreasing (a ∷ xs) → IsStrictlyIncreasing xs
tail_rises a xs h k lt =
    let next : suc k + 1 ≡ suc (k + 1) = omega arith in
    let one : slice_index (a ∷ xs) (suc k) < slice_index (a ∷ xs) (suc k + 1) = h (suc k) (omega arith) in
    let two : slice_index (a ∷ xs) (suc k) < slice_index (a ∷ xs) (suc (k + 1)) = subst (λ n. slice_index (a ∷ xs) (suc k) < slice_index (a ∷ xs) n) next one in
    two

ascends_from : (least : ℕ) (e : Entry) (es : List Entry) → least ≤ e.frame.0 → IsStrictlyIncreasing (frames_of (e ∷ es)) → Ascends least (e ∷ es)
ascends_from least e [] low h = (low, tt)
ascends_from least e (f ∷ es) low h =
    let step : e.frame.0 < f.frame.0 = h 0 (omega arith) in
    (low, ascends_from (e.frame.0 + 1) f es (omega arith) (tail_rises e.frame.0 (frames_of (f ∷ es)) h))

ascends_all : (es : List Entry) → AllByRecursion IsEntry es → IsStrictlyIncreasing (frames_of es) → Ascends MIN_FRAME es
ascends_all [] each h = tt
ascends_all (e ∷ es) each h = ascends_from MIN_FRAME e es each.0.frame.0 h

-- ---- the block

abbrev pub Fields : Type 0
Fields = Unit {0} × (ℕ × List Entry)

abbrev pub fields : Body Fields
fields = before (padding 2) (λ _. before (ruled 4 (within 0 1)) (λ _. entries MAX_DEMANDS MIN_FRAME (lit≤ tt)))

abbrev pub to_block : Fields → FrameBlock
to_block a = record { relative = a.1.0 == 1; entries = a.1.1 }

abbrev pub of_block : FrameBlock → Fields
of_block b = (tt, (properties_of b.relative, b.entries))

properties_again : (n : ℕ) → within 0 1 n ≡ true → properties_of (n == 1) ≡ n
properties_again zero h = refl
properties_again (suc zero) h = refl
properties_again (suc (suc n)) h = let r = within_rule 0 1 (suc (suc n)) h in absurd (omega (arith, r.1))

relative_again : (b : Bool) → (properties_of b == 1) ≡ b
relative_again true = refl
relative_again false = refl

properties_fit : (b : Bool) → (properties_of b < 256 ^ 4) × (within 0 1 (properties_of b) ≡ true)
properties_fit true = (lit< tt, refl)
properties_fit false = (lit< tt, refl)

pub frame_fits : (a : Fields) → fields.Fits a → IsFrameBlock (to_block a) × (of_block (to_block a) ≡ a)
frame_fits a f =
    let es = f.1.1 in (
      record { count = es.count; each = es.each; ascending = rises MIN_FRAME a.1.1 es.ascends },
      ap (λ (n : ℕ). (tt, (n, a.1.1))) (properties_again a.1.0 f.1.0.1),
    )

pub frame_back : (b : FrameBlock) → IsFrameBlock b → fields.Fits (of_block b) × (to_block (of_block b) ≡ b)
frame_back b f = (
  (tt, (properties_fit b.relative, record { count = f.count; each = f.each; ascends = ascends_all b.entries f.each f.ascending })),
  ap (λ (r : Bool). record { relative = r; entries = b.entries }) (relative_again b.relative),
)

pub frame_read : (extent : Extent) (bytes : List ℕ) → fields_at extent bytes ≡ (fields.read extent bytes >>= λ x. Ok (to_block x.0, x.1))
unfolding fields_at
frame_read extent bytes =
    pair_steps _ _ extent bytes _ _ (λ pad.
    pair_steps _ _ extent pad.1 _ _ (λ mode. refl))

pub frame_spell : (b : FrameBlock) → fields_bytes b ≡ fields.spell (of_block b)
frame_spell b = simp append_assoc

abbrev pub frame_fields : Body FrameBlock
frame_fields = body_view fields to_block of_block fields_bytes IsFrameBlock fields_at (record {
  spell_is = frame_spell;
  read_is = frame_read;
  fits = frame_fits;
  back = frame_back;
})

abbrev pub frame_codec : Codec FrameBlock
frame_codec = block frames_id (lit< tt) frame_fields

pub length-fields : (b : FrameBlock) → length (fields_bytes b) ≡ 6 + 20 * length b.entries
length-fields b =
    let es = length-entries b.entries in
    let p = length-spelled 4 (properties_of b.relative) in
    let front = length-append (replicate 2 0 ++ spelled 4 (properties_of b.relative)) (flat_map entry_bytes b.entries) in
    let first = length-append {A = ℕ} (replicate 2 0) (spelled 4 (properties_of b.relative)) in
    omega (arith, es, p, front, first)

-- what is valid has a spelling, and its size fits BlockLength
pub frame_fits_block : (b : FrameBlock) → IsFrameBlock b → frame_codec.Fits b
frame_fits_block b f = let n = f.count in (f, omega (arith, length-fields b))

-- reading the block and spelling it are one
pub frame_law : ReadingIsSpelling (whole_of frames_in) IsFrameBlock frame_bytes
frame_law = whole_law frame_codec IsFrameBlock (λ v f. f.0) frame_fits_block
