-- Entries in ascending order, and which one `find` gives.
use Rattle.std.proofs.Common.{◌≡◌, ◌≢◌, ◌<◌, ◌≤◌, ◌+◌, ◌-◌, ◌/◌, ◌==◌, ℕ, zero, suc, Bool, true, false, inl, inr, List, [], ◌∷◌, Some, None, length, get_or, slice_get, find, refl, sym, ◌∙◌, ap, subst, arith}
use Rattle.std.proofs.lemmas.Bool.{cases_Bool, cases_lt, cases_eq, eq-eqb, ne_eqb}
use Rattle.std.proofs.lemmas.Option.{slice_get-map, slice_get_within, get_or_from_slice_get, none-some, same_Some, slice_get-get_or}
use Rattle.std.proofs.lemmas.List.Kept.{AllPairs-from_increasing}
use Rattle.std.specs.List.Sorted.{IsStrictlyIncreasing}
use Rattle.irt_base.specs.Valid.{frames_of}
use Rattle.irt_base.specs.declared.blocks.Entry.{Entry}
use Rattle.irt_window.specs.Search.{entry_in, IsEntryIndex}

some-none : {A : Type 0} (x : A) → Some x ≡ None → ⊥
some-none x e = cc

-- the first element that passes
pub find_first : {A : Type 0} (test : A → Bool) (xs : List A) (n : ℕ) (x : A) → slice_get xs n ≡ Some x → test x ≡ true
    → ((k : ℕ) (y : A) → k < n → slice_get xs k ≡ Some y → test y ≡ false) → find test xs ≡ Some x
find_first test [] n x at passes before = absurd (none-some x at)
find_first test (y ∷ ys) zero x at passes before = rw (same_Some y x at, passes) refl
find_first test (y ∷ ys) (suc n) x at passes before =
    rw (before 0 y (omega arith) refl) (find_first test ys n x at passes (λ k z less is. before (suc k) z (omega arith) is))

pub find_none : {A : Type 0} (test : A → Bool) (xs : List A) → ((k : ℕ) (y : A) → slice_get xs k ≡ Some y → test y ≡ false)
    → find test xs ≡ None
find_none test [] all = refl
find_none test (y ∷ ys) all = rw (all 0 y refl) (find_none test ys (λ k z is. all (suc k) z is))

pub find_place : {A : Type 0} (test : A → Bool) (xs : List A) (x : A) → find test xs ≡ Some x
    → (n : ℕ) × (slice_get xs n ≡ Some x) × (test x ≡ true)
find_place test [] x found = absurd (none-some x found)
find_place test (y ∷ ys) x found =
    elim (cases_Bool (test y)) [
      | inl passes ↦
          let same : y ≡ x = same_Some y x (sym (rw passes refl) ∙ found) in
          (0, ap Some same, subst (λ z. test z ≡ true) same passes)
      | inr fails ↦ let (n, at, is) = find_place test ys x (sym (rw fails refl) ∙ found) in (suc n, at, is)
    ]

-- later entries have greater FrameIDs
pub record IsRising (entries : List Entry) : Type 0 where
  pub at : (i j : ℕ) (d e : Entry) → i < j → slice_get entries i ≡ Some d → slice_get entries j ≡ Some e → d.frame.0 < e.frame.0

key_at : (entries : List Entry) (i : ℕ) (e : Entry) → slice_get entries i ≡ Some e → slice_get (frames_of entries) i ≡ Some e.frame.0
key_at entries i e is = rw (slice_get-map (λ (e : Entry). e.frame.0) entries i, is) refl

pub rising : (entries : List Entry) → IsStrictlyIncreasing (frames_of entries) → IsRising entries
rising entries up =
    record {
      at = λ i j d e less first second.
          let pairs = AllPairs-from_increasing (frames_of entries) up in
          let within : j < length (frames_of entries) = slice_get_within (frames_of entries) j e.frame.0 (key_at entries j e second) in
          let below = pairs i j 0 less within in
          rw (
            get_or_from_slice_get (frames_of entries) i d.frame.0 0 (key_at entries i d first),
            get_or_from_slice_get (frames_of entries) j e.frame.0 0 (key_at entries j e second),
          ) at below;
    }

pub entry_at_place : (entries : List Entry) (n : ℕ) (e : Entry) → IsRising entries → slice_get entries n ≡ Some e
    → entry_in entries e.frame.0 ≡ Some e
entry_at_place entries n e up at =
    find_first (λ (d : Entry). d.frame.0 == e.frame.0) entries n e at (eq-eqb _ _ refl)
    (λ k d less is. ne_eqb d.frame.0 e.frame.0 (λ same. omega (arith, up.at k n d e less is at)))

-- how far a search between two places has come
pub record IsSearched (entries : List Entry) (frame low high : ℕ) : Type 0 where
  pub order : low ≤ high
  pub within : high ≤ length entries
  pub below : (k : ℕ) (e : Entry) → k < low → slice_get entries k ≡ Some e → e.frame.0 < frame
  pub above : (k : ℕ) (e : Entry) → high ≤ k → slice_get entries k ≡ Some e → frame < e.frame.0

pub search_begins : (entries : List Entry) (frame : ℕ) → IsSearched entries frame 0 (length entries)
search_begins entries frame =
    record {
      order = omega arith;
      within = omega arith;
      below = λ k e less is. absurd (omega arith);
      above = λ k e past is. absurd (omega (arith, slice_get_within entries k e is));
    }

pub search_right : (entries : List Entry) (frame low high middle : ℕ) (d : Entry) → IsRising entries → IsSearched entries frame low high
    → low ≤ middle → middle < high → slice_get entries middle ≡ Some d → d.frame.0 < frame → IsSearched entries frame (middle + 1) high
search_right entries frame low high middle d up s from until at less =
    record {
      order = omega arith;
      within = s.within;
      below = λ k e before is. elim (cases_eq k middle) [
        | inl same ↦ subst (λ (x : Entry). x.frame.0 < frame) (same_Some d e (sym at ∙ ap (λ n. slice_get entries n) (sym same) ∙ is)) less
        | inr other ↦ omega (arith, up.at k middle e d (omega arith) is at)
      ];
      above = s.above;
    }

pub search_left : (entries : List Entry) (frame low high middle : ℕ) (d : Entry) → IsRising entries → IsSearched entries frame low high
    → low ≤ middle → middle < high → slice_get entries middle ≡ Some d → frame < d.frame.0 → IsSearched entries frame low middle
search_left entries frame low high middle d up s from until at more =
    record {
      order = from;
      within = omega (arith, s.within);
      below = s.below;
      above = λ k e past is. elim (cases_eq k middle) [
        | inl same ↦ subst (λ (x : Entry). frame < x.frame.0) (same_Some d e (sym at ∙ ap (λ n. slice_get entries n) (sym same) ∙ is)) more
        | inr other ↦ omega (arith, up.at middle k d e (omega arith) at is)
      ];
    }

pub search_ends : (entries : List Entry) (frame low high : ℕ) → IsSearched entries frame low high → high ≤ low → entry_in entries frame ≡ None
search_ends entries frame low high s met =
    find_none (λ (e : Entry). e.frame.0 == frame) entries
    (λ k e is. ne_eqb e.frame.0 frame (λ same. elim (cases_lt k low) [
      | inl before ↦ omega (arith, s.below k e before is)
      | inr past ↦ omega (arith, s.above k e (omega arith) is)
    ]))

-- the place that a search looks at
abbrev pub middle_of : ℕ → ℕ → ℕ
middle_of low high = low + (high - low) / 2

read_at : (entries : List Entry) (low high : ℕ) (z : Entry) → high ≤ length entries → low < high
    → slice_get entries (middle_of low high) ≡ Some (get_or entries (middle_of low high) z)
read_at entries low high z within less = slice_get-get_or entries (middle_of low high) z (omega arith)

pub goes_right : (entries : List Entry) (frame low high : ℕ) (z : Entry) → IsStrictlyIncreasing (frames_of entries)
    → IsSearched entries frame low high → low < high → (get_or entries (middle_of low high) z).frame.0 < frame
    → IsSearched entries frame (middle_of low high + 1) high
goes_right entries frame low high z up s less is =
    search_right entries frame low high (middle_of low high) (get_or entries (middle_of low high) z) (rising entries up) s (omega arith) (omega arith)
    (read_at entries low high z s.within less) is

pub goes_left : (entries : List Entry) (frame low high : ℕ) (z : Entry) → IsStrictlyIncreasing (frames_of entries)
    → IsSearched entries frame low high → low < high → frame ≤ (get_or entries (middle_of low high) z).frame.0
    → (get_or entries (middle_of low high) z).frame.0 ≢ frame → IsSearched entries frame low (middle_of low high)
goes_left entries frame low high z up s less is other =
    search_left entries frame low high (middle_of low high) (get_or entries (middle_of low high) z) (rising entries up) s (omega arith) (omega arith)
    (read_at entries low high z s.within less) (omega arith)

pub search_finds : (entries : List Entry) (frame low high : ℕ) (z : Entry) → IsStrictlyIncreasing (frames_of entries)
    → IsSearched entries frame low high → low < high → (get_or entries (middle_of low high) z).frame.0 ≡ frame
    → IsEntryIndex entries frame (Some (middle_of low high))
search_finds entries frame low high z up s less is =
    let at = read_at entries low high z s.within less in (
      get_or entries (middle_of low high) z,
      at,
      subst (λ (f : ℕ). entry_in entries f ≡ Some (get_or entries (middle_of low high) z)) is
          (entry_at_place entries (middle_of low high) (get_or entries (middle_of low high) z) (rising entries up) at),
      is,
    )
