-- What it is to be the publication of a number.
use Rattle.std.specs.Prelude.{Option, Some, slice_get}
use Rattle.std.proofs.Common.{◌≡◌, ◌↔◌, ℕ, zero, suc, ◌-◌, ◌<◌, List, [], length, get_or, sym, ap, ◌∙◌, subst, arith}
use Rattle.std.proofs.lemmas.Option.{get_or_from_slice_get, slice_get-get_or, slice_get_within}
use Rattle.io_buffers.specs.Given.{Given}
use Rattle.iso_rules.specs.Legal.{IsPublished}
use Rattle.log_words.specs.Published.{after_zeros, IsZerosOrLater}

at_place : (ps : List (List ℕ)) (n : ℕ) (words : List ℕ)
    → (slice_get ps n ≡ Some words) ↔ ((n < length ps) × (words ≡ get_or ps n []))
at_place ps n words = (
  λ h. (slice_get_within ps n words h, sym (get_or_from_slice_get ps n words [] h)),
  λ h. slice_get-get_or ps n [] h.0 ∙ ap Some (sym h.1),
)

of_number : (count n : ℕ) (ps : List (List ℕ)) (words : List ℕ)
    → IsZerosOrLater count n (slice_get ps (n - 1)) words
    ↔ ((n < length (after_zeros count ps)) × (words ≡ get_or (after_zeros count ps) n []))
of_number count zero ps words = (λ h. (omega arith, h), λ h. h.1)
of_number count (suc n) ps words =
    let e : suc n - 1 ≡ n = omega arith in
    let place = at_place ps n words in (
      λ h. (let found = place.0 (subst (λ (m : ℕ). slice_get ps m ≡ Some words) e h) in
          (omega (arith, found.0), found.1)),
      λ h. subst (λ (m : ℕ). slice_get ps m ≡ Some words) (sym e) (place.1 (omega (arith, h.0), h.1)),
    )

-- a test that says so of words tells whether a take of them is published
pub published_where : (P : Type 0) (count : ℕ) (ps : List (List ℕ)) (t : Given) (later : Option (List ℕ)) (place : ℕ)
    → place ≡ t.taken.number - 1 → later ≡ slice_get ps place
    → (P ↔ IsZerosOrLater count t.taken.number later t.words)
    → P ↔ IsPublished (after_zeros count ps) t
published_where P count ps t later place here at so =
    let Q : Option (List ℕ) → Type 0 = λ o. IsZerosOrLater count t.taken.number o t.words in
    let e : later ≡ slice_get ps (t.taken.number - 1) = at ∙ ap (λ (m : ℕ). slice_get ps m) here in
    let n = of_number count t.taken.number ps t.words in (
      λ p. (let h = n.0 (subst Q e (so.0 p)) in record { made = h.0; whole = h.1 }),
      λ h. so.1 (subst Q (sym e) (n.1 (h.made, h.whole))),
    )
