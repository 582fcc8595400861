-- The greatest number of links, stop by stop.
use Rattle.std.proofs.Common.{◌≡◌, ◌+◌, ◌<◌, ◌++◌, ◌∷◌, [], ℕ, inl, inr, List, length, get_or, take, refl, sym, ◌∙◌, subst, arith}
use Rattle.std.specs.Prelude.{IsBitSet}
use Rattle.std.proofs.lemmas.List.{take_more}
use Rattle.std.proofs.lemmas.List.Elements.{Contains-append_left, Contains-push, Contains-push_cases}
use Rattle.frame_ways.specs.declared.stops.Stop.{Stop}
use Rattle.frame_ways.specs.Layout.{IsMostHops, IsRaised}

pub none_kept : IsMostHops [] 0
none_kept = record { bound = λ x is. absurd (omega (arith, is.1.1)); some = inl refl }

one_more : (front : List Stop) (s : Stop) (old new : ℕ) → IsMostHops front old → IsRaised s old new → IsMostHops (front ++ s ∷ []) new
one_more front s old new most raised = record {
  bound = λ x is. elim (Contains-push_cases front s is.0 is.1) [
    | inl before ↦ omega (arith, most.bound x (is.0, before, is.2, is.3), raised.keeps)
    | inr now ↦ omega (arith, raised.bound (subst (λ (u : Stop). IsBitSet u.entry.tx 0) (sym now) is.2), subst (λ (u : Stop). u.hops ≡ x) (sym now) is.3)
  ];
  some = elim raised.some [
    | inr own ↦ inr (s, Contains-push front s, own.0, sym own.1)
    | inl same ↦ elim most.some [
      | inl none ↦ inl (same ∙ none)
      | inr kept ↦ inr (kept.0, Contains-append_left front (s ∷ []) kept.0 kept.1, kept.2, kept.3 ∙ sym same)
    ]
  ];
}

pub next_most : (stops : List Stop) (i : ℕ) (d : Stop) (old new : ℕ) → i < length stops → IsMostHops (take i stops) old →
    IsRaised (get_or stops i d) old new → IsMostHops (take (i + 1) stops) new
next_most stops i d old new inside most raised =
    subst (λ xs. IsMostHops xs new) (sym (take_more stops i d inside)) (one_more (take i stops) (get_or stops i d) old new most raised)
