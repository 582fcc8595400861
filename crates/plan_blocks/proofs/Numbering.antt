-- Assignments by the phases that first use them, phase by phase.
use Rattle.std.proofs.Common.{◌≡◌, ◌+◌, ◌<◌, ◌≤◌, ◌++◌, ◌∷◌, [], ℕ, inl, inr, List, Some, length, refl, sym, ◌∙◌, ap, subst, arith}
use Rattle.std.specs.Prelude.{slice_get}
use Rattle.std.proofs.lemmas.Bool.{cases_lt}
use Rattle.std.proofs.lemmas.Option.{slice_get_within}
use Rattle.irt_base.specs.declared.blocks.Assignment.{Assignment}
use Rattle.irt_base.specs.declared.blocks.PhasePair.{PhasePair}
use Rattle.irt_base.specs.declared.blocks.PortPeriods.{PortPeriods}
use Rattle.fit_rules.specs.Blocks.{IsBeforePhase}
use Rattle.plan_blocks.proofs.Lists.{get_more, get_kept, get_last, length_more}
use Rattle.plan_blocks.specs.Ends.{end_at}
use Rattle.plan_blocks.specs.Periods.{assignment_of, IsPair, ArePhasesBelow, IsNumber}

abbrev periods : List Assignment → List PhasePair → PortPeriods
periods assignments phases = record { assignments = assignments; phases = phases }

abbrev pair : ℕ → PhasePair
pair number = record { tx = number; rx = number }

-- A phase before stays one where assignments and phases are added.
more_before : (old new : List Assignment) (phases : List PhasePair) (p : PhasePair) (k n : ℕ) → IsBeforePhase (periods old phases) k n →
    IsBeforePhase (periods new (phases ++ p ∷ [])) k n
more_before old new phases p k n is = record {
  earlier = is.earlier;
  pair = is.pair;
  before = is.before;
  there = get_kept phases p is.earlier is.pair is.there;
  has = is.has;
}

later : (p : PortPeriods) (k m n : ℕ) → k ≤ m → IsBeforePhase p k n → IsBeforePhase p m n
later p k m n most is = record { earlier = is.earlier; pair = is.pair; before = omega (arith, is.before, most); there = is.there; has = is.has }

module _ (orange : ℕ) (tx rx : List ℕ) (device port k : ℕ) (old new : List Assignment) (phases : List PhasePair) (number : ℕ)
    (b : ArePhasesBelow orange tx rx device port k (periods old phases)) where
  here : IsBeforePhase (periods new (phases ++ pair number ∷ [])) (k + 1) number
  here = record { earlier = k; pair = pair number; before = omega arith; there = get_last phases (pair number) k (sym b.count); has = refl }

  -- what is numbered before has its periods still
  named_still : ((i : ℕ) (a : Assignment) → slice_get old i ≡ Some a → slice_get new i ≡ Some a) →
      slice_get new number ≡ Some (assignment_of orange (end_at tx device port k) (end_at rx device port k)) →
      (j : ℕ) (q : PhasePair) → slice_get (phases ++ pair number ∷ []) j ≡ Some q → IsPair orange (end_at tx device port j) (end_at rx device port j) new q
  named_still kept own j q at = elim (get_more phases (pair number) j q at) [
    | inl before ↦
        let is = b.each j q before in
        record { one = is.one; named = kept q.tx _ is.named }
    | inr last ↦
        let same : j ≡ k = last.0 ∙ b.count in
        record {
          one = ap (λ (x : PhasePair). x.rx) (sym last.1) ∙ ap (λ (x : PhasePair). x.tx) last.1;
          named = subst (λ (n : ℕ). slice_get new n ≡ Some (assignment_of orange (end_at tx device port j) (end_at rx device port j))) (ap (λ (x : PhasePair). x.tx) last.1)
              (subst (λ (n : ℕ). slice_get new number ≡ Some (assignment_of orange (end_at tx device port n) (end_at rx device port n))) (sym same) own);
        }
  ]

  known : new ≡ old → slice_get old number ≡ Some (assignment_of orange (end_at tx device port k) (end_at rx device port k)) →
      ArePhasesBelow orange tx rx device port (k + 1) (periods new (phases ++ pair number ∷ []))
  known same own = record {
    count = length_more phases (pair number) ∙ ap (λ (n : ℕ). n + 1) b.count;
    few = let less : length new ≤ k = subst (λ xs. length xs ≤ k) (sym same) b.few in omega (arith, less);
    each = named_still (λ i a at. subst (λ xs. slice_get xs i ≡ Some a) (sym same) at)
        (subst (λ xs. slice_get xs number ≡ Some (assignment_of orange (end_at tx device port k) (end_at rx device port k))) (sym same) own);
    differ = λ i j a first second. b.differ i j a (subst (λ xs. slice_get xs i ≡ Some a) same first) (subst (λ xs. slice_get xs j ≡ Some a) same second);
    used = λ i inside. later _ k (k + 1) i (omega arith) (more_before old new phases (pair number) k i (b.used i (subst (λ xs. i < length xs) same inside)));
    first = λ j i q at less. elim (get_more phases (pair number) j q at) [
      | inl before ↦ more_before old new phases (pair number) j i (b.first j i q before less)
      | inr last ↦
          let within : number < length old = slice_get_within old number _ own in
          let is : number ≡ q.tx = ap (λ (x : PhasePair). x.tx) last.1 in
          subst (λ (n : ℕ). IsBeforePhase (periods new (phases ++ pair number ∷ [])) n i) (sym (last.0 ∙ b.count))
          (more_before old new phases (pair number) k i (b.used i (omega (arith, less, is, within))))
    ];
  }

  added : (a : Assignment) → a ≡ assignment_of orange (end_at tx device port k) (end_at rx device port k) → new ≡ old ++ a ∷ [] → number ≡ length old →
      ((i : ℕ) → slice_get old i ≡ Some a → ⊥) → ArePhasesBelow orange tx rx device port (k + 1) (periods new (phases ++ pair number ∷ []))
  added a is grown last none = record {
    count = length_more phases (pair number) ∙ ap (λ (n : ℕ). n + 1) b.count;
    few =
        let long : length new ≡ length old + 1 = ap (λ (xs : List Assignment). length xs) grown ∙ length_more old a in
        let less : length old ≤ k = b.few in
        omega (arith, long, less);
    each = named_still (λ i x at. subst (λ xs. slice_get xs i ≡ Some x) (sym grown) (get_kept old a i x at))
        (subst (λ xs. slice_get xs number ≡ Some (assignment_of orange (end_at tx device port k) (end_at rx device port k))) (sym grown)
        (get_last old a number last ∙ ap (λ (x : Assignment). Some x) is));
    differ = λ i j x first second.
        elim (get_more old a i x (subst (λ xs. slice_get xs i ≡ Some x) grown first)) [
          | inl one ↦ elim (get_more old a j x (subst (λ xs. slice_get xs j ≡ Some x) grown second)) [
            | inl two ↦ b.differ i j x one two
            | inr two ↦ absurd (none i (one ∙ ap (λ (y : Assignment). Some y) (sym two.1)))
          ]
          | inr one ↦ elim (get_more old a j x (subst (λ xs. slice_get xs j ≡ Some x) grown second)) [
            | inl two ↦ absurd (none j (two ∙ ap (λ (y : Assignment). Some y) (sym one.1)))
            | inr two ↦ one.0 ∙ sym two.0
          ]
        ];
    used = λ i inside. elim (cases_lt i (length old)) [
      | inl less ↦ later _ k (k + 1) i (omega arith) (more_before old new phases (pair number) k i (b.used i less))
      | inr more ↦
          let long : length new ≡ length old + 1 = ap (λ (xs : List Assignment). length xs) grown ∙ length_more old a in
          let same : i ≡ number = omega (arith, more, long, inside, last) in
          subst (λ (n : ℕ). IsBeforePhase (periods new (phases ++ pair number ∷ [])) (k + 1) n) (sym same) here
    ];
    first = λ j i q at less. elim (get_more phases (pair number) j q at) [
      | inl before ↦ more_before old new phases (pair number) j i (b.first j i q before less)
      | inr end ↦
          let named : number ≡ q.tx = ap (λ (x : PhasePair). x.tx) end.1 in
          subst (λ (n : ℕ). IsBeforePhase (periods new (phases ++ pair number ∷ [])) n i) (sym (end.0 ∙ b.count))
          (more_before old new phases (pair number) k i (b.used i (omega (arith, less, named, last))))
    ];
  }

  pub one_more : (a : Assignment) → a ≡ assignment_of orange (end_at tx device port k) (end_at rx device port k) → IsNumber old a new number →
      ArePhasesBelow orange tx rx device port (k + 1) (periods new (phases ++ pair number ∷ []))
  one_more a is (inl there) = known there.0 (there.1 ∙ ap (λ (x : Assignment). Some x) is)
  one_more a is (inr fresh) = added a is fresh.0 fresh.1 fresh.2
