-- First fit has one answer: one order, one list of plans, and no overrun beside it.
use Rattle.std.proofs.Common.{◌≡◌, ℕ, zero, suc, ◌+◌, ◌<◌, ◌≤◌, inl, inr, List, [], ◌∷◌, ◌++◌, Some, length, slice_get, sym, ◌∙◌, ap, subst, arith, refl}
use Rattle.std.specs.Prelude.{take, AllPairs, slice_index_or}
use Rattle.std.proofs.lemmas.Bool.{cases_order, cases_lt}
use Rattle.std.proofs.lemmas.List.{take_all, take_more}
use Rattle.std.proofs.lemmas.Option.{same_Some, slice_get_within, get_or_from_slice_get}
use Rattle.irt_base.specs.declared.blocks.Bundle.{Bundle}
use Rattle.irt_base.specs.declared.numbers.FrameId.{FrameId}
use Rattle.irt_base.specs.declared.plants.Demand.{Demand}
use Rattle.irt_base.specs.declared.plants.Plant.{Plant}
use Rattle.irt_route.specs.Routes.{RouteTables, IsRoutesOf}
use Rattle.fit_rules.specs.declared.frame_plan.FramePlan.{FramePlan}
use Rattle.fit_rules.specs.Blocks.{AreBundlesOf, AreFirstFit}
use Rattle.fit_rules.specs.Fit.{IsFirstFit, HasNoFit}
use Rattle.fit_rules.specs.Order.{AreInOrder, IsEarlier, IsDemandAt, IsOrder, parents_of, IsPlacedAt, ArePlaced, IsFit, IsOverrun}
use Rattle.fit_rules.proofs.Counting.{no_longer, without, length-without, kept_without}
use Rattle.fit_rules.proofs.Known.{Known}
use Rattle.fit_rules.proofs.Lists.{place_of, some_at}
use Rattle.fit_rules.proofs.Merged.{one_farthest, not_earlier}
use Rattle.fit_rules.proofs.Once.{one_first_fit}
use Rattle.fit_rules.proofs.OneBundles.{same_bundles}
use Rattle.fit_rules.proofs.Placing.{routed_at}
use Rattle.fit_rules.proofs.Sorted.{IsStrict, one_sorted}

-- of two demands one alone is earlier
one_earlier : (plant : Plant) (d e : Demand) → IsEarlier plant d e → IsEarlier plant e d → ⊥
one_earlier plant d e a b =
    let first : a.hops ≤ b.other_hops = one_farthest plant d a.hops b.other_hops a.farthest b.other_farthest in
    let second : b.hops ≤ a.other_hops = one_farthest plant e b.hops a.other_hops b.farthest a.other_farthest in
    let third : b.other_hops ≤ a.hops = one_farthest plant d b.other_hops a.hops b.other_farthest a.farthest in
    elim a.before [
      | inl farther ↦ elim b.before [ inl nearer ↦ omega arith | inr tie ↦ omega (arith, tie.0) ]
      | inr tie ↦ elim b.before [
        | inl nearer ↦ omega (arith, tie.0)
        | inr again ↦ elim tie.1 [
          | inl longer ↦ elim again.1 [ inl shorter ↦ omega arith | inr same ↦ omega (arith, same.0) ]
          | inr same ↦ elim again.1 [ inl shorter ↦ omega (arith, same.0) | inr also ↦ omega (arith, same.1, also.1) ]
        ]
      ]
    ]

-- the numbers from one on, so many
abbrev counted : ℕ → ℕ → List ℕ
counted from zero = []
counted from (suc n) = from ∷ counted (suc from) n

length-counted : (from n : ℕ) → length (counted from n) ≡ n
length-counted from zero = refl
length-counted from (suc n) = ap suc (length-counted (suc from) n)

counted_at : (from n i x : ℕ) → slice_get (counted from n) i ≡ Some x → (x ≡ from + i) × (i < n)
counted_at from zero i x is = absurd (cc)
counted_at from (suc n) zero x is = (omega (arith, same_Some from x is), omega arith)
counted_at from (suc n) (suc i) x is = let (same, less) = counted_at (suc from) n i x is in (omega arith, omega arith)

counted_rising : (from n : ℕ) → AllPairs (λ a b. a < b) (counted from n)
counted_rising from n i j d less within =
    let (x, first) = some_at (counted from n) i (omega arith) in
    let (y, second) = some_at (counted from n) j within in
    let (low, _) = counted_at from n i x first in
    let (high, _) = counted_at from n j y second in
    let here_is : slice_index_or (counted from n) i d ≡ x = get_or_from_slice_get (counted from n) i x d first in
    let there : slice_index_or (counted from n) j d ≡ y = get_or_from_slice_get (counted from n) j y d second in
    let rising : x < y = omega arith in
    subst (λ v. v < slice_index_or (counted from n) j d) (sym here_is) (subst (λ v. x < v) (sym there) rising)

-- the order has indexes of demands alone, since it has them all and is as long as they
order_within : (plant : Plant) (order : List ℕ) → IsOrder plant order → (n index : ℕ) → slice_get order n ≡ Some index → index < length plant.demands
order_within plant order is n index at = elim (cases_lt index (length plant.demands)) [
  | inl less ↦ less
  | inr past ↦
      let all = length plant.demands in
      let few = no_longer (counted 0 all) (without order n) (counted_rising 0 all) (λ i x there.
      let (same, less) = counted_at 0 all i x there in
      let (m, has) = place_of order x (is.all x (omega arith)) in
      kept_without order m n x index has at (λ equal. absurd (omega arith))) in
      absurd (omega (arith, few, length-without order n index at, length-counted 0 all, is.count))
]

before_strict : (plant : Plant) → IsStrict (λ i. i < length plant.demands) (AreInOrder plant)
before_strict plant = record {
  never = λ i within before. let (d, at) = some_at plant.demands i within in not_earlier plant d (before d d at at);
  one_way = λ i j within also before after.
      let (d, at) = some_at plant.demands i within in
      let (e, there) = some_at plant.demands j also in
      one_earlier plant d e (before d e at there) (after e d there at);
}

pub one_order : (plant : Plant) (order other : List ℕ) → IsOrder plant order → IsOrder plant other → order ≡ other
one_order plant order other a b =
    one_sorted (λ i. i < length plant.demands) (AreInOrder plant) (before_strict plant) order other a.sorted b.sorted
    (λ n i is. order_within plant order a n i is) (λ n i is. place_of other i (b.all i (order_within plant order a n i is)))
    (λ n i is. place_of order i (a.all i (order_within plant other b n i is)))

take_next : (xs : List FramePlan) (n : ℕ) (x : FramePlan) → slice_get xs n ≡ Some x → take (n + 1) xs ≡ take n xs ++ x ∷ []
take_next xs n x is =
    take_more xs n x (slice_get_within xs n x is) ∙ ap (λ y. take n xs ++ y ∷ []) (get_or_from_slice_get xs n x x is)

module _ (known : Known) (plant : Plant) (routes : RouteTables) (are : IsRoutesOf plant routes) where
  same_place : (order : List ℕ) (placed : List FramePlan) (n : ℕ) (p q : FramePlan) →
      IsPlacedAt plant routes order placed n p → IsPlacedAt plant routes order placed n q → p ≡ q
  same_place order placed n p q a b =
      let index : b.index ≡ a.index = same_Some b.index a.index (sym b.next ∙ a.next) in
      let demand : b.demand ≡ a.demand = same_Some b.demand a.demand (sym b.there ∙ ap (slice_get plant.demands) index ∙ a.there) in
      one_first_fit plant (parents_of routes a.index) a.demand (routed_at known plant routes a.index a.demand are a.there) placed p q a.fit
      (subst (λ d. IsFirstFit plant (parents_of routes a.index) placed d q) demand (subst (λ i. IsFirstFit plant (parents_of routes i) placed b.demand q) index b.fit))

  -- what is placed first agrees
  pub same_fronts : (order : List ℕ) (ps qs : List FramePlan) →
      ArePlaced plant routes order ps → ArePlaced plant routes order qs → (n : ℕ) → n ≤ length ps → n ≤ length qs → take n ps ≡ take n qs
  same_fronts order ps qs a b zero first second = refl
  same_fronts order ps qs a b (suc n) first second =
      let before = same_fronts order ps qs a b n (omega arith) (omega arith) in
      let (p, is) = some_at ps n (omega arith) in
      let (q, at) = some_at qs n (omega arith) in
      let same = same_place order (take n ps) n p q (a n p is)
      (subst (λ placed. IsPlacedAt plant routes order placed n q) (sym before) (b n q at)) in
      let next : n + 1 ≡ suc n = omega arith in
      subst (λ m. take m ps ≡ take m qs) next (take_next ps n p is ∙ (λ i. before i ++ same i ∷ []) ∙ sym (take_next qs n q at))

  pub one_fit : (ps qs : List FramePlan) → IsFit plant routes ps → IsFit plant routes qs → ps ≡ qs
  one_fit ps qs a b =
      let order = one_order plant b.order a.order b.is_order a.is_order in
      let also = subst (λ o. ArePlaced plant routes o qs) order b.placed in
      let long : length ps ≡ length qs = a.all ∙ ap length (sym order) ∙ sym b.all in
      let front = same_fronts a.order ps qs a.placed also (length ps) (omega arith) (omega arith) in
      sym (take_all (length ps) ps (omega arith)) ∙ front ∙ take_all (length ps) qs (omega arith)

  -- no plan stands where first fit overruns
  none_after : (order : List ℕ) (ps qs : List FramePlan) → ArePlaced plant routes order ps →
      ArePlaced plant routes order qs → (index : ℕ) (demand : Demand) → slice_get order (length qs) ≡ Some index → IsDemandAt plant index demand →
      HasNoFit plant (parents_of routes index) qs demand → length qs < length ps → ⊥
  none_after order ps qs a b index demand next there none more =
      let n = length qs in
      let (p, is) = some_at ps n more in
      let has = a n p is in
      let front : take n ps ≡ qs = same_fronts order ps qs a b n (omega arith) (omega arith) ∙ take_all n qs (omega arith) in
      let same : has.index ≡ index = same_Some has.index index (sym has.next ∙ next) in
      let demands : has.demand ≡ demand = same_Some has.demand demand (sym has.there ∙ ap (slice_get plant.demands) same ∙ there) in
      let fit : IsFirstFit plant (parents_of routes index) qs demand p =
      subst (λ d. IsFirstFit plant (parents_of routes index) qs d p) demands
      (subst (λ i. IsFirstFit plant (parents_of routes i) qs has.demand p) same
      (subst (λ placed. IsFirstFit plant (parents_of routes has.index) placed has.demand p) front has.fit)) in
      none fit.phase p fit.is

  pub no_overrun : (ps : List FramePlan) (frame : FrameId) → IsFit plant routes ps → IsOverrun plant routes frame → ⊥
  no_overrun ps frame fit over =
      let order = one_order plant over.order fit.order over.is_order fit.is_order in
      let placed = subst (λ o. ArePlaced plant routes o over.plans) order over.placed in
      let next = subst (λ o. slice_get o (length over.plans) ≡ Some over.index) order over.next in
      none_after fit.order ps over.plans fit.placed placed over.index over.demand next over.there over.none
      (omega (arith, slice_get_within fit.order (length over.plans) over.index next, fit.all))

  pub one_overrun : (frame other : FrameId) → IsOverrun plant routes frame → IsOverrun plant routes other → frame ≡ other
  one_overrun frame other a b =
      let order = one_order plant b.order a.order b.is_order a.is_order in
      let placed = subst (λ o. ArePlaced plant routes o b.plans) order b.placed in
      let next = subst (λ o. slice_get o (length b.plans) ≡ Some b.index) order b.next in
      elim (cases_order (length a.plans) (length b.plans)) [
        | inl same ↦
            let index : a.index ≡ b.index = same_Some a.index b.index (sym a.next ∙ ap (slice_get a.order) same ∙ next) in
            let demand : a.demand ≡ b.demand = same_Some a.demand b.demand (sym a.there ∙ ap (slice_get plant.demands) index ∙ b.there) in
            sym a.named ∙ ap (λ (d : Demand). d.frame) demand ∙ b.named
        | inr (inl less) ↦ absurd (none_after a.order b.plans a.plans placed a.placed a.index a.demand a.next a.there a.none less)
        | inr (inr more) ↦ absurd (none_after a.order a.plans b.plans a.placed placed b.index b.demand next b.there b.none more)
      ]

  pub one_first_fit_of : (xs ys : List Bundle) → AreFirstFit plant routes xs → AreFirstFit plant routes ys → xs ≡ ys
  one_first_fit_of xs ys a b =
      let plans = one_fit b.plans a.plans b.fit a.fit in
      same_bundles plant a.plans xs ys a.blocks (subst (λ ps. AreBundlesOf plant ps ys) plans b.blocks)
