-- Offsets of the anchors one after the other.
use Rattle.std.proofs.Common.{◌≡◌, ◌≢◌, ◌+◌, ◌<◌, ◌≤◌, ℕ, zero, suc, inl, inr, List, Option, Some, None, length, get_or, set, refl, sym, ◌∙◌, ap, subst, arith}
use Rattle.std.specs.Prelude.{slice_get, replicate, IfSome, IfNone}
use Rattle.std.proofs.lemmas.Bool.{cases_lt, cases_eq}
use Rattle.std.proofs.lemmas.List.{get_or-set_same, get_or-set_other, length-set}
use Rattle.std.proofs.lemmas.List.Elements.{All-set, All-replicate}
use Rattle.std.proofs.lemmas.Option.{slice_get_within, get_or_from_slice_get, slice_get-get_or, same_Some}
use Rattle.fit_rules.specs.Fit.{IsLeastFrom}
use Rattle.gap_table.specs.declared.slot.Slot.{Slot}
use Rattle.placement.specs.Layouts.{IsLayout, IsAfter, StandsBefore, AreSmall, AreLimits, offset_at, ready_after, end_of}
use Rattle.placement.specs.Placings.{IsOpen, ArePlaced, ArePlacedBelow, IsEnd}
use Rattle.placement.specs.declared.layout.TheConstants.{MAX_TIME}
use Rattle.placement.specs.declared.search.TheConstants.{MAX_OFFSET}
use Rattle.placement.specs.declared.layout.After.{After}
use Rattle.placement.specs.declared.layout.Anchor.{Anchor}
use Rattle.placement.specs.declared.layout.Layout.{Layout}
use Rattle.placement.specs.declared.layout.Limits.{Limits}
use Rattle.placement.specs.declared.layout.Rate.{Rate}

-- there is one least number
pub one_least : (Holds : ℕ → Type 0) (from x y : ℕ) → IsLeastFrom Holds from x → IsLeastFrom Holds from y → x ≡ y
one_least Holds from x y first second = elim (cases_lt x y) [
  | inl less ↦ absurd (second.least x first.reached less first.holds)
  | inr more ↦ elim (cases_eq x y) [
    | inl same ↦ same
    | inr other ↦ absurd (first.least y second.reached (omega (arith, more, other)) second.holds)
  ]
]

-- offsets of the anchors before a place, as small as the red limit
pub record ArePlacedSome (limits : Limits) (rate : Rate) (layout : Layout) (tables : List (List Slot)) (below : ℕ) (offsets : List ℕ) : Type 0 where
  pub long : length offsets ≡ 64
  pub small : AreSmall offsets
  pub placed : ArePlacedBelow limits rate layout tables below offsets

module _ (limits : Limits) (rate : Rate) (layout : Layout) (tables : List (List Slot)) (valid : IsLayout layout) where
  -- the offsets agree at the anchors before a place
  abbrev AgreeBelow : ℕ → List ℕ → List ℕ → Type 0
  AgreeBelow below xs ys = (n : ℕ) (a : Anchor) → n < below → slice_get layout.anchors n ≡ Some a → offset_at xs a.device.0 ≡ offset_at ys a.device.0

  agree_before : (xs ys : List ℕ) (n device : ℕ) → AgreeBelow n xs ys → StandsBefore layout.anchors n device → offset_at xs device ≡ offset_at ys device
  agree_before xs ys n device agree (m, a, less, is, named) = subst (λ (d : ℕ). offset_at xs d ≡ offset_at ys d) named (agree m a less is)

  same_ready : (xs ys : List ℕ) (n : ℕ) (a : Anchor) (after : Option After) → a.after ≡ after → slice_get layout.anchors n ≡ Some a →
      AgreeBelow n xs ys → ready_after xs after ≡ ready_after ys after
  same_ready xs ys n a None is there agree = refl
  same_ready xs ys n a (Some f) is there agree =
      ap (λ (x : ℕ). x + f.gap) (agree_before xs ys n f.anchor.0 agree ((valid.anchors n a there).after f is).0)

  agree : (xs ys : List ℕ) (below : ℕ) → ArePlacedBelow limits rate layout tables below xs → ArePlacedBelow limits rate layout tables below ys → AgreeBelow below xs ys
  agree xs ys zero first second n a less there = absurd (omega (arith, less))
  agree xs ys (suc below) first second n a less there =
      let before : AgreeBelow below xs ys =
      agree xs ys below (λ m b under is. first m b (omega (arith, under)) is) (λ m b under is. second m b (omega (arith, under)) is) in
      elim (cases_lt n below) [
        | inl early ↦ before n a early there
        | inr late ↦
            let here : AgreeBelow n xs ys = λ m b under is. before m b (omega (arith, under, less)) is in
            let ready = same_ready xs ys n a a.after refl there here in
            one_least (IsOpen limits rate layout tables a.device.0) (ready_after xs a.after) (offset_at xs a.device.0) (offset_at ys a.device.0)
            (first n a less there)
            (subst (λ (r : ℕ). IsLeastFrom (IsOpen limits rate layout tables a.device.0) r (offset_at ys a.device.0)) (sym ready) (second n a less there))
      ]

  open_small : AreLimits limits → (n offset : ℕ) (a : Anchor) → slice_get layout.anchors n ≡ Some a → IsOpen limits rate layout tables a.device.0 offset → offset ≤ MAX_TIME
  open_small within n offset a there is =
      let (s, has, hangs) = (valid.anchors n a there).used in
      let red : end_of limits layout.wire s offset ≤ limits.red_max = (is s has hangs).red in
      omega (arith, red, within.red)

  ready_kept : (offsets : List ℕ) (device offset : ℕ) (after : Option After) → ((f : After) → after ≡ Some f → f.anchor.0 ≢ device) →
      ready_after (set offsets device offset) after ≡ ready_after offsets after
  ready_kept offsets device offset None other = refl
  ready_kept offsets device offset (Some f) other = ap (λ (x : ℕ). x + f.gap) (get_or-set_other offsets device f.anchor.0 offset 0 (other f refl))

  -- an anchor differs from those before it
  differs : (n m : ℕ) (a b : Anchor) → m < n → slice_get layout.anchors n ≡ Some a → slice_get layout.anchors m ≡ Some b → b.device.0 ≢ a.device.0
  differs n m a b less there here =
      let apart = valid.once m n a less (slice_get_within layout.anchors n a there) in
      λ same. apart (ap (λ (x : Anchor). x.device.0) (get_or_from_slice_get layout.anchors m b a here) ∙ same
      ∙ sym (ap (λ (x : Anchor). x.device.0) (get_or_from_slice_get layout.anchors n a a there)))

  before_differs : (n m device : ℕ) (a : Anchor) → m ≤ n → slice_get layout.anchors n ≡ Some a → StandsBefore layout.anchors m device → device ≢ a.device.0
  before_differs n m device a most there (k, b, less, is, named) same = differs n k a b (omega (arith, less, most)) there is (named ∙ same)

  pub next_offset : (n offset : ℕ) (a : Anchor) (offsets : List ℕ) → AreLimits limits → slice_get layout.anchors n ≡ Some a →
      ArePlacedSome limits rate layout tables n offsets → IsLeastFrom (IsOpen limits rate layout tables a.device.0) (ready_after offsets a.after) offset →
      ArePlacedSome limits rate layout tables (n + 1) (set offsets a.device.0 offset)
  next_offset n offset a offsets within there placed least =
      let known = valid.anchors n a there in
      let inside : a.device.0 < length offsets = omega (arith, known.device, placed.long) in
      let at_own : get_or (set offsets a.device.0 offset) a.device.0 0 ≡ offset = get_or-set_same offsets a.device.0 offset 0 inside in
      record {
        long = length-set offsets a.device.0 offset ∙ placed.long;
        small = All-set (λ (x : ℕ). x ≤ MAX_TIME) offsets a.device.0 offset (open_small within n offset a there least.holds) placed.small;
        placed = λ m b under is. elim (cases_eq m n) [
          | inl same ↦
              let one : b ≡ a = same_Some b a (sym is ∙ ap (slice_get layout.anchors) same ∙ there) in
              subst (λ (x : Anchor). IsLeastFrom (IsOpen limits rate layout tables x.device.0) (ready_after (set offsets a.device.0 offset) x.after)
              (offset_at (set offsets a.device.0 offset) x.device.0)) (sym one)
              (subst (λ (x : ℕ). IsLeastFrom (IsOpen limits rate layout tables a.device.0) (ready_after (set offsets a.device.0 offset) a.after) x) (sym at_own)
              (subst (λ (r : ℕ). IsLeastFrom (IsOpen limits rate layout tables a.device.0) r offset)
              (sym (ready_kept offsets a.device.0 offset a.after (λ f after. before_differs n n f.anchor.0 a (omega arith) there (known.after f after).0))) least))
          | inr other ↦
              let less : m < n = omega (arith, under, other) in
              let was = placed.placed m b less is in
              let kept : offset_at (set offsets a.device.0 offset) b.device.0 ≡ offset_at offsets b.device.0 =
              get_or-set_other offsets a.device.0 b.device.0 offset 0 (differs n m a b less there is) in
              subst (λ (x : ℕ). IsLeastFrom (IsOpen limits rate layout tables b.device.0) (ready_after (set offsets a.device.0 offset) b.after) x) (sym kept)
              (subst (λ (r : ℕ). IsLeastFrom (IsOpen limits rate layout tables b.device.0) r (offset_at offsets b.device.0))
              (sym (ready_kept offsets a.device.0 offset b.after
              (λ f after. before_differs n m f.anchor.0 a (omega (arith, less)) there ((valid.anchors m b is).after f after).0))) was)
        ];
      }

  -- where an anchor has no offset behind those of the others, no offsets are placed
  pub no_offsets : (n : ℕ) (a : Anchor) (offsets : List ℕ) → slice_get layout.anchors n ≡ Some a → ArePlacedSome limits rate layout tables n offsets →
      ((x : ℕ) → ready_after offsets a.after ≤ x → ¬ IsOpen limits rate layout tables a.device.0 x) → (others : List ℕ) → ¬ ArePlaced limits rate layout tables others
  no_offsets n a offsets there placed none others all =
      let inside = slice_get_within layout.anchors n a there in
      let same = agree offsets others n placed.placed (λ m b under is. all m b (omega (arith, under, inside)) is) in
      let ready = same_ready offsets others n a a.after refl there same in
      let least = all n a inside there in
      none (offset_at others a.device.0) (omega (arith, ready, least.reached)) least.holds

  -- there is one end
  end_le : (xs ys : List ℕ) (x y : ℕ) → ArePlaced limits rate layout tables xs → ArePlaced limits rate layout tables ys → IsEnd limits layout xs x → IsEnd limits layout ys y → x ≤ y
  end_le xs ys x y first second ends others =
      let (s, has, is) = ends.some in
      let same : offset_at xs s.anchor.0 ≡ offset_at ys s.anchor.0 =
      agree_before xs ys (length layout.anchors) s.anchor.0 (agree xs ys (length layout.anchors) first second) (valid.hangs s has) in
      let bound : end_of limits layout.wire s (offset_at ys s.anchor.0) ≤ y = others.bound s has in
      omega (arith, is, same, bound)

  pub one_end : (xs ys : List ℕ) (x y : ℕ) → ArePlaced limits rate layout tables xs → ArePlaced limits rate layout tables ys → IsEnd limits layout xs x → IsEnd limits layout ys y → x ≡ y
  one_end xs ys x y first second ends others =
      let less = end_le xs ys x y first second ends others in
      let more = end_le ys xs y x second first others ends in
      omega (arith, less, more)

zeros_small : AreSmall (replicate 64 0)
zeros_small = All-replicate (λ (x : ℕ). x ≤ MAX_TIME) 64 0 (omega arith)

-- no anchor is placed yet
pub none_placed : (limits : Limits) (rate : Rate) (layout : Layout) (tables : List (List Slot)) → ArePlacedSome limits rate layout tables 0 (replicate 64 0)
none_placed limits rate layout tables = record { long = refl; small = zeros_small; placed = λ n a less there. absurd (omega (arith, less)) }

pub item_there : {X : Type 0} (items all : List X) (n : ℕ) (d : X) → items ≡ all → n < length items → slice_get all n ≡ Some (get_or items n d)
item_there items all n d same inside = subst (λ xs. slice_get xs n ≡ Some (get_or items n d)) same (slice_get-get_or items n d inside)

after_of : (a : Anchor) (after : Option After) → ((f : After) → a.after ≡ Some f → IsAfter f) → a.after ≡ after → IfSome after IsAfter
after_of a None all is = tt
after_of a (Some f) all is = all f is

pub is_after : (layout : Layout) → IsLayout layout → (n : ℕ) (a : Anchor) → slice_get layout.anchors n ≡ Some a → IfSome a.after IsAfter
is_after layout valid n a there = after_of a a.after (λ f is. ((valid.anchors n a there).after f is).1) refl

pub ready_small : (offsets : List ℕ) (after : Option After) → length offsets ≡ 64 → AreSmall offsets → IfSome after IsAfter → ready_after offsets after ≤ MAX_OFFSET
ready_small offsets None long small valid = omega arith
ready_small offsets (Some f) long small valid =
    let one = small f.anchor.0 0 (omega (arith, long, valid.anchor)) in
    omega (arith, one, valid.gap)

pub on_none : {A : Type 0} (o : Option A) (P : Type 0) → P → IfNone o P
on_none None P p = p
on_none (Some x) P p = tt

pub some_sending : (layout : Layout) → IsLayout layout → 1 ≤ length layout.anchors → 1 ≤ length layout.sendings
some_sending layout valid some =
    let (s, has, hangs) = (valid.anchors 0 (get_or layout.anchors 0 none) (slice_get-get_or layout.anchors 0 none some)).used in
    omega (arith, has.1)
  where
    none : Anchor
    none = record { device = record { 0 = 0 }; after = None }
