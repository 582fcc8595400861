-- The blocks of placed frames are one.
use Rattle.std.proofs.Common.{◌≡◌, ℕ, zero, suc, ◌+◌, ◌<◌, ◌≤◌, inl, inr, List, [], ◌∷◌, Option, Some, None, length, slice_get, sym, ◌∙◌, ap, subst, arith, refl}
use Rattle.std.specs.Prelude.{AllPairs, slice_index_or}
use Rattle.std.proofs.lemmas.Bool.{cases_order}
use Rattle.std.proofs.lemmas.List.{length-map}
use Rattle.std.proofs.lemmas.List.Kept.{AllPairs-from_increasing}
use Rattle.std.proofs.lemmas.Option.{same_Some, slice_get_within, get_or_from_slice_get, slice_get-map, slice_get-get_or}
use Rattle.irt_base.specs.Valid.{frames_of}
use Rattle.irt_base.specs.declared.blocks.Bundle.{Bundle}
use Rattle.irt_base.specs.declared.blocks.Entry.{Entry}
use Rattle.irt_base.specs.declared.blocks.Period.{Period}
use Rattle.irt_base.specs.declared.blocks.PeriodBlock.{PeriodBlock}
use Rattle.irt_base.specs.declared.blocks.PhasePair.{PhasePair}
use Rattle.irt_base.specs.declared.blocks.PortPeriods.{PortPeriods}
use Rattle.irt_base.specs.declared.plants.Device.{Device}
use Rattle.irt_base.specs.declared.plants.Plant.{Plant}
use Rattle.fit_rules.specs.declared.frame_plan.FramePlan.{FramePlan}
use Rattle.fit_rules.specs.Blocks.{AreEntries, IsGreatest, IsSentEnd, IsReceivedEnd, IsTxPeriod, IsRxPeriod, IsPhase, ArePortPeriods, ArePeriods, IsBundleOf, AreBundlesOf}
use Rattle.fit_rules.proofs.Lists.{contains_at, place_of, some_at}
use Rattle.fit_rules.proofs.Sorted.{IsStrict, one_sorted}

-- two lists with the same items at the same places
same_items : {X : Type 0} (xs ys : List X) → length xs ≡ length ys → ((n : ℕ) (x y : X) → slice_get xs n ≡ Some x → slice_get ys n ≡ Some y → x ≡ y) → xs ≡ ys
same_items [] [] long each = refl
same_items [] (y ∷ ys) long each = absurd (omega arith)
same_items (x ∷ xs) [] long each = absurd (omega arith)
same_items (x ∷ xs) (y ∷ ys) long each =
    let first : x ≡ y = each 0 x y refl refl in
    let rest = same_items xs ys (omega arith) (λ n a b is at. each (suc n) a b is at) in
    λ i. first i ∷ rest i

entry_strict : IsStrict (λ (e : Entry). ℕ) (λ (e g : Entry). e.frame.0 < g.frame.0)
entry_strict = record { never = λ e _ less. omega arith; one_way = λ e g _ _ less more. omega arith }

entries_sorted : (entries : List Entry) → AllPairs (λ a b. a < b) (frames_of entries) → AllPairs (λ (e g : Entry). e.frame.0 < g.frame.0) entries
entries_sorted entries rising i j d less within =
    let e = slice_index_or entries i d in
    let g = slice_index_or entries j d in
    let first = slice_get-map (λ (x : Entry). x.frame.0) entries i ∙ ap (λ o. frame_of o) (slice_get-get_or entries i d (omega arith)) in
    let second = slice_get-map (λ (x : Entry). x.frame.0) entries j ∙ ap (λ o. frame_of o) (slice_get-get_or entries j d within) in
    let below = rising i j 0 less (omega (arith, length-map entries (λ (x : Entry). x.frame.0), within)) in
    subst (λ n. n < g.frame.0) (get_or_from_slice_get (frames_of entries) i e.frame.0 0 first)
    (subst (λ n. slice_index_or (frames_of entries) i 0 < n) (get_or_from_slice_get (frames_of entries) j g.frame.0 0 second) below)
  where
    frame_of : Option Entry → Option ℕ
    frame_of None = None
    frame_of (Some x) = Some x.frame.0

same_entries : (plans : List FramePlan) (device : ℕ) (xs ys : List Entry) → AreEntries plans device xs → AreEntries plans device ys → xs ≡ ys
same_entries plans device xs ys a b =
    one_sorted (λ (e : Entry). ℕ) (λ (e g : Entry). e.frame.0 < g.frame.0) entry_strict xs ys
    (entries_sorted xs (AllPairs-from_increasing (frames_of xs) a.ascending)) (entries_sorted ys (AllPairs-from_increasing (frames_of ys) b.ascending))
    (λ n e is. 0)
    (λ n e is. let (plan, placed, there) = a.only e (contains_at xs n e is) in place_of ys e (b.all plan e placed there))
    (λ n e is. let (plan, placed, there) = b.only e (contains_at ys n e is) in place_of xs e (a.all plan e placed there))

greatest_below : (Holds : ℕ → Type 0) (n m : ℕ) → IsGreatest Holds n → IsGreatest Holds m → n ≤ m
greatest_below Holds n m a b = elim a.some [ inl some ↦ b.bound n some | inr (none, off) ↦ omega arith ]

pub one_greatest : (Holds : ℕ → Type 0) (n m : ℕ) → IsGreatest Holds n → IsGreatest Holds m → n ≡ m
one_greatest Holds n m a b = omega (arith, greatest_below Holds n m a b, greatest_below Holds m n b a)

one_period : (a b : Period) → a.red ≡ b.red → a.orange ≡ b.orange → a.green ≡ b.green → a ≡ b
one_period a b red orange green = λ i. record { red = red i; orange = orange i; green = green i }

record AreBoth (plant : Plant) (plans : List FramePlan) (device port : ℕ) (p q : PortPeriods) : Type 0 where
  mine : ArePortPeriods plant plans device port p
  its : ArePortPeriods plant plans device port q

-- phases before have the same numbers in both
abbrev AgreeBelow : PortPeriods → PortPeriods → ℕ → Type 0
AgreeBelow p q k = (j : ℕ) (a b : PhasePair) → j < k → slice_get p.phases j ≡ Some a → slice_get q.phases j ≡ Some b → a.tx ≡ b.tx

flipped_agree : (p q : PortPeriods) (k : ℕ) → AgreeBelow p q k → AgreeBelow q p k
flipped_agree p q k agree j a b less is at = sym (agree j b a less at is)

as_long : (n m : ℕ) → ((i : ℕ) → i < n → i < m) → n ≤ m
as_long zero m each = omega arith
as_long (suc n) m each = omega (arith, each n (omega arith))

module _ (plant : Plant) (plans : List FramePlan) where
  same_tx : (device port k : ℕ) (a b : Period) → IsTxPeriod plant plans device port k a → IsTxPeriod plant plans device port k b → a ≡ b
  same_tx device port k a b x y =
      let orange = one_greatest (IsSentEnd plant plans device port k) a.orange b.orange x.orange y.orange in
      one_period a b (x.red ∙ sym y.red) orange (x.green ∙ ap (λ n. n + plant.orange) orange ∙ sym y.green)

  same_rx : (device port k : ℕ) (a b : Period) → IsRxPeriod plant plans device port k a → IsRxPeriod plant plans device port k b → a ≡ b
  same_rx device port k a b x y =
      let orange = one_greatest (IsReceivedEnd plant plans device port k) a.orange b.orange x.orange y.orange in
      one_period a b (x.red ∙ sym y.red) orange (x.green ∙ orange ∙ sym y.green)

  -- the periods of a phase, whichever number they have
  same_assignment : (device port : ℕ) (p q : PortPeriods) (k : ℕ) (pair other : PhasePair) →
      (a : IsPhase plant plans device port p k pair) → (b : IsPhase plant plans device port q k other) → a.periods ≡ b.periods
  same_assignment device port p q k pair other a b =
      let tx = same_tx device port k a.periods.tx b.periods.tx a.tx b.tx in
      let rx = same_rx device port k a.periods.rx b.periods.rx a.rx b.rx in
      λ i. record { tx = tx i; rx = rx i }

  both_back : (device port : ℕ) (p q : PortPeriods) → AreBoth plant plans device port p q → AreBoth plant plans device port q p
  both_back device port p q are = record { mine = are.its; its = are.mine }

  -- no number is less in one: a phase before has it in the other, and so the same periods
  not_less : (device port : ℕ) (p q : PortPeriods) → AreBoth plant plans device port p q → (k : ℕ) (a b : PhasePair) →
      AgreeBelow p q k → slice_get p.phases k ≡ Some a → slice_get q.phases k ≡ Some b → a.tx < b.tx → ⊥
  not_less device port p q are k a b agree is at less =
      let before = are.its.numbered.first k a.tx b at less in
      let j = before.earlier in
      let (c, there) = some_at p.phases j (omega (arith, before.before, slice_get_within p.phases k a is)) in
      let same : c.tx ≡ a.tx = agree j c before.pair before.before there before.there ∙ before.has in
      let pj = are.mine.each j c there in
      let pk = are.mine.each k a is in
      let qj = are.its.each j before.pair before.there in
      let qk = are.its.each k b at in
      let mine : pj.periods ≡ pk.periods = same_Some pj.periods pk.periods (sym pj.named ∙ ap (slice_get p.assignments) same ∙ pk.named) in
      let its : qj.periods ≡ qk.periods =
      sym (same_assignment device port p q j c before.pair pj qj) ∙ mine ∙ same_assignment device port p q k a b pk qk in
      let numbers : before.pair.tx ≡ b.tx = are.its.numbered.differ before.pair.tx b.tx qk.periods (qj.named ∙ ap Some its) qk.named in
      omega (arith, before.has)

  agree_below : (device port : ℕ) (p q : PortPeriods) → AreBoth plant plans device port p q → (k : ℕ) → AgreeBelow p q k
  agree_below device port p q are zero j a b less is at = absurd (omega arith)
  agree_below device port p q are (suc k) j a b less is at =
      let rest : AgreeBelow p q k = agree_below device port p q are k in
      let below : AgreeBelow p q j = λ i c d early there here_is. rest i c d (omega arith) there here_is in
      elim (cases_order a.tx b.tx) [
        | inl same ↦ same
        | inr (inl fewer) ↦ absurd (not_less device port p q are j a b below is at fewer)
        | inr (inr more) ↦ absurd (not_less device port q p (both_back device port p q are) j b a (flipped_agree p q j below) at is more)
      ]

  same_phases : (device port : ℕ) (p q : PortPeriods) → AreBoth plant plans device port p q → p.phases ≡ q.phases
  same_phases device port p q are =
      same_items p.phases q.phases (are.mine.count ∙ sym are.its.count)
      (λ k a b is at.
      let tx = agree_below device port p q are (suc k) k a b (omega arith) is at in
      let rx = (are.mine.each k a is).one ∙ tx ∙ sym (are.its.each k b at).one in
      λ i. record { tx = tx i; rx = rx i })

  no_more : (device port : ℕ) (p q : PortPeriods) → AreBoth plant plans device port p q → (i : ℕ) → i < length p.assignments → i < length q.assignments
  no_more device port p q are i less =
      let use_ = are.mine.numbered.used i less in
      let at = ap (λ ps. slice_get ps use_.earlier) (sym (same_phases device port p q are)) ∙ use_.there in
      let phase = are.its.each use_.earlier use_.pair at in
      omega (arith, slice_get_within q.assignments use_.pair.tx phase.periods phase.named, use_.has)

  same_ports : (device port : ℕ) (p q : PortPeriods) → AreBoth plant plans device port p q → p ≡ q
  same_ports device port p q are =
      let phases = same_phases device port p q are in
      let back = both_back device port p q are in
      let long : length p.assignments ≡ length q.assignments =
      omega (
        arith,
        as_long (length p.assignments) (length q.assignments) (no_more device port p q are),
        as_long (length q.assignments) (length p.assignments) (no_more device port q p back),
      ) in
      let assignments = same_items p.assignments q.assignments long (λ i a b is at.
      let use_ = are.mine.numbered.used i (slice_get_within p.assignments i a is) in
      let mine = are.mine.each use_.earlier use_.pair use_.there in
      let its = are.its.each use_.earlier use_.pair (ap (λ ps. slice_get ps use_.earlier) (sym phases) ∙ use_.there) in
      same_Some a mine.periods (sym is ∙ ap (slice_get p.assignments) (sym use_.has) ∙ mine.named)
      ∙ same_assignment device port p q use_.earlier use_.pair use_.pair mine its
      ∙ same_Some its.periods b (sym its.named ∙ ap (slice_get q.assignments) use_.has ∙ at)) in
      λ i. record { assignments = assignments i; phases = phases i }

  same_periods : (device : ℕ) (d : Device) (a b : PeriodBlock) → ArePeriods plant plans device d a → ArePeriods plant plans device d b → a ≡ b
  same_periods device d a b x y =
      let first = x.begin ∙ sym y.begin in
      let last = x.end ∙ sym y.end in
      let ports = same_items a.ports b.ports (x.count ∙ sym y.count)
      (λ n p q is at. same_ports device (n + 1) p q (record { mine = x.ports n p is; its = y.ports n q at })) in
      λ i. record { first = first i; last = last i; ports = ports i }

  same_bundle : (device : ℕ) (d : Device) (a b : Bundle) → IsBundleOf plant plans device d a → IsBundleOf plant plans device d b → a ≡ b
  same_bundle device d a b x y =
      let sync = x.sync ∙ sym y.sync in
      let slot = x.slot ∙ sym y.slot in
      let subslot = x.subslot ∙ sym y.subslot in
      let global = x.global ∙ sym y.global in
      let relative = x.mode ∙ sym y.mode in
      let entries = same_entries plans device a.frames.entries b.frames.entries x.entries y.entries in
      let frames : a.frames ≡ b.frames = λ i. record { relative = relative i; entries = entries i } in
      let periods = same_periods device d a.periods b.periods x.periods y.periods in
      λ i. record { sync = sync i; slot = slot i; subslot = subslot i; global = global i; frames = frames i; periods = periods i }

  pub same_bundles : (xs ys : List Bundle) → AreBundlesOf plant plans xs → AreBundlesOf plant plans ys → xs ≡ ys
  same_bundles xs ys a b =
      same_items xs ys (a.count ∙ sym b.count) (λ device x y is at.
      let (d, there) = some_at plant.devices device (omega (arith, slice_get_within xs device x is, a.count)) in
      same_bundle device d x y (a.each device d x there is) (b.each device d y there at))
