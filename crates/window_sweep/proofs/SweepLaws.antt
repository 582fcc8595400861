-- The sweeps of all phases pass exactly where the rule holds.
use Rattle.std.proofs.Common.{◌≡◌, ◌<◌, ◌≤◌, ◌+◌, ◌==◌, ◌&&◌, ◌⊎◌, inl, inr, ℕ, zero, suc, Bool, true, false, cond, List, [], ◌∷◌, get_or, Option, None, Some, All, AllPairs, IsTrue, MatchBool, refl, sym, ◌∙◌, ap, subst, arith, true≢false}
use Rattle.std.specs.List.Sorted.{IsPermutation, IsNonDecreasingBy}
use Rattle.std.proofs.lemmas.Bool.{cases_Bool, eqb-true, eq-eqb, leb-true, le-leb}
use Rattle.std.proofs.lemmas.Bool.Decides.{nat_tests}
use Rattle.std.proofs.lemmas.List.Elements.{All-cons, Contains-get_or}
use Rattle.std.proofs.lemmas.List.Kept.{AllPairs-cons}
use Rattle.std.proofs.lemmas.List.Sorted.{IsPermutation-sym, All-permutation}
use Rattle.irt_base.specs.Cycle.{guard_time}
use Rattle.irt_base.proofs.CycleLemmas.{shares_phase}
use Rattle.irt_base.specs.declared.limits.TheConstants.{PHASES}
use Rattle.window_sweep.specs.declared.slot.SendSlot.{SendSlot}
use Rattle.window_sweep.specs.Slots.{AreSendSlots, IsSendSlot, IsClear, Share}
use Rattle.window_sweep.specs.Clashes.{AreClear}
use Rattle.window_sweep.specs.Steps.{is_due, is_before, follows, steps}
use Rattle.window_sweep.proofs.PairLaws.{place_of, frame_order, frame_at}
use Rattle.window_sweep.proofs.Sorting.{AllPairs-permutation}

cond_parts : (b x y : Bool) → cond b x y ≡ true → ((b ≡ true) × (x ≡ true)) ⊎ ((b ≡ false) × (y ≡ true))
cond_parts true x y h = inl (refl, h)
cond_parts false x y h = inr (refl, h)

cond_then : (b x y : Bool) → b ≡ true → x ≡ true → cond b x y ≡ true
cond_then true x y h k = k
cond_then false x y h k = absurd (true≢false (sym h))

cond_else : (b x y : Bool) → b ≡ false → y ≡ true → cond b x y ≡ true
cond_else true x y h k = absurd (true≢false h)
cond_else false x y h k = k

and_parts : (x y : Bool) → (x && y) ≡ true → (x ≡ true) × (y ≡ true)
and_parts true y h = (refl, h)
and_parts false y h = absurd (true≢false (sym h))

and_both : (x y : Bool) → x ≡ true → y ≡ true → (x && y) ≡ true
and_both true y h k = k
and_both false y h k = absurd (true≢false (sym h))

chain : (x y z e lo end later w : ℕ) → lo < end → e + cond (x == y) 0 w ≤ lo → end + cond (y == z) 0 w ≤ later → e + cond (x == z) 0 w ≤ later
chain x y z e lo end later w proper h k = grind (arith, nat_tests)

-- what comes after a slot comes after those before it
before_chain : (window : ℕ) (a b c : SendSlot) → IsSendSlot b → is_before window a b ≡ true → is_before window b c ≡ true → is_before window a c ≡ true
before_chain window a b c valid h k =
    le-leb _ _ (chain a.anchor.0 b.anchor.0 c.anchor.0 a.end b.lo b.end c.lo (guard_time window) valid.proper (leb-true _ _ h) (leb-true _ _ k))

side : (x y lo end lo' end' w : ℕ) → lo < end → lo' < end' → lo ≤ lo' → (end + cond (x == y) 0 w ≤ lo') ⊎ (end' + cond (y == x) 0 w ≤ lo) → end + cond (x == y) 0 w ≤ lo'
side x y lo end lo' end' w proper other rise h = grind (arith, nat_tests)

-- of two that keep clear, the one that begins first ends first
clear_side : (window : ℕ) (a b : SendSlot) → IsSendSlot a → IsSendSlot b → a.lo ≤ b.lo → IsClear window a b → is_before window a b ≡ true
clear_side window a b valid other rise h =
    le-leb _ _ (side a.anchor.0 b.anchor.0 a.lo a.end b.lo b.end (guard_time window) valid.proper other.proper rise h)

follows_chain : (window : ℕ) (last : Option SendSlot) (b c : SendSlot) → IsSendSlot b → follows window last b ≡ true → is_before window b c ≡ true → follows window last c ≡ true
follows_chain window None b c valid h k = refl
follows_chain window (Some a) b c valid h k = before_chain window a b c valid h k

-- both due: one before the other
abbrev pub InStep : ℕ → ℕ → SendSlot → SendSlot → Type 0
InStep window k a b = is_due k a ≡ true → is_due k b ≡ true → is_before window a b ≡ true

-- each that is due comes after the last one
abbrev pub Follow : ℕ → ℕ → Option SendSlot → List SendSlot → Type 0
Follow window k last slots = All (λ (b : SendSlot). is_due k b ≡ true → follows window last b ≡ true) slots

-- a sweep that passes: each due slot comes after all due ones before it
pub steps_pass : (window k : ℕ) (last : Option SendSlot) (slots : List SendSlot) → All IsSendSlot slots → steps window k last slots ≡ true
    → Follow window k last slots × AllPairs (InStep window k) slots
steps_pass window k last [] valid h = (λ i d inside. absurd (omega arith), λ i j d below inside. absurd (omega arith))
steps_pass window k last (s ∷ rest) valid h =
    let here : IsSendSlot s = valid zero s (omega arith) in
    let later : All IsSendSlot rest = λ i d inside. valid (suc i) d (omega arith) in
    elim (cond_parts (is_due k s) (follows window last s && steps window k (Some s) rest) (steps window k last rest) h) [
      | inl due ↦
          let both = and_parts (follows window last s) (steps window k (Some s) rest) due.1 in
          let more = steps_pass window k (Some s) rest later both.1 in (
            All-cons (λ (b : SendSlot). is_due k b ≡ true → follows window last b ≡ true) s rest (λ _. both.0)
                (λ i d inside is. follows_chain window last s (get_or rest i d) here both.0 (more.0 i d inside is)),
            AllPairs-cons (InStep window k) s rest (λ i d inside _ is. more.0 i d inside is) more.1,
          )
      | inr rests ↦
          let more = steps_pass window k last rest later rests.1 in (
            All-cons (λ (b : SendSlot). is_due k b ≡ true → follows window last b ≡ true) s rest (λ is. absurd (true≢false (sym is ∙ rests.0))) more.0,
            AllPairs-cons (InStep window k) s rest (λ i d inside is _. absurd (true≢false (sym is ∙ rests.0))) more.1,
          )
    ]

-- and the other way round
pub pass_steps : (window k : ℕ) (last : Option SendSlot) (slots : List SendSlot) → Follow window k last slots → AllPairs (InStep window k) slots → steps window k last slots ≡ true
pass_steps window k last [] first pairs = refl
pass_steps window k last (s ∷ rest) first pairs =
    let later : AllPairs (InStep window k) rest = λ i j d below inside. pairs (suc i) (suc j) d (omega arith) (omega arith) in
    elim (cases_Bool (is_due k s)) [
      | inl due ↦
          let here : follows window last s ≡ true = first zero s (omega arith) due in
          let next : Follow window k (Some s) rest = λ i d inside is. pairs zero (suc i) d (omega arith) (omega arith) due is in
          cond_then (is_due k s) _ (steps window k last rest) due (and_both _ _ here (pass_steps window k (Some s) rest next later))
      | inr rests ↦
          let next : Follow window k last rest = λ i d inside is. first (suc i) d (omega arith) is in
          cond_else (is_due k s) (follows window last s && steps window k (Some s) rest) _ rests (pass_steps window k last rest next later)
    ]

-- what the rule says of two slots
abbrev pub Apart : ℕ → SendSlot → SendSlot → Type 0
Apart window a b = Share a b → IsClear window a b

turn : (window : ℕ) (a b : SendSlot) → Apart window a b → Apart window b a
turn window a b h share = elim (h (share.0, share.2, share.1)) [ inl first ↦ inr first | inr second ↦ inl second ]

-- the rule over members, and over places
clear_pairs : (window : ℕ) (slots : List SendSlot) → AreSendSlots slots → AreClear window slots → AllPairs (Apart window) slots
clear_pairs window slots valid clear i j d below inside share =
    clear.each (get_or slots i d) (get_or slots j d) (Contains-get_or slots i d (omega arith)) (Contains-get_or slots j d inside)
    (valid.ascending i j d below inside) share

pairs_clear : (window : ℕ) (slots : List SendSlot) → AreSendSlots slots → AllPairs (Apart window) slots → AreClear window slots
pairs_clear window slots valid pairs = record {
  each = λ a b has_a has_b below share.
      let p = place_of slots a a has_a in
      let q = place_of slots b a has_b in
      let first = ap (λ (s : SendSlot). s.frame.0) p.2 in
      let second = ap (λ (s : SendSlot). s.frame.0) q.2 in
      let rise : frame_at slots p.0 a < frame_at slots q.0 a = omega (arith, first, second, below) in
      let apart = pairs p.0 q.0 a (frame_order slots valid p.0 q.0 a p.1 rise) q.1 in
      let from_a = subst (λ (s : SendSlot). Apart window s (get_or slots q.0 a)) p.2 apart in
      let both = subst (λ (s : SendSlot). Apart window a s) q.2 from_a in
      both share;
}

-- slots by their begin, in which the rule holds at any two places
sweeps_pass : (window : ℕ) (slots : List SendSlot) → All IsSendSlot slots → IsNonDecreasingBy (λ (s : SendSlot). s.lo) slots → AllPairs (Apart window) slots
    → (k : ℕ) → k < PHASES → steps window k None slots ≡ true
sweeps_pass window slots valid rise pairs k phase =
    pass_steps window k None slots (λ i d inside is. refl)
    (λ i j d below inside first second.
    let a = get_or slots i d in
    let b = get_or slots j d in
    let share : Share a b = (k, eqb-true _ _ first, eqb-true _ _ second) in
    clear_side window a b (valid i d (omega arith)) (valid j d inside) (rise i j d (omega arith) inside) (pairs i j d below inside share))

pass_sweeps : (window : ℕ) (slots : List SendSlot) → All IsSendSlot slots → ((k : ℕ) → k < PHASES → steps window k None slots ≡ true) → AllPairs (Apart window) slots
pass_sweeps window slots valid h i j d below inside share =
    let a = get_or slots i d in
    let b = get_or slots j d in
    let (k, phase, first, second) =
    shares_phase a.ratio a.phase b.ratio b.phase (valid i d (omega arith)).rate (valid j d inside).rate share in
    let pass = (steps_pass window k None slots valid (h k phase)).1 i j d below inside in
    inl (leb-true _ _ (pass (eq-eqb _ _ first) (eq-eqb _ _ second)))

pub sorted_valid : (slots sorted : List SendSlot) → AreSendSlots slots → IsPermutation slots sorted → All IsSendSlot sorted
sorted_valid slots sorted valid shuffle = All-permutation IsSendSlot slots sorted shuffle valid.each

-- the sweeps over the sorted slots decide the rule
pub sweeps_decide : (window : ℕ) (slots sorted : List SendSlot) (b : Bool) → AreSendSlots slots → IsPermutation slots sorted
    → IsNonDecreasingBy (λ (s : SendSlot). s.lo) sorted
    → MatchBool b ((k : ℕ) → k < PHASES → steps window k None sorted ≡ true) ((k : ℕ) × (k < PHASES) × (steps window k None sorted ≡ false))
    → (IsTrue b → AreClear window slots) × (AreClear window slots → IsTrue b)
sweeps_decide window slots sorted true valid shuffle rise h =
    let each = sorted_valid slots sorted valid shuffle in
    let back = AllPairs-permutation (Apart window) (turn window) sorted slots (IsPermutation-sym slots sorted shuffle) (pass_sweeps window sorted each h) in
    (λ _. pairs_clear window slots valid back, λ _. refl)
sweeps_decide window slots sorted false valid shuffle rise h = (
  λ is. absurd (true≢false (sym is)),
  λ clear.
      let each = sorted_valid slots sorted valid shuffle in
      let pairs = AllPairs-permutation (Apart window) (turn window) slots sorted shuffle (clear_pairs window slots valid clear) in
      absurd (true≢false (sym (sweeps_pass window sorted each rise pairs h.0 h.1) ∙ h.2)),
)

-- the sorted copy, as it is passed on
pub copied : (slots copy sorted view : List SendSlot) → copy ≡ slots → view ≡ sorted → IsPermutation copy sorted → IsPermutation slots view
copied slots copy sorted view e h shuffle =
    subst (λ (xs : List SendSlot). IsPermutation xs view) e (subst (λ (ys : List SendSlot). IsPermutation copy ys) (sym h) shuffle)

pub still_rises : (sorted view : List SendSlot) → view ≡ sorted → IsNonDecreasingBy (λ (s : SendSlot). s.lo) sorted → IsNonDecreasingBy (λ (s : SendSlot). s.lo) view
still_rises sorted view h rise = subst (λ (ys : List SendSlot). IsNonDecreasingBy (λ (s : SendSlot). s.lo) ys) (sym h) rise
