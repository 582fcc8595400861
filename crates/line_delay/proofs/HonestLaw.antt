-- Half rounds of honest responses are near the delay, all that are kept, and their median.
use Rattle.std.proofs.Common.{◌≡◌, ℕ, ◌+◌, ◌-◌, ◌*◌, ◌≤◌, ◌<◌, List, [], ◌∷◌, ◌++◌, length, All, pos, Result, Ok, Err, refl, sym, ap, ◌∙◌, subst, rules, arith}
use Rattle.std.proofs.lemmas.Int.{ints}
use Rattle.std.proofs.lemmas.Bool.Decides.{nat_tests}
use Rattle.std.proofs.lemmas.List.{length-append, length-drop}
use Rattle.std.proofs.lemmas.List.Elements.{All-nil, All-head, All-tail, All-push, All-drop, All-contains, All-cons}
use Rattle.line_delay.specs.declared.line.LineFault.{LineFault}
use Rattle.line_delay.specs.declared.line.LineFault.TheVariants.{TimesOutOfOrder}
use Rattle.line_delay.specs.declared.line.TheConstants.{WINDOW, MAX_HALF_ROUND}
use Rattle.line_delay.specs.Line.{half_of, half_round, newest, accepted, IsLowerMedian}
use Rattle.irt_base.specs.Cycle.{IsNear}
use Rattle.line_delay.specs.Honest.{Stamps, IsHonest, IsMeasurable, IsKnown, after_all}

-- how near a half round is
abbrev pub HalvesNear : Type 0
HalvesNear = (error delay : ℕ) (s : Stamps) (half : ℕ) → IsHonest error delay s → half_round s.t1 s.t2 s.t3 s.t4 ≡ Ok half → IsNear (2 * error) half delay

accepted_near : (error delay : ℕ) (halves : List ℕ) (r : Result ℕ LineFault) → ((half : ℕ) → r ≡ Ok half → IsNear (2 * error) half delay) →
    All (λ half. IsNear (2 * error) half delay) halves → All (λ half. IsNear (2 * error) half delay) (accepted halves r)
accepted_near error delay halves (Err fault) near all = all
accepted_near error delay halves (Ok half) near all =
    All-drop (λ half. IsNear (2 * error) half delay) _ (halves ++ half ∷ [])
    (All-push (λ half. IsNear (2 * error) half delay) halves half all (near half refl))

all_near : HalvesNear → (error delay : ℕ) (responses : List Stamps) (halves : List ℕ) → All (IsHonest error delay) responses →
    All (λ half. IsNear (2 * error) half delay) halves → All (λ half. IsNear (2 * error) half delay) (after_all halves responses)
all_near near error delay [] halves honest all = all
all_near near error delay (s ∷ more) halves honest all =
    all_near near error delay more (accepted halves (half_round s.t1 s.t2 s.t3 s.t4)) (All-tail (IsHonest error delay) s more honest)
    (accepted_near error delay halves (half_round s.t1 s.t2 s.t3 s.t4)
    (λ half e. near error delay s half (All-head (IsHonest error delay) s more honest) e) all)

pub median_near : HalvesNear → (error delay : ℕ) (responses : List Stamps) (median : ℕ) → All (IsHonest error delay) responses →
    IsLowerMedian (after_all [] responses) median → IsNear (2 * error) median delay
median_near near error delay responses median honest is =
    All-contains (λ half. IsNear (2 * error) half delay) (after_all [] responses) median
    (all_near near error delay responses [] honest (All-nil (λ half. IsNear (2 * error) half delay))) is.member

pub half_near : HalvesNear
half_near error delay s half honest is = search rules

-- stamps in order with no long half round are refused only where the second device had the exchange for longer
refused_for : (t1 t2 t3 t4 : ℕ) (fault : LineFault) → t1 ≤ t4 → t2 ≤ t3 → half_of t1 t2 t3 t4 ≤ MAX_HALF_ROUND → half_round t1 t2 t3 t4 ≡ Err fault → t4 - t1 < t3 - t2
refused_for t1 t2 t3 t4 fault first second short is = grind (arith, nat_tests)

pub refused_near : (error delay : ℕ) (s : Stamps) (fault : LineFault) → IsMeasurable error delay s → half_round s.t1 s.t2 s.t3 s.t4 ≡ Err fault → delay ≤ 2 * error
refused_near error delay s fault m is =
    let h = m.honest in
    let first : s.t1 ≤ s.t4 = omega (arith, ints, h.there, h.back, h.near1, h.near4, m.stay) in
    let second : s.t2 ≤ s.t3 = omega (arith, h.near2, h.near3, m.stay) in
    let round : s.t4 + s.t2 ≤ s.t1 + s.t3 + 2 * delay + 4 * error = omega (arith, ints, h.there, h.back, h.near1, h.near2, h.near3, h.near4) in
    let short : half_of s.t1 s.t2 s.t3 s.t4 ≤ MAX_HALF_ROUND = omega (arith, round, m.short) in
    let less = refused_for s.t1 s.t2 s.t3 s.t4 fault first second short is in
    let least : s.t1 + s.t3 + 2 * delay ≤ s.t4 + s.t2 + 4 * error = omega (arith, ints, h.there, h.back, h.near1, h.near2, h.near3, h.near4) in
    omega (arith, less, first, second, least)

-- some half round is left where there was one
still_some : (halves : List ℕ) (r : Result ℕ LineFault) → 1 ≤ length halves → 1 ≤ length (accepted halves r)
still_some halves (Err fault) some = some
still_some halves (Ok half) some =
    let long = length-append halves (half ∷ []) in
    let left = length-drop (length (halves ++ half ∷ []) - WINDOW) (halves ++ half ∷ []) in
    omega (arith, long, left)

some_after : (halves : List ℕ) (responses : List Stamps) → 1 ≤ length halves → 1 ≤ length (after_all halves responses)
some_after halves [] some = some
some_after halves (s ∷ more) some = some_after (accepted halves (half_round s.t1 s.t2 s.t3 s.t4)) more (still_some halves (half_round s.t1 s.t2 s.t3 s.t4) some)

-- where no half round is left, the first response was refused
first_refused : (error delay : ℕ) (s : Stamps) (more : List Stamps) (r : Result ℕ LineFault) → half_round s.t1 s.t2 s.t3 s.t4 ≡ r → IsMeasurable error delay s →
    after_all (accepted [] r) more ≡ [] → delay ≤ 2 * error
first_refused error delay s more (Err fault) e m none = refused_near error delay s fault m e
first_refused error delay s more (Ok half) e m none =
    let some = some_after (accepted [] (Ok half)) more (omega arith) in
    let zero = ap (λ (l : List ℕ). length l) none in
    absurd (omega (arith, some, zero))

honest_all : (error delay : ℕ) (responses : List Stamps) → All (IsMeasurable error delay) responses → All (IsHonest error delay) responses
honest_all error delay [] all = All-nil (IsHonest error delay)
honest_all error delay (s ∷ more) all =
    All-cons (IsHonest error delay) s more (All-head (IsMeasurable error delay) s more all).honest
    (honest_all error delay more (All-tail (IsMeasurable error delay) s more all))

known_by : (error delay : ℕ) (s : Stamps) (more : List Stamps) (known : ℕ) (halves : List ℕ) → after_all [] (s ∷ more) ≡ halves → All (IsMeasurable error delay) (s ∷ more) →
    IsKnown halves known → IsNear (2 * error) known delay
known_by error delay s more known [] e all is =
    let near = first_refused error delay s more (half_round s.t1 s.t2 s.t3 s.t4) refl (All-head (IsMeasurable error delay) s more all) e in
    (omega (arith, is), omega (arith, is, near))
known_by error delay s more known (half ∷ halves) e all is =
    median_near half_near error delay (s ∷ more) known (honest_all error delay (s ∷ more) all) (subst (λ (l : List ℕ). IsLowerMedian l known) (sym e) is)

pub known_near : (error delay : ℕ) (responses : List Stamps) (known : ℕ) → All (IsMeasurable error delay) responses → 1 ≤ length responses →
    IsKnown (after_all [] responses) known → IsNear (2 * error) known delay
known_near error delay [] known all some is = absurd (omega (arith, some))
known_near error delay (s ∷ more) known all some is = known_by error delay s more known (after_all [] (s ∷ more)) refl all is

-- one response more
pub one_more : (halves : List ℕ) (responses : List Stamps) (s : Stamps) →
    after_all halves (responses ++ s ∷ []) ≡ accepted (after_all halves responses) (half_round s.t1 s.t2 s.t3 s.t4)
one_more halves [] s = refl
one_more halves (r ∷ more) s = one_more (accepted halves (half_round r.t1 r.t2 r.t3 r.t4)) more s

-- a response with the error 8 over the delay 10 that is refused
refused_stamps : IsMeasurable 8 10 (record { t1 = 8; t2 = 2; t3 = 10018; t4 = 10012 })
refused_stamps = record {
  honest = record {
    x1 = 0;
    x2 = 10;
    x3 = 10010;
    x4 = 10020;
    ahead = pos 0;
    there = refl;
    back = refl;
    near1 = (omega arith, omega arith);
    near2 = (omega arith, omega arith);
    near3 = (omega arith, omega arith);
    near4 = (omega arith, omega arith);
  };
  stay = omega arith;
  short = omega arith;
}

refused_worked : half_round 8 2 10018 10012 ≡ Err TimesOutOfOrder
refused_worked = refl
