-- Rounds from device 0, and walks.
use Rattle.std.proofs.Common.{◌≡◌, ◌≤◌, ◌+◌, ◌-◌, ◌==◌, ℕ, zero, suc, nat_le, Bool, true, false, ◌&&◌, inl, inr, List, [], ◌∷◌, Option, Some, None, refl, sym, ◌∙◌, ap, subst, arith, Contains}
use Rattle.std.proofs.lemmas.Bool.{and_parts, and_from, or_cases, or_left, or_right, eqb-true, eq-eqb, leb-true, le-leb, false≢true, cases_lt}
use Rattle.std.specs.List.{list_any}
use Rattle.std.specs.Option.{option_map_or}
use Rattle.irt_base.specs.declared.plants.Link.{Link}
use Rattle.irt_base.specs.declared.plants.SyncPlan.{SyncPlan}
use Rattle.irt_base.specs.declared.plants.Plant.{Plant}
use Rattle.plant_rules.specs.Clocks.{Leads, IsClockWalk, IsDistance, HasClock, clock_budget}
use Rattle.irt_topo.specs.Clocks.{joins, is_reached, hops_within, has_clock}
use Rattle.irt_topo.proofs.LeastFrom.{found_passes, none_passes}

-- some item passes
any_item : {A : Type 0} (test : A → Bool) (xs : List A) → list_any test xs ≡ true → (x : A) × Contains xs x × (test x ≡ true)
any_item test [] h = absurd (false≢true h)
any_item test (x ∷ xs) h =
    elim (or_cases (test x) (list_any test xs) h) [
      | inl here ↦ (x, (0, omega arith, refl), here)
      | inr more ↦
          let (y, (k, within, at), passes) = any_item test xs more in (y, (suc k, omega arith, at), passes)
    ]

any_item-back : {A : Type 0} (test : A → Bool) (xs : List A) (x : A) → Contains xs x → test x ≡ true → list_any test xs ≡ true
any_item-back test [] x (k, within, at) h = absurd (omega arith)
any_item-back {A} test (y ∷ ys) x (zero, within, at) h = or_left (test y) (list_any test ys) (let P : A → Type 0 = λ z. test z ≡ true in subst P (sym at) h)
any_item-back test (y ∷ ys) x (suc k, within, at) h = or_right (test y) (list_any test ys) (any_item-back test ys x (k, omega arith, at) h)

leads : (reached : ℕ → Bool) (device : ℕ) (link : Link) → joins reached device link ≡ true
    → (before : ℕ) × (reached before ≡ true) × Leads before device link
leads reached device link h =
    elim (or_cases (reached link.a.0 && link.b.0 == device) (reached link.b.0 && link.a.0 == device) h) [
      | inl there ↦ let (is, at) = and_parts (reached link.a.0) (link.b.0 == device) there in (link.a.0, is, inl (refl, eqb-true _ _ at))
      | inr back ↦ let (is, at) = and_parts (reached link.b.0) (link.a.0 == device) back in (link.b.0, is, inr (refl, eqb-true _ _ at))
    ]

leads-back : (reached : ℕ → Bool) (before device : ℕ) (link : Link) → reached before ≡ true → Leads before device link
    → joins reached device link ≡ true
leads-back reached before device link is (inl there) =
    or_left _ (reached link.b.0 && link.a.0 == device)
    (and_from (reached link.a.0) (link.b.0 == device) (ap reached there.0 ∙ is) (eq-eqb _ _ there.1))
leads-back reached before device link is (inr back) =
    or_right (reached link.a.0 && link.b.0 == device) _
    (and_from (reached link.b.0) (link.a.0 == device) (ap reached back.0 ∙ is) (eq-eqb _ _ back.1))

-- what is reached has a walk, no longer than the rounds
pub reached_walk : (p : Plant) (rounds device : ℕ) → is_reached p rounds device ≡ true → (links : ℕ) × (links ≤ rounds) × IsClockWalk p links device
reached_walk p zero device h = (0, omega arith, eqb-true device 0 h)
reached_walk p (suc rounds) device h =
    elim (or_cases (is_reached p rounds device) (list_any (joins (λ d. is_reached p rounds d) device) p.links) h) [
      | inl sooner ↦ let (links, within, walk) = reached_walk p rounds device sooner in (links, omega arith, walk)
      | inr now ↦
          let (link, member, joined) = any_item (joins (λ d. is_reached p rounds d) device) p.links now in
          let (before, is, lead) = leads (λ d. is_reached p rounds d) device link joined in
          let (links, within, walk) = reached_walk p rounds before is in
          (suc links, omega arith, (before, walk, (link, member, lead)))
    ]

stays : (p : Plant) (rounds device : ℕ) → is_reached p rounds device ≡ true → is_reached p (suc rounds) device ≡ true
stays p rounds device h = or_left (is_reached p rounds device) (list_any (joins (λ d. is_reached p rounds d) device) p.links) h

walk_in : (p : Plant) (links device : ℕ) → IsClockWalk p links device → is_reached p links device ≡ true
walk_in p zero device walk = eq-eqb device 0 walk
walk_in p (suc links) device (before, walk, (link, member, lead)) =
    or_right (is_reached p links device) _
    (any_item-back (joins (λ d. is_reached p links d) device) p.links link member
    (leads-back (λ d. is_reached p links d) before device link (walk_in p links before walk) lead))

-- a walk is found in as many rounds, and in more
later_rounds : (p : Plant) (links more device : ℕ) → is_reached p links device ≡ true → is_reached p (more + links) device ≡ true
later_rounds p links zero device h =
    let P : ℕ → Type 0 = λ n. is_reached p n device ≡ true in
    let sum : links ≡ zero + links = omega arith in
    subst P sum h
later_rounds p links (suc more) device h =
    let P : ℕ → Type 0 = λ n. is_reached p n device ≡ true in
    let sum : suc (more + links) ≡ suc more + links = omega arith in
    subst P sum (stays p (more + links) device (later_rounds p links more device h))

pub walk_reached : (p : Plant) (links rounds device : ℕ) → IsClockWalk p links device → links ≤ rounds → is_reached p rounds device ≡ true
walk_reached p links rounds device walk within =
    let P : ℕ → Type 0 = λ n. is_reached p n device ≡ true in
    let sum : rounds - links + links ≡ rounds = omega arith in
    subst P sum (later_rounds p links (rounds - links) device (walk_in p links device walk))

-- the first round that reaches a device is its distance
found_distance : (p : Plant) (device hops : ℕ) → hops_within p device ≡ Some hops → IsDistance p device hops
found_distance p device hops found =
    let (is, _, _, none) = found_passes (λ rounds. is_reached p rounds device) 0 (p.window + 1) hops found in
    let (links, within, walk) = reached_walk p hops device is in
    let least : (fewer : ℕ) → IsClockWalk p fewer device → hops ≤ fewer =
    λ fewer other. elim (cases_lt fewer hops) [
      | inl less ↦ absurd (false≢true (sym (none fewer (omega arith) less) ∙ walk_in p fewer device other))
      | inr above ↦ above
    ] in
    let same : links ≡ hops = omega (arith, within, least links walk) in
    let P : ℕ → Type 0 = λ n. IsClockWalk p n device in
    record { walk = subst P same walk; shortest = least }

-- a budget is at least its links
hops-le-budget : (s : SyncPlan) (hops : ℕ) → hops ≤ clock_budget s hops
hops-le-budget s hops = grind arith

clock_from : (p : Plant) (device : ℕ) (found : Option ℕ) → found ≡ hops_within p device
    → option_map_or (λ hops. nat_le (clock_budget p.sync hops) p.window) found false ≡ true → HasClock p device
clock_from p device None is h = absurd (false≢true h)
clock_from p device (Some hops) is h =
    record { hops = hops; distance = found_distance p device hops (sym is); budget = leb-true _ p.window h }

pub clock : (p : Plant) (device : ℕ) → has_clock p device ≡ true → HasClock p device
clock p device h = clock_from p device (hops_within p device) refl h

same_distance : (p : Plant) (device m n : ℕ) → IsDistance p device m → IsDistance p device n → m ≡ n
same_distance p device m n a b = omega (arith, a.shortest n b.walk, b.shortest m a.walk)

clock_back_from : (p : Plant) (device : ℕ) (found : Option ℕ) → found ≡ hops_within p device → HasClock p device
    → option_map_or (λ hops. nat_le (clock_budget p.sync hops) p.window) found false ≡ true
clock_back_from p device None is h =
    let near : h.hops ≤ p.window = omega (arith, hops-le-budget p.sync h.hops, h.budget) in
    absurd (false≢true
    (sym (none_passes (λ rounds. is_reached p rounds device) 0 (p.window + 1) (sym is) h.hops (omega arith) (omega arith))
    ∙ walk_in p h.hops device h.distance.walk))
clock_back_from p device (Some hops) is h =
    let same : hops ≡ h.hops = same_distance p device hops h.hops (found_distance p device hops (sym is)) h.distance in
    le-leb _ p.window (rw same h.budget)

pub clock-back : (p : Plant) (device : ℕ) → HasClock p device → has_clock p device ≡ true
clock-back p device h = clock_back_from p device (hops_within p device) refl h
