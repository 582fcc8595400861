-- The first wrong place of a line, from the values before it.
use Rattle.std.proofs.Common.{◌≡◌, ◌<◌, ◌≤◌, ◌+◌, ℕ, zero, suc, ℤ, pos, ◌≤ℤ◌, ◌<ℤ◌, List, [], ◌∷◌, ◌++◌, map, length, take, get_or, slice_get, Some, All, refl, sym, ◌∙◌, ap, subst, arith, length-append, inl, inr}
use Rattle.std.specs.List.{AllByRecursion}
use Rattle.std.specs.List.Sorted.{IsStrictlyIncreasing}
use Rattle.std.proofs.lemmas.Bool.{cases_lt}
use Rattle.std.proofs.lemmas.Int.{ints}
use Rattle.std.proofs.lemmas.List.{length-map, take-append-le, take_at}
use Rattle.std.proofs.lemmas.Option.{none-some, same_Some}
use Rattle.irt_base.specs.Valid.{IsWithin}
use Rattle.irt_base.specs.declared.plants.Plant.{Plant}
use Rattle.irt_world.specs.Rows.{IsError}
use Rattle.irt_world.specs.declared.forwardings.Forwarding.{Forwarding}
use Rattle.world_file.specs.Text.{Line}
use Rattle.world_file.specs.Wrong.{Ascends, IsDelay, IsFirstWrongPlace, IsLinkNumber, IsWrongDelay, IsWrongLink, IsWrongPlace}
use Rattle.world_file.proofs.Kept.{AreDelays, AreLinksFrom, least_after}

pub at_end : {A : Type 0} (front : List A) (x : A) (more : List A) → slice_get (front ++ x ∷ more) (length front) ≡ Some x
at_end [] x more = refl
at_end (y ∷ ys) x more = at_end ys x more

pub in_front : {A : Type 0} (front back : List A) (n : ℕ) → n < length front → slice_get (front ++ back) n ≡ slice_get front n
in_front [] back n below = absurd (omega arith)
in_front (y ∷ ys) back zero below = refl
in_front (y ∷ ys) back (suc n) below = in_front ys back n (omega arith)

pub each_at : {A : Type 0} (P : A → Type 0) (xs : List A) (n : ℕ) (x : A) → AllByRecursion P xs → slice_get xs n ≡ Some x → P x
each_at P [] n x all is = absurd (none-some x is)
each_at P (y ∷ ys) zero x all is = subst P (same_Some y x is) all.0
each_at P (y ∷ ys) (suc n) x all is = each_at P ys n x all.1 is

all_more : {A : Type 0} (P : A → Type 0) (x : A) (xs : List A) → P x → All P xs → (k : ℕ) (d : A) → k < length (x ∷ xs) → P (get_or (x ∷ xs) k d)
all_more P x xs here later zero d below = here
all_more P x xs here later (suc k) d below = later k d (omega arith)

pub all_from_each : {A : Type 0} (P : A → Type 0) (xs : List A) → AllByRecursion P xs → All P xs
all_from_each P [] all = λ k d below. absurd (omega arith)
all_from_each P (x ∷ xs) all = all_more P x xs all.0 (all_from_each P xs all.1)

pub delay_at : (fs : List Forwarding) (ns : List ℕ) (n : ℕ) (f : Forwarding) (delay : ℕ) → AreDelays fs ns → slice_get fs n ≡ Some f → slice_get ns n ≡ Some delay →
    IsWithin f.bmin f.bmax delay
delay_at fs [] n f delay are there is = absurd (none-some delay is)
delay_at [] (m ∷ ms) n f delay are there is = absurd (none-some f there)
delay_at (g ∷ gs) (m ∷ ms) zero f delay are there is =
    let here = are.0 in
    subst (λ (h : Forwarding). IsWithin h.bmin h.bmax delay) (same_Some g f there) (subst (λ k. IsWithin g.bmin g.bmax k) (same_Some m delay is) here)
delay_at (g ∷ gs) (m ∷ ms) (suc n) f delay are there is = delay_at gs ms n f delay are.1 there is

-- a place among plain numbers
pub plain_at : (ns : List ℕ) (n : ℕ) (z : ℤ) → slice_get (map (λ k. pos k) ns) n ≡ Some z → (k : ℕ) × (slice_get ns n ≡ Some k) × (z ≡ pos k)
plain_at [] n z is = absurd (none-some z is)
plain_at (k ∷ ks) zero z is = (k, refl, sym (same_Some (pos k) z is))
plain_at (k ∷ ks) (suc n) z is = plain_at ks n z is

-- a link is a number of the plant, and greater than those before it
link_at : (least links : ℕ) (ns : List ℕ) (n k : ℕ) → AreLinksFrom least links ns → slice_get ns n ≡ Some k →
    (least ≤ k) × (k < links) × AllByRecursion (λ y. y <ℤ pos k) (take n (map (λ m. pos m) ns))
link_at least links [] n k are is = absurd (none-some k is)
link_at least links (m ∷ ms) zero k are is =
    let same = same_Some m k is in
    let (low, high, more) = are in
    (omega (arith, low, same), omega (arith, high, same), tt)
link_at least links (m ∷ ms) (suc n) k are is =
    let (low, high, more) = are in
    let (above, below, greater) = link_at (m + 1) links ms n k more is in
    (omega (arith, low, above), below, (omega (arith, ints, above), greater))

pub numbers_below : (least links : ℕ) (ns : List ℕ) → AreLinksFrom least links ns → AllByRecursion (λ n. n < links) ns
numbers_below least links [] are = tt
numbers_below least links (n ∷ ns) are = let (low, high, more) = are in (high, numbers_below (n + 1) links ns more)

pub few_numbers_from : (least links : ℕ) (ns : List ℕ) → AreLinksFrom least links ns → least ≤ links → length ns + least ≤ links
few_numbers_from least links [] are within = omega (arith, within)
few_numbers_from least links (n ∷ ns) are within =
    let (low, high, more) = are in
    let rest = few_numbers_from (n + 1) links ns more (omega (arith, high)) in
    omega (arith, low, rest)

ascends_more : (n m : ℕ) (ms : List ℕ) → n < m → IsStrictlyIncreasing (m ∷ ms) → (k : ℕ) → k + 1 < length (n ∷ m ∷ ms) → get_or (n ∷ m ∷ ms) k 0 < get_or (n ∷ m ∷ ms) (k + 1) 0
ascends_more n m ms first later zero below = first
ascends_more n m ms first later (suc k) below =
    let same : suc (k + 1) ≡ suc k + 1 = omega arith in
    subst (λ j. get_or (m ∷ ms) k 0 < get_or (n ∷ m ∷ ms) j 0) same (later k (omega arith))

pub ascends_from : (least links : ℕ) (ns : List ℕ) → AreLinksFrom least links ns → IsStrictlyIncreasing ns
ascends_from least links [] are = λ k below. absurd (omega arith)
ascends_from least links (n ∷ []) are = λ k below. absurd (omega arith)
ascends_from least links (n ∷ m ∷ ms) are = let first = are.2.0 in ascends_more n m ms (omega (arith, first)) (ascends_from (n + 1) links (m ∷ ms) are.2)

-- a number greater than all of some is at least the least after them
above_all : (least : ℕ) (ns : List ℕ) (z : ℤ) → pos least ≤ℤ z → AllByRecursion (λ y. y <ℤ z) (map (λ n. pos n) ns) → pos (least_after least ns) ≤ℤ z
above_all least [] z low all = low
above_all least (n ∷ ns) z low all = let here = all.0 in above_all (n + 1) ns z (omega (arith, ints, here)) all.1

pub first_error : (plant : Plant) (fs : List Forwarding) (l : Line) (before : List ℤ) (z : ℤ) (after : List ℤ) (place : ℕ) → l.errors ≡ before ++ z ∷ after →
    AllByRecursion IsError before → ¬ IsError z → place ≡ length before + 1 → IsFirstWrongPlace plant fs l place
first_error plant fs l before z after place are right wrong at = record {
  wrong = inl (record { n = length before; z = z; at = at; is = ap (λ zs. slice_get zs (length before)) are ∙ at_end before z after; wrong = wrong });
  first = earliest;
} where
  long : length before + 1 ≤ length l.errors
  long = omega (arith, ap length are, length-append before (z ∷ after))

  earliest : (other : ℕ) → IsWrongPlace plant fs l other → place ≤ other
  earliest other (inl e) =
      elim (cases_lt e.n (length before)) [
        | inl within ↦ absurd (e.wrong (each_at IsError before e.n e.z right (sym (ap (λ zs. slice_get zs e.n) are ∙ in_front before (z ∷ after) e.n within) ∙ e.is)))
        | inr past ↦ omega (arith, at, past, e.at)
      ]
  earliest other (inr (inl d)) = omega (arith, at, d.at, long)
  earliest other (inr (inr c)) = omega (arith, at, c.at, long)

pub first_delay : (plant : Plant) (fs : List Forwarding) (l : Line) (before : List ℕ) (f : Forwarding) (z : ℤ) (after : List ℤ) (place : ℕ) → AllByRecursion IsError l.errors →
    l.bridges ≡ map (λ n. pos n) before ++ z ∷ after → AreDelays fs before → slice_get fs (length before) ≡ Some f → ¬ IsDelay f z →
    place ≡ length l.errors + length before + 1 → IsFirstWrongPlace plant fs l place
first_delay plant fs l before f z after place errors are right there wrong at = record {
  wrong = inr (inl (record {
    n = length before;
    f = f;
    z = z;
    at = at;
    forwarding = there;
    is = ap (λ zs. slice_get zs (length before)) are ∙ subst (λ k. slice_get (map (λ n. pos n) before ++ z ∷ after) k ≡ Some z) same (at_end (map (λ n. pos n) before) z after);
    wrong = wrong;
  }));
  first = earliest;
} where
  same : length (map (λ n. pos n) before) ≡ length before
  same = length-map before (λ n. pos n)

  long : length before + 1 ≤ length l.bridges
  long = omega (arith, ap length are, length-append (map (λ n. pos n) before) (z ∷ after), same)

  none_wrong : (other : ℕ) (d : IsWrongDelay fs l other) → d.n < length before → ⊥
  none_wrong other d within =
      let (k, is, plain) = plain_at before d.n d.z
      (sym (ap (λ zs. slice_get zs d.n) are ∙ in_front (map (λ n. pos n) before) (z ∷ after) d.n (omega (arith, same, within))) ∙ d.is) in
      let (low, high) = delay_at fs before d.n d.f k right d.forwarding is in
      d.wrong (subst (IsDelay d.f) (sym plain) (omega (arith, ints, low), omega (arith, ints, high)))

  earliest : (other : ℕ) → IsWrongPlace plant fs l other → place ≤ other
  earliest other (inl e) = absurd (e.wrong (each_at IsError l.errors e.n e.z errors e.is))
  earliest other (inr (inl d)) =
      elim (cases_lt d.n (length before)) [
        | inl within ↦ absurd (none_wrong other d within)
        | inr past ↦ omega (arith, at, past, d.at)
      ]
  earliest other (inr (inr c)) = omega (arith, at, c.at, long)

pub first_link : (plant : Plant) (fs : List Forwarding) (l : Line) (delays before : List ℕ) (z : ℤ) (after : List ℤ) (place : ℕ) → AllByRecursion IsError l.errors →
    l.bridges ≡ map (λ n. pos n) delays → AreDelays fs delays → l.cuts ≡ map (λ n. pos n) before ++ z ∷ after → AreLinksFrom 0 (length plant.links) before →
    ¬ (IsLinkNumber plant z × (pos (least_after 0 before) ≤ℤ z)) → place ≡ length l.errors + length l.bridges + length before + 1 → IsFirstWrongPlace plant fs l place
first_link plant fs l delays before z after place errors bridges in_range are right wrong at = record {
  wrong = inr (inr (record {
    n = length before;
    z = z;
    at = at;
    is = ap (λ zs. slice_get zs (length before)) are ∙ subst (λ k. slice_get (map (λ n. pos n) before ++ z ∷ after) k ≡ Some z) same (at_end (map (λ n. pos n) before) z after);
    wrong = λ is. wrong (is.0, above_all 0 before z is.0.0 (subst (λ zs. Ascends zs z) kept is.1));
  }));
  first = earliest;
} where
  same : length (map (λ n. pos n) before) ≡ length before
  same = length-map before (λ n. pos n)

  kept : take (length before) l.cuts ≡ map (λ n. pos n) before
  kept = ap (take (length before)) are ∙ take_at (map (λ n. pos n) before) (z ∷ after) (length before) same

  none_wrong_delay : (other : ℕ) (d : IsWrongDelay fs l other) → ⊥
  none_wrong_delay other d =
      let (k, is, plain) = plain_at delays d.n d.z (sym (ap (λ zs. slice_get zs d.n) bridges) ∙ d.is) in
      let (low, high) = delay_at fs delays d.n d.f k in_range d.forwarding is in
      d.wrong (subst (IsDelay d.f) (sym plain) (omega (arith, ints, low), omega (arith, ints, high)))

  none_wrong_link : (other : ℕ) (c : IsWrongLink plant l other) → c.n < length before → ⊥
  none_wrong_link other c within =
      let (k, is, plain) = plain_at before c.n c.z
      (sym (ap (λ zs. slice_get zs c.n) are ∙ in_front (map (λ n. pos n) before) (z ∷ after) c.n (omega (arith, same, within))) ∙ c.is) in
      let (low, high, greater) = link_at 0 (length plant.links) before c.n k right is in
      let front : take c.n (map (λ n. pos n) before) ≡ take c.n l.cuts =
      sym (ap (take c.n) are ∙ take-append-le c.n (map (λ n. pos n) before) (z ∷ after) (omega (arith, same, within))) in
      let number : IsLinkNumber plant (pos k) = (omega (arith, ints), omega (arith, ints, high)) in
      c.wrong (subst (λ y. IsLinkNumber plant y × Ascends (take c.n l.cuts) y) (sym plain) (number, subst (λ zs. Ascends zs (pos k)) front greater))

  earliest : (other : ℕ) → IsWrongPlace plant fs l other → place ≤ other
  earliest other (inl e) = absurd (e.wrong (each_at IsError l.errors e.n e.z errors e.is))
  earliest other (inr (inl d)) = absurd (none_wrong_delay other d)
  earliest other (inr (inr c)) =
      elim (cases_lt c.n (length before)) [
        | inl within ↦ absurd (none_wrong_link other c within)
        | inr past ↦ omega (arith, at, past, c.at)
      ]
