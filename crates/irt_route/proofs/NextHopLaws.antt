-- Rounds of ways.
use Rattle.std.proofs.Common.{◌≡◌, ◌<◌, ◌≤◌, ◌+◌, ℕ, zero, suc, true, false, List, [], ◌∷◌, length, get_or, replicate, Option, Some, None, is_some, is_none, cond, ◌≢◌, inl, inr, refl, sym, ◌∙◌, ap, subst, arith}
use Rattle.std.proofs.lemmas.Bool.{cases_eq, cases_lt, false≢true}
use Rattle.std.proofs.lemmas.List.{get_or_past, get_or-set_same, get_or-set_other, get_or-replicate, length-set}
use Rattle.std.proofs.lemmas.List.Sums.{sum_by-cons, sum_by-set}
use Rattle.std.specs.Option.{option_map_or}
use Rattle.irt_base.specs.declared.limits.TheConstants.{MAX_DEVICES}
use Rattle.irt_base.specs.declared.numbers.DevId.{DevId}
use Rattle.irt_base.specs.declared.numbers.PortNo.{PortNo}
use Rattle.irt_route.specs.declared.next_hops.NextHop.{NextHop}
use Rattle.irt_route.specs.Walks.{Peers, IsWalk}
use Rattle.irt_route.specs.NextHops.{IsWired, IsNextHop, IsNextHopWithin, AreNextHopsWithin, leads, IsFirstPort, IsNext, AreNext, unreached, no_link, first_table}
use Rattle.irt_route.proofs.WalkLaws.{best_none, best_more}

-- a port that leads to a way
led : (table : List (Option NextHop)) (peer : Option (DevId × PortNo)) → option_map_or (λ (far : DevId × PortNo). is_some (get_or table far.0.0 None)) peer false ≡ true
    → (far : DevId × PortNo) × (peer ≡ Some far) × ((way : NextHop) × (get_or table far.0.0 None ≡ Some way))
led table None h = absurd (false≢true h)
led table (Some far) h = (far, refl, some_there (get_or table far.0.0 None) h)
  where
    some_there : (way : Option NextHop) → is_some way ≡ true → (w : NextHop) × (way ≡ Some w)
    some_there None h = absurd (false≢true h)
    some_there (Some w) h = (w, refl)

-- a walk over as many links as the rounds goes on to a device that has a way, so its first port leads
led_back : (peers : Peers) (table : List (Option NextHop)) (device target rounds : ℕ) (q : PortNo) (qs : List PortNo) → AreNextHopsWithin peers target rounds table
    → IsWalk peers device (q ∷ qs) target → length qs ≤ rounds → leads peers table device q.0 ≡ true
led_back peers table device target rounds q qs ways (far, at, walk) short =
    ap (λ o. option_map_or (λ (f : DevId × PortNo). is_some (get_or table f.0.0 None)) o false) at ∙ reached (get_or table far.0.0 None) (ways far.0.0)
  where
    reached : (way : Option NextHop) → IsNextHopWithin peers target rounds far.0.0 way → is_some way ≡ true
    reached None within = absurd (omega (arith, within qs walk))
    reached (Some w) within = refl

-- a device without a way that gets one
found_way : (peers : Peers) (table : List (Option NextHop)) (device target rounds : ℕ) (next : NextHop) → AreNextHopsWithin peers target rounds table
    → ((ports : List PortNo) → IsWalk peers device ports target → rounds < length ports)
    → next.hops ≡ rounds + 1 → IsFirstPort (leads peers table device) (Some next.port) → IsNextHopWithin peers target (rounds + 1) device (Some next)
found_way peers table device target rounds next ways none hops (leads_on, before) =
    let (far, at, (way, is)) = led table (peers device next.port.0) leads_on in
    let (rest, best, short, _) = subst (λ (w : Option NextHop). IsNextHopWithin peers target rounds far.0.0 w) is (ways far.0.0) in
    let long : rounds < suc (length rest) = none (next.port ∷ rest) (far, at, best.walk) in
    let exact : length rest ≡ rounds = omega (arith, short, long) in (
      next.port ∷ rest,
      best_more peers device next.port rest target far at best
          (λ others other. omega (arith, none others other, short))
          (λ q qs other same. elim (cases_lt q.0 next.port.0) [
            | inl less ↦
                absurd (false≢true (sym (before q.0 less) ∙ led_back peers table device target rounds q qs ways other (omega (arith, same, short))))
            | inr above ↦ above
          ]),
      omega (arith, exact),
      (omega (arith, exact, hops), refl),
    )

-- and one that gets none
no_way : (peers : Peers) (table : List (Option NextHop)) (device target rounds : ℕ) → IsWired peers → AreNextHopsWithin peers target rounds table
    → ((ports : List PortNo) → IsWalk peers device ports target → rounds < length ports) → IsFirstPort (leads peers table device) None
    → (ports : List PortNo) → IsWalk peers device ports target → rounds + 1 < length ports
no_way peers table device target rounds wired ways none fails [] walk = absurd (omega (arith, none [] walk))
no_way peers table device target rounds wired ways none fails (q ∷ qs) (far, at, walk) =
    elim (cases_lt rounds (length qs)) [
      | inl long ↦ omega arith
      | inr short ↦
          let (_, within, _) = wired.ends device q.0 far at in
          absurd (false≢true (sym (fails q.0 within) ∙ led_back peers table device target rounds q qs ways (far, at, walk) short))
    ]

next_within : (peers : Peers) (table : List (Option NextHop)) (device target rounds : ℕ) (old next : Option NextHop) → IsWired peers
    → AreNextHopsWithin peers target rounds table → IsNextHopWithin peers target rounds device old → IsNext peers table rounds device old next
    → IsNextHopWithin peers target (rounds + 1) device next
next_within peers table device target rounds (Some way) next wired ways within is =
    let (ports, best, short, of) = within in
    subst (λ (w : Option NextHop). IsNextHopWithin peers target (rounds + 1) device w) (sym is) (ports, best, omega arith, of)
next_within peers table device target rounds None None wired ways within is = no_way peers table device target rounds wired ways within is
next_within peers table device target rounds None (Some way) wired ways within is = found_way peers table device target rounds way ways within is.0 is.1

-- a device past the plant has no walk
past_within : (peers : Peers) (device target rounds : ℕ) → IsWired peers → target < MAX_DEVICES → MAX_DEVICES ≤ device
    → (ports : List PortNo) → IsWalk peers device ports target → ⊥
past_within peers device target rounds wired there past [] walk = omega arith
past_within peers device target rounds wired there past (q ∷ qs) (far, at, walk) =
    let (within, _, _) = wired.ends device q.0 far at in omega arith

-- one more round
pub ways_more : (peers : Peers) (table next : List (Option NextHop)) (target rounds : ℕ) → IsWired peers → target < MAX_DEVICES → length next ≡ MAX_DEVICES
    → AreNextHopsWithin peers target rounds table → AreNext peers rounds table next → AreNextHopsWithin peers target (rounds + 1) next
ways_more peers table next target rounds wired there long ways are = λ device.
    elim (cases_lt device MAX_DEVICES) [
      | inl below ↦
          next_within peers table device target rounds (get_or table device None) (get_or next device None) wired ways (ways device) (are device below)
      | inr past ↦
          let beyond : length next ≤ device = omega arith in
          subst (λ (w : Option NextHop). IsNextHopWithin peers target (rounds + 1) device w) (sym (get_or_past next device None beyond))
          (λ ports walk. absurd (past_within peers device target rounds wired there past ports walk))
    ]

-- the round in which no device gets a way says that the others have none
pub record IsClosed (peers : Peers) (table : List (Option NextHop)) : Type 0 where
  pub closed : (device port : ℕ) (far : DevId × PortNo) → get_or table device None ≡ None → peers device port ≡ Some far → get_or table far.0.0 None ≡ None

closed_apart : (peers : Peers) (table : List (Option NextHop)) (target rounds : ℕ) → AreNextHopsWithin peers target rounds table → IsClosed peers table
    → (ports : List PortNo) (device : ℕ) → get_or table device None ≡ None → IsWalk peers device ports target → ⊥
closed_apart peers table target rounds ways closed [] device none walk =
    let far_off = subst (λ (w : Option NextHop). IsNextHopWithin peers target rounds device w) none (ways device) in
    omega (arith, far_off [] walk)
closed_apart peers table target rounds ways closed (q ∷ qs) device none (far, at, walk) =
    closed_apart peers table target rounds ways closed qs far.0.0 (closed.closed device q.0 far none at) walk

pub ways_closed : (peers : Peers) (table : List (Option NextHop)) (target rounds : ℕ) → AreNextHopsWithin peers target rounds table → IsClosed peers table
    → (device : ℕ) → IsNextHop peers target device (get_or table device None)
ways_closed peers table target rounds ways closed device = all_of (get_or table device None) refl (ways device)
  where
    all_of : (way : Option NextHop) → get_or table device None ≡ way → IsNextHopWithin peers target rounds device way → IsNextHop peers target device way
    all_of None is within = λ ports walk. closed_apart peers table target rounds ways closed ports device is walk
    all_of (Some w) is (ports, best, short, of) = (ports, best, of)

-- what has a way keeps one
abbrev Keeps : List (Option NextHop) → List (Option NextHop) → Type 0
Keeps table next = (i : ℕ) (w : NextHop) → get_or table i None ≡ Some w → (v : NextHop) × (get_or next i None ≡ Some v)

keeps_rest : (a b : Option NextHop) (xs ys : List (Option NextHop)) → Keeps (a ∷ xs) (b ∷ ys) → Keeps xs ys
keeps_rest a b xs ys keeps = λ i w at. keeps (suc i) w at

none_counts : (xs : List (Option NextHop)) → unreached (None ∷ xs) ≡ 1 + unreached xs
none_counts xs = sum_by-cons (λ (o : Option NextHop). cond (is_none o) 1 0) None xs

some_counts : (w : NextHop) (xs : List (Option NextHop)) → unreached (Some w ∷ xs) ≡ 0 + unreached xs
some_counts w xs = sum_by-cons (λ (o : Option NextHop). cond (is_none o) 1 0) (Some w) xs

fewer : (table next : List (Option NextHop)) → length next ≡ length table → Keeps table next → unreached next ≤ unreached table
fewer [] [] long keeps = omega arith
fewer [] (b ∷ ys) long keeps = absurd (omega arith)
fewer (a ∷ xs) [] long keeps = absurd (omega arith)
fewer (None ∷ xs) (None ∷ ys) long keeps = omega (arith, none_counts xs, none_counts ys, fewer xs ys (omega arith) (keeps_rest None None xs ys keeps))
fewer (None ∷ xs) (Some v ∷ ys) long keeps = omega (arith, none_counts xs, some_counts v ys, fewer xs ys (omega arith) (keeps_rest None (Some v) xs ys keeps))
fewer (Some w ∷ xs) (None ∷ ys) long keeps = let (v, is) = keeps 0 w refl in absurd cc
fewer (Some w ∷ xs) (Some v ∷ ys) long keeps = omega (arith, some_counts w xs, some_counts v ys, fewer xs ys (omega arith) (keeps_rest (Some w) (Some v) xs ys keeps))

none_new : (table next : List (Option NextHop)) → length next ≡ length table → Keeps table next → unreached next ≡ unreached table
    → (i : ℕ) → get_or table i None ≡ None → get_or next i None ≡ None
none_new [] [] long keeps same i none = refl
none_new [] (b ∷ ys) long keeps same i none = absurd (omega arith)
none_new (a ∷ xs) [] long keeps same i none = absurd (omega arith)
none_new (None ∷ xs) (None ∷ ys) long keeps same zero none = refl
none_new (None ∷ xs) (None ∷ ys) long keeps same (suc i) none =
    none_new xs ys (omega arith) (keeps_rest None None xs ys keeps) (omega (arith, none_counts xs, none_counts ys)) i none
none_new (None ∷ xs) (Some v ∷ ys) long keeps same i none =
    absurd (omega (arith, none_counts xs, some_counts v ys, fewer xs ys (omega arith) (keeps_rest None (Some v) xs ys keeps)))
none_new (Some w ∷ xs) (None ∷ ys) long keeps same i none = let (v, is) = keeps 0 w refl in absurd cc
none_new (Some w ∷ xs) (Some v ∷ ys) long keeps same zero none = absurd cc
none_new (Some w ∷ xs) (Some v ∷ ys) long keeps same (suc i) none =
    none_new xs ys (omega arith) (keeps_rest (Some w) (Some v) xs ys keeps) (omega (arith, some_counts w xs, some_counts v ys)) i none

next_keeps : (peers : Peers) (table next : List (Option NextHop)) (rounds : ℕ) → length table ≡ MAX_DEVICES → AreNext peers rounds table next
    → Keeps table next
next_keeps peers table next rounds long are = λ i w at.
    elim (cases_lt i MAX_DEVICES) [
      | inl below ↦ (w, subst (λ (o : Option NextHop). IsNext peers table rounds i o (get_or next i None)) at (are i below))
      | inr past ↦
          let beyond : length table ≤ i = omega arith in
          let none : None ≡ Some w = sym (get_or_past table i None beyond) ∙ at in
          absurd cc
    ]

pub fewer_after : (peers : Peers) (table next : List (Option NextHop)) (rounds : ℕ) → length table ≡ MAX_DEVICES → length next ≡ MAX_DEVICES
    → AreNext peers rounds table next → unreached next ≤ unreached table
fewer_after peers table next rounds long longer are = fewer table next (omega arith) (next_keeps peers table next rounds long are)

-- a round after which as many devices have no way has found none
pub closed_after : (peers : Peers) (table next : List (Option NextHop)) (rounds : ℕ) → IsWired peers → length table ≡ MAX_DEVICES → length next ≡ MAX_DEVICES
    → AreNext peers rounds table next → unreached next ≡ unreached table → IsClosed peers table
closed_after peers table next rounds wired long longer are same =
    record {
      closed = λ device port far none at.
          let (below, within, _) = wired.ends device port far at in
          let still = none_new table next (omega arith) (next_keeps peers table next rounds long are) same device none in
          let fails : IsFirstPort (leads peers table device) None =
          subst (λ (o : Option NextHop). IsNext peers table rounds device None o) still
          (subst (λ (o : Option NextHop). IsNext peers table rounds device o (get_or next device None)) none (are device below)) in
          none_there (get_or table far.0.0 None)
          (sym (ap (λ o. option_map_or (λ (f : DevId × PortNo). is_some (get_or table f.0.0 None)) o false) at) ∙ fails port within);
    }
  where
    none_there : (way : Option NextHop) → is_some way ≡ false → way ≡ None
    none_there None h = refl
    none_there (Some w) h = absurd (false≢true (sym h))

-- before the first round
abbrev no_ways : List (Option NextHop)
no_ways = replicate MAX_DEVICES None

pub first_ways : (peers : Peers) (target : ℕ) → target < MAX_DEVICES → AreNextHopsWithin peers target 0 (first_table target)
first_ways peers target there = λ device.
    elim (cases_eq device target) [
      | inl here ↦
          subst (λ (o : Option NextHop). IsNextHopWithin peers target 0 device o)
          (sym (ap (λ d. get_or (first_table target) d None) here
          ∙ get_or-set_same (no_ways) target (Some no_link) None there))
          (subst (λ (d : ℕ). IsNextHopWithin peers target 0 d (Some no_link)) (sym here) ([], best_none peers target, omega arith, refl))
      | inr other ↦
          subst (λ (o : Option NextHop). IsNextHopWithin peers target 0 device o)
          (sym (get_or-set_other (no_ways) target device (Some no_link) None other ∙ none_in device))
          (λ ports walk. far_off ports device other walk)
    ]
  where
    none_in : (device : ℕ) → get_or (no_ways) device None ≡ None
    none_in device = elim (cases_lt device MAX_DEVICES) [
      | inl below ↦ get_or-replicate MAX_DEVICES device None None below
      | inr past ↦ get_or_past (no_ways) device None (omega arith)
    ]

    far_off : (ports : List PortNo) (device : ℕ) → device ≢ target → IsWalk peers device ports target → 0 < length ports
    far_off [] device other walk = absurd (other walk)
    far_off (q ∷ qs) device other walk = omega arith

abbrev is_none_count : Option NextHop → ℕ
is_none_count o = cond (is_none o) 1 0

pub first_unreached : (target : ℕ) → target < MAX_DEVICES → unreached (first_table target) ≤ 63
first_unreached target there =
    let gone = ap (λ (o : Option NextHop). is_none_count o) (get_or-replicate MAX_DEVICES target None None there) in
    omega (arith, sum_by-set is_none_count no_ways target (Some no_link) None there, gone)

-- a table after so many rounds, each of which found a way
pub record HasRounds (peers : Peers) (target rounds : ℕ) (table : List (Option NextHop)) : Type 0 where
  pub long : length table ≡ MAX_DEVICES
  pub ways : AreNextHopsWithin peers target rounds table
  pub left : rounds + unreached table ≤ 63

pub first_rounds : (peers : Peers) (target : ℕ) (table : List (Option NextHop)) → target < MAX_DEVICES → table ≡ first_table target
    → HasRounds peers target 0 table
first_rounds peers target table there same =
    subst (λ (t : List (Option NextHop)). HasRounds peers target 0 t) (sym same)
    (record {
      long = length-set (no_ways) target (Some no_link);
      ways = first_ways peers target there;
      left = omega (arith, first_unreached target there);
    })

pub more_rounds : (peers : Peers) (target rounds : ℕ) (table next : List (Option NextHop)) → IsWired peers → target < MAX_DEVICES
    → HasRounds peers target rounds table → length next ≡ MAX_DEVICES → AreNext peers rounds table next
    → (unreached next ≡ unreached table → ⊥) → HasRounds peers target (rounds + 1) next
more_rounds peers target rounds table next wired there has long are changed =
    record {
      long = long;
      ways = ways_more peers table next target rounds wired there long has.ways are;
      left = omega (arith, has.left, changed, fewer_after peers table next rounds has.long long are);
    }

pub closed_rounds : (peers : Peers) (target rounds : ℕ) (table next : List (Option NextHop)) → IsWired peers
    → HasRounds peers target rounds table → length next ≡ MAX_DEVICES → AreNext peers rounds table next
    → unreached next ≡ unreached table → (device : ℕ) → IsNextHop peers target device (get_or table device None)
closed_rounds peers target rounds table next wired has long are same =
    ways_closed peers table target rounds has.ways (closed_after peers table next rounds wired has.long long are same)
