-- How many rows parcels may get, by the steps of their walks.
use Rattle.std.proofs.Common.{◌≡◌, ℕ, suc, ◌+◌, ◌*◌, ◌<◌, ◌≤◌, List, [], ◌∷◌, length, take, take_all, get_or, Option, Some, None, slice_get, slice_index_or, refl, sym, ◌∙◌, ap, ap₂, subst, arith, All, IfSome}
use Rattle.std.specs.List.{sum_by, enumerate_from}
use Rattle.std.proofs.lemmas.List.Elements.{All-head, All-tail}
use Rattle.std.proofs.lemmas.List.FromFn.{length-enumerate_from, get_or-enumerate_from}
use Rattle.std.proofs.Math.Seq.{take-suc}
use Rattle.std.proofs.lemmas.List.Sums.{sum_by-append, sum_by-cons}
use Rattle.std.proofs.lemmas.Option.{get_or_from_slice_get, slice_get-get_or}
use Rattle.irt_base.specs.Wiring.{peer_of}
use Rattle.irt_base.specs.declared.numbers.DevId.{DevId}
use Rattle.irt_base.specs.declared.numbers.PortNo.{PortNo}
use Rattle.irt_base.specs.declared.plants.Plant.{Plant}
use Rattle.irt_base.specs.declared.plants.Traffic.{Traffic}
use Rattle.irt_route.specs.Walks.{far_of}
use Rattle.net_parcels.specs.Loads.{AreStepsOf}
use Rattle.net_parcels.specs.Parcels.{rows_by_steps}
use Rattle.parcel_rules.specs.Room.{most_rows}
use Rattle.parcel_rules.specs.Steps.{Step, steps_from}

-- the rows of an entry, by its number and steps
abbrev pub Rows : List (List Step) → ℕ × Traffic → ℕ
Rows steps e = e.1.count * (length (slice_index_or steps e.0 []) + 1)

-- a walk has as many steps as ports
as_long : (plant : Plant) (at : DevId) (walk : List PortNo) → length (steps_from plant at walk) ≡ length walk
as_long plant at [] = refl
as_long plant at (port ∷ more) = ap suc (as_long plant (far_of at (peer_of plant at.0 port.0)) more)

sum_same : {X : Type 0} (f g : X → ℕ) (xs : List X) → All (λ x. f x ≡ g x) xs → sum_by f xs ≡ sum_by g xs
sum_same f g [] all = refl
sum_same f g (x ∷ xs) all =
    sum_by-cons f x xs ∙ ap₂ (λ (m n : ℕ). m + n) (All-head (λ y. f y ≡ g y) x xs all) (sum_same f g xs (All-tail (λ y. f y ≡ g y) x xs all)) ∙ sym (sum_by-cons g x xs)

-- each number stands with its entry
numbered : (entries : List Traffic) → All (λ (e : ℕ × Traffic). slice_get entries e.0 ≡ Some e.1) (enumerate_from 0 entries)
numbered entries = λ k d below.
    let within : k < length entries = omega (arith, length-enumerate_from 0 entries) in
    let whole = get_or-enumerate_from 0 entries k d within in
    let number : 0 + k ≡ k = omega arith in
    subst (λ (e : ℕ × Traffic). slice_get entries e.0 ≡ Some e.1) (sym whole) (ap (slice_get entries) number ∙ slice_get-get_or entries k d.1 within)

pub rows_same : (plant : Plant) (walks : List (List PortNo)) (steps : List (List Step)) → AreStepsOf plant walks steps →
    rows_by_steps plant.traffic steps ≡ most_rows plant walks
rows_same plant walks steps are =
    sum_same (λ (e : ℕ × Traffic). e.1.count * (length (slice_index_or steps e.0 []) + 1)) (λ (e : ℕ × Traffic). e.1.count * (length (slice_index_or walks e.0 []) + 1))
    (enumerate_from 0 plant.traffic) (λ k d below.
    one _ (numbered plant.traffic k d below))
  where
    one : (e : ℕ × Traffic) → slice_get plant.traffic e.0 ≡ Some e.1 → e.1.count * (length (slice_index_or steps e.0 []) + 1) ≡ e.1.count * (length (slice_index_or walks e.0 []) + 1)
    one e there =
        let has = get_or_from_slice_get steps e.0 (steps_from plant e.1.source (slice_index_or walks e.0 [])) [] (are.each e.0 e.1 there) in
        ap (λ (n : ℕ). e.1.count * (n + 1)) (ap length has ∙ as_long plant e.1.source (slice_index_or walks e.0 []))

pub if_some : {A : Type 0} (P Q : A → Type 0) (o : Option A) → ((x : A) → P x → Q x) → IfSome o P → IfSome o Q
if_some P Q None more is = is
if_some P Q (Some x) more is = more x is

-- the rows of one entry more
pub one_more : (entries : List Traffic) (steps : List (List Step)) (n : ℕ) (t : Traffic) (walk : List Step) → n < length entries → t ≡ get_or entries n t →
    n < length steps → walk ≡ get_or steps n walk → sum_by (Rows steps) (take (n + 1) (enumerate_from 0 entries))
    ≡ sum_by (Rows steps) (take n (enumerate_from 0 entries)) + t.count * (length walk + 1)
one_more entries steps n t walk below is there at =
    let d : ℕ × Traffic = (0, t) in
    let next : n + 1 ≡ suc n = omega arith in
    let within : n < length (enumerate_from 0 entries) = omega (arith, length-enumerate_from 0 entries) in
    let item : get_or (enumerate_from 0 entries) n d ≡ (n, t) = get_or-enumerate_from 0 entries n d below ∙ ap₂ (λ (m : ℕ) (x : Traffic). (m, x)) (omega arith) (sym is) in
    ap (λ m. sum_by (Rows steps) (take m (enumerate_from 0 entries))) next
    ∙ ap (sum_by (Rows steps)) (take-suc (enumerate_from 0 entries) n d within)
    ∙ sum_by-append (Rows steps) (take n (enumerate_from 0 entries)) (get_or (enumerate_from 0 entries) n d ∷ [])
    ∙ ap (λ (m : ℕ). sum_by (Rows steps) (take n (enumerate_from 0 entries)) + m)
    (ap (λ (e : ℕ × Traffic). sum_by (Rows steps) (e ∷ [])) item ∙ sum_by-cons (Rows steps) (n, t) [] ∙ last (n, t)
    ∙ ap (λ (xs : List Step). t.count * (length xs + 1))
    (get_or_from_slice_get steps n (get_or steps n walk) [] (slice_get-get_or steps n walk there) ∙ sym at))
  where
    last : (e : ℕ × Traffic) → Rows steps e + sum_by (Rows steps) [] ≡ Rows steps e
    last e = omega arith

-- at the end
pub all_rows : (entries : List Traffic) (steps : List (List Step)) (n rows : ℕ) → length entries ≤ n → rows ≡ sum_by (Rows steps) (take n (enumerate_from 0 entries)) →
    rows ≡ rows_by_steps entries steps
all_rows entries steps n rows past is = is ∙ ap (sum_by (Rows steps)) (take_all n (enumerate_from 0 entries) (omega (arith, length-enumerate_from 0 entries)))

-- the loop's step
pub one_added : (entries : List Traffic) (steps : List (List Step)) (n rows more links : ℕ) (t : Traffic) (walk : List Step) → n < length entries → n < length steps →
    walk ≡ get_or steps n walk → links ≡ length walk → rows ≡ sum_by (Rows steps) (take n (enumerate_from 0 entries)) →
    more ≡ rows + (get_or entries n t).count * (links + 1) → more ≡ sum_by (Rows steps) (take (n + 1) (enumerate_from 0 entries))
one_added entries steps n rows more links t walk below there at count so_far is =
    is ∙ ap₂ (λ (a b : ℕ). a + (get_or entries n t).count * (b + 1)) so_far count
    ∙ sym (one_more entries steps n (get_or entries n t) walk below
    (sym (get_or_from_slice_get entries n (get_or entries n t) (get_or entries n t) (slice_get-get_or entries n t below))) there at)
