-- No two parcels that are made have one name.
use Rattle.std.proofs.Common.{◌≡◌, ℕ, zero, suc, ◌+◌, ◌*◌, ◌/◌, ◌%◌, ◌<◌, ◌≤◌, Bool, true, false, cond, ◌==◌, ◌&&◌, List, [], ◌∷◌, map, refl, ap, arith, AllPairs, inl, inr}
use Rattle.std.specs.Prelude.{if◌then◌else◌, nat_le, nat_lt}
use Rattle.std.specs.List.{sum_by, range_with_len, enumerate_from}
use Rattle.std.proofs.Math.Nat.{div-add-mod, mul-le-mul_left, mul-le-mul_right, suc-mul}
use Rattle.std.proofs.lemmas.Bool.{cases_Bool, cases_order, and_parts, eqb-true, leb-true, ltb-true}
use Rattle.std.proofs.lemmas.Bool.Decides.{nat_tests}
use Rattle.std.proofs.lemmas.List.Elements.{All-weaker}
use Rattle.std.proofs.lemmas.List.Sums.{sum_by-cons, sum_by-le-sum_by}
use Rattle.irt_base.specs.declared.plants.Plant.{Plant}
use Rattle.irt_base.specs.declared.plants.Traffic.{Traffic}
use Rattle.period_gate.specs.declared.parcels.Parcel.{Parcel}
use Rattle.parcel_rules.specs.declared.handed.Handed.{Handed}
use Rattle.parcel_rules.specs.Fates.{is_parcel, handed_count, made_before}
use Rattle.parcel_rules.specs.Made.{parcel_of, handed_to, made_by, made_at_source, made_in}
use Rattle.parcel_rules.proofs.Lists.{AllPairs-head, AllPairs-tail, AllPairs-weaker, range_rises, enumerated_rise}
use Rattle.parcel_rules.proofs.Sums.{sum_alike, sum_none, sum_map, sum_flat_map, sum_swap}

-- ---- tests that pass once at most

pub at_most_one : {X : Type 0} (p : X → Bool) (xs : List X) → AllPairs (λ x y. p x ≡ true → p y ≡ true → ⊥) xs → sum_by (λ x. cond (p x) 1 0) xs ≤ 1
at_most_one p [] differ = omega arith
at_most_one {X = X} p (x ∷ xs) differ =
    let Both : X → X → Type 0 = λ y z. p y ≡ true → p z ≡ true → ⊥ in
    let more = at_most_one p xs (AllPairs-tail Both x xs differ) in
    let whole = sum_by-cons (λ y. cond (p y) 1 0) x xs in
    elim (cases_Bool (p x)) [
      | inl passes ↦
          let here = ap (λ (b : Bool). cond {A = ℕ} b 1 0) passes in
          let none : sum_by (λ y. cond {A = ℕ} (p y) 1 0) xs ≡ sum_by (λ (y : X). 0) xs =
          sum_alike (λ y. cond {A = ℕ} (p y) 1 0) (λ (y : X). 0) xs (All-weaker (Both x) (λ y. cond {A = ℕ} (p y) 1 0 ≡ 0)
          (λ y other. elim (cases_Bool (p y)) [
            | inl also ↦ absurd (other passes also)
            | inr fails ↦ ap (λ (b : Bool). cond {A = ℕ} b 1 0) fails
          ]) xs (AllPairs-head Both x xs differ)) in
          omega (arith, sum_none xs)
      | inr fails ↦ let here = ap (λ (b : Bool). cond {A = ℕ} b 1 0) fails in omega arith
    ]

-- ---- the serials of a cycle

-- a serial is one of a block of so many
abbrev in_block : ℕ → ℕ → ℕ → Bool
in_block serial first count = nat_le first serial && nat_lt serial (first + count)

block_count : (serial first count : ℕ) → sum_by (λ (s : ℕ). cond (s == serial) 1 0) (range_with_len first count) ≤ cond (in_block serial first count) 1 0
block_count serial first zero = omega arith
block_count serial first (suc count) =
    let more = block_count serial (first + 1) count in
    let whole = sum_by-cons (λ (s : ℕ). cond {A = ℕ} (s == serial) 1 0) first (range_with_len (first + 1) count) in
    elim (cases_order first serial) [
      | inl same ↦ grind (arith, nat_tests)
      | inr (inl less) ↦ grind (arith, nat_tests)
      | inr (inr beyond) ↦ grind (arith, nat_tests)
    ]

-- the entry makes the serial in the cycle
abbrev makes : ℕ → Traffic → ℕ → Bool
makes serial t k = (k % t.every == 0) && in_block serial (k / t.every * t.count) t.count

-- of two cycles the later one makes later serials
later_block : (serial every count j k : ℕ) → j < k → j % every ≡ 0 → k % every ≡ 0 → serial < j / every * count + count → k / every * count ≤ serial → ⊥
later_block serial every count j k before first second below above =
    elim (cases_order (j / every) (k / every)) [
      | inl same ↦
          let one = div-add-mod j every in
          let two = div-add-mod k every in
          let equal = ap (λ (n : ℕ). every * n) same in
          omega arith
      | inr (inl less) ↦
          let next : suc (j / every) * count ≤ k / every * count = mul-le-mul_right count (omega arith) in
          let block = suc-mul (j / every) count in
          omega arith
      | inr (inr more) ↦
          let one = div-add-mod j every in
          let two = div-add-mod k every in
          let product : every * (k / every) ≤ every * (j / every) = mul-le-mul_left every (omega arith) in
          omega arith
    ]

makes_once : (serial : ℕ) (t : Traffic) (j k : ℕ) → j < k → makes serial t j ≡ true → makes serial t k ≡ true → ⊥
makes_once serial t j k before first second =
    let (due, in_first) = and_parts (j % t.every == 0) (in_block serial (j / t.every * t.count) t.count) first in
    let (also, in_second) = and_parts (k % t.every == 0) (in_block serial (k / t.every * t.count) t.count) second in
    let (low, high) = and_parts (nat_le (j / t.every * t.count) serial) (nat_lt serial (j / t.every * t.count + t.count)) in_first in
    let (from, until) = and_parts (nat_le (k / t.every * t.count) serial) (nat_lt serial (k / t.every * t.count + t.count)) in_second in
    later_block serial t.every t.count j k before (eqb-true (j % t.every) 0 due) (eqb-true (k % t.every) 0 also)
    (ltb-true serial (j / t.every * t.count + t.count) high) (leb-true (k / t.every * t.count) serial from)

-- ---- all entries

module _ (traffic serial : ℕ) where
  abbrev one : Parcel → ℕ
  one p = cond (is_parcel traffic serial p) 1 0

  named : (number s : ℕ) (b : Bool) → (number == traffic) ≡ b → cond {A = ℕ} ((number == traffic) && (s == serial)) 1 0 ≡ cond b (cond (s == serial) 1 0) 0
  named number s true is = ap (λ (b : Bool). cond {A = ℕ} (b && (s == serial)) 1 0) is
  named number s false is = ap (λ (b : Bool). cond {A = ℕ} (b && (s == serial)) 1 0) is

  by_due : (number : ℕ) (t : Traffic) (k : ℕ) (b due : Bool) → (number == traffic) ≡ b → (k % t.every == 0) ≡ due →
      sum_by one (if due then map (parcel_of number t) (range_with_len (k / t.every * t.count) t.count) else []) ≤ cond b (cond (makes serial t k) 1 0) 0
  by_due number t k b false is not_due = omega arith
  by_due number t k true true is due =
      let Block : List ℕ = range_with_len (k / t.every * t.count) t.count in
      let whole = sum_map one (parcel_of number t) Block in
      let each : sum_by (λ (s : ℕ). one (parcel_of number t s)) Block ≡ sum_by (λ (s : ℕ). cond (s == serial) 1 0) Block =
      (λ i. sum_by (λ (s : ℕ). named number s true is i) Block) in
      let block = block_count serial (k / t.every * t.count) t.count in
      let made = ap (λ (d : Bool). cond {A = ℕ} (d && in_block serial (k / t.every * t.count) t.count) 1 0) due in
      omega arith
  by_due number t k false true is due =
      let Block : List ℕ = range_with_len (k / t.every * t.count) t.count in
      let whole = sum_map one (parcel_of number t) Block in
      let each : sum_by (λ (s : ℕ). one (parcel_of number t s)) Block ≡ sum_by (λ (s : ℕ). 0) Block =
      (λ i. sum_by (λ (s : ℕ). named number s false is i) Block) in
      omega (arith, sum_none Block)

  abbrev made_of : ℕ → ℕ × Traffic → ℕ
  made_of k e = cond (e.0 == traffic) (cond (makes serial e.1 k) 1 0) 0

  of_entry : (k : ℕ) (e : ℕ × Traffic) → handed_count traffic serial (made_at_source k e.0 e.1) ≤ made_of k e
  of_entry k e =
      let whole = sum_map (λ (h : Handed). one h.parcel) (handed_to e.1.source) (made_by k e.0 e.1) in
      let made = by_due e.0 e.1 k (e.0 == traffic) (k % e.1.every == 0) refl refl in
      omega arith

  in_cycle : (plant : Plant) (k : ℕ) → handed_count traffic serial (made_in plant k) ≤ sum_by (made_of k) (enumerate_from 0 plant.traffic)
  in_cycle plant k =
      let whole = sum_flat_map (λ (h : Handed). one h.parcel) (λ (e : ℕ × Traffic). made_at_source k e.0 e.1) (enumerate_from 0 plant.traffic) in
      let each = sum_by-le-sum_by (λ (e : ℕ × Traffic). handed_count traffic serial (made_at_source k e.0 e.1)) (made_of k) (enumerate_from 0 plant.traffic) (of_entry k) in
      omega arith

  -- an entry makes the serial in one cycle at most
  entry_once : (cycles : List ℕ) → AllPairs (λ j k. j < k) cycles → (e : ℕ × Traffic) → sum_by (λ k. made_of k e) cycles ≤ cond (e.0 == traffic) 1 0
  entry_once cycles rise e = by_name (e.0 == traffic)
    where
      by_name : (b : Bool) → sum_by (λ (k : ℕ). cond {A = ℕ} b (cond (makes serial e.1 k) 1 0) 0) cycles ≤ cond b 1 0
      by_name true =
          at_most_one (makes serial e.1) cycles
          (AllPairs-weaker (λ j k. j < k) (λ j k. makes serial e.1 j ≡ true → makes serial e.1 k ≡ true → ⊥) cycles
          (λ j k before. makes_once serial e.1 j k before) rise)
      by_name false = omega (arith, sum_none cycles)

  pub made_once : (plant : Plant) (n : ℕ) → handed_count traffic serial (made_before plant n) ≤ 1
  made_once plant n =
      let cycles = range_with_len 0 n in
      let entries = enumerate_from 0 plant.traffic in
      let whole = sum_flat_map (λ (h : Handed). one h.parcel) (made_in plant) cycles in
      let each = sum_by-le-sum_by (λ (k : ℕ). handed_count traffic serial (made_in plant k)) (λ (k : ℕ). sum_by (made_of k) entries) cycles (in_cycle plant) in
      let swapped = sum_swap (λ (k : ℕ) (e : ℕ × Traffic). made_of k e) cycles entries in
      let once = sum_by-le-sum_by (λ (e : ℕ × Traffic). sum_by (λ (k : ℕ). made_of k e) cycles) (λ (e : ℕ × Traffic). cond (e.0 == traffic) 1 0) entries
      (entry_once cycles (range_rises 0 n)) in
      let last = at_most_one (λ (e : ℕ × Traffic). e.0 == traffic) entries
      (AllPairs-weaker (λ (d e : ℕ × Traffic). d.0 < e.0) (λ (d e : ℕ × Traffic). (d.0 == traffic) ≡ true → (e.0 == traffic) ≡ true → ⊥) entries
      (λ d e before first second. let one = eqb-true d.0 traffic first in let two = eqb-true e.0 traffic second in omega arith)
      (enumerated_rise 0 plant.traffic)) in
      omega arith
