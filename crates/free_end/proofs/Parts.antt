-- The parts of all apps, one after the other.
use Rattle.std.specs.Prelude.{All, Option}
use Rattle.std.proofs.Common.{◌≡◌, inl, inr, ℕ, suc, ◌+◌, ◌<◌, List, [], ◌∷◌, ◌++◌, length, get_or, map, sym, ap, ◌∙◌, subst, arith}
use Rattle.std.proofs.lemmas.Bool.{cases_lt}
use Rattle.std.proofs.lemmas.List.{length-append}
use Rattle.std.proofs.Math.ListN.{get_or-append}
use Rattle.std.proofs.Math.Seq.{get_or-append_seam}
use Rattle.iso_plant.specs.Replay.{PlantView}
use Rattle.free_end.specs.Closed.{AreParts}
use Rattle.free_jobs.specs.Jobs.{JobView}
use Rattle.free_plant.specs.Named.{app_count, cycles_of}
use Rattle.free_plant.specs.Ties.{IsTied}
use Rattle.free_plant.specs.Views.{AreWires, PortView, port_at}

-- what holds of each item of a list by its place holds of a list with one more
pub each_more : {X : Type 0} (P : ℕ → X → Type 0) (xs more : List X) (x d : X) → more ≡ xs ++ x ∷ [] → ((k : ℕ) → k < length xs → P k (get_or xs k d)) → P (length xs) x
    → (k : ℕ) → k < length more → P k (get_or more k d)
each_more P xs more x d is each here k h =
    let n : length more ≡ length xs + 1 = ap (λ (l : List _). length l) is ∙ length-append xs (x ∷ []) in
    subst (λ (l : List _). P k (get_or l k d)) (sym is)
    (elim (cases_lt k (length xs)) [
      | inl lt ↦ subst (P k) (sym (get_or-append xs (x ∷ []) d k lt)) (each k lt)
      | inr le ↦ (let e : length xs ≡ k = omega arith in
          subst (λ (i : ℕ). P i (get_or (xs ++ x ∷ []) i d)) e (subst (P (length xs)) (sym (get_or-append_seam xs x [] d)) here))
    ])

module _ (start : Option PlantView) (v : PlantView) (n : ℕ) where
  long_parts : (w : ℕ) (rest : List ℕ) (ps : List PortView) (js : List JobView) → AreParts start v n (w ∷ rest) ps js → (0 < length ps) × (0 < length js)
  long_parts w rest [] [] a = absurd a
  long_parts w rest [] (j ∷ js) a = absurd a
  long_parts w rest (p ∷ ps) [] a = absurd a
  long_parts w rest (p ∷ ps) (j ∷ js) a = (omega arith, omega arith)

  pub parts_long : (ws : List ℕ) (w : ℕ) (rest : List ℕ) (ps : List PortView) (js : List JobView) → ws ≡ w ∷ rest → AreParts start v n ws ps js → (0 < length ps) × (0 < length js)
  parts_long ws w rest ps js is a = long_parts w rest ps js (subst (λ (l : List ℕ). AreParts start v n l ps js) is a)

  pub parts_next : (ws : List ℕ) (w : ℕ) (wrest : List ℕ) (ps : List PortView) (p : PortView) (prest : List PortView) (js : List JobView) (j : JobView) (jrest : List JobView)
      → ws ≡ w ∷ wrest → ps ≡ p ∷ prest → js ≡ j ∷ jrest → AreParts start v n ws ps js
      → (w ≡ n) × IsTied v n p × (j.number ≡ n) × (j.found ≡ cycles_of start) × AreParts start v (n + 1) wrest prest jrest
  parts_next ws w wrest ps p prest js j jrest wis pis jis a =
      subst (λ (l : List JobView). AreParts start v n (w ∷ wrest) (p ∷ prest) l) jis
      (subst (λ (l : List PortView). AreParts start v n (w ∷ wrest) l js) pis
      (subst (λ (l : List ℕ). AreParts start v n l ps js) wis a))

parts_at : (start : Option PlantView) (v : PlantView) (n : ℕ) (ws : List ℕ) (ps : List PortView) (js : List JobView) → length ps ≡ length ws
    → ((k : ℕ) → k < length ws → get_or ws k 0 ≡ n + k) → ((k : ℕ) → k < length ps → IsTied v (n + k) (port_at ps k))
    → map (λ (j : JobView). j.number) js ≡ ws → All (λ (j : JobView). j.found ≡ cycles_of start) js → AreParts start v n ws ps js
parts_at start v n [] [] [] same numbers tied jobs found = tt
parts_at start v n [] (p ∷ ps) js same numbers tied jobs found = absurd (omega arith)
parts_at start v n (w ∷ ws) [] js same numbers tied jobs found = absurd (omega arith)
parts_at start v n [] [] (j ∷ js) same numbers tied jobs found = absurd (cc)
parts_at start v n (w ∷ ws) (p ∷ ps) [] same numbers tied jobs found = absurd (cc)
parts_at start v n (w ∷ ws) (p ∷ ps) (j ∷ js) same numbers tied jobs found =
    let head : j.number ≡ w = (cc) in
    let rest : map (λ (i : JobView). i.number) js ≡ ws = (cc) in
    let first : w ≡ n = (let e = numbers 0 (omega arith) in omega arith) in
    let zero_is : n + 0 ≡ n = omega arith in (
      first,
      subst (λ (k : ℕ). IsTied v k p) zero_is (tied 0 (omega arith)),
      head ∙ first,
      found 0 j (omega arith),
      parts_at start v (n + 1) ws ps js (omega arith)
          (λ k h. (let e = numbers (suc k) (omega arith) in omega arith))
          (λ k h. (let e : n + suc k ≡ n + 1 + k = omega arith in subst (λ (i : ℕ). IsTied v i (port_at ps k)) e (tied (suc k) (omega arith))))
          rest (λ k d h. found (suc k) d (omega arith)),
    )

pub parts_from : (start : Option PlantView) (v : PlantView) (ws : List ℕ) (ps : List PortView) (js : List JobView)
    → AreWires (app_count start) ws → length ps ≡ app_count start → ((app : ℕ) → app < length ps → IsTied v app (port_at ps app))
    → map (λ (j : JobView). j.number) js ≡ ws → All (λ (j : JobView). j.found ≡ cycles_of start) js → AreParts start v 0 ws ps js
parts_from start v ws ps js w count tied jobs found =
    let n = w.count in
    parts_at start v 0 ws ps js (omega arith)
    (λ k h. (let e : get_or ws k 0 ≡ k = w.each k (omega arith) in omega arith))
    (λ k h. (let e : k ≡ 0 + k = omega arith in subst (λ (i : ℕ). IsTied v i (port_at ps k)) e (tied k h)))
    jobs found
