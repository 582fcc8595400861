-- Apps before the first cycle, and lists that are paired one by one.
use Rattle.std.proofs.Common.{◌≡◌, ℕ, zero, suc, ◌+◌, ◌<◌, ◌≤◌, List, [], ◌∷◌, ◌++◌, length, map, drop, take, zip, slice_get, Some, sym, ◌∙◌, ap, arith}
use Rattle.std.specs.Prelude.{slice_set}
use Rattle.std.proofs.lemmas.List.{length-drop, map_push, take_all}
use Rattle.std.proofs.lemmas.Slice.Zip.{length-zip}
use Rattle.std.proofs.lemmas.Option.{same_Some}
use Rattle.iso_rules.specs.Station.{input_count, output_count, output_lengths}
use Rattle.plan_rules.specs.Way.{Setup}
use Rattle.iso_station.proofs.Placing.{set_elsewhere}
use Rattle.iso_run.specs.Apps.{new_app}
use Rattle.iso_run.specs.Opened.{opened_app}
use Rattle.iso_run.specs.declared.apps.LockstepApp.{LockstepApp}

pub opened_is : {A : Type 0} (setup : Setup) (device : ℕ) (app : A) (a : LockstepApp A) (lengths : List ℕ) (output input : ℕ) →
    a ≡ new_app app lengths output input → lengths ≡ output_lengths setup device → output ≡ output_count setup device → input ≡ input_count setup device →
    a ≡ opened_app setup device app
opened_is setup device app a lengths output input made long first second = cc

-- ---- what is left of a list

taken_next : {X : Type 0} (xs : List X) (k : ℕ) (x : X) → slice_get xs k ≡ Some x → take (suc k) xs ≡ take k xs ++ x ∷ []
taken_next [] k x is = absurd (cc)
taken_next (y ∷ xs) zero x is = ap (λ z. z ∷ []) (same_Some y x is)
taken_next (y ∷ xs) (suc k) x is = ap (λ l. y ∷ l) (taken_next xs k x is)

paired : {X Y : Type 0} (xs : List X) (ys rest : List Y) (k : ℕ) (x : X) (y : Y) → slice_get xs k ≡ Some x → y ∷ rest ≡ drop k ys →
    slice_get (zip xs ys) k ≡ Some (x, y)
paired [] ys rest k x y is next = absurd (cc)
paired (a ∷ xs) [] rest zero x y is next = absurd (cc)
paired (a ∷ xs) [] rest (suc k) x y is next = absurd (cc)
paired (a ∷ xs) (b ∷ ys) rest zero x y is next =
    let same : y ≡ b = (cc) in
    ap (λ z. Some (z, b)) (same_Some a x is) ∙ ap (λ z. Some (x, z)) (sym same)
paired (a ∷ xs) (b ∷ ys) rest (suc k) x y is next = paired xs ys rest k x y is next

-- one more is opened
pub opened_next : {X Y Z : Type 0} (f : X × Y → Z) (xs : List X) (ys rest : List Y) (k : ℕ) (x : X) (y : Y) (so_far more : List Z) (z : Z) →
    slice_get xs k ≡ Some x → y ∷ rest ≡ drop k ys → so_far ≡ map f (take k (zip xs ys)) → more ≡ so_far ++ z ∷ [] → z ≡ f (x, y) →
    more ≡ map f (take (k + 1) (zip xs ys))
opened_next f xs ys rest k x y so_far more z is next done pushed made =
    pushed ∙ ap (λ l. l ++ z ∷ []) done ∙ ap (λ w. map f (take k (zip xs ys)) ++ w ∷ []) made
    ∙ sym (map_push f (take k (zip xs ys)) (x, y))
    ∙ ap (map f) (sym (taken_next (zip xs ys) k (x, y) (paired xs ys rest k x y is next)))
    ∙ ap (λ m. map f (take m (zip xs ys))) (let h : suc k ≡ k + 1 = omega arith in h)

drop_next : {X : Type 0} (xs : List X) (k : ℕ) (x : X) (rest : List X) → x ∷ rest ≡ drop k xs → (rest ≡ drop (suc k) xs) × (k < length xs)
drop_next [] zero x rest e = absurd (cc)
drop_next [] (suc k) x rest e = absurd (cc)
drop_next (y ∷ ys) zero x rest e = ((let h : rest ≡ ys = (cc) in h), omega arith)
drop_next (y ∷ ys) (suc k) x rest e = (let h = drop_next ys k x rest e in (h.0, (let b = h.1 in omega arith)))

-- the rest after the next one
pub rest_next : {X : Type 0} (xs its rest : List X) (k m : ℕ) (x : X) → its ≡ x ∷ rest → its ≡ drop k xs → m ≡ k + 1 → (rest ≡ drop m xs) × (m ≤ length xs)
rest_next xs its rest k m x next at more =
    let h = drop_next xs k x rest (sym next ∙ at) in
    (h.0 ∙ ap (λ n. drop n xs) (let e : suc k ≡ m = omega (arith, more) in e), (let b = h.1 in omega (arith, more)))

-- all are opened
pub opened_all : {X Y Z : Type 0} (f : X × Y → Z) (xs : List X) (ys : List Y) (k : ℕ) (made : List Z) → length ys ≡ length xs → length (drop k ys) ≡ 0 →
    made ≡ map f (take k (zip xs ys)) → made ≡ map f (zip xs ys)
opened_all f xs ys k made count none so_far =
    let past = length-drop k ys in
    let long = length-zip xs ys in
    so_far ∙ ap (map f) (take_all k (zip xs ys) (omega (arith, past, none, long, count)))

-- after the next place was written, those behind it are as they were
pub others_stay : {X : Type 0} (xs now : List X) (k m place : ℕ) (y : X) → ((n : ℕ) → k ≤ n → slice_get now n ≡ slice_get xs n) → place ≡ k → m ≡ k + 1 →
    (n : ℕ) → m ≤ n → slice_get (slice_set now place y) n ≡ slice_get xs n
others_stay xs now k m place y stay here more n past =
    set_elsewhere now place n y (λ same. absurd (omega (arith, here, more, past, same))) ∙ stay n (omega (arith, more, past))

pub zip_at : {X Y : Type 0} (xs : List X) (ys : List Y) (n : ℕ) (x : X) (y : Y) → slice_get xs n ≡ Some x → slice_get ys n ≡ Some y →
    slice_get (zip xs ys) n ≡ Some (x, y)
zip_at [] ys n x y first second = absurd (cc)
zip_at (a ∷ xs) [] n x y first second = absurd (cc)
zip_at (a ∷ xs) (b ∷ ys) zero x y first second = ap (λ w. Some (w, b)) (same_Some a x first) ∙ ap (λ w. Some (x, w)) (same_Some b y second)
zip_at (a ∷ xs) (b ∷ ys) (suc n) x y first second = zip_at xs ys n x y first second
