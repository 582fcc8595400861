-- The loops over a row: one word on.
use Rattle.std.proofs.Common.{◌≡◌, ℕ, suc, ◌+◌, ◌*◌, ◌<◌, ◌≤◌, List, [], ◌∷◌, ◌++◌, length, take, set, get_or, sym, ap, ◌∙◌, arith}
use Rattle.std.proofs.Math.Nat.{mul-le-mul_left}
use Rattle.std.proofs.lemmas.List.{take_more, take_more_set, length-take-le}
use mathlib.Core.Option.{none}
use Rattle.atomic_table.specs.Table.{step, Allows}
use Rattle.io_buffers.specs.declared.views.Made.{Made}
use Rattle.io_buffers.specs.declared.views.Made.TheVariants as made
use Rattle.io_buffers.specs.declared.views.View.TheVariants as view
use Rattle.io_buffers.specs.Steps.{draft_of, part_of, front_of, loaded_in, with_stores, with_loads}
use Rattle.io_buffers.specs.Rule.{Held, Sat, adds, place_in, stores, loads}
use Rattle.io_buffers.proofs.Allowed.{allows_store, allows_load}
use Rattle.io_buffers.proofs.StepLists.{take_all, stores-snoc, part-stores, draft-stores, loads-snoc, loaded-loads, front-loads}

-- a place of a row stands in the table
pub inside : (m slot place : ℕ) → slot < 3 → place < m → (1 + m * slot) + place < 1 + 3 * m
inside m slot place small fits =
    let two : slot ≤ 2 = omega arith in
    let far : m * slot ≤ m * 2 = mul-le-mul_left m two in
    omega arith

size_so_far : (ws : List ℕ) (k : ℕ) → k < length ws → length (take k ws) ≡ k
size_so_far ws k h = length-take-le k ws (omega arith)

part_size : (es : List Made) (ws : List ℕ) (k : ℕ) → part_of es ≡ [] → k < length ws → length (part_of (with_stores 0 (take k ws) es)) ≡ k
part_size es ws k empty h =
    ap (λ (l : List ℕ). length l) (part-stores 0 (take k ws) es ∙ ap (λ (l : List ℕ). l ++ take k ws) empty) ∙ size_so_far ws k h

loaded_size : (es : List Made) (ws : List ℕ) (k : ℕ) → loaded_in es ≡ [] → k < length ws → length (loaded_in (with_loads 0 (take k ws) es)) ≡ k
loaded_size es ws k empty h =
    ap (λ (l : List ℕ). length l) (loaded-loads 0 (take k ws) es ∙ ap (λ (l : List ℕ). l ++ take k ws) empty) ∙ size_so_far ws k h

word_place : (m wide slot slot' k k' i : ℕ) → m ≡ wide → slot' ≡ slot → k' ≡ k → i ≡ (1 + wide * slot) + k → i ≡ suc (m * slot' + k')
word_place m wide slot slot' k k' i same slots places is =
    let e : m * slot' ≡ wide * slot = ap (λ (z : ℕ). z * slot') same ∙ ap (λ (z : ℕ). wide * z) slots in
    omega arith

pub store_allowed : (m n id : ℕ) (me : Sat) (es : List Made) (ws : List ℕ) (k draft i x : ℕ) → me ≡ (view.Producer (with_stores 0 (take k ws) es), []) → m ≡ length ws → k < length ws
    → part_of es ≡ [] → draft ≡ draft_of es → i ≡ (1 + length ws * draft) + k → Allows (Held m) n id me i (λ _. x) (λ _. stores (step n i x 0 none) me x)
store_allowed m n id me es ws k draft i x is wide fits empty drafted place =
    let p = with_stores 0 (take k ws) es in
    let size = part_size es ws k empty fits in
    allows_store m n id me p i x is (omega arith)
    (word_place m (length ws) draft (draft_of p) k (length (part_of p)) i wide (draft-stores 0 (take k ws) es ∙ sym drafted) size place)

pub stored_on : (me next : Sat) (es : List Made) (ws : List ℕ) (k x : ℕ) → me ≡ (view.Producer (with_stores 0 (take k ws) es), []) → next ≡ (adds (made.Stored (place_in me.0) x) me.0, me.1)
    → x ≡ get_or ws k 0 → k < length ws → part_of es ≡ [] → next ≡ (view.Producer (with_stores 0 (take (k + 1) ws) es), [])
stored_on me next es ws k x is on word fits empty =
    let P : List Made → Sat = λ l. (view.Producer l, []) in
    let p = with_stores 0 (take k ws) es in
    let size = part_size es ws k empty fits in
    let same = size_so_far ws k fits in
    let place : length (part_of p) ≡ 0 + length (take k ws) = omega arith in
    on
    ∙ (ap (λ (z : Sat). (adds (made.Stored (place_in z.0) x) z.0, z.1)) is
    ∙ (ap (λ (j : ℕ). P (made.Stored j x ∷ p)) place
    ∙ (ap (λ (y : ℕ). P (made.Stored (0 + length (take k ws)) y ∷ p)) word
    ∙ (sym (ap (λ (l : List Made). P l) (stores-snoc 0 (take k ws) (get_or ws k 0) es))
    ∙ sym (ap (λ (l : List ℕ). P (with_stores 0 l es)) (take_more ws k 0 fits))))))

pub load_allowed : (m n id : ℕ) (me : Sat) (es : List Made) (out : List ℕ) (wide k front i : ℕ) → me ≡ (view.Consumer (with_loads 0 (take k out) es), []) → m ≡ wide → length out ≡ wide → k < wide
    → loaded_in es ≡ [] → front ≡ front_of es → i ≡ (1 + wide * front) + k → Allows (Held m) n id me i (λ r. r) (loads (step n i 0 0 none) me)
load_allowed m n id me es out wide k front i is same sized fits empty fronted place =
    let c = with_loads 0 (take k out) es in
    let inner : k < length out = omega arith in
    let size = loaded_size es out k empty inner in
    allows_load m n id me c i is (omega arith)
    (word_place m wide front (front_of c) k (length (loaded_in c)) i same (front-loads 0 (take k out) es ∙ sym fronted) size place)

pub loaded_on : (me next : Sat) (es : List Made) (out : List ℕ) (k x : ℕ) → me ≡ (view.Consumer (with_loads 0 (take k out) es), []) → next ≡ (adds (made.Loaded (place_in me.0) x) me.0, me.1)
    → k < length out → loaded_in es ≡ [] → next ≡ (view.Consumer (with_loads 0 (take (k + 1) (set out k x)) es), [])
loaded_on me next es out k x is on fits empty =
    let P : List Made → Sat = λ l. (view.Consumer l, []) in
    let c = with_loads 0 (take k out) es in
    let size = loaded_size es out k empty fits in
    let same = size_so_far out k fits in
    let place : length (loaded_in c) ≡ 0 + length (take k out) = omega arith in
    on
    ∙ (ap (λ (z : Sat). (adds (made.Loaded (place_in z.0) x) z.0, z.1)) is
    ∙ (ap (λ (j : ℕ). P (made.Loaded j x ∷ c)) place
    ∙ (sym (ap (λ (l : List Made). P l) (loads-snoc 0 (take k out) x es))
    ∙ sym (ap (λ (l : List ℕ). P (with_loads 0 l es)) (take_more_set out k x fits)))))

pub stored_all : (me : Sat) (es : List Made) (ws : List ℕ) (k : ℕ) → me ≡ (view.Producer (with_stores 0 (take k ws) es), []) → length ws ≤ k → me ≡ (view.Producer (with_stores 0 ws es), [])
stored_all me es ws k is done =
    let P : List ℕ → Sat = λ l. (view.Producer (with_stores 0 l es), []) in
    is ∙ ap (λ (l : List ℕ). P l) (take_all ws k done)

pub loaded_all : (me : Sat) (es : List Made) (out : List ℕ) (k : ℕ) → me ≡ (view.Consumer (with_loads 0 (take k out) es), []) → length out ≤ k → me ≡ (view.Consumer (with_loads 0 out es), [])
loaded_all me es out k is done =
    let P : List ℕ → Sat = λ l. (view.Consumer (with_loads 0 l es), []) in
    is ∙ ap (λ (l : List ℕ). P l) (take_all out k done)
