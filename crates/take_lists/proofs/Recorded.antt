-- The takes of a run's cycles, without their further words.
use Rattle.std.specs.Prelude.{Some, slice_get, slice_index, take, replicate}
use Rattle.std.specs.List.{AllByRecursion}
use Rattle.std.proofs.Common.{◌≡◌, inl, inr, ℕ, zero, suc, ◌+◌, ◌-◌, ◌<◌, ◌≤◌, List, [], ◌∷◌, ◌++◌, length, get_or, map, refl, sym, ap, ◌∙◌, subst, arith}
use Rattle.std.proofs.lemmas.List.{length-append, length-map, length-replicate, get_or-map, take-replicate}
use Rattle.std.proofs.lemmas.Option.{get_or_from_slice_get}
use Rattle.std.proofs.Math.Seq.{get_or-append_seam}
use Rattle.io_buffers.specs.Given.{Given}
use Rattle.io_buffers.specs.Passes.{publication, IsOfPublication}
use Rattle.io_buffers.specs.Steps.{NeverFell}
use Rattle.iso_rules.specs.Legal.{IsLateBefore, IsNear, IsPublished, NeverFall}
use Rattle.iso_rules.specs.declared.turn.Turn.{Turn}
use Rattle.take_lists.specs.Rows.{output_row, output_rows, outputs, AreCycleTakes, AreLegalTakes}
use Rattle.take_lists.specs.Takes.{AreFresh, IsNearTake, AreNearTakes, front_words, last_word, without_further}

length_less : (words : List ℕ) (word : ℕ) → length (words ++ word ∷ []) - 1 ≡ length words
length_less words word = let n = length-append words (word ∷ []) in omega arith

take_front : (words more : List ℕ) → take (length words) (words ++ more) ≡ words
take_front [] more = refl
take_front (w ∷ words) more = ap (λ (l : List ℕ). w ∷ l) (take_front words more)

pub front_snoc : (words : List ℕ) (word : ℕ) → front_words (words ++ word ∷ []) ≡ words
front_snoc words word = ap (λ (n : ℕ). take n (words ++ word ∷ [])) (length_less words word) ∙ take_front words (word ∷ [])

pub last_snoc : (words : List ℕ) (word : ℕ) → last_word (words ++ word ∷ []) ≡ word
last_snoc words word = ap (λ (n : ℕ). slice_index (words ++ word ∷ []) n) (length_less words word) ∙ get_or-append_seam words word [] 0

front_zeros : (n : ℕ) → front_words (replicate {A = ℕ} (n + 1) 0) ≡ replicate {A = ℕ} n 0
front_zeros n =
    let e : length (replicate {A = ℕ} (n + 1) 0) - 1 ≡ n = (let z : ℕ = 0 in let l : length (replicate (n + 1) z) ≡ n + 1 = length-replicate (n + 1) z in omega arith) in
    ap (λ (m : ℕ). take m (replicate {A = ℕ} (n + 1) 0)) e ∙ take-replicate n (n + 1) 0 (omega arith)

front_rows : (turns : List Turn) → map front_words (map output_row turns) ≡ map (λ (t : Turn). t.output) turns
front_rows [] = refl
front_rows (t ∷ turns) = λ i. front_snoc t.output t.taken.number i ∷ front_rows turns i

front_all : (n : ℕ) (turns : List Turn) → map front_words (output_rows n turns) ≡ outputs n turns
front_all n turns = λ i. front_zeros n i ∷ front_rows turns i

-- a publication and its front
front_of : (n : ℕ) (turns : List Turn) (number : ℕ) → number < length (output_rows n turns)
    → front_words (publication (output_rows n turns) number) ≡ publication (outputs n turns) number
front_of n turns number lt =
    sym (get_or-map front_words (output_rows n turns) number [] [] lt) ∙ ap (λ (l : List (List ℕ)). get_or l number []) (front_all n turns)

rows_count : (n : ℕ) (turns : List Turn) → (length (output_rows n turns) ≡ length turns + 1) × (length (outputs n turns) ≡ length turns + 1)
rows_count n turns = let a = length-map turns output_row in let b = length-map turns (λ (t : Turn). t.output) in (omega arith, omega arith)

module _ (n : ℕ) (turns : List Turn) where
  whole : (t : Given) → IsOfPublication (output_rows n turns) t → IsPublished (outputs n turns) (without_further t)
  whole t of = record {
    made = (let c = rows_count n turns in let m = of.made in omega arith);
    whole = ap front_words of.whole ∙ front_of n turns t.taken.number of.made;
  }

  late : (t : Given) → IsOfPublication (output_rows n turns) t → IsLateBefore (length turns) t.taken
  late t of = λ out. (let c = rows_count n turns in let m = of.late out in omega arith)

  further : (t : Given) (number : ℕ) (turn : Turn) → IsOfPublication (output_rows n turns) t → t.taken.number ≡ number + 1 → slice_get turns number ≡ Some turn
      → number < length turns → last_word t.words ≡ turn.taken.number
  further t number turn of is at lt =
      ap last_word (of.whole ∙ (ap (λ (k : ℕ). publication (output_rows n turns) k) (is ∙ (let e : number + 1 ≡ suc number = omega arith in e))
      ∙ (get_or-map output_row turns number turn [] lt ∙ ap output_row (get_or_from_slice_get turns number turn turn at))))
      ∙ last_snoc turn.output turn.taken.number

  near : (k number : ℕ) (t : Given) (turn : Turn) → IsOfPublication (output_rows n turns) t → IsNearTake k t → t.taken.number ≡ number + 1
      → slice_get turns number ≡ Some turn → IsNear k turn
  near k number t turn of is_near is at =
      let lt : number < length turns = (let c = rows_count n turns in let m = of.made in omega arith) in
      let w = further t number turn of is at lt in
      elim is_near [ inl h ↦ absurd (let z = h.0 in omega arith) | inr h ↦ record { published = (let a = h.1 in omega arith); slip = (let a = h.2 in omega arith) } ]

opening : (k : ℕ) (t : Given) → IsNearTake k t → t.taken.number ≡ 0 → k ≤ 8
opening k t is_near is = elim is_near [ inl h ↦ h.1 | inr h ↦ absurd (let z = h.0 in omega arith) ]

pub all_at : {X : Type 0} (P : X → Type 0) (xs : List X) → AllByRecursion P xs → (k : ℕ) (d : X) → k < length xs → P (get_or xs k d)
all_at P [] all k d h = absurd (omega arith)
all_at P (x ∷ xs) all zero d h = all.0
all_at P (x ∷ xs) all (suc k) d h = all_at P xs all.1 k d (omega arith)

pub all_map : {X Y : Type 0} (f : X → Y) (P : X → Type 0) (Q : Y → Type 0) → ((x : X) → P x → Q (f x)) → (xs : List X) → AllByRecursion P xs → AllByRecursion Q (map f xs)
all_map f P Q so [] all = tt
all_map f P Q so (x ∷ xs) all = (so x all.0, all_map f P Q so xs all.1)

-- the take behind the one recorded in cycle k
found_near : (P : Given → Type 0) (j k : ℕ) (ts : List Given) (g : Given) → AllByRecursion P ts → AreNearTakes j ts → slice_get (map without_further ts) k ≡ Some g
    → (t : Given) × (without_further t ≡ g) × P t × IsNearTake (j + k) t
found_near P j k [] g all near at = absurd (cc)
found_near P j zero (t ∷ ts) g all near at =
    (t, (let e : without_further t ≡ g = (cc) in e), all.0, (let z : j ≡ j + 0 = omega arith in subst (λ (m : ℕ). IsNearTake m t) z near.0))
found_near P j (suc k) (t ∷ ts) g all near at =
    let h = found_near P (j + 1) k ts g all.1 near.1 at in
    (h.0, h.1, h.2, (let z : j + 1 + k ≡ j + suc k = omega arith in subst (λ (m : ℕ). IsNearTake m h.0) z h.3))

at_zero : (P : Given → Type 0) (k : ℕ) (ts : List Given) (g : Given) → AllByRecursion P ts → AreNearTakes 0 ts → slice_get (map without_further ts) k ≡ Some g
    → (t : Given) × (without_further t ≡ g) × P t × IsNearTake k t
at_zero P k ts g all near at =
    let h = found_near P 0 k ts g all near at in (h.0, h.1, h.2, (let z : 0 + k ≡ k = omega arith in subst (λ (m : ℕ). IsNearTake m h.0) z h.3))

from_first : (n : ℕ) (ts : List Given) → AllByRecursion (λ (u : Given). n ≤ u.taken.number) ts → (t : Given) (more : List Given) → ts ≡ t ∷ more → n ≤ t.taken.number
from_first n ts all t more is = (subst (λ (l : List Given). AllByRecursion (λ (u : Given). n ≤ u.taken.number) l) is all).0

never_fall : (before : ℕ) (ts : List Given) (last : ℕ) → AreFresh before ts last → AllByRecursion (λ (u : Given). before ≤ u.taken.number) ts → NeverFell ts
    → NeverFall before (map (λ (t : Given). t.taken) (map without_further ts))
never_fall before [] last fresh least fell = tt
never_fall before (t ∷ ts) last fresh least fell = (least.0, fresh.0, never_fall t.taken.number ts last fresh.1 fell.0 fell.1)

pub all_least : (ts : List Given) → AllByRecursion (λ (u : Given). 0 ≤ u.taken.number) ts
all_least [] = tt
all_least (t ∷ ts) = (omega arith, all_least ts)

pub legal_takes : (words : ℕ) (turns : List Turn) (takes : List Given) → AreCycleTakes words turns takes → AreLegalTakes words turns (map without_further takes)
legal_takes words turns takes all = record {
  whole = all_at (IsPublished (outputs words turns)) (map without_further takes)
      (all_map without_further (IsOfPublication (output_rows words turns)) (IsPublished (outputs words turns)) (whole words turns) takes all.of.each);
  numbers = never_fall 0 takes all.last all.fresh (all_least takes) all.of.risen;
  near = λ k number g t at is turn. (
      let h = at_zero (IsOfPublication (output_rows words turns)) k takes g all.of.each all.near at in
      near words turns k number h.0 t h.2 h.3 (ap (λ (x : Given). x.taken.number) h.1 ∙ is) turn);
  opening = λ k g at is. (
      let h = at_zero (IsOfPublication (output_rows words turns)) k takes g all.of.each all.near at in
      opening k h.0 h.3 (ap (λ (x : Given). x.taken.number) h.1 ∙ is));
  windows = all_at (λ (t : Given). IsLateBefore (length turns) t.taken) (map without_further takes)
      (all_map without_further (IsOfPublication (output_rows words turns)) (λ (t : Given). IsLateBefore (length turns) t.taken) (late words turns) takes all.of.each);
}
