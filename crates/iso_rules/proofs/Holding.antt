-- What is held: it is one, never falls, and rests on the last cycles in which the frame was due alone.
use Rattle.std.proofs.Common.{◌≡◌, ℕ, zero, suc, ◌+◌, ◌-◌, ◌<◌, ◌≤◌, List, [], ◌∷◌, ◌++◌, cond, inl, inr, sym, ◌∙◌, ap, arith}
use Rattle.std.specs.List.{range_with_len, count_by}
use Rattle.std.proofs.lemmas.Bool.{cases_lt}
use Rattle.std.proofs.lemmas.List.Sums.{sum_by_push}
use Rattle.irt_base.specs.declared.blocks.Entry.{Entry}
use Rattle.irt_base.specs.declared.limits.TheConstants.{HOLD_CYCLES}
use Rattle.irt_switch.specs.Release.{is_due}
use Rattle.iso_rules.specs.Hold.{due_after, IsHeldFrom, IsHeldPart}

range_push : (a n : ℕ) → range_with_len a (suc n) ≡ range_with_len a n ++ (a + n) ∷ []
range_push a zero = ap (λ m. m ∷ []) (omega arith)
range_push a (suc n) =
    let last : a + 1 + n ≡ a + suc n = omega arith in
    ap (λ l. a ∷ l) (range_push (a + 1) n ∙ ap (λ m. range_with_len (a + 1) n ++ m ∷ []) last)

-- ---- in how many cycles a frame is due

pub due_past : (e : Entry) (c k : ℕ) → k ≤ c → due_after e c k ≡ 0
due_past e c k past =
    let none : k - c ≡ 0 = omega arith in ap (λ n. count_by (λ cycle. is_due cycle e) (range_with_len (c + 1) n)) none

pub due_step : (e : Entry) (c k : ℕ) → c ≤ k → due_after e c (suc k) ≡ due_after e c k + cond (is_due (suc k) e) 1 0
due_step e c k within =
    let more : suc k - c ≡ suc (k - c) = omega arith in
    let last : c + 1 + (k - c) ≡ suc k = omega arith in
    ap (λ n. count_by (λ cycle. is_due cycle e) (range_with_len (c + 1) n)) more
    ∙ ap (λ l. count_by (λ cycle. is_due cycle e) l) (range_push (c + 1) (k - c))
    ∙ sum_by_push (λ cycle. cond (is_due cycle e) 1 0) (range_with_len (c + 1) (k - c)) (c + 1 + (k - c))
    ∙ ap (λ m. due_after e c k + cond (is_due m e) 1 0) last

-- in fewer after a later cycle
pub due_less : (e : Entry) (c later k : ℕ) → c ≤ later → later ≤ k → due_after e later k ≤ due_after e c k
due_less e c later zero after within = let none = due_past e later 0 (omega arith) in omega (arith, none)
due_less e c later (suc k) after within =
    elim (cases_lt k later) [
      | inl past ↦ let none = due_past e later (suc k) (omega arith) in omega (arith, none)
      | inr still ↦
          let less = due_less e c later k after still in
          let one = due_step e later k still in let other = due_step e c k (omega arith) in omega (arith, less, one, other)
    ]

-- ---- the cycle from which data are held

pub never_fallen : (Comes : ℕ → Type 0) (e : Entry) (k l c d : ℕ) → k ≤ l → IsHeldFrom Comes e k c → IsHeldFrom Comes e l d → c ≤ d
never_fallen Comes e k l c d later first second =
    elim (cases_lt d c) [
      | inl fell ↦ let reached = first.reached in absurd (second.last c fell (omega arith) first.comes)
      | inr rose ↦ rose
    ]

pub one_held : (Comes : ℕ → Type 0) (e : Entry) (k c d : ℕ) → IsHeldFrom Comes e k c → IsHeldFrom Comes e k d → c ≡ d
one_held Comes e k c d first second =
    let up = never_fallen Comes e k k c d (omega arith) first second in
    let down = never_fallen Comes e k k d c (omega arith) second first in omega (arith, up, down)

pub one_part : (Comes : ℕ → Type 0) (words : ℕ → List ℕ) (e : Entry) (k : ℕ) (part other : List ℕ) →
    IsHeldPart Comes words e k part → IsHeldPart Comes words e k other → part ≡ other
one_part Comes words e k part other (inl (c, held, is)) (inl (d, again, too)) =
    is ∙ ap words (one_held Comes e k c d held again) ∙ sym too
one_part Comes words e k part other (inl (c, held, is)) (inr (none, too)) = absurd (none c held)
one_part Comes words e k part other (inr (none, is)) (inl (d, again, too)) = absurd (none d again)
one_part Comes words e k part other (inr (none, is)) (inr (never, too)) = is ∙ sym too

-- ---- the cycles on which it rests

-- since cycle n the frame was due in too few cycles to let go of what came in n
abbrev pub IsClose : Entry → ℕ → ℕ → Type 0
IsClose e k n = (n ≤ k) × (due_after e n k < HOLD_CYCLES)

pub held_alike : (Comes Others : ℕ → Type 0) (e : Entry) (k c : ℕ) → ((n : ℕ) → IsClose e k n → Comes n → Others n) →
    ((n : ℕ) → IsClose e k n → Others n → Comes n) → IsHeldFrom Comes e k c → IsHeldFrom Others e k c
held_alike Comes Others e k c there back held = record {
  reached = held.reached;
  comes = there c (held.reached, held.short) held.comes;
  last = λ later after within comes.
      let less = due_less e c later k (omega arith) within in
      let short = held.short in held.last later after within (back later (within, omega (arith, less, short)) comes);
  short = held.short;
}

pub part_alike : (Comes Others : ℕ → Type 0) (words other_words : ℕ → List ℕ) (e : Entry) (k : ℕ) (part : List ℕ) →
    ((n : ℕ) → IsClose e k n → Comes n → Others n) → ((n : ℕ) → IsClose e k n → Others n → Comes n) →
    ((n : ℕ) → IsClose e k n → Comes n → words n ≡ other_words n) →
    IsHeldPart Comes words e k part → IsHeldPart Others other_words e k part
part_alike Comes Others words other_words e k part there back same (inl (c, held, is)) =
    inl (c, held_alike Comes Others e k c there back held, is ∙ same c (held.reached, held.short) held.comes)
part_alike Comes Others words other_words e k part there back same (inr (none, is)) =
    inr (λ c held. none c (held_alike Others Comes e k c back there held), is)
