-- What a consumer keeps of one frame, over any list of cycles, is what is held of it.
use Rattle.std.proofs.Common.{◌≡◌, ℕ, zero, suc, ◌+◌, ◌<◌, ◌≤◌, ◌⊎◌, min, Bool, true, false, cond, if◌then◌else◌, List, [], length, Option, Some, None, IsSome, replicate, inl, inr, refl, sym, ◌∙◌, ap, subst, arith}
use Rattle.std.specs.Prelude.{unwrap_or}
use Rattle.std.proofs.lemmas.Bool.{cases_lt, lt-ltb, le-ltb}
use Rattle.std.proofs.lemmas.List.{length-replicate}
use Rattle.irt_base.specs.declared.blocks.Entry.{Entry}
use Rattle.irt_base.specs.declared.limits.TheConstants.{HOLD_CYCLES}
use Rattle.irt_switch.specs.Release.{is_due}
use Rattle.iso_rules.specs.Hold.{due_after, IsHeldOf}
use Rattle.iso_rules.specs.Station.{data_words}
use Rattle.iso_rules.proofs.Holding.{due_past, due_step}
use Rattle.iso_station.specs.Held.{Held, new_held, with_words, missed, ended, shown}

shown_words : (held : Held) → held.misses < HOLD_CYCLES → shown held ≡ held.words
shown_words held few = ap (λ (b : Bool). if b then held.words else replicate (data_words held.entry) 0) (lt-ltb held.misses HOLD_CYCLES few)

shown_zeros : (held : Held) → HOLD_CYCLES ≤ held.misses → shown held ≡ replicate (data_words held.entry) 0
shown_zeros held many = ap (λ (b : Bool). if b then held.words else replicate (data_words held.entry) 0) (le-ltb held.misses HOLD_CYCLES many)

pub length-shown : (held : Held) → length held.words ≡ data_words held.entry → length (shown held) ≡ data_words held.entry
length-shown held count =
    elim (cases_lt held.misses HOLD_CYCLES) [
      | inl few ↦ ap length (shown_words held few) ∙ count
      | inr many ↦ ap length (shown_zeros held many) ∙ length-replicate (data_words held.entry) 0
    ]

-- what ends keeps its entry
pub ended_entry : (k : ℕ) (held : Held) → (ended k held).entry ≡ held.entry
ended_entry k held = go held.came (is_due k held.entry)
  where
    go : (came due : Bool) →
        (if came then record held { misses = 0; came = false } else if due then record held { misses = missed held.misses } else held).entry ≡ held.entry
    go true due = refl
    go false true = refl
    go false false = refl

-- ---- one frame over many cycles

-- after the words that came in a cycle, if any did
abbrev pub put : Option (List ℕ) → Held → Held
put None held = held
put (Some words) held = with_words words held

-- after so many cycles
abbrev pub held_after : Entry → (ℕ → Option (List ℕ)) → ℕ → Held
held_after e came zero = new_held e
held_after e came (suc k) = ended k (put (came k) (held_after e came k))

-- what came last, and how often the frame was due since
pub record CameLast (e : Entry) (came : ℕ → Option (List ℕ)) (k : ℕ) (held : Held) : Type 0 where
  pub cycle : ℕ
  pub reached : cycle ≤ k
  pub words : came cycle ≡ Some held.words
  pub last : (later : ℕ) → cycle < later → later ≤ k → came later ≡ None
  pub misses : held.misses ≡ min (due_after e cycle k) HOLD_CYCLES

pub record CameNever (came : ℕ → Option (List ℕ)) (k : ℕ) (held : Held) : Type 0 where
  pub none : (c : ℕ) → c ≤ k → came c ≡ None
  pub misses : held.misses ≡ HOLD_CYCLES

-- what is kept after cycle k
pub record IsAfter (e : Entry) (came : ℕ → Option (List ℕ)) (k : ℕ) (held : Held) : Type 0 where
  pub entry : held.entry ≡ e
  pub done : held.came ≡ false
  pub last : CameLast e came k held ⊎ CameNever came k held

-- ---- one cycle more

is_some_none : {X : Type 0} (o : Option X) → o ≡ None → ¬ IsSome o
is_some_none None is some = absurd (cc)
is_some_none (Some x) is some = absurd (cc)

-- a frame of which nothing came in the cycle
abbrev quiet : ℕ → Held → Bool → Held
quiet k held due = if due then record held { misses = missed held.misses } else held

ended_quiet : (k : ℕ) (held : Held) → held.came ≡ false → ended k held ≡ quiet k held (is_due k held.entry)
ended_quiet k held done = ap (λ (b : Bool). if b then record held { misses = 0; came = false } else quiet k held (is_due k held.entry)) done

-- none came later, and not in this cycle
none_later : (came : ℕ → Option (List ℕ)) (c k : ℕ) → ((later : ℕ) → c < later → later ≤ k → came later ≡ None) → came (suc k) ≡ None →
    (later : ℕ) → c < later → later ≤ suc k → came later ≡ None
none_later came c k before now later after within =
    elim (cases_lt k later) [
      | inl this ↦ let is : suc k ≡ later = omega arith in ap came (sym is) ∙ now
      | inr still ↦ before later after still
    ]

last_more : (e : Entry) (came : ℕ → Option (List ℕ)) (k : ℕ) (held : Held) (due : Bool) → is_due (suc k) e ≡ due → came (suc k) ≡ None →
    CameLast e came k held → CameLast e came (suc k) (quiet (suc k) held due)
last_more e came k held true due now l =
    let step = due_step e l.cycle k l.reached in
    let one : due_after e l.cycle (suc k) ≡ due_after e l.cycle k + 1 = step ∙ ap (λ (b : Bool). due_after e l.cycle k + cond b 1 0) due in
    let misses = l.misses in
    record {
      cycle = l.cycle;
      reached = let reached = l.reached in omega arith;
      words = l.words;
      last = none_later came l.cycle k l.last now;
      misses = omega (arith, one, misses);
    }
last_more e came k held false due now l =
    let step = due_step e l.cycle k l.reached in
    let none : due_after e l.cycle (suc k) ≡ due_after e l.cycle k + 0 = step ∙ ap (λ (b : Bool). due_after e l.cycle k + cond b 1 0) due in
    let misses = l.misses in
    record {
      cycle = l.cycle;
      reached = let reached = l.reached in omega arith;
      words = l.words;
      last = none_later came l.cycle k l.last now;
      misses = omega (arith, none, misses);
    }

never_more : (came : ℕ → Option (List ℕ)) (k : ℕ) (held : Held) (due : Bool) → came (suc k) ≡ None →
    CameNever came k held → CameNever came (suc k) (quiet (suc k) held due)
never_more came k held due now n = record { none = none; misses = misses due }
  where
    none : (c : ℕ) → c ≤ suc k → came c ≡ None
    none c within = elim (cases_lt k c) [
      | inl this ↦ let is : suc k ≡ c = omega arith in ap came (sym is) ∙ now
      | inr still ↦ n.none c still
    ]

    misses : (d : Bool) → (quiet (suc k) held d).misses ≡ HOLD_CYCLES
    misses true = let before = n.misses in omega (arith, before)
    misses false = n.misses

came_now : (e : Entry) (came : ℕ → Option (List ℕ)) (k : ℕ) (held : Held) (words : List ℕ) → held.entry ≡ e → came k ≡ Some words →
    IsAfter e came k (ended k (with_words words held))
came_now e came k held words entry is = record {
  entry = entry;
  done = refl;
  last = inl (record {
    cycle = k;
    reached = omega arith;
    words = is;
    last = λ later after within. absurd (omega arith);
    misses = let none = due_past e k k (omega arith) in omega (arith, none);
  });
}

quiet_entry : (k : ℕ) (held : Held) (due : Bool) → (quiet k held due).entry ≡ held.entry
quiet_entry k held true = refl
quiet_entry k held false = refl

quiet_came : (k : ℕ) (held : Held) (due : Bool) → (quiet k held due).came ≡ held.came
quiet_came k held true = refl
quiet_came k held false = refl

after_quiet : (e : Entry) (came : ℕ → Option (List ℕ)) (k : ℕ) (held : Held) → came (suc k) ≡ None → IsAfter e came k held →
    IsAfter e came (suc k) (ended (suc k) held)
after_quiet e came k held now is =
    let due = is_due (suc k) held.entry in
    subst (IsAfter e came (suc k)) (sym (ended_quiet (suc k) held is.done)) (record {
      entry = quiet_entry (suc k) held due ∙ is.entry;
      done = quiet_came (suc k) held due ∙ is.done;
      last = elim is.last [
        | inl l ↦ inl (last_more e came k held due (ap (is_due (suc k)) (sym is.entry)) now l)
        | inr n ↦ inr (never_more came k held due now n)
      ];
    })

after_next : (e : Entry) (came : ℕ → Option (List ℕ)) (k : ℕ) (held : Held) (now : Option (List ℕ)) → came (suc k) ≡ now → IsAfter e came k held →
    IsAfter e came (suc k) (ended (suc k) (put now held))
after_next e came k held None now is = after_quiet e came k held now is
after_next e came k held (Some words) now is = came_now e came (suc k) held words is.entry now

first_misses : (e : Entry) (due : Bool) → (quiet 0 (new_held e) due).misses ≡ HOLD_CYCLES
first_misses e true = refl
first_misses e false = refl

after_first : (e : Entry) (came : ℕ → Option (List ℕ)) (now : Option (List ℕ)) → came 0 ≡ now → IsAfter e came 0 (ended 0 (put now (new_held e)))
after_first e came None now =
    let due = is_due 0 e in
    subst (IsAfter e came 0) (sym (ended_quiet 0 (new_held e) refl)) (record {
      entry = quiet_entry 0 (new_held e) due;
      done = quiet_came 0 (new_held e) due;
      last = inr (record { none = λ c within. let is : 0 ≡ c = omega arith in ap came (sym is) ∙ now; misses = first_misses e due });
    })
after_first e came (Some words) now = came_now e came 0 (new_held e) words refl now

pub after_cycles : (e : Entry) (came : ℕ → Option (List ℕ)) (k : ℕ) → IsAfter e came k (held_after e came (suc k))
after_cycles e came zero = after_first e came (came 0) refl
after_cycles e came (suc k) = after_next e came k (held_after e came (suc k)) (came (suc k)) refl (after_cycles e came k)

-- ---- what is shown

held_last : (e : Entry) (came : ℕ → Option (List ℕ)) (k : ℕ) (held : Held) → held.entry ≡ e → CameLast e came k held → IsHeldOf came e k (shown held)
held_last e came k held entry l =
    let misses = l.misses in
    let some : IsSome (came l.cycle) = subst (λ (o : Option (List ℕ)). IsSome o) (sym l.words) refl in
    elim (cases_lt held.misses HOLD_CYCLES) [
      | inl few ↦ inl (
        l.cycle,
        record { reached = l.reached; comes = some; last = λ later after within. is_some_none (came later) (l.last later after within); short = omega (arith, misses, few) },
        shown_words held few ∙ ap (λ (o : Option (List ℕ)). unwrap_or o []) (sym l.words),
      )
      | inr many ↦ inr (
        λ c from.
            elim (cases_lt c l.cycle) [
              | inl before ↦ from.last l.cycle before l.reached some
              | inr still ↦ elim (cases_lt l.cycle c) [
                | inl after ↦ is_some_none (came c) (l.last c after from.reached) from.comes
                | inr not ↦
                    let same : l.cycle ≡ c = omega arith in
                    let short : due_after e l.cycle k < HOLD_CYCLES = subst (λ n. due_after e n k < HOLD_CYCLES) (sym same) from.short in
                    absurd (omega (arith, misses, many, short))
              ]
            ],
        shown_zeros held many ∙ ap (λ (x : Entry). replicate (data_words x) 0) entry,
      )
    ]

pub held_of : (e : Entry) (came : ℕ → Option (List ℕ)) (k : ℕ) → IsHeldOf came e k (shown (held_after e came (suc k)))
held_of e came k =
    let held = held_after e came (suc k) in
    let is = after_cycles e came k in
    elim is.last [
      | inl l ↦ held_last e came k held is.entry l
      | inr n ↦
          let misses = n.misses in
          inr (
            λ c from. is_some_none (came c) (n.none c from.reached) from.comes,
            shown_zeros held (omega (arith, misses)) ∙ ap (λ (x : Entry). replicate (data_words x) 0) is.entry,
          )
    ]
