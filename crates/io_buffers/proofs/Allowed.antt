-- Each kind of step keeps the rule, and tells its side that it was made.
use Rattle.std.proofs.Common.{◌≡◌, ℕ, zero, suc, ◌+◌, ◌*◌, ◌<◌, true, List, [], ◌∷◌, ◌++◌, length, replicate, set, get_or, refl, sym, ap, ◌∙◌, subst, inl, inr, ⊎_elim, arith}
use mathlib.Core.Option.{some, none}
use lib.ListN.{get_elem?}
use Rattle.std.specs.List.{AllByRecursion}
use Rattle.atomic_table.specs.Table as table
use Rattle.atomic_table.specs.Table.{keeps, step, Allows, Splits, Joins, opening}
use Rattle.swap_core.proofs.Sound.{sound_start, never}
use Rattle.io_buffers.specs.declared.views.Made.{Made}
use Rattle.io_buffers.specs.declared.views.Made.TheVariants as made
use Rattle.io_buffers.specs.declared.views.View.{View}
use Rattle.io_buffers.specs.declared.views.View.TheVariants as view
use Rattle.io_buffers.specs.Steps.{fresh_word, spent_word, draft_of, part_of, published_in, front_of, ready_in, loaded_in, takes_in, publications, IsOfPublication, NeverFell}
use Rattle.io_buffers.specs.Rule.{IsExchange, Held, stores, publishes, probes, takes_row, loads, ends}
use Rattle.io_buffers.proofs.Kept.{keep_store, keep_publish, keep_probe, keep_take, keep_load, keep_end, fresh_above}
use Rattle.io_buffers.proofs.Seats.{sees_producer, sees_consumer, sees_whole, sees_joined, two_at}

at_start : (m n id : ℕ) (p : List Made) (i x : ℕ) → length (part_of p) < m → i ≡ suc (m * draft_of p + length (part_of p))
    → Allows (Held m) n id (view.Producer p, []) i (λ _. x) (λ _. stores (step n i x 0 none) (view.Producer p, []) x)
at_start m n id p i x fits place s h deep there bound =
    let see = sees_producer m s id p h there in
    let j = length (part_of p) in
    let v = view.Producer (made.Stored j x ∷ p) in (
      v,
      keeps,
      tt,
      record {
        control = get_or s.words 0 0;
        cells = set see.cells (m * draft_of p + j) x;
        producer = made.Stored j x ∷ p;
        consumer = see.consumer;
        words = ap (λ (l : List ℕ). set l i x) see.words ∙ ap (λ (k : ℕ). set (get_or s.words 0 0 ∷ see.cells) k x) place;
        views = inr (inl (see.views v));
        exchange = keep_store m (get_or s.words 0 0) see.cells p see.consumer j x refl fits see.exchange;
      },
      refl,
    )

pub allows_store : (m n id : ℕ) (me : table.Me ℕ View) (p : List Made) (i x : ℕ) → me ≡ (view.Producer p, []) → length (part_of p) < m → i ≡ suc (m * draft_of p + length (part_of p))
    → Allows (Held m) n id me i (λ _. x) (λ _. stores (step n i x 0 none) me x)
allows_store m n id me p i x e fits place =
    subst (λ (z : table.Me ℕ View). Allows (Held m) n id z i (λ _. x) (λ _. stores (step n i x 0 none) z x)) (sym e) (at_start m n id p i x fits place)

at_publish : (m n id : ℕ) (p : List Made) (x : ℕ) → length (part_of p) ≡ m → x ≡ fresh_word (draft_of p) (length (published_in p) + 1)
    → Allows (Held m) n id (view.Producer p, []) 0 (λ _. x) (publishes (step n 0 x 0 none) (view.Producer p, []))
at_publish m n id p x full is s h deep there bound =
    let see = sees_producer m s id p h there in
    let w = get_or s.words 0 0 in
    let v = view.Producer (made.Published w ∷ p) in (
      v,
      keeps,
      tt,
      record {
        control = fresh_word (draft_of p) (length (published_in p) + 1);
        cells = see.cells;
        producer = made.Published w ∷ p;
        consumer = see.consumer;
        words = ap (λ (l : List ℕ). set l 0 x) see.words ∙ ap (λ (k : ℕ). k ∷ see.cells) is;
        views = inr (inl (see.views v));
        exchange = keep_publish m w see.cells p see.consumer full see.exchange;
      },
      (refl, see.exchange.sound.middle),
    )

pub allows_publish : (m n id : ℕ) (me : table.Me ℕ View) (p : List Made) (x : ℕ) → me ≡ (view.Producer p, []) → length (part_of p) ≡ m → x ≡ fresh_word (draft_of p) (length (published_in p) + 1)
    → Allows (Held m) n id me 0 (λ _. x) (publishes (step n 0 x 0 none) me)
allows_publish m n id me p x e full is =
    subst (λ (z : table.Me ℕ View). Allows (Held m) n id z 0 (λ _. x) (publishes (step n 0 x 0 none) z)) (sym e) (at_publish m n id p x full is)

at_probe : (m n id : ℕ) (c : List Made) → Allows (Held m) n id (view.Consumer c, []) 0 (λ r. r) (probes (step n 0 0 0 none) (view.Consumer c, []))
at_probe m n id c s h deep there bound =
    let see = sees_consumer m s id c h there in
    let w = get_or s.words 0 0 in
    let v = view.Consumer (made.Probed w ∷ c) in (
      v,
      keeps,
      tt,
      record {
        control = w;
        cells = see.cells;
        producer = see.producer;
        consumer = made.Probed w ∷ c;
        words = ap (λ (l : List ℕ). set l 0 w) see.words;
        views = inr (inl (see.views v));
        exchange = keep_probe m w see.cells see.producer c see.exchange;
      },
      refl,
    )

pub allows_probe : (m n id : ℕ) (me : table.Me ℕ View) (c : List Made) → me ≡ (view.Consumer c, []) → Allows (Held m) n id me 0 (λ r. r) (probes (step n 0 0 0 none) me)
allows_probe m n id me c e = subst (λ (z : table.Me ℕ View). Allows (Held m) n id z 0 (λ r. r) (probes (step n 0 0 0 none) z)) (sym e) (at_probe m n id c)

at_end : (m n id : ℕ) (c : List Made) → length (loaded_in c) ≡ m → Allows (Held m) n id (view.Consumer c, []) 0 (λ r. r) (ends (step n 0 0 0 none) (view.Consumer c, []))
at_end m n id c full s h deep there bound =
    let see = sees_consumer m s id c h there in
    let w = get_or s.words 0 0 in
    let v = view.Consumer (made.Ended w ∷ c) in (
      v,
      keeps,
      tt,
      record {
        control = w;
        cells = see.cells;
        producer = see.producer;
        consumer = made.Ended w ∷ c;
        words = ap (λ (l : List ℕ). set l 0 w) see.words;
        views = inr (inl (see.views v));
        exchange = keep_end m w see.cells see.producer c full see.exchange;
      },
      (refl, fresh_above m w see.cells see.producer c see.exchange),
    )

pub allows_end : (m n id : ℕ) (me : table.Me ℕ View) (c : List Made) → me ≡ (view.Consumer c, []) → length (loaded_in c) ≡ m → Allows (Held m) n id me 0 (λ r. r) (ends (step n 0 0 0 none) me)
allows_end m n id me c e full = subst (λ (z : table.Me ℕ View). Allows (Held m) n id z 0 (λ r. r) (ends (step n 0 0 0 none) z)) (sym e) (at_end m n id c full)

at_take : (m n id : ℕ) (c : List Made) (x : ℕ) → ready_in c ≡ true → x ≡ spent_word (front_of c) → Allows (Held m) n id (view.Consumer c, []) 0 (λ _. x) (takes_row (step n 0 x 0 none) (view.Consumer c, []))
at_take m n id c x ready is s h deep there bound =
    let see = sees_consumer m s id c h there in
    let w = get_or s.words 0 0 in
    let v = view.Consumer (made.Took w ∷ c) in (
      v,
      keeps,
      tt,
      record {
        control = spent_word (front_of c);
        cells = see.cells;
        producer = see.producer;
        consumer = made.Took w ∷ c;
        words = ap (λ (l : List ℕ). set l 0 x) see.words ∙ ap (λ (k : ℕ). k ∷ see.cells) is;
        views = inr (inl (see.views v));
        exchange = keep_take m w see.cells see.producer c ready see.exchange;
      },
      (refl, see.exchange.sound.middle, fresh_above m w see.cells see.producer c see.exchange (see.exchange.sound.ready ready)),
    )

pub allows_take : (m n id : ℕ) (me : table.Me ℕ View) (c : List Made) (x : ℕ) → me ≡ (view.Consumer c, []) → ready_in c ≡ true → x ≡ spent_word (front_of c) → Allows (Held m) n id me 0 (λ _. x) (takes_row (step n 0 x 0 none) me)
allows_take m n id me c x e ready is =
    subst (λ (z : table.Me ℕ View). Allows (Held m) n id z 0 (λ _. x) (takes_row (step n 0 x 0 none) z)) (sym e) (at_take m n id c x ready is)

set_read : (l : List ℕ) (k : ℕ) → set l k (get_or l k 0) ≡ l
set_read [] k = refl
set_read (x ∷ xs) zero = refl
set_read (x ∷ xs) (suc k) = ap (λ (l : List ℕ). x ∷ l) (set_read xs k)

at_load : (m n id : ℕ) (c : List Made) (i : ℕ) → length (loaded_in c) < m → i ≡ suc (m * front_of c + length (loaded_in c))
    → Allows (Held m) n id (view.Consumer c, []) i (λ r. r) (loads (step n i 0 0 none) (view.Consumer c, []))
at_load m n id c i fits place s h deep there bound =
    let see = sees_consumer m s id c h there in
    let j = length (loaded_in c) in
    let x = get_or s.words i 0 in
    let word : x ≡ get_or see.cells (m * front_of c + j) 0 = ap (λ (l : List ℕ). get_or l i 0) see.words ∙ ap (λ (k : ℕ). get_or (get_or s.words 0 0 ∷ see.cells) k 0) place in
    let v = view.Consumer (made.Loaded j x ∷ c) in (
      v,
      keeps,
      tt,
      record {
        control = get_or s.words 0 0;
        cells = see.cells;
        producer = see.producer;
        consumer = made.Loaded j x ∷ c;
        words = set_read s.words i ∙ see.words;
        views = inr (inl (see.views v));
        exchange = subst (λ (z : ℕ). IsExchange m (get_or s.words 0 0) see.cells see.producer (made.Loaded j z ∷ c)) (sym word)
            (keep_load m (get_or s.words 0 0) see.cells see.producer c j refl fits see.exchange);
      },
      refl,
    )

pub allows_load : (m n id : ℕ) (me : table.Me ℕ View) (c : List Made) (i : ℕ) → me ≡ (view.Consumer c, []) → length (loaded_in c) < m → i ≡ suc (m * front_of c + length (loaded_in c))
    → Allows (Held m) n id me i (λ r. r) (loads (step n i 0 0 none) me)
allows_load m n id me c i e fits place = subst (λ (z : table.Me ℕ View). Allows (Held m) n id z i (λ r. r) (loads (step n i 0 0 none) z)) (sym e) (at_load m n id c i fits place)

pub splits : (m id : ℕ) (v : View) → v ≡ view.Whole → Splits (Held m) id v (view.Producer []) (view.Consumer [])
splits m id v e s h there =
    let see = sees_whole m s id h (there ∙ ap (λ (z : View). some z) e) in
    record {
      control = get_or s.words 0 0;
      cells = see.cells;
      producer = [];
      consumer = [];
      words = see.words;
      views = inr (inl (ap (λ (l : List View). l ++ view.Consumer [] ∷ []) (see.views (view.Producer []))));
      exchange = see.exchange;
    }

joined_views : (m id other : ℕ) (s : table.State ℕ View) (p c q : List Made) → set s.views id (view.Joined p c) ≡ view.Joined p c ∷ view.Consumer q ∷ []
    → get_elem? (set s.views id (view.Joined p c)) other ≡ some (view.Consumer c)
    → (q ≡ c) × (set (set s.views id (view.Joined p c)) other view.Spent ≡ view.Joined p c ∷ view.Spent ∷ [])
joined_views m id other s p c q e there =
    ⊎_elim
    (λ t. let bad = t.1 in absurd (cc))
    (λ t.
    let same : q ≡ c = cc t.1 in (
      same,
      ap (λ (l : List View). set l other view.Spent) e ∙ ap (λ (k : ℕ). set (view.Joined p c ∷ view.Consumer q ∷ []) k view.Spent) t.0,
    ))
    (two_at (view.Joined p c) (view.Consumer q) other (view.Consumer c) (ap (λ (l : List View). get_elem? l other) (sym e) ∙ there))

pub joins : (m id other : ℕ) (v w : View) (p c : List Made) → v ≡ view.Producer p → w ≡ view.Consumer c → Joins (Held m) id v other w (view.Joined p c) view.Spent
joins m id other v w p c e f s h there apart second =
    let see = sees_producer m s id p h (there ∙ ap (λ (z : View). some z) e) in
    let both = joined_views m id other s p c see.consumer (see.views (view.Joined p c)) (second ∙ ap (λ (z : View). some z) f) in
    record {
      control = get_or s.words 0 0;
      cells = see.cells;
      producer = p;
      consumer = c;
      words = see.words;
      views = inr (inr both.1);
      exchange = subst (λ (z : List Made). IsExchange m (get_or s.words 0 0) see.cells p z) both.0 see.exchange;
    }

words_first : (m : ℕ) → set {A = ℕ} (replicate {A = ℕ} (1 + 3 * m) 0) 0 1 ≡ 1 ∷ replicate (3 * m) 0
words_first m = let e : 1 + 3 * m ≡ suc (3 * m) = omega arith in ap (λ (k : ℕ). set {A = ℕ} (replicate {A = ℕ} k 0) 0 1) e

-- at first
pub starts : (m : ℕ) → Held m (opening (set (replicate (1 + 3 * m) 0) 0 1) [] view.Whole)
starts m =
    record {
      control = 1;
      cells = replicate (3 * m) 0;
      producer = [];
      consumer = [];
      words = words_first m;
      views = inl (refl, refl, refl);
      exchange = record {
        sound = sound_start m;
        number = λ e. never e;
        spent = λ e. refl;
        part = refl;
        room = omega arith;
        loaded = refl;
        takes = tt;
        risen = tt;
        last = tt;
      };
    }

pub starts_at : (m : ℕ) (ws : List ℕ) → ws ≡ set {A = ℕ} (replicate {A = ℕ} (1 + 3 * m) 0) 0 1 → Held m (opening ws [] view.Whole)
starts_at m ws e = subst (λ (l : List ℕ). Held m (opening l [] view.Whole)) (sym e) (starts m)

-- what the last state tells of both sides
pub closing : (m id : ℕ) (v : View) (p c : List Made) (ws xs : List ℕ) → v ≡ view.Joined p c → table.Final (table.Seen (Held m) id v) ws xs
    → AllByRecursion (IsOfPublication (publications m p)) (takes_in c) × NeverFell (takes_in c)
closing m id v p c ws xs e f =
    let see = sees_joined m f.0 id p c f.1.0 (f.1.1 ∙ ap (λ (z : View). some z) e) in
    (see.exchange.takes, see.exchange.risen)
