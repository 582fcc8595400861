-- Each kind of step changes the state of the core as its event does, so the words and the steps of both sides stay together.
use Rattle.std.proofs.Common.{◌≡◌, ℕ, suc, ◌+◌, ◌*◌, ◌<◌, ◌≤◌, Bool, true, false, not, nat_lt, if◌then◌else◌, List, [], ◌∷◌, ◌++◌, length, take, drop, set, get_or, replicate, refl, sym, ap, ◌∙◌, subst, arith}
use Rattle.std.proofs.Math.ListN.{get_or-append}
use Rattle.std.proofs.Math.Nat.{le_refl}
use Rattle.std.proofs.Math.Seq.{take-suc, take-suc-set, take-length}
use Rattle.std.proofs.lemmas.List.{length-append}
use Rattle.std.proofs.lemmas.Bool.Decides.{nat_tests}
use Rattle.swap_core.specs.declared.steps.Step.TheVariants as event
use Rattle.swap_core.specs.Runs.{next, IsSound, publication}
use Rattle.swap_core.proofs.Rows.{row_same, row_word, row_length, all_more}
use Rattle.swap_core.proofs.Sound.{sound_next, never}
use Rattle.io_buffers.specs.Given.{Given, given}
use Rattle.io_buffers.specs.declared.views.Made.{Made}
use Rattle.io_buffers.specs.declared.views.Made.TheVariants as made
use Rattle.io_buffers.specs.Steps.{middle_in, fresh_in, number_in, fresh_word, spent_word, draft_of, part_of, published_in, front_of, held_in, ready_in, shown_in, loaded_in, takes_in, publications, IsOfPublication}
use Rattle.io_buffers.specs.Rule.{state_of, IsExchange}
use Rattle.io_buffers.proofs.ControlWord.{middle-fresh, fresh-fresh, number-fresh, middle-spent, fresh-spent, number-spent, all_map, fell_more}

-- a store of a draft word is a Store
pub store-event : (m w : ℕ) (cells : List ℕ) (p c : List Made) (j x : ℕ) → j < m
    → next (state_of m w cells p c) (event.Store j x) ≡ state_of m w (set cells (m * draft_of p + j) x) (made.Stored j x ∷ p) c
store-event m w cells p c j x h =
    let e : nat_lt j m ≡ true = grind (arith, nat_tests) in
    let s = (state_of m w cells p c).slots in
    λ i. record { slots = if e i then record s { cells = set cells (m * draft_of p + j) x } else s; published = publications m p }

-- the publishing swap is a Publish
pub publish-event : (m w : ℕ) (cells : List ℕ) (p c : List Made) → draft_of p < 3
    → take m (drop (m * draft_of p) cells) ≡ part_of p
    → next (state_of m w cells p c) event.Publish ≡ state_of m (fresh_word (draft_of p) (length (published_in p) + 1)) cells (made.Published w ∷ p) c
publish-event m w cells p c small row =
    let n = length (published_in p) in
    let middle = sym (middle-fresh (draft_of p) (n + 1) small) in
    let fresh = sym (fresh-fresh (draft_of p) (n + 1) small) in
    let count = sym (length-append (published_in p) (part_of p ∷ [])) in
    λ i. record {
      slots = record {
        words = m;
        cells = cells;
        front = front_of c;
        middle = middle i;
        draft = middle_in w;
        fresh = fresh i;
        ready = ready_in c;
        held = held_in c;
        newest = count i;
      };
      published = replicate m 0 ∷ (published_in p ++ row i ∷ []);
    }

-- a control load is a Probe
pub probe-event : (m w : ℕ) (cells : List ℕ) (p c : List Made) → next (state_of m w cells p c) event.Probe ≡ state_of m w cells p (made.Probed w ∷ c)
probe-event m w cells p c = refl

-- so is the last one of a take
pub end-event : (m w : ℕ) (cells : List ℕ) (p c : List Made) → next (state_of m w cells p c) event.Probe ≡ state_of m w cells p (made.Ended w ∷ c)
end-event m w cells p c = refl

-- the taking swap is a Take
pub take-event : (m w : ℕ) (cells : List ℕ) (p c : List Made) → front_of c < 3 → ready_in c ≡ true → number_in w ≡ length (published_in p)
    → next (state_of m w cells p c) event.Take ≡ state_of m (spent_word (front_of c)) cells p (made.Took w ∷ c)
take-event m w cells p c small ready number =
    let s = (state_of m w cells p c).slots in
    let middle = sym (middle-spent (front_of c) small) in
    let fresh = sym (fresh-spent (front_of c) small) in
    let held = sym number in
    ap (λ (b : Bool). record { slots = if b then record s { front = s.middle; middle = s.front; fresh = false; ready = false; held = s.newest } else s; published = publications m p }) ready
    ∙ (λ i. record {
      slots = record {
        words = m;
        cells = cells;
        front = middle_in w;
        middle = middle i;
        draft = draft_of p;
        fresh = fresh i;
        ready = false;
        held = held i;
        newest = length (published_in p);
      };
      published = publications m p;
    })

-- a load of a slot word is a Load
pub load-event : (m w : ℕ) (cells : List ℕ) (p c : List Made) (j x : ℕ) → next (state_of m w cells p c) (event.Load j) ≡ state_of m w cells p (made.Loaded j x ∷ c)
load-event m w cells p c j x = refl

-- the numbers that a sound state allows
pub held-below : (m w : ℕ) (cells : List ℕ) (p c : List Made) → IsExchange m w cells p c → held_in c < length (publications m p)
held-below m w cells p c h = let n = h.sound.held in omega arith

-- a fresh control word has a greater number than the one held
pub fresh_above : (m w : ℕ) (cells : List ℕ) (p c : List Made) → IsExchange m w cells p c → fresh_in w ≡ true → held_in c < number_in w
fresh_above m w cells p c h e = let n = h.number e in let b = h.sound.fresh.0 e in omega arith

pub keep_store : (m w : ℕ) (cells : List ℕ) (p c : List Made) (j x : ℕ) → j ≡ length (part_of p) → j < m → IsExchange m w cells p c
    → IsExchange m w (set cells (m * draft_of p + j) x) (made.Stored j x ∷ p) c
keep_store m w cells p c j x at fits h =
    let row = take m (drop (m * draft_of p) cells) in
    let wide = row_length cells m (draft_of p) h.sound.cells h.sound.draft in
    let grown = length-append (part_of p) (x ∷ []) in
    let size : length (part_of p ++ x ∷ []) ≡ suc j = omega arith in
    record {
      sound = subst IsSound (store-event m w cells p c j x fits) (sound_next (state_of m w cells p c) (event.Store j x) h.sound);
      number = h.number;
      spent = h.spent;
      part =
          ap (λ (k : ℕ). take k (take m (drop (m * draft_of p) (set cells (m * draft_of p + j) x)))) size
          ∙ (ap (λ (l : List ℕ). take (suc j) l) (row_same cells m (draft_of p) j x fits)
          ∙ (take-suc-set row j x (omega arith)
          ∙ ap (λ (l : List ℕ). l ++ x ∷ []) (ap (λ (k : ℕ). take k row) at ∙ h.part)));
      room = omega arith;
      loaded = h.loaded;
      takes = h.takes;
      risen = h.risen;
      last = h.last;
    }

still : (ps : List (List ℕ)) (q : List ℕ) (t : Given) → IsOfPublication ps t → IsOfPublication (ps ++ q ∷ []) t
still ps q t h =
    let n = length-append ps (q ∷ []) in
    record {
      made = let a = h.made in omega arith;
      whole = h.whole ∙ sym (get_or-append ps (q ∷ []) [] t.taken.number h.made);
      late = λ e. let a = h.late e in omega arith;
    }

pub whole_part : (m w : ℕ) (cells : List ℕ) (p c : List Made) → length (part_of p) ≡ m → IsExchange m w cells p c → take m (drop (m * draft_of p) cells) ≡ part_of p
whole_part m w cells p c full h =
    let row = take m (drop (m * draft_of p) cells) in
    let wide = row_length cells m (draft_of p) h.sound.cells h.sound.draft in
    let same : length row ≡ length (part_of p) = wide ∙ sym full in
    sym (take-length row) ∙ (ap (λ (k : ℕ). take k row) same ∙ h.part)

pub keep_publish : (m w : ℕ) (cells : List ℕ) (p c : List Made) → length (part_of p) ≡ m → IsExchange m w cells p c
    → IsExchange m (fresh_word (draft_of p) (length (published_in p) + 1)) cells (made.Published w ∷ p) c
keep_publish m w cells p c full h =
    let n = length (published_in p) in
    let ps = publications m p in
    let q = part_of p in
    let below = held-below m w cells p c h in
    record {
      sound = subst IsSound (publish-event m w cells p c h.sound.draft (whole_part m w cells p c full h)) (sound_next (state_of m w cells p c) event.Publish h.sound);
      number = λ e. number-fresh (draft_of p) (n + 1) h.sound.draft ∙ sym (length-append (published_in p) (q ∷ []));
      spent = λ e. never (sym e ∙ fresh-fresh (draft_of p) (n + 1) h.sound.draft);
      part = refl;
      room = omega arith;
      loaded = ap (λ (l : List ℕ). take (length (loaded_in c)) l) (get_or-append ps (q ∷ []) [] (held_in c) below) ∙ h.loaded;
      takes = all_map (IsOfPublication ps) (IsOfPublication (ps ++ q ∷ [])) (takes_in c) (still ps q) h.takes;
      risen = h.risen;
      last = h.last;
    }

pub keep_probe : (m w : ℕ) (cells : List ℕ) (p c : List Made) → IsExchange m w cells p c → IsExchange m w cells p (made.Probed w ∷ c)
keep_probe m w cells p c h =
    record {
      sound = sound_next (state_of m w cells p c) event.Probe h.sound;
      number = h.number;
      spent = h.spent;
      part = h.part;
      room = h.room;
      loaded = refl;
      takes = h.takes;
      risen = h.risen;
      last = h.last;
    }

pub keep_take : (m w : ℕ) (cells : List ℕ) (p c : List Made) → ready_in c ≡ true → IsExchange m w cells p c → IsExchange m (spent_word (front_of c)) cells p (made.Took w ∷ c)
keep_take m w cells p c ready h =
    let number = h.number (h.sound.ready ready) in
    let above = h.sound.held in
    record {
      sound = subst IsSound (take-event m w cells p c h.sound.front ready number) (sound_next (state_of m w cells p c) event.Take h.sound);
      number = λ e. never (sym (fresh-spent (front_of c) h.sound.front) ∙ e);
      spent = λ e. number-spent (front_of c) h.sound.front;
      part = h.part;
      room = h.room;
      loaded = refl;
      takes = h.takes;
      risen = h.risen;
      last = all_map (λ (t : Given). t.taken.number ≤ held_in c) (λ (t : Given). t.taken.number ≤ number_in w) (takes_in c) (λ t b. omega arith) h.last;
    }

pub keep_load : (m w : ℕ) (cells : List ℕ) (p c : List Made) (j : ℕ) → j ≡ length (loaded_in c) → j < m → IsExchange m w cells p c
    → IsExchange m w cells p (made.Loaded j (get_or cells (m * front_of c + j) 0) ∷ c)
keep_load m w cells p c j at fits h =
    let x = get_or cells (m * front_of c + j) 0 in
    let row = take m (drop (m * front_of c) cells) in
    let held = publication (publications m p) (held_in c) in
    let wide = row_length cells m (front_of c) h.sound.cells h.sound.front in
    let same : row ≡ held = h.sound.front_row in
    let long = ap (λ (l : List ℕ). length l) same in
    let word : get_or held j 0 ≡ x = ap (λ (l : List ℕ). get_or l j 0) (sym same) ∙ row_word cells m (front_of c) j fits in
    let grown = length-append (loaded_in c) (x ∷ []) in
    let size : length (loaded_in c ++ x ∷ []) ≡ suc j = omega arith in
    record {
      sound = h.sound;
      number = h.number;
      spent = h.spent;
      part = h.part;
      room = h.room;
      loaded =
          ap (λ (k : ℕ). take k held) size
          ∙ (take-suc held j 0 (omega arith)
          ∙ (ap (λ (l : List ℕ). l ++ get_or held j 0 ∷ []) (ap (λ (k : ℕ). take k held) at ∙ h.loaded)
          ∙ ap (λ (y : ℕ). loaded_in c ++ y ∷ []) word));
      takes = h.takes;
      risen = h.risen;
      last = h.last;
    }

not_false : (b : Bool) → not b ≡ false → b ≡ true
not_false true e = refl
not_false false e = sym e

pub keep_end : (m w : ℕ) (cells : List ℕ) (p c : List Made) → length (loaded_in c) ≡ m → IsExchange m w cells p c → IsExchange m w cells p (made.Ended w ∷ c)
keep_end m w cells p c full h =
    let row = take m (drop (m * front_of c) cells) in
    let held = publication (publications m p) (held_in c) in
    let t : Given = given (record { number = held_in c; fresh = shown_in c; in_window = not (fresh_in w) }) (loaded_in c) in
    let long = ap (λ (l : List ℕ). length l) h.sound.front_row in
    let wide = row_length cells m (front_of c) h.sound.cells h.sound.front in
    let same : length held ≡ length (loaded_in c) = sym long ∙ (wide ∙ sym full) in
    let one : IsOfPublication (publications m p) t = record {
      made = held-below m w cells p c h;
      whole = sym (sym (take-length held) ∙ (ap (λ (k : ℕ). take k held) same ∙ h.loaded));
      late = λ e. let newer = h.sound.fresh.0 (not_false (fresh_in w) e) in omega arith;
    } in
    record {
      sound = sound_next (state_of m w cells p c) event.Probe h.sound;
      number = h.number;
      spent = h.spent;
      part = h.part;
      room = h.room;
      loaded = refl;
      takes = all_more (IsOfPublication (publications m p)) (takes_in c) t h.takes one;
      risen = fell_more (takes_in c) t h.risen h.last;
      last = all_more (λ (u : Given). u.taken.number ≤ held_in c) (takes_in c) t h.last (le_refl (held_in c));
    }
