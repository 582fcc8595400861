-- The rule of the shared exchange, and what each kind of step tells its side.
use Rattle.std.specs.Prelude.{◌≡◌, ◌⊎◌, ℕ, ◌<◌, ◌≤◌, false, IsTrue, List, [], ◌∷◌, length, take}
use Rattle.std.specs.List.{AllByRecursion}
use Rattle.atomic_table.specs.Table as table
use Rattle.swap_core.specs.Machine.{row_of}
use Rattle.swap_core.specs.Runs.{State, IsSound, publication}
use Rattle.io_buffers.specs.Given.{Given}
use Rattle.io_buffers.specs.declared.views.Made.{Made}
use Rattle.io_buffers.specs.declared.views.Made.TheVariants as made
use Rattle.io_buffers.specs.declared.views.View.{View}
use Rattle.io_buffers.specs.declared.views.View.TheVariants as view
use Rattle.io_buffers.specs.Steps.{middle_in, fresh_in, number_in, draft_of, part_of, published_in, front_of, held_in, ready_in, loaded_in, takes_in, steps_in, publications, IsOfPublication, NeverFell}

-- the state of the core that the words and the steps of both sides are
abbrev pub state_of : ℕ → ℕ → List ℕ → List Made → List Made → State
state_of m control cells p c =
    record {
      slots = record {
        words = m;
        cells = cells;
        front = front_of c;
        middle = middle_in control;
        draft = draft_of p;
        fresh = fresh_in control;
        ready = ready_in c;
        held = held_in c;
        newest = length (published_in p);
      };
      published = publications m p;
    }

-- the words and the steps of both sides belong together
pub record IsExchange (m control : ℕ) (cells : List ℕ) (p c : List Made) : Type 0 where
  -- they are a sound state of the core
  pub sound : IsSound (state_of m control cells p c)
  -- from bit 3 on the control word has the number of the last publication where it is fresh, else 0
  pub number : IsTrue (fresh_in control) → number_in control ≡ length (published_in p)
  pub spent : fresh_in control ≡ false → number_in control ≡ 0
  -- the draft row begins with the words stored since
  pub part : take (length (part_of p)) (row_of (state_of m control cells p c).slots (draft_of p)) ≡ part_of p
  pub room : length (part_of p) ≤ m
  -- the words loaded so far are the first ones of the publication held
  pub loaded : take (length (loaded_in c)) (publication (publications m p) (held_in c)) ≡ loaded_in c
  -- what is told at the end of all takes
  pub takes : AllByRecursion (IsOfPublication (publications m p)) (takes_in c)
  pub risen : NeverFell (takes_in c)
  pub last : AllByRecursion (λ (t : Given). t.taken.number ≤ held_in c) (takes_in c)

-- the seats: one at first, then one for each side, then both sides in one
abbrev pub AreViews : List View → List Made → List Made → Type 0
AreViews views p c =
    ((views ≡ view.Whole ∷ []) × (p ≡ []) × (c ≡ []))
    ⊎ ((views ≡ view.Producer p ∷ view.Consumer c ∷ []) ⊎ (views ≡ view.Joined p c ∷ view.Spent ∷ []))

pub record Held (m : ℕ) (s : table.State ℕ View) : Type 0 where
  pub control : ℕ
  pub cells : List ℕ
  pub producer : List Made
  pub consumer : List Made
  pub words : s.words ≡ control ∷ cells
  pub views : AreViews s.views producer consumer
  pub exchange : IsExchange m control cells producer consumer

abbrev pub Sat : Type 0
Sat = table.Me ℕ View

-- a step adds itself to the steps of its side
abbrev pub adds : Made → View → View
adds e view.Whole = view.Whole
adds e (view.Producer es) = view.Producer (e ∷ es)
adds e (view.Consumer es) = view.Consumer (e ∷ es)
adds e (view.Joined ps cs) = view.Joined ps cs
adds e view.Spent = view.Spent

-- the next place of the row that a side works on
abbrev pub place_in : View → ℕ
place_in view.Whole = 0
place_in (view.Producer es) = length (part_of es)
place_in (view.Consumer es) = length (loaded_in es)
place_in (view.Joined ps cs) = 0
place_in view.Spent = 0

abbrev pub stores : table.Step ℕ → Sat → ℕ → Sat → Type 0
stores st m r m' = m' ≡ (adds (made.Stored (place_in m.0) st.first) m.0, m.1)

abbrev pub publishes : table.Step ℕ → Sat → ℕ → Sat → Type 0
publishes st m r m' = (m' ≡ (adds (made.Published r) m.0, m.1)) × (middle_in r < 3)

abbrev pub probes : table.Step ℕ → Sat → ℕ → Sat → Type 0
probes st m r m' = m' ≡ (adds (made.Probed r) m.0, m.1)

abbrev pub takes_row : table.Step ℕ → Sat → ℕ → Sat → Type 0
takes_row st m r m' = (m' ≡ (adds (made.Took r) m.0, m.1)) × (middle_in r < 3) × (held_in (steps_in m.0) < number_in r)

abbrev pub loads : table.Step ℕ → Sat → ℕ → Sat → Type 0
loads st m r m' = m' ≡ (adds (made.Loaded (place_in m.0) r) m.0, m.1)

abbrev pub ends : table.Step ℕ → Sat → ℕ → Sat → Type 0
ends st m r m' = (m' ≡ (adds (made.Ended r) m.0, m.1)) × (IsTrue (fresh_in r) → held_in (steps_in m.0) < number_in r)
