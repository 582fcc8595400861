-- Whole runs: lists of steps of both sides, in any order, with the list of publications that they make.
use Rattle.std.specs.Prelude.{◌≡◌, ◌≢◌, ℕ, ◌+◌, ◌*◌, ◌<◌, ◌≤◌, ◌==◌, ◌||◌, ◌↔◌, Bool, false, if◌then◌else◌, Option, Some, None, IsTrue, List, [], ◌∷◌, ◌++◌, length, replicate, slice_index_or}
use Rattle.std.specs.List.{AllByRecursion}
use Rattle.swap_core.specs.declared.steps.Step.{Step}
use Rattle.swap_core.specs.declared.steps.Step.TheVariants as steps
use Rattle.swap_core.specs.declared.steps.Seen.{Seen}
use Rattle.swap_core.specs.declared.steps.Seen.TheVariants as sights
use Rattle.swap_core.specs.Machine.{Slots, row_of, first_slots, after, seen_by}

-- what the core keeps, and beside it all that was published: number 0 is all zeros
pub record State : Type 0 where
  pub slots : Slots
  pub published : List (List ℕ)

abbrev pub start : ℕ → State
start m = record { slots = first_slots m; published = replicate m 0 ∷ [] }

-- publishing appends the draft row, and no other step changes the list
abbrev pub published_after : Slots → List (List ℕ) → Step → List (List ℕ)
published_after s ps (steps.Store place word) = ps
published_after s ps steps.Publish = ps ++ row_of s s.draft ∷ []
published_after s ps steps.Probe = ps
published_after s ps steps.Take = ps
published_after s ps (steps.Load place) = ps

abbrev pub next : State → Step → State
next s e = record { slots = after s.slots e; published = published_after s.slots s.published e }

-- the state after a list of steps
abbrev pub run : State → List Step → State
run s [] = s
run s (e ∷ es) = run (next s e) es

-- what each step of the list sees
abbrev pub sights_of : State → List Step → List Seen
sights_of s [] = []
sights_of s (e ∷ es) = seen_by s.slots e ∷ sights_of (next s e) es

-- the publication of a number
abbrev pub publication : List (List ℕ) → ℕ → List ℕ
publication ps number = slice_index_or ps number []

-- a sound state
pub record IsSound (s : State) : Type 0 where
  pub cells : length s.slots.cells ≡ 3 * s.slots.words
  -- front, middle and draft are the three slots
  pub front : s.slots.front < 3
  pub middle : s.slots.middle < 3
  pub draft : s.slots.draft < 3
  pub front_middle : s.slots.front ≢ s.slots.middle
  pub middle_draft : s.slots.middle ≢ s.slots.draft
  pub draft_front : s.slots.draft ≢ s.slots.front
  -- newest is the last number, and no more is held
  pub count : length s.published ≡ s.slots.newest + 1
  pub held : s.slots.held ≤ s.slots.newest
  -- the front row is the publication held
  pub front_row : row_of s.slots s.slots.front ≡ publication s.published s.slots.held
  -- fresh holds exactly where a newer one than the held one is there
  pub fresh : IsTrue s.slots.fresh ↔ (s.slots.held < s.slots.newest)
  -- and then the middle row is the newest
  pub middle_row : IsTrue s.slots.fresh → row_of s.slots s.slots.middle ≡ publication s.published s.slots.newest
  pub ready : IsTrue s.slots.ready → IsTrue s.slots.fresh
  -- each publication has as many words as a row
  pub widths : AllByRecursion (λ (p : List ℕ). length p ≡ s.slots.words) s.published

-- the word that was stored last at a place since the last Publish, if one was
abbrev pub stored_after : Option ℕ → ℕ → Step → Option ℕ
stored_after w place (steps.Store at word) = if at == place then Some word else w
stored_after w place steps.Publish = None
stored_after w place steps.Probe = w
stored_after w place steps.Take = w
stored_after w place (steps.Load at) = w

abbrev pub stored : Option ℕ → ℕ → List Step → Option ℕ
stored w place [] = w
stored w place (e ∷ es) = stored (stored_after w place e) place es

-- what a Publish after these steps appends: the publication of the number after the newest
abbrev pub next_publication : ℕ → List Step → List ℕ
next_publication m es = publication (run (start m) (es ++ steps.Publish ∷ [])).published ((run (start m) es).slots.newest + 1)

-- whether a Probe saw fresh and no Take came after it
abbrev pub shown_after : Bool → Step → Seen → Bool
shown_after b steps.Probe (sights.Probed fresh) = b || fresh
shown_after b steps.Take seen = false
shown_after b e seen = b

abbrev pub was_shown : Bool → List Step → List Seen → Bool
was_shown b (e ∷ es) (seen ∷ sights) = was_shown (shown_after b e seen) es sights
was_shown b es sights = b
