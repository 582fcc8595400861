-- What the steps of one side say. A list of steps has the last one first.
use Rattle.std.specs.Prelude.{◌≡◌, ℕ, suc, ◌+◌, ◌*◌, ◌/◌, ◌%◌, ◌<◌, ◌≤◌, ◌==◌, Bool, false, not, IsTrue, if◌then◌else◌, List, [], ◌∷◌, ◌++◌, length, replicate}
use Rattle.std.specs.List.{AllByRecursion}
use Rattle.swap_core.specs.Runs.{publication}
use Rattle.io_buffers.specs.Given.{Given, given}
use Rattle.io_buffers.specs.declared.views.Made.{Made}
use Rattle.io_buffers.specs.declared.views.Made.TheVariants as made
use Rattle.io_buffers.specs.declared.views.View.{View}
use Rattle.io_buffers.specs.declared.views.View.TheVariants as view

-- the control word: the middle slot in its two lowest bits, the bit fresh, and from bit 3 the number where it is fresh
abbrev pub middle_in : ℕ → ℕ
middle_in word = word % 4

abbrev pub fresh_in : ℕ → Bool
fresh_in word = word / 4 % 2 == 1

abbrev pub number_in : ℕ → ℕ
number_in word = word / 8

-- the control word of a middle row that was published, and of one that was given back
abbrev pub fresh_word : ℕ → ℕ → ℕ
fresh_word middle number = middle + 4 + 8 * number

abbrev pub spent_word : ℕ → ℕ
spent_word middle = middle

-- the producer's slot: that of the control word which its last publication found
abbrev pub draft_of : List Made → ℕ
draft_of [] = 2
draft_of (made.Published found ∷ es) = middle_in found
draft_of (e ∷ es) = draft_of es

-- the words stored since the last publication
abbrev pub part_of : List Made → List ℕ
part_of [] = []
part_of (made.Stored place word ∷ es) = part_of es ++ word ∷ []
part_of (made.Published found ∷ es) = []
part_of (e ∷ es) = part_of es

-- all publications that were made, in order; the first has number 1
abbrev pub published_in : List Made → List (List ℕ)
published_in [] = []
published_in (made.Published found ∷ es) = published_in es ++ part_of es ∷ []
published_in (e ∷ es) = published_in es

-- the consumer's slot: that of the control word which its last taking swap found
abbrev pub front_of : List Made → ℕ
front_of [] = 0
front_of (made.Took found ∷ es) = middle_in found
front_of (e ∷ es) = front_of es

-- the number that its last taking swap found
abbrev pub held_in : List Made → ℕ
held_in [] = 0
held_in (made.Took found ∷ es) = number_in found
held_in (e ∷ es) = held_in es

-- the last look saw fresh, and no taking swap followed
abbrev pub ready_in : List Made → Bool
ready_in [] = false
ready_in (made.Probed found ∷ es) = fresh_in found
ready_in (made.Ended found ∷ es) = fresh_in found
ready_in (made.Took found ∷ es) = false
ready_in (e ∷ es) = ready_in es

-- the words loaded so far by the take that goes on
abbrev pub loaded_in : List Made → List ℕ
loaded_in [] = []
loaded_in (made.Loaded place word ∷ es) = loaded_in es ++ word ∷ []
loaded_in (made.Probed found ∷ es) = []
loaded_in (made.Took found ∷ es) = []
loaded_in (made.Ended found ∷ es) = []
loaded_in (e ∷ es) = loaded_in es

-- whether its first look saw fresh
abbrev pub shown_in : List Made → Bool
shown_in [] = false
shown_in (made.Probed found ∷ es) = fresh_in found
shown_in (e ∷ es) = shown_in es

-- all takes that have ended, in order. A take has the number held and the words loaded, it is fresh where its first look saw fresh, and in its window where its last look did not
abbrev pub takes_in : List Made → List Given
takes_in [] = []
takes_in (made.Ended found ∷ es) = takes_in es ++ given (record { number = held_in es; fresh = shown_in es; in_window = not (fresh_in found) }) (loaded_in es) ∷ []
takes_in (e ∷ es) = takes_in es

-- the steps that a view of one side has
abbrev pub steps_in : View → List Made
steps_in view.Whole = []
steps_in (view.Producer es) = es
steps_in (view.Consumer es) = es
steps_in (view.Joined ps cs) = []
steps_in view.Spent = []

-- after the words were stored at the places from this one on
abbrev pub with_stores : ℕ → List ℕ → List Made → List Made
with_stores place [] es = es
with_stores place (word ∷ words) es = with_stores (suc place) words (made.Stored place word ∷ es)

-- after the words were loaded from the places from this one on
abbrev pub with_loads : ℕ → List ℕ → List Made → List Made
with_loads place [] es = es
with_loads place (word ∷ words) es = with_loads (suc place) words (made.Loaded place word ∷ es)

-- after a look, and a taking swap exactly where it saw fresh
abbrev pub with_look : ℕ → ℕ → List Made → List Made
with_look found old es = if fresh_in found then made.Took old ∷ made.Probed found ∷ es else made.Probed found ∷ es

-- A take: a look, a taking swap exactly where it saw fresh, a load of each word, and a last look.
pub record IsTake (before after : List Made) (t : Given) : Type 0 where
  -- the control words that the first look, the taking swap and the last look found
  pub first : ℕ
  pub swapped : ℕ
  pub last : ℕ
  pub steps : after ≡ made.Ended last ∷ with_loads 0 t.words (with_look first swapped before)
  -- it is fresh exactly where its first look saw fresh
  pub fresh : t.taken.fresh ≡ fresh_in first
  -- it is in its window exactly where its last look did not, and else that look found a greater number
  pub in_window : t.taken.in_window ≡ not (fresh_in last)
  pub newer : IsTrue (fresh_in last) → t.taken.number < number_in last

-- all publications, of which number 0 is zeros
abbrev pub publications : ℕ → List Made → List (List ℕ)
publications m es = replicate m 0 ∷ published_in es

-- a take is the publication of its number, whole; and where it was not in its window, its number is not the last
pub record IsOfPublication (ps : List (List ℕ)) (t : Given) : Type 0 where
  pub made : t.taken.number < length ps
  pub whole : t.words ≡ publication ps t.taken.number
  pub late : t.taken.in_window ≡ false → t.taken.number + 1 < length ps

-- the numbers of the takes never fall
abbrev pub NeverFell : List Given → Type 0
NeverFell [] = Unit {0}
NeverFell (t ∷ ts) = AllByRecursion (λ (u : Given). t.taken.number ≤ u.taken.number) ts × NeverFell ts
