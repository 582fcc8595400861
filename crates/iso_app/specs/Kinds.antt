-- The kinds of application: what each gives in a turn, and its state after it.
use Rattle.std.specs.Prelude.{ℕ, ◌+◌, ◌-◌, ◌%◌, ◌^◌, min, max, nat_le, if◌then◌else◌, List, [], ◌∷◌, ◌++◌, take, replicate, slice_index}
use Rattle.irt_base.specs.declared.plants.App.{App}
use Rattle.irt_base.specs.declared.plants.AppName.{AppName}
use Rattle.irt_base.specs.declared.plants.AppName.TheVariants as names
use Rattle.iso_app.specs.declared.kinds.AppKind.{AppKind}
use Rattle.iso_app.specs.declared.kinds.AppKind.TheVariants.{Copy, Counter, Follow, Limit}

abbrev pub named : AppName → ℕ → AppKind
named names.Copy param = Copy
named names.Counter param = Counter 0
named names.Follow param = Follow 0 param
named names.Limit param = Limit param

-- the application of a plant's entry: counts and values begin at 0
abbrev pub kind_of : App → AppKind
kind_of app = named app.kind app.param

-- a word, which counts as 0 where it isn't there
abbrev pub word_at : List ℕ → ℕ → ℕ
word_at words place = slice_index words place

-- so many words: these, then zeros
abbrev pub filled : ℕ → List ℕ → List ℕ
filled count words = take count (words ++ replicate count 0)

-- so many words: one, then zeros
abbrev pub first_only : ℕ → ℕ → List ℕ
first_only count word = filled count (word ∷ [])

-- a value that goes towards a target by at most a step: from 0 to 7 by 3 over 3, 6 and 7
abbrev pub moved : ℕ → ℕ → ℕ → ℕ
moved value target step = if nat_le value target then min target (value + step) else max target (value - step)

-- the state after a turn with these input words
abbrev pub state_after : AppKind → List ℕ → AppKind
state_after Copy input = Copy
state_after (Counter count) input = Counter ((count + 1) % (2 ^ 64))
state_after (Follow value step) input = Follow (moved value (word_at input 0) step) step
state_after (Limit limit) input = Limit limit

-- the output words of a turn, of which there are so many
abbrev pub reply_of : AppKind → List ℕ → ℕ → List ℕ
reply_of Copy input count = filled count input
reply_of (Counter turns) input count = first_only count ((turns + 1) % (2 ^ 64))
reply_of (Follow value step) input count = first_only count (moved value (word_at input 0) step)
reply_of (Limit limit) input count = first_only count (min (word_at input 0) limit)
