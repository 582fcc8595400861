-- Lists of takes: which of them are recorded, and what is said of those.
use Rattle.std.specs.Prelude.{◌≡◌, ◌⊎◌, ℕ, ◌+◌, ◌-◌, ◌<◌, ◌≤◌, nat_lt, ⊤, List, [], ◌∷◌, length, take, slice_index}
use Rattle.std.specs.List.{AllByRecursion}
use Rattle.io_buffers.specs.Given.{Given, given}
use Rattle.io_buffers.specs.Passes.{IsOfPublication}
use Rattle.io_buffers.specs.Steps.{NeverFell}
use Rattle.irt_base.specs.declared.limits.TheConstants.{MAX_SLIP}

-- the same take, its fresh aside
pub record SameTake (x y : Given) : Type 0 where
  pub number : x.taken.number ≡ y.taken.number
  pub window : x.taken.in_window ≡ y.taken.in_window
  pub words : x.words ≡ y.words

-- the takes xs are some of the takes ys, in order
abbrev pub AreSomeOf : List Given → List Given → Type 0
AreSomeOf [] ys = ⊤
AreSomeOf (x ∷ xs) [] = ⊥
AreSomeOf (x ∷ xs) (y ∷ ys) = (SameTake x y × AreSomeOf xs ys) ⊎ AreSomeOf (x ∷ xs) ys

-- Each take is fresh exactly where its number is greater than the one before. The number before the first one is
-- `before`, and that of the last one `last`: numbers 0, 2, 2 after 0 are not fresh, fresh, not fresh.
abbrev pub AreFresh : ℕ → List Given → ℕ → Type 0
AreFresh before [] last = last ≡ before
AreFresh before (t ∷ ts) last = (t.taken.fresh ≡ nat_lt before t.taken.number) × AreFresh t.taken.number ts last

-- takes of these publications, whose numbers never fell
pub record AreTakesOf (publications : List (List ℕ)) (takes : List Given) : Type 0 where
  pub each : AllByRecursion (IsOfPublication publications) takes
  pub risen : NeverFell takes

-- the last of some words, and those before it
abbrev pub last_word : List ℕ → ℕ
last_word words = slice_index words (length words - 1)

abbrev pub front_words : List ℕ → List ℕ
front_words words = take (length words - 1) words

-- a take of an output without its further word
abbrev pub without_further : Given → Given
without_further t = given t.taken (front_words t.words)

-- A take of an output in cycle k, whose further word is the number of an input: that was published by k, and at most
-- MAX_SLIP publications before. Zeros, the publication 0, are taken in the cycles up to MAX_SLIP alone.
abbrev pub IsNearTake : ℕ → Given → Type 0
IsNearTake k t =
    ((t.taken.number ≡ 0) × (k ≤ MAX_SLIP))
    ⊎ ((0 < t.taken.number) × (last_word t.words ≤ k) × (k ≤ last_word t.words + MAX_SLIP))

-- the same of the takes of cycle k and of those that follow
abbrev pub AreNearTakes : ℕ → List Given → Type 0
AreNearTakes k [] = ⊤
AreNearTakes k (t ∷ ts) = IsNearTake k t × AreNearTakes (k + 1) ts
