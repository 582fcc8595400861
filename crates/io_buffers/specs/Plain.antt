-- An exchange on one thread: what is kept of the list of publications.
use Rattle.std.specs.Prelude.{◌≡◌, ℕ, ◌+◌, ◌≤◌, true, nat_lt, List, [], ◌∷◌, ◌++◌, length, replicate}
use Rattle.swap_core.specs.Runs.{publication}
use Rattle.io_buffers.specs.declared.taken.Taken.{Taken}

-- the publications held and newest, and their numbers
pub record Plain : Type 0 where
  pub held : ℕ
  pub held_words : List ℕ
  pub newest : ℕ
  pub newest_words : List ℕ

-- number 0 is all zeros
abbrev pub first_plain : ℕ → Plain
first_plain m = record { held = 0; held_words = replicate m 0; newest = 0; newest_words = replicate m 0 }

-- the words are the newest publication now
abbrev pub after_publish : Plain → List ℕ → Plain
after_publish e words = record e { newest = e.newest + 1; newest_words = words }

-- the newest publication is held now
abbrev pub after_take : Plain → Plain
after_take e = record e { held = e.newest; held_words = e.newest_words }

-- a take has the newest number. It is fresh exactly where the number held rises, and always in its window
abbrev pub taken_from : Plain → Taken
taken_from e = record { number = e.newest; fresh = nat_lt e.held e.newest; in_window = true }

-- both publications have the exchange's words, and where the numbers are one they are one
pub record IsKept (held : ℕ) (held_words : List ℕ) (newest : ℕ) (newest_words : List ℕ) : Type 0 where
  pub order : held ≤ newest
  pub widths : length held_words ≡ length newest_words
  pub same : held ≡ newest → held_words ≡ newest_words

-- a call: the words of a publication, or a take
pub data Call : Type 0 where
  Publishes : List ℕ → Call
  Takes : Call

-- the exchange after these calls
abbrev pub plain_after : Plain → List Call → Plain
plain_after e [] = e
plain_after e (Publishes words ∷ calls) = plain_after (after_publish e words) calls
plain_after e (Takes ∷ calls) = plain_after (after_take e) calls

-- all publications after these calls: publishing appends
abbrev pub published_by : List (List ℕ) → List Call → List (List ℕ)
published_by ps [] = ps
published_by ps (Publishes words ∷ calls) = published_by (ps ++ words ∷ []) calls
published_by ps (Takes ∷ calls) = published_by ps calls

-- the number held after these calls: that of the last publication before the last take
abbrev pub held_by : ℕ → ℕ → List Call → ℕ
held_by held newest [] = held
held_by held newest (Publishes words ∷ calls) = held_by held (newest + 1) calls
held_by held newest (Takes ∷ calls) = held_by newest newest calls

-- of the publications the exchange keeps the last one, and the one of the number held
pub record KeepsTwo (ps : List (List ℕ)) (last_held : ℕ) (e : Plain) : Type 0 where
  pub count : length ps ≡ e.newest + 1
  pub order : e.held ≤ e.newest
  pub newest_words : e.newest_words ≡ publication ps e.newest
  pub held : e.held ≡ last_held
  pub held_words : e.held_words ≡ publication ps e.held
