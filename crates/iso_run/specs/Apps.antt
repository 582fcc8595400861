-- An app of a lockstep run, and its turn.
use Rattle.std.specs.Prelude.{◌≡◌, ℕ, ◌^◌, ◌<◌, false, List, [], ◌∷◌, ◌++◌, length}
use Rattle.io_buffers.specs.Plain.{after_publish, after_take, first_plain, taken_from}
use Rattle.iso_app.specs.Sealed.{sealed}
use Rattle.iso_rules.specs.declared.turn.Turn.{Turn}
use Rattle.iso_run.specs.declared.apps.LockstepApp.{LockstepApp}

-- before its first turn, with so many output and input words
abbrev pub new_app : {A : Type 0} → A → List ℕ → ℕ → ℕ → LockstepApp A
new_app state lengths output_words input_words = record {
  app = state;
  lengths = lengths;
  output = first_plain output_words;
  input = first_plain input_words;
  output_words = output_words;
  input_words = input_words;
  turns = [];
  failed = false;
}

-- the exchanges have its words, and there is room for its output
pub record IsReady {A : Type 0} (a : LockstepApp A) : Type 0 where
  pub output : length a.output.newest_words ≡ a.output_words
  pub input : length a.input.newest_words ≡ a.input_words
  pub room : a.output.newest < 2 ^ 60

-- its output was taken before a cycle, and an image was published to it after
abbrev pub with_offer : {A : Type 0} → LockstepApp A → LockstepApp A
with_offer a = record a { output = after_take a.output }

abbrev pub with_input : {A : Type 0} → List ℕ → LockstepApp A → LockstepApp A
with_input image a = record a { input = after_publish a.input image }

module _ {A : Type 0} (reply : A → List ℕ → ℕ → List ℕ) (next : A → List ℕ → ℕ → A) where
  -- what it puts out for the newest publication of its input
  abbrev pub output_of : LockstepApp A → List ℕ
  output_of a = sealed a.lengths (reply a.app a.input.newest_words a.output_words)

  abbrev pub turn_of : ℕ → LockstepApp A → Turn
  turn_of found a =
      record { found = found; taken = taken_from a.input; input = a.input.newest_words; output = output_of a }

  -- after a turn that found so many cycles done
  abbrev pub turned : ℕ → LockstepApp A → LockstepApp A
  turned found a = record a {
    app = next a.app a.input.newest_words a.output_words;
    input = after_take a.input;
    output = after_publish a.output (output_of a);
    turns = a.turns ++ turn_of found a ∷ [];
    failed = false;
  }

  pub record IsTurned (found : ℕ) (a b : LockstepApp A) : Type 0 where
    pub turned : b ≡ turned found a
    pub width : length (output_of a) ≡ a.output_words

  -- the same where it did not fail
  abbrev pub IsTurnedUnlessFailed : ℕ → LockstepApp A → LockstepApp A → Type 0
  IsTurnedUnlessFailed found a b = b.failed ≡ false → IsTurned found a b
