-- An app that is played over recorded turns.
use Rattle.std.specs.Prelude.{◌≡◌, ℕ, ⊤, List, [], ◌∷◌}
use Rattle.iso_app.specs.Sealed.{sealed}
use Rattle.iso_rules.specs.declared.turn.Turn.{Turn}

-- Each turn put out the reply to its input, sealed, of the state that the turns before it lead to. `lengths` are the
-- words of each frame, and `words` those of a reply.
abbrev pub PutOutReplies :
    {A : Type 0} → (A → List ℕ → ℕ → List ℕ) → (A → List ℕ → ℕ → A) → List ℕ → ℕ → A → List Turn → Type 0
PutOutReplies reply next lengths words state [] = ⊤
PutOutReplies reply next lengths words state (t ∷ turns) =
    (t.output ≡ sealed lengths (reply state t.input words))
    × PutOutReplies reply next lengths words (next state t.input words) turns
