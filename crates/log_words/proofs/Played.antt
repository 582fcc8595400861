-- Turns that put out their replies, for the words of a device.
use Rattle.std.proofs.Common.{◌≡◌, ◌↔◌, ℕ, List, [], ◌∷◌, subst}
use Rattle.iso_rules.specs.Legal.{Replies}
use Rattle.iso_rules.specs.Station.{output_count, output_lengths}
use Rattle.iso_rules.specs.declared.turn.Turn.{Turn}
use Rattle.log_words.specs.Turns.{PutOutReplies}
use Rattle.plan_rules.specs.Way.{Setup}

module _ {A : Type 0} (reply : A → List ℕ → ℕ → List ℕ) (next : A → List ℕ → ℕ → A) (setup : Setup) (device : ℕ) where
  replies_of : (state : A) (turns : List Turn)
      → PutOutReplies reply next (output_lengths setup device) (output_count setup device) state turns
      ↔ Replies reply next setup device state turns
  replies_of state [] = (λ h. h, λ h. h)
  replies_of state (t ∷ turns) =
      let more = replies_of (next state t.input (output_count setup device)) turns in
      (λ h. (h.0, more.0 h.1), λ h. (h.0, more.1 h.1))

  -- a test that says so of these lengths says it of the device's
  pub replies_where : (P : Type 0) (lengths : List ℕ) (words : ℕ) (state : A) (turns : List Turn)
      → lengths ≡ output_lengths setup device → words ≡ output_count setup device
      → (P ↔ PutOutReplies reply next lengths words state turns)
      → P ↔ Replies reply next setup device state turns
  replies_where P lengths words state turns same all so =
      let same_lengths = subst (λ (l : List ℕ). P ↔ PutOutReplies reply next l words state turns) same so in
      let here =
      subst (λ (n : ℕ). P ↔ PutOutReplies reply next (output_lengths setup device) n state turns) all
      same_lengths in
      let r = replies_of state turns in
      (λ p. r.0 (here.0 p), λ h. here.1 (r.1 h))
