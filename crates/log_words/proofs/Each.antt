-- Lists of takes that are published.
use Rattle.std.specs.Prelude.{All}
use Rattle.std.proofs.Common.{◌≡◌, ◌↔◌, ℕ, zero, suc, ◌<◌, List, [], length, map, get_or, sym, ap, ◌∙◌, subst, arith}
use Rattle.std.proofs.lemmas.List.{get_or-map, length-map, length-replicate}
use Rattle.std.proofs.lemmas.List.Elements.{All-get_or, All-map}
use Rattle.io_buffers.specs.Given.{Given}
use Rattle.iso_rules.specs.Legal.{IsPublished, input_of}
use Rattle.iso_rules.specs.declared.turn.Turn.{Turn}
use Rattle.log_words.specs.Published.{after_zeros}

-- a test that says so of each turn's input says it of the list of inputs
pub inputs_where : (P : Type 0) (count words : ℕ) (images : List (List ℕ)) (turns : List Turn) → count ≡ words
    → (P ↔ All (λ (t : Turn). IsPublished (after_zeros count images) (input_of t)) turns)
    → P ↔ All (IsPublished (after_zeros words images)) (map input_of turns)
inputs_where P count words images turns same so =
    let Q : ℕ → Given → Type 0 = λ n. IsPublished (after_zeros n images) in (
      λ p. subst (λ (n : ℕ). All (Q n) (map input_of turns)) same (All-map (Q count) input_of turns (so.0 p)),
      λ h. so.1 (λ k d inside. subst (λ (n : ℕ). Q n (input_of (get_or turns k d))) (sym same)
          (let l = length-map turns input_of in
          subst (Q words) (get_or-map input_of turns k d (input_of d) inside)
          (h k (input_of d) (omega (arith, l, inside))))),
    )

width_at : (count n : ℕ) (later : List (List ℕ)) → All (λ (w : List ℕ). length w ≡ count) later
    → n < length (after_zeros count later)
    → length (get_or (after_zeros count later) n []) ≡ count
width_at count zero later all inside = length-replicate {A = ℕ} count 0
width_at count (suc n) later all inside =
    All-get_or (λ (w : List ℕ). length w ≡ count) later n [] (omega (arith, inside)) all

-- takes of outputs of so many words are of so many words
pub widths_where : (count : ℕ) (turns : List Turn) (takes : List Given)
    → All (IsPublished (after_zeros count (map (λ (t : Turn). t.output) turns))) takes
    → All (λ (t : Turn). length t.output ≡ count) turns → All (λ (g : Given). length g.words ≡ count) takes
widths_where count turns takes all widths k d inside =
    let is = all k d inside in
    ap length is.whole
    ∙ width_at count (get_or takes k d).taken.number (map (λ (t : Turn). t.output) turns)
    (All-map (λ (w : List ℕ). length w ≡ count) (λ (t : Turn). t.output) turns widths) is.made
