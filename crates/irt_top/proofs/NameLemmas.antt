-- Names of devices.
use Rattle.std.proofs.Common.{◌≡◌, ◌<◌, ℕ, zero, suc, List, [], ◌∷◌, ◌+◌, ◌++◌, ◌∙◌, ap, sym, take, length, get_or, arith}
use Rattle.std.proofs.lemmas.List.{take_more}
use Rattle.std.specs.List.{AllByRecursion}
use Rattle.plant_rules.specs.Meets.{IsNameByte}

small_byte : (b : ℕ) → IsNameByte b → b < 128
small_byte b is = grind arith

-- each letter is one byte of text
pub small_letter : (name : List ℕ) (i : ℕ) → AllByRecursion IsNameByte name → i < length name → get_or name i 0 < 128
small_letter [] i all inside = absurd (omega arith)
small_letter (b ∷ name) zero all inside = small_byte b all.0
small_letter (b ∷ name) (suc i) all inside = small_letter name i all.1 (omega arith)

-- one more letter of a name was pushed
pub push_letter : (before now name encoded : List ℕ) (letter i : ℕ) → now ≡ before ++ encoded → before ≡ take i name → encoded ≡ letter ∷ [] →
    letter ≡ get_or name i 0 → i < length name → now ≡ take (i + 1) name
push_letter before now name encoded letter i pushed stands one is inside =
    pushed ∙ ap (λ b. b ++ encoded) stands ∙ ap (λ e. take i name ++ e) (one ∙ ap (λ l. l ∷ []) is) ∙ sym (take_more name i 0 inside)
