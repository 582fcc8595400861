-- Lines that are left to write.
use Rattle.std.proofs.Common.{◌≡◌, ◌+◌, ◌<◌, ◌++◌, ◌∷◌, [], ℕ, List, length, drop, get_or, refl, sym, ◌∙◌, ap, ◌⊎◌, inl, inr}
use Rattle.std.specs.Prelude.{zip}
use Rattle.std.specs.List.{flat_map}
use Rattle.std.proofs.lemmas.List.{append-nil, append_assoc, drop_more}
use Rattle.irt_base.specs.declared.plants.App.{App}
use Rattle.irt_base.specs.declared.plants.Plant.{Plant}
use Rattle.iso_rules.specs.Lockstep.{AppLog}
use Rattle.iso_rules.specs.declared.turn.Turn.{Turn}
use Rattle.record_text.specs.Text.{part_lines, turn_line, turn_lines}
use Rattle.record_text.specs.declared.part.Part.{Part}

abbrev pub pairs_text : Plant → Part → List (App × AppLog) → List ℕ
pairs_text plant part pairs = flat_map (λ (p : App × AppLog). part_lines plant part p.0.device.0 p.1) pairs

pub zip_none : {A B : Type 0} (xs : List A) → zip {X = B} xs [] ≡ []
zip_none [] = refl
zip_none (x ∷ xs) = refl

-- a line more
pub line_on : (old new line rest whole : List ℕ) → new ≡ old ++ line → old ++ (line ++ rest) ≡ whole → new ++ rest ≡ whole
line_on old new line rest whole is all = ap (λ xs. xs ++ rest) is ∙ (append_assoc old line rest ∙ all)

pub turn_on : (plant : Plant) (device number : ℕ) (turns : List Turn) (t : Turn) (old new whole : List ℕ) → number < length turns →
    t ≡ get_or turns number t → new ≡ old ++ turn_line plant device number t → old ++ turn_lines plant device number (drop number turns) ≡ whole →
    new ++ turn_lines plant device (number + 1) (drop (number + 1) turns) ≡ whole
turn_on plant device number turns t old new whole less is written all =
    line_on old new (turn_line plant device number t) (turn_lines plant device (number + 1) (drop (number + 1) turns)) whole written
    (ap (λ xs. old ++ turn_lines plant device number xs)
    (ap (λ x. x ∷ drop (number + 1) turns) is ∙ sym (drop_more turns number t less)) ∙ all)

-- the end of a loop over pairs
pub none_left : (plant : Plant) (part : Part) (apps : List App) (logs : List AppLog) (out whole : List ℕ) → (apps ≡ []) ⊎ (logs ≡ []) →
    out ++ pairs_text plant part (zip apps logs) ≡ whole → out ≡ whole
none_left plant part apps logs out whole (inl e) all =
    sym (append-nil out) ∙ (ap (λ xs. out ++ pairs_text plant part (zip xs logs)) (sym e) ∙ all)
none_left plant part apps logs out whole (inr e) all =
    sym (append-nil out) ∙ (ap (λ ps. out ++ pairs_text plant part ps) (sym (zip_none apps)) ∙
    (ap (λ xs. out ++ pairs_text plant part (zip apps xs)) (sym e) ∙ all))
