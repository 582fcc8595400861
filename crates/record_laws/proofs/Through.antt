-- What is gathered from the lines of a record is what each gives.
use Rattle.std.proofs.Common.{◌≡◌, ◌+◌, ℕ, List, [], ◌∷◌, ◌++◌, Option, Some, None, refl, sym, ◌∙◌, ap, append-nil}
use Rattle.std.specs.Prelude.{option_map, slice_get, unwrap_or, zip}
use Rattle.std.specs.List.{flat_map, range_with_len}
use Rattle.std.proofs.lemmas.Grind.{flat_map-append}
use Rattle.cycle_rows.specs.declared.rows.JournalRow.{JournalRow}
use Rattle.irt_base.specs.declared.numbers.DevId.{DevId}
use Rattle.irt_base.specs.declared.plants.App.{App}
use Rattle.irt_base.specs.declared.plants.Plant.{Plant}
use Rattle.iso_rules.specs.Lockstep.{AppLog, RunRecord}
use Rattle.iso_rules.specs.declared.turn.Turn.{Turn}
use Rattle.record_laws.specs.Lines.{line_text, at_place, of_turns, of_takes, of_images, of_rows, of_cycle, of_cycles, of_all_turns, last_of, of_record, lines_of}
use Rattle.record_laws.specs.declared.line.Line.{Line}
use Rattle.record_laws.specs.declared.line.Line.TheVariants as says
use Rattle.record_text.specs.Text.{record_text, rows_of_cycle, turn_line, turn_lines}

one : Line → List Line
one line = line ∷ []

-- the same of each item
pub flat_map-same : {X Y : Type 0} (f g : X → List Y) (xs : List X) → ((x : X) → f x ≡ g x) → flat_map f xs ≡ flat_map g xs
flat_map-same f g [] same = refl
flat_map-same f g (x ∷ xs) same = (λ i. same x i ++ flat_map-same f g xs same i)

flat_map-nested : {X Y Z : Type 0} (f : Y → List Z) (g : X → List Y) (xs : List X) → flat_map f (flat_map g xs) ≡ flat_map (λ x. flat_map f (g x)) xs
flat_map-nested f g [] = refl
flat_map-nested f g (x ∷ xs) = flat_map-append f (g x) (flat_map g xs) ∙ ap (λ ys. flat_map f (g x) ++ ys) (flat_map-nested f g xs)

through_each : {X Y Z : Type 0} (f : Y → List Z) (g : X → List Y) (h : X → List Z) (xs : List X) → ((x : X) → flat_map f (g x) ≡ h x) →
    flat_map f (flat_map g xs) ≡ flat_map h xs
through_each f g h xs same = flat_map-nested f g xs ∙ flat_map-same (λ x. flat_map f (g x)) h xs same

through_one : {Y : Type 0} (f : Line → List Y) (line : Line) → flat_map f (line ∷ []) ≡ f line
through_one f line = append-nil (f line)

through_found : {X Y : Type 0} (f : Line → List Y) (to : X → Line) (found : Option X) →
    flat_map f (unwrap_or (option_map (λ x. to x ∷ []) found) []) ≡ unwrap_or (option_map (λ x. f (to x)) found) []
through_found f to (Some x) = through_one f (to x)
through_found f to None = refl

through_turns : {Y : Type 0} (f : Line → List Y) (device : DevId) (number : ℕ) (ts : List Turn) →
    flat_map f (of_turns (λ line. line ∷ []) device number ts) ≡ of_turns f device number ts
through_turns f device number [] = refl
through_turns f device number (t ∷ ts) = ap (λ ys. f (says.Turn device number t) ++ ys) (through_turns f device (number + 1) ts)

through_cycle : {Y : Type 0} (f : Line → List Y) (plant : Plant) (r : RunRecord JournalRow) (k : ℕ) →
    flat_map f (of_cycle (λ line. line ∷ []) plant r k) ≡ of_cycle f plant r k
through_cycle f plant r k =
    flat_map-append f takes (rows ++ images)
    ∙ (λ i. takes_there i ++ flat_map f (rows ++ images))
    ∙ ap (λ ys. of_takes f plant r.apps k ++ ys) (flat_map-append f rows images ∙ (λ i. rows_there i ++ images_there i))
  where
    takes : List Line
    takes = of_takes (λ line. line ∷ []) plant r.apps k

    rows : List Line
    rows = of_rows (λ line. line ∷ []) (rows_of_cycle k r.journal)

    images : List Line
    images = of_images (λ line. line ∷ []) plant r.apps k

    takes_there : flat_map f takes ≡ of_takes f plant r.apps k
    takes_there =
        through_each f (λ (p : App × AppLog). at_place (λ g. says.Take k p.0.device g ∷ []) p.1.takes k) (λ (p : App × AppLog). at_place (λ g. f (says.Take k p.0.device g)) p.1.takes k)
        (zip plant.apps r.apps) (λ p. through_found f (λ g. says.Take k p.0.device g) (slice_get p.1.takes k))

    rows_there : flat_map f rows ≡ of_rows f (rows_of_cycle k r.journal)
    rows_there = through_each f (λ s. says.Row s ∷ []) (λ s. f (says.Row s)) (rows_of_cycle k r.journal) (λ s. through_one f (says.Row s))

    images_there : flat_map f images ≡ of_images f plant r.apps k
    images_there =
        through_each f (λ (p : App × AppLog). at_place (λ words. says.Image k p.0.device words ∷ []) p.1.images k)
        (λ (p : App × AppLog). at_place (λ words. f (says.Image k p.0.device words)) p.1.images k)
        (zip plant.apps r.apps) (λ p. through_found f (λ words. says.Image k p.0.device words) (slice_get p.1.images k))

pub through : {Y : Type 0} (f : Line → List Y) (plant : Plant) (cycles : ℕ) (r : RunRecord JournalRow) →
    flat_map f (lines_of plant cycles r) ≡ of_record f plant cycles r
through f plant cycles r =
    flat_map-append f begin (turns ++ end)
    ∙ (λ i. cycles_there i ++ flat_map f (turns ++ end))
    ∙ ap (λ ys. of_cycles f plant cycles r ++ ys) (flat_map-append f turns end ∙ (λ i. turns_there i ++ through_one f (last_of cycles r.journal) i))
  where
    begin : List Line
    begin = of_cycles (λ line. line ∷ []) plant cycles r

    turns : List Line
    turns = of_all_turns (λ line. line ∷ []) plant r.apps

    end : List Line
    end = last_of cycles r.journal ∷ []

    cycles_there : flat_map f begin ≡ of_cycles f plant cycles r
    cycles_there = through_each f (λ k. of_cycle (λ line. line ∷ []) plant r k) (λ k. of_cycle f plant r k) (range_with_len 0 cycles) (through_cycle f plant r)

    turns_there : flat_map f turns ≡ of_all_turns f plant r.apps
    turns_there =
        through_each f (λ (p : App × AppLog). of_turns (λ line. line ∷ []) p.0.device 0 p.1.turns) (λ (p : App × AppLog). of_turns f p.0.device 0 p.1.turns)
        (zip plant.apps r.apps) (λ p. through_turns f p.0.device 0 p.1.turns)

turns_text : (plant : Plant) (device : DevId) (number : ℕ) (ts : List Turn) → turn_lines plant device.0 number ts ≡ of_turns (line_text plant) device number ts
turns_text plant device number [] = refl
turns_text plant device number (t ∷ ts) = ap (λ ys. turn_line plant device.0 number t ++ ys) (turns_text plant device (number + 1) ts)

-- the text of a record is that of its lines
pub lines_text : (plant : Plant) (cycles : ℕ) (r : RunRecord JournalRow) → flat_map (line_text plant) (lines_of plant cycles r) ≡ record_text plant cycles r
lines_text plant cycles r =
    through (line_text plant) plant cycles r
    ∙ ap (λ ys. of_cycles (line_text plant) plant cycles r ++ (ys ++ line_text plant (last_of cycles r.journal)))
    (flat_map-same (λ (p : App × AppLog). of_turns (line_text plant) p.0.device 0 p.1.turns) (λ (p : App × AppLog). turn_lines plant p.0.device.0 0 p.1.turns)
    (zip plant.apps r.apps) (λ p. sym (turns_text plant p.0.device 0 p.1.turns)))
