-- A line and what follows it are determined by the text, and so are lines.
use Rattle.std.proofs.Common.{◌≡◌, ◌<◌, ◌^◌, ◌==◌, ◌||◌, ℕ, Bool, true, false, List, [], ◌∷◌, ◌++◌, length, refl, sym, ◌∙◌, ap, arith, append_assoc}
use Rattle.std.specs.Prelude.{codes}
use Rattle.std.specs.List.{AllByRecursion, flat_map}
use Rattle.std.proofs.lemmas.List.{append_cancel_left}
use Rattle.cycle_rows.specs.declared.rows.JournalRow.{JournalRow}
use Rattle.cycle_rows.specs.declared.rows.JournalRow.TheVariants.{Occupy, Deliver, Missed, Sent, Refused, Lost, Came}
use Rattle.io_buffers.specs.Given.{Given, given}
use Rattle.io_buffers.specs.declared.taken.Taken.{Taken}
use Rattle.irt_base.specs.declared.numbers.DevId.{DevId}
use Rattle.irt_base.specs.declared.plants.Plant.{Plant}
use Rattle.irt_trace.specs.Journal.{begin_of, end_of_line, field, letter_of, name_of}
use Rattle.iso_rules.specs.declared.turn.Turn.{Turn}
use Rattle.plant_rules.specs.Meets.{MeetsRules}
use Rattle.record_text.specs.Text.{image_line, take_line, taken_fields, turn_begin, turn_line, words_text}
use Rattle.record_laws.specs.Fitting.{AreWords, IsTake, IsTurn}
use Rattle.record_laws.specs.Lines.{last_line, line_text, IsLineOf}
use Rattle.record_laws.specs.declared.line.Line.{Line}
use Rattle.record_laws.specs.declared.line.Line.TheVariants as says
use Rattle.record_laws.proofs.Fields.{at_end, at_colon, cut, field_cut, head_same, words_cut, words_end}
use Rattle.record_laws.proofs.Names.{name-one, name-plain}
use Rattle.record_laws.proofs.RowCut.{begin_cut, device_same, four, row_cut, taken_cut, three}

-- a line of a record of fewer than 2^64 cycles
abbrev pub FitLine : Plant → ℕ → Line → Type 0
FitLine plant cycles line = (cycles < 2 ^ 64) × IsLineOf plant cycles line

-- ---- the letter that a line begins with

abbrev pub first : Line → ℕ
first (says.Take k device g) = 103
first (says.Row r) = letter_of r
first (says.Image k device words) = 105
first (says.Turn device number t) = 117
first (says.Last cycles occupied delivered dropped) = 101

pub starts : (plant : Plant) (line : Line) (x : List ℕ) → (t : List ℕ) × (line_text plant line ++ x ≡ first line ∷ t)
starts plant (says.Take k device g) x = (_, refl)
starts plant (says.Row r) x = (_, refl)
starts plant (says.Image k device words) x = (_, refl)
starts plant (says.Turn device number t) x = (_, refl)
starts plant (says.Last cycles occupied delivered dropped) x = (_, refl)

same_first : (plant : Plant) (l m : Line) (x y : List ℕ) → line_text plant l ++ x ≡ line_text plant m ++ y → first l ≡ first m
same_first plant l m x y same =
    let (s, begins) = starts plant l x in
    let (t, ends) = starts plant m y in
    (head_same (first l) (first m) s t (sym begins ∙ same ∙ ends)).0

abbrev is_row_letter : ℕ → Bool
is_row_letter n = (n == 111) || (n == 100) || (n == 120) || (n == 116) || (n == 113) || (n == 108) || (n == 97)

row_lettered : (r : JournalRow) → is_row_letter (letter_of r) ≡ true
row_lettered (Occupy k d p f start end) = refl
row_lettered (Deliver k d f end) = refl
row_lettered (Missed k d f) = refl
row_lettered (Sent k d p traffic serial start end) = refl
row_lettered (Refused k d p traffic serial) = refl
row_lettered (Lost k d p traffic serial) = refl
row_lettered (Came k d traffic serial) = refl

false_true : false ≡ true → ⊥
false_true is = cc

no_row : (r : JournalRow) (letter : ℕ) → letter_of r ≡ letter → is_row_letter letter ≡ false → ⊥
no_row r letter same none = false_true (sym none ∙ ap is_row_letter (sym same) ∙ row_lettered r)

-- ---- lines

take_cut : (plant : Plant) (k j : ℕ) (d e : DevId) (g h : Given) (x y : List ℕ) → MeetsRules plant → k < 2 ^ 64 → j < 2 ^ 64 → d.0 < length plant.devices → e.0 < length plant.devices →
    IsTake g → IsTake h → take_line plant k d.0 g ++ x ≡ take_line plant j e.0 h ++ y → (says.Take k d g ≡ says.Take j e h) × (x ≡ y)
take_cut plant k j d e g h x y rules fk fj fd fe fg fh same =
    let (letter, cycle, device, more) = begin_cut plant 103 103 k j d.0 e.0 (taken_fields g.taken ++ (words_text g.words ++ 10 ∷ x)) (taken_fields h.taken ++ (words_text h.words ++ 10 ∷ y))
    rules fk fj fd fe refl refl
    (sym (four (begin_of plant 103 k d.0) (taken_fields g.taken) (words_text g.words) end_of_line x) ∙ same
    ∙ four (begin_of plant 103 j e.0) (taken_fields h.taken) (words_text h.words) end_of_line y) in
    let (taken, late) = taken_cut g.taken h.taken (words_text g.words ++ 10 ∷ x) (words_text h.words ++ 10 ∷ y) fg.number fh.number more in
    let (words, left) = words_cut g.words h.words (10 ∷ x) (10 ∷ y) fg.words fh.words (at_end x) (at_end y) late in
    ((λ i. says.Take (cycle i) (device_same d e device i) (given (taken i) (words i))), (head_same 10 10 x y left).1)

image_cut : (plant : Plant) (k j : ℕ) (d e : DevId) (v w : List ℕ) (x y : List ℕ) → MeetsRules plant → k < 2 ^ 64 → j < 2 ^ 64 → d.0 < length plant.devices → e.0 < length plant.devices →
    AreWords v → AreWords w → image_line plant k d.0 v ++ x ≡ image_line plant j e.0 w ++ y → (says.Image k d v ≡ says.Image j e w) × (x ≡ y)
image_cut plant k j d e v w x y rules fk fj fd fe fv fw same =
    let (letter, cycle, device, more) = begin_cut plant 105 105 k j d.0 e.0 (words_text v ++ 10 ∷ x) (words_text w ++ 10 ∷ y)
    rules fk fj fd fe (words_end v (10 ∷ x) (at_end x)) (words_end w (10 ∷ y) (at_end y))
    (sym (three (begin_of plant 105 k d.0) (words_text v) end_of_line x) ∙ same ∙ three (begin_of plant 105 j e.0) (words_text w) end_of_line y) in
    let (words, left) = words_cut v w (10 ∷ x) (10 ∷ y) fv fw (at_end x) (at_end y) more in
    ((λ i. says.Image (cycle i) (device_same d e device i) (words i)), (head_same 10 10 x y left).1)

abbrev turn_of : ℕ → Taken → List ℕ → List ℕ → Turn
turn_of found taken input output = record { found = found; taken = taken; input = input; output = output }

turn_shape : (plant : Plant) (d number : ℕ) (t : Turn) (x : List ℕ) → turn_line plant d number t ++ x ≡
    117 ∷ 32 ∷ (name_of plant d ++ (field number ++ (field t.found ++ (taken_fields t.taken ++ (words_text t.input ++ (codes " :" ++ (words_text t.output ++ 10 ∷ x)))))))
turn_shape plant d number t x =
    five (turn_begin plant d number t) (words_text t.input) (codes " :") (words_text t.output) end_of_line x
    ∙ ap (λ z. 117 ∷ 32 ∷ z)
    (four (name_of plant d) (field number) (field t.found) (taken_fields t.taken) (words_text t.input ++ (codes " :" ++ (words_text t.output ++ 10 ∷ x))))
  where
    five : (a b c d e x : List ℕ) → (a ++ (b ++ (c ++ (d ++ e)))) ++ x ≡ a ++ (b ++ (c ++ (d ++ (e ++ x))))
    five a b c d e x = simp append_assoc

turn_cut : (plant : Plant) (d e : DevId) (m n : ℕ) (t u : Turn) (x y : List ℕ) → MeetsRules plant → m < 2 ^ 64 → n < 2 ^ 64 → d.0 < length plant.devices → e.0 < length plant.devices →
    IsTurn t → IsTurn u → turn_line plant d.0 m t ++ x ≡ turn_line plant e.0 n u ++ y → (says.Turn d m t ≡ says.Turn e n u) × (x ≡ y)
turn_cut plant d e m n t u x y rules fm fn fd fe ft fu same =
    let begins : 117 ∷ 32 ∷ (name_of plant d.0 ++ names) ≡ 117 ∷ 32 ∷ (name_of plant e.0 ++ others) = sym (turn_shape plant d.0 m t x) ∙ same ∙ turn_shape plant e.0 n u y in
    let after = head_same 117 117 (32 ∷ (name_of plant d.0 ++ names)) (32 ∷ (name_of plant e.0 ++ others)) begins in
    let inner = head_same 32 32 (name_of plant d.0 ++ names) (name_of plant e.0 ++ others) after.1 in
    let (name, a) = cut (name_of plant d.0) (name_of plant e.0) names others (name-plain plant d.0 rules) (name-plain plant e.0 rules) refl refl inner.1 in
    let (number, b) = field_cut m n (field t.found ++ (taken_fields t.taken ++ words)) (field u.found ++ (taken_fields u.taken ++ wanted)) fm fn refl refl a in
    let (found, c) = field_cut t.found u.found (taken_fields t.taken ++ words) (taken_fields u.taken ++ wanted) (omega (arith, ft.found)) (omega (arith, fu.found)) refl refl b in
    let (taken, f) = taken_cut t.taken u.taken words wanted ft.number fu.number c in
    let (input, g) = words_cut t.input u.input (32 ∷ 58 ∷ (words_text t.output ++ 10 ∷ x)) (32 ∷ 58 ∷ (words_text u.output ++ 10 ∷ y)) ft.input fu.input
    (at_colon (words_text t.output ++ 10 ∷ x)) (at_colon (words_text u.output ++ 10 ∷ y)) f in
    let colon = head_same 32 32 (58 ∷ (words_text t.output ++ 10 ∷ x)) (58 ∷ (words_text u.output ++ 10 ∷ y)) g in
    let (output, h) = words_cut t.output u.output (10 ∷ x) (10 ∷ y) ft.output fu.output (at_end x) (at_end y)
    (head_same 58 58 (words_text t.output ++ 10 ∷ x) (words_text u.output ++ 10 ∷ y) colon.1).1 in
    let device = device_same d e (name-one plant d.0 e.0 rules fd fe name) in
    ((λ i. says.Turn (device i) (number i) (turn_of (found i) (taken i) (input i) (output i))), (head_same 10 10 x y h).1)
  where
    words : List ℕ
    words = words_text t.input ++ (codes " :" ++ (words_text t.output ++ 10 ∷ x))

    wanted : List ℕ
    wanted = words_text u.input ++ (codes " :" ++ (words_text u.output ++ 10 ∷ y))

    names : List ℕ
    names = field m ++ (field t.found ++ (taken_fields t.taken ++ words))

    others : List ℕ
    others = field n ++ (field u.found ++ (taken_fields u.taken ++ wanted))

last_cut : (a b c d e f g h : ℕ) (x y : List ℕ) → a < 2 ^ 64 → b < 2 ^ 64 → c < 2 ^ 64 → d < 2 ^ 64 → e < 2 ^ 64 → f < 2 ^ 64 → g < 2 ^ 64 → h < 2 ^ 64 →
    last_line a b c d ++ x ≡ last_line e f g h ++ y → (says.Last a b c d ≡ says.Last e f g h) × (x ≡ y)
last_cut a b c d e f g h x y fa fb fc fd fe ff fg fh same =
    let one = append_cancel_left (codes "end") (field a ++ (field b ++ (field c ++ (field d ++ 10 ∷ x)))) (field e ++ (field f ++ (field g ++ (field h ++ 10 ∷ y))))
    (ap (λ z. codes "end" ++ z) (sym (five (field a) (field b) (field c) (field d) end_of_line x)) ∙ same
    ∙ ap (λ z. codes "end" ++ z) (five (field e) (field f) (field g) (field h) end_of_line y)) in
    let (cycles, p) = field_cut a e (field b ++ (field c ++ (field d ++ 10 ∷ x))) (field f ++ (field g ++ (field h ++ 10 ∷ y))) fa fe refl refl one in
    let (occupied, q) = field_cut b f (field c ++ (field d ++ 10 ∷ x)) (field g ++ (field h ++ 10 ∷ y)) fb ff refl refl p in
    let (delivered, r) = field_cut c g (field d ++ 10 ∷ x) (field h ++ 10 ∷ y) fc fg refl refl q in
    let (dropped, s) = field_cut d h (10 ∷ x) (10 ∷ y) fd fh refl refl r in
    ((λ i. says.Last (cycles i) (occupied i) (delivered i) (dropped i)), (head_same 10 10 x y s).1)
  where
    five : (a b c d e x : List ℕ) → (a ++ (b ++ (c ++ (d ++ e)))) ++ x ≡ a ++ (b ++ (c ++ (d ++ (e ++ x))))
    five a b c d e x = simp append_assoc

pub line_cut : (plant : Plant) (m n : ℕ) (l o : Line) (x y : List ℕ) → MeetsRules plant → FitLine plant m l → FitLine plant n o →
    line_text plant l ++ x ≡ line_text plant o ++ y → (l ≡ o) × (x ≡ y)
line_cut plant m n (says.Take k d g) (says.Take j e h) x y rules (bm, fl) (bn, fo) same =
    take_cut plant k j d e g h x y rules (omega (arith, fl.0)) (omega (arith, fo.0)) fl.1 fo.1 fl.2 fo.2 same
line_cut plant m n (says.Row r) (says.Row s) x y rules (bm, fl) (bn, fo) same =
    let (rows, left) = row_cut plant m n r s x y rules bm bn fl fo same in
    (ap (λ t. says.Row t) rows, left)
line_cut plant m n (says.Image k d v) (says.Image j e w) x y rules (bm, fl) (bn, fo) same =
    image_cut plant k j d e v w x y rules (omega (arith, fl.0)) (omega (arith, fo.0)) fl.1 fo.1 fl.2 fo.2 same
line_cut plant m n (says.Turn d a t) (says.Turn e b u) x y rules (bm, fl) (bn, fo) same = turn_cut plant d e a b t u x y rules fl.1 fo.1 fl.0 fo.0 fl.2 fo.2 same
line_cut plant m n (says.Last a b c d) (says.Last e f g h) x y rules (bm, fl) (bn, fo) same =
    last_cut a b c d e f g h x y (omega (arith, fl.0)) fl.1 fl.2 fl.3 (omega (arith, fo.0)) fo.1 fo.2 fo.3 same
line_cut plant m n (says.Row r) (says.Take k d g) x y rules fl fo same = absurd (no_row r 103 (same_first plant (says.Row r) (says.Take k d g) x y same) refl)
line_cut plant m n (says.Row r) (says.Image k d w) x y rules fl fo same = absurd (no_row r 105 (same_first plant (says.Row r) (says.Image k d w) x y same) refl)
line_cut plant m n (says.Row r) (says.Turn d a t) x y rules fl fo same = absurd (no_row r 117 (same_first plant (says.Row r) (says.Turn d a t) x y same) refl)
line_cut plant m n (says.Row r) (says.Last a b c d) x y rules fl fo same = absurd (no_row r 101 (same_first plant (says.Row r) (says.Last a b c d) x y same) refl)
line_cut plant m n (says.Take k d g) (says.Row r) x y rules fl fo same = absurd (no_row r 103 (sym (same_first plant (says.Take k d g) (says.Row r) x y same)) refl)
line_cut plant m n (says.Image k d w) (says.Row r) x y rules fl fo same = absurd (no_row r 105 (sym (same_first plant (says.Image k d w) (says.Row r) x y same)) refl)
line_cut plant m n (says.Turn d a t) (says.Row r) x y rules fl fo same = absurd (no_row r 117 (sym (same_first plant (says.Turn d a t) (says.Row r) x y same)) refl)
line_cut plant m n (says.Last a b c d) (says.Row r) x y rules fl fo same = absurd (no_row r 101 (sym (same_first plant (says.Last a b c d) (says.Row r) x y same)) refl)
line_cut plant m n l o x y rules fl fo same = absurd (omega (arith, same_first plant l o x y same))

no_lines : (plant : Plant) (l : Line) (x : List ℕ) → [] ≡ line_text plant l ++ x → ⊥
no_lines plant l x same =
    let (t, begins) = starts plant l x in
    let none : [] ≡ first l ∷ t = same ∙ begins in
    absurd (cc)

lines_first : (plant : Plant) (l : Line) (ls : List Line) → flat_map (line_text plant) (l ∷ ls) ≡ line_text plant l ++ flat_map (line_text plant) ls
lines_first plant l ls = refl

-- lists of lines with one text are one
pub lines_same : (plant : Plant) (m n : ℕ) (ls os : List Line) → MeetsRules plant → AllByRecursion (FitLine plant m) ls → AllByRecursion (FitLine plant n) os →
    flat_map (line_text plant) ls ≡ flat_map (line_text plant) os → ls ≡ os
lines_same plant m n [] [] rules fl fo same = refl
lines_same plant m n [] (o ∷ os) rules fl fo same = absurd (no_lines plant o (flat_map (line_text plant) os) same)
lines_same plant m n (l ∷ ls) [] rules fl fo same = absurd (no_lines plant l (flat_map (line_text plant) ls) (sym same))
lines_same plant m n (l ∷ ls) (o ∷ os) rules fl fo same =
    let (here, rest) = line_cut plant m n l o (flat_map (line_text plant) ls) (flat_map (line_text plant) os) rules fl.0 fo.0 same in
    let more = lines_same plant m n ls os rules fl.1 fo.1 rest in
    (λ i. here i ∷ more i)
