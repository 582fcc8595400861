-- A line is read from its text, and only from it.
use Rattle.std.proofs.Common.{◌≡◌, ◌<◌, ◌-◌, ◌^◌, ◌==◌, ℕ, true, List, [], ◌∷◌, ◌++◌, length, Option, Some, refl, sym, ◌∙◌, ap, subst, arith, append_assoc, inl, inr}
use Rattle.std.specs.Prelude.{codes}
use Rattle.std.proofs.lemmas.Bool.{eqb-true}
use Rattle.std.proofs.lemmas.Option.{none-some, same_Some}
use Rattle.cycle_rows.specs.Rows.{cycle_of}
use Rattle.cycle_rows.specs.declared.rows.JournalRow.{JournalRow}
use Rattle.cycle_rows.specs.declared.rows.JournalRow.TheVariants.{Occupy, Deliver, Missed, Sent, Refused, Lost, Came}
use Rattle.io_buffers.specs.Given.{Given, given}
use Rattle.io_buffers.specs.declared.taken.Taken.{Taken}
use Rattle.irt_base.specs.declared.numbers.DevId.{DevId}
use Rattle.irt_base.specs.declared.plants.Plant.{Plant}
use Rattle.irt_trace.specs.Journal.{begin_of, device_of, end_of_line, field, letter_of, name_of, rest_of}
use Rattle.iso_rules.specs.declared.turn.Turn.{Turn}
use Rattle.plant_rules.specs.Meets.{MeetsRules}
use Rattle.record_text.specs.Text.{image_line, take_line, taken_fields, turn_begin, turn_line, words_text}
use Rattle.record_laws.specs.Fitting.{AreWords, IsTake, IsTurn}
use Rattle.record_laws.specs.Lines.{last_line, line_text}
use Rattle.record_laws.specs.declared.line.Line.{Line}
use Rattle.record_laws.specs.declared.line.Line.TheVariants as says
use Rattle.record_laws.proofs.Fields.{Ends}
use Rattle.record_laws.proofs.RowCut.{four, taken-ends, three, two}
use Rattle.record_reader.specs.Reading.{after_byte, begin_read, device_read, image_read, input_words, last_read, line_of_letter, line_read, number_read, output_words, row_line_read, row_read, take_read, taken_read, turn_begin_read, turn_read, turn_words_read, words_read}
use Rattle.record_reader.specs.Right.{IsRightLine}
use Rattle.record_reader.proofs.Values.{bind_some}
use Rattle.record_reader.proofs.FieldsRead.{bind-again, byte_taken, device_read-again, device_read-taken, number_read-again, number_read-taken}
use Rattle.record_reader.proofs.PartsRead.{begin-again, begin-taken, taken-again, taken-taken, words-again, words-ends, words-taken}
use Rattle.record_reader.proofs.RowRead.{chosen, row-again, row-taken}

abbrev some_line : Line → List ℕ → Option (Line × List ℕ)
some_line line rest = Some (line, rest)

-- what is read of the text after the letter
abbrev after_letter : Plant → DevId → ℕ → List ℕ
after_letter plant d k = field k ++ 32 ∷ name_of plant d.0

-- ---- takes and images

take-again : (plant : Plant) (k : ℕ) (d : DevId) (g : Given) (rest : List ℕ) → MeetsRules plant → IsRightLine plant (says.Take k d g) →
    line_read plant (take_line plant k d.0 g ++ rest) ≡ some_line (says.Take k d g) rest
unfolding take_read
take-again plant k d g rest rules (few, there, fits, count) =
    ap (λ t. take_read plant t) (four (after_letter plant d k) (taken_fields g.taken) (words_text g.words) end_of_line rest)
    ∙ bind-again (begin_read plant (after_letter plant d k ++ more)) _ ((k, d), more) (some_line (says.Take k d g) rest) (begin-again plant k d more rules few there refl)
    (bind-again (taken_read more) _ (g.taken, words_text g.words ++ 10 ∷ rest) (some_line (says.Take k d g) rest)
    (taken-again g.taken (words_text g.words ++ 10 ∷ rest) fits.number (words-ends g.words (10 ∷ rest) refl))
    (bind-again (words_read (output_words plant d) [] (words_text g.words ++ 10 ∷ rest)) _ (g.words, 10 ∷ rest) (some_line (says.Take k d g) rest)
    (words-again (output_words plant d) g.words (10 ∷ rest) count fits.words refl) refl))
  where
    more : List ℕ
    more = taken_fields g.taken ++ (words_text g.words ++ 10 ∷ rest)

-- a line that was read: it is right, and the bytes are its text and the rest
abbrev pub IsRead : Plant → List ℕ → Line × List ℕ → Type 0
IsRead plant bytes y = IsRightLine plant y.0 × (bytes ≡ line_text plant y.0 ++ y.1)

take-taken : (plant : Plant) (bytes : List ℕ) (y : Line × List ℕ) → take_read plant bytes ≡ Some y → IsRead plant (103 ∷ bytes) y
unfolding take_read
take-taken plant bytes y is =
    let (begin, a, m) = bind_some (begin_read plant bytes) _ y is in
    let (taken, b, n) = bind_some (taken_read begin.1) _ y m in
    let (words, c, o) = bind_some (words_read (output_words plant begin.0.1) [] taken.1) _ y n in
    let (rest, e, p) = bind_some (after_byte 10 words.1) _ y o in
    let (few, there, ta) = begin-taken plant bytes begin a in
    let (fb, tb) = taken-taken begin.1 taken b in
    let (count, fc, tc) = words-taken (output_words plant begin.0.1) taken.1 words c in
    let fits : IsTake (given taken.0 words.0) = record { number = fb; words = fc } in
    let text : 103 ∷ bytes ≡ take_line plant begin.0.0 begin.0.1.0 (given taken.0 words.0) ++ rest =
    ap (λ t. 103 ∷ t) (ta ∙ (ap (λ r. after_letter plant begin.0.1 begin.0.0 ++ r) (tb ∙ ap (λ r. taken_fields taken.0 ++ r) (tc ∙ ap (λ r. words_text words.0 ++ r) (byte_taken 10 words.1 rest e)))
    ∙ sym (four (after_letter plant begin.0.1 begin.0.0) (taken_fields taken.0) (words_text words.0) end_of_line rest))) in
    subst (IsRead plant (103 ∷ bytes)) (same_Some (says.Take begin.0.0 begin.0.1 (given taken.0 words.0), rest) y p) ((few, there, fits, count), text)

image-again : (plant : Plant) (k : ℕ) (d : DevId) (words : List ℕ) (rest : List ℕ) → MeetsRules plant → IsRightLine plant (says.Image k d words) →
    line_read plant (image_line plant k d.0 words ++ rest) ≡ some_line (says.Image k d words) rest
unfolding image_read
image-again plant k d words rest rules (few, there, fits, count) =
    ap (λ t. image_read plant t) (three (after_letter plant d k) (words_text words) end_of_line rest)
    ∙ bind-again (begin_read plant (after_letter plant d k ++ (words_text words ++ 10 ∷ rest))) _ ((k, d), words_text words ++ 10 ∷ rest) (some_line (says.Image k d words) rest)
    (begin-again plant k d (words_text words ++ 10 ∷ rest) rules few there (words-ends words (10 ∷ rest) refl))
    (bind-again (words_read (input_words plant d) [] (words_text words ++ 10 ∷ rest)) _ (words, 10 ∷ rest) (some_line (says.Image k d words) rest)
    (words-again (input_words plant d) words (10 ∷ rest) count fits refl) refl)

image-taken : (plant : Plant) (bytes : List ℕ) (y : Line × List ℕ) → image_read plant bytes ≡ Some y → IsRead plant (105 ∷ bytes) y
unfolding image_read
image-taken plant bytes y is =
    let (begin, a, m) = bind_some (begin_read plant bytes) _ y is in
    let (words, c, o) = bind_some (words_read (input_words plant begin.0.1) [] begin.1) _ y m in
    let (rest, e, p) = bind_some (after_byte 10 words.1) _ y o in
    let (few, there, ta) = begin-taken plant bytes begin a in
    let (count, fc, tc) = words-taken (input_words plant begin.0.1) begin.1 words c in
    let text : 105 ∷ bytes ≡ image_line plant begin.0.0 begin.0.1.0 words.0 ++ rest =
    ap (λ t. 105 ∷ t) (ta ∙ (ap (λ r. after_letter plant begin.0.1 begin.0.0 ++ r) (tc ∙ ap (λ r. words_text words.0 ++ r) (byte_taken 10 words.1 rest e))
    ∙ sym (three (after_letter plant begin.0.1 begin.0.0) (words_text words.0) end_of_line rest))) in
    subst (IsRead plant (105 ∷ bytes)) (same_Some (says.Image begin.0.0 begin.0.1 words.0, rest) y p) ((few, there, fc, count), text)

-- ---- turns

abbrev turn_of : ℕ → Taken → List ℕ → List ℕ → Turn
turn_of found taken input output = record { found = found; taken = taken; input = input; output = output }

abbrev turn_words : List ℕ → List ℕ → List ℕ → List ℕ
turn_words input output rest = words_text input ++ (codes " :" ++ (words_text output ++ 10 ∷ rest))

turn_shape : (plant : Plant) (d number : ℕ) (t : Turn) (x : List ℕ) → turn_line plant d number t ++ x ≡
    117 ∷ 32 ∷ (name_of plant d ++ (field number ++ (field t.found ++ (taken_fields t.taken ++ turn_words t.input t.output x))))
turn_shape plant d number t x =
    five (turn_begin plant d number t) (words_text t.input) (codes " :") (words_text t.output) end_of_line x
    ∙ ap (λ z. 117 ∷ 32 ∷ z) (four (name_of plant d) (field number) (field t.found) (taken_fields t.taken) (turn_words t.input t.output x))
  where
    five : (a b c d e x : List ℕ) → (a ++ (b ++ (c ++ (d ++ e)))) ++ x ≡ a ++ (b ++ (c ++ (d ++ (e ++ x))))
    five a b c d e x = simp append_assoc

turn_begin-again : (number found : ℕ) (taken : Taken) (rest : List ℕ) → number < 2 ^ 64 → found < 2 ^ 32 → taken.number < 2 ^ 64 → Ends rest →
    turn_begin_read (field number ++ (field found ++ (taken_fields taken ++ rest))) ≡ Some ((number, found, taken), rest)
unfolding turn_begin_read
turn_begin-again number found taken rest fn ff ft ends =
    bind-again (number_read (2 ^ 64 - 1) (field number ++ (field found ++ (taken_fields taken ++ rest)))) _ (number, field found ++ (taken_fields taken ++ rest)) (Some ((number, found, taken), rest))
    (number_read-again (2 ^ 64 - 1) number (field found ++ (taken_fields taken ++ rest)) fn (omega arith) refl)
    (bind-again (number_read (2 ^ 32 - 1) (field found ++ (taken_fields taken ++ rest))) _ (found, taken_fields taken ++ rest) (Some ((number, found, taken), rest))
    (number_read-again (2 ^ 32 - 1) found (taken_fields taken ++ rest) (omega arith) (omega arith) (taken-ends taken rest))
    (bind-again (taken_read (taken_fields taken ++ rest)) _ (taken, rest) (Some ((number, found, taken), rest)) (taken-again taken rest ft ends) refl))

pub record IsTurnBegin (bytes : List ℕ) (y : (ℕ × ℕ × Taken) × List ℕ) : Type 0 where
  pub number : y.0.0 < 2 ^ 64
  pub found : y.0.1 < 2 ^ 32
  pub taken : y.0.2.number < 2 ^ 64
  pub text : bytes ≡ field y.0.0 ++ (field y.0.1 ++ (taken_fields y.0.2 ++ y.1))

turn_begin-taken : (bytes : List ℕ) (y : (ℕ × ℕ × Taken) × List ℕ) → turn_begin_read bytes ≡ Some y → IsTurnBegin bytes y
unfolding turn_begin_read
turn_begin-taken bytes y is =
    let (number, a, m) = bind_some (number_read (2 ^ 64 - 1) bytes) _ y is in
    let (found, b, n) = bind_some (number_read (2 ^ 32 - 1) number.1) _ y m in
    let (taken, c, o) = bind_some (taken_read found.1) _ y n in
    let (fa, sa, ta) = number_read-taken (2 ^ 64 - 1) bytes number a in
    let (fb, sb, tb) = number_read-taken (2 ^ 32 - 1) number.1 found b in
    let (fc, tc) = taken-taken found.1 taken c in
    let few : found.0 < 2 ^ 32 = omega arith in
    subst (IsTurnBegin bytes) (same_Some ((number.0, found.0, taken.0), taken.1) y o)
    (record { number = fa; found = few; taken = fc; text = ta ∙ ap (λ r. field number.0 ++ r) (tb ∙ ap (λ r. field found.0 ++ r) tc) })

turn_words-again : (plant : Plant) (d : DevId) (input output rest : List ℕ) → length input ≡ input_words plant d → length output ≡ output_words plant d →
    AreWords input → AreWords output → turn_words_read plant d (turn_words input output rest) ≡ Some ((input, output), rest)
unfolding turn_words_read
turn_words-again plant d input output rest ci co fi fo =
    bind-again (words_read (input_words plant d) [] (turn_words input output rest)) _ (input, codes " :" ++ (words_text output ++ 10 ∷ rest)) (Some ((input, output), rest))
    (words-again (input_words plant d) input (codes " :" ++ (words_text output ++ 10 ∷ rest)) ci fi refl)
    (bind-again (words_read (output_words plant d) [] (words_text output ++ 10 ∷ rest)) _ (output, 10 ∷ rest) (Some ((input, output), rest))
    (words-again (output_words plant d) output (10 ∷ rest) co fo refl) refl)

pub record AreTurnWords (plant : Plant) (d : DevId) (bytes : List ℕ) (y : (List ℕ × List ℕ) × List ℕ) : Type 0 where
  pub inputs : length y.0.0 ≡ input_words plant d
  pub outputs : length y.0.1 ≡ output_words plant d
  pub input : AreWords y.0.0
  pub output : AreWords y.0.1
  pub text : bytes ≡ turn_words y.0.0 y.0.1 y.1

turn_words-taken : (plant : Plant) (d : DevId) (bytes : List ℕ) (y : (List ℕ × List ℕ) × List ℕ) → turn_words_read plant d bytes ≡ Some y → AreTurnWords plant d bytes y
unfolding turn_words_read
turn_words-taken plant d bytes y is =
    let (input, a, m) = bind_some (words_read (input_words plant d) [] bytes) _ y is in
    let (space, b, n) = bind_some (after_byte 32 input.1) _ y m in
    let (colon, c, o) = bind_some (after_byte 58 space) _ y n in
    let (output, e, p) = bind_some (words_read (output_words plant d) [] colon) _ y o in
    let (rest, f, q) = bind_some (after_byte 10 output.1) _ y p in
    let (ci, fi, ti) = words-taken (input_words plant d) bytes input a in
    let (co, fo, to) = words-taken (output_words plant d) colon output e in
    subst (AreTurnWords plant d bytes) (same_Some ((input.0, output.0), rest) y q)
    (record {
      inputs = ci;
      outputs = co;
      input = fi;
      output = fo;
      text = ti ∙ ap (λ r. words_text input.0 ++ r) (byte_taken 32 input.1 space b ∙ ap (λ r. 32 ∷ r) (byte_taken 58 space colon c ∙ ap (λ r. 58 ∷ r) (to ∙ ap (λ r. words_text output.0 ++ r) (byte_taken 10 output.1 rest f))));
    })

turn-again : (plant : Plant) (d : DevId) (number : ℕ) (t : Turn) (rest : List ℕ) → MeetsRules plant → IsRightLine plant (says.Turn d number t) →
    line_read plant (turn_line plant d.0 number t ++ rest) ≡ some_line (says.Turn d number t) rest
unfolding turn_read
turn-again plant d number t rest rules (there, fits, turn, inputs, outputs) =
    ap (line_read plant) (turn_shape plant d.0 number t rest)
    ∙ bind-again (device_read plant (32 ∷ (name_of plant d.0 ++ more))) _ (d, more) (some_line (says.Turn d number t) rest) (device_read-again plant d more rules there refl)
    (bind-again (turn_begin_read more) _ ((number, t.found, t.taken), turn_words t.input t.output rest) (some_line (says.Turn d number t) rest)
    (turn_begin-again number t.found t.taken (turn_words t.input t.output rest) fits turn.found turn.number (words-ends t.input (codes " :" ++ (words_text t.output ++ 10 ∷ rest)) refl))
    (bind-again (turn_words_read plant d (turn_words t.input t.output rest)) _ ((t.input, t.output), rest) (some_line (says.Turn d number t) rest)
    (turn_words-again plant d t.input t.output rest inputs outputs turn.input turn.output) refl))
  where
    more : List ℕ
    more = field number ++ (field t.found ++ (taken_fields t.taken ++ turn_words t.input t.output rest))

turn-taken : (plant : Plant) (bytes : List ℕ) (y : Line × List ℕ) → turn_read plant bytes ≡ Some y → IsRead plant (117 ∷ bytes) y
unfolding turn_read
turn-taken plant bytes y is =
    let (device, a, m) = bind_some (device_read plant bytes) _ y is in
    let (begin, b, n) = bind_some (turn_begin_read device.1) _ y m in
    let (words, c, o) = bind_some (turn_words_read plant device.0 begin.1) _ y n in
    let (there, ta) = device_read-taken plant bytes device a in
    let tb = turn_begin-taken device.1 begin b in
    let tc = turn_words-taken plant device.0 begin.1 words c in
    let turn : IsTurn (turn_of begin.0.1 begin.0.2 words.0.0 words.0.1) = record { found = tb.found; number = tb.taken; input = tc.input; output = tc.output } in
    let text : 117 ∷ bytes ≡ turn_line plant device.0.0 begin.0.0 (turn_of begin.0.1 begin.0.2 words.0.0 words.0.1) ++ words.1 =
    ap (λ t. 117 ∷ t) (ta ∙ ap (λ r. 32 ∷ (name_of plant device.0.0 ++ r)) (tb.text ∙ ap (λ r. field begin.0.0 ++ (field begin.0.1 ++ (taken_fields begin.0.2 ++ r))) tc.text))
    ∙ sym (turn_shape plant device.0.0 begin.0.0 (turn_of begin.0.1 begin.0.2 words.0.0 words.0.1) words.1) in
    subst (IsRead plant (117 ∷ bytes)) (same_Some (says.Turn device.0 begin.0.0 (turn_of begin.0.1 begin.0.2 words.0.0 words.0.1), words.1) y o)
    ((there, tb.number, turn, tc.inputs, tc.outputs), text)

-- ---- the last line

abbrev numbers : ℕ → ℕ → ℕ → ℕ → List ℕ → List ℕ
numbers a b c d rest = field a ++ (field b ++ (field c ++ (field d ++ 10 ∷ rest)))

last_shape : (a b c d : ℕ) (rest : List ℕ) → last_line a b c d ++ rest ≡ 101 ∷ 110 ∷ 100 ∷ numbers a b c d rest
last_shape a b c d rest = ap (λ z. 101 ∷ 110 ∷ 100 ∷ z) (five (field a) (field b) (field c) (field d) end_of_line rest)
  where
    five : (a b c d e x : List ℕ) → (a ++ (b ++ (c ++ (d ++ e)))) ++ x ≡ a ++ (b ++ (c ++ (d ++ (e ++ x))))
    five a b c d e x = simp append_assoc

last-again : (plant : Plant) (a b c d : ℕ) (rest : List ℕ) → IsRightLine plant (says.Last a b c d) → line_read plant (last_line a b c d ++ rest) ≡ some_line (says.Last a b c d) rest
unfolding last_read
last-again plant a b c d rest (fa, fb, fc, fd) =
    ap (line_read plant) (last_shape a b c d rest)
    ∙ bind-again (number_read (2 ^ 32 - 1) (numbers a b c d rest)) _ (a, field b ++ (field c ++ (field d ++ 10 ∷ rest))) (some_line (says.Last a b c d) rest)
    (number_read-again (2 ^ 32 - 1) a (field b ++ (field c ++ (field d ++ 10 ∷ rest))) (omega arith) (omega arith) refl)
    (bind-again (number_read (2 ^ 64 - 1) (field b ++ (field c ++ (field d ++ 10 ∷ rest)))) _ (b, field c ++ (field d ++ 10 ∷ rest)) (some_line (says.Last a b c d) rest)
    (number_read-again (2 ^ 64 - 1) b (field c ++ (field d ++ 10 ∷ rest)) fb (omega arith) refl)
    (bind-again (number_read (2 ^ 64 - 1) (field c ++ (field d ++ 10 ∷ rest))) _ (c, field d ++ 10 ∷ rest) (some_line (says.Last a b c d) rest)
    (number_read-again (2 ^ 64 - 1) c (field d ++ 10 ∷ rest) fc (omega arith) refl)
    (bind-again (number_read (2 ^ 64 - 1) (field d ++ 10 ∷ rest)) _ (d, 10 ∷ rest) (some_line (says.Last a b c d) rest)
    (number_read-again (2 ^ 64 - 1) d (10 ∷ rest) fd (omega arith) refl) refl)))

last-taken : (plant : Plant) (bytes : List ℕ) (y : Line × List ℕ) → last_read bytes ≡ Some y → IsRead plant (101 ∷ bytes) y
unfolding last_read
last-taken plant bytes y is =
    let (n, a, m) = bind_some (after_byte 110 bytes) _ y is in
    let (d, b, o) = bind_some (after_byte 100 n) _ y m in
    let (cycles, c, p) = bind_some (number_read (2 ^ 32 - 1) d) _ y o in
    let (occupied, e, q) = bind_some (number_read (2 ^ 64 - 1) cycles.1) _ y p in
    let (delivered, f, r) = bind_some (number_read (2 ^ 64 - 1) occupied.1) _ y q in
    let (dropped, g, s) = bind_some (number_read (2 ^ 64 - 1) delivered.1) _ y r in
    let (rest, h, t) = bind_some (after_byte 10 dropped.1) _ y s in
    let (fc, sc, tc) = number_read-taken (2 ^ 32 - 1) d cycles c in
    let (fe, se, te) = number_read-taken (2 ^ 64 - 1) cycles.1 occupied e in
    let (ff, sf, tf) = number_read-taken (2 ^ 64 - 1) occupied.1 delivered f in
    let (fg, sg, tg) = number_read-taken (2 ^ 64 - 1) delivered.1 dropped g in
    let few : cycles.0 < 2 ^ 32 = omega arith in
    let text : 101 ∷ bytes ≡ last_line cycles.0 occupied.0 delivered.0 dropped.0 ++ rest =
    ap (λ z. 101 ∷ z) (byte_taken 110 bytes n a ∙ ap (λ z. 110 ∷ z) (byte_taken 100 n d b ∙ ap (λ z. 100 ∷ z)
    (tc ∙ ap (λ z. field cycles.0 ++ z) (te ∙ ap (λ z. field occupied.0 ++ z) (tf ∙ ap (λ z. field delivered.0 ++ z) (tg ∙ ap (λ z. field dropped.0 ++ z) (byte_taken 10 dropped.1 rest h)))))))
    ∙ sym (last_shape cycles.0 occupied.0 delivered.0 dropped.0 rest) in
    subst (IsRead plant (101 ∷ bytes)) (same_Some (says.Last cycles.0 occupied.0 delivered.0 dropped.0, rest) y t) ((few, fe, ff, fg), text)

-- ---- any line

row_line-again : (plant : Plant) (r : JournalRow) (rest : List ℕ) → MeetsRules plant → IsRightLine plant (says.Row r) →
    row_line_read plant (letter_of r) ((field (cycle_of r) ++ 32 ∷ name_of plant (device_of r).0) ++ (rest_of r ++ rest)) ≡ some_line (says.Row r) rest
row_line-again plant r rest rules fits =
    bind-again (row_read plant (letter_of r) ((field (cycle_of r) ++ 32 ∷ name_of plant (device_of r).0) ++ (rest_of r ++ rest))) (λ x. Some (says.Row x.0, x.1))
    (r, rest) (some_line (says.Row r) rest) (row-again plant r rest rules fits) refl

row_letter : (plant : Plant) (r : JournalRow) (bytes : List ℕ) → line_of_letter plant (letter_of r) bytes ≡ row_line_read plant (letter_of r) bytes
row_letter plant (Occupy k d p f start end) bytes = refl
row_letter plant (Deliver k d f end) bytes = refl
row_letter plant (Missed k d f) bytes = refl
row_letter plant (Sent k d p traffic serial start end) bytes = refl
row_letter plant (Refused k d p traffic serial) bytes = refl
row_letter plant (Lost k d p traffic serial) bytes = refl
row_letter plant (Came k d traffic serial) bytes = refl

pub line-again : (plant : Plant) (l : Line) (rest : List ℕ) → MeetsRules plant → IsRightLine plant l → line_read plant (line_text plant l ++ rest) ≡ Some (l, rest)
line-again plant (says.Take k d g) rest rules right = take-again plant k d g rest rules right
line-again plant (says.Image k d words) rest rules right = image-again plant k d words rest rules right
line-again plant (says.Turn d number t) rest rules right = turn-again plant d number t rest rules right
line-again plant (says.Last a b c d) rest rules right = last-again plant a b c d rest right
line-again plant (says.Row r) rest rules right =
    ap (line_read plant) (two (begin_of plant (letter_of r) (cycle_of r) (device_of r).0) (rest_of r) rest)
    ∙ (row_letter plant r ((field (cycle_of r) ++ 32 ∷ name_of plant (device_of r).0) ++ (rest_of r ++ rest)) ∙ row_line-again plant r rest rules right)

row_line-taken : (plant : Plant) (letter : ℕ) (bytes : List ℕ) (y : Line × List ℕ) → row_line_read plant letter bytes ≡ Some y → IsRead plant (letter ∷ bytes) y
row_line-taken plant letter bytes y is =
    let (x, a, m) = bind_some (row_read plant letter bytes) (λ x. Some (says.Row x.0, x.1)) y is in
    subst (IsRead plant (letter ∷ bytes)) (same_Some (says.Row x.0, x.1) y m) (row-taken plant letter bytes x a)

of_letter : (plant : Plant) (letter right : ℕ) (bytes : List ℕ) (y : Line × List ℕ) → (letter == right) ≡ true → IsRead plant (right ∷ bytes) y → IsRead plant (letter ∷ bytes) y
of_letter plant letter right bytes y test is = subst (λ n. IsRead plant (n ∷ bytes) y) (sym (eqb-true letter right test)) is

pub line-taken : (plant : Plant) (bytes : List ℕ) (y : Line × List ℕ) → line_read plant bytes ≡ Some y → IsRead plant bytes y
line-taken plant [] y is = absurd (none-some y is)
line-taken plant (letter ∷ bytes) y is =
    elim (chosen (letter == 103) (take_read plant bytes) _ y is) [
      | inl x ↦ of_letter plant letter 103 bytes y x.0 (take-taken plant bytes y x.1)
      | inr no_take ↦
          elim (chosen (letter == 105) (image_read plant bytes) _ y no_take.1) [
            | inl x ↦ of_letter plant letter 105 bytes y x.0 (image-taken plant bytes y x.1)
            | inr no_image ↦
                elim (chosen (letter == 117) (turn_read plant bytes) _ y no_image.1) [
                  | inl x ↦ of_letter plant letter 117 bytes y x.0 (turn-taken plant bytes y x.1)
                  | inr no_turn ↦
                      elim (chosen (letter == 101) (last_read bytes) (row_line_read plant letter bytes) y no_turn.1) [
                        | inl x ↦ of_letter plant letter 101 bytes y x.0 (last-taken plant bytes y x.1)
                        | inr no_last ↦ row_line-taken plant letter bytes y no_last.1
                      ]
                ]
          ]
    ]
