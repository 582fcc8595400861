-- Each line has one line feed, at its end.
use Rattle.std.proofs.Common.{◌≡◌, ◌≢◌, ◌<◌, ◌^◌, ℕ, Bool, true, false, List, [], ◌∷◌, ◌++◌, refl, sym, ◌∙◌, ap, arith, append_assoc}
use Rattle.std.specs.Prelude.{codes, ℤ}
use Rattle.cycle_rows.specs.Rows.{cycle_of}
use Rattle.cycle_rows.specs.declared.rows.JournalRow.{JournalRow}
use Rattle.cycle_rows.specs.declared.rows.JournalRow.TheVariants.{Occupy, Deliver, Missed, Sent, Refused, Lost, Came}
use Rattle.io_buffers.specs.declared.taken.Taken.{Taken}
use Rattle.irt_base.specs.declared.plants.Plant.{Plant}
use Rattle.irt_trace.specs.Journal.{begin_of, device_of, end_of_line, field, frame_field, letter_of, name_of, parcel_fields, rest_of, time_field, times_end}
use Rattle.plant_rules.specs.Meets.{MeetsRules}
use Rattle.record_text.specs.Text.{flag_field, taken_fields, turn_begin, word_field, words_text}
use Rattle.record_laws.specs.Fitting.{HasRange, IsTime}
use Rattle.record_laws.specs.Lines.{line_text}
use Rattle.record_laws.specs.declared.line.Line.{Line}
use Rattle.record_laws.specs.declared.line.Line.TheVariants as says
use Rattle.record_laws.proofs.Fields.{IsPlain, decimal-plain, hex_digits-plain, is_end, time-plain}
use Rattle.record_laws.proofs.Names.{name-plain}
use Rattle.record_reader.specs.Right.{IsRightLine}
use Rattle.record_reader.specs.Whole.{HasNoFeed}

-- a text without a line feed, and one
pub record IsFed (text : List ℕ) : Type 0 where
  pub body : List ℕ
  pub plain : HasNoFeed body
  pub fed : text ≡ body ++ 10 ∷ []

no_feed : (b : ℕ) → is_end b ≡ false → b ≢ 10
no_feed b plain = λ same. false_true (sym plain ∙ ap is_end same)
  where
    false_true : false ≡ true → ⊥
    false_true is = cc

plain_fed : (text : List ℕ) → IsPlain text → HasNoFeed text
plain_fed [] plain = tt
plain_fed (b ∷ text) plain = (no_feed b plain.0, plain_fed text plain.1)

both_fed : (a b : List ℕ) → HasNoFeed a → HasNoFeed b → HasNoFeed (a ++ b)
both_fed [] b pa pb = pb
both_fed (c ∷ a) b pa pb = (pa.0, both_fed a b pa.1 pb)

not : (b : ℕ) → 10 < b → b ≢ 10
not b above = λ same. omega (arith, above, same)

field_fed : (n : ℕ) → n < 2 ^ 64 → HasNoFeed (field n)
field_fed n fits = (not 32 (omega arith), plain_fed _ (decimal-plain n fits))

time_fed : (z : ℤ) → IsTime z → HasNoFeed (time_field z)
time_fed z fits = (not 32 (omega arith), plain_fed _ (time-plain z fits))

frame_fed : (n : ℕ) → HasNoFeed (frame_field n)
frame_fed n = (not 32 (omega arith), (not 48 (omega arith), (not 120 (omega arith), plain_fed _ (hex_digits-plain 4 n))))

words_fed : (ws : List ℕ) → HasNoFeed (words_text ws)
words_fed [] = tt
words_fed (w ∷ ws) = both_fed (word_field w) (words_text ws) (not 32 (omega arith), plain_fed _ (hex_digits-plain 16 w)) (words_fed ws)

flag_fed : (b : Bool) → HasNoFeed (flag_field b)
flag_fed true = (not 32 (omega arith), (not 49 (omega arith), tt))
flag_fed false = (not 32 (omega arith), (not 48 (omega arith), tt))

taken_fed : (t : Taken) → t.number < 2 ^ 64 → HasNoFeed (taken_fields t)
taken_fed t fits =
    both_fed (field t.number) (flag_field t.fresh ++ flag_field t.in_window) (field_fed t.number fits) (both_fed (flag_field t.fresh) (flag_field t.in_window) (flag_fed t.fresh) (flag_fed t.in_window))

name_fed : (plant : Plant) (d : ℕ) → MeetsRules plant → HasNoFeed (name_of plant d)
name_fed plant d rules = plain_fed (name_of plant d) (name-plain plant d rules)

begin_fed : (plant : Plant) (letter k d : ℕ) → MeetsRules plant → 10 < letter → k < 2 ^ 64 → HasNoFeed (begin_of plant letter k d)
begin_fed plant letter k d rules above fits = (not letter above, both_fed (field k) (32 ∷ name_of plant d) (field_fed k fits) (not 32 (omega arith), name_fed plant d rules))

-- more before a text
after_more : (a b : List ℕ) → HasNoFeed a → IsFed b → IsFed (a ++ b)
after_more a b plain fed = record { body = a ++ fed.body; plain = both_fed a fed.body plain fed.plain; fed = ap (λ t. a ++ t) fed.fed ∙ sym (append_assoc a fed.body (10 ∷ [])) }

just_feed : IsFed end_of_line
just_feed = record { body = []; plain = tt; fed = refl }

grouped : (a b c : List ℕ) → IsFed (a ++ (b ++ c)) → IsFed ((a ++ b) ++ c)
grouped a b c fed = record { body = fed.body; plain = fed.plain; fed = append_assoc a b c ∙ fed.fed }

rest_fed : (r : JournalRow) → HasRange r → IsFed (rest_of r)
rest_fed (Occupy k d p f start end) range =
    grouped (field p.0) (frame_field f.0) (times_end start end)
    (after_more (field p.0) (frame_field f.0 ++ times_end start end) (field_fed p.0 (omega (arith, range.0))) (after_more (frame_field f.0) (times_end start end) (frame_fed f.0)
    (grouped (time_field start) (time_field end) end_of_line (after_more (time_field start) (time_field end ++ end_of_line) (time_fed start range.2) (after_more (time_field end) end_of_line (time_fed end range.3) just_feed)))))
rest_fed (Deliver k d f end) range =
    grouped (frame_field f.0) (time_field end) end_of_line (after_more (frame_field f.0) (time_field end ++ end_of_line) (frame_fed f.0) (after_more (time_field end) end_of_line (time_fed end range.1) just_feed))
rest_fed (Missed k d f) range =
    after_more (frame_field f.0) (codes " step\n") (frame_fed f.0)
    (record { body = codes " step"; plain = (not 32 (omega arith), (not 115 (omega arith), (not 116 (omega arith), (not 101 (omega arith), (not 112 (omega arith), tt))))); fed = refl })
rest_fed (Sent k d p traffic serial start end) range =
    grouped (field p.0) (parcel_fields traffic serial) (times_end start end)
    (after_more (field p.0) (parcel_fields traffic serial ++ times_end start end) (field_fed p.0 (omega (arith, range.0.port)))
    (after_more (parcel_fields traffic serial) (times_end start end) (both_fed (field traffic) (field serial) (field_fed traffic (omega (arith, range.0.entry))) (field_fed serial (omega (arith, range.0.number))))
    (grouped (time_field start) (time_field end) end_of_line (after_more (time_field start) (time_field end ++ end_of_line) (time_fed start range.1) (after_more (time_field end) end_of_line (time_fed end range.2) just_feed)))))
rest_fed (Refused k d p traffic serial) range =
    grouped (field p.0) (parcel_fields traffic serial) end_of_line (after_more (field p.0) (parcel_fields traffic serial ++ end_of_line) (field_fed p.0 (omega (arith, range.port)))
    (after_more (parcel_fields traffic serial) end_of_line (both_fed (field traffic) (field serial) (field_fed traffic (omega (arith, range.entry))) (field_fed serial (omega (arith, range.number)))) just_feed))
rest_fed (Lost k d p traffic serial) range =
    grouped (field p.0) (parcel_fields traffic serial) end_of_line (after_more (field p.0) (parcel_fields traffic serial ++ end_of_line) (field_fed p.0 (omega (arith, range.port)))
    (after_more (parcel_fields traffic serial) end_of_line (both_fed (field traffic) (field serial) (field_fed traffic (omega (arith, range.entry))) (field_fed serial (omega (arith, range.number)))) just_feed))
rest_fed (Came k d traffic serial) range =
    after_more (parcel_fields traffic serial) end_of_line (both_fed (field traffic) (field serial) (field_fed traffic (omega (arith, range.0))) (field_fed serial (omega (arith, range.1)))) just_feed

letter_above : (r : JournalRow) → 10 < letter_of r
letter_above (Occupy k d p f start end) = omega arith
letter_above (Deliver k d f end) = omega arith
letter_above (Missed k d f) = omega arith
letter_above (Sent k d p traffic serial start end) = omega arith
letter_above (Refused k d p traffic serial) = omega arith
letter_above (Lost k d p traffic serial) = omega arith
letter_above (Came k d traffic serial) = omega arith

pub line_fed : (plant : Plant) (l : Line) → MeetsRules plant → IsRightLine plant l → IsFed (line_text plant l)
line_fed plant (says.Take k d g) rules right =
    after_more (begin_of plant 103 k d.0) (taken_fields g.taken ++ (words_text g.words ++ end_of_line)) (begin_fed plant 103 k d.0 rules (omega arith) (omega (arith, right.0)))
    (after_more (taken_fields g.taken) (words_text g.words ++ end_of_line) (taken_fed g.taken right.2.number) (after_more (words_text g.words) end_of_line (words_fed g.words) just_feed))
line_fed plant (says.Row r) rules right =
    after_more (begin_of plant (letter_of r) (cycle_of r) (device_of r).0) (rest_of r) (begin_fed plant (letter_of r) (cycle_of r) (device_of r).0 rules (letter_above r) (omega (arith, right.cycle))) (rest_fed r right.range)
line_fed plant (says.Image k d words) rules right =
    after_more (begin_of plant 105 k d.0) (words_text words ++ end_of_line) (begin_fed plant 105 k d.0 rules (omega arith) (omega (arith, right.0))) (after_more (words_text words) end_of_line (words_fed words) just_feed)
line_fed plant (says.Turn d number t) rules right =
    after_more (turn_begin plant d.0 number t) (words_text t.input ++ (codes " :" ++ (words_text t.output ++ end_of_line))) (
      not 117 (omega arith),
      (
        not 32 (omega arith),
        both_fed (name_of plant d.0) (field number ++ (field t.found ++ taken_fields t.taken)) (name_fed plant d.0 rules)
            (both_fed (field number) (field t.found ++ taken_fields t.taken) (field_fed number right.1) (both_fed (field t.found) (taken_fields t.taken) (field_fed t.found (omega (arith, right.2.found))) (taken_fed t.taken right.2.number))),
      ),
    )
    (after_more (words_text t.input) (codes " :" ++ (words_text t.output ++ end_of_line)) (words_fed t.input)
    (after_more (codes " :") (words_text t.output ++ end_of_line) (not 32 (omega arith), (not 58 (omega arith), tt)) (after_more (words_text t.output) end_of_line (words_fed t.output) just_feed)))
line_fed plant (says.Last a b c d) rules right =
    after_more (codes "end") (field a ++ (field b ++ (field c ++ (field d ++ end_of_line)))) (not 101 (omega arith), (not 110 (omega arith), (not 100 (omega arith), tt)))
    (after_more (field a) (field b ++ (field c ++ (field d ++ end_of_line))) (field_fed a (omega (arith, right.0))) (after_more (field b) (field c ++ (field d ++ end_of_line)) (field_fed b right.1)
    (after_more (field c) (field d ++ end_of_line) (field_fed c right.2) (after_more (field d) end_of_line (field_fed d right.3) just_feed))))

-- the first line feed of a text
pub feed_cut : (a b x y : List ℕ) → HasNoFeed a → HasNoFeed b → a ++ 10 ∷ x ≡ b ++ 10 ∷ y → (a ≡ b) × (x ≡ y)
feed_cut [] [] x y pa pb same = (refl, cc same)
feed_cut [] (c ∷ b) x y pa pb same = absurd (pb.0 (head same))
  where
    head : 10 ∷ x ≡ c ∷ (b ++ 10 ∷ y) → c ≡ 10
    head same = cc same
feed_cut (c ∷ a) [] x y pa pb same = absurd (pa.0 (head same))
  where
    head : c ∷ (a ++ 10 ∷ x) ≡ 10 ∷ y → c ≡ 10
    head same = cc same
feed_cut (c ∷ a) (d ∷ b) x y pa pb same =
    let rest : a ++ 10 ∷ x ≡ b ++ 10 ∷ y = cc same in
    let first : c ≡ d = cc same in
    let (more, left) = feed_cut a b x y pa.1 pb.1 rest in
    ((λ i. first i ∷ more i), left)

-- a text without one does not hold one
pub no_feed_there : (t a x : List ℕ) → HasNoFeed t → t ≡ a ++ 10 ∷ x → ⊥
no_feed_there [] [] x plain same = absurd (cc)
no_feed_there [] (b ∷ a) x plain same = absurd (cc)
no_feed_there (c ∷ t) [] x plain same = plain.0 (head same)
  where
    head : c ∷ t ≡ 10 ∷ x → c ≡ 10
    head same = cc same
no_feed_there (c ∷ t) (b ∷ a) x plain same =
    let rest : t ≡ a ++ 10 ∷ x = cc same in
    no_feed_there t a x plain.1 rest
