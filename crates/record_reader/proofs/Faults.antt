-- The three faults of a text, and what is answered.
use Rattle.std.proofs.Common.{◌≡◌, ◌≢◌, ◌<◌, ◌-◌, ◌^◌, ◌==◌, ℕ, true, false, List, [], ◌∷◌, ◌++◌, length, Option, Some, None, Result, Ok, Err, refl, sym, ◌∙◌, ap, subst, arith, append_assoc, append-nil, inl, inr}
use Rattle.std.specs.Prelude.{◌⊎◌, MatchResult, IfOk, IfErr}
use Rattle.std.specs.List.{AllByRecursion, flat_map}
use Rattle.std.proofs.lemmas.Bool.{cases_Bool}
use Rattle.std.proofs.lemmas.Bool.Decides.{nat_tests}
use Rattle.std.proofs.lemmas.Option.{none-some, same_Some}
use Rattle.cycle_rows.specs.declared.rows.JournalRow.{JournalRow}
use Rattle.irt_base.specs.declared.plants.Plant.{Plant}
use Rattle.iso_rules.specs.Lockstep.{AppLog, RunRecord}
use Rattle.plant_rules.specs.Meets.{MeetsRules}
use Rattle.record_laws.specs.Lines.{line_text, rows_in}
use Rattle.record_laws.specs.declared.line.Line.{Line}
use Rattle.record_laws.proofs.Found.{record_found}
use Rattle.record_laws.proofs.LineCut.{line_cut}
use Rattle.record_text.specs.Text.{run_of}
use Rattle.record_text.specs.declared.record.Record.{Record}
use Rattle.record_reader.specs.Ends.{EndsAt, GivesPlace, IsUnread}
use Rattle.record_reader.specs.Reading.{◌>>=◌, line_read}
use Rattle.record_reader.specs.Right.{IsRightLine}
use Rattle.record_reader.specs.Steps.{next, run, start_of}
use Rattle.record_reader.specs.Whole.{HasNoFeed, IsFirstFault, IsRecordText, IsRefusal, feed_lines}
use Rattle.record_reader.specs.declared.fault.RecordFault.{RecordFault}
use Rattle.record_reader.specs.declared.fault.RecordFault.TheVariants as faults
use Rattle.record_reader.specs.declared.place.Place.{Place}
use Rattle.record_reader.specs.declared.place.Place.TheVariants.{Done}
use Rattle.record_reader.proofs.Feeds.{feed_cut, line_fed, no_feed_there}
use Rattle.record_reader.proofs.LineRead.{line-again, line-taken}
use Rattle.record_reader.proofs.Runs.{run_append}
use Rattle.record_reader.proofs.Reader.{IsReadTo, at_fault, more_than_none, no_bytes, no_lines, none_left, read_whole, record_on, right_fit, texts}

-- ---- the three faults

-- a text has a line feed, or has none
split_feed : (t : List ℕ) → HasNoFeed t ⊎ ((a : List ℕ) × (x : List ℕ) × HasNoFeed a × (t ≡ a ++ 10 ∷ x))
split_feed [] = inl tt
split_feed (b ∷ t) =
    elim (cases_Bool (b == 10)) [
      | inl feed ↦ inr ([], t, tt, ap (λ c. c ∷ t) (equal b 10 feed))
      | inr other ↦
          elim (split_feed t) [
            | inl none ↦ inl (differ b 10 other, none)
            | inr (a, x, plain, is) ↦ inr (b ∷ a, x, (differ b 10 other, plain), ap (λ t. b ∷ t) is)
          ]
    ]
  where
    equal : (m n : ℕ) → (m == n) ≡ true → m ≡ n
    equal m n test = grind (arith, nat_tests)

    differ : (m n : ℕ) → (m == n) ≡ false → m ≢ n
    differ m n test = grind (arith, nat_tests)

-- a text that goes on behind a line
behind_line : (front a rest : List ℕ) → (front ++ (a ++ 10 ∷ [])) ++ rest ≡ front ++ (a ++ 10 ∷ rest)
behind_line front a rest = append_assoc front (a ++ 10 ∷ []) rest ∙ ap (λ t. front ++ t) (append_assoc a (10 ∷ []) rest)

no_start : (a x : List ℕ) → [] ≡ a ++ 10 ∷ x → ⊥
no_start [] x same = absurd (cc)
no_start (b ∷ a) x same = absurd (cc)

form_on : (plant : Plant) (rest a x y : List ℕ) (tail : List Line) → MeetsRules plant → line_read plant rest ≡ None → HasNoFeed a → rest ≡ a ++ 10 ∷ x → AllByRecursion (IsRightLine plant) tail →
    texts plant tail ≡ a ++ 10 ∷ y → ⊥
form_on plant rest a x y [] rules none plain is right text = no_start a y text
form_on plant rest a x y (l ∷ tail) rules none plain is right text =
    let fed = line_fed plant l rules right.0 in
    let (same, left) = feed_cut fed.body a (texts plant tail) y fed.plain plain
    (sym (append_assoc fed.body (10 ∷ []) (texts plant tail)) ∙ (ap (λ t. t ++ texts plant tail) (sym fed.fed) ∙ text)) in
    let again : rest ≡ line_text plant l ++ x =
    is ∙ (ap (λ b. b ++ 10 ∷ x) (sym same) ∙ (sym (append_assoc fed.body (10 ∷ []) x) ∙ ap (λ t. t ++ x) (sym fed.fed))) in
    none-some (l, x) (sym none ∙ (ap (line_read plant) again ∙ line-again plant l x rules right.0))

piece_on : (plant : Plant) (rest : List ℕ) (tail : List Line) → MeetsRules plant → HasNoFeed rest → 0 < length rest → AllByRecursion (IsRightLine plant) tail → texts plant tail ≡ rest → ⊥
piece_on plant rest [] rules plain some right text = omega (arith, ap length text)
piece_on plant rest (l ∷ tail) rules plain some right text =
    let fed = line_fed plant l rules right.0 in
    no_feed_there rest fed.body (texts plant tail) plain (sym text ∙ (ap (λ t. t ++ texts plant tail) fed.fed ∙ append_assoc fed.body (10 ∷ []) (texts plant tail)))

pub form_fault : (plant : Plant) (text : List ℕ) (logs : List AppLog) (rows : List JournalRow) (place : Place) (rest : List ℕ) (line : ℕ) → MeetsRules plant → length text < 2 ^ 32 - 1 →
    IsReadTo plant text logs rows place rest line → 0 < length rest → line_read plant rest ≡ None → IsFirstFault plant text line
form_fault plant text logs rows place rest line rules short read some none =
    at_fault plant text logs rows place rest line rules short read
    (elim (split_feed rest) [
      | inl plain ↦
          inr (
            plain,
            λ cycles r is.
                let on = record_on plant read.lines rest cycles r rules read.right is in
                piece_on plant rest on.tail rules plain some on.right on.text,
          )
      | inr (a, x, plain, is) ↦
          inl (
            a,
            x,
            plain,
            is,
            λ b.
                let on = record_on plant read.lines (a ++ 10 ∷ b.rest) b.cycles b.r rules read.right
                (subst (λ t. IsRecordText plant t b.cycles b.r) (behind_line (texts plant read.lines) a b.rest) b.text) in
                form_on plant rest a x b.rest on.tail rules none plain is on.right on.text,
          )
    ])

step_on : (plant : Plant) (lines : List Line) (place : Place) (said : Line) (y : List ℕ) (cycles : ℕ) (tail : List Line) → MeetsRules plant → IsRightLine plant said →
    run plant [] (start_of plant) lines ≡ Some place → next plant (flat_map rows_in lines) place said ≡ None → AllByRecursion (IsRightLine plant) tail → texts plant tail ≡ line_text plant said ++ y →
    run plant [] (start_of plant) (lines ++ tail) ≡ Some (Done cycles) → ⊥
step_on plant lines place said y cycles [] rules right ran stop fits text done = no_lines plant said y text
step_on plant lines place said y cycles (l ∷ tail) rules right ran stop fits text done =
    let (same, left) = line_cut plant (2 ^ 32) (2 ^ 32) l said (texts plant tail) y rules (right_fit plant l fits.0) (right_fit plant said right) text in
    let none : run plant (flat_map rows_in lines) place (l ∷ tail) ≡ None =
    ap (λ m. run plant (flat_map rows_in lines) place (m ∷ tail)) same ∙ ap (λ (o : Option Place). o >>= λ p. run plant (flat_map rows_in lines ++ rows_in said) p tail) stop in
    none-some (Done cycles) (sym none ∙ (sym (run_append plant [] (start_of plant) place lines (l ∷ tail) ran) ∙ done))

pub step_fault : (plant : Plant) (text : List ℕ) (logs : List AppLog) (rows : List JournalRow) (place : Place) (rest left : List ℕ) (line : ℕ) (said : Line) → MeetsRules plant → length text < 2 ^ 32 - 1 →
    IsReadTo plant text logs rows place rest line → line_read plant rest ≡ Some (said, left) → next plant rows place said ≡ None → IsFirstFault plant text line
step_fault plant text logs rows place rest left line said rules short read taken stop =
    let (right, text_is) = line-taken plant rest (said, left) taken in
    let fed = line_fed plant said rules right in
    at_fault plant text logs rows place rest line rules short read
    (inl (
      fed.body,
      left,
      fed.plain,
      text_is ∙ (ap (λ t. t ++ left) fed.fed ∙ append_assoc fed.body (10 ∷ []) left),
      λ b.
          let on = record_on plant read.lines (fed.body ++ 10 ∷ b.rest) b.cycles b.r rules read.right
          (subst (λ t. IsRecordText plant t b.cycles b.r) (behind_line (texts plant read.lines) fed.body b.rest) b.text) in
          step_on plant read.lines place said b.rest b.cycles on.tail rules right read.ran (ap (λ rs. next plant rs place said) (sym read.rows_are) ∙ stop) on.right
          (on.text ∙ (sym (append_assoc fed.body (10 ∷ []) b.rest) ∙ ap (λ t. t ++ b.rest) (sym fed.fed))) on.ran,
    ))

end_on : (plant : Plant) (lines : List Line) (place : Place) (cycles : ℕ) (tail : List Line) → run plant [] (start_of plant) lines ≡ Some place → ((cycles : ℕ) → ¬ (place ≡ Done cycles)) →
    texts plant tail ≡ [] → run plant [] (start_of plant) (lines ++ tail) ≡ Some (Done cycles) → ⊥
end_on plant lines place cycles [] ran open_ text done =
    open_ cycles (same_Some place (Done cycles) (sym ran ∙ (ap (run plant [] (start_of plant)) (sym (append-nil lines)) ∙ done)))
end_on plant lines place cycles (l ∷ tail) ran open_ text done = no_lines plant l (texts plant tail) (sym text)

pub end_fault : (plant : Plant) (text : List ℕ) (logs : List AppLog) (rows : List JournalRow) (place : Place) (rest : List ℕ) (line : ℕ) → MeetsRules plant → length text < 2 ^ 32 - 1 →
    IsReadTo plant text logs rows place rest line → length rest ≡ 0 → ((cycles : ℕ) → ¬ (place ≡ Done cycles)) → IsFirstFault plant text line
end_fault plant text logs rows place rest line rules short read none open_ =
    at_fault plant text logs rows place rest line rules short read
    (inr (
      subst HasNoFeed (sym (no_bytes rest none)) tt,
      λ cycles r is.
          let on = record_on plant read.lines rest cycles r rules read.right is in
          end_on plant read.lines place cycles on.tail read.ran open_ (on.text ∙ no_bytes rest none) on.ran,
    ))

-- ---- the whole reader

-- a text that has a first fault is no record's
not_both : (plant : Plant) (text : List ℕ) (line cycles : ℕ) (r : RunRecord JournalRow) → IsFirstFault plant text line → IsRecordText plant text cycles r → ⊥
not_both plant text line cycles r fault is =
    elim fault.fault [
      | inl (a, x, plain, rest_is, never) ↦
          never (record {
            cycles = cycles;
            r = r;
            rest = x;
            text = subst (λ t. IsRecordText plant t cycles r) (fault.parts ∙ (ap (λ t. feed_lines fault.lines ++ t) rest_is ∙ sym (behind_line (feed_lines fault.lines) a x))) is;
          })
      | inr (plain, never) ↦ never cycles r (subst (λ t. IsRecordText plant t cycles r) fault.parts is)
    ]

pub only_answer : (plant : Plant) (text : List ℕ) (result : Result Record RecordFault) → MeetsRules plant → IfOk result (λ r. IsRecordText plant text r.cycles (run_of r)) → IfErr result (IsRefusal plant text) →
    (cycles : ℕ) (r : RunRecord JournalRow) → IsRecordText plant text cycles r → MatchResult result (λ found. (found.cycles ≡ cycles) × (run_of found ≡ r)) (λ e. e ≡ faults.NoMemory)
only_answer plant text (Ok found) rules whole refused cycles r is = record_found plant found.cycles cycles (run_of found) r rules whole.whole.fits is.whole.fits (sym whole.is ∙ is.is)
only_answer plant text (Err faults.NoMemory) rules whole refused cycles r is = refl
only_answer plant text (Err (faults.Line line)) rules whole refused cycles r is = absurd (not_both plant text line cycles r refused is)

-- ---- what is answered

pub said_fault : (plant : Plant) (text : List ℕ) (logs : List AppLog) (rows : List JournalRow) (place : Place) (rest : List ℕ) (line : ℕ) (result : Result Record RecordFault)
    (e f : RecordFault) → MeetsRules plant → length text < 2 ^ 32 - 1 → IsReadTo plant text logs rows place rest line → (length rest == 0) ≡ false → result ≡ Err e → e ≡ f →
    IsUnread line f (line_read plant rest) → IfErr result (IsRefusal plant text)
said_fault plant text logs rows place rest line result e faults.NoMemory rules short read some is same gives = rw (is, same) tt
said_fault plant text logs rows place rest line result e (faults.Line n) rules short read some is same (own, none) =
    rw (is, same, own) (form_fault plant text logs rows place rest line rules short read (more_than_none (length rest) some) none)

pub place_fault : (plant : Plant) (text : List ℕ) (logs : List AppLog) (rows : List JournalRow) (place : Place) (rest left : List ℕ) (line : ℕ) (said : Line) (result : Result Record RecordFault)
    (e f : RecordFault) (seen : List JournalRow) → MeetsRules plant → length text < 2 ^ 32 - 1 → IsReadTo plant text logs rows place rest line → line_read plant rest ≡ Some (said, left) →
    result ≡ Err e → e ≡ f → seen ≡ rows → GivesPlace line (Err f) (next plant seen place said) → IfErr result (IsRefusal plant text)
place_fault plant text logs rows place rest left line said result e f seen rules short read taken is same shown (own, none) =
    rw (is, same, own) (step_fault plant text logs rows place rest left line said rules short read taken (ap (λ rs. next plant rs place said) (sym shown) ∙ none))

pub found_end : (plant : Plant) (text : List ℕ) (logs : List AppLog) (rows : List JournalRow) (place : Place) (rest : List ℕ) (line : ℕ) (result : Result Record RecordFault) → MeetsRules plant →
    length text < 2 ^ 32 - 1 → IsReadTo plant text logs rows place rest line → (length rest == 0) ≡ true → EndsAt place logs rows line result →
    IfOk result (λ r. IsRecordText plant text r.cycles (run_of r))
found_end plant text logs rows place rest line (Ok r) rules short read none ends = read_whole plant text logs rows place rest line r rules short read (none_left (length rest) none) ends
found_end plant text logs rows place rest line (Err e) rules short read none ends = tt

pub refused_end : (plant : Plant) (text : List ℕ) (logs : List AppLog) (rows : List JournalRow) (place : Place) (rest : List ℕ) (line : ℕ) (result : Result Record RecordFault) → MeetsRules plant →
    length text < 2 ^ 32 - 1 → IsReadTo plant text logs rows place rest line → (length rest == 0) ≡ true → EndsAt place logs rows line result → IfErr result (IsRefusal plant text)
refused_end plant text logs rows place rest line (Ok r) rules short read none ends = tt
refused_end plant text logs rows place rest line (Err e) rules short read none (own, open_) =
    subst (IsRefusal plant text) (sym own) (end_fault plant text logs rows place rest line rules short read (none_left (length rest) none) open_)
