-- What is known where some lines of a text are read, and what follows at its end and at a fault.
use Rattle.std.proofs.Common.{◌≡◌, ◌<◌, ◌≤◌, ◌+◌, ◌-◌, ◌^◌, ◌==◌, ℕ, suc, true, false, List, [], ◌∷◌, ◌++◌, length, Option, Some, Ok, refl, sym, ◌∙◌, ap, subst, arith, append_assoc, append-nil, length-append}
use Rattle.std.specs.List.{AllByRecursion, flat_map}
use Rattle.std.proofs.lemmas.Bool.Decides.{nat_tests}
use Rattle.std.proofs.lemmas.Grind.{flat_map-append}
use Rattle.cycle_rows.specs.declared.rows.JournalRow.{JournalRow}
use Rattle.irt_base.specs.declared.limits.TheConstants.{MAX_CYCLES}
use Rattle.irt_base.specs.declared.plants.Plant.{Plant}
use Rattle.iso_rules.specs.Lockstep.{AppLog, RunRecord}
use Rattle.plant_rules.specs.Meets.{MeetsRules}
use Rattle.record_laws.specs.Lines.{line_text, lines_of, rows_in}
use Rattle.record_laws.specs.declared.line.Line.{Line}
use Rattle.record_laws.specs.declared.line.Line.TheVariants as says
use Rattle.record_laws.proofs.LineCut.{FitLine, first, line_cut, starts}
use Rattle.record_laws.proofs.LinesFit.{All-more}
use Rattle.record_laws.proofs.Through.{lines_text}
use Rattle.record_text.specs.Text.{run_of}
use Rattle.record_text.specs.declared.record.Record.{Record}
use Rattle.record_reader.specs.Ends.{EndsAt}
use Rattle.record_reader.specs.Grow.{logs_in, with_line}
use Rattle.record_reader.specs.Reading.{◌>>=◌, line_read}
use Rattle.record_reader.specs.Right.{IsRightLine}
use Rattle.record_reader.specs.Steps.{next, run, start_of}
use Rattle.record_reader.specs.Whole.{BeginsText, HasNoFeed, IsFaultAfter, IsFirstFault, IsRecordText, feed_lines}
use Rattle.record_reader.specs.declared.place.Place.{Place}
use Rattle.record_reader.specs.declared.place.Place.TheVariants.{Done}
use Rattle.record_reader.proofs.Added.{record_of}
use Rattle.record_reader.proofs.Complete.{complete_run}
use Rattle.record_reader.proofs.Feeds.{line_fed}
use Rattle.record_reader.proofs.Grown.{logs_more, one_more_line}
use Rattle.record_reader.proofs.Held.{Held, held_all, held_lines}
use Rattle.record_reader.proofs.Kept.{held_whole, lines_right}
use Rattle.record_reader.proofs.LineRead.{line-taken}
use Rattle.record_reader.proofs.Runs.{run_append}
use Rattle.record_reader.proofs.Viable.{ending_from}

abbrev pub texts : Plant → List Line → List ℕ
texts plant lines = flat_map (line_text plant) lines

-- Some lines of a text are read, and lead to a place. The next line has this number.
pub record IsReadTo (plant : Plant) (text : List ℕ) (logs : List AppLog) (rows : List JournalRow) (place : Place) (rest : List ℕ) (line : ℕ) : Type 0 where
  pub lines : List Line
  pub right : AllByRecursion (IsRightLine plant) lines
  pub parts : text ≡ flat_map (line_text plant) lines ++ rest
  pub at : line ≡ length lines + 1
  pub ran : run plant [] (start_of plant) lines ≡ Some place
  pub logs_are : logs ≡ logs_in plant lines
  pub rows_are : rows ≡ flat_map rows_in lines

pub read_init : (plant : Plant) (text : List ℕ) (logs : List AppLog) (rows : List JournalRow) (place : Place) → logs ≡ logs_in plant [] → rows ≡ [] → place ≡ start_of plant →
    IsReadTo plant text logs rows place text 1
read_init plant text logs rows place empty none start =
    record { lines = []; right = tt; parts = refl; at = refl; ran = ap (λ p. Some p) (sym start); logs_are = empty; rows_are = none }

-- ---- one line more

run_snoc : (plant : Plant) (lines : List Line) (place after : Place) (said : Line) → run plant [] (start_of plant) lines ≡ Some place → next plant (flat_map rows_in lines) place said ≡ Some after →
    run plant [] (start_of plant) (lines ++ said ∷ []) ≡ Some after
run_snoc plant lines place after said ran step =
    run_append plant [] (start_of plant) place lines (said ∷ []) ran
    ∙ ap (λ (o : Option Place). o >>= λ p. run plant (flat_map rows_in lines ++ rows_in said) p []) step

pub read_more : (plant : Plant) (text : List ℕ) (logs new : List AppLog) (rows later : List JournalRow) (place after : Place) (rest left : List ℕ) (line : ℕ) (said : Line) → MeetsRules plant →
    IsReadTo plant text logs rows place rest line → line_read plant rest ≡ Some (said, left) → next plant rows place said ≡ Some after → new ≡ with_line plant logs said →
    later ≡ rows ++ rows_in said → IsReadTo plant text new later after left (line + 1)
read_more plant text logs new rows later place after rest left line said rules read taken step grown more =
    let (right, text_is) = line-taken plant rest (said, left) taken in
    record {
      lines = read.lines ++ said ∷ [];
      right = All-more (IsRightLine plant) read.lines (said ∷ []) read.right (right, tt);
      parts = read.parts ∙ (ap (λ t. texts plant read.lines ++ t) text_is
          ∙ (sym (append_assoc (texts plant read.lines) (line_text plant said) left) ∙ ap (λ t. t ++ left) (sym (one_more_line (line_text plant) read.lines said))));
      at = omega (arith, read.at, length-append read.lines (said ∷ []));
      ran = run_snoc plant read.lines place after said read.ran (ap (λ rs. next plant rs place said) (sym read.rows_are) ∙ step);
      logs_are = grown ∙ (ap (λ ls. with_line plant ls said) read.logs_are ∙ logs_more plant read.lines said rules.app_devices_differ);
      rows_are = more ∙ (ap (λ rs. rs ++ rows_in said) read.rows_are ∙ sym (one_more_line rows_in read.lines said));
    }

pub more_than_none : (n : ℕ) → (n == 0) ≡ false → 0 < n
more_than_none n test = grind (arith, nat_tests)

pub none_left : (n : ℕ) → (n == 0) ≡ true → n ≡ 0
none_left n test = grind (arith, nat_tests)

some_text : (plant : Plant) (l : Line) → 0 < length (line_text plant l)
some_text plant l =
    let (t, begins) = starts plant l [] in
    omega (arith, ap length (sym (append-nil (line_text plant l)) ∙ begins))

pub read_shorter : (plant : Plant) (rest left : List ℕ) (said : Line) → line_read plant rest ≡ Some (said, left) → length left < length rest
read_shorter plant rest left said taken =
    let (right, text_is) = line-taken plant rest (said, left) taken in
    omega (arith, ap length text_is, length-append (line_text plant said) left, some_text plant said)

lines_short : (plant : Plant) (lines : List Line) → length lines ≤ length (texts plant lines)
lines_short plant [] = omega arith
lines_short plant (l ∷ lines) = omega (arith, lines_short plant lines, length-append (line_text plant l) (texts plant lines), some_text plant l)

pub read_few : (plant : Plant) (text : List ℕ) (logs : List AppLog) (rows : List JournalRow) (place : Place) (rest : List ℕ) (line : ℕ) → IsReadTo plant text logs rows place rest line →
    (length rest == 0) ≡ false → line ≤ length text
read_few plant text logs rows place rest line read some =
    omega (arith, read.at, lines_short plant read.lines, ap length read.parts, length-append (texts plant read.lines) rest, more_than_none (length rest) some)

rows_few : (lines : List Line) → length (flat_map rows_in lines) ≤ length lines
rows_few [] = omega arith
rows_few (l ∷ lines) = omega (arith, one_row l, length-append (rows_in l) (flat_map rows_in lines), rows_few lines)
  where
    one_row : (l : Line) → length (rows_in l) ≤ 1
    one_row (says.Take k d g) = omega arith
    one_row (says.Row r) = omega arith
    one_row (says.Image k d words) = omega arith
    one_row (says.Turn d number t) = omega arith
    one_row (says.Last a b c d) = omega arith

-- ---- the end

-- lines that lead to the end are the text of a whole record
ended_text : (plant : Plant) (cycles : ℕ) (lines : List Line) → MeetsRules plant → AllByRecursion (IsRightLine plant) lines → length (flat_map rows_in lines) < 2 ^ 64 →
    run plant [] (start_of plant) lines ≡ Some (Done cycles) → IsRecordText plant (texts plant lines) cycles (record_of (logs_in plant lines) (flat_map rows_in lines))
ended_text plant cycles lines rules right few ran = go MAX_CYCLES (omega arith) (held_all plant (Done cycles) lines rules ran)
  where
    go : (limit : ℕ) → MAX_CYCLES ≤ limit → Held plant limit (Done cycles) (logs_in plant lines) (flat_map rows_in lines) lines →
        IsRecordText plant (texts plant lines) cycles (record_of (logs_in plant lines) (flat_map rows_in lines))
    go limit far held =
        record {
          whole = held_whole plant limit cycles lines right few held;
          is = ap (texts plant) (sym (held_lines plant limit cycles (logs_in plant lines) (flat_map rows_in lines) lines far held))
              ∙ lines_text plant cycles (record_of (logs_in plant lines) (flat_map rows_in lines));
        }

pub no_bytes : (rest : List ℕ) → length rest ≡ 0 → rest ≡ []
no_bytes [] none = refl
no_bytes (b ∷ rest) none = absurd (omega arith)

pub read_whole : (plant : Plant) (text : List ℕ) (logs : List AppLog) (rows : List JournalRow) (place : Place) (rest : List ℕ) (line : ℕ) (r : Record) → MeetsRules plant → length text < 2 ^ 32 - 1 →
    IsReadTo plant text logs rows place rest line → length rest ≡ 0 → EndsAt place logs rows line (Ok r) → IsRecordText plant text r.cycles (run_of r)
read_whole plant text logs rows place rest line r rules short read none (done, apps, journal) =
    let whole = ended_text plant r.cycles read.lines rules read.right
    (omega (arith, rows_few read.lines, lines_short plant read.lines, ap length read.parts, length-append (texts plant read.lines) rest)) (read.ran ∙ ap (λ p. Some p) done) in
    let text_is : text ≡ texts plant read.lines = read.parts ∙ (ap (λ t. texts plant read.lines ++ t) (no_bytes rest none) ∙ append-nil (texts plant read.lines)) in
    let same : record_of (logs_in plant read.lines) (flat_map rows_in read.lines) ≡ run_of r =
    (λ i. record_of (sym (apps ∙ read.logs_are) i) (sym (journal ∙ read.rows_are) i)) in
    subst (λ t. IsRecordText plant t r.cycles (run_of r)) (sym text_is) (subst (IsRecordText plant (texts plant read.lines) r.cycles) same whole)

-- ---- a record's lines go on as lines that were read

pub right_fit : (plant : Plant) (l : Line) → IsRightLine plant l → FitLine plant (2 ^ 32) l
right_fit plant (says.Take k d g) right = (omega arith, (right.0, right.1, right.2))
right_fit plant (says.Row r) right = (omega arith, right)
right_fit plant (says.Image k d words) right = (omega arith, (right.0, right.1, right.2))
right_fit plant (says.Turn d number t) right = (omega arith, (right.0, right.1, right.2))
right_fit plant (says.Last a b c d) right = (omega arith, right)

pub no_lines : (plant : Plant) (l : Line) (x : List ℕ) → [] ≡ line_text plant l ++ x → ⊥
no_lines plant l x same =
    let (t, begins) = starts plant l x in
    let none : [] ≡ first l ∷ t = same ∙ begins in
    absurd (cc)

pub record GoesOn (plant : Plant) (lines all : List Line) (x : List ℕ) : Type 0 where
  pub tail : List Line
  pub lines_are : all ≡ lines ++ tail
  pub text : flat_map (line_text plant) tail ≡ x
  pub right : AllByRecursion (IsRightLine plant) tail

goes_on : (plant : Plant) (lines all : List Line) (x : List ℕ) → MeetsRules plant → AllByRecursion (IsRightLine plant) lines → AllByRecursion (IsRightLine plant) all →
    texts plant all ≡ texts plant lines ++ x → GoesOn plant lines all x
goes_on plant [] all x rules fl fa same = record { tail = all; lines_are = refl; text = same; right = fa }
goes_on plant (l ∷ lines) [] x rules fl fa same = absurd (no_lines plant l (texts plant lines ++ x) (same ∙ append_assoc (line_text plant l) (texts plant lines) x))
goes_on plant (l ∷ lines) (a ∷ all) x rules fl fa same =
    let (here, rest) = line_cut plant (2 ^ 32) (2 ^ 32) a l (texts plant all) (texts plant lines ++ x) rules (right_fit plant a fa.0) (right_fit plant l fl.0)
    (same ∙ append_assoc (line_text plant l) (texts plant lines) x) in
    let more = goes_on plant lines all x rules fl.1 fa.1 rest in
    record { tail = more.tail; lines_are = (λ i. here i ∷ more.lines_are i); text = more.text; right = more.right }

-- a record whose text begins with lines that were read
pub record RecordOn (plant : Plant) (lines : List Line) (x : List ℕ) (cycles : ℕ) : Type 0 where
  pub tail : List Line
  pub text : flat_map (line_text plant) tail ≡ x
  pub right : AllByRecursion (IsRightLine plant) tail
  pub ran : run plant [] (start_of plant) (lines ++ tail) ≡ Some (Done cycles)

pub record_on : (plant : Plant) (lines : List Line) (x : List ℕ) (cycles : ℕ) (r : RunRecord JournalRow) → MeetsRules plant → AllByRecursion (IsRightLine plant) lines →
    IsRecordText plant (texts plant lines ++ x) cycles r → RecordOn plant lines x cycles
record_on plant lines x cycles r rules right is =
    let on = goes_on plant lines (lines_of plant cycles r) x rules right (lines_right plant cycles r rules is.whole) (lines_text plant cycles r ∙ sym is.is) in
    record { tail = on.tail; text = on.text; right = on.right; ran = ap (run plant [] (start_of plant)) (sym on.lines_are) ∙ complete_run plant cycles r rules is.whole }

-- ---- the lines before a fault

pub record AreFed (plant : Plant) (lines : List Line) : Type 0 where
  pub bodies : List (List ℕ)
  pub plain : AllByRecursion HasNoFeed bodies
  pub fed : feed_lines bodies ≡ flat_map (line_text plant) lines
  pub count : length bodies ≡ length lines

all_fed : (plant : Plant) (lines : List Line) → MeetsRules plant → AllByRecursion (IsRightLine plant) lines → AreFed plant lines
all_fed plant [] rules right = record { bodies = []; plain = tt; fed = refl; count = refl }
all_fed plant (l ∷ lines) rules right =
    let here = line_fed plant l rules right.0 in
    let more = all_fed plant lines rules right.1 in
    record {
      bodies = here.body ∷ more.bodies;
      plain = (here.plain, more.plain);
      fed = (λ i. sym here.fed i ++ more.fed i);
      count = ap (λ n. suc n) more.count;
    }

begins : (plant : Plant) (lines : List Line) (place : Place) → MeetsRules plant → AllByRecursion (IsRightLine plant) lines → length (flat_map rows_in lines) < 2 ^ 64 →
    run plant [] (start_of plant) lines ≡ Some place → BeginsText plant (texts plant lines)
begins plant lines place rules right few ran =
    let held = held_all plant place lines rules ran in
    let end = ending_from plant (flat_map rows_in lines) place rules held.shape.bounds few in
    let same_rows : flat_map rows_in (lines ++ end.lines) ≡ flat_map rows_in lines =
    flat_map-append rows_in lines end.lines ∙ (ap (λ rs. flat_map rows_in lines ++ rs) end.none ∙ append-nil (flat_map rows_in lines)) in
    let whole = ended_text plant end.cycles (lines ++ end.lines) rules (All-more (IsRightLine plant) lines end.lines right end.right) (subst (λ rs. length rs < 2 ^ 64) (sym same_rows) few)
    (run_append plant [] (start_of plant) place lines end.lines ran ∙ end.ran) in
    record {
      cycles = end.cycles;
      r = record_of (logs_in plant (lines ++ end.lines)) (flat_map rows_in (lines ++ end.lines));
      rest = texts plant end.lines;
      text = subst (λ t. IsRecordText plant t end.cycles (record_of (logs_in plant (lines ++ end.lines)) (flat_map rows_in (lines ++ end.lines)))) (flat_map-append (line_text plant) lines end.lines) whole;
    }

pub at_fault : (plant : Plant) (text : List ℕ) (logs : List AppLog) (rows : List JournalRow) (place : Place) (rest : List ℕ) (line : ℕ) → MeetsRules plant → length text < 2 ^ 32 - 1 →
    (read : IsReadTo plant text logs rows place rest line) → IsFaultAfter plant (flat_map (line_text plant) read.lines) rest → IsFirstFault plant text line
at_fault plant text logs rows place rest line rules short read fault =
    let fed = all_fed plant read.lines rules read.right in
    let few : length (flat_map rows_in read.lines) < 2 ^ 64 =
    omega (arith, rows_few read.lines, lines_short plant read.lines, ap length read.parts, length-append (texts plant read.lines) rest) in
    record {
      lines = fed.bodies;
      rest = rest;
      plain = fed.plain;
      parts = read.parts ∙ ap (λ t. t ++ rest) (sym fed.fed);
      at = omega (arith, read.at, fed.count);
      begins = subst (BeginsText plant) (sym fed.fed) (begins plant read.lines place rules read.right few read.ran);
      fault = subst (λ t. IsFaultAfter plant t rest) (sym fed.fed) fault;
    }
