-- Lines that lead from the start to a place are those of the record that they say.
use Rattle.std.proofs.Common.{◌≡◌, ◌<◌, ◌≤◌, ◌+◌, ◌^◌, ◌==◌, ◌&&◌, ℕ, zero, suc, Bool, true, false, List, [], ◌∷◌, ◌++◌, length, map, nat_lt, nat_le, Option, Some, None, refl, sym, ◌∙◌, ap, subst, arith, append_assoc, append-nil}
use Rattle.std.specs.Prelude.{if◌then◌else◌, slice_get}
use Rattle.std.specs.List.{flat_map}
use Rattle.std.proofs.lemmas.Bool.{and_parts}
use Rattle.std.proofs.lemmas.Bool.Decides.{nat_tests}
use Rattle.std.proofs.lemmas.Option.{none-some, same_Some}
use Rattle.cycle_rows.specs.Rows.{cycle_of}
use Rattle.cycle_rows.specs.declared.rows.JournalRow.{JournalRow}
use Rattle.irt_base.specs.declared.limits.TheConstants.{MAX_CYCLES}
use Rattle.irt_base.specs.declared.numbers.DevId.{DevId}
use Rattle.irt_base.specs.declared.plants.App.{App}
use Rattle.irt_base.specs.declared.plants.Plant.{Plant}
use Rattle.iso_rules.specs.Lockstep.{AppLog}
use Rattle.plant_rules.specs.Meets.{MeetsRules}
use Rattle.record_laws.specs.Lines.{last_of, lines_of, log_in, of_all_turns, of_cycle, of_cycles, rows_in}
use Rattle.record_laws.specs.declared.line.Line.{Line}
use Rattle.record_laws.specs.declared.line.Line.TheVariants as says
use Rattle.record_text.specs.Text.{lettered}
use Rattle.record_reader.specs.Grow.{logs_in, with_line}
use Rattle.record_reader.specs.Steps.{after_images, after_takes, are_counts, image_at, is_app, is_row_at, is_turn_at, next, row_at, run, start_of, take_at, turn_at}
use Rattle.iso_rules.specs.Image.{app_on}
use Rattle.record_reader.specs.Order.{follows}
use Rattle.record_reader.specs.declared.place.Place.{Place}
use Rattle.record_reader.specs.declared.place.Place.TheVariants.{Takes, Rows, Images, Turns, Done}
use Rattle.record_reader.proofs.Values.{bind_some, when_some}
use Rattle.record_reader.proofs.Grown.{logs_more, one_more_line}
use Rattle.record_reader.proofs.Growth.{range_none}
use Rattle.record_reader.proofs.Added.{all_lines, cycle_none, images_count, no_more, one, record_of, takes_count, turns_count, turns_none}
use Rattle.record_reader.proofs.Shape.{Added, HasTurns, Shape, TakesRead, before_more, below, each_weaker, equal, image_step, take_step, takes_shape}
use Rattle.record_reader.proofs.TurnShape.{no_log_there, row_step, turn_step}

-- the line that ends a whole record
abbrev pub ending : Place → List JournalRow → List Line
ending (Takes k n) rows = []
ending (Rows k) rows = []
ending (Images k n) rows = []
ending (Turns cycles n number) rows = []
ending (Done cycles) rows = last_of cycles rows ∷ []

pub record Held (plant : Plant) (limit : ℕ) (place : Place) (apps : List AppLog) (rows : List JournalRow) (lines : List Line) : Type 0 where
  pub shape : Shape plant place apps rows
  pub is : lines ≡ all_lines plant limit apps rows ++ ending place rows

-- ---- places that do not end

after_takes-open : (apps k n : ℕ) (rows : List JournalRow) → ending (after_takes apps k n) rows ≡ []
after_takes-open apps k n rows = from (n == apps)
  where
    from : (b : Bool) → ending (if b then Rows k else Takes k n) rows ≡ []
    from true = refl
    from false = refl

after_images-open : (apps k n : ℕ) (rows : List JournalRow) → ending (after_images apps k n) rows ≡ []
after_images-open apps k n rows = from (n == apps)
  where
    from : (b : Bool) → ending (if b then Turns (k + 1) 0 0 else Images k n) rows ≡ []
    from true = refl
    from false = refl

take_at-open : (plant : Plant) (k n cycle : ℕ) (device : DevId) (place : Place) (rows : List JournalRow) → take_at plant k n cycle device ≡ Some place → ending place rows ≡ []
take_at-open plant k n cycle device place rows is =
    let (test, same) = when_some ((cycle == k) && is_app plant n device) (after_takes (length plant.apps) k (n + 1)) place is in
    ap (λ p. ending p rows) (sym same) ∙ after_takes-open (length plant.apps) k (n + 1) rows

image_at-open : (plant : Plant) (k n cycle : ℕ) (device : DevId) (place : Place) (rows : List JournalRow) → image_at plant k n cycle device ≡ Some place → ending place rows ≡ []
image_at-open plant k n cycle device place rows is =
    let (test, same) = when_some (nat_lt k MAX_CYCLES && ((cycle == k) && is_app plant n device)) (after_images (length plant.apps) k (n + 1)) place is in
    ap (λ p. ending p rows) (sym same) ∙ after_images-open (length plant.apps) k (n + 1) rows

row_at-open : (plant : Plant) (before : List JournalRow) (k : ℕ) (r : JournalRow) (place : Place) (rows : List JournalRow) → row_at plant before k r ≡ Some place → ending place rows ≡ []
row_at-open plant before k r place rows is =
    let (test, same) = when_some (is_row_at plant k (cycle_of r) && follows before r) (Rows (cycle_of r)) place is in
    ap (λ p. ending p rows) (sym same)

turn_at-open : (plant : Plant) (cycles n number : ℕ) (device : DevId) (turn : ℕ) (place : Place) (rows : List JournalRow) → turn_at plant cycles n number device turn ≡ Some place → ending place rows ≡ []
turn_at-open plant cycles n number device turn place rows is =
    let (j, at, more) = bind_some (app_on plant device.0) (λ app. if is_turn_at n number app turn then Some (Turns cycles app (turn + 1)) else None) place is in
    let (test, same) = when_some (is_turn_at n number j turn) (Turns cycles j (turn + 1)) place more in
    ap (λ p. ending p rows) (sym same)

-- ---- one line more

held_next : (plant : Plant) (limit : ℕ) (place after : Place) (apps new : List AppLog) (rows later : List JournalRow) (lines : List Line) (line : Line) →
    Added plant limit apps new rows later line after → ending place rows ≡ [] → ending after later ≡ [] → lines ≡ all_lines plant limit apps rows ++ ending place rows →
    Held plant limit after new later (lines ++ line ∷ [])
held_next plant limit place after apps new rows later lines line added open_ still is =
    record {
      shape = added.shape;
      is = ap (λ ls. ls ++ line ∷ []) (is ∙ (ap (λ e. all_lines plant limit apps rows ++ e) open_ ∙ append-nil (all_lines plant limit apps rows)))
          ∙ (sym added.lines ∙ (sym (append-nil (all_lines plant limit new later)) ∙ ap (λ e. all_lines plant limit new later ++ e) (sym still)));
    }

same_rows : (plant : Plant) (limit : ℕ) (place : Place) (apps : List AppLog) (rows : List JournalRow) (lines : List Line) → Held plant limit place apps rows lines → Held plant limit place apps (rows ++ []) lines
same_rows plant limit place apps rows lines held = subst (λ rs. Held plant limit place apps rs lines) (sym (append-nil rows)) held

-- the line that ends a record, with its numbers
last_said : (rows : List JournalRow) (cycles last occupied delivered dropped : ℕ) → last ≡ cycles → are_counts rows occupied delivered dropped ≡ true →
    says.Last last occupied delivered dropped ≡ last_of cycles rows
last_said rows cycles last occupied delivered dropped same test =
    let (o, more) = and_parts (lettered 111 rows == occupied) ((lettered 100 rows == delivered) && (lettered 120 rows == dropped)) test in
    let (d, x) = and_parts (lettered 100 rows == delivered) (lettered 120 rows == dropped) more in
    (λ i. says.Last (same i) (sym (equal (lettered 111 rows) occupied o) i) (sym (equal (lettered 100 rows) delivered d) i) (sym (equal (lettered 120 rows) dropped x) i))

held_end : (plant : Plant) (limit cycles : ℕ) (place : Place) (apps : List AppLog) (rows : List JournalRow) (lines : List Line) (line : Line) → Shape plant (Done cycles) apps rows →
    ending place rows ≡ [] → lines ≡ all_lines plant limit apps rows ++ ending place rows → line ≡ last_of cycles rows → Held plant limit (Done cycles) apps (rows ++ []) (lines ++ line ∷ [])
held_end plant limit cycles place apps rows lines line shape open_ is said =
    same_rows plant limit (Done cycles) apps rows (lines ++ line ∷ [])
    (record { shape = shape; is = (λ i. (is ∙ (ap (λ e. all_lines plant limit apps rows ++ e) open_ ∙ append-nil (all_lines plant limit apps rows))) i ++ said i ∷ []) })

pub held_step : (plant : Plant) (limit : ℕ) (place after : Place) (apps : List AppLog) (rows : List JournalRow) (lines : List Line) (line : Line) → MeetsRules plant → MAX_CYCLES ≤ limit →
    Held plant limit place apps rows lines → next plant rows place line ≡ Some after → Held plant limit after (with_line plant apps line) (rows ++ rows_in line) (lines ++ line ∷ [])
held_step plant limit (Takes k n) after apps rows lines (says.Take cycle device g) rules far held is =
    same_rows plant limit after (with_line plant apps (says.Take cycle device g)) rows (lines ++ says.Take cycle device g ∷ [])
    (held_next plant limit (Takes k n) after apps (with_line plant apps (says.Take cycle device g)) rows rows lines (says.Take cycle device g)
    (take_step plant limit k n cycle device g apps rows after rules far held.shape.count held.shape.takes held.shape.images held.shape.turns held.shape.before held.shape.order held.shape.bounds.0 is)
    refl (take_at-open plant k n cycle device after rows is) held.is)
held_step plant limit (Rows k) after apps rows lines (says.Row r) rules far held is =
    held_next plant limit (Rows k) after apps apps rows (rows ++ r ∷ []) lines (says.Row r)
    (row_step plant limit k r apps rows after far held.shape is) refl (row_at-open plant rows k r after (rows ++ r ∷ []) is) held.is
held_step plant limit (Rows k) after apps rows lines (says.Image cycle device words) rules far held is =
    same_rows plant limit after (with_line plant apps (says.Image cycle device words)) rows (lines ++ says.Image cycle device words ∷ [])
    (held_next plant limit (Rows k) after apps (with_line plant apps (says.Image cycle device words)) rows rows lines (says.Image cycle device words)
    (image_step plant limit k 0 cycle device words apps rows after rules far held.shape.count held.shape.takes
    (each_weaker images_count (TakesRead k 0) (λ m c. c ≡ k) apps held.shape.images (λ m c inside was. ((λ under. absurd (omega (arith, under))), (λ past. was))))
    held.shape.turns held.shape.before held.shape.order is)
    refl (image_at-open plant k 0 cycle device after rows is) held.is)
held_step plant limit (Rows k) after apps rows lines (says.Last cycles occupied delivered dropped) rules far held is =
    let (tests, same) = when_some ((length plant.apps == 0) && (nat_lt k cycles && (nat_le cycles MAX_CYCLES && are_counts rows occupied delivered dropped))) (Done cycles) after is in
    let (none, more) = and_parts (length plant.apps == 0) (nat_lt k cycles && (nat_le cycles MAX_CYCLES && are_counts rows occupied delivered dropped)) tests in
    let (later, rest) = and_parts (nat_lt k cycles) (nat_le cycles MAX_CYCLES && are_counts rows occupied delivered dropped) more in
    let (few, counts) = and_parts (nat_le cycles MAX_CYCLES) (are_counts rows occupied delivered dropped) rest in
    let early : k < cycles = below k cycles later in
    let nobody = λ (m : ℕ) (l : AppLog) (at : slice_get apps m ≡ Some l). no_log_there plant apps m l held.shape.count none at in
    subst (λ p. Held plant limit p apps (rows ++ []) (lines ++ says.Last cycles occupied delivered dropped ∷ [])) same
    (held_end plant limit cycles (Rows k) apps rows lines (says.Last cycles occupied delivered dropped)
    (record {
      count = held.shape.count;
      takes = λ m l at. absurd (nobody m l at);
      images = λ m l at. absurd (nobody m l at);
      turns = λ m l at. absurd (nobody m l at);
      before = before_more (k + 1) cycles rows (omega arith) held.shape.before;
      order = held.shape.order;
      bounds = (omega arith, up_to cycles MAX_CYCLES few);
    })
    refl held.is (last_said rows cycles cycles occupied delivered dropped refl counts))
  where
    up_to : (m n : ℕ) → nat_le m n ≡ true → m ≤ n
    up_to m n test = grind (arith, nat_tests)
held_step plant limit (Images k n) after apps rows lines (says.Image cycle device words) rules far held is =
    same_rows plant limit after (with_line plant apps (says.Image cycle device words)) rows (lines ++ says.Image cycle device words ∷ [])
    (held_next plant limit (Images k n) after apps (with_line plant apps (says.Image cycle device words)) rows rows lines (says.Image cycle device words)
    (image_step plant limit k n cycle device words apps rows after rules far held.shape.count held.shape.takes held.shape.images held.shape.turns held.shape.before held.shape.order is)
    refl (image_at-open plant k n cycle device after rows is) held.is)
held_step plant limit (Turns cycles n number) after apps rows lines (says.Take cycle device g) rules far held is =
    let (tests, found) = passed ((n == 0) && ((number == 0) && nat_lt cycles MAX_CYCLES)) (take_at plant cycles 0 cycle device) after is in
    let (first, more) = and_parts (n == 0) ((number == 0) && nat_lt cycles MAX_CYCLES) tests in
    let (none, few) = and_parts (number == 0) (nat_lt cycles MAX_CYCLES) more in
    same_rows plant limit after (with_line plant apps (says.Take cycle device g)) rows (lines ++ says.Take cycle device g ∷ [])
    (held_next plant limit (Turns cycles n number) after apps (with_line plant apps (says.Take cycle device g)) rows rows lines (says.Take cycle device g)
    (take_step plant limit cycles 0 cycle device g apps rows after rules far held.shape.count
    (each_weaker takes_count (TakesRead cycles 0) (λ m c. c ≡ cycles) apps held.shape.takes (λ m c inside was. ((λ under. absurd (omega (arith, under))), (λ past. was))))
    held.shape.images (each_weaker turns_count (λ m c. c ≡ 0) (HasTurns (Turns cycles n number)) apps held.shape.turns (λ m c inside was. no_turns m c (equal n 0 first) (equal number 0 none) was))
    held.shape.before held.shape.order (below cycles MAX_CYCLES few) found)
    refl (take_at-open plant cycles 0 cycle device after rows found) held.is)
  where
    passed : (b : Bool) (o : Option Place) (p : Place) → (if b then o else None) ≡ Some p → (b ≡ true) × (o ≡ Some p)
    passed true o p is = (refl, is)
    passed false o p is = absurd (none-some p is)

    no_turns : (m c : ℕ) → n ≡ 0 → number ≡ 0 → HasTurns (Turns cycles n number) m c → c ≡ 0
    no_turns zero c first none was = omega (arith, was.0 (sym first), none)
    no_turns (suc m) c first none was = was.1 (omega arith)
held_step plant limit (Turns cycles n number) after apps rows lines (says.Turn device turn t) rules far held is =
    same_rows plant limit after (with_line plant apps (says.Turn device turn t)) rows (lines ++ says.Turn device turn t ∷ [])
    (held_next plant limit (Turns cycles n number) after apps (with_line plant apps (says.Turn device turn t)) rows rows lines (says.Turn device turn t)
    (turn_step plant limit cycles n number turn device t apps rows after rules held.shape is) refl (turn_at-open plant cycles n number device turn after rows is) held.is)
held_step plant limit (Turns cycles n number) after apps rows lines (says.Last last occupied delivered dropped) rules far held is =
    let (tests, same) = when_some ((last == cycles) && are_counts rows occupied delivered dropped) (Done last) after is in
    let (now, counts) = and_parts (last == cycles) (are_counts rows occupied delivered dropped) tests in
    let own : last ≡ cycles = equal last cycles now in
    subst (λ p. Held plant limit p apps (rows ++ []) (lines ++ says.Last last occupied delivered dropped ∷ [])) same
    (subst (λ c. Held plant limit (Done c) apps (rows ++ []) (lines ++ says.Last last occupied delivered dropped ∷ [])) (sym own)
    (held_end plant limit cycles (Turns cycles n number) apps rows lines (says.Last last occupied delivered dropped)
    (record {
      count = held.shape.count;
      takes = held.shape.takes;
      images = held.shape.images;
      turns = each_weaker turns_count (λ m c. c < 2 ^ 64) (HasTurns (Turns cycles n number)) apps held.shape.turns (λ m c inside was. was.2);
      before = held.shape.before;
      order = held.shape.order;
      bounds = (held.shape.bounds.0, held.shape.bounds.1);
    })
    refl held.is (last_said rows cycles last occupied delivered dropped own counts)))
held_step plant limit place after apps rows lines line rules far held is = absurd (none-some after is)

-- ---- all lines

pub held_run : (plant : Plant) (limit : ℕ) (place after : Place) (first more : List Line) → MeetsRules plant → MAX_CYCLES ≤ limit →
    Held plant limit place (logs_in plant first) (flat_map rows_in first) first → run plant (flat_map rows_in first) place more ≡ Some after →
    Held plant limit after (logs_in plant (first ++ more)) (flat_map rows_in (first ++ more)) (first ++ more)
held_run plant limit place after first [] rules far held is =
    subst (λ ls. Held plant limit after (logs_in plant ls) (flat_map rows_in ls) ls) (sym (append-nil first))
    (subst (λ p. Held plant limit p (logs_in plant first) (flat_map rows_in first) first) (same_Some place after is) held)
held_run plant limit place after first (line ∷ more) rules far held is =
    let (there, step, rest) = bind_some (next plant (flat_map rows_in first) place line) (λ p. run plant (flat_map rows_in first ++ rows_in line) p more) after is in
    let now = held_step plant limit place there (logs_in plant first) (flat_map rows_in first) first line rules far held step in
    let grown : Held plant limit there (logs_in plant (first ++ line ∷ [])) (flat_map rows_in (first ++ line ∷ [])) (first ++ line ∷ []) =
    subst (λ ls. Held plant limit there ls (flat_map rows_in (first ++ line ∷ [])) (first ++ line ∷ [])) (logs_more plant first line rules.app_devices_differ)
    (subst (λ rs. Held plant limit there (with_line plant (logs_in plant first) line) rs (first ++ line ∷ [])) (sym (one_more_line rows_in first line)) now) in
    let whole = held_run plant limit there after (first ++ line ∷ []) more rules far grown (ap (λ rs. run plant rs there more) (one_more_line rows_in first line) ∙ rest) in
    subst (λ ls. Held plant limit after (logs_in plant ls) (flat_map rows_in ls) ls) (append_assoc first (line ∷ []) more) whole

-- ---- the start

empty_there : (apps : List App) (m : ℕ) (l : AppLog) → slice_get (map (λ (a : App). log_in [] a.device.0) apps) m ≡ Some l → (length l.takes ≡ 0) × (length l.images ≡ 0) × (length l.turns ≡ 0)
empty_there [] m l is = absurd (none-some l is)
empty_there (a ∷ apps) zero l is =
    let same = same_Some (log_in [] a.device.0) l is in
    subst (λ (l : AppLog). (length l.takes ≡ 0) × (length l.images ≡ 0) × (length l.turns ≡ 0)) same (refl, refl, refl)
empty_there (a ∷ apps) (suc m) l is = empty_there apps m l is

length-map_logs : (apps : List App) → length (map (λ (a : App). log_in [] a.device.0) apps) ≡ length apps
length-map_logs [] = refl
length-map_logs (a ∷ apps) = ap (λ n. suc n) (length-map_logs apps)

pub held_start : (plant : Plant) (limit : ℕ) → Held plant limit (start_of plant) (logs_in plant []) [] []
held_start plant limit =
    record {
      shape = takes_shape plant 0 0 (logs_in plant []) [] (length-map_logs plant.apps)
          (λ m l at. ((λ under. absurd (omega (arith, under))), (λ past. (empty_there plant.apps m l at).0))) (λ m l at. (empty_there plant.apps m l at).1) (λ m l at. (empty_there plant.apps m l at).2)
          tt tt (omega arith) (omega arith);
      is = sym ((λ i. (none i ++ no_turns i) ++ after_takes-open (length plant.apps) 0 0 [] i));
    }
  where
    none : of_cycles one plant limit (record_of (logs_in plant []) []) ≡ []
    none = range_none (λ k. of_cycle one plant (record_of (logs_in plant []) []) k) 0 limit
        (λ j from. cycle_none plant (logs_in plant []) [] 0 j (λ m l at. omega (arith, (empty_there plant.apps m l at).0)) (λ m l at. omega (arith, (empty_there plant.apps m l at).1)) tt from)

    no_turns : of_all_turns one plant (logs_in plant []) ≡ []
    no_turns = turns_none plant (logs_in plant []) (λ m l at. omega (arith, (empty_there plant.apps m l at).2))

pub held_all : (plant : Plant) (place : Place) (lines : List Line) → MeetsRules plant → run plant [] (start_of plant) lines ≡ Some place →
    Held plant MAX_CYCLES place (logs_in plant lines) (flat_map rows_in lines) lines
held_all plant place lines rules is = go MAX_CYCLES (omega arith)
  where
    go : (limit : ℕ) → MAX_CYCLES ≤ limit → Held plant limit place (logs_in plant lines) (flat_map rows_in lines) lines
    go limit far = held_run plant limit (start_of plant) place [] lines rules far (held_start plant limit) is

-- the lines of the whole record
pub held_lines : (plant : Plant) (limit cycles : ℕ) (apps : List AppLog) (rows : List JournalRow) (lines : List Line) → MAX_CYCLES ≤ limit → Held plant limit (Done cycles) apps rows lines →
    lines_of plant cycles (record_of apps rows) ≡ lines
held_lines plant limit cycles apps rows lines far held =
    sym (held.is ∙ (ap (λ cs. (cs ++ of_all_turns one plant apps) ++ last_of cycles rows ∷ []) fewer ∙ append_assoc (of_cycles one plant cycles (record_of apps rows)) (of_all_turns one plant apps) (last_of cycles rows ∷ [])))
  where
    fewer : of_cycles one plant limit (record_of apps rows) ≡ of_cycles one plant cycles (record_of apps rows)
    fewer = no_more plant cycles limit apps rows (omega (arith, held.shape.bounds.1)) (λ m l at. omega (arith, held.shape.takes m l at)) (λ m l at. omega (arith, held.shape.images m l at)) held.shape.before
