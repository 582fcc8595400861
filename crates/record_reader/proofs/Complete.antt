-- The lines of a whole record lead from the start to its end.
use Rattle.std.proofs.Common.{◌≡◌, ◌<◌, ◌≤◌, ◌+◌, ◌^◌, ◌==◌, ◌&&◌, ℕ, zero, suc, List, [], ◌∷◌, ◌++◌, length, nat_lt, nat_le, Option, Some, refl, sym, ◌∙◌, ap, subst, arith, append_assoc, append-nil, inl, inr}
use Rattle.std.specs.Prelude.{◌⊎◌, if◌then◌else◌, zip}
use Rattle.std.specs.List.{AllByRecursion, flat_map, range_with_len}
use Rattle.std.proofs.lemmas.Bool.{cases_Bool, cases_lt}
use Rattle.std.proofs.lemmas.Grind.{flat_map-append}
use Rattle.cycle_rows.specs.Rows.{cycle_of}
use Rattle.cycle_rows.specs.declared.rows.JournalRow.{JournalRow}
use Rattle.irt_base.specs.declared.limits.TheConstants.{MAX_CYCLES}
use Rattle.irt_base.specs.declared.numbers.DevId.{DevId}
use Rattle.irt_base.specs.declared.plants.App.{App}
use Rattle.iso_rules.specs.declared.turn.Turn.{Turn}
use Rattle.irt_base.specs.declared.plants.Plant.{Plant}
use Rattle.iso_rules.specs.Lockstep.{AppLog, RunRecord}
use Rattle.plant_rules.specs.Meets.{MeetsRules}
use Rattle.record_laws.specs.Fitting.{IsLogOf, IsRowOf}
use Rattle.record_laws.specs.Lines.{at_place, last_of, lines_of, of_all_turns, of_cycle, of_cycles, of_rows, of_turns, rows_in}
use Rattle.record_laws.specs.declared.line.Line.{Line}
use Rattle.record_laws.specs.declared.line.Line.TheVariants as says
use Rattle.record_laws.proofs.RowsFound.{rows_found}
use Rattle.record_text.specs.Text.{lettered, rows_of_cycle}
use Rattle.record_reader.specs.Order.{StandInOrder}
use Rattle.record_reader.specs.Reading.{◌>>=◌}
use Rattle.record_reader.specs.Steps.{after_takes, are_counts, next, run, start_of}
use Rattle.record_reader.specs.Whole.{IsWholeRecord}
use Rattle.record_reader.specs.declared.place.Place.{Place}
use Rattle.record_reader.specs.declared.place.Place.TheVariants.{Takes, Rows, Turns, Done}
use Rattle.record_reader.proofs.Added.{one}
use Rattle.record_reader.proofs.Shape.{equal}
use Rattle.record_reader.proofs.Runs.{Has, both, counts_pass, equals, first_images_run, from_all, gives, images_lines, next_takes_run, rows_run, run_append, takes_lines, takes_run, turns_run, under, up_to}

abbrev at_cycle : ℕ → ℕ → Place
at_cycle apps zero = after_takes apps 0 0
at_cycle apps (suc k) = Turns (suc k) 0 0

at_some : (apps k : ℕ) → 1 ≤ k → at_cycle apps k ≡ Turns k 0 0
at_some apps zero some = absurd (omega arith)
at_some apps (suc k) some = refl

-- ---- rows among lines

rows_only : (rows : List JournalRow) → flat_map rows_in (of_rows one rows) ≡ rows
rows_only [] = refl
rows_only (r ∷ rows) = ap (λ xs. r ∷ xs) (rows_only rows)

rows_of_place : {X : Type 0} (f : X → List Line) (xs : List X) (k : ℕ) → ((x : X) → flat_map rows_in (f x) ≡ []) → flat_map rows_in (at_place f xs k) ≡ []
rows_of_place f [] k none = refl
rows_of_place f (x ∷ xs) zero none = none x
rows_of_place f (x ∷ xs) (suc k) none = rows_of_place f xs k none

rows_of_each : {X : Type 0} (f : X → List Line) (xs : List X) → ((x : X) → flat_map rows_in (f x) ≡ []) → flat_map rows_in (flat_map f xs) ≡ []
rows_of_each f [] none = refl
rows_of_each f (x ∷ xs) none = flat_map-append rows_in (f x) (flat_map f xs) ∙ (λ i. none x i ++ rows_of_each f xs none i)

pub no_rows_of_takes : (k : ℕ) (apps : List App) (logs : List AppLog) → flat_map rows_in (takes_lines k apps logs) ≡ []
no_rows_of_takes k apps logs =
    rows_of_each (λ (p : App × AppLog). at_place (λ g. one (says.Take k p.0.device g)) p.1.takes k) (zip apps logs)
    (λ p. rows_of_place (λ g. one (says.Take k p.0.device g)) p.1.takes k (λ g. refl))

pub no_rows_of_images : (k : ℕ) (apps : List App) (logs : List AppLog) → flat_map rows_in (images_lines k apps logs) ≡ []
no_rows_of_images k apps logs =
    rows_of_each (λ (p : App × AppLog). at_place (λ words. one (says.Image k p.0.device words)) p.1.images k) (zip apps logs)
    (λ p. rows_of_place (λ words. one (says.Image k p.0.device words)) p.1.images k (λ words. refl))

no_rows_of_turns : (plant : Plant) (logs : List AppLog) → flat_map rows_in (of_all_turns one plant logs) ≡ []
no_rows_of_turns plant logs =
    rows_of_each (λ (p : App × AppLog). of_turns one p.0.device 0 p.1.turns) (zip plant.apps logs) (λ p. of_app p.0.device 0 p.1.turns)
  where
    of_app : (device : DevId) (number : ℕ) (ts : List Turn) → flat_map rows_in (of_turns one device number ts) ≡ []
    of_app device number [] = refl
    of_app device number (t ∷ ts) = of_app device (number + 1) ts

-- rows that follow lines without any
pub with_none : (rows : List JournalRow) (lines : List Line) → flat_map rows_in lines ≡ [] → rows ++ flat_map rows_in lines ≡ rows
with_none rows lines none = ap (λ xs. rows ++ xs) none ∙ append-nil rows

-- ---- a cycle

rows_are_of : (k : ℕ) (rows : List JournalRow) → AllByRecursion (λ (s : JournalRow). cycle_of s ≡ k) (rows_of_cycle k rows)
rows_are_of k [] = tt
rows_are_of k (s ∷ rows) =
    elim (cases_Bool (cycle_of s == k)) [
      | inl here ↦ rw here (equal (cycle_of s) k here, rows_are_of k rows)
      | inr other ↦ rw other (rows_are_of k rows)
    ]

has_takes : (cycles k : ℕ) (logs : List AppLog) → AllByRecursion (IsLogOf cycles) logs → k < cycles → Has (λ l. length l.takes) k logs
has_takes cycles k [] all early = tt
has_takes cycles k (l ∷ logs) all early = (omega (arith, all.0.take_count), has_takes cycles k logs all.1 early)

has_images : (cycles k : ℕ) (logs : List AppLog) → AllByRecursion (IsLogOf cycles) logs → k < cycles → Has (λ l. length l.images) k logs
has_images cycles k [] all early = tt
has_images cycles k (l ∷ logs) all early = (omega (arith, all.0.image_count), has_images cycles k logs all.1 early)

has_turns : (cycles : ℕ) (logs : List AppLog) → AllByRecursion (IsLogOf cycles) logs → AllByRecursion (λ (l : AppLog). length l.turns < 2 ^ 64) logs
has_turns cycles [] all = tt
has_turns cycles (l ∷ logs) all = (all.0.turn_count, has_turns cycles logs all.1)

takes_from : (plant : Plant) (first : List JournalRow) (k : ℕ) (logs : List AppLog) → k < MAX_CYCLES → 0 < length plant.apps → length logs ≡ length plant.apps → Has (λ l. length l.takes) k logs →
    run plant first (at_cycle (length plant.apps) k) (takes_lines k plant.apps logs) ≡ Some (Rows k)
takes_from plant first zero logs few some count has = takes_run plant first 0 0 plant.apps logs (from_all plant) count has
takes_from plant first (suc k) logs few some count has = next_takes_run plant first (suc k) logs few some count has

cycle_run : (plant : Plant) (cycles k : ℕ) (r : RunRecord JournalRow) (first more : List JournalRow) → IsWholeRecord plant cycles r → 0 < length plant.apps → k < cycles →
    StandInOrder (first ++ (rows_of_cycle k r.journal ++ more)) →
    run plant first (at_cycle (length plant.apps) k) (of_cycle one plant r k) ≡ Some (Turns (k + 1) 0 0)
cycle_run plant cycles k r first more whole some early order =
    let few : k < MAX_CYCLES = omega (arith, whole.few) in
    let middle = rows_run plant first (rows_of_cycle k r.journal) more k k order (rows_are_of k r.journal) few (omega arith) (inr refl) in
    run_append plant first (at_cycle (length plant.apps) k) (Rows k) (takes_lines k plant.apps r.apps) (of_rows one (rows_of_cycle k r.journal) ++ images_lines k plant.apps r.apps)
    (takes_from plant first k r.apps few some whole.fits.app_count (has_takes cycles k r.apps whole.fits.apps early))
    ∙ (ap (λ rs. run plant rs (Rows k) (of_rows one (rows_of_cycle k r.journal) ++ images_lines k plant.apps r.apps)) (with_none first (takes_lines k plant.apps r.apps) (no_rows_of_takes k plant.apps r.apps))
    ∙ (run_append plant first (Rows k) (Rows k) (of_rows one (rows_of_cycle k r.journal)) (images_lines k plant.apps r.apps) (middle.ran ∙ ap (λ (m : ℕ). some_rows m) (middle.own refl))
    ∙ first_images_run plant (first ++ flat_map rows_in (of_rows one (rows_of_cycle k r.journal))) k r.apps few some whole.fits.app_count (has_images cycles k r.apps whole.fits.apps early)))
  where
    some_rows : ℕ → Option Place
    some_rows m = Some (Rows m)

rows_of_cycle_lines : (plant : Plant) (r : RunRecord JournalRow) (k : ℕ) → flat_map rows_in (of_cycle one plant r k) ≡ rows_of_cycle k r.journal
rows_of_cycle_lines plant r k =
    flat_map-append rows_in (takes_lines k plant.apps r.apps) (of_rows one (rows_of_cycle k r.journal) ++ images_lines k plant.apps r.apps)
    ∙ ((λ i. no_rows_of_takes k plant.apps r.apps i ++ flat_map-append rows_in (of_rows one (rows_of_cycle k r.journal)) (images_lines k plant.apps r.apps) i)
    ∙ ((λ i. rows_only (rows_of_cycle k r.journal) i ++ no_rows_of_images k plant.apps r.apps i) ∙ append-nil (rows_of_cycle k r.journal)))

abbrev rows_from : RunRecord JournalRow → ℕ → ℕ → List JournalRow
rows_from r a n = flat_map (λ k. rows_of_cycle k r.journal) (range_with_len a n)

abbrev cycles_from : Plant → RunRecord JournalRow → ℕ → ℕ → List Line
cycles_from plant r a n = flat_map (λ k. of_cycle one plant r k) (range_with_len a n)

rows_of_cycles : (plant : Plant) (r : RunRecord JournalRow) (a n : ℕ) → flat_map rows_in (cycles_from plant r a n) ≡ rows_from r a n
rows_of_cycles plant r a zero = refl
rows_of_cycles plant r a (suc n) =
    flat_map-append rows_in (of_cycle one plant r a) (cycles_from plant r (a + 1) n) ∙ (λ i. rows_of_cycle_lines plant r a i ++ rows_of_cycles plant r (a + 1) n i)

plain_place : (apps k : ℕ) → at_cycle apps (k + 1) ≡ Turns (k + 1) 0 0
plain_place apps k = at_some apps (k + 1) (omega arith)

cycles_run : (plant : Plant) (cycles : ℕ) (r : RunRecord JournalRow) (a n : ℕ) (first : List JournalRow) → IsWholeRecord plant cycles r → 0 < length plant.apps → a + n ≡ cycles →
    StandInOrder (first ++ rows_from r a n) → run plant first (at_cycle (length plant.apps) a) (cycles_from plant r a n) ≡ Some (at_cycle (length plant.apps) (a + n))
cycles_run plant cycles r a zero first whole some is order = ap (λ (m : ℕ). there m) (plain a)
  where
    there : ℕ → Option Place
    there m = Some (at_cycle (length plant.apps) m)

    plain : (m : ℕ) → m ≡ m + 0
    plain m = omega arith
cycles_run plant cycles r a (suc n) first whole some is order =
    run_append plant first (at_cycle (length plant.apps) a) (Turns (a + 1) 0 0) (of_cycle one plant r a) (cycles_from plant r (a + 1) n)
    (cycle_run plant cycles a r first (rows_from r (a + 1) n) whole some (omega arith) order)
    ∙ ((λ i. run plant (first ++ rows_of_cycle_lines plant r a i) (sym (plain_place (length plant.apps) a) i) (cycles_from plant r (a + 1) n))
    ∙ (cycles_run plant cycles r (a + 1) n (first ++ rows_of_cycle a r.journal) whole some (omega arith)
    (subst StandInOrder (sym (append_assoc first (rows_of_cycle a r.journal) (rows_from r (a + 1) n))) order)
    ∙ ap (λ (m : ℕ). there m) (shift a n)))
  where
    there : ℕ → Option Place
    there m = Some (at_cycle (length plant.apps) m)

    shift : (m k : ℕ) → m + 1 + k ≡ m + suc k
    shift m k = omega arith

-- ---- a plant without apps

zip_empty : {Y : Type 0} (h : App × AppLog → List Y) (apps : List App) (logs : List AppLog) → length apps ≡ 0 → flat_map h (zip apps logs) ≡ []
zip_empty h [] logs none = refl
zip_empty h (a ∷ apps) logs none = absurd (omega arith)

abbrev Low : ℕ → ℕ → Type 0
Low j a = (j < a) ⊎ ((a ≡ 0) × (j ≡ 0))

low_within : (j a : ℕ) → Low j a → j ≤ a
low_within j a (inl before) = omega arith
low_within j a (inr here) = omega (arith, here.0, here.1)

pub record LowRun (plant : Plant) (first : List JournalRow) (from : ℕ) (lines : List Line) (end : ℕ) : Type 0 where
  pub to : ℕ
  pub low : Low to end
  pub ran : run plant first (Rows from) lines ≡ Some (Rows to)

bare_cycle : (plant : Plant) (r : RunRecord JournalRow) (k : ℕ) → length plant.apps ≡ 0 → of_cycle one plant r k ≡ of_rows one (rows_of_cycle k r.journal)
bare_cycle plant r k none =
    (λ i. zip_empty (λ (p : App × AppLog). at_place (λ g. one (says.Take k p.0.device g)) p.1.takes k) plant.apps r.apps none i
    ++ (of_rows one (rows_of_cycle k r.journal) ++ zip_empty (λ (p : App × AppLog). at_place (λ words. one (says.Image k p.0.device words)) p.1.images k) plant.apps r.apps none i))
    ∙ append-nil (of_rows one (rows_of_cycle k r.journal))

bare_run : (plant : Plant) (cycles : ℕ) (r : RunRecord JournalRow) (a n from : ℕ) (first : List JournalRow) → IsWholeRecord plant cycles r → length plant.apps ≡ 0 → a + n ≡ cycles → Low from a →
    StandInOrder (first ++ rows_from r a n) → LowRun plant first from (cycles_from plant r a n) (a + n)
bare_run plant cycles r a zero from first whole none is low order = record { to = from; low = subst (Low from) (plain a) low; ran = refl }
  where
    plain : (m : ℕ) → m ≡ m + 0
    plain m = omega arith
bare_run plant cycles r a (suc n) from first whole none is low order =
    let few : a < MAX_CYCLES = omega (arith, whole.few) in
    let here = rows_run plant first (rows_of_cycle a r.journal) (rows_from r (a + 1) n) from a order (rows_are_of a r.journal) few (low_within from a low) (inl none) in
    let rest = bare_run plant cycles r (a + 1) n here.to (first ++ rows_of_cycle a r.journal) whole none (omega arith) (inl (omega (arith, here.within)))
    (subst StandInOrder (sym (append_assoc first (rows_of_cycle a r.journal) (rows_from r (a + 1) n))) order) in
    record {
      to = rest.to;
      low = subst (Low rest.to) (shift a n) rest.low;
      ran = run_append plant first (Rows from) (Rows here.to) (of_cycle one plant r a) (cycles_from plant r (a + 1) n)
          (ap (run plant first (Rows from)) (bare_cycle plant r a none) ∙ here.ran)
          ∙ ((λ i. run plant (first ++ rows_of_cycle_lines plant r a i) (Rows here.to) (cycles_from plant r (a + 1) n)) ∙ rest.ran);
    }
  where
    shift : (m k : ℕ) → m + 1 + k ≡ m + suc k
    shift m k = omega arith

-- ---- the whole record

journal_rows : (plant : Plant) (cycles : ℕ) (r : RunRecord JournalRow) → IsWholeRecord plant cycles r → rows_from r 0 cycles ≡ r.journal
journal_rows plant cycles r whole = rows_found cycles r.journal whole.fits.order (cycles_below r.journal whole.fits.rows)
  where
    cycles_below : (rows : List JournalRow) → AllByRecursion (IsRowOf plant cycles) rows → AllByRecursion (λ (s : JournalRow). cycle_of s < cycles) rows
    cycles_below [] all = tt
    cycles_below (s ∷ rows) all = (all.0.cycle, cycles_below rows all.1)

rows_before : (plant : Plant) (cycles : ℕ) (r : RunRecord JournalRow) → IsWholeRecord plant cycles r → flat_map rows_in (of_cycles one plant cycles r) ≡ r.journal
rows_before plant cycles r whole = rows_of_cycles plant r 0 cycles ∙ journal_rows plant cycles r whole

pub last_run : (plant : Plant) (rows : List JournalRow) (place : Place) (cycles : ℕ) → next plant rows place (last_of cycles rows) ≡ Some (Done cycles) → run plant rows place (last_of cycles rows ∷ []) ≡ Some (Done cycles)
last_run plant rows place cycles step = ap (λ (o : Option Place). o >>= λ p. run plant (rows ++ []) p []) step

whole_run : (plant : Plant) (cycles : ℕ) (r : RunRecord JournalRow) → MeetsRules plant → IsWholeRecord plant cycles r → 0 < length plant.apps →
    run plant [] (start_of plant) (lines_of plant cycles r) ≡ Some (Done cycles)
whole_run plant cycles r rules whole some =
    let turns = turns_run plant r.journal cycles 0 0 0 plant.apps r.apps rules (from_all plant) (has_turns cycles r.apps whole.fits.apps) (inr (refl, refl)) in
    run_append plant [] (start_of plant) (Turns cycles 0 0) (of_cycles one plant cycles r) (of_all_turns one plant r.apps ++ last_of cycles r.journal ∷ [])
    (cycles_run plant cycles r 0 cycles [] whole some (omega arith) (subst StandInOrder (sym (journal_rows plant cycles r whole)) whole.rows) ∙ ap (λ p. Some p) (at_end cycles whole.some))
    ∙ (ap (λ rs. run plant rs (Turns cycles 0 0) (of_all_turns one plant r.apps ++ last_of cycles r.journal ∷ [])) (rows_before plant cycles r whole)
    ∙ (run_append plant r.journal (Turns cycles 0 0) (Turns cycles turns.app turns.turns) (of_all_turns one plant r.apps) (last_of cycles r.journal ∷ []) turns.ran
    ∙ (ap (λ rs. run plant rs (Turns cycles turns.app turns.turns) (last_of cycles r.journal ∷ [])) (with_none r.journal (of_all_turns one plant r.apps) (no_rows_of_turns plant r.apps))
    ∙ last_run plant r.journal (Turns cycles turns.app turns.turns) cycles
    (gives ((cycles == cycles) && are_counts r.journal (lettered 111 r.journal) (lettered 100 r.journal) (lettered 120 r.journal)) (Done cycles)
    (both (cycles == cycles) (are_counts r.journal (lettered 111 r.journal) (lettered 100 r.journal) (lettered 120 r.journal)) (equals cycles cycles refl) (counts_pass r.journal))))))
  where
    at_end : (c : ℕ) → 1 ≤ c → at_cycle (length plant.apps) (0 + c) ≡ Turns c 0 0
    at_end c positive = ap (at_cycle (length plant.apps)) (plain c) ∙ at_some (length plant.apps) c positive
      where
        plain : (c : ℕ) → 0 + c ≡ c
        plain c = omega arith

bare_whole_run : (plant : Plant) (cycles : ℕ) (r : RunRecord JournalRow) → IsWholeRecord plant cycles r → length plant.apps ≡ 0 →
    run plant [] (start_of plant) (lines_of plant cycles r) ≡ Some (Done cycles)
bare_whole_run plant cycles r whole none =
    let rows = bare_run plant cycles r 0 cycles 0 [] whole none (omega arith) (inr (refl, refl)) (subst StandInOrder (sym (journal_rows plant cycles r whole)) whole.rows) in
    let early : rows.to < cycles = low_end rows.to cycles whole.some rows.low in
    ap (λ b. run plant [] (if b then Rows 0 else Takes 0 0) (lines_of plant cycles r)) (equals 0 (length plant.apps) (sym none))
    ∙ (run_append plant [] (Rows 0) (Rows rows.to) (of_cycles one plant cycles r) (of_all_turns one plant r.apps ++ last_of cycles r.journal ∷ []) rows.ran
    ∙ ((λ i. run plant (rows_before plant cycles r whole i) (Rows rows.to) (zip_empty (λ (p : App × AppLog). of_turns one p.0.device 0 p.1.turns) plant.apps r.apps none i ++ last_of cycles r.journal ∷ []))
    ∙ last_run plant r.journal (Rows rows.to) cycles
    (gives ((length plant.apps == 0) && (nat_lt rows.to cycles && (nat_le cycles MAX_CYCLES && are_counts r.journal (lettered 111 r.journal) (lettered 100 r.journal) (lettered 120 r.journal)))) (Done cycles)
    (both (length plant.apps == 0) (nat_lt rows.to cycles && (nat_le cycles MAX_CYCLES && are_counts r.journal (lettered 111 r.journal) (lettered 100 r.journal) (lettered 120 r.journal))) (equals (length plant.apps) 0 none)
    (both (nat_lt rows.to cycles) (nat_le cycles MAX_CYCLES && are_counts r.journal (lettered 111 r.journal) (lettered 100 r.journal) (lettered 120 r.journal)) (under rows.to cycles early)
    (both (nat_le cycles MAX_CYCLES) (are_counts r.journal (lettered 111 r.journal) (lettered 100 r.journal) (lettered 120 r.journal)) (up_to cycles MAX_CYCLES whole.few) (counts_pass r.journal)))))))
  where
    low_end : (to c : ℕ) → 1 ≤ c → Low to (0 + c) → to < c
    low_end to c positive (inl before) = omega arith
    low_end to c positive (inr here) = absurd (omega (arith, here.0))

pub complete_run : (plant : Plant) (cycles : ℕ) (r : RunRecord JournalRow) → MeetsRules plant → IsWholeRecord plant cycles r →
    run plant [] (start_of plant) (lines_of plant cycles r) ≡ Some (Done cycles)
complete_run plant cycles r rules whole =
    elim (cases_lt 0 (length plant.apps)) [
      | inl some ↦ whole_run plant cycles r rules whole some
      | inr none ↦ bare_whole_run plant cycles r whole (omega arith)
    ]
