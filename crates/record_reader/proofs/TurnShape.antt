-- How a row and a turn lead from one place to the next.
use Rattle.std.proofs.Common.{◌≡◌, ◌<◌, ◌≤◌, ◌+◌, ◌-◌, ◌^◌, ◌==◌, ◌&&◌, ◌||◌, ℕ, suc, Bool, true, false, List, [], ◌∷◌, ◌++◌, length, set, nat_lt, Some, None, refl, sym, ◌∙◌, ap, subst, arith, inl, inr}
use Rattle.std.specs.Prelude.{◌⊎◌, if◌then◌else◌, slice_get}
use Rattle.std.proofs.lemmas.Bool.{cases_Bool, and_parts}
use Rattle.std.proofs.lemmas.Bool.Decides.{nat_tests}
use Rattle.cycle_rows.specs.Rows.{cycle_of}
use Rattle.cycle_rows.specs.declared.rows.JournalRow.{JournalRow}
use Rattle.irt_base.specs.declared.limits.TheConstants.{MAX_CYCLES}
use Rattle.irt_base.specs.declared.numbers.DevId.{DevId}
use Rattle.irt_base.specs.declared.plants.App.{App}
use Rattle.irt_base.specs.declared.plants.Plant.{Plant}
use Rattle.iso_rules.specs.Image.{app_on}
use Rattle.iso_rules.specs.Lockstep.{AppLog}
use Rattle.iso_rules.specs.declared.turn.Turn.{Turn}
use Rattle.plant_rules.specs.Meets.{MeetsRules}
use Rattle.record_laws.specs.declared.line.Line.TheVariants as says
use Rattle.record_laws.proofs.RowCut.{device_same}
use Rattle.record_text.specs.Grown.{with_turn}
use Rattle.record_reader.specs.Grow.{with_line, with_log}
use Rattle.record_reader.specs.Order.{StandInOrder, follows, stands_up_to}
use Rattle.record_reader.specs.Steps.{is_row_at, is_turn_at, row_at, turn_at}
use Rattle.record_reader.specs.declared.place.Place.{Place}
use Rattle.record_reader.specs.declared.place.Place.TheVariants.{Rows, Turns}
use Rattle.record_reader.proofs.Values.{bind_some, when_some}
use Rattle.record_reader.proofs.Grown.{app_at, found_within}
use Rattle.record_reader.proofs.Added.{Before, all_lines, images_count, row_added, takes_count, turn_added, turns_count}
use Rattle.record_reader.proofs.Shape.{Added, AppHere, HasTurns, Shape, below, changed, each_set, equal, length_kept, plus_one, there, within_of}

-- ---- a row

pub cycle_up_to : (r s : JournalRow) → stands_up_to r s ≡ true → cycle_of r ≤ cycle_of s
cycle_up_to r s test = grind (arith, nat_tests)

pub order_more : (rows : List JournalRow) (r : JournalRow) → StandInOrder rows → follows rows r ≡ true → StandInOrder (rows ++ r ∷ [])
order_more [] r order behind = tt
order_more (s ∷ []) r order behind = (behind, tt)
order_more (s ∷ t ∷ rows) r order behind = (order.0, order_more (t ∷ rows) r order.1 behind)

not_later : (rows : List JournalRow) (r : JournalRow) → StandInOrder rows → follows rows r ≡ true → Before (cycle_of r + 1) rows
not_later [] r order behind = tt
not_later (s ∷ []) r order behind = (omega (arith, cycle_up_to s r behind), tt)
not_later (s ∷ t ∷ rows) r order behind =
    let later = not_later (t ∷ rows) r order.1 behind in
    (omega (arith, cycle_up_to s t order.0, later.0), later)

pub before_append : (k : ℕ) (rows : List JournalRow) (r : JournalRow) → Before k rows → cycle_of r < k → Before k (rows ++ r ∷ [])
before_append k [] r before early = (early, tt)
before_append k (s ∷ rows) r before early = (before.0, before_append k rows r before.1 early)

pub either : (a b : Bool) → (a || b) ≡ true → (a ≡ true) ⊎ (b ≡ true)
either true b is = inl refl
either false b is = inr is

pub no_log_there : (plant : Plant) (apps : List AppLog) (m : ℕ) (l : AppLog) → length apps ≡ length plant.apps → (length plant.apps == 0) ≡ true → slice_get apps m ≡ Some l → ⊥
no_log_there plant apps m l count none is = omega (arith, equal (length plant.apps) 0 none, within_of apps m l is, count)

pub row_step : (plant : Plant) (limit k : ℕ) (r : JournalRow) (apps : List AppLog) (rows : List JournalRow) (place : Place) → MAX_CYCLES ≤ limit → Shape plant (Rows k) apps rows →
    row_at plant rows k r ≡ Some place → Added plant limit apps apps rows (rows ++ r ∷ []) (says.Row r) place
row_step plant limit k r apps rows place far shape is =
    let (tests, same) = when_some (is_row_at plant k (cycle_of r) && follows rows r) (Rows (cycle_of r)) place is in
    let (early, behind) = and_parts (is_row_at plant k (cycle_of r)) (follows rows r) tests in
    let (low, right) = and_parts (nat_lt (cycle_of r) MAX_CYCLES) ((length plant.apps == 0) || (cycle_of r == k)) early in
    let few : cycle_of r < MAX_CYCLES = below (cycle_of r) MAX_CYCLES low in
    let before = not_later rows r shape.order behind in
    record {
      shape = subst (λ p. Shape plant p apps (rows ++ r ∷ [])) same
          (record {
            count = shape.count;
            takes = λ m l at. counts m l right at (shape.takes m l at);
            images = λ m l at. counted m l right at (shape.images m l at);
            turns = shape.turns;
            before = before_append (cycle_of r + 1) rows r before (omega arith);
            order = order_more rows r shape.order behind;
            bounds = few;
          });
      lines = row_added plant limit apps rows r (omega arith) (λ m l at. omega (arith, counts m l right at (shape.takes m l at))) (λ m l at. omega (arith, counted m l right at (shape.images m l at)))
          (λ m l at. omega (arith, shape.turns m l at)) before;
    }
  where
    counts : (m : ℕ) (l : AppLog) → ((length plant.apps == 0) || (cycle_of r == k)) ≡ true → slice_get apps m ≡ Some l → {c : ℕ} → c ≡ k + 1 → c ≡ cycle_of r + 1
    counts m l right at {c} is =
        elim (either (length plant.apps == 0) (cycle_of r == k) right) [
          | inl none ↦ absurd (no_log_there plant apps m l shape.count none at)
          | inr now ↦ omega (arith, is, equal (cycle_of r) k now)
        ]

    counted : (m : ℕ) (l : AppLog) → ((length plant.apps == 0) || (cycle_of r == k)) ≡ true → slice_get apps m ≡ Some l → {c : ℕ} → c ≡ k → c ≡ cycle_of r
    counted m l right at {c} is =
        elim (either (length plant.apps == 0) (cycle_of r == k) right) [
          | inl none ↦ absurd (no_log_there plant apps m l shape.count none at)
          | inr now ↦ omega (arith, is, equal (cycle_of r) k now)
        ]

-- ---- a turn

-- the first app on a device
pub record Found (apps : List App) (device : DevId) : Type 0 where
  pub app : App
  pub is : slice_get apps (app_at apps device.0) ≡ Some app
  pub own : app.device ≡ device

pub app_found : (apps : List App) (d : DevId) → app_at apps d.0 < length apps → Found apps d
app_found [] d within = absurd (omega arith)
app_found (a ∷ apps) d within =
    elim (cases_Bool (a.device.0 == d.0)) [
      | inl own ↦ let place : app_at (a ∷ apps) d.0 ≡ 0 = rw own refl in
          record { app = a; is = ap (slice_get (a ∷ apps)) place; own = device_same a.device d (equal a.device.0 d.0 own) }
      | inr other ↦
          let place : app_at (a ∷ apps) d.0 ≡ suc (app_at apps d.0) = rw other (one_more (app_at apps d.0)) in
          let more = app_found apps d (omega (arith, place, within)) in
          record { app = more.app; is = ap (slice_get (a ∷ apps)) place ∙ more.is; own = more.own }
    ]
  where
    one_more : (n : ℕ) → 1 + n ≡ suc n
    one_more n = omega arith

pub turn_step : (plant : Plant) (limit cycles n number turn : ℕ) (device : DevId) (t : Turn) (apps : List AppLog) (rows : List JournalRow) (place : Place) → MeetsRules plant →
    Shape plant (Turns cycles n number) apps rows → turn_at plant cycles n number device turn ≡ Some place →
    Added plant limit apps (with_line plant apps (says.Turn device turn t)) rows rows (says.Turn device turn t) place
turn_step plant limit cycles n number turn device t apps rows place rules shape is =
    let (j, at, more) = bind_some (app_on plant device.0) (λ app. if is_turn_at n number app turn then Some (Turns cycles app (turn + 1)) else None) place is in
    let (test, same) = when_some (is_turn_at n number j turn) (Turns cycles j (turn + 1)) place more in
    let (few, which) = and_parts (nat_lt turn (2 ^ 64 - 1)) (((j == n) && (turn == number)) || (nat_lt n j && (turn == 0))) test in
    let small : turn < 2 ^ 64 - 1 = below turn (2 ^ 64 - 1) few in
    let (found, spot) = found_within (app_at plant.apps device.0) (length plant.apps) j at in
    let app = app_found plant.apps device found in
    let here : AppHere plant j device = record { app = app.app; is = ap (slice_get plant.apps) (sym spot) ∙ app.is; own = app.own } in
    let inside : j < length plant.apps = within_of plant.apps j here.app here.is in
    let (l, log) = there apps j (omega (arith, inside, shape.count)) in
    let counted : length l.turns ≡ turn = turns_there j (length l.turns) which (shape.turns j l log) in
    let new : with_log plant.apps device.0 (λ l. with_turn l t) apps ≡ set apps j (with_turn l t) = changed plant j device (λ l. with_turn l t) apps l rules shape.count here log in
    let now : Shape plant (Turns cycles j (turn + 1)) (set apps j (with_turn l t)) rows =
    record {
      count = length_kept apps j (with_turn l t) ∙ shape.count;
      takes = each_set takes_count (λ m c. c ≡ cycles) (λ m c. c ≡ cycles) apps j (with_turn l t) shape.takes (shape.takes j l log) (λ m c apart within was. was);
      images = each_set images_count (λ m c. c ≡ cycles) (λ m c. c ≡ cycles) apps j (with_turn l t) shape.images (shape.images j l log) (λ m c apart within was. was);
      turns = each_set turns_count (HasTurns (Turns cycles j (turn + 1))) (HasTurns (Turns cycles n number)) apps j (with_turn l t) shape.turns
          ((λ own. omega (arith, plus_one l.turns t, counted)), (λ above. absurd (omega (arith, above))), omega (arith, plus_one l.turns t, counted, small))
          (λ m c apart within was. ((λ own. absurd (apart own)), (λ above. was.1 (later j m which above)), was.2));
      before = shape.before;
      order = shape.order;
      bounds = shape.bounds;
    } in
    let lines = turn_added plant limit apps rows j turn here.app l t here.is log counted (λ m o above at. omega (arith, (shape.turns m o at).1 (later j m which above))) in
    let said : says.Turn here.app.device turn t ≡ says.Turn device turn t = (λ i. says.Turn (here.own i) turn t) in
    record {
      shape = subst (λ ls. Shape plant place ls rows) (sym new) (subst (λ p. Shape plant p (set apps j (with_turn l t)) rows) same now);
      lines = ap (λ ls. all_lines plant limit ls rows) new ∙ (lines ∙ ap (λ x. all_lines plant limit apps rows ++ x ∷ []) said);
    }
  where
    turns_there : (j c : ℕ) → (((j == n) && (turn == number)) || (nat_lt n j && (turn == 0))) ≡ true → HasTurns (Turns cycles n number) j c → c ≡ turn
    turns_there j c which was =
        elim (either ((j == n) && (turn == number)) (nat_lt n j && (turn == 0)) which) [
          | inl again ↦
              let (own, same) = and_parts (j == n) (turn == number) again in
              was.0 (equal j n own) ∙ sym (equal turn number same)
          | inr first ↦
              let (above, none) = and_parts (nat_lt n j) (turn == 0) first in
              was.1 (below n j above) ∙ sym (equal turn 0 none)
        ]

    later : (j m : ℕ) → (((j == n) && (turn == number)) || (nat_lt n j && (turn == 0))) ≡ true → j < m → n < m
    later j m which above =
        elim (either ((j == n) && (turn == number)) (nat_lt n j && (turn == 0)) which) [
          | inl again ↦ omega (arith, above, equal j n (and_parts (j == n) (turn == number) again).0)
          | inr first ↦ omega (arith, above, below n j (and_parts (nat_lt n j) (turn == 0) first).0)
        ]
