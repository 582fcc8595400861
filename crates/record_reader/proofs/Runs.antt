-- The lines of a record lead from the start to the end.
use Rattle.std.proofs.Common.{◌≡◌, ◌<◌, ◌≤◌, ◌+◌, ◌-◌, ◌^◌, ◌==◌, ◌&&◌, ◌||◌, ℕ, zero, suc, Bool, true, false, cond, List, [], ◌∷◌, ◌++◌, length, nat_lt, nat_le, Option, Some, None, refl, sym, ◌∙◌, ap, subst, arith, append_assoc, append-nil, inl, inr}
use Rattle.std.specs.Prelude.{◌⊎◌, if◌then◌else◌, slice_get, zip}
use Rattle.std.specs.Option.{option_map_or}
use Rattle.std.specs.List.{AllByRecursion, flat_map}
use Rattle.std.proofs.lemmas.Bool.Decides.{nat_tests}
use Rattle.std.proofs.lemmas.Option.{same_Some}
use Rattle.cycle_rows.specs.Rows.{cycle_of}
use Rattle.cycle_rows.specs.declared.rows.JournalRow.{JournalRow}
use Rattle.irt_base.specs.declared.limits.TheConstants.{MAX_CYCLES}
use Rattle.irt_base.specs.declared.numbers.DevId.{DevId}
use Rattle.irt_base.specs.declared.plants.App.{App}
use Rattle.irt_base.specs.declared.plants.Plant.{Plant}
use Rattle.iso_rules.specs.Image.{app_on}
use Rattle.iso_rules.specs.Lockstep.{AppLog}
use Rattle.iso_rules.specs.declared.turn.Turn.{Turn}
use Rattle.plant_rules.specs.Meets.{MeetsRules}
use Rattle.record_laws.specs.Lines.{at_place, of_rows, of_turns, rows_in}
use Rattle.record_laws.specs.declared.line.Line.{Line}
use Rattle.record_laws.specs.declared.line.Line.TheVariants as says
use Rattle.record_text.specs.Text.{lettered}
use Rattle.record_reader.specs.Order.{StandInOrder, follows}
use Rattle.record_reader.specs.Reading.{◌>>=◌}
use Rattle.record_reader.specs.Steps.{after_images, after_takes, are_counts, image_at, is_app, is_row_at, is_turn_at, next, row_at, run, take_at, turn_at}
use Rattle.record_reader.specs.declared.place.Place.{Place}
use Rattle.record_reader.specs.declared.place.Place.TheVariants.{Takes, Rows, Images, Turns}
use Rattle.record_reader.proofs.Values.{bind_some}
use Rattle.record_reader.proofs.Grown.{app_at}
use Rattle.record_reader.proofs.Added.{one}
use Rattle.record_reader.proofs.Shape.{app_place, within_of}

-- ---- tests that pass

itself : (n : ℕ) → (n == n) ≡ true
itself n = grind (arith, nat_tests)

pub equals : (m n : ℕ) → m ≡ n → (m == n) ≡ true
equals m n same = grind (arith, nat_tests)

pub under : (m n : ℕ) → m < n → nat_lt m n ≡ true
under m n below = grind (arith, nat_tests)

pub up_to : (m n : ℕ) → m ≤ n → nat_le m n ≡ true
up_to m n within = grind (arith, nat_tests)

differ : (m n : ℕ) → m < n → (m == n) ≡ false
differ m n below = grind (arith, nat_tests)

pub both : (a b : Bool) → a ≡ true → b ≡ true → (a && b) ≡ true
both a b x y = rw (x, y) refl

left_of : (a b : Bool) → a ≡ true → (a || b) ≡ true
left_of a b x = rw x refl

right_of : (a b : Bool) → b ≡ true → (a || b) ≡ true
right_of true b x = refl
right_of false b x = x

pub gives : {A : Type 0} (b : Bool) (x : A) → b ≡ true → (if b then Some x else None) ≡ Some x
gives b x test = rw test refl

-- ---- lines after lines

pub run_append : (plant : Plant) (rows : List JournalRow) (place there : Place) (xs ys : List Line) → run plant rows place xs ≡ Some there →
    run plant rows place (xs ++ ys) ≡ run plant (rows ++ flat_map rows_in xs) there ys
run_append plant rows place there [] ys is = (λ i. run plant (sym (append-nil rows) i) (same_Some place there is i) ys)
run_append plant rows place there (x ∷ xs) ys is =
    let (p, step, rest) = bind_some (next plant rows place x) (λ after. run plant (rows ++ rows_in x) after xs) there is in
    ap (λ (o : Option Place). o >>= λ after. run plant (rows ++ rows_in x) after (xs ++ ys)) step
    ∙ (run_append plant (rows ++ rows_in x) p there xs ys rest ∙ ap (λ rs. run plant rs there ys) (append_assoc rows (rows_in x) (flat_map rows_in xs)))

-- ---- takes and images of apps from one on

-- the apps from a place on
abbrev pub From : Plant → ℕ → List App → Type 0
From plant n apps = ((m : ℕ) (a : App) → slice_get apps m ≡ Some a → slice_get plant.apps (n + m) ≡ Some a) × (n + length apps ≡ length plant.apps)

from_next : (plant : Plant) (n : ℕ) (a : App) (apps : List App) → From plant n (a ∷ apps) → From plant (n + 1) apps
from_next plant n a apps from = ((λ m b is. ap (slice_get plant.apps) (shift n m) ∙ from.0 (suc m) b is), omega (arith, from.1))
  where
    shift : (n m : ℕ) → n + 1 + m ≡ n + suc m
    shift n m = omega arith

pub from_all : (plant : Plant) → From plant 0 plant.apps
from_all plant = ((λ m a is. ap (slice_get plant.apps) (plain m) ∙ is), omega arith)
  where
    plain : (m : ℕ) → 0 + m ≡ m
    plain m = omega arith

from_first : (plant : Plant) (n : ℕ) (a : App) (apps : List App) → From plant n (a ∷ apps) → slice_get plant.apps n ≡ Some a
from_first plant n a apps from = ap (slice_get plant.apps) (plain n) ∙ from.0 0 a refl
  where
    plain : (n : ℕ) → n ≡ n + 0
    plain n = omega arith

is_own : (plant : Plant) (n : ℕ) (a : App) → slice_get plant.apps n ≡ Some a → is_app plant n a.device ≡ true
is_own plant n a is = ap (λ o. option_map_or (λ (b : App). b.device.0 == a.device.0) o false) is ∙ itself a.device.0

found_place : {X : Type 0} (f : X → List Line) (xs : List X) (k : ℕ) → k < length xs → (x : X) × (at_place f xs k ≡ f x)
found_place f [] k within = absurd (omega arith)
found_place f (x ∷ xs) zero within = (x, refl)
found_place f (x ∷ xs) (suc k) within = found_place f xs k (omega arith)

-- every log has an item of a cycle
abbrev pub Has : (AppLog → ℕ) → ℕ → List AppLog → Type 0
Has count k logs = AllByRecursion (λ (l : AppLog). k < count l) logs

abbrev pub takes_lines : ℕ → List App → List AppLog → List Line
takes_lines k apps logs = flat_map (λ (p : App × AppLog). at_place (λ g. one (says.Take k p.0.device g)) p.1.takes k) (zip apps logs)

abbrev pub images_lines : ℕ → List App → List AppLog → List Line
images_lines k apps logs = flat_map (λ (p : App × AppLog). at_place (λ words. one (says.Image k p.0.device words)) p.1.images k) (zip apps logs)

-- a line that is read, and the place after it
first_line : (plant : Plant) (rows : List JournalRow) (place after : Place) (line : Line) (more : List Line) (end : Option Place) → next plant rows place line ≡ Some after → rows_in line ≡ [] →
    run plant rows after more ≡ end → run plant rows place (line ∷ more) ≡ end
first_line plant rows place after line more end step none rest =
    ap (λ (o : Option Place). o >>= λ p. run plant (rows ++ rows_in line) p more) step
    ∙ (ap (λ rs. run plant rs after more) (ap (λ x. rows ++ x) none ∙ append-nil rows) ∙ rest)

pub takes_run : (plant : Plant) (rows : List JournalRow) (k n : ℕ) (apps : List App) (logs : List AppLog) → From plant n apps → length logs ≡ length apps → Has (λ l. length l.takes) k logs →
    run plant rows (after_takes (length plant.apps) k n) (takes_lines k apps logs) ≡ Some (Rows k)
takes_run plant rows k n [] [] from count has = ap (λ b. Some (if b then Rows k else Takes k n)) (equals n (length plant.apps) (omega (arith, from.1)))
takes_run plant rows k n [] (l ∷ logs) from count has = absurd (omega arith)
takes_run plant rows k n (a ∷ apps) [] from count has = absurd (omega arith)
takes_run plant rows k n (a ∷ apps) (l ∷ logs) from count has =
    let (g, here) = found_place (λ g. one (says.Take k a.device g)) l.takes k has.0 in
    let step : take_at plant k n k a.device ≡ Some (after_takes (length plant.apps) k (n + 1)) =
    gives ((k == k) && is_app plant n a.device) (after_takes (length plant.apps) k (n + 1)) (both (k == k) (is_app plant n a.device) (itself k) (is_own plant n a (from_first plant n a apps from))) in
    ap (λ xs. run plant rows (after_takes (length plant.apps) k n) (xs ++ takes_lines k apps logs)) here
    ∙ (ap (λ b. run plant rows (if b then Rows k else Takes k n) (says.Take k a.device g ∷ takes_lines k apps logs)) (differ n (length plant.apps) (omega (arith, from.1)))
    ∙ first_line plant rows (Takes k n) (after_takes (length plant.apps) k (n + 1)) (says.Take k a.device g) (takes_lines k apps logs) (Some (Rows k)) step refl
    (takes_run plant rows k (n + 1) apps logs (from_next plant n a apps from) (omega arith) has.1))

-- the same after a cycle
pub next_takes_run : (plant : Plant) (rows : List JournalRow) (k : ℕ) (logs : List AppLog) → k < MAX_CYCLES → 0 < length plant.apps → length logs ≡ length plant.apps → Has (λ l. length l.takes) k logs →
    run plant rows (Turns k 0 0) (takes_lines k plant.apps logs) ≡ Some (Rows k)
next_takes_run plant rows k logs few some count has = go plant.apps logs (from_all plant) some count has
  where
    go : (apps : List App) (logs : List AppLog) → From plant 0 apps → 0 < length apps → length logs ≡ length apps → Has (λ l. length l.takes) k logs →
        run plant rows (Turns k 0 0) (takes_lines k apps logs) ≡ Some (Rows k)
    go [] logs from some count has = absurd (omega arith)
    go (a ∷ apps) [] from some count has = absurd (omega arith)
    go (a ∷ apps) (l ∷ logs) from some count has =
        let (g, here) = found_place (λ g. one (says.Take k a.device g)) l.takes k has.0 in
        let step : take_at plant k 0 k a.device ≡ Some (after_takes (length plant.apps) k 1) =
        gives ((k == k) && is_app plant 0 a.device) (after_takes (length plant.apps) k 1) (both (k == k) (is_app plant 0 a.device) (itself k) (is_own plant 0 a (from_first plant 0 a apps from))) in
        ap (λ xs. run plant rows (Turns k 0 0) (xs ++ takes_lines k apps logs)) here
        ∙ first_line plant rows (Turns k 0 0) (after_takes (length plant.apps) k 1) (says.Take k a.device g) (takes_lines k apps logs) (Some (Rows k))
        (ap (λ b. if b then take_at plant k 0 k a.device else None) (under k MAX_CYCLES few) ∙ step) refl
        (takes_run plant rows k 1 apps logs (from_next plant 0 a apps from) (omega arith) has.1)

pub images_run : (plant : Plant) (rows : List JournalRow) (k n : ℕ) (apps : List App) (logs : List AppLog) → k < MAX_CYCLES → From plant n apps → length logs ≡ length apps →
    Has (λ l. length l.images) k logs → run plant rows (after_images (length plant.apps) k n) (images_lines k apps logs) ≡ Some (Turns (k + 1) 0 0)
images_run plant rows k n [] [] few from count has = ap (λ b. Some (if b then Turns (k + 1) 0 0 else Images k n)) (equals n (length plant.apps) (omega (arith, from.1)))
images_run plant rows k n [] (l ∷ logs) few from count has = absurd (omega arith)
images_run plant rows k n (a ∷ apps) [] few from count has = absurd (omega arith)
images_run plant rows k n (a ∷ apps) (l ∷ logs) few from count has =
    let (words, here) = found_place (λ words. one (says.Image k a.device words)) l.images k has.0 in
    ap (λ xs. run plant rows (after_images (length plant.apps) k n) (xs ++ images_lines k apps logs)) here
    ∙ (ap (λ b. run plant rows (if b then Turns (k + 1) 0 0 else Images k n) (says.Image k a.device words ∷ images_lines k apps logs)) (differ n (length plant.apps) (omega (arith, from.1)))
    ∙ first_line plant rows (Images k n) (after_images (length plant.apps) k (n + 1)) (says.Image k a.device words) (images_lines k apps logs) (Some (Turns (k + 1) 0 0))
    (image_step plant k n a few (from_first plant n a apps from)) refl (images_run plant rows k (n + 1) apps logs few (from_next plant n a apps from) (omega arith) has.1))
  where
    image_step : (plant : Plant) (k n : ℕ) (a : App) → k < MAX_CYCLES → slice_get plant.apps n ≡ Some a → image_at plant k n k a.device ≡ Some (after_images (length plant.apps) k (n + 1))
    image_step plant k n a few is =
        gives (nat_lt k MAX_CYCLES && ((k == k) && is_app plant n a.device)) (after_images (length plant.apps) k (n + 1))
        (both (nat_lt k MAX_CYCLES) ((k == k) && is_app plant n a.device) (under k MAX_CYCLES few) (both (k == k) (is_app plant n a.device) (itself k) (is_own plant n a is)))

-- the same after rows
pub first_images_run : (plant : Plant) (rows : List JournalRow) (k : ℕ) (logs : List AppLog) → k < MAX_CYCLES → 0 < length plant.apps → length logs ≡ length plant.apps →
    Has (λ l. length l.images) k logs → run plant rows (Rows k) (images_lines k plant.apps logs) ≡ Some (Turns (k + 1) 0 0)
first_images_run plant rows k logs few some count has = go plant.apps logs (from_all plant) some count has
  where
    go : (apps : List App) (logs : List AppLog) → From plant 0 apps → 0 < length apps → length logs ≡ length apps → Has (λ l. length l.images) k logs →
        run plant rows (Rows k) (images_lines k apps logs) ≡ Some (Turns (k + 1) 0 0)
    go [] logs from some count has = absurd (omega arith)
    go (a ∷ apps) [] from some count has = absurd (omega arith)
    go (a ∷ apps) (l ∷ logs) from some count has =
        let (words, here) = found_place (λ words. one (says.Image k a.device words)) l.images k has.0 in
        ap (λ xs. run plant rows (Rows k) (xs ++ images_lines k apps logs)) here
        ∙ first_line plant rows (Rows k) (after_images (length plant.apps) k 1) (says.Image k a.device words) (images_lines k apps logs) (Some (Turns (k + 1) 0 0))
        (gives (nat_lt k MAX_CYCLES && ((k == k) && is_app plant 0 a.device)) (after_images (length plant.apps) k 1)
        (both (nat_lt k MAX_CYCLES) ((k == k) && is_app plant 0 a.device) (under k MAX_CYCLES few) (both (k == k) (is_app plant 0 a.device) (itself k) (is_own plant 0 a (from_first plant 0 a apps from)))))
        refl (images_run plant rows k 1 apps logs few (from_next plant 0 a apps from) (omega arith) has.1)

-- ---- rows

pub order_split : (first : List JournalRow) (r : JournalRow) (more : List JournalRow) → StandInOrder (first ++ r ∷ more) → follows first r ≡ true
order_split [] r more order = refl
order_split (s ∷ []) r more order = order.0
order_split (s ∷ t ∷ first) r more order = order_split (t ∷ first) r more order.1

-- where rows of a cycle lead to
pub record RowsRun (plant : Plant) (first rows : List JournalRow) (from k : ℕ) : Type 0 where
  pub to : ℕ
  pub within : to ≤ k
  pub own : from ≡ k → to ≡ k
  pub ran : run plant first (Rows from) (of_rows one rows) ≡ Some (Rows to)

pub rows_run : (plant : Plant) (first rows more : List JournalRow) (from k : ℕ) → StandInOrder (first ++ (rows ++ more)) → AllByRecursion (λ (s : JournalRow). cycle_of s ≡ k) rows →
    k < MAX_CYCLES → from ≤ k → (length plant.apps ≡ 0) ⊎ (from ≡ k) → RowsRun plant first rows from k
rows_run plant first [] more from k order all few within open_ = record { to = from; within = within; own = λ same. same; ran = refl }
rows_run plant first (r ∷ rows) more from k order all few within open_ =
    let rest = rows_run plant (first ++ r ∷ []) rows more k k (subst StandInOrder (sym (append_assoc first (r ∷ []) (rows ++ more))) order) all.1 few (omega arith) (inr refl) in
    record {
      to = rest.to;
      within = rest.within;
      own = λ same. rest.own refl;
      ran = ap (λ (o : Option Place). o >>= λ p. run plant (first ++ r ∷ []) p (of_rows one rows)) (step (order_split first r (rows ++ more) order)) ∙ rest.ran;
    }
  where
    open_row : ((length plant.apps ≡ 0) ⊎ (from ≡ k)) → ((length plant.apps == 0) || (cycle_of r == from)) ≡ true
    open_row (inl none) = left_of (length plant.apps == 0) (cycle_of r == from) (equals (length plant.apps) 0 none)
    open_row (inr same) = right_of (length plant.apps == 0) (cycle_of r == from) (equals (cycle_of r) from (all.0 ∙ sym same))

    step : follows first r ≡ true → row_at plant first from r ≡ Some (Rows k)
    step behind =
        gives (is_row_at plant from (cycle_of r) && follows first r) (Rows (cycle_of r))
        (both (is_row_at plant from (cycle_of r)) (follows first r)
        (both (nat_lt (cycle_of r) MAX_CYCLES) ((length plant.apps == 0) || (cycle_of r == from)) (under (cycle_of r) MAX_CYCLES (omega (arith, all.0, few))) (open_row open_)) behind)
        ∙ ap (λ (c : ℕ). some_rows c) all.0
      where
        some_rows : ℕ → Option Place
        some_rows c = Some (Rows c)

-- ---- turns

on_place : (plant : Plant) (n : ℕ) (a : App) → MeetsRules plant → slice_get plant.apps n ≡ Some a → app_on plant a.device.0 ≡ Some n
on_place plant n a rules is =
    let place : app_at plant.apps a.device.0 ≡ n = app_place plant.apps n a rules.app_devices_differ is in
    ap (λ b. cond b (Some (app_at plant.apps a.device.0)) None) (under (app_at plant.apps a.device.0) (length plant.apps) (omega (arith, place, within_of plant.apps n a is)))
    ∙ ap (λ (m : ℕ). some_app m) place
  where
    some_app : ℕ → Option ℕ
    some_app m = Some m

turn_step : (plant : Plant) (cycles n number j turn : ℕ) (a : App) → MeetsRules plant → slice_get plant.apps j ≡ Some a → turn < 2 ^ 64 - 1 →
    (((j == n) && (turn == number)) || (nat_lt n j && (turn == 0))) ≡ true → turn_at plant cycles n number a.device turn ≡ Some (Turns cycles j (turn + 1))
turn_step plant cycles n number j turn a rules is small which =
    ap (λ (o : Option ℕ). o >>= λ app. if is_turn_at n number app turn then Some (Turns cycles app (turn + 1)) else None) (on_place plant j a rules is)
    ∙ gives (is_turn_at n number j turn) (Turns cycles j (turn + 1)) (both (nat_lt turn (2 ^ 64 - 1)) (((j == n) && (turn == number)) || (nat_lt n j && (turn == 0))) (under turn (2 ^ 64 - 1) small) which)

own_turns_run : (plant : Plant) (rows : List JournalRow) (cycles n number : ℕ) (a : App) (ts : List Turn) → MeetsRules plant → slice_get plant.apps n ≡ Some a → number + length ts < 2 ^ 64 →
    run plant rows (Turns cycles n number) (of_turns one a.device number ts) ≡ Some (Turns cycles n (number + length ts))
own_turns_run plant rows cycles n number a [] rules is few = ap (λ (m : ℕ). there m) (plain number)
  where
    there : ℕ → Option Place
    there m = Some (Turns cycles n m)

    plain : (m : ℕ) → m ≡ m + 0
    plain m = omega arith
own_turns_run plant rows cycles n number a (t ∷ ts) rules is few =
    first_line plant rows (Turns cycles n number) (Turns cycles n (number + 1)) (says.Turn a.device number t) (of_turns one a.device (number + 1) ts) (Some (Turns cycles n (number + length (t ∷ ts))))
    (turn_step plant cycles n number n number a rules is (omega arith) (left_of ((n == n) && (number == number)) (nat_lt n n && (number == 0)) (both (n == n) (number == number) (itself n) (itself number)))) refl
    (own_turns_run plant rows cycles n (number + 1) a ts rules is (omega arith) ∙ ap (λ (m : ℕ). there m) (shift number (length ts)))
  where
    there : ℕ → Option Place
    there m = Some (Turns cycles n m)

    shift : (m k : ℕ) → m + 1 + k ≡ m + suc k
    shift m k = omega arith

-- turns of apps before one are read
abbrev pub Behind : ℕ → ℕ → ℕ → Type 0
Behind at number n = (at < n) ⊎ ((at ≡ n) × (number ≡ 0))

pub record TurnsRun (plant : Plant) (rows : List JournalRow) (cycles at number : ℕ) (lines : List Line) : Type 0 where
  pub app : ℕ
  pub turns : ℕ
  pub ran : run plant rows (Turns cycles at number) lines ≡ Some (Turns cycles app turns)

app_turns_run : (plant : Plant) (rows : List JournalRow) (cycles at number n : ℕ) (a : App) (ts : List Turn) → MeetsRules plant → slice_get plant.apps n ≡ Some a → length ts < 2 ^ 64 →
    Behind at number n → (app : ℕ) × (turns : ℕ) × (app ≤ n) × (run plant rows (Turns cycles at number) (of_turns one a.device 0 ts) ≡ Some (Turns cycles app turns))
app_turns_run plant rows cycles at number n a [] rules is few behind = (at, number, at_most behind, refl)
  where
    at_most : Behind at number n → at ≤ n
    at_most (inl before) = omega arith
    at_most (inr here) = omega (arith, here.0)
app_turns_run plant rows cycles at number n a (t ∷ ts) rules is few behind = (
  n,
  1 + length ts,
  omega arith,
  first_line plant rows (Turns cycles at number) (Turns cycles n 1) (says.Turn a.device 0 t) (of_turns one a.device 1 ts) (Some (Turns cycles n (1 + length ts)))
      (turn_step plant cycles at number n 0 a rules is (omega arith) (which behind)) refl (own_turns_run plant rows cycles n 1 a ts rules is (omega arith)),
)
  where
    which : Behind at number n → (((n == at) && (0 == number)) || (nat_lt at n && (0 == 0))) ≡ true
    which (inl before) = right_of ((n == at) && (0 == number)) (nat_lt at n && (0 == 0)) (both (nat_lt at n) (0 == 0) (under at n before) refl)
    which (inr here) = left_of ((n == at) && (0 == number)) (nat_lt at n && (0 == 0)) (both (n == at) (0 == number) (equals n at (sym here.0)) (equals 0 number (sym here.1)))

no_rows_of_turns : (device : DevId) (number : ℕ) (ts : List Turn) → flat_map rows_in (of_turns one device number ts) ≡ []
no_rows_of_turns device number [] = refl
no_rows_of_turns device number (t ∷ ts) = no_rows_of_turns device (number + 1) ts

pub turns_run : (plant : Plant) (rows : List JournalRow) (cycles at number n : ℕ) (apps : List App) (logs : List AppLog) → MeetsRules plant → From plant n apps →
    AllByRecursion (λ (l : AppLog). length l.turns < 2 ^ 64) logs → Behind at number n →
    TurnsRun plant rows cycles at number (flat_map (λ (p : App × AppLog). of_turns one p.0.device 0 p.1.turns) (zip apps logs))
turns_run plant rows cycles at number n [] logs rules from few behind = record { app = at; turns = number; ran = refl }
turns_run plant rows cycles at number n (a ∷ apps) [] rules from few behind = record { app = at; turns = number; ran = refl }
turns_run plant rows cycles at number n (a ∷ apps) (l ∷ logs) rules from few behind =
    let (app, turns, within, own) = app_turns_run plant rows cycles at number n a l.turns rules (from_first plant n a apps from) few.0 behind in
    let rest = turns_run plant rows cycles app turns (n + 1) apps logs rules (from_next plant n a apps from) few.1 (inl (omega arith)) in
    record {
      app = rest.app;
      turns = rest.turns;
      ran = run_append plant rows (Turns cycles at number) (Turns cycles app turns) (of_turns one a.device 0 l.turns) (flat_map (λ (p : App × AppLog). of_turns one p.0.device 0 p.1.turns) (zip apps logs)) own
          ∙ (ap (λ rs. run plant rs (Turns cycles app turns) (flat_map (λ (p : App × AppLog). of_turns one p.0.device 0 p.1.turns) (zip apps logs)))
          (ap (λ xs. rows ++ xs) (no_rows_of_turns a.device 0 l.turns) ∙ append-nil rows) ∙ rest.ran);
    }

-- ---- the end

pub counts_pass : (rows : List JournalRow) → are_counts rows (lettered 111 rows) (lettered 100 rows) (lettered 120 rows) ≡ true
counts_pass rows = both (lettered 111 rows == lettered 111 rows) ((lettered 100 rows == lettered 100 rows) && (lettered 120 rows == lettered 120 rows)) (itself (lettered 111 rows))
    (both (lettered 100 rows == lettered 100 rows) (lettered 120 rows == lettered 120 rows) (itself (lettered 100 rows)) (itself (lettered 120 rows)))
