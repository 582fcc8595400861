-- What is known of a record at each place of its text, and how a line leads from one place to the next.
use Rattle.std.proofs.Common.{◌≡◌, ◌≢◌, ◌<◌, ◌≤◌, ◌+◌, ◌^◌, ◌==◌, ◌&&◌, ℕ, zero, suc, true, false, List, [], ◌∷◌, ◌++◌, length, set, get_or, nat_lt, Option, Some, None, refl, sym, ◌∙◌, ap, subst, arith, inl, inr, length-append}
use Rattle.std.specs.Prelude.{◌⊎◌, if◌then◌else◌, slice_get}
use Rattle.std.specs.Option.{option_map_or}
use Rattle.std.specs.List.{AllByRecursion, IsDistinct}
use Rattle.std.proofs.lemmas.Bool.{cases_Bool, and_parts}
use Rattle.std.proofs.lemmas.Bool.Decides.{nat_tests}
use Rattle.std.proofs.lemmas.Option.{none-some, same_Some}
use Rattle.cycle_rows.specs.declared.rows.JournalRow.{JournalRow}
use Rattle.io_buffers.specs.Given.{Given}
use Rattle.irt_base.specs.declared.limits.TheConstants.{MAX_CYCLES}
use Rattle.irt_base.specs.declared.numbers.DevId.{DevId}
use Rattle.irt_base.specs.declared.plants.App.{App}
use Rattle.irt_base.specs.declared.plants.Plant.{Plant}
use Rattle.iso_rules.specs.Lockstep.{AppLog}
use Rattle.plant_rules.specs.Meets.{MeetsRules}
use Rattle.plant_rules.specs.Words.{same_app_device}
use Rattle.record_laws.specs.declared.line.Line.{Line}
use Rattle.record_laws.specs.declared.line.Line.TheVariants as says
use Rattle.record_laws.proofs.RowCut.{device_same}
use Rattle.record_text.specs.Grown.{with_image, with_take}
use Rattle.record_reader.specs.Grow.{with_line, with_log}
use Rattle.record_reader.specs.Order.{StandInOrder}
use Rattle.record_reader.specs.Steps.{after_images, after_takes, image_at, is_app, take_at}
use Rattle.record_reader.specs.declared.place.Place.{Place}
use Rattle.record_reader.specs.declared.place.Place.TheVariants.{Takes, Rows, Images, Turns, Done}
use Rattle.record_reader.proofs.Values.{when_some}
use Rattle.record_reader.proofs.Grown.{app_at, logged}
use Rattle.record_reader.proofs.Added.{Before, all_lines, image_added, images_count, take_added, takes_count, turns_count}

-- ---- what is known of the logs

abbrev pub HasTakes : Place → ℕ → ℕ → Type 0
HasTakes (Takes k n) m count = (m < n → count ≡ k + 1) × (n ≤ m → count ≡ k)
HasTakes (Rows k) m count = count ≡ k + 1
HasTakes (Images k n) m count = count ≡ k + 1
HasTakes (Turns cycles n number) m count = count ≡ cycles
HasTakes (Done cycles) m count = count ≡ cycles

abbrev pub HasImages : Place → ℕ → ℕ → Type 0
HasImages (Takes k n) m count = count ≡ k
HasImages (Rows k) m count = count ≡ k
HasImages (Images k n) m count = (m < n → count ≡ k + 1) × (n ≤ m → count ≡ k)
HasImages (Turns cycles n number) m count = count ≡ cycles
HasImages (Done cycles) m count = count ≡ cycles

abbrev pub HasTurns : Place → ℕ → ℕ → Type 0
HasTurns (Takes k n) m count = count ≡ 0
HasTurns (Rows k) m count = count ≡ 0
HasTurns (Images k n) m count = count ≡ 0
HasTurns (Turns cycles n number) m count = (m ≡ n → count ≡ number) × (n < m → count ≡ 0) × (count < 2 ^ 64)
HasTurns (Done cycles) m count = count < 2 ^ 64

-- of which cycles rows are before
abbrev pub row_bound : Place → ℕ
row_bound (Takes k n) = k
row_bound (Rows k) = k + 1
row_bound (Images k n) = k + 1
row_bound (Turns cycles n number) = cycles
row_bound (Done cycles) = cycles

abbrev pub IsInBounds : ℕ → Place → Type 0
IsInBounds apps (Takes k n) = (k < MAX_CYCLES) × (n < apps)
IsInBounds apps (Rows k) = k < MAX_CYCLES
IsInBounds apps (Images k n) = (k < MAX_CYCLES) × (1 ≤ n) × (n < apps)
IsInBounds apps (Turns cycles n number) = (1 ≤ cycles) × (cycles ≤ MAX_CYCLES) × (0 < apps)
IsInBounds apps (Done cycles) = (1 ≤ cycles) × (cycles ≤ MAX_CYCLES)

abbrev pub Each : (AppLog → ℕ) → (ℕ → ℕ → Type 0) → List AppLog → Type 0
Each count Has apps = (m : ℕ) (l : AppLog) → slice_get apps m ≡ Some l → Has m (count l)

pub record Shape (plant : Plant) (place : Place) (apps : List AppLog) (rows : List JournalRow) : Type 0 where
  pub count : length apps ≡ length plant.apps
  pub takes : Each takes_count (HasTakes place) apps
  pub images : Each images_count (HasImages place) apps
  pub turns : Each turns_count (HasTurns place) apps
  pub before : Before (row_bound place) rows
  pub order : StandInOrder rows
  pub bounds : IsInBounds (length plant.apps) place

-- ---- tests

pub equal : (m n : ℕ) → (m == n) ≡ true → m ≡ n
equal m n test = grind (arith, nat_tests)

pub below : (m n : ℕ) → nat_lt m n ≡ true → m < n
below m n test = grind (arith, nat_tests)

unequal : (m n : ℕ) → (m == n) ≡ false → m ≢ n
unequal m n test = grind (arith, nat_tests)

-- ---- the app of a line

pub there : {X : Type 0} (xs : List X) (n : ℕ) → n < length xs → (x : X) × (slice_get xs n ≡ Some x)
there [] n within = absurd (omega arith)
there (x ∷ xs) zero within = (x, refl)
there (x ∷ xs) (suc n) within = there xs n (omega arith)

pub within_of : {X : Type 0} (xs : List X) (n : ℕ) (x : X) → slice_get xs n ≡ Some x → n < length xs
within_of [] n x is = absurd (none-some x is)
within_of (y ∷ xs) zero x is = omega arith
within_of (y ∷ xs) (suc n) x is = omega (arith, within_of xs n x is)

pub record AppHere (plant : Plant) (n : ℕ) (device : DevId) : Type 0 where
  pub app : App
  pub is : slice_get plant.apps n ≡ Some app
  pub own : app.device ≡ device

app_here : (plant : Plant) (n : ℕ) (device : DevId) → is_app plant n device ≡ true → AppHere plant n device
app_here plant n device test = from (slice_get plant.apps n) refl test
  where
    from : (o : Option App) → slice_get plant.apps n ≡ o → option_map_or (λ (a : App). a.device.0 == device.0) o false ≡ true → AppHere plant n device
    from None is test = absurd (cc)
    from (Some a) is test = record { app = a; is = is; own = device_same a.device device (equal a.device.0 device.0 test) }

other_before : (a e : App) (apps : List App) (n : ℕ) → AllByRecursion (λ e. same_app_device a e ≡ false) apps → slice_get apps n ≡ Some e → same_app_device a e ≡ false
other_before a e [] n others is = absurd (none-some e is)
other_before a e (f ∷ apps) zero others is = ap (same_app_device a) (sym (same_Some f e is)) ∙ others.0
other_before a e (f ∷ apps) (suc n) others is = other_before a e apps n others.1 is

pub app_place : (apps : List App) (n : ℕ) (a : App) → IsDistinct same_app_device apps → slice_get apps n ≡ Some a → app_at apps a.device.0 ≡ n
unfolding IsDistinct
app_place [] n a differ is = absurd (none-some a is)
app_place (e ∷ apps) zero a differ is = rw (ap (λ (b : App). b.device.0 == a.device.0) (same_Some e a is) ∙ itself a.device.0) refl
  where
    itself : (k : ℕ) → (k == k) ≡ true
    itself k = grind (arith, nat_tests)
app_place (e ∷ apps) (suc n) a differ is = rw (other_before e a apps n differ.0 is) (omega (arith, app_place apps n a differ.1 is))

get_same : (logs : List AppLog) (n : ℕ) (l d : AppLog) → slice_get logs n ≡ Some l → get_or logs n d ≡ l
get_same [] n l d is = absurd (none-some l is)
get_same (o ∷ logs) zero l d is = same_Some o l is
get_same (o ∷ logs) (suc n) l d is = get_same logs n l d is

-- a log is changed at its app's place
pub changed : (plant : Plant) (n : ℕ) (device : DevId) (change : AppLog → AppLog) (logs : List AppLog) (l : AppLog) → MeetsRules plant → length logs ≡ length plant.apps →
    AppHere plant n device → slice_get logs n ≡ Some l → with_log plant.apps device.0 change logs ≡ set logs n (change l)
changed plant n device change logs l rules count app is =
    let place : app_at plant.apps device.0 ≡ n = ap (λ (d : DevId). app_at plant.apps d.0) (sym app.own) ∙ app_place plant.apps n app.app rules.app_devices_differ app.is in
    let within = within_of plant.apps n app.app app.is in
    sym (logged plant.apps device.0 change logs l (omega (arith, place, within)) count (sym (ap (λ m. get_or logs m l) place ∙ get_same logs n l l is)))
    ∙ ap (λ m. set logs m (change l)) place

-- ---- logs of which one is changed

set_cases : (logs : List AppLog) (n : ℕ) (new : AppLog) (m : ℕ) (o : AppLog) → slice_get (set logs n new) m ≡ Some o → ((m ≡ n) × (o ≡ new)) ⊎ ((m ≢ n) × (slice_get logs m ≡ Some o))
set_cases [] n new m o is = absurd (none-some o is)
set_cases (l ∷ logs) zero new zero o is = inl (refl, sym (same_Some new o is))
set_cases (l ∷ logs) zero new (suc m) o is = inr (λ same. omega (arith, same), is)
set_cases (l ∷ logs) (suc n) new zero o is = inr (λ same. omega (arith, same), is)
set_cases (l ∷ logs) (suc n) new (suc m) o is =
    elim (set_cases logs n new m o is) [
      | inl here ↦ inl (ap (λ k. suc k) here.0, here.1)
      | inr other ↦ inr (λ same. other.0 (less m n same), other.1)
    ]
  where
    less : (m n : ℕ) → suc m ≡ suc n → m ≡ n
    less m n same = omega arith

pub length_kept : (logs : List AppLog) (n : ℕ) (new : AppLog) → length (set logs n new) ≡ length logs
length_kept [] n new = refl
length_kept (l ∷ logs) zero new = refl
length_kept (l ∷ logs) (suc n) new = ap (λ k. suc k) (length_kept logs n new)

pub each_set : (count : AppLog → ℕ) (Has Was : ℕ → ℕ → Type 0) (logs : List AppLog) (n : ℕ) (new : AppLog) → Each count Was logs → Has n (count new) →
    ((m c : ℕ) → m ≢ n → m < length logs → Was m c → Has m c) → Each count Has (set logs n new)
each_set count Has Was logs n new each here others = λ m o is.
    elim (set_cases logs n new m o is) [
      | inl x ↦ subst (λ k. Has k (count o)) (sym x.0) (subst (λ l. Has n (count l)) (sym x.1) here)
      | inr x ↦ others m (count o) x.0 (within_of logs m o x.1) (each m o x.1)
    ]

pub each_weaker : (count : AppLog → ℕ) (Has Was : ℕ → ℕ → Type 0) (logs : List AppLog) → Each count Was logs → ((m c : ℕ) → m < length logs → Was m c → Has m c) → Each count Has logs
each_weaker count Has Was logs each weaker = λ m o is. weaker m (count o) (within_of logs m o is) (each m o is)

pub before_more : (k j : ℕ) (rows : List JournalRow) → k ≤ j → Before k rows → Before j rows
before_more k j [] more before = tt
before_more k j (s ∷ rows) more before = (omega (arith, before.0), before_more k j rows more before.1)

-- ---- a line is added

-- what holds after a line
pub record Added (plant : Plant) (limit : ℕ) (apps new : List AppLog) (rows later : List JournalRow) (line : Line) (place : Place) : Type 0 where
  pub shape : Shape plant place new later
  pub lines : all_lines plant limit new later ≡ all_lines plant limit apps rows ++ line ∷ []

-- so many takes of a cycle are read
abbrev pub TakesRead : ℕ → ℕ → ℕ → ℕ → Type 0
TakesRead k n m count = (m < n → count ≡ k + 1) × (n ≤ m → count ≡ k)

pub plus_one : {X : Type 0} (xs : List X) (x : X) → length (xs ++ x ∷ []) ≡ length xs + 1
plus_one xs x = length-append xs (x ∷ [])

pub takes_shape : (plant : Plant) (k n : ℕ) (apps : List AppLog) (rows : List JournalRow) → length apps ≡ length plant.apps → Each takes_count (TakesRead k n) apps →
    Each images_count (λ m c. c ≡ k) apps → Each turns_count (λ m c. c ≡ 0) apps → Before k rows → StandInOrder rows → k < MAX_CYCLES → n ≤ length plant.apps →
    Shape plant (after_takes (length plant.apps) k n) apps rows
takes_shape plant k n apps rows count takes images turns before order few within =
    elim (cases_Bool (n == length plant.apps)) [
      | inl all ↦
          let done : n ≡ length plant.apps = equal n (length plant.apps) all in
          subst (λ b. Shape plant (if b then Rows k else Takes k n) apps rows) (sym all)
          (record {
            count = count;
            takes = each_weaker takes_count (λ m c. c ≡ k + 1) (TakesRead k n) apps takes (λ m c inside was. was.0 (omega (arith, inside, done, count)));
            images = images;
            turns = turns;
            before = before_more k (k + 1) rows (omega arith) before;
            order = order;
            bounds = few;
          })
      | inr some ↦
          let apart = unequal n (length plant.apps) some in
          subst (λ b. Shape plant (if b then Rows k else Takes k n) apps rows) (sym some)
          (record { count = count; takes = takes; images = images; turns = turns; before = before; order = order; bounds = (few, omega arith) })
    ]

images_shape : (plant : Plant) (k n : ℕ) (apps : List AppLog) (rows : List JournalRow) → length apps ≡ length plant.apps → Each takes_count (λ m c. c ≡ k + 1) apps →
    Each images_count (TakesRead k n) apps → Each turns_count (λ m c. c ≡ 0) apps → Before (k + 1) rows → StandInOrder rows → k < MAX_CYCLES → 1 ≤ n → n ≤ length plant.apps →
    Shape plant (after_images (length plant.apps) k n) apps rows
images_shape plant k n apps rows count takes images turns before order few some within =
    elim (cases_Bool (n == length plant.apps)) [
      | inl all ↦
          let done : n ≡ length plant.apps = equal n (length plant.apps) all in
          subst (λ b. Shape plant (if b then Turns (k + 1) 0 0 else Images k n) apps rows) (sym all)
          (record {
            count = count;
            takes = takes;
            images = each_weaker images_count (λ m c. c ≡ k + 1) (TakesRead k n) apps images (λ m c inside was. was.0 (omega (arith, inside, done, count)));
            turns = each_weaker turns_count (HasTurns (Turns (k + 1) 0 0)) (λ m c. c ≡ 0) apps turns (λ m c inside was. ((λ same. was), (λ above. was), omega (arith, was)));
            before = before;
            order = order;
            bounds = (omega arith, omega arith, omega arith);
          })
      | inr open_ ↦
          let apart = unequal n (length plant.apps) open_ in
          subst (λ b. Shape plant (if b then Turns (k + 1) 0 0 else Images k n) apps rows) (sym open_)
          (record { count = count; takes = takes; images = images; turns = turns; before = before; order = order; bounds = (few, some, omega arith) })
    ]

-- a take, where those of the apps before are read
pub take_step : (plant : Plant) (limit k n cycle : ℕ) (device : DevId) (g : Given) (apps : List AppLog) (rows : List JournalRow) (place : Place) → MeetsRules plant → MAX_CYCLES ≤ limit →
    length apps ≡ length plant.apps → Each takes_count (TakesRead k n) apps → Each images_count (λ m c. c ≡ k) apps → Each turns_count (λ m c. c ≡ 0) apps → Before k rows →
    StandInOrder rows → k < MAX_CYCLES → take_at plant k n cycle device ≡ Some place →
    Added plant limit apps (with_line plant apps (says.Take cycle device g)) rows rows (says.Take cycle device g) place
take_step plant limit k n cycle device g apps rows place rules far count takes images turns before order few is =
    let (test, same) = when_some ((cycle == k) && is_app plant n device) (after_takes (length plant.apps) k (n + 1)) place is in
    let (now, own) = and_parts (cycle == k) (is_app plant n device) test in
    let app = app_here plant n device own in
    let inside : n < length plant.apps = within_of plant.apps n app.app app.is in
    let (l, log) = there apps n (omega arith) in
    let new : with_log plant.apps device.0 (λ l. with_take l g) apps ≡ set apps n (with_take l g) = changed plant n device (λ l. with_take l g) apps l rules count app log in
    let counted : length l.takes ≡ k = (takes n l log).1 (omega arith) in
    let shape : Shape plant (after_takes (length plant.apps) k (n + 1)) (set apps n (with_take l g)) rows =
    takes_shape plant k (n + 1) (set apps n (with_take l g)) rows (length_kept apps n (with_take l g) ∙ count)
    (each_set takes_count (TakesRead k (n + 1)) (TakesRead k n) apps n (with_take l g) takes
    ((λ under. omega (arith, plus_one l.takes g, counted)), (λ past. absurd (omega (arith, past)))) (λ m c apart within was. next_takes m c apart was))
    (each_set images_count (λ m c. c ≡ k) (λ m c. c ≡ k) apps n (with_take l g) images (images n l log) (λ m c apart within was. was))
    (each_set turns_count (λ m c. c ≡ 0) (λ m c. c ≡ 0) apps n (with_take l g) turns (turns n l log) (λ m c apart within was. was)) before order few (omega arith) in
    let lines : all_lines plant limit (set apps n (with_take l g)) rows ≡ all_lines plant limit apps rows ++ says.Take k app.app.device g ∷ [] =
    take_added plant limit apps rows n k app.app l g app.is log counted (omega arith) (λ m o at. most m (length o.takes) (takes m o at)) (λ m o above at. rest m (length o.takes) above (takes m o at))
    (λ m o at. omega (arith, images m o at)) (λ m o at. omega (arith, turns m o at)) before in
    let said : says.Take k app.app.device g ≡ says.Take cycle device g = (λ i. says.Take (sym (equal cycle k now) i) (app.own i) g) in
    record {
      shape = subst (λ ls. Shape plant place ls rows) (sym new) (subst (λ p. Shape plant p (set apps n (with_take l g)) rows) same shape);
      lines = ap (λ ls. all_lines plant limit ls rows) new ∙ (lines ∙ ap (λ x. all_lines plant limit apps rows ++ x ∷ []) said);
    }
  where
    next_takes : (m c : ℕ) → m ≢ n → TakesRead k n m c → TakesRead k (n + 1) m c
    next_takes m c apart was = ((λ under. was.0 (omega arith)), (λ past. was.1 (omega arith)))

    most : (m c : ℕ) → TakesRead k n m c → c ≤ k + 1
    most m c was = elim (cases_Bool (nat_lt m n)) [ inl under ↦ omega (arith, was.0 (below m n under)) | inr past ↦ omega (arith, was.1 (not_below m n past)) ]
      where
        not_below : (m n : ℕ) → nat_lt m n ≡ false → n ≤ m
        not_below m n test = grind (arith, nat_tests)

    rest : (m c : ℕ) → n < m → TakesRead k n m c → c ≤ k
    rest m c above was = omega (arith, was.1 (omega arith))

-- an image, where those of the apps before are read
pub image_step : (plant : Plant) (limit k n cycle : ℕ) (device : DevId) (words : List ℕ) (apps : List AppLog) (rows : List JournalRow) (place : Place) → MeetsRules plant → MAX_CYCLES ≤ limit →
    length apps ≡ length plant.apps → Each takes_count (λ m c. c ≡ k + 1) apps → Each images_count (TakesRead k n) apps → Each turns_count (λ m c. c ≡ 0) apps → Before (k + 1) rows →
    StandInOrder rows → image_at plant k n cycle device ≡ Some place →
    Added plant limit apps (with_line plant apps (says.Image cycle device words)) rows rows (says.Image cycle device words) place
image_step plant limit k n cycle device words apps rows place rules far count takes images turns before order is =
    let (tests, same) = when_some (nat_lt k MAX_CYCLES && ((cycle == k) && is_app plant n device)) (after_images (length plant.apps) k (n + 1)) place is in
    let (early, test) = and_parts (nat_lt k MAX_CYCLES) ((cycle == k) && is_app plant n device) tests in
    let (now, own) = and_parts (cycle == k) (is_app plant n device) test in
    let few : k < MAX_CYCLES = below k MAX_CYCLES early in
    let app = app_here plant n device own in
    let inside : n < length plant.apps = within_of plant.apps n app.app app.is in
    let (l, log) = there apps n (omega arith) in
    let new : with_log plant.apps device.0 (λ l. with_image l words) apps ≡ set apps n (with_image l words) = changed plant n device (λ l. with_image l words) apps l rules count app log in
    let counted : length l.images ≡ k = (images n l log).1 (omega arith) in
    let shape : Shape plant (after_images (length plant.apps) k (n + 1)) (set apps n (with_image l words)) rows =
    images_shape plant k (n + 1) (set apps n (with_image l words)) rows (length_kept apps n (with_image l words) ∙ count)
    (each_set takes_count (λ m c. c ≡ k + 1) (λ m c. c ≡ k + 1) apps n (with_image l words) takes (takes n l log) (λ m c apart within was. was))
    (each_set images_count (TakesRead k (n + 1)) (TakesRead k n) apps n (with_image l words) images
    ((λ under. omega (arith, plus_one l.images words, counted)), (λ past. absurd (omega (arith, past)))) (λ m c apart within was. next_images m c apart was))
    (each_set turns_count (λ m c. c ≡ 0) (λ m c. c ≡ 0) apps n (with_image l words) turns (turns n l log) (λ m c apart within was. was)) before order few (omega arith) (omega arith) in
    let lines : all_lines plant limit (set apps n (with_image l words)) rows ≡ all_lines plant limit apps rows ++ says.Image k app.app.device words ∷ [] =
    image_added plant limit apps rows n k app.app l words app.is log counted (omega arith) (λ m o at. omega (arith, takes m o at)) (λ m o at. most m (length o.images) (images m o at))
    (λ m o above at. rest m (length o.images) above (images m o at)) (λ m o at. omega (arith, turns m o at)) before in
    let said : says.Image k app.app.device words ≡ says.Image cycle device words = (λ i. says.Image (sym (equal cycle k now) i) (app.own i) words) in
    record {
      shape = subst (λ ls. Shape plant place ls rows) (sym new) (subst (λ p. Shape plant p (set apps n (with_image l words)) rows) same shape);
      lines = ap (λ ls. all_lines plant limit ls rows) new ∙ (lines ∙ ap (λ x. all_lines plant limit apps rows ++ x ∷ []) said);
    }
  where
    next_images : (m c : ℕ) → m ≢ n → TakesRead k n m c → TakesRead k (n + 1) m c
    next_images m c apart was = ((λ under. was.0 (omega arith)), (λ past. was.1 (omega arith)))

    most : (m c : ℕ) → TakesRead k n m c → c ≤ k + 1
    most m c was = elim (cases_Bool (nat_lt m n)) [ inl under ↦ omega (arith, was.0 (below m n under)) | inr past ↦ omega (arith, was.1 (not_below m n past)) ]
      where
        not_below : (m n : ℕ) → nat_lt m n ≡ false → n ≤ m
        not_below m n test = grind (arith, nat_tests)

    rest : (m c : ℕ) → n < m → TakesRead k n m c → c ≤ k
    rest m c above was = omega (arith, was.1 (omega arith))
