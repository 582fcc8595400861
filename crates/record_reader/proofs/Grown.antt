-- One line more of a draft.
use Rattle.std.proofs.Common.{◌≡◌, ◌<◌, ◌+◌, ◌-◌, ◌==◌, ℕ, zero, suc, true, false, cond, List, [], ◌∷◌, ◌++◌, length, map, take, set, get_or, nat_lt, Some, None, Result, Ok, Err, refl, sym, ◌∙◌, ap, arith, append-nil, inl, inr}
use Rattle.std.specs.Prelude.{if◌then◌else◌, OnOk, slice_get}
use Rattle.std.specs.List.{AllByRecursion, IsDistinct, flat_map, position_or_len}
use Rattle.std.proofs.lemmas.Bool.{cases_Bool}
use Rattle.std.proofs.lemmas.Bool.Decides.{nat_tests}
use Rattle.std.proofs.lemmas.Grind.{flat_map-append}
use Rattle.std.proofs.lemmas.Option.{none-some, same_Some}
use Rattle.cycle_rows.specs.declared.rows.JournalRow.{JournalRow}
use Rattle.io_buffers.specs.Given.{Given}
use Rattle.irt_base.specs.declared.plants.App.{App}
use Rattle.irt_base.specs.declared.plants.Plant.{Plant}
use Rattle.iso_rules.specs.Image.{app_on}
use Rattle.iso_rules.specs.Lockstep.{AppLog}
use Rattle.iso_rules.specs.declared.turn.Turn.{Turn}
use Rattle.plant_rules.specs.Words.{same_app_device}
use Rattle.record_laws.specs.Lines.{images_in, log_in, takes_in, turns_in}
use Rattle.record_laws.specs.declared.line.Line.{Line}
use Rattle.record_laws.specs.declared.line.Line.TheVariants as says
use Rattle.record_text.specs.Grown.{with_image, with_take, with_turn}
use Rattle.record_reader.specs.Grow.{logs_in, with_line, with_log}
use Rattle.record_reader.specs.Order.{follows, stands_up_to}

-- ---- the last row

pub last_follows : (rows : List JournalRow) (r s : JournalRow) → Some s ≡ slice_get rows (length rows - 1) → stands_up_to s r ≡ follows rows r
last_follows [] r s is = absurd (cc)
last_follows (t ∷ []) r s is = ap (λ u. stands_up_to u r) (same_Some s t is)
last_follows (t ∷ u ∷ rows) r s is = last_follows (u ∷ rows) r s (is ∙ ap (slice_get (t ∷ u ∷ rows)) (back (length rows)))
  where
    back : (n : ℕ) → suc (suc n) - 1 ≡ suc (suc n - 1)
    back n = omega arith

-- ---- the log of the app on a device

abbrev pub app_at : List App → ℕ → ℕ
app_at apps device = position_or_len (λ (a : App). a.device.0 == device) apps

pub logged : (apps : List App) (device : ℕ) (change : AppLog → AppLog) (logs : List AppLog) (old : AppLog) → app_at apps device < length apps →
    length logs ≡ length apps → old ≡ get_or logs (app_at apps device) old → set logs (app_at apps device) (change old) ≡ with_log apps device change logs
logged [] device change logs old there count is = absurd (omega arith)
logged (a ∷ apps) device change [] old there count is = absurd (omega arith)
logged (a ∷ apps) device change (l ∷ logs) old there count is =
    elim (cases_Bool (a.device.0 == device)) [
      | inl here ↦
          let place : app_at (a ∷ apps) device ≡ 0 = rw here refl in
          let same : old ≡ l = is ∙ ap (λ n. get_or (l ∷ logs) n old) place in
          ap (λ n. set (l ∷ logs) n (change old)) place ∙ (ap (λ m. change m ∷ logs) same ∙ sym (ap (λ b. if b then change l ∷ logs else l ∷ with_log apps device change logs) here))
      | inr other ↦
          let place : app_at (a ∷ apps) device ≡ suc (app_at apps device) = rw other (one_more (app_at apps device)) in
          let more : app_at apps device < length apps = omega (arith, place, there) in
          ap (λ n. set (l ∷ logs) n (change old)) place
          ∙ (ap (λ ls. l ∷ ls) (logged apps device change logs old more (omega arith) (is ∙ ap (λ n. get_or (l ∷ logs) n old) place))
          ∙ sym (ap (λ b. if b then change l ∷ logs else l ∷ with_log apps device change logs) other))
    ]
  where
    one_more : (n : ℕ) → 1 + n ≡ suc n
    one_more n = omega arith

unchanged : (apps : List App) (device : ℕ) (change : AppLog → AppLog) (logs : List AppLog) → length logs ≡ length apps → (app_at apps device < length apps → ⊥) →
    logs ≡ with_log apps device change logs
unchanged [] device change logs count none = refl
unchanged (a ∷ apps) device change [] count none = absurd (omega arith)
unchanged (a ∷ apps) device change (l ∷ logs) count none =
    elim (cases_Bool (a.device.0 == device)) [
      | inl here ↦ absurd (none (rw here (omega arith)))
      | inr other ↦
          ap (λ ls. l ∷ ls) (unchanged apps device change logs (omega arith) (λ there. none (rw other (omega (arith, there)))))
          ∙ sym (ap (λ b. if b then change l ∷ logs else l ∷ with_log apps device change logs) other)
    ]

pub found_within : (m n i : ℕ) → cond (nat_lt m n) (Some m) None ≡ Some i → (m < n) × (m ≡ i)
found_within m n i is =
    elim (cases_Bool (nat_lt m n)) [
      | inl small ↦ (below m n small, same_Some m i (rw small at is))
      | inr large ↦ absurd (none-some i (rw large at is))
    ]
  where
    below : (m n : ℕ) → nat_lt m n ≡ true → m < n
    below m n test = grind (arith, nat_tests)

none_within : (m n : ℕ) → cond (nat_lt m n) (Some m) None ≡ None → m < n → ⊥
none_within m n is small = none-some m (sym is ∙ ap (λ b. cond b (Some m) None) (passes m n small))
  where
    passes : (m n : ℕ) → m < n → nat_lt m n ≡ true
    passes m n small = grind (arith, nat_tests)

on_ok : {A E : Type 0} (r : Result A E) (P Q : Type 0) → OnOk r P → (P → Q) → OnOk r Q
on_ok (Ok x) P Q p f = f p
on_ok (Err e) P Q p f = tt

pub pushed : {A E : Type 0} (plant : Plant) (device n : ℕ) (change : AppLog → AppLog) (logs : List AppLog) (old new : AppLog) (r : Result A E) →
    length logs ≡ length plant.apps → Some n ≡ app_on plant device → old ≡ get_or logs n old → OnOk r (new ≡ change old) →
    OnOk r (set logs n new ≡ with_log plant.apps device change logs)
pushed plant device n change logs old new r count at is grown =
    let (there, place) = found_within (app_at plant.apps device) (length plant.apps) n (sym at) in
    on_ok r (new ≡ change old) (set logs n new ≡ with_log plant.apps device change logs) grown
    (λ same. (λ i. set logs (sym place i) (same i)) ∙ logged plant.apps device change logs old there count (is ∙ ap (λ m. get_or logs m old) (sym place)))

pub not_pushed : (plant : Plant) (device : ℕ) (change : AppLog → AppLog) (logs : List AppLog) → length logs ≡ length plant.apps → None ≡ app_on plant device →
    logs ≡ with_log plant.apps device change logs
not_pushed plant device change logs count at =
    unchanged plant.apps device change logs count (none_within (app_at plant.apps device) (length plant.apps) (sym at))

-- ---- what lines say of each app

pub length-logs_in : (plant : Plant) (lines : List Line) → length (logs_in plant lines) ≡ length plant.apps
length-logs_in plant lines = counted plant.apps
  where
    counted : (apps : List App) → length (map (λ (a : App). log_in lines a.device.0) apps) ≡ length apps
    counted [] = refl
    counted (a ∷ apps) = ap (λ n. suc n) (counted apps)

pub one_more_line : {X : Type 0} (f : Line → List X) (lines : List Line) (line : Line) → flat_map f (lines ++ line ∷ []) ≡ flat_map f lines ++ f line
one_more_line f lines line = flat_map-append f lines (line ∷ []) ∙ ap (λ xs. flat_map f lines ++ xs) (append-nil (f line))

abbrev log_of : List Given → List (List ℕ) → List Turn → AppLog
log_of takes images turns = record { takes = takes; images = images; turns = turns }

log_more : (lines : List Line) (line : Line) (device : ℕ) → log_in (lines ++ line ∷ []) device ≡
    log_of (flat_map (takes_in device) lines ++ takes_in device line) (flat_map (images_in device) lines ++ images_in device line) (flat_map (turns_in device) lines ++ turns_in device line)
log_more lines line device = (λ i. log_of (one_more_line (takes_in device) lines line i) (one_more_line (images_in device) lines line i) (one_more_line (turns_in device) lines line i))

-- a line that says nothing of an app
nothing_more : (lines : List Line) (line : Line) (device : ℕ) → takes_in device line ≡ [] → images_in device line ≡ [] → turns_in device line ≡ [] →
    log_in (lines ++ line ∷ []) device ≡ log_in lines device
nothing_more lines line device takes images turns =
    log_more lines line device
    ∙ ((λ i. log_of (flat_map (takes_in device) lines ++ takes i) (flat_map (images_in device) lines ++ images i) (flat_map (turns_in device) lines ++ turns i))
    ∙ (λ i. log_of (append-nil (flat_map (takes_in device) lines) i) (append-nil (flat_map (images_in device) lines) i) (append-nil (flat_map (turns_in device) lines) i)))

-- what a line says of the apps on other devices, and on its own
pub record IsOf (lines : List Line) (line : Line) (device : ℕ) (change : AppLog → AppLog) : Type 0 where
  pub other : (d : ℕ) → (device == d) ≡ false → log_in (lines ++ line ∷ []) d ≡ log_in lines d
  pub own : log_in (lines ++ line ∷ []) device ≡ change (log_in lines device)

turned : (m n : ℕ) → (m == n) ≡ false → (n == m) ≡ false
turned m n is = grind (arith, nat_tests)

same_number : (m n : ℕ) → (m == n) ≡ true → m ≡ n
same_number m n is = grind (arith, nat_tests)

itself : (n : ℕ) → (n == n) ≡ true
itself n = grind (arith, nat_tests)

all_other : (apps : List App) (lines : List Line) (line : Line) (device : ℕ) (change : AppLog → AppLog) → IsOf lines line device change → (a : App) → a.device.0 ≡ device →
    AllByRecursion (λ e. same_app_device a e ≡ false) apps →
    map (λ (a : App). log_in (lines ++ line ∷ []) a.device.0) apps ≡ map (λ (a : App). log_in lines a.device.0) apps
all_other [] lines line device change is a own others = refl
all_other (e ∷ apps) lines line device change is a own others =
    (λ i. is.other e.device.0 (ap (λ n. n == e.device.0) (sym own) ∙ others.0) i ∷ all_other apps lines line device change is a own others.1 i)

grown_logs : (apps : List App) (lines : List Line) (line : Line) (device : ℕ) (change : AppLog → AppLog) → IsOf lines line device change → IsDistinct same_app_device apps →
    with_log apps device change (map (λ (a : App). log_in lines a.device.0) apps) ≡ map (λ (a : App). log_in (lines ++ line ∷ []) a.device.0) apps
unfolding IsDistinct
grown_logs [] lines line device change is differ = refl
grown_logs (a ∷ apps) lines line device change is differ =
    elim (cases_Bool (a.device.0 == device)) [
      | inl here ↦
          let own = same_number a.device.0 device here in
          ap (λ b. if b then change old ∷ olds else old ∷ with_log apps device change olds) here
          ∙ (λ i. (ap (λ n. change (log_in lines n)) own ∙ (sym is.own ∙ ap (log_in (lines ++ line ∷ [])) (sym own))) i ∷ sym (all_other apps lines line device change is a own differ.0) i)
      | inr other ↦
          ap (λ b. if b then change old ∷ olds else old ∷ with_log apps device change olds) other
          ∙ (λ i. sym (is.other a.device.0 (turned a.device.0 device other)) i ∷ grown_logs apps lines line device change is differ.1 i)
    ]
  where
    old : AppLog
    old = log_in lines a.device.0

    olds : List AppLog
    olds = map (λ (a : App). log_in lines a.device.0) apps

same_logs : (apps : List App) (lines : List Line) (line : Line) → ((d : ℕ) → log_in (lines ++ line ∷ []) d ≡ log_in lines d) →
    map (λ (a : App). log_in lines a.device.0) apps ≡ map (λ (a : App). log_in (lines ++ line ∷ []) a.device.0) apps
same_logs [] lines line same = refl
same_logs (a ∷ apps) lines line same = (λ i. sym (same a.device.0) i ∷ same_logs apps lines line same i)

-- what lines and one more say of each app
pub logs_more : (plant : Plant) (lines : List Line) (line : Line) → IsDistinct same_app_device plant.apps →
    with_line plant (logs_in plant lines) line ≡ logs_in plant (lines ++ line ∷ [])
logs_more plant lines (says.Take k device g) differ =
    grown_logs plant.apps lines (says.Take k device g) device.0 (λ log. with_take log g)
    (record {
      other = λ d other. nothing_more lines (says.Take k device g) d (ap (λ b. if b then g ∷ [] else []) other) refl refl;
      own = log_more lines (says.Take k device g) device.0
          ∙ ((λ i. log_of (flat_map (takes_in device.0) lines ++ (if itself device.0 i then g ∷ [] else [])) (flat_map (images_in device.0) lines ++ []) (flat_map (turns_in device.0) lines ++ []))
          ∙ (λ i. log_of (flat_map (takes_in device.0) lines ++ g ∷ []) (append-nil (flat_map (images_in device.0) lines) i) (append-nil (flat_map (turns_in device.0) lines) i)));
    }) differ
logs_more plant lines (says.Row r) differ = same_logs plant.apps lines (says.Row r) (λ d. nothing_more lines (says.Row r) d refl refl refl)
logs_more plant lines (says.Image k device words) differ =
    grown_logs plant.apps lines (says.Image k device words) device.0 (λ log. with_image log words)
    (record {
      other = λ d other. nothing_more lines (says.Image k device words) d refl (ap (λ b. if b then words ∷ [] else []) other) refl;
      own = log_more lines (says.Image k device words) device.0
          ∙ ((λ i. log_of (flat_map (takes_in device.0) lines ++ []) (flat_map (images_in device.0) lines ++ (if itself device.0 i then words ∷ [] else [])) (flat_map (turns_in device.0) lines ++ []))
          ∙ (λ i. log_of (append-nil (flat_map (takes_in device.0) lines) i) (flat_map (images_in device.0) lines ++ words ∷ []) (append-nil (flat_map (turns_in device.0) lines) i)));
    }) differ
logs_more plant lines (says.Turn device number t) differ =
    grown_logs plant.apps lines (says.Turn device number t) device.0 (λ log. with_turn log t)
    (record {
      other = λ d other. nothing_more lines (says.Turn device number t) d refl refl (ap (λ b. if b then t ∷ [] else []) other);
      own = log_more lines (says.Turn device number t) device.0
          ∙ ((λ i. log_of (flat_map (takes_in device.0) lines ++ []) (flat_map (images_in device.0) lines ++ []) (flat_map (turns_in device.0) lines ++ (if itself device.0 i then t ∷ [] else [])))
          ∙ (λ i. log_of (append-nil (flat_map (takes_in device.0) lines) i) (append-nil (flat_map (images_in device.0) lines) i) (flat_map (turns_in device.0) lines ++ t ∷ [])));
    }) differ
logs_more plant lines (says.Last cycles a b c) differ = same_logs plant.apps lines (says.Last cycles a b c) (λ d. nothing_more lines (says.Last cycles a b c) d refl refl refl)

-- before the first line
abbrev no_log : AppLog
no_log = log_of [] [] []

empty_next : (apps : List App) (i : ℕ) → i < length apps → map (λ (a : App). log_in [] a.device.0) (take (i + 1) apps) ≡ map (λ (a : App). log_in [] a.device.0) (take i apps) ++ no_log ∷ []
empty_next [] i within = absurd (omega arith)
empty_next (a ∷ apps) zero within = refl
empty_next (a ∷ apps) (suc i) within = ap (λ n. map (λ (a : App). log_in [] a.device.0) (take n (a ∷ apps))) (next i) ∙ ap (λ ls. no_log ∷ ls) (empty_next apps i (omega arith))
  where
    next : (i : ℕ) → suc i + 1 ≡ suc (i + 1)
    next i = omega arith

pub empty_more : (apps : List App) (i : ℕ) (old new : List AppLog) (log : AppLog) → i < length apps → log ≡ no_log → old ≡ map (λ (a : App). log_in [] a.device.0) (take i apps) →
    new ≡ old ++ log ∷ [] → new ≡ map (λ (a : App). log_in [] a.device.0) (take (i + 1) apps)
empty_more apps i old new log within empty so_far grown = grown ∙ ((λ j. so_far j ++ empty j ∷ []) ∙ sym (empty_next apps i within))
