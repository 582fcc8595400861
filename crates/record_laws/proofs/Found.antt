-- What the lines of a record say is the record.
use Rattle.std.proofs.Common.{◌≡◌, ◌<◌, ◌+◌, ◌==◌, ℕ, zero, suc, Bool, true, false, List, [], ◌∷◌, ◌++◌, length, map, Some, refl, sym, ◌∙◌, ap, subst, arith, append-nil}
use Rattle.std.specs.Prelude.{if◌then◌else◌, slice_get, zip}
use Rattle.std.specs.List.{AllByRecursion, IsDistinct, flat_map, range_with_len}
use Rattle.std.proofs.lemmas.Bool.Decides.{nat_tests}
use Rattle.std.proofs.lemmas.Option.{none-some, same_Some}
use Rattle.cycle_rows.specs.Rows.{cycle_of}
use Rattle.cycle_rows.specs.declared.rows.JournalRow.{JournalRow}
use Rattle.io_buffers.specs.Given.{Given}
use Rattle.irt_base.specs.declared.numbers.DevId.{DevId}
use Rattle.irt_base.specs.declared.plants.App.{App}
use Rattle.irt_base.specs.declared.plants.Plant.{Plant}
use Rattle.iso_rules.specs.Lockstep.{AppLog, RunRecord}
use Rattle.iso_rules.specs.declared.turn.Turn.{Turn}
use Rattle.plant_rules.specs.Meets.{MeetsRules}
use Rattle.plant_rules.specs.Words.{same_app_device}
use Rattle.record_text.specs.Text.{record_text, rows_of_cycle}
use Rattle.record_laws.specs.Fitting.{IsLogOf, IsRecordOf, IsRowOf}
use Rattle.record_laws.specs.Lines.{at_place, of_turns, of_takes, of_images, of_rows, of_cycle, of_cycles, of_all_turns, lines_of, takes_in, images_in, turns_in, rows_in, cycles_in, log_in}
use Rattle.record_laws.specs.declared.line.Line.{Line}
use Rattle.record_laws.specs.declared.line.Line.TheVariants as says
use Rattle.record_laws.proofs.LineCut.{lines_same}
use Rattle.record_laws.proofs.LinesFit.{lines_fit}
use Rattle.record_laws.proofs.RowsFound.{rows_found}
use Rattle.record_laws.proofs.Through.{flat_map-same, lines_text, through}

-- ---- what is empty

nothing : {X Y : Type 0} (f : X → List Y) (xs : List X) → ((x : X) → f x ≡ []) → flat_map f xs ≡ []
nothing f [] none = refl
nothing f (x ∷ xs) none = (λ i. none x i ++ nothing f xs none i)

nothing_there : {X Y : Type 0} (f : X → List Y) (xs : List X) (k : ℕ) → ((x : X) → f x ≡ []) → at_place f xs k ≡ []
nothing_there f [] k none = refl
nothing_there f (x ∷ xs) zero none = none x
nothing_there f (x ∷ xs) (suc k) none = nothing_there f xs k none

nothing_of_turns : {Y : Type 0} (f : Line → List Y) (device : DevId) (number : ℕ) (ts : List Turn) → ((n : ℕ) (t : Turn) → f (says.Turn device n t) ≡ []) → of_turns f device number ts ≡ []
nothing_of_turns f device number [] none = refl
nothing_of_turns f device number (t ∷ ts) none = (λ i. none number t i ++ nothing_of_turns f device (number + 1) ts none i)

-- ---- the lists of one app

-- a list of the app on a device, where it is this one
abbrev pick : {Y : Type 0} → Bool → List Y → List Y
pick b ys = if b then ys else []

pick_place : {X : Type 0} (b : Bool) (xs : List X) (k : ℕ) → at_place (λ x. pick b (x ∷ [])) xs k ≡ pick b (at_place (λ x. x ∷ []) xs k)
pick_place true xs k = refl
pick_place false xs k = nothing_there (λ x. pick false (x ∷ [])) xs k (λ x. refl)

pick_turns : (device : ℕ) (d : DevId) (number : ℕ) (b : Bool) (ts : List Turn) → (d.0 == device) ≡ b → of_turns (turns_in device) d number ts ≡ pick b ts
pick_turns device d number true [] is = refl
pick_turns device d number true (t ∷ ts) is =
    ap (λ b. pick b (t ∷ []) ++ of_turns (turns_in device) d (number + 1) ts) is ∙ ap (λ xs. t ∷ xs) (pick_turns device d (number + 1) true ts is)
pick_turns device d number false ts is = nothing_of_turns (turns_in device) d number ts (λ n t. ap (λ b. pick b (t ∷ [])) is)

not_picked : {Y : Type 0} (a : App) (apps : List App) (logs : List AppLog) (h : AppLog → List Y) → AllByRecursion (λ e. same_app_device a e ≡ false) apps →
    flat_map (λ (p : App × AppLog). pick (p.0.device.0 == a.device.0) (h p.1)) (zip apps logs) ≡ []
not_picked a [] logs h others = refl
not_picked a (e ∷ apps) [] h others = refl
not_picked a (e ∷ apps) (l ∷ logs) h others = ap (λ b. pick b (h l) ++ flat_map (λ (p : App × AppLog). pick (p.0.device.0 == a.device.0) (h p.1)) (zip apps logs)) (turned a.device.0 e.device.0 others.0)
    ∙ not_picked a apps logs h others.1
  where
    turned : (m n : ℕ) → (m == n) ≡ false → (n == m) ≡ false
    turned m n is = grind (arith, nat_tests)

other_at : (a e : App) (apps : List App) (n : ℕ) → AllByRecursion (λ e. same_app_device a e ≡ false) apps → slice_get apps n ≡ Some e → same_app_device a e ≡ false
other_at a e [] n others is = absurd (none-some e is)
other_at a e (f ∷ apps) zero others is = ap (same_app_device a) (sym (same_Some f e is)) ∙ others.0
other_at a e (f ∷ apps) (suc n) others is = other_at a e apps n others.1 is

picked : {Y : Type 0} (apps : List App) (logs : List AppLog) (h : AppLog → List Y) (n : ℕ) (a : App) (l : AppLog) → IsDistinct same_app_device apps →
    slice_get apps n ≡ Some a → slice_get logs n ≡ Some l → flat_map (λ (p : App × AppLog). pick (p.0.device.0 == a.device.0) (h p.1)) (zip apps logs) ≡ h l
unfolding IsDistinct
picked [] logs h n a l differ is also = absurd (none-some a is)
picked (e ∷ apps) [] h n a l differ is also = absurd (none-some l also)
picked (e ∷ apps) (m ∷ logs) h zero a l differ is also =
    let app : e ≡ a = same_Some e a is in
    ap (λ (f : App). flat_map (λ (p : App × AppLog). pick (p.0.device.0 == f.device.0) (h p.1)) (zip (e ∷ apps) (m ∷ logs))) (sym app)
    ∙ (ap (λ b. pick b (h m) ++ flat_map (λ (p : App × AppLog). pick (p.0.device.0 == e.device.0) (h p.1)) (zip apps logs)) (itself e.device.0)
    ∙ (ap (λ ys. h m ++ ys) (not_picked e apps logs h differ.0) ∙ (append-nil (h m) ∙ ap h (same_Some m l also))))
  where
    itself : (k : ℕ) → (k == k) ≡ true
    itself k = grind (arith, nat_tests)
picked (e ∷ apps) (m ∷ logs) h (suc n) a l differ is also =
    ap (λ b. pick b (h m) ++ flat_map (λ (p : App × AppLog). pick (p.0.device.0 == a.device.0) (h p.1)) (zip apps logs)) (other_at e a apps n differ.0 is)
    ∙ picked apps logs h n a l differ.1 is also

-- ---- all places of a list

shift : {Y : Type 0} (f : ℕ → List Y) (a n : ℕ) → flat_map f (range_with_len (a + 1) n) ≡ flat_map (λ k. f (suc k)) (range_with_len a n)
shift f a zero = refl
shift f a (suc n) = (λ i. f (next a i) ++ shift f (a + 1) n i)
  where
    next : (a : ℕ) → a + 1 ≡ suc a
    next a = omega arith

all_places : {X : Type 0} (xs : List X) (n : ℕ) → length xs ≡ n → flat_map (λ k. at_place (λ x. x ∷ []) xs k) (range_with_len 0 n) ≡ xs
all_places [] zero count = refl
all_places [] (suc n) count = absurd (omega arith)
all_places (x ∷ xs) zero count = absurd (omega arith)
all_places (x ∷ xs) (suc n) count =
    ap (λ ys. x ∷ ys) (shift (λ k. at_place (λ x. x ∷ []) (x ∷ xs) k) 0 n ∙ all_places xs n (omega arith))

-- ---- an app's log

nothing_after : {Y : Type 0} (xs ys zs : List Y) → ys ≡ [] → zs ≡ [] → xs ++ (ys ++ zs) ≡ xs
nothing_after xs ys zs first late = (λ i. xs ++ (first i ++ late i)) ∙ append-nil xs

nothing_around : {Y : Type 0} (xs ys zs : List Y) → xs ≡ [] → zs ≡ [] → xs ++ (ys ++ zs) ≡ ys
nothing_around xs ys zs first late = (λ i. first i ++ (ys ++ late i)) ∙ append-nil ys

takes_found : (plant : Plant) (cycles : ℕ) (r : RunRecord JournalRow) (n : ℕ) (a : App) (l : AppLog) → IsDistinct same_app_device plant.apps →
    slice_get plant.apps n ≡ Some a → slice_get r.apps n ≡ Some l → length l.takes ≡ cycles → flat_map (takes_in a.device.0) (lines_of plant cycles r) ≡ l.takes
takes_found plant cycles r n a l differ is also count =
    through (takes_in a.device.0) plant cycles r
    ∙ (nothing_after (of_cycles f plant cycles r) (of_all_turns f plant r.apps) [] no_turns refl
    ∙ (flat_map-same (λ k. of_cycle f plant r k) (λ k. at_place (λ g. g ∷ []) l.takes k) (range_with_len 0 cycles) in_cycle ∙ all_places l.takes cycles count))
  where
    f : Line → List Given
    f line = takes_in a.device.0 line

    no_turns : of_all_turns f plant r.apps ≡ []
    no_turns = nothing (λ (p : App × AppLog). of_turns f p.0.device 0 p.1.turns) (zip plant.apps r.apps) (λ p. nothing_of_turns f p.0.device 0 p.1.turns (λ n t. refl))

    in_cycle : (k : ℕ) → of_cycle f plant r k ≡ at_place (λ g. g ∷ []) l.takes k
    in_cycle k =
        nothing_after (of_takes f plant r.apps k) (of_rows f (rows_of_cycle k r.journal)) (of_images f plant r.apps k)
        (nothing (λ s. f (says.Row s)) (rows_of_cycle k r.journal) (λ s. refl))
        (nothing (λ (p : App × AppLog). at_place (λ words. f (says.Image k p.0.device words)) p.1.images k) (zip plant.apps r.apps)
        (λ p. nothing_there (λ words. f (says.Image k p.0.device words)) p.1.images k (λ words. refl)))
        ∙ (flat_map-same (λ (p : App × AppLog). at_place (λ g. f (says.Take k p.0.device g)) p.1.takes k)
        (λ (p : App × AppLog). pick (p.0.device.0 == a.device.0) (at_place (λ g. g ∷ []) p.1.takes k)) (zip plant.apps r.apps)
        (λ p. pick_place (p.0.device.0 == a.device.0) p.1.takes k)
        ∙ picked plant.apps r.apps (λ (log : AppLog). at_place (λ g. g ∷ []) log.takes k) n a l differ is also)

images_found : (plant : Plant) (cycles : ℕ) (r : RunRecord JournalRow) (n : ℕ) (a : App) (l : AppLog) → IsDistinct same_app_device plant.apps →
    slice_get plant.apps n ≡ Some a → slice_get r.apps n ≡ Some l → length l.images ≡ cycles → flat_map (images_in a.device.0) (lines_of plant cycles r) ≡ l.images
images_found plant cycles r n a l differ is also count =
    through (images_in a.device.0) plant cycles r
    ∙ (nothing_after (of_cycles f plant cycles r) (of_all_turns f plant r.apps) [] no_turns refl
    ∙ (flat_map-same (λ k. of_cycle f plant r k) (λ k. at_place (λ words. words ∷ []) l.images k) (range_with_len 0 cycles) in_cycle ∙ all_places l.images cycles count))
  where
    f : Line → List (List ℕ)
    f line = images_in a.device.0 line

    no_turns : of_all_turns f plant r.apps ≡ []
    no_turns = nothing (λ (p : App × AppLog). of_turns f p.0.device 0 p.1.turns) (zip plant.apps r.apps) (λ p. nothing_of_turns f p.0.device 0 p.1.turns (λ n t. refl))

    before : (k : ℕ) → of_takes f plant r.apps k ≡ []
    before k = nothing (λ (p : App × AppLog). at_place (λ g. f (says.Take k p.0.device g)) p.1.takes k) (zip plant.apps r.apps)
        (λ p. nothing_there (λ g. f (says.Take k p.0.device g)) p.1.takes k (λ g. refl))

    in_cycle : (k : ℕ) → of_cycle f plant r k ≡ at_place (λ words. words ∷ []) l.images k
    in_cycle k =
        (λ i. before k i ++ (nothing (λ s. f (says.Row s)) (rows_of_cycle k r.journal) (λ s. refl) i ++ of_images f plant r.apps k))
        ∙ (flat_map-same (λ (p : App × AppLog). at_place (λ words. f (says.Image k p.0.device words)) p.1.images k)
        (λ (p : App × AppLog). pick (p.0.device.0 == a.device.0) (at_place (λ words. words ∷ []) p.1.images k)) (zip plant.apps r.apps)
        (λ p. pick_place (p.0.device.0 == a.device.0) p.1.images k)
        ∙ picked plant.apps r.apps (λ (log : AppLog). at_place (λ words. words ∷ []) log.images k) n a l differ is also)

-- what gives nothing of takes, rows and images gives nothing of cycles
no_cycles : {Y : Type 0} (f : Line → List Y) (plant : Plant) (cycles : ℕ) (r : RunRecord JournalRow) → ((k : ℕ) (d : DevId) (g : Given) → f (says.Take k d g) ≡ []) →
    ((s : JournalRow) → f (says.Row s) ≡ []) → ((k : ℕ) (d : DevId) (words : List ℕ) → f (says.Image k d words) ≡ []) → of_cycles f plant cycles r ≡ []
no_cycles f plant cycles r takes rows images =
    nothing (λ k. of_cycle f plant r k) (range_with_len 0 cycles)
    (λ k.
    (λ i.
    nothing (λ (p : App × AppLog). at_place (λ g. f (says.Take k p.0.device g)) p.1.takes k) (zip plant.apps r.apps)
    (λ p. nothing_there (λ g. f (says.Take k p.0.device g)) p.1.takes k (takes k p.0.device)) i
    ++ (nothing (λ s. f (says.Row s)) (rows_of_cycle k r.journal) rows i
    ++ nothing (λ (p : App × AppLog). at_place (λ words. f (says.Image k p.0.device words)) p.1.images k) (zip plant.apps r.apps)
    (λ p. nothing_there (λ words. f (says.Image k p.0.device words)) p.1.images k (images k p.0.device)) i)))

turns_found : (plant : Plant) (cycles : ℕ) (r : RunRecord JournalRow) (n : ℕ) (a : App) (l : AppLog) → IsDistinct same_app_device plant.apps →
    slice_get plant.apps n ≡ Some a → slice_get r.apps n ≡ Some l → flat_map (turns_in a.device.0) (lines_of plant cycles r) ≡ l.turns
turns_found plant cycles r n a l differ is also =
    through (turns_in a.device.0) plant cycles r
    ∙ (nothing_around (of_cycles f plant cycles r) (of_all_turns f plant r.apps) [] (no_cycles f plant cycles r (λ k d g. refl) (λ s. refl) (λ k d words. refl)) refl
    ∙ (flat_map-same (λ (p : App × AppLog). of_turns f p.0.device 0 p.1.turns) (λ (p : App × AppLog). pick (p.0.device.0 == a.device.0) p.1.turns) (zip plant.apps r.apps)
    (λ p. pick_turns a.device.0 p.0.device 0 (p.0.device.0 == a.device.0) p.1.turns refl)
    ∙ picked plant.apps r.apps (λ (log : AppLog). log.turns) n a l differ is also))
  where
    f : Line → List Turn
    f line = turns_in a.device.0 line

-- ---- the whole record

journal_found : (plant : Plant) (cycles : ℕ) (r : RunRecord JournalRow) → IsRecordOf plant cycles r → flat_map rows_in (lines_of plant cycles r) ≡ r.journal
journal_found plant cycles r fits =
    through rows_in plant cycles r
    ∙ (nothing_after (of_cycles rows_in plant cycles r) (of_all_turns rows_in plant r.apps) [] no_turns refl
    ∙ (flat_map-same (λ k. of_cycle rows_in plant r k) (λ k. rows_of_cycle k r.journal) (range_with_len 0 cycles) in_cycle
    ∙ rows_found cycles r.journal fits.order (cycles_below r.journal fits.rows)))
  where
    no_turns : of_all_turns rows_in plant r.apps ≡ []
    no_turns = nothing (λ (p : App × AppLog). of_turns rows_in p.0.device 0 p.1.turns) (zip plant.apps r.apps)
        (λ p. nothing_of_turns rows_in p.0.device 0 p.1.turns (λ n t. refl))

    singles : (rows : List JournalRow) → flat_map (λ s. s ∷ []) rows ≡ rows
    singles [] = refl
    singles (s ∷ rows) = ap (λ xs. s ∷ xs) (singles rows)

    in_cycle : (k : ℕ) → of_cycle rows_in plant r k ≡ rows_of_cycle k r.journal
    in_cycle k =
        nothing_around (of_takes rows_in plant r.apps k) (of_rows rows_in (rows_of_cycle k r.journal)) (of_images rows_in plant r.apps k)
        (nothing (λ (p : App × AppLog). at_place (λ g. rows_in (says.Take k p.0.device g)) p.1.takes k) (zip plant.apps r.apps)
        (λ p. nothing_there (λ g. rows_in (says.Take k p.0.device g)) p.1.takes k (λ g. refl)))
        (nothing (λ (p : App × AppLog). at_place (λ words. rows_in (says.Image k p.0.device words)) p.1.images k) (zip plant.apps r.apps)
        (λ p. nothing_there (λ words. rows_in (says.Image k p.0.device words)) p.1.images k (λ words. refl)))
        ∙ singles (rows_of_cycle k r.journal)

    cycles_below : (rows : List JournalRow) → AllByRecursion (IsRowOf plant cycles) rows → AllByRecursion (λ (s : JournalRow). cycle_of s < cycles) rows
    cycles_below [] all = tt
    cycles_below (s ∷ rows) all = (all.0.cycle, cycles_below rows all.1)

count_found : (plant : Plant) (cycles : ℕ) (r : RunRecord JournalRow) → flat_map cycles_in (lines_of plant cycles r) ≡ cycles ∷ []
count_found plant cycles r =
    through cycles_in plant cycles r
    ∙ (λ i. no_cycles cycles_in plant cycles r (λ k d g. refl) (λ s. refl) (λ k d words. refl) i ++ (no_turns i ++ cycles ∷ []))
  where
    no_turns : of_all_turns cycles_in plant r.apps ≡ []
    no_turns = nothing (λ (p : App × AppLog). of_turns cycles_in p.0.device 0 p.1.turns) (zip plant.apps r.apps)
        (λ p. nothing_of_turns cycles_in p.0.device 0 p.1.turns (λ n t. refl))

-- each item of one list is made of that of the other
made_of : {A X : Type 0} (f : A → X) (items : List A) (xs : List X) → length xs ≡ length items →
    ((n : ℕ) (a : A) (x : X) → slice_get items n ≡ Some a → slice_get xs n ≡ Some x → f a ≡ x) → xs ≡ map f items
made_of f [] [] count each = refl
made_of f [] (x ∷ xs) count each = absurd (omega arith)
made_of f (a ∷ items) [] count each = absurd (omega arith)
made_of f (a ∷ items) (x ∷ xs) count each = (λ i. sym (each 0 a x refl refl) i ∷ made_of f items xs (omega arith) (λ n b y is also. each (suc n) b y is also) i)

log_fits : (cycles : ℕ) (logs : List AppLog) (n : ℕ) (l : AppLog) → AllByRecursion (IsLogOf cycles) logs → slice_get logs n ≡ Some l → IsLogOf cycles l
log_fits cycles [] n l all is = absurd (none-some l is)
log_fits cycles (m ∷ logs) zero l all is = subst (IsLogOf cycles) (same_Some m l is) all.0
log_fits cycles (m ∷ logs) (suc n) l all is = log_fits cycles logs n l all.1 is

pub apps_found : (plant : Plant) (cycles : ℕ) (r : RunRecord JournalRow) → MeetsRules plant → IsRecordOf plant cycles r →
    r.apps ≡ map (λ (a : App). log_in (lines_of plant cycles r) a.device.0) plant.apps
apps_found plant cycles r rules fits = made_of (λ (a : App). log_in (lines_of plant cycles r) a.device.0) plant.apps r.apps fits.app_count each
  where
    log_of : List Given → List (List ℕ) → List Turn → AppLog
    log_of takes images turns = record { takes = takes; images = images; turns = turns }

    each : (n : ℕ) (a : App) (l : AppLog) → slice_get plant.apps n ≡ Some a → slice_get r.apps n ≡ Some l → log_in (lines_of plant cycles r) a.device.0 ≡ l
    each n a l is also =
        let fit = log_fits cycles r.apps n l fits.apps also in
        let takes = takes_found plant cycles r n a l rules.app_devices_differ is also fit.take_count in
        let images = images_found plant cycles r n a l rules.app_devices_differ is also fit.image_count in
        let turns = turns_found plant cycles r n a l rules.app_devices_differ is also in
        (λ i. log_of (takes i) (images i) (turns i))

pub record_found : (plant : Plant) (cycles others : ℕ) (r s : RunRecord JournalRow) → MeetsRules plant → IsRecordOf plant cycles r → IsRecordOf plant others s →
    record_text plant cycles r ≡ record_text plant others s → (cycles ≡ others) × (r ≡ s)
record_found plant cycles others r s rules fr fs same = (count, λ i. record_of (apps i) (journal i))
  where
    record_of : List AppLog → List JournalRow → RunRecord JournalRow
    record_of apps journal = record { apps = apps; journal = journal }

    lines : lines_of plant cycles r ≡ lines_of plant others s
    lines = lines_same plant cycles others (lines_of plant cycles r) (lines_of plant others s) rules (lines_fit plant cycles r rules fr) (lines_fit plant others s rules fs)
        (lines_text plant cycles r ∙ (same ∙ sym (lines_text plant others s)))

    counts : cycles ∷ [] ≡ others ∷ []
    counts = sym (count_found plant cycles r) ∙ (ap (flat_map cycles_in) lines ∙ count_found plant others s)

    count : cycles ≡ others
    count = cc counts

    journal : r.journal ≡ s.journal
    journal = sym (journal_found plant cycles r fr) ∙ (ap (flat_map rows_in) lines ∙ journal_found plant others s fs)

    apps : r.apps ≡ s.apps
    apps = apps_found plant cycles r rules fr ∙ (ap (λ (ls : List Line). map (λ (a : App). log_in ls a.device.0) plant.apps) lines ∙ sym (apps_found plant others s rules fs))
