-- One line more of a record stands behind all others.
use Rattle.std.proofs.Common.{◌≡◌, ◌≢◌, ◌<◌, ◌≤◌, ◌+◌, ◌==◌, ℕ, zero, suc, false, List, [], ◌∷◌, ◌++◌, length, set, Some, refl, sym, ◌∙◌, ap, arith, append_assoc, append-nil}
use Rattle.std.specs.Prelude.{slice_get}
use Rattle.std.specs.List.{AllByRecursion, flat_map, range_with_len}
use Rattle.std.proofs.lemmas.Bool.Decides.{nat_tests}
use Rattle.cycle_rows.specs.Rows.{cycle_of}
use Rattle.cycle_rows.specs.declared.rows.JournalRow.{JournalRow}
use Rattle.io_buffers.specs.Given.{Given}
use Rattle.irt_base.specs.declared.plants.App.{App}
use Rattle.irt_base.specs.declared.plants.Plant.{Plant}
use Rattle.iso_rules.specs.Lockstep.{AppLog, RunRecord}
use Rattle.iso_rules.specs.declared.turn.Turn.{Turn}
use Rattle.record_laws.specs.Lines.{at_place, of_all_turns, of_cycle, of_cycles, of_images, of_rows, of_takes, of_turns}
use Rattle.record_laws.specs.declared.line.Line.{Line}
use Rattle.record_laws.specs.declared.line.Line.TheVariants as says
use Rattle.record_text.specs.Grown.{with_image, with_take, with_turn}
use Rattle.record_text.specs.Text.{rows_of_cycle}
use Rattle.record_reader.proofs.Growth.{place_none, place_same, place_there, range_grows, rows_same, rows_there, turns_more, zip_grows, zip_none, zip_same}

abbrev pub record_of : List AppLog → List JournalRow → RunRecord JournalRow
record_of apps rows = record { apps = apps; journal = rows }

abbrev pub one : Line → List Line
one line = line ∷ []

-- the lines of so many cycles and of all turns
abbrev pub all_lines : Plant → ℕ → List AppLog → List JournalRow → List Line
all_lines plant limit apps rows = of_cycles one plant limit (record_of apps rows) ++ of_all_turns one plant apps

-- the lists of apps have at most so many items
abbrev pub Few : (AppLog → ℕ) → ℕ → List AppLog → Type 0
Few count k apps = (m : ℕ) (l : AppLog) → slice_get apps m ≡ Some l → count l ≤ k

-- and those of the apps behind one
abbrev pub FewAfter : (AppLog → ℕ) → ℕ → ℕ → List AppLog → Type 0
FewAfter count n k apps = (m : ℕ) (l : AppLog) → n < m → slice_get apps m ≡ Some l → count l ≤ k

abbrev pub takes_count : AppLog → ℕ
takes_count l = length l.takes

abbrev pub images_count : AppLog → ℕ
images_count l = length l.images

abbrev pub turns_count : AppLog → ℕ
turns_count l = length l.turns

abbrev pub Before : ℕ → List JournalRow → Type 0
Before k rows = AllByRecursion (λ (s : JournalRow). cycle_of s < k) rows

takes_none : (plant : Plant) (apps : List AppLog) (j : ℕ) → Few takes_count j apps → of_takes one plant apps j ≡ []
takes_none plant apps j few =
    zip_none (λ (p : App × AppLog). at_place (λ g. one (says.Take j p.0.device g)) p.1.takes j) plant.apps apps
    (λ m a l is also. place_none (λ g. one (says.Take j a.device g)) l.takes j (few m l also))

images_none : (plant : Plant) (apps : List AppLog) (j : ℕ) → Few images_count j apps → of_images one plant apps j ≡ []
images_none plant apps j few =
    zip_none (λ (p : App × AppLog). at_place (λ words. one (says.Image j p.0.device words)) p.1.images j) plant.apps apps
    (λ m a l is also. place_none (λ words. one (says.Image j a.device words)) l.images j (few m l also))

rows_none : (rows : List JournalRow) (k j : ℕ) → Before k rows → k ≤ j → rows_of_cycle j rows ≡ []
rows_none [] k j before past = refl
rows_none (s ∷ rows) k j before past = rw (differ (cycle_of s) j (omega (arith, before.0))) (rows_none rows k j before.1 past)
  where
    differ : (m n : ℕ) → m < n → (m == n) ≡ false
    differ m n below = grind (arith, nat_tests)

pub turns_none : (plant : Plant) (apps : List AppLog) → Few turns_count 0 apps → of_all_turns one plant apps ≡ []
turns_none plant apps few =
    zip_none (λ (p : App × AppLog). of_turns one p.0.device 0 p.1.turns) plant.apps apps
    (λ m a l is also. empty a l.turns (few m l also))
  where
    empty : (a : App) (ts : List Turn) → length ts ≤ 0 → of_turns one a.device 0 ts ≡ []
    empty a [] none = refl
    empty a (t ∷ ts) none = absurd (omega arith)

pub cycle_none : (plant : Plant) (apps : List AppLog) (rows : List JournalRow) (k j : ℕ) → Few takes_count j apps → Few images_count j apps → Before k rows → k ≤ j →
    of_cycle one plant (record_of apps rows) j ≡ []
cycle_none plant apps rows k j takes images before past =
    (λ i. takes_none plant apps j takes i ++ (of_rows one (rows_none rows k j before past i) ++ images_none plant apps j images i))

-- a list behind which nothing stands
behind : (a b c x : List Line) → b ≡ [] → c ≡ [] → (a ++ x) ++ (b ++ c) ≡ (a ++ (b ++ c)) ++ x
behind a b c x first second = (λ i. (a ++ x) ++ (first i ++ second i)) ∙ (append-nil (a ++ x) ∙ (ap (λ y. y ++ x) (sym (append-nil a)) ∙ (λ i. (a ++ (sym first i ++ sym second i)) ++ x)))

-- no turn stands behind
no_turns : (a b c : List Line) (x : Line) (d e : List Line) → a ≡ b ++ x ∷ [] → c ≡ [] → d ≡ [] → a ++ c ≡ (b ++ d) ++ x ∷ []
no_turns a b c x d e grown none also = (λ i. grown i ++ none i) ∙ (append-nil (b ++ x ∷ []) ∙ (λ i. sym (append-nil b) i ++ x ∷ []) ∙ (λ i. (b ++ sym also i) ++ x ∷ []))

-- the turns of apps of which one has another log with the same turns
turns_kept : (plant : Plant) (apps : List AppLog) (n : ℕ) (l new : AppLog) → slice_get apps n ≡ Some l → new.turns ≡ l.turns →
    of_all_turns one plant (set apps n new) ≡ of_all_turns one plant apps
turns_kept plant apps n l new is same =
    zip_same (λ (p : App × AppLog). of_turns one p.0.device 0 p.1.turns) plant.apps apps n l new is (λ a. ap (of_turns one a.device 0) same)

pub take_added : (plant : Plant) (limit : ℕ) (apps : List AppLog) (rows : List JournalRow) (n k : ℕ) (a : App) (l : AppLog) (g : Given) →
    slice_get plant.apps n ≡ Some a → slice_get apps n ≡ Some l → length l.takes ≡ k → k < limit → Few takes_count (k + 1) apps → FewAfter takes_count n k apps →
    Few images_count k apps → Few turns_count 0 apps → Before k rows →
    all_lines plant limit (set apps n (with_take l g)) rows ≡ all_lines plant limit apps rows ++ says.Take k a.device g ∷ []
take_added plant limit apps rows n k a l g is also count within few after images turns before =
    no_turns (of_cycles one plant limit (record_of apps_new rows)) (of_cycles one plant limit (record_of apps rows)) (of_all_turns one plant apps_new) (says.Take k a.device g)
    (of_all_turns one plant apps) [] grown (turns_kept plant apps n l (with_take l g) also refl ∙ turns_none plant apps turns) (turns_none plant apps turns)
  where
    apps_new : List AppLog
    apps_new = set apps n (with_take l g)

    images_kept : (j : ℕ) → of_images one plant apps_new j ≡ of_images one plant apps j
    images_kept j = zip_same (λ (p : App × AppLog). at_place (λ words. one (says.Image j p.0.device words)) p.1.images j) plant.apps apps n l (with_take l g) also (λ b. refl)

    takes_there : of_takes one plant apps_new k ≡ of_takes one plant apps k ++ says.Take k a.device g ∷ []
    takes_there =
        zip_grows (λ (p : App × AppLog). at_place (λ g. one (says.Take k p.0.device g)) p.1.takes k) (says.Take k a.device g) plant.apps apps n a l (with_take l g) is also
        (ap (at_place (λ g. one (says.Take k a.device g)) (l.takes ++ g ∷ [])) (sym count) ∙ (place_there (λ g. one (says.Take k a.device g)) l.takes g
        ∙ ap (λ xs. xs ++ says.Take k a.device g ∷ []) (sym (place_none (λ g. one (says.Take k a.device g)) l.takes k (omega arith)))))
        (λ m b o above at too. place_none (λ g. one (says.Take k b.device g)) o.takes k (after m o above too))

    takes_kept : (j : ℕ) → j ≢ k → of_takes one plant apps_new j ≡ of_takes one plant apps j
    takes_kept j apart =
        zip_same (λ (p : App × AppLog). at_place (λ g. one (says.Take j p.0.device g)) p.1.takes j) plant.apps apps n l (with_take l g) also
        (λ b. place_same (λ g. one (says.Take j b.device g)) l.takes g j (λ same. apart (same ∙ count)))

    here : of_cycle one plant (record_of apps_new rows) k ≡ of_cycle one plant (record_of apps rows) k ++ says.Take k a.device g ∷ []
    here =
        (λ i. takes_there i ++ (of_rows one (rows_of_cycle k rows) ++ images_kept k i))
        ∙ behind (of_takes one plant apps k) (of_rows one (rows_of_cycle k rows)) (of_images one plant apps k) (says.Take k a.device g ∷ [])
        (ap (of_rows one) (rows_none rows k k before (omega arith))) (images_none plant apps k images)

    grown : of_cycles one plant limit (record_of apps_new rows) ≡ of_cycles one plant limit (record_of apps rows) ++ says.Take k a.device g ∷ []
    grown =
        range_grows (λ j. of_cycle one plant (record_of apps_new rows) j) (λ j. of_cycle one plant (record_of apps rows) j) (says.Take k a.device g) k 0 limit (omega arith) (omega arith) here
        (λ j apart i. takes_kept j apart i ++ (of_rows one (rows_of_cycle j rows) ++ images_kept j i))
        (λ j above. cycle_none plant apps rows k j (λ m o at. omega (arith, above, few m o at)) (λ m o at. omega (arith, above, images m o at)) before (omega arith))

pub image_added : (plant : Plant) (limit : ℕ) (apps : List AppLog) (rows : List JournalRow) (n k : ℕ) (a : App) (l : AppLog) (words : List ℕ) →
    slice_get plant.apps n ≡ Some a → slice_get apps n ≡ Some l → length l.images ≡ k → k < limit → Few takes_count (k + 1) apps →
    Few images_count (k + 1) apps → FewAfter images_count n k apps → Few turns_count 0 apps → Before (k + 1) rows →
    all_lines plant limit (set apps n (with_image l words)) rows ≡ all_lines plant limit apps rows ++ says.Image k a.device words ∷ []
image_added plant limit apps rows n k a l words is also count within few images after turns before =
    no_turns (of_cycles one plant limit (record_of apps_new rows)) (of_cycles one plant limit (record_of apps rows)) (of_all_turns one plant apps_new) (says.Image k a.device words)
    (of_all_turns one plant apps) [] grown (turns_kept plant apps n l (with_image l words) also refl ∙ turns_none plant apps turns) (turns_none plant apps turns)
  where
    apps_new : List AppLog
    apps_new = set apps n (with_image l words)

    takes_kept : (j : ℕ) → of_takes one plant apps_new j ≡ of_takes one plant apps j
    takes_kept j = zip_same (λ (p : App × AppLog). at_place (λ g. one (says.Take j p.0.device g)) p.1.takes j) plant.apps apps n l (with_image l words) also (λ b. refl)

    images_there : of_images one plant apps_new k ≡ of_images one plant apps k ++ says.Image k a.device words ∷ []
    images_there =
        zip_grows (λ (p : App × AppLog). at_place (λ w. one (says.Image k p.0.device w)) p.1.images k) (says.Image k a.device words) plant.apps apps n a l (with_image l words) is also
        (ap (at_place (λ w. one (says.Image k a.device w)) (l.images ++ words ∷ [])) (sym count) ∙ (place_there (λ w. one (says.Image k a.device w)) l.images words
        ∙ ap (λ xs. xs ++ says.Image k a.device words ∷ []) (sym (place_none (λ w. one (says.Image k a.device w)) l.images k (omega arith)))))
        (λ m b o above at too. place_none (λ w. one (says.Image k b.device w)) o.images k (after m o above too))

    images_kept : (j : ℕ) → j ≢ k → of_images one plant apps_new j ≡ of_images one plant apps j
    images_kept j apart =
        zip_same (λ (p : App × AppLog). at_place (λ w. one (says.Image j p.0.device w)) p.1.images j) plant.apps apps n l (with_image l words) also
        (λ b. place_same (λ w. one (says.Image j b.device w)) l.images words j (λ same. apart (same ∙ count)))

    here : of_cycle one plant (record_of apps_new rows) k ≡ of_cycle one plant (record_of apps rows) k ++ says.Image k a.device words ∷ []
    here =
        (λ i. takes_kept k i ++ (of_rows one (rows_of_cycle k rows) ++ images_there i))
        ∙ (ap (λ xs. of_takes one plant apps k ++ xs) (sym (append_assoc (of_rows one (rows_of_cycle k rows)) (of_images one plant apps k) (says.Image k a.device words ∷ [])))
        ∙ sym (append_assoc (of_takes one plant apps k) (of_rows one (rows_of_cycle k rows) ++ of_images one plant apps k) (says.Image k a.device words ∷ [])))

    grown : of_cycles one plant limit (record_of apps_new rows) ≡ of_cycles one plant limit (record_of apps rows) ++ says.Image k a.device words ∷ []
    grown =
        range_grows (λ j. of_cycle one plant (record_of apps_new rows) j) (λ j. of_cycle one plant (record_of apps rows) j) (says.Image k a.device words) k 0 limit (omega arith) (omega arith) here
        (λ j apart i. takes_kept j i ++ (of_rows one (rows_of_cycle j rows) ++ images_kept j apart i))
        (λ j above. cycle_none plant apps rows (k + 1) j (λ m o at. omega (arith, above, few m o at)) (λ m o at. omega (arith, above, images m o at)) before (omega arith))

pub row_added : (plant : Plant) (limit : ℕ) (apps : List AppLog) (rows : List JournalRow) (r : JournalRow) → cycle_of r < limit → Few takes_count (cycle_of r + 1) apps →
    Few images_count (cycle_of r) apps → Few turns_count 0 apps → Before (cycle_of r + 1) rows →
    all_lines plant limit apps (rows ++ r ∷ []) ≡ all_lines plant limit apps rows ++ says.Row r ∷ []
row_added plant limit apps rows r within few images turns before =
    no_turns (of_cycles one plant limit (record_of apps (rows ++ r ∷ []))) (of_cycles one plant limit (record_of apps rows)) (of_all_turns one plant apps) (says.Row r)
    (of_all_turns one plant apps) [] grown (turns_none plant apps turns) (turns_none plant apps turns)
  where
    single : (rows : List JournalRow) → of_rows one (rows ++ r ∷ []) ≡ of_rows one rows ++ says.Row r ∷ []
    single [] = refl
    single (s ∷ rows) = ap (λ xs. says.Row s ∷ xs) (single rows)

    here : of_cycle one plant (record_of apps (rows ++ r ∷ [])) (cycle_of r) ≡ of_cycle one plant (record_of apps rows) (cycle_of r) ++ says.Row r ∷ []
    here =
        ap (λ xs. of_takes one plant apps (cycle_of r) ++ (xs ++ of_images one plant apps (cycle_of r))) (ap (of_rows one) (rows_there rows r) ∙ single (rows_of_cycle (cycle_of r) rows))
        ∙ shifted (of_takes one plant apps (cycle_of r)) (of_rows one (rows_of_cycle (cycle_of r) rows)) (of_images one plant apps (cycle_of r)) (images_none plant apps (cycle_of r) images)
      where
        shifted : (a b c : List Line) → c ≡ [] → a ++ ((b ++ says.Row r ∷ []) ++ c) ≡ (a ++ (b ++ c)) ++ says.Row r ∷ []
        shifted a b c none =
            (λ i. a ++ ((b ++ says.Row r ∷ []) ++ none i)) ∙ (ap (λ xs. a ++ xs) (append-nil (b ++ says.Row r ∷ [])) ∙ (sym (append_assoc a b (says.Row r ∷ []))
            ∙ (ap (λ xs. (a ++ xs) ++ says.Row r ∷ []) (sym (append-nil b)) ∙ (λ i. (a ++ (b ++ sym none i)) ++ says.Row r ∷ []))))

    grown : of_cycles one plant limit (record_of apps (rows ++ r ∷ [])) ≡ of_cycles one plant limit (record_of apps rows) ++ says.Row r ∷ []
    grown =
        range_grows (λ j. of_cycle one plant (record_of apps (rows ++ r ∷ [])) j) (λ j. of_cycle one plant (record_of apps rows) j) (says.Row r) (cycle_of r) 0 limit (omega arith) (omega arith) here
        (λ j apart i. of_takes one plant apps j ++ (of_rows one (rows_same rows r j apart i) ++ of_images one plant apps j))
        (λ j above. cycle_none plant apps rows (cycle_of r + 1) j (λ m o at. omega (arith, above, few m o at)) (λ m o at. omega (arith, above, images m o at)) before (omega arith))

pub turn_added : (plant : Plant) (limit : ℕ) (apps : List AppLog) (rows : List JournalRow) (n number : ℕ) (a : App) (l : AppLog) (t : Turn) →
    slice_get plant.apps n ≡ Some a → slice_get apps n ≡ Some l → length l.turns ≡ number → FewAfter turns_count n 0 apps →
    all_lines plant limit (set apps n (with_turn l t)) rows ≡ all_lines plant limit apps rows ++ says.Turn a.device number t ∷ []
turn_added plant limit apps rows n number a l t is also count after =
    (λ i. cycles_kept i ++ grown i) ∙ sym (append_assoc (of_cycles one plant limit (record_of apps rows)) (of_all_turns one plant apps) (says.Turn a.device number t ∷ []))
  where
    apps_new : List AppLog
    apps_new = set apps n (with_turn l t)

    cycles_kept : of_cycles one plant limit (record_of apps_new rows) ≡ of_cycles one plant limit (record_of apps rows)
    cycles_kept = same_each (range_with_len 0 limit)
      where
        same_each : (ks : List ℕ) → flat_map (λ k. of_cycle one plant (record_of apps_new rows) k) ks ≡ flat_map (λ k. of_cycle one plant (record_of apps rows) k) ks
        same_each [] = refl
        same_each (k ∷ ks) =
            (λ i. (zip_same (λ (p : App × AppLog). at_place (λ g. one (says.Take k p.0.device g)) p.1.takes k) plant.apps apps n l (with_turn l t) also (λ b. refl) i
            ++ (of_rows one (rows_of_cycle k rows)
            ++ zip_same (λ (p : App × AppLog). at_place (λ w. one (says.Image k p.0.device w)) p.1.images k) plant.apps apps n l (with_turn l t) also (λ b. refl) i)) ++ same_each ks i)

    empty : (b : App) (ts : List Turn) → length ts ≤ 0 → of_turns one b.device 0 ts ≡ []
    empty b [] none = refl
    empty b (t ∷ ts) none = absurd (omega arith)

    grown : of_all_turns one plant apps_new ≡ of_all_turns one plant apps ++ says.Turn a.device number t ∷ []
    grown =
        zip_grows (λ (p : App × AppLog). of_turns one p.0.device 0 p.1.turns) (says.Turn a.device number t) plant.apps apps n a l (with_turn l t) is also
        (turns_more one a.device 0 number l.turns t (omega arith)) (λ m b o above at too. empty b o.turns (after m o above too))

-- the lines of a record whose cycles are fewer
pub no_more : (plant : Plant) (cycles limit : ℕ) (apps : List AppLog) (rows : List JournalRow) → cycles ≤ limit → Few takes_count cycles apps → Few images_count cycles apps → Before cycles rows →
    of_cycles one plant limit (record_of apps rows) ≡ of_cycles one plant cycles (record_of apps rows)
no_more plant cycles limit apps rows within takes images before = shorter 0 cycles limit (omega arith) (omega arith)
  where
    each : ℕ → List Line
    each j = of_cycle one plant (record_of apps rows) j

    nothing : (a n : ℕ) → cycles ≤ a → flat_map each (range_with_len a n) ≡ []
    nothing a zero past = refl
    nothing a (suc n) past =
        (λ i. cycle_none plant apps rows cycles a (λ m o at. omega (arith, past, takes m o at)) (λ m o at. omega (arith, past, images m o at)) before past i ++ nothing (a + 1) n (omega arith) i)

    shorter : (a n m : ℕ) → a + n ≡ cycles → n ≤ m → flat_map each (range_with_len a m) ≡ flat_map each (range_with_len a n)
    shorter a zero m is short = nothing a m (omega arith)
    shorter a (suc n) zero is short = absurd (omega arith)
    shorter a (suc n) (suc m) is short = ap (λ xs. each a ++ xs) (shorter (a + 1) n m (omega arith) (omega arith))
