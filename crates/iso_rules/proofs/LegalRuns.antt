-- The record of a lockstep run is legal.
use Rattle.std.proofs.Common.{◌≡◌, ℕ, zero, suc, ◌+◌, ◌-◌, ◌<◌, ◌≤◌, true, false, List, [], ◌∷◌, length, map, get_or, slice_get, Some, None, refl, sym, ◌∙◌, ap, subst, arith}
use Rattle.std.specs.Prelude.{zip, option_map, nat_lt}
use Rattle.std.specs.List.{All}
use Rattle.std.proofs.lemmas.Bool.{lt-ltb}
use Rattle.std.proofs.lemmas.List.{length-map}
use Rattle.std.proofs.lemmas.List.Elements.{All-map}
use Rattle.std.proofs.lemmas.Option.{same_Some, slice_get_within, slice_get-get_or}
use Rattle.io_buffers.specs.Given.{Given}
use Rattle.io_buffers.specs.Passes.{publication}
use Rattle.io_buffers.specs.declared.taken.Taken.{Taken}
use Rattle.irt_base.specs.declared.plants.App.{App}
use Rattle.plan_rules.specs.Way.{Setup}
use Rattle.plan_rules.specs.World.{WorldRow}
use Rattle.iso_rules.specs.Image.{IsImage}
use Rattle.iso_rules.specs.Legal.{IsPublished, input_of, NeverFall, FindsAll, KeepsUp, IsLateBefore, IsLegalLog, IsLegal}
use Rattle.iso_rules.specs.Lockstep.{words_taken, words_of_runs, after_takes, IsLockstep, begun, played, AppLog, RunRecord, log_of, IsLockstepRecord}
use Rattle.iso_rules.specs.Turns.{AppRun, new_run, outputs_published, inputs_published, newest_taken, after_take, after_image, after_turn}
use Rattle.iso_rules.specs.declared.turn.Turn.{Turn}
use Rattle.iso_rules.proofs.PlayedRuns.{IsPlayedRun, runs_at, true_images, only_replies, mapped_at, map_at, last_is}

-- ---- lists

all_from : {X : Type 0} (P : X → Type 0) (xs : List X) → ((j : ℕ) (x : X) → slice_get xs j ≡ Some x → P x) → All P xs
all_from P xs each i d within = each i (get_or xs i d) (slice_get-get_or xs i d within)

some_at : {X : Type 0} (xs : List X) (m : ℕ) → m < length xs → (x : X) × (slice_get xs m ≡ Some x)
some_at [] m below = absurd (omega (arith, below))
some_at (x ∷ xs) zero below = (x, refl)
some_at (x ∷ xs) (suc m) below = some_at xs m (omega (arith, below))

length-zip : {X Y : Type 0} (xs : List X) (ys : List Y) → length ys ≡ length xs → length (zip xs ys) ≡ length xs
length-zip [] ys same = refl
length-zip (x ∷ xs) [] same = absurd (omega (arith, same))
length-zip (x ∷ xs) (y ∷ ys) same = ap suc (length-zip xs ys (omega (arith, same)))

never : (ts : List Taken) (from before : ℕ) → ((j : ℕ) (t : Taken) → slice_get ts j ≡ Some t → t ≡ newest_taken (from + j)) → before ≤ from →
    nat_lt 0 from ≡ nat_lt before from → NeverFall before ts
never [] from before each low same = tt
never (t ∷ ts) from before each low same =
    let first : from + 0 ≡ from = omega arith in
    let is : t ≡ newest_taken from = each 0 t refl ∙ ap newest_taken first in
    let later : (j : ℕ) (u : Taken) → slice_get ts j ≡ Some u → u ≡ newest_taken (from + 1 + j) =
    λ j u at. let on : from + suc j ≡ from + 1 + j = omega arith in each (suc j) u at ∙ ap newest_taken on in
    let rises : nat_lt 0 (from + 1) ≡ nat_lt from (from + 1) = lt-ltb 0 (from + 1) (omega arith) ∙ sym (lt-ltb from (from + 1) (omega arith)) in
    let Goal : Taken → Type 0 = λ x. (before ≤ x.number) × (x.fresh ≡ nat_lt before x.number) × NeverFall x.number ts in
    subst Goal (sym is) (low, same, never ts (from + 1) from later (omega arith) rises)

-- ---- one app

module _ {A : Type 0} (reply : A → List ℕ → ℕ → List ℕ) (next : A → List ℕ → ℕ → A) (setup : Setup) where
  late_never : (n last : ℕ) (t : Taken) → t ≡ newest_taken n → IsLateBefore last t
  late_never n last t is late = let on : true ≡ false = ap (λ (x : Taken). x.in_window) (sym is) ∙ late in absurd (cc)

  finds_all : (m : ℕ) (first : A) (run : AppRun A) → IsPlayedRun reply next setup (suc m) first run → FindsAll (suc m) run.turns
  finds_all m first run is =
      let count = is.turns in
      record {
        some = all_from (λ (t : Turn). 1 ≤ t.found) run.turns (λ j t at. let found = (is.each_turn j t at).found in omega (arith, found));
        rising = λ i j d before below.
            let a = (is.each_turn i (get_or run.turns i d) (slice_get-get_or run.turns i d (omega (arith, before, below)))).found in
            let b = (is.each_turn j (get_or run.turns j d) (slice_get-get_or run.turns j d below)).found in omega (arith, a, b, before);
        last =
            let (t, at) = some_at run.turns m (omega (arith, count)) in
            let found = (is.each_turn m t at).found in
            let one : m + 1 ≡ suc m = omega arith in
            ap (option_map (λ (u : Turn). u.found)) (last_is run.turns None m t count at) ∙ ap (λ n. Some n) (found ∙ one);
      }

  keeps_up : (m : ℕ) (first : A) (run : AppRun A) → IsPlayedRun reply next setup (suc m) first run → KeepsUp (suc m) (log_of run)
  keeps_up m first run is = record {
    finds = finds_all m first run is;
    newest = all_from (λ (t : Turn). t.found ≤ t.taken.number) run.turns
        (λ j t at. let u = is.each_turn j t at in let found = u.found in let number = ap (λ (x : Taken). x.number) u.taken in omega (arith, found, number));
    near = λ k number g t at after turned.
        let taken = ap (λ (x : Taken). x.number) (is.each_take k g at).taken in
        let given = ap (λ (x : Taken). x.number) (is.each_turn number t turned).taken in
        record { published = omega (arith, taken, given, after); slip = omega (arith, taken, given, after) };
    opening = λ k g at zeros. let taken = ap (λ (x : Taken). x.number) (is.each_take k g at).taken in omega (arith, taken, zeros);
  }

  legal_log : (world : List WorldRow) (taken : ℕ → ℕ → List ℕ) (m : ℕ) (first : A) (run : AppRun A) → length world ≡ suc m →
      IsPlayedRun reply next setup (suc m) first run →
      ((j : ℕ) (image : List ℕ) → slice_get run.images j ≡ Some image → IsImage setup world taken run.device j image) →
      IsLegalLog reply next setup world taken run.device first (log_of run)
  legal_log world taken m first run long is images =
      let takes_count = is.takes in let images_count = is.images in let turns_count = is.turns in
      let published = length-map run.turns (λ (t : Turn). t.output) in
      record {
        cycles = record { takes = is.takes ∙ sym long; images = is.images ∙ sym long };
        outputs = all_from (IsPublished (outputs_published setup run.device run.turns)) run.takes
            (λ j g at.
            let a = is.each_take j g at in
            let number = ap (λ (x : Taken). x.number) a.taken in
            let within = slice_get_within run.takes j g at in
            record {
              made = omega (arith, number, within, takes_count, turns_count, published);
              whole = a.words ∙ ap (publication (outputs_published setup run.device run.turns)) (sym number);
            });
        images = images;
        inputs = All-map (IsPublished (inputs_published setup run.device run.images)) input_of run.turns
            (all_from (λ (t : Turn). IsPublished (inputs_published setup run.device run.images) (input_of t)) run.turns
            (λ j t at.
            let u = is.each_turn j t at in
            let number = ap (λ (x : Taken). x.number) u.taken in
            let within = slice_get_within run.turns j t at in
            record {
              made = omega (arith, number, within, images_count, turns_count);
              whole = u.input ∙ ap (publication (inputs_published setup run.device run.images)) (sym number);
            }));
        numbers = record {
          outputs = never (map (λ (g : Given). g.taken) run.takes) 0 0
              (λ j t at.
              let (g, there, same) = mapped_at (λ (x : Given). x.taken) run.takes j t at in
              let none : j ≡ 0 + j = omega arith in sym same ∙ (is.each_take j g there).taken ∙ ap newest_taken none)
              (omega arith) refl;
          inputs = never (map (λ (t : Turn). t.taken) run.turns) 1 0
              (λ j t at.
              let (u, there, same) = mapped_at (λ (x : Turn). x.taken) run.turns j t at in
              let on : j + 1 ≡ 1 + j = omega arith in sym same ∙ (is.each_turn j u there).taken ∙ ap newest_taken on)
              (omega arith) refl;
        };
        pace = subst (λ n. KeepsUp n (log_of run)) (sym long) (keeps_up m first run is);
        replies = only_replies reply next setup run.device first run.turns run.state is.replies;
        windows = record {
          outputs = all_from (λ (g : Given). IsLateBefore (length run.turns) g.taken) run.takes
              (λ j g at. late_never j (length run.turns) g.taken (is.each_take j g at).taken);
          inputs = all_from (λ (t : Turn). IsLateBefore (length world) t.taken) run.turns
              (λ j t at. late_never (j + 1) (length world) t.taken (is.each_turn j t at).taken);
        };
      }

  -- ---- the record

  runs_count : (world : List WorldRow) (states : List A) (k : ℕ) (runs : List (AppRun A)) → IsLockstep reply next setup world states k runs →
      length runs ≡ length (zip setup.plant.apps states)
  runs_count world states _ _ begun = length-map (zip setup.plant.apps states) (λ (p : App × A). new_run p.0.device.0 p.1)
  runs_count world states _ _ (played k runs image before images) =
      length-map (after_takes setup k runs) (λ (r : AppRun A). after_turn reply next setup k (after_image (image r.device) r))
      ∙ length-map runs (after_take setup k) ∙ runs_count world states k runs before

  takes_of_logs : (runs : List (AppRun A)) → map (λ (r : AppRun A). r.takes) runs ≡ map (λ (l : AppLog). l.takes) (map log_of runs)
  takes_of_logs [] = refl
  takes_of_logs (run ∷ runs) = ap (λ l. run.takes ∷ l) (takes_of_logs runs)

  pub lockstep_is_legal : {Row : Type 0} (world : List WorldRow) (states : List A) (IsJournal : List Row → Type 0) (r : RunRecord Row) →
      1 ≤ length world → length states ≡ length setup.plant.apps → IsLockstepRecord reply next setup world states IsJournal r →
      IsLegal reply next setup world states IsJournal r
  lockstep_is_legal world states IsJournal r some each is =
      let m = length world - 1 in
      let long : length world ≡ suc m = omega (arith, some) in
      let runs = is.runs in
      let taken : words_of_runs runs ≡ words_taken (map (λ (l : AppLog). l.takes) r.apps) =
      ap words_taken (takes_of_logs runs ∙ ap (map (λ (l : AppLog). l.takes)) (sym is.apps)) in
      record {
        states = each;
        count = ap length is.apps ∙ length-map runs log_of ∙ runs_count world states (length world) runs is.played ∙ length-zip setup.plant.apps states each;
        apps = λ n app first log at own there.
            let (run, stands, of) = runs_at reply next setup world states (length world) runs is.played n app first at own in
            let logged : log_of run ≡ log =
            same_Some (log_of run) log (sym (map_at log_of runs n run stands) ∙ ap (λ (ls : List AppLog). slice_get ls n) (sym is.apps) ∙ there) in
            let whole = legal_log world (words_of_runs runs) m first run long (subst (λ k. IsPlayedRun reply next setup k first run) long of.played)
            (true_images reply next setup world states (length world) runs is.played n run stands) in
            let Goal : (ℕ → ℕ → List ℕ) → ℕ → AppLog → Type 0 = λ w d l. IsLegalLog reply next setup world w d first l in
            subst (λ l. Goal (words_taken (map (λ (x : AppLog). x.takes) r.apps)) app.device.0 l) logged
            (subst (λ d. Goal (words_taken (map (λ (x : AppLog). x.takes) r.apps)) d (log_of run)) of.device
            (subst (λ (w : ℕ → ℕ → List ℕ). Goal w run.device (log_of run)) taken whole));
        journal = is.journal;
      }
