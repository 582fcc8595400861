-- A lockstep run is one.
use Rattle.std.proofs.Common.{◌≡◌, ℕ, suc, List, [], ◌∷◌, length, map, refl, sym, ◌∙◌, ap, subst, arith}
use Rattle.std.specs.List.{All}
use Rattle.plan_rules.specs.Way.{Setup}
use Rattle.plan_rules.specs.World.{WorldRow}
use Rattle.iso_rules.specs.Image.{IsImage}
use Rattle.iso_rules.specs.Lockstep.{after_takes, after_cycle, words_of_runs, IsLockstep, begun, played, AppLog, RunRecord, log_of, IsLockstepRecord}
use Rattle.iso_rules.specs.Turns.{AppRun, after_take, after_image, after_turn}
use Rattle.iso_rules.proofs.Images.{one_image}

-- one cycle depends on the images of the apps' devices alone
same_cycle : {A : Type 0} (reply : A → List ℕ → ℕ → List ℕ) (next : A → List ℕ → ℕ → A) (setup : Setup) (k : ℕ)
    (image other : ℕ → List ℕ) (runs : List (AppRun A)) → All (λ (run : AppRun A). image run.device ≡ other run.device) runs →
    after_cycle reply next setup k image runs ≡ after_cycle reply next setup k other runs
same_cycle reply next setup k image other [] same = refl
same_cycle reply next setup k image other (run ∷ runs) same =
    ap (λ words. after_turn reply next setup k (after_image words (after_take setup k run)) ∷ after_cycle reply next setup k image runs) (same 0 run (omega arith))
    ∙ ap (λ ls. after_turn reply next setup k (after_image (other run.device) (after_take setup k run)) ∷ ls)
    (same_cycle reply next setup k image other runs (λ i d within. same (suc i) d (omega (arith, within))))

pub one_lockstep : {A : Type 0} (reply : A → List ℕ → ℕ → List ℕ) (next : A → List ℕ → ℕ → A) (setup : Setup) (world : List WorldRow)
    (states : List A) (k : ℕ) (runs others : List (AppRun A)) → IsLockstep reply next setup world states k runs →
    IsLockstep reply next setup world states k others → runs ≡ others
one_lockstep reply next setup world states _ _ _ begun begun = refl
one_lockstep {A} reply next setup world states _ _ _ (played k runs image before images) (played _ others again earlier parts) =
    let same : runs ≡ others = one_lockstep reply next setup world states k runs others before earlier in
    let alike : All (λ (run : AppRun A). IsImage setup world (words_of_runs (after_takes setup k runs)) run.device k (again run.device)) runs =
    subst (λ (rs : List (AppRun A)). All (λ (run : AppRun A). IsImage setup world (words_of_runs (after_takes setup k rs)) run.device k (again run.device)) rs) (sym same) parts in
    same_cycle reply next setup k image again runs
    (λ i d within. one_image setup world (words_of_runs (after_takes setup k runs)) _ k _ _ (images i d within) (alike i d within))
    ∙ ap (λ rs. after_cycle reply next setup k again rs) same

pub one_record : {A Row : Type 0} (reply : A → List ℕ → ℕ → List ℕ) (next : A → List ℕ → ℕ → A) (setup : Setup) (world : List WorldRow)
    (states : List A) (IsJournal : List Row → Type 0) → ((rows others : List Row) → IsJournal rows → IsJournal others → rows ≡ others) →
    (r s : RunRecord Row) → IsLockstepRecord reply next setup world states IsJournal r → IsLockstepRecord reply next setup world states IsJournal s → r ≡ s
one_record {A} {Row} reply next setup world states IsJournal one r s first second =
    let Made : List AppLog → List Row → RunRecord Row = λ apps journal. record { apps = apps; journal = journal } in
    let apps : r.apps ≡ s.apps =
    first.apps ∙ ap (λ runs. map log_of runs) (one_lockstep reply next setup world states (length world) first.runs second.runs first.played second.played) ∙ sym second.apps in
    ap (λ logs. Made logs r.journal) apps ∙ ap (Made s.apps) (one r.journal s.journal first.journal second.journal)
