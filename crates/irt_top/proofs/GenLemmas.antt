-- What `gen` came by, what it stored, and that its cause is the only one.
use Rattle.std.proofs.Common.{◌≡◌, inl, inr, ℕ, List, Option, Some, None, Result, refl, sym, ◌∙◌, ap, subst}
use Rattle.std.proofs.lemmas.Option.{same_Some}
use Rattle.irt_base.specs.declared.plants.Plant.{Plant}
use Rattle.irt_io.specs.Files.{Files}
use Rattle.irt_steps.specs.Ended.{ended}
use Rattle.irt_steps.specs.Steps.{Ending, IsButFor, Comes, FailsAt, Halts, LoadsNext}
use Rattle.irt_words.specs.Commands.{Command, plan, check, gen, show, sync}
use Rattle.irt_top.specs.Cause as causes
use Rattle.irt_top.specs.Cause.{IsCauseOf}
use Rattle.irt_top.specs.Gen.{GenAsked, made_plant, made_steps, gen_steps, IsPlantStored}
use Rattle.irt_top.specs.Plan.{Planning, no_walk, overruns, planned, IsPlanning}
use Rattle.irt_top.proofs.PlanOne.{TreeLaws, FitLaws, one_planning}

abbrev Answer : Type 0
Answer = Result (List ℕ) Ending

-- the command that asks for it
abbrev asked_of : GenAsked → Option Command
asked_of made = Some (gen made.seed made.devices made.frames made.name)

-- ---- the steps behind the store

-- they touch no file
made_kept : (mid new : Option Files) (made : GenAsked) (result : Answer) → Comes (made_steps made) mid new result → new ≡ mid
made_kept mid new made result (no_walk fault, holds, (is, kept)) = kept
made_kept mid new made result (overruns frame, holds, (is, kept)) = kept
made_kept mid new made result (planned bundles, holds, (text, says, (is, kept))) = kept

made_no_load : (made : GenAsked) (mid now : Option Files) (name : List ℕ) (limit : ℕ) → LoadsNext (made_steps made) mid name limit now → ⊥
made_no_load made mid now name limit (no_walk fault, holds, next) = next
made_no_load made mid now name limit (overruns frame, holds, next) = next
made_no_load made mid now name limit (planned bundles, holds, (text, says, next)) = next

made_no_fault : (mid new : Option Files) (made : GenAsked) (name : List ℕ) → FailsAt (made_steps made) mid new name → ⊥
made_no_fault mid new made name (no_walk fault, holds, fails) = fails
made_no_fault mid new made name (overruns frame, holds, fails) = fails
made_no_fault mid new made name (planned bundles, holds, (text, says, fails)) = fails

made_halts : (mid new : Option Files) (made : GenAsked) → Halts (made_steps made) mid new → new ≡ mid
made_halts mid new made (inl kept) = kept
made_halts mid new made (inr (no_walk fault, holds, kept)) = kept
made_halts mid new made (inr (overruns frame, holds, kept)) = kept
made_halts mid new made (inr (planned bundles, holds, inl kept)) = kept
made_halts mid new made (inr (planned bundles, holds, inr (text, says, kept))) = kept

-- ---- the files

but_none : (files : Option Files) (name : List ℕ) → IsButFor files files name
but_none None name = tt
but_none (Some files) name = λ other differs. refl

pub gen_no_load : (made : GenAsked) (files now : Option Files) (name : List ℕ) (limit : ℕ) → LoadsNext (gen_steps made) files name limit now → ⊥
gen_no_load made files now name limit (bytes, states, (mid, stored, next)) = made_no_load made mid now name limit next

pub gen_stores : (files new : Option Files) (made : GenAsked) (result : Answer) → Comes (gen_steps made) files new result → IsButFor files new made.name × IsPlantStored new made
gen_stores files new made result (bytes, states, (mid, stored, comes)) =
    let after : IsButFor files mid made.name × IsPlantStored mid made = (stored.others, record { bytes = bytes; held = stored.stored; states = states }) in
    subst (λ f. IsButFor files f made.name × IsPlantStored f made) (sym (made_kept mid new made result comes)) after

pub gen_fails : (files new : Option Files) (made : GenAsked) (name : List ℕ) → FailsAt (gen_steps made) files new name → IsButFor files new made.name
gen_fails files new made name (bytes, states, inl (same, others)) = others
gen_fails files new made name (bytes, states, inr (mid, stored, fails)) = absurd (made_no_fault mid new made name fails)

pub gen_halts : (files new : Option Files) (made : GenAsked) → Halts (gen_steps made) files new → IsButFor files new made.name
gen_halts files new made (inl kept) = subst (λ f. IsButFor files f made.name) (sym kept) (but_none files made.name)
gen_halts files new made (inr (bytes, states, inl others)) = others
gen_halts files new made (inr (bytes, states, inr (mid, stored, halts))) =
    subst (λ f. IsButFor files f made.name) (sym (made_halts mid new made halts)) stored.others

-- ---- the cause

made_cause : (files mid new : Option Files) (made : GenAsked) (result : Answer) → Comes (made_steps made) mid new result → IsCauseOf files (asked_of made) (ended result)
made_cause files mid new made result (no_walk fault, holds, (is, kept)) =
    subst (λ r. IsCauseOf files (asked_of made) (ended r)) (sym is) (causes.no_walk (made_plant made) fault refl holds)
made_cause files mid new made result (overruns frame, holds, (is, kept)) =
    subst (λ r. IsCauseOf files (asked_of made) (ended r)) (sym is) (causes.overruns (made_plant made) frame refl holds)
made_cause files mid new made result (planned bundles, holds, (text, says, (is, kept))) =
    subst (λ r. IsCauseOf files (asked_of made) (ended r)) (sym is) (causes.generates made bundles text refl holds says)

pub gen_cause : (files new : Option Files) (made : GenAsked) (result : Answer) → Comes (gen_steps made) files new result →
    IsCauseOf files (Some (gen made.seed made.devices made.frames made.name)) (ended result)
gen_cause files new made result (bytes, states, (mid, stored, comes)) = made_cause files mid new made result comes

-- ---- one cause

abbrev planning_status : Planning → ℕ
planning_status (no_walk fault) = 6
planning_status (overruns frame) = 9
planning_status (planned bundles) = 0

-- what comes of planning the plant, with its status
pub record IsPlannedAs (made : GenAsked) (status : ℕ) : Type 0 where
  pub found : Planning
  pub holds : IsPlanning (made_plant made) found
  pub is : status ≡ planning_status found

came_as : (mid new : Option Files) (made : GenAsked) (result : Answer) → Comes (made_steps made) mid new result → IsPlannedAs made (ended result).status
came_as mid new made result (no_walk fault, holds, (is, kept)) = record { found = no_walk fault; holds = holds; is = ap (λ r. (ended r).status) is }
came_as mid new made result (overruns frame, holds, (is, kept)) = record { found = overruns frame; holds = holds; is = ap (λ r. (ended r).status) is }
came_as mid new made result (planned bundles, holds, (text, says, (is, kept))) =
    record { found = planned bundles; holds = holds; is = ap (λ r. (ended r).status) is }

none_some : {A : Type 0} (x : A) → None ≡ Some x → ⊥
none_some x is = absurd cc

caused_as : (files : Option Files) (made : GenAsked) (e : Ending) → IsCauseOf files (asked_of made) e → IsPlannedAs made e.status
caused_as files made _ (causes.usage none) = absurd (none_some (gen made.seed made.devices made.frames made.name) (sym none))
caused_as files made _ (causes.absent name limit next none) = absurd (gen_no_load made files files name limit next)
caused_as files made _ (causes.too_long name limit next over) = absurd (gen_no_load made files files name limit next)
caused_as files made _ (causes.malformed name fault next bad) = absurd (gen_no_load made files files name _ next)
caused_as files made _ (causes.no_plant name refusal is file) = absurd (none_some name is)
caused_as files made _ (causes.no_walk p fault is holds) =
    record { found = no_walk fault; holds = subst (λ (x : Plant). IsPlanning x (no_walk fault)) is holds; is = refl }
caused_as files made _ (causes.overruns p frame is holds) =
    record { found = overruns frame; holds = subst (λ (x : Plant). IsPlanning x (overruns frame)) is holds; is = refl }
caused_as files made _ (causes.generates other bundles text is are says) =
    let same : made ≡ other = same_Some made other is in
    record { found = planned bundles; holds = subst (λ (x : GenAsked). IsPlanning (made_plant x) (planned bundles)) (sym same) are; is = refl }
caused_as files made _ (causes.no_clock name cycles seed p device is file holds) = absurd (not_sync is)
  where
    not_sync : asked_of made ≡ Some (sync name cycles seed) → ⊥
    not_sync so = absurd cc
caused_as files made _ (causes.no_path run p bundles traffic is known holds) = absurd (none_some run is)
caused_as files made _ (causes.rejects name p reject is file) = absurd (none_some name is)
caused_as files made _ (causes.wrong_world run p bundles walks name line place is named known held) = absurd (none_some run is)
caused_as files made _ (causes.long_run run p bundles walks is known over) = absurd (none_some run is)
caused_as files made _ (causes.runs run p bundles walks world text is of says) = absurd (none_some run is)
caused_as files made _ (causes.plans name p bundles text is file are so) = absurd (not_plan is)
  where
    not_plan : asked_of made ≡ Some (plan name) → ⊥
    not_plan so = absurd cc
caused_as files made _ (causes.accepts name is file) = absurd (not_check is)
  where
    not_check : asked_of made ≡ Some (check name) → ⊥
    not_check so = absurd cc
caused_as files made _ (causes.shows name bundle is file) = absurd (not_show is)
  where
    not_show : asked_of made ≡ Some (show name) → ⊥
    not_show so = absurd cc
caused_as files made _ (causes.reports name cycles seed p text is file holds) = absurd (not_sync is)
  where
    not_sync : asked_of made ≡ Some (sync name cycles seed) → ⊥
    not_sync so = absurd cc

pub gen_exact : TreeLaws → FitLaws → (files : Files) (new : Option Files) (made : GenAsked) (result : Answer) (e : Ending) → Comes (gen_steps made) (Some files) new result →
    IsCauseOf (Some files) (Some (gen made.seed made.devices made.frames made.name)) e → (ended result).status ≡ e.status
gen_exact trees fits files new made result e (bytes, states, (mid, stored, comes)) cause =
    let here = came_as mid new made result comes in
    let there = caused_as (Some files) made e cause in
    here.is ∙ ap planning_status (one_planning trees fits (made_plant made) here.found there.found here.holds there.holds) ∙ sym there.is
