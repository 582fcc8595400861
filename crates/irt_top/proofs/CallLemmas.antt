-- What the status of a call tells.
use Rattle.std.proofs.Common.{◌≡◌, ◌≢◌, ◌⊎◌, inl, inr, ℕ, suc, List, [], ◌∷◌, length, Option, Some, None, Result, Ok, Err, refl, sym, ◌∙◌, ap, subst, arith}
use Rattle.std.specs.List.{All, AllByRecursion}
use Rattle.std.proofs.lemmas.List.Elements.{All-cons, All-nil}
use Rattle.std.proofs.lemmas.Option.{none-some}
use Rattle.irt_base.specs.Valid.{IsBundle}
use Rattle.irt_base.specs.declared.blocks.Bundle.{Bundle}
use Rattle.irt_base.specs.declared.plants.Device.{Device}
use Rattle.irt_base.specs.declared.plants.Plant.{Plant}
use Rattle.irt_io.specs.Files.{Files}
use Rattle.irt_route.specs.Routes.{RouteTables, IsRoutesOf}
use Rattle.fit_rules.specs.Blocks.{AreFirstFit}
use Rattle.irt_steps.specs.Ended.{Rose, EndsAs, ended, IsOutcome, IsShelfFault, IsTextOf, as_stated, shelf_failed, sink_failed, no_memory, no_text}
use Rattle.irt_steps.specs.Steps.{Ending, ending, Comes, FailsAt, Halts, IsButFor}
use Rattle.irt_steps.proofs.EndedLemmas.{exact_of, ends_plainly}
use Rattle.irt_words.specs.Asked.{asked_of, words_of, IsStated}
use Rattle.irt_words.specs.Commands.{Command, plan, check, show, sync, run, run_world, gen, free}
use Rattle.plan_rules.specs.Expected.{IsSafe}
use Rattle.plan_rules.specs.Plan.{IsPlan}
use Rattle.plan_rules.specs.Places.{IsAccepted}
use Rattle.irt_top.specs.Call as calls
use Rattle.irt_top.specs.Call.{Call, FollowsSteps, IsFaulty, TellsCause, HasEveryCause, IsSafeWhereAccepted, StoresSafePlan, StoresInOrder, StoresPlant, KeepsFiles, TellsUsage, TakesCalm, TellsFaults, IsStatus}
use Rattle.irt_top.specs.Cause as causes
use Rattle.irt_top.specs.Cause.{IsCauseOf}
use Rattle.irt_top.specs.Check.{ArePlanFiles, IsAcceptedPlan, IsSafePlan}
use Rattle.irt_top.specs.Commands.{asked_steps, calm_of, StoresFiles}
use Rattle.irt_top.specs.DeviceFiles.{AreBundleFiles}
use Rattle.irt_top.specs.Gen.{GenAsked, gen_asked, gen_steps, IsPlantStored}
use Rattle.irt_top.specs.Lines.{usage_line}
use Rattle.irt_top.specs.Run.{run_asked}
use Rattle.irt_top.specs.Plan.{plan_steps, IsStoredPlan, IsPlanInOrder}
use Rattle.irt_top.proofs.CauseLemmas.{outcome_cause}
use Rattle.irt_top.proofs.GenAsked.{gen_of, gen_asked_is, no_gen}
use Rattle.irt_top.proofs.GenLemmas.{gen_exact, gen_stores, gen_fails, gen_halts}
use Rattle.irt_top.proofs.OneLemmas.{asked_status}
use Rattle.irt_top.proofs.OutcomeLemmas.{cause_outcome}
use Rattle.irt_top.proofs.PlanLemmas.{PlanCame, stopped, refused, overran, stored, plan_by, refused_kept, stored_files, stops_status}
use Rattle.irt_top.proofs.PlanOne.{TreeLaws, FitLaws}
use Rattle.irt_top.proofs.RunOne.{RunLaws}
use Rattle.irt_top.proofs.SyncLemmas.{ReportLaw}
use Rattle.irt_top.proofs.StoreOrder.{ValidLaw, comes_order, fails_order, halts_order}

-- ---- causes

pub tells_cause : (c : Call) (status : ℕ) → FollowsSteps c status → TellsCause c status
tells_cause c _ (as_stated o is appends) =
    inr (record { ending = o; cause = outcome_cause c.files c.files_after c.asked o is; status_is = refl; printed = appends })
tells_cause c _ (shelf_failed text is appends) = inl calls.shelf_fault
tells_cause c _ (sink_failed rose text is front) = inl calls.sink_fault
tells_cause c _ (no_memory text is front) = inl calls.no_memory
tells_cause c _ (no_text halts kept) = inl calls.no_memory

-- the statuses of causes
cause_status : (files : Option Files) (asked : Option Command) (e : Ending) → IsCauseOf files asked e → IsStatus e.status
cause_status files asked _ (causes.usage none) = calls.usage
cause_status files asked _ (causes.absent name limit next none) = calls.absent
cause_status files asked _ (causes.too_long name limit next over) = calls.too_long
cause_status files asked _ (causes.no_plant name refusal is file) = calls.plant
cause_status files asked _ (causes.malformed name fault next bad) = calls.malformed
cause_status files asked _ (causes.no_walk plant fault file holds) = calls.no_walk
cause_status files asked _ (causes.no_clock name cycles seed plant device is file holds) = calls.no_walk
cause_status files asked _ (causes.rejects name plant reject is file) = calls.reject
cause_status files asked _ (causes.overruns plant frame file holds) = calls.overrun
cause_status files asked _ (causes.plans name plant bundles text is file are so) = calls.done
cause_status files asked _ (causes.accepts name is file) = calls.done
cause_status files asked _ (causes.shows name bundle is file) = calls.done
cause_status files asked _ (causes.reports name cycles seed plant text is file holds) = calls.done
cause_status files asked _ (causes.no_path wanted p bundles traffic is known holds) = calls.no_walk
cause_status files asked _ (causes.wrong_world wanted p bundles walks name line place is named known held) = calls.world
cause_status files asked _ (causes.long_run wanted p bundles walks is known over) = calls.long_run
cause_status files asked _ (causes.runs wanted p bundles walks world text is of says) = calls.done
cause_status files asked _ (causes.generates made bundles text is are so) = calls.done

pub has_status : (c : Call) (status : ℕ) → TellsCause c status → IsStatus status
has_status c status (inl faulty) = calls.faulty faulty
has_status c status (inr caused) = subst IsStatus caused.status_is (cause_status c.files c.asked caused.ending caused.cause)

faults_of : (status : ℕ) → (status ≡ 2) ⊎ (status ≡ 12) ⊎ (status ≡ 13) → IsFaulty status
faults_of status (inl is) = subst IsFaulty (sym is) calls.shelf_fault
faults_of status (inr (inl is)) = subst IsFaulty (sym is) calls.sink_fault
faults_of status (inr (inr is)) = subst IsFaulty (sym is) calls.no_memory

its_or_faulty : (status its : ℕ) → (status ≡ its) ⊎ (status ≡ 2) ⊎ (status ≡ 12) ⊎ (status ≡ 13) → (status ≡ its) ⊎ IsFaulty status
its_or_faulty status its (inl is) = inl is
its_or_faulty status its (inr faults) = inr (faults_of status faults)

gen_every_cause : TreeLaws → FitLaws → (c : Call) (status : ℕ) (files : Files) (made : GenAsked) (e : Ending) →
    EndsAs (gen_steps made) c.shelf c.sink (Some files) c.files_after c.taken c.taken_after status → IsCauseOf (Some files) (gen_of made) e → (status ≡ e.status) ⊎ IsFaulty status
gen_every_cause trees fits c _ files made e (as_stated o is appends) cause =
    inl (ap (λ (x : Ending). x.status) is.is ∙ gen_exact trees fits files c.files_after made is.answer e is.comes cause)
gen_every_cause trees fits c _ files made e (shelf_failed text is appends) cause = inr calls.shelf_fault
gen_every_cause trees fits c _ files made e (sink_failed rose text is front) cause = inr calls.sink_fault
gen_every_cause trees fits c _ files made e (no_memory text is front) cause = inr calls.no_memory
gen_every_cause trees fits c _ files made e (no_text halts kept) cause = inr calls.no_memory

pub has_every_cause : TreeLaws → FitLaws → ReportLaw → RunLaws → (c : Call) (status : ℕ) → FollowsSteps c status → HasEveryCause c status
has_every_cause trees fits reports runs c status follows files e told cause = every (gen_asked c.asked) refl
  where
    over : EndsAs (asked_steps c.asked) c.shelf c.sink (Some files) c.files_after c.taken c.taken_after status
    over = subst (λ f. EndsAs (asked_steps c.asked) c.shelf c.sink f c.files_after c.taken c.taken_after status) told follows

    every : (made : Option GenAsked) → gen_asked c.asked ≡ made → (status ≡ e.status) ⊎ IsFaulty status
    every None none =
        let (end, is) = cause_outcome (Some files) c.asked e none cause in
        its_or_faulty status e.status
        (exact_of (asked_steps c.asked) c.shelf c.sink files c.files_after c.taken c.taken_after status over (asked_status trees fits reports runs c.asked none) e end is)
    every (Some made) some =
        let is = gen_asked_is c.asked made some in
        gen_every_cause trees fits c status files made e
        (subst (λ a. EndsAs (asked_steps a) c.shelf c.sink (Some files) c.files_after c.taken c.taken_after status) is over) (subst (λ a. IsCauseOf (Some files) a e) is cause)

-- ---- a plan that is accepted

-- accepted plans are safe
abbrev pub Law : Type 0
Law = (plant : Plant) (bundles : List Bundle) → IsPlan plant bundles → IsAccepted plant bundles → IsSafe plant bundles

pub valid_files : (files : Option Files) (devices : List Device) (bundles : List Bundle) → AreBundleFiles files devices bundles → All IsBundle bundles × (length bundles ≡ length devices)
valid_files files [] [] are = (All-nil IsBundle, refl)
valid_files files [] (b ∷ bs) are = absurd are
valid_files files (d ∷ ds) [] are = absurd are
valid_files files (d ∷ ds) (b ∷ bs) are =
    let more = valid_files files ds bs are.1 in
    (All-cons IsBundle b bs are.0.valid more.0, ap suc more.1)

pub plan_files : (files : Option Files) (name : List ℕ) (plant : Plant) (bundles : List Bundle) → ArePlanFiles files name plant bundles → IsPlan plant bundles
plan_files files name plant bundles are =
    let valid = valid_files files plant.devices bundles are.device_files in
    record { rules = are.plant_file.states.rules; blocks = valid.0; count = valid.1 }

safe_file : Law → (files : Option Files) (name : List ℕ) → IsAcceptedPlan files name → IsSafePlan files name
safe_file law files name file = record {
  plant = file.plant;
  bundles = file.bundles;
  are = file.are;
  safe = law file.plant file.bundles (plan_files files name file.plant file.bundles file.are) file.accepted;
}

abbrev some_check : List ℕ → Option Command
some_check name = Some (check name)

name_same : {a b : List ℕ} → some_check a ≡ some_check b → a ≡ b
name_same is = cc

cause_safe : Law → (files : Option Files) (asked : Option Command) (e : Ending) (name : List ℕ) → IsCauseOf files asked e → e.status ≡ 0 → asked ≡ Some (check name) → IsSafePlan files name
cause_safe law files asked _ name (causes.usage none) zero checks = absurd cc
cause_safe law files asked _ name (causes.absent at limit next none) zero checks = absurd cc
cause_safe law files asked _ name (causes.too_long at limit next over) zero checks = absurd cc
cause_safe law files asked _ name (causes.no_plant at refusal is file) zero checks = absurd cc
cause_safe law files asked _ name (causes.malformed at fault next bad) zero checks = absurd cc
cause_safe law files asked _ name (causes.no_walk plant fault file holds) zero checks = absurd cc
cause_safe law files asked _ name (causes.no_clock at cycles seed plant device is file holds) zero checks = absurd cc
cause_safe law files asked _ name (causes.rejects at plant reject is file) zero checks = absurd cc
cause_safe law files asked _ name (causes.overruns plant frame file holds) zero checks = absurd cc
cause_safe law files asked _ name (causes.plans at plant bundles text is file are so) zero checks = absurd (other at name (sym is ∙ checks))
  where
    other : (a b : List ℕ) → Some (plan a) ≡ some_check b → ⊥
    other a b same = absurd cc
cause_safe law files asked _ name (causes.accepts at is file) zero checks = subst (IsSafePlan files) (name_same (sym is ∙ checks)) (safe_file law files at file)
cause_safe law files asked _ name (causes.shows at bundle is file) zero checks = absurd (other at name (sym is ∙ checks))
  where
    other : (a b : List ℕ) → Some (show a) ≡ some_check b → ⊥
    other a b same = absurd cc
cause_safe law files asked _ name (causes.reports at cycles seed plant text is file holds) zero checks = absurd (other at cycles seed name (sym is ∙ checks))
  where
    other : (a : List ℕ) (c s : ℕ) (b : List ℕ) → Some (sync a c s) ≡ some_check b → ⊥
    other a c s b same = absurd cc
cause_safe law files asked _ name (causes.no_path wanted p bundles traffic is known holds) zero checks = absurd cc
cause_safe law files asked _ name (causes.wrong_world wanted p bundles walks at line place is named known held) zero checks = absurd cc
cause_safe law files asked _ name (causes.long_run wanted p bundles walks is known over) zero checks = absurd cc
cause_safe law files asked _ name (causes.runs wanted p bundles walks world text is of says) zero checks = absurd (none-some wanted (sym (ap run_asked checks) ∙ is))
cause_safe law files asked _ name (causes.generates made bundles text is are so) zero checks = absurd (none-some made (sym (ap gen_asked checks) ∙ is))

pub not_faulty : (n : ℕ) → IsFaulty n → (n ≡ 0) ⊎ (n ≡ 1) → ⊥
not_faulty _ calls.shelf_fault (inl is) = absurd cc
not_faulty _ calls.shelf_fault (inr is) = absurd cc
not_faulty _ calls.sink_fault (inl is) = absurd cc
not_faulty _ calls.sink_fault (inr is) = absurd cc
not_faulty _ calls.no_memory (inl is) = absurd cc
not_faulty _ calls.no_memory (inr is) = absurd cc

pub is_safe : Law → (c : Call) (status : ℕ) → TellsCause c status → IsSafeWhereAccepted c status
is_safe law c status (inl faulty) zero name asked = absurd (not_faulty status faulty (inl zero))
is_safe law c status (inr caused) zero name asked = cause_safe law c.files c.asked caused.ending name caused.cause (caused.status_is ∙ zero) asked

-- ---- what is stored

-- first fit's bundles are a plan, its rules hold for them, and they are safe
pub record PlanLaws : Type 0 where
  pub plan : (plant : Plant) (routes : RouteTables) (bundles : List Bundle) → IsRoutesOf plant routes → AreFirstFit plant routes bundles → IsPlan plant bundles
  pub accepted : (plant : Plant) (routes : RouteTables) (bundles : List Bundle) → IsRoutesOf plant routes → AreFirstFit plant routes bundles → IsAccepted plant bundles
  pub safe : (plant : Plant) (routes : RouteTables) (bundles : List Bundle) → IsRoutesOf plant routes → AreFirstFit plant routes bundles → IsSafe plant bundles

all_valid : (bundles : List Bundle) → All IsBundle bundles → AllByRecursion IsBundle bundles
all_valid [] all = tt
all_valid (b ∷ bs) all = (all 0 b (omega arith), all_valid bs (λ k d within. all (suc k) d (omega arith)))

came_stored : PlanLaws → (files new : Option Files) (name : List ℕ) (answer : Result (List ℕ) Ending) → PlanCame files new name answer → (ended answer).status ≡ 0 → IsStoredPlan files new name
came_stored laws files new name _ (stopped e kept stops) zero = absurd (stops_status files name e stops zero)
came_stored laws files new name _ (refused p fault kept file holds) zero = absurd cc
came_stored laws files new name _ (overran p frame kept file holds) zero = absurd cc
came_stored laws files new name _ (stored p bundles text file are comes so) zero =
    let plan = laws.plan p are.routes bundles are.are_routes are.first_fit in
    record {
      plant = p;
      bundles = bundles;
      plant_file = file;
      first_fit = are;
      device_files = stored_files p.devices bundles files new tt plan.rules.names_differ (all_valid bundles plan.blocks) plan.count comes;
      accepted = laws.accepted p are.routes bundles are.are_routes are.first_fit;
      safe = laws.safe p are.routes bundles are.are_routes are.first_fit;
    }

pub stores_safe : PlanLaws → (c : Call) (status : ℕ) → FollowsSteps c status → StoresSafePlan c status
stores_safe laws c _ (as_stated o is appends) zero name asked =
    let comes : Comes (plan_steps name) c.files c.files_after is.answer = subst (λ a. Comes (asked_steps a) c.files c.files_after is.answer) asked is.comes in
    came_stored laws c.files c.files_after name is.answer (plan_by c.files c.files_after name is.answer comes) (ap (λ (x : Ending). x.status) (sym is.is) ∙ zero)
stores_safe laws c _ (shelf_failed text is appends) zero name asked = absurd cc
stores_safe laws c _ (sink_failed rose text is front) zero name asked = absurd cc
stores_safe laws c _ (no_memory text is front) zero name asked = absurd cc
stores_safe laws c _ (no_text halts kept) zero name asked = absurd cc

-- a command other than `gen` that ended by a refusal kept the files
err_kept : (files new : Option Files) (asked : Option Command) (e : Ending) → gen_asked asked ≡ None → (¬ StoresFiles asked → new ≡ files) → Comes (asked_steps asked) files new (Err e) → new ≡ files
err_kept files new (Some (plan p)) e none kept comes = refused_kept files new p e comes
err_kept files new (Some (check p)) e none kept comes = kept (λ so. so)
err_kept files new (Some (show f)) e none kept comes = kept (λ so. so)
err_kept files new None e none kept comes = kept (λ so. so)
err_kept files new (Some (sync p c s)) e none kept comes = kept (λ so. so)
err_kept files new (Some (run p c s)) e none kept comes = kept (λ so. so)
err_kept files new (Some (run_world p c w)) e none kept comes = kept (λ so. so)
err_kept files new (Some (gen s d f n)) e none kept comes = absurd (no_gen s d f n none)
err_kept files new (Some (free p c s)) e none kept comes = kept (λ so. so)

answer_kept : (files new : Option Files) (asked : Option Command) (answer : Result (List ℕ) Ending) → gen_asked asked ≡ None → (¬ StoresFiles asked → new ≡ files) →
    Comes (asked_steps asked) files new answer → (ended answer).status ≢ 0 → new ≡ files
answer_kept files new asked (Ok text) none kept comes nonzero = absurd (nonzero refl)
answer_kept files new asked (Err e) none kept comes nonzero = err_kept files new asked e none kept comes

pub keeps_files : (c : Call) (status : ℕ) → (¬ StoresFiles c.asked → c.files_after ≡ c.files) → FollowsSteps c status → KeepsFiles c status
keeps_files c status kept follows = record { stores_none = kept; refused = refused_of c status kept follows }
  where
    refused_of : (c : Call) (status : ℕ) → (¬ StoresFiles c.asked → c.files_after ≡ c.files) → FollowsSteps c status → status ≢ 0 → ¬ IsFaulty status → gen_asked c.asked ≡ None →
        c.files_after ≡ c.files
    refused_of c _ kept (as_stated o is appends) nonzero calm none =
        answer_kept c.files c.files_after c.asked is.answer none kept is.comes (λ zero. nonzero (ap (λ (x : Ending). x.status) is.is ∙ zero))
    refused_of c _ kept (shelf_failed text is appends) nonzero calm none = absurd (calm calls.shelf_fault)
    refused_of c _ kept (sink_failed rose text is front) nonzero calm none = absurd (calm calls.sink_fault)
    refused_of c _ kept (no_memory text is front) nonzero calm none = absurd (calm calls.no_memory)
    refused_of c _ kept (no_text halts after_is) nonzero calm none = absurd (calm calls.no_memory)

-- ---- the plant that `gen` stores

module _ (made : GenAsked) (c : Call) where
  text_stored : (text : List ℕ) → IsTextOf (gen_steps made) c.shelf c.files c.files_after text → IsButFor c.files c.files_after made.name
  text_stored text (inl (o, is, same)) = (gen_stores c.files c.files_after made is.answer is.comes).0
  text_stored text (inr is) = gen_fails c.files c.files_after made is.name is.fails

  plant_stored : (status : ℕ) → EndsAs (gen_steps made) c.shelf c.sink c.files c.files_after c.taken c.taken_after status →
      IsButFor c.files c.files_after made.name × (¬ IsFaulty status → IsPlantStored c.files_after made)
  plant_stored _ (as_stated o is appends) =
      let stored = gen_stores c.files c.files_after made is.answer is.comes in
      (stored.0, λ calm. stored.1)
  plant_stored _ (shelf_failed text is appends) = (gen_fails c.files c.files_after made is.name is.fails, λ calm. absurd (calm calls.shelf_fault))
  plant_stored _ (sink_failed rose text is front) = (text_stored text is, λ calm. absurd (calm calls.sink_fault))
  plant_stored _ (no_memory text is front) = (text_stored text is, λ calm. absurd (calm calls.no_memory))
  plant_stored _ (no_text halts kept) = (gen_halts c.files c.files_after made halts, λ calm. absurd (calm calls.no_memory))

pub stores_plant : (c : Call) (status : ℕ) → FollowsSteps c status → StoresPlant c status
stores_plant c status follows made is =
    plant_stored made c status (subst (λ a. EndsAs (asked_steps a) c.shelf c.sink c.files c.files_after c.taken c.taken_after status) (gen_asked_is c.asked made is) follows)

-- ---- in which order it is stored

valid_law : PlanLaws → ValidLaw
valid_law laws plant bundles are =
    let plan = laws.plan plant are.routes bundles are.are_routes are.first_fit in
    (plan.rules.names_differ, all_valid bundles plan.blocks)

pub stores_in_order : PlanLaws → (c : Call) (status : ℕ) → FollowsSteps c status → StoresInOrder c
stores_in_order laws c status follows name asked = ordered c status follows asked
  where
    outcome_order : (c : Call) (o : Ending) → c.asked ≡ Some (plan name) → IsOutcome (asked_steps c.asked) c.files c.files_after o →
        (c.files_after ≡ c.files) ⊎ IsPlanInOrder c.files c.files_after name
    outcome_order c o asked is =
        comes_order (valid_law laws) c.files c.files_after name is.answer (subst (λ a. Comes (asked_steps a) c.files c.files_after is.answer) asked is.comes)

    fault_order : (c : Call) (text : List ℕ) → c.asked ≡ Some (plan name) → IsShelfFault (asked_steps c.asked) c.shelf c.files c.files_after text →
        (c.files_after ≡ c.files) ⊎ IsPlanInOrder c.files c.files_after name
    fault_order c text asked is =
        fails_order (valid_law laws) c.files c.files_after name is.name (subst (λ a. FailsAt (asked_steps a) c.files c.files_after is.name) asked is.fails)

    text_order : (c : Call) (text : List ℕ) → c.asked ≡ Some (plan name) → IsTextOf (asked_steps c.asked) c.shelf c.files c.files_after text →
        (c.files_after ≡ c.files) ⊎ IsPlanInOrder c.files c.files_after name
    text_order c text asked (inl (o, is, same)) = outcome_order c o asked is
    text_order c text asked (inr is) = fault_order c text asked is

    ordered : (c : Call) (status : ℕ) → FollowsSteps c status → c.asked ≡ Some (plan name) → (c.files_after ≡ c.files) ⊎ IsPlanInOrder c.files c.files_after name
    ordered c _ (as_stated o is appends) asked = outcome_order c o asked is
    ordered c _ (shelf_failed text is appends) asked = fault_order c text asked is
    ordered c _ (sink_failed rose text is front) asked = text_order c text asked is
    ordered c _ (no_memory text is front) asked = text_order c text asked is
    ordered c _ (no_text halts kept) asked =
        halts_order (valid_law laws) c.files c.files_after name (subst (λ a. Halts (asked_steps a) c.files c.files_after) asked halts)

-- ---- usage

cause_usage : (files : Option Files) (asked : Option Command) (e : Ending) → IsCauseOf files asked e → e.status ≡ 1 → asked ≡ None
cause_usage files asked _ (causes.usage none) one = none
cause_usage files asked _ (causes.absent name limit next none) one = absurd cc
cause_usage files asked _ (causes.too_long name limit next over) one = absurd cc
cause_usage files asked _ (causes.no_plant name refusal is file) one = absurd cc
cause_usage files asked _ (causes.malformed name fault next bad) one = absurd cc
cause_usage files asked _ (causes.no_walk plant fault file holds) one = absurd cc
cause_usage files asked _ (causes.overruns plant frame file holds) one = absurd cc
cause_usage files asked _ (causes.plans name plant bundles text is file are so) one = absurd cc
cause_usage files asked _ (causes.no_clock name cycles seed plant device is file holds) one = absurd cc
cause_usage files asked _ (causes.rejects name plant reject is file) one = absurd cc
cause_usage files asked _ (causes.accepts name is file) one = absurd cc
cause_usage files asked _ (causes.shows name bundle is file) one = absurd cc
cause_usage files asked _ (causes.reports name cycles seed plant text is file holds) one = absurd cc
cause_usage files asked _ (causes.no_path wanted p bundles traffic is known holds) one = absurd cc
cause_usage files asked _ (causes.wrong_world wanted p bundles walks name line place is named known held) one = absurd cc
cause_usage files asked _ (causes.long_run wanted p bundles walks is known over) one = absurd cc
cause_usage files asked _ (causes.runs wanted p bundles walks world text is of says) one = absurd cc
cause_usage files asked _ (causes.generates made bundles text is are so) one = absurd cc

usage_of : (c : Call) (status : ℕ) → TellsCause c status → status ≡ 1 → c.asked ≡ None
usage_of c status (inl faulty) one = absurd (not_faulty status faulty (inr one))
usage_of c status (inr caused) one = cause_usage c.files c.asked caused.ending caused.cause (caused.status_is ∙ one)

pub tells_usage : (c : Call) (status : ℕ) → FollowsSteps c status → TellsUsage c status
tells_usage c status follows = (
  usage_of c status (tells_cause c status follows),
  λ none. ends_plainly (ending 1 usage_line) c.shelf c.sink c.files c.files_after c.taken c.taken_after status
      (subst (λ a. EndsAs (asked_steps a) c.shelf c.sink c.files c.files_after c.taken c.taken_after status) none follows),
)

-- a call that is asked for something
pub never_usage : (c : Call) (status : ℕ) (command : Command) → FollowsSteps c status → c.asked ≡ Some command → status ≢ 1
never_usage c status command follows asked one = none-some command (sym ((tells_usage c status follows).0 one) ∙ asked)

-- words that state a command ask for it
abbrev pub StatedLaw : Type 0
StatedLaw = (command : Command) → IsStated command → asked_of (words_of command) ≡ Some command

pub takes_calm : StatedLaw → (c : Call) (status : ℕ) → c.asked ≡ calm_of (asked_of c.words) → FollowsSteps c status → TakesCalm c status
takes_calm law c status asked follows command stated calm same =
    never_usage c status command follows (asked ∙ ap (λ words. calm_of (asked_of words)) same ∙ ap calm_of (law command stated) ∙ calm)

-- ---- faults

-- no cause has the status of a fault
cause_plain : (files : Option Files) (asked : Option Command) (e : Ending) → IsCauseOf files asked e → (e.status ≢ 2) × (e.status ≢ 12)
cause_plain files asked _ (causes.usage none) = ((λ so. absurd cc), λ so. absurd cc)
cause_plain files asked _ (causes.absent name limit next none) = ((λ so. absurd cc), λ so. absurd cc)
cause_plain files asked _ (causes.too_long name limit next over) = ((λ so. absurd cc), λ so. absurd cc)
cause_plain files asked _ (causes.no_plant name refusal is file) = ((λ so. absurd cc), λ so. absurd cc)
cause_plain files asked _ (causes.malformed name fault next bad) = ((λ so. absurd cc), λ so. absurd cc)
cause_plain files asked _ (causes.no_walk plant fault file holds) = ((λ so. absurd cc), λ so. absurd cc)
cause_plain files asked _ (causes.overruns plant frame file holds) = ((λ so. absurd cc), λ so. absurd cc)
cause_plain files asked _ (causes.plans name plant bundles text is file are so) = ((λ so. absurd cc), λ so. absurd cc)
cause_plain files asked _ (causes.no_clock name cycles seed plant device is file holds) = ((λ so. absurd cc), λ so. absurd cc)
cause_plain files asked _ (causes.rejects name plant reject is file) = ((λ so. absurd cc), λ so. absurd cc)
cause_plain files asked _ (causes.accepts name is file) = ((λ so. absurd cc), λ so. absurd cc)
cause_plain files asked _ (causes.shows name bundle is file) = ((λ so. absurd cc), λ so. absurd cc)
cause_plain files asked _ (causes.reports name cycles seed plant text is file holds) = ((λ so. absurd cc), λ so. absurd cc)
cause_plain files asked _ (causes.no_path wanted p bundles traffic is known holds) = ((λ so. absurd cc), λ so. absurd cc)
cause_plain files asked _ (causes.wrong_world wanted p bundles walks name line place is named known held) = ((λ so. absurd cc), λ so. absurd cc)
cause_plain files asked _ (causes.long_run wanted p bundles walks is known over) = ((λ so. absurd cc), λ so. absurd cc)
cause_plain files asked _ (causes.runs wanted p bundles walks world text is of says) = ((λ so. absurd cc), λ so. absurd cc)
cause_plain files asked _ (causes.generates made bundles text is are so) = ((λ so. absurd cc), λ so. absurd cc)

pub tells_faults : (c : Call) (status : ℕ) → FollowsSteps c status → TellsFaults c status
tells_faults c status follows = (shelf c status follows, sink c status follows)
  where
    shelf : (c : Call) (status : ℕ) → FollowsSteps c status → status ≡ 2 → Rose c.shelf
    shelf c _ (as_stated o is appends) two = absurd ((cause_plain c.files c.asked o (outcome_cause c.files c.files_after c.asked o is)).0 two)
    shelf c _ (shelf_failed text is appends) two = is.rose
    shelf c _ (sink_failed rose text is front) two = absurd cc
    shelf c _ (no_memory text is front) two = absurd cc
    shelf c _ (no_text halts kept) two = absurd cc

    sink : (c : Call) (status : ℕ) → FollowsSteps c status → status ≡ 12 → Rose c.sink
    sink c _ (as_stated o is appends) twelve = absurd ((cause_plain c.files c.asked o (outcome_cause c.files c.files_after c.asked o is)).1 twelve)
    sink c _ (shelf_failed text is appends) twelve = absurd cc
    sink c _ (sink_failed rose text is front) twelve = rose
    sink c _ (no_memory text is front) twelve = absurd cc
    sink c _ (no_text halts kept) twelve = absurd cc
