-- What `run` and `free` print is the text of a safe run.
use Rattle.std.proofs.Common.{◌≡◌, ◌≤◌, inl, inr, ℕ, List, length, Option, Some, None, sym, ◌∙◌, ap, subst, arith}
use Rattle.std.proofs.lemmas.Option.{none-some, same_Some}
use Rattle.irt_base.specs.declared.blocks.Bundle.{Bundle}
use Rattle.irt_base.specs.declared.numbers.PortNo.{PortNo}
use Rattle.irt_base.specs.declared.plants.Plant.{Plant}
use Rattle.irt_io.specs.Files.{Files}
use Rattle.irt_steps.specs.Steps.{Ending}
use Rattle.irt_words.specs.Commands.{Command, plan, check, show, sync, run, run_world, gen, free}
use Rattle.irt_world.specs.Rows.{Fits}
use Rattle.irt_world.specs.declared.rows.World.{World}
use Rattle.plan_rules.specs.Plan.{IsPlan}
use Rattle.plan_rules.specs.Places.{IsAccepted}
use Rattle.plan_run.specs.Run.{IsRecordBy, IsRunText, Pace, in_lockstep, freely, text_of}
use Rattle.plan_run.specs.Safe.{IsSafeRun}
use Rattle.plan_run.specs.World.{IsSeedWorld}
use Rattle.plant_rules.specs.Meets.{MeetsRules}
use Rattle.record_fits.specs.Fits.{FitsPlant}
use Rattle.record_text.specs.declared.record.Record.{Record}
use Rattle.irt_top.specs.Call.{Call, TellsCause, RunsSafely}
use Rattle.irt_top.specs.Cause as causes
use Rattle.irt_top.specs.Cause.{IsCauseOf}
use Rattle.irt_top.specs.Commands.{HasRanges}
use Rattle.irt_top.specs.Run.{RunAsked, run_asked, IsRun, IsSafeRunText}
use Rattle.irt_top.specs.World.{WorldSource, by_seed, by_file, IsWorldOf}
use Rattle.irt_top.proofs.CallLemmas.{not_faulty, plan_files}
use Rattle.irt_top.proofs.GenAsked.{gen_asked_is}

-- the record of a run of accepted blocks is safe, a seed's world has the cycles asked for, and a text is of one record
pub record SafeLaws : Type 0 where
  pub safe : (plant : Plant) (bundles : List Bundle) → IsPlan plant bundles → IsAccepted plant bundles → (pace : Pace) (walks : List (List PortNo)) (world : World) (r : Record) → Fits plant bundles world →
      1 ≤ length world.rows → IsRecordBy pace plant bundles walks world r → IsSafeRun pace plant bundles walks world r
  pub cycles : (plant : Plant) (bundles : List Bundle) (seed cycles : ℕ) (world : World) → IsSeedWorld plant bundles seed cycles world → length world.rows ≡ cycles
  pub one : (plant : Plant) → MeetsRules plant → (r s : Record) → FitsPlant plant r → FitsPlant plant s → text_of plant r ≡ text_of plant s → r ≡ s

-- a run has some cycles
some_cycles : (o : Option Command) (asked : RunAsked) → HasRanges o → run_asked o ≡ Some asked → 1 ≤ asked.cycles
some_cycles (Some (run p c s)) asked has is = subst (λ n. 1 ≤ n) same has.0
  where
    same : c ≡ asked.cycles
    same = ap (λ (a : RunAsked). a.cycles) (same_Some (record { pace = in_lockstep; plant = p; cycles = c; world = by_seed s }) asked is)
some_cycles (Some (run_world p c w)) asked has is = subst (λ n. 1 ≤ n) same has.0
  where
    same : c ≡ asked.cycles
    same = ap (λ (a : RunAsked). a.cycles) (same_Some (record { pace = in_lockstep; plant = p; cycles = c; world = by_file w }) asked is)
some_cycles (Some (free p c s)) asked has is = subst (λ n. 1 ≤ n) same has.0
  where
    same : c ≡ asked.cycles
    same = ap (λ (a : RunAsked). a.cycles) (same_Some (record { pace = freely; plant = p; cycles = c; world = by_seed s }) asked is)
some_cycles None asked has is = absurd (none-some asked is)
some_cycles (Some (plan p)) asked has is = absurd (none-some asked is)
some_cycles (Some (check p)) asked has is = absurd (none-some asked is)
some_cycles (Some (show f)) asked has is = absurd (none-some asked is)
some_cycles (Some (sync p c s)) asked has is = absurd (none-some asked is)
some_cycles (Some (gen s d f n)) asked has is = absurd (none-some asked is)

module _ (laws : SafeLaws) where
  world_fits : (files : Option Files) (source : WorldSource) (p : Plant) (bundles : List Bundle) (cycles : ℕ) (world : World) → IsWorldOf files source p bundles cycles world →
      Fits p bundles world × (length world.rows ≡ cycles)
  world_fits files (by_seed seed) p bundles cycles world is = (is.fits, laws.cycles p bundles seed cycles world is)
  world_fits files (by_file name) p bundles cycles world is = (is.is.text.fits, is.is.text.count)

  safe_text : (files : Option Files) (asked : RunAsked) (p : Plant) (bundles : List Bundle) (walks : List (List PortNo)) (world : World) (text : List ℕ) → 1 ≤ asked.cycles →
      IsRun files asked p bundles walks world → IsRunText asked.pace p bundles walks world text → IsSafeRunText files asked text
  safe_text files asked p bundles walks world text some of says =
      let walked = of.sized.walked in
      let checked = walked.checked in
      let plan = plan_files files asked.plant p bundles checked.are in
      let fits = world_fits files asked.world p bundles asked.cycles world of.is_world in
      let count = fits.1 in
      record {
        plant = p;
        bundles = bundles;
        walks = walks;
        world = world;
        log = says.log;
        are = checked.are;
        accepted = checked.accepted;
        are_walks = walked.are_walks;
        is_world = of.is_world;
        is_record = says.is_record;
        says = says.says;
        fits = says.fits;
        one = λ other also same. laws.one p plan.rules other says.log also says.fits (sym same ∙ says.says);
        safe = laws.safe p bundles plan checked.accepted asked.pace walks world says.log fits.0 (omega (arith, some, count)) says.is_record;
      }

  cause_runs : (files : Option Files) (asked : Option Command) (e : Ending) (wanted : RunAsked) → HasRanges asked → IsCauseOf files asked e → e.status ≡ 0 → run_asked asked ≡ Some wanted →
      IsSafeRunText files wanted e.text
  cause_runs files asked _ wanted has (causes.usage none) zero is = absurd cc
  cause_runs files asked _ wanted has (causes.absent at limit next none) zero is = absurd cc
  cause_runs files asked _ wanted has (causes.too_long at limit next over) zero is = absurd cc
  cause_runs files asked _ wanted has (causes.no_plant at refusal so file) zero is = absurd cc
  cause_runs files asked _ wanted has (causes.malformed at fault next bad) zero is = absurd cc
  cause_runs files asked _ wanted has (causes.no_walk plant fault file holds) zero is = absurd cc
  cause_runs files asked _ wanted has (causes.no_clock at cycles seed plant device so file holds) zero is = absurd cc
  cause_runs files asked _ wanted has (causes.rejects at plant reject so file) zero is = absurd cc
  cause_runs files asked _ wanted has (causes.overruns plant frame file holds) zero is = absurd cc
  cause_runs files asked _ wanted has (causes.no_path other p bundles traffic so known holds) zero is = absurd cc
  cause_runs files asked _ wanted has (causes.wrong_world other p bundles walks at line place so named known held) zero is = absurd cc
  cause_runs files asked _ wanted has (causes.long_run other p bundles walks so known over) zero is = absurd cc
  cause_runs files asked _ wanted has (causes.plans at plant bundles text so file are says) zero is = absurd (none-some wanted (sym (ap run_asked so) ∙ is))
  cause_runs files asked _ wanted has (causes.accepts at so file) zero is = absurd (none-some wanted (sym (ap run_asked so) ∙ is))
  cause_runs files asked _ wanted has (causes.shows at bundle so file) zero is = absurd (none-some wanted (sym (ap run_asked so) ∙ is))
  cause_runs files asked _ wanted has (causes.reports at cycles seed plant text so file holds) zero is = absurd (none-some wanted (sym (ap run_asked so) ∙ is))
  cause_runs files asked _ wanted has (causes.generates made bundles text so are says) zero is =
      absurd (none-some wanted (sym (ap run_asked (gen_asked_is asked made so)) ∙ is))
  cause_runs files asked _ wanted has (causes.runs other p bundles walks world text so of says) zero is =
      subst (λ (a : RunAsked). IsSafeRunText files a text) (same_Some other wanted (sym so ∙ is)) (safe_text files other p bundles walks world text (some_cycles asked other has so) of says)

  pub runs_safely : (c : Call) (status : ℕ) → HasRanges c.asked → TellsCause c status → RunsSafely c status
  runs_safely c status has (inl faulty) zero wanted is = absurd (not_faulty status faulty (inl zero))
  runs_safely c status has (inr caused) zero wanted is =
      (caused.ending.text, caused.printed, cause_runs c.files c.asked caused.ending wanted has caused.cause (caused.status_is ∙ zero) is)
