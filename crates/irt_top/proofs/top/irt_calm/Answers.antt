use Rattle.irt_steps.proofs.EndedLemmas.{finishes}
use Rattle.std.proofs.Common.{refl}
use Rattle.irt_words.specs.Asked.{asked_of, texts_of}
use Rattle.irt_top.specs.Commands.{asked_steps, calm_of}
use Rattle.irt_top.proofs.CallLemmas.{tells_cause, has_every_cause, is_safe, tells_usage, takes_calm, tells_faults, has_status, stores_safe, stores_in_order, stores_plant, keeps_files}
use Rattle.irt_top.proofs.RangeLemmas.{asked_ranged, calm_ranged}
use Rattle.irt_top.proofs.RunSafe.{runs_safely}
use Rattle.irt_top.proofs.top.irt_calm.Goals as goal

pub returns-clause-ends : goal.returns-clause-ends
returns-clause-ends g c =
    finishes (asked_steps (calm_of (asked_of (texts_of c.args.words.now)))) _ _ _ _ _ _ _ _ c.run_words-ended.ensures.step c.run_words-ended.ensures.cause c.finish.ensures

pub returns-clause-cause : goal.returns-clause-cause
returns-clause-cause g c = tells_cause _ _ (returns-clause-ends g c)

pub returns-clause-exact : goal.returns-clause-exact
returns-clause-exact g c =
    let trees = c.parents_of_trees.ensures in
    let fits = c.first_fit_is_one.ensures in
    has_every_cause (record { one = trees.one; start = trees.start }) (record { bundles = fits.bundles; excluded = fits.excluded; overruns = fits.overruns })
    c.reports_are_one.ensures
    (record {
      worlds = c.worlds_and_walks_are_one.ensures.worlds;
      walks = c.worlds_and_walks_are_one.ensures.walks;
      files = c.one_world.ensures;
      wrongs = c.one_first_wrong.ensures.one;
      excluded = c.one_first_wrong.ensures.none;
    })
    (record {
      words = texts_of c.args.words.now;
      asked = _;
      files = _;
      files_after = _;
      shelf = _;
      taken = _;
      taken_after = _;
      sink = _;
    }) _ (returns-clause-ends g c)

pub returns-clause-safe : goal.returns-clause-safe
returns-clause-safe g c = is_safe c.accepted_plans_are_safe.ensures _ _ (returns-clause-cause g c)

pub returns-clause-ran : goal.returns-clause-ran
returns-clause-ran g c =
    runs_safely (record {
      safe = c.runs_of_accepted_plans_are_safe.ensures;
      cycles = c.worlds_and_walks_are_one.ensures.cycles;
      one = c.texts_are_of_one_record.ensures;
    }) _ _
    (calm_ranged (asked_of (texts_of c.args.words.now)) (asked_ranged (texts_of c.args.words.now))) (returns-clause-cause g c)

pub returns-clause-usage : goal.returns-clause-usage
returns-clause-usage g c =
    tells_usage (record {
      words = texts_of c.args.words.now;
      asked = _;
      files = _;
      files_after = _;
      shelf = _;
      taken = _;
      taken_after = _;
      sink = _;
    }) _ (returns-clause-ends g c)

pub returns-clause-stated : goal.returns-clause-stated
returns-clause-stated g c = takes_calm c.stated_words_are_read.ensures _ _ refl (returns-clause-ends g c)

pub returns-clause-faults : goal.returns-clause-faults
returns-clause-faults g c =
    tells_faults (record {
      words = texts_of c.args.words.now;
      asked = _;
      files = _;
      files_after = _;
      shelf = _;
      taken = _;
      taken_after = _;
      sink = _;
    }) _ (returns-clause-ends g c)

pub returns-clause-status : goal.returns-clause-status
returns-clause-status g c = has_status _ _ (returns-clause-cause g c)

pub returns-clause-stored : goal.returns-clause-stored
returns-clause-stored g c =
    let law = c.first_fit_is_accepted.ensures in
    stores_safe (record { plan = law.plan; accepted = law.accepted; safe = law.safe }) (record {
      words = texts_of c.args.words.now;
      asked = _;
      files = _;
      files_after = _;
      shelf = _;
      taken = _;
      taken_after = _;
      sink = _;
    }) _ (returns-clause-ends g c)

pub returns-clause-kept : goal.returns-clause-kept
returns-clause-kept g c = keeps_files _ _ c.run_words-ended.ensures.kept (returns-clause-ends g c)

pub returns-clause-order : goal.returns-clause-order
returns-clause-order g c =
    let law = c.first_fit_is_accepted.ensures in
    stores_in_order (record { plan = law.plan; accepted = law.accepted; safe = law.safe }) (record {
      words = texts_of c.args.words.now;
      asked = _;
      files = _;
      files_after = _;
      shelf = _;
      taken = _;
      taken_after = _;
      sink = _;
    }) _ (returns-clause-ends g c)

pub returns-clause-generated : goal.returns-clause-generated
returns-clause-generated g c =
    stores_plant (record {
      words = texts_of c.args.words.now;
      asked = _;
      files = _;
      files_after = _;
      shelf = _;
      taken = _;
      taken_after = _;
      sink = _;
    }) _ (returns-clause-ends g c)
