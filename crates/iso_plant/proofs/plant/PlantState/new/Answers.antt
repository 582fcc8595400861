use Rattle.std.proofs.Common.{◌≡◌, ℕ, ◌≤◌, Fits, w32, refl, arith}
use Rattle.std.proofs.lemmas.Result.{IfOk-from_err}
use Rattle.irt_base.specs.declared.limits.TheConstants.{MAX_CYCLES}
use Rattle.iso_plant.proofs.Beginning.{accepted_as, begun_as, plan_as}
use Rattle.iso_plant.proofs.plant.PlantState.new.Goals as goal

in_word : (n cycles : ℕ) → n ≡ cycles → cycles ≤ MAX_CYCLES → Fits w32 n
in_word n cycles is few = omega arith

pub overflow_cast-cycles : goal.overflow_cast-cycles
overflow_cast-cycles c = in_word _ _ c.len-cycles.ensures c.requires.cycles

pub new_machines-requires : goal.new_machines-requires
new_machines-requires c = c.requires.routes

pub new_tables-requires-clause-plan : goal.new_tables-requires-clause-plan
new_tables-requires-clause-plan c = plan_as _ _ _ _ c.plant.ensures c.bundles.ensures c.facts.ensures.plan

pub new_tables-requires-clause-accepted : goal.new_tables-requires-clause-accepted
new_tables-requires-clause-accepted c = accepted_as _ _ _ _ c.plant.ensures c.bundles.ensures c.facts.ensures.accepted

pub invariant_of-result : goal.invariant_of-result
invariant_of-result c =
    begun_as c.in_ok-net.field-0.net c.in_ok-net.field-0.stations c.args.world c.in_ok-net.field-0.journal c.in_ok-apps.field-0.apps
    c.in_ok-apps.field-0.histories.items c.in_ok-apps.field-0.outputs.items c.in_ok-apps.field-0.images.items
    c.args.accepted.now.plant c.plant.result.now c.args.accepted.now.bundles c.bundles.result.now c.args.routes.now.walks c.len-cycles.result
    c.in_ok-net.ensures c.in_ok-apps.ensures c.plant.ensures c.bundles.ensures c.facts.ensures.plan c.facts.ensures.accepted
    c.requires.world c.requires.cycles c.len-cycles.ensures

pub returns : goal.returns
returns c = record {
  plant = c.in_ok-net.ensures.plant;
  bundles = c.in_ok-net.ensures.bundles;
  walks = c.in_ok-net.ensures.walks;
  world = refl;
  done = refl;
}

pub returns-in_err-net : goal.returns-in_err-net
returns-in_err-net c =
    let error = c.from_residual-in_err-net.ensures.0 in
    record {
      plant = IfOk-from_err _ _ error;
      bundles = IfOk-from_err _ _ error;
      walks = IfOk-from_err _ _ error;
      world = IfOk-from_err _ _ error;
      done = IfOk-from_err _ _ error;
    }

pub returns-in_err-apps : goal.returns-in_err-apps
returns-in_err-apps c =
    let error = c.from_residual.ensures.0 in
    record {
      plant = IfOk-from_err _ _ error;
      bundles = IfOk-from_err _ _ error;
      walks = IfOk-from_err _ _ error;
      world = IfOk-from_err _ _ error;
      done = IfOk-from_err _ _ error;
    }
