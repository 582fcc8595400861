use Rattle.std.proofs.Common.{◌<◌, ◌+◌, ◌^◌, length, sym, ◌∙◌, subst}
use Rattle.std.specs.List.{AllByRecursion}
use Rattle.std.proofs.lemmas.Result.{err_from_is_err_and}
use Rattle.irt_world.specs.declared.forwardings.Forwarding.{Forwarding}
use Rattle.world_file.proofs.PlanBounds.{delays_small, few_forwardings, few_links}
use Rattle.world_file.proofs.WorldRead.{line_refused, row_read}
use Rattle.world_file.proofs.reading.read_rows.Goals as goal

pub read_row-requires-clause-links : goal.read_row-requires-clause-links
read_row-requires-clause-links c = few_links c.args.plant.now c.requires.plan.rules

pub read_row-requires-clause-counts : goal.read_row-requires-clause-counts
read_row-requires-clause-counts c =
    subst (λ fs. length c.args.plant.now.devices + length fs < 2 ^ 31) (sym (c.as_slice.ensures.value ∙ c.in_ok-forwardings.ensures))
    (few_forwardings c.args.plant.now c.args.bundles.now c.requires.plan)

pub read_row-requires-clause-ranges : goal.read_row-requires-clause-ranges
read_row-requires-clause-ranges c =
    subst (AllByRecursion (λ (f : Forwarding). f.bmax < 2 ^ 32)) (sym (c.as_slice.ensures.value ∙ c.in_ok-forwardings.ensures))
    (delays_small c.args.plant.now c.args.bundles.now c.requires.plan)

pub returns-in_err-row-clause-refused : goal.returns-in_err-row-clause-refused
returns-in_err-row-clause-refused c =
    let p = err_from_is_err_and c.from_residual-in_err-row.result c.from_residual-in_err-row.ensures.1 in
    line_refused c.args.plant.now c.args.bundles.now c.as_slice.result.now c.args.bytes.now c.loop-cycle.rows c.loop-cycle.rest.now c.loop-cycle.cycle c.args.cycles _ p.0
    c.in_err-row.field-0.0 p.1 p.2 (c.as_slice.ensures.value ∙ c.in_ok-forwardings.ensures) c.loop-cycle.invariant c.loop-cycle-test.true c.in_err-row.ensures.refused

pub loop-cycle-preserved : goal.loop-cycle-preserved
loop-cycle-preserved c =
    row_read c.args.plant.now c.args.bundles.now c.args.bytes.now c.loop-cycle.rows c.push.new.self c.in_ok-row.row c.loop-cycle.rest.now c.in_ok-row.after.now c.loop-cycle.cycle
    c.in_ok-push.ensures.ok c.loop-cycle.invariant (c.in_ok-row.ensures.found c.args.bundles.now (c.as_slice.ensures.value ∙ c.in_ok-forwardings.ensures))
