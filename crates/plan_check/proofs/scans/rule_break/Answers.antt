use Rattle.std.proofs.Common.{lit<, arith}
use Rattle.plan_check.proofs.Judging.{scan_of, scan_of_ok}
use Rattle.plan_check.proofs.scans.rule_break.Goals as goal

pub returns-in-3 : goal.returns-in-3
returns-in-3 c = scan_of c.args.net.now.plant.now c.args.net.now.bundles.now c.args.number 3 c.demand_break.result c.in-3.is c.demand_break.ensures

pub returns-in-4 : goal.returns-in-4
returns-in-4 c = scan_of c.args.net.now.plant.now c.args.net.now.bundles.now c.args.number 4 c.offset_break.result c.in-4.is c.offset_break.ensures

pub returns-in-5 : goal.returns-in-5
returns-in-5 c = scan_of c.args.net.now.plant.now c.args.net.now.bundles.now c.args.number 5 c.forward_break.result c.in-5.is c.forward_break.ensures

pub returns-in-6 : goal.returns-in-6
returns-in-6 c = scan_of_ok c.args.net.now.plant.now c.args.net.now.bundles.now c.args.number 6 c.clash_break.result c.in-6.is c.clash_break.ensures

pub returns-in-7 : goal.returns-in-7
returns-in-7 c = scan_of c.args.net.now.plant.now c.args.net.now.bundles.now c.args.number 7 c.sent_break.result c.in-7.is c.sent_break.ensures

pub returns-in-8 : goal.returns-in-8
returns-in-8 c = scan_of c.args.net.now.plant.now c.args.net.now.bundles.now c.args.number 8 c.received_break.result c.in-8.is c.received_break.ensures

pub returns-in-9 : goal.returns-in-9
returns-in-9 c = scan_of c.args.net.now.plant.now c.args.net.now.bundles.now c.args.number 9 c.cycle_break.result c.in-9.is c.cycle_break.ensures

pub returns-in-10 : goal.returns-in-10
returns-in-10 c = scan_of c.args.net.now.plant.now c.args.net.now.bundles.now c.args.number 10 c.red_limit_break.result c.in-10.is c.red_limit_break.ensures

pub returns-in-11 : goal.returns-in-11
returns-in-11 c = scan_of c.args.net.now.plant.now c.args.net.now.bundles.now c.args.number 11 c.red_frame_break.result c.in-11.is c.red_frame_break.ensures

pub returns-in-12 : goal.returns-in-12
returns-in-12 c = scan_of c.args.net.now.plant.now c.args.net.now.bundles.now c.args.number 12 c.range_break.result c.in-12.is c.range_break.ensures

pub returns-in-13 : goal.returns-in-13
returns-in-13 c = scan_of c.args.net.now.plant.now c.args.net.now.bundles.now c.args.number 13 c.orange_break.result c.in-13.is c.orange_break.ensures

pub returns-in-14 : goal.returns-in-14
returns-in-14 c = scan_of c.args.net.now.plant.now c.args.net.now.bundles.now c.args.number 14 c.order_break.result c.in-14.is c.order_break.ensures

pub clock_break-requires-clause-headers : goal.clock_break-requires-clause-headers
clock_break-requires-clause-headers c = λ at. c.requires.before 1 at (lit< tt)

pub returns-in_default : goal.returns-in_default
returns-in_default c =
    scan_of_ok c.args.net.now.plant.now c.args.net.now.bundles.now c.args.number 15 c.clock_break.result
    (omega (arith, c.requires.after_trees, c.requires.to_last, c.in_default)) c.clock_break.ensures
