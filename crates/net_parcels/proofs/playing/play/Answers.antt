use Rattle.std.proofs.Common.{arith}
use Rattle.net_parcels.proofs.Cycles.{devices_within, ports_apart}
use Rattle.net_parcels.proofs.Whole.{steps_of, as_many_switches, some_held, all_gated, rows_fit, grown, has_room}
use Rattle.net_parcels.proofs.playing.play.Goals as goal

pub hand_over_all-requires-clause-steps : goal.hand_over_all-requires-clause-steps
hand_over_all-requires-clause-steps c = steps_of _ _ c.plant.ensures c.requires.plan.plan.rules _ c.requires.walks

pub hand_over_all-requires-clause-held : goal.hand_over_all-requires-clause-held
hand_over_all-requires-clause-held c =
    some_held c.args.site.now c.args.row.now c.args.k c.args.steps.now c.args.switches.now c.args.notes.now c.clear.new.self c.args.flight.now.handed
    c.requires.plan c.requires.opened c.clear.ensures _ c.plant.ensures

pub hand_over_all-requires-clause-devices : goal.hand_over_all-requires-clause-devices
hand_over_all-requires-clause-devices c =
    let count = as_many_switches c.args.site.now c.args.switches.now c.args.row.now c.requires.plan in
    devices_within c.args.site.now.plant c.args.outlets.now _ _ c.requires.ends (omega arith) c.requires.inside.devices

pub send_all-requires-clause-gated : goal.send_all-requires-clause-gated
send_all-requires-clause-gated c =
    all_gated c.args.site.now c.args.row.now c.args.k c.args.steps.now c.args.switches.now c.args.notes.now c.clear.new.self c.args.flight.now.handed
    c.requires.plan c.requires.opened c.clear.ensures _ c.plant.ensures c.hand_over_all.new.switches c.hand_over_all.new.notes c.hand_over_all.ensures.rules
    c.requires.walks c.args.outlets.now c.requires.ends

pub send_all-requires-clause-apart : goal.send_all-requires-clause-apart
send_all-requires-clause-apart c = ports_apart c.args.site.now.plant c.args.outlets.now c.requires.ends

pub append_rows-requires-clause-room : goal.append_rows-requires-clause-room
append_rows-requires-clause-room c =
    rows_fit c.args.site.now c.args.row.now c.args.k c.args.steps.now c.args.switches.now c.args.notes.now c.clear.new.self c.args.flight.now.handed
    c.requires.plan c.requires.opened c.clear.ensures _ c.plant.ensures c.hand_over_all.new.switches c.hand_over_all.new.notes c.hand_over_all.ensures.rules
    c.send_all.new.switches c.args.outlets.now c.send_all.new.outlets c.requires.ends c.send_all.ensures.ends c.send_all.ensures.sent _ c.requires.room

pub returns-clause-inside : goal.returns-clause-inside
returns-clause-inside c =
    has_room c.args.site.now.plant c.args.row.now c.args.outlets.now c.send_all.new.outlets c.args.flight.now c.bring_all.new.flight c.requires.inside c.send_all.ensures.ends
    c.bring_all.ensures.flight c.bring_all.ensures.few

pub returns-clause-parcels : goal.returns-clause-parcels
returns-clause-parcels c =
    grown c.args.site.now c.args.row.now c.args.k c.args.steps.now c.args.switches.now c.args.notes.now c.clear.new.self c.args.flight.now.handed
    c.requires.plan c.requires.opened c.clear.ensures _ c.plant.ensures c.hand_over_all.new.switches c.hand_over_all.new.notes c.hand_over_all.ensures.rules
    c.send_all.new.switches c.args.outlets.now c.send_all.new.outlets c.requires.ends c.send_all.ensures.ends c.send_all.ensures.sent
    c.args.journal.now c.append_rows.new.journal c.append_rows.ensures.rows c.append_rows.ensures.room c.args.flight.now c.bring_all.new.flight c.bring_all.ensures.flight
