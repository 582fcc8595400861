use Rattle.std.proofs.Common.{arith}
use Rattle.irt_window.proofs.Tabled.{row_read, no_entry, entry_found, way_ordered}
use Rattle.irt_window.proofs.windows.Windows.find.Goals as goal

pub returns-in-None-clause-found : goal.returns-in-None-clause-found
returns-in-None-clause-found c =
    λ plant bundles are.
    let w = c.args.self.now in
    no_entry plant bundles w.entries c.args.device.0 c.args.frame.0 c.as_slice-entries.result.now are.entries
    (row_read w.entries c.as_slice.result.now c.from-device.result c.args.device.0 c.index-as_slice-device.result c.as_slice-entries.result.now
    c.as_slice.ensures c.from-device.ensures (omega arith) c.index-as_slice-device.is c.as_slice-entries.ensures)
    c.in-None.ensures

pub returns-in-Some-clause-found : goal.returns-in-Some-clause-found
returns-in-Some-clause-found c =
    λ plant bundles are.
    let w = c.args.self.now in
    entry_found plant bundles w.entries w.ways c.args.device.0 c.args.frame.0 c.in-Some.place c.as_slice-entries.result.now c.as_slice-ways.result.now _ _
    are.entries are.ways w.beside
    (row_read w.entries c.as_slice.result.now c.from-device.result c.args.device.0 c.index-as_slice-device.result c.as_slice-entries.result.now
    c.as_slice.ensures c.from-device.ensures (omega arith) c.index-as_slice-device.is c.as_slice-entries.ensures)
    (row_read w.ways c.as_slice-2.result.now c.from-device.result c.args.device.0 c.index-as_slice-device-2.result c.as_slice-ways.result.now
    c.as_slice-2.ensures c.from-device.ensures (omega (arith, w.beside.0)) c.index-as_slice-device-2.is c.as_slice-ways.ensures)
    c.in-Some.ensures

pub returns-in-Some-clause-ordered : goal.returns-in-Some-clause-ordered
returns-in-Some-clause-ordered c =
    let w = c.args.self.now in
    (way_ordered w.entries w.ways c.args.device.0 c.args.frame.0 c.in-Some.place c.as_slice-entries.result.now c.as_slice-ways.result.now _
    w.beside w.ordered
    (row_read w.entries c.as_slice.result.now c.from-device.result c.args.device.0 c.index-as_slice-device.result c.as_slice-entries.result.now
    c.as_slice.ensures c.from-device.ensures (omega arith) c.index-as_slice-device.is c.as_slice-entries.ensures)
    (row_read w.ways c.as_slice-2.result.now c.from-device.result c.args.device.0 c.index-as_slice-device-2.result c.as_slice-ways.result.now
    c.as_slice-2.ensures c.from-device.ensures (omega (arith, w.beside.0)) c.index-as_slice-device-2.is c.as_slice-ways.ensures)
    c.in-Some.ensures).0

pub returns-in-Some-clause-small : goal.returns-in-Some-clause-small
returns-in-Some-clause-small c =
    let w = c.args.self.now in
    (way_ordered w.entries w.ways c.args.device.0 c.args.frame.0 c.in-Some.place c.as_slice-entries.result.now c.as_slice-ways.result.now _
    w.beside w.ordered
    (row_read w.entries c.as_slice.result.now c.from-device.result c.args.device.0 c.index-as_slice-device.result c.as_slice-entries.result.now
    c.as_slice.ensures c.from-device.ensures (omega arith) c.index-as_slice-device.is c.as_slice-entries.ensures)
    (row_read w.ways c.as_slice-2.result.now c.from-device.result c.args.device.0 c.index-as_slice-device-2.result c.as_slice-ways.result.now
    c.as_slice-2.ensures c.from-device.ensures (omega (arith, w.beside.0)) c.index-as_slice-device-2.is c.as_slice-ways.ensures)
    c.in-Some.ensures).1
