use Rattle.std.proofs.Common.{ℕ, List, sym, subst}
use Rattle.plant_stations.specs.Loaded.{AreOutputs, HaveWidths, AreLoaded, OthersStay, AreReady, AreSent}
use Rattle.plant_stations.specs.Stations.{StationsState, setup_in}
use Rattle.plant_stations.specs.declared.sender.Sender.{Sender}
use Rattle.plant_stations.proofs.Loading.{ready}
use Rattle.plant_stations.proofs.Sent.{room_after, are_loaded, others_stay}
use Rattle.plant_stations.proofs.stations.Stations.load.Goals as goal

pub load_all-requires-clause-ready : goal.load_all-requires-clause-ready
load_all-requires-clause-ready c =
    let held = c.self.invariant in
    let plant = c.self.inside.plant in
    let bundles = c.self.inside.bundles in
    let wide = subst (λ (s : StationsState). HaveWidths (setup_in s) c.args.outputs.now) (sym c.self.view_is) c.requires.widths in
    let serves = c.stations_serve_demands.ensures.provided plant bundles held.plan held.accepted in
    subst (λ (s : List Sender). AreReady s c.args.outputs.now c.self.inside.frames) (sym c.as_slice.ensures.value)
    (ready plant bundles held.plan held.accepted serves c.self.inside.senders.items held.provide c.self.inside.frames held.room c.args.outputs.now wide)

pub invariant_of-self : goal.invariant_of-self
invariant_of-self c =
    let held = c.self.invariant in
    record {
      plan = held.plan;
      accepted = held.accepted;
      provide = held.provide;
      consume = held.consume;
      room = room_after c.self.inside.plant.demands c.self.inside.frames c.load_all.new.frames held.room c.load_all.ensures.lengths;
    }

pub returns-clause-frames : goal.returns-clause-frames
returns-clause-frames c =
    let held = c.self.invariant in
    let plant = c.self.inside.plant in
    let bundles = c.self.inside.bundles in
    let wide = subst (λ (s : StationsState). HaveWidths (setup_in s) c.args.outputs.now) (sym c.self.view_is) c.requires.widths in
    let serves = c.stations_serve_demands.ensures.provided plant bundles held.plan held.accepted in
    let sent = subst (λ (s : List Sender). AreSent s c.args.k c.args.outputs.now c.self.inside.frames c.load_all.new.frames) c.as_slice.ensures.value c.load_all.ensures in
    subst (λ (s : StationsState). (taken : ℕ → ℕ → List ℕ) → AreOutputs (setup_in s) taken c.args.k c.args.outputs.now →
    AreLoaded (setup_in s) taken c.args.k c.load_all.new.frames) c.self.view_is
    (λ taken outs. are_loaded plant bundles held.plan held.accepted serves c.self.inside.senders.items held.provide taken c.args.k c.args.outputs.now
    c.self.inside.frames c.load_all.new.frames wide outs sent)

pub returns-clause-kept : goal.returns-clause-kept
returns-clause-kept c =
    let held = c.self.invariant in
    let plant = c.self.inside.plant in
    let bundles = c.self.inside.bundles in
    let serves = c.stations_serve_demands.ensures.provided plant bundles held.plan held.accepted in
    let sent = subst (λ (s : List Sender). AreSent s c.args.k c.args.outputs.now c.self.inside.frames c.load_all.new.frames) c.as_slice.ensures.value c.load_all.ensures in
    subst (λ (s : StationsState). OthersStay (setup_in s) c.args.k s.frames c.load_all.new.frames) c.self.view_is
    (others_stay plant bundles held.plan held.accepted serves c.self.inside.senders.items held.provide c.args.k c.args.outputs.now
    c.self.inside.frames c.load_all.new.frames sent)
