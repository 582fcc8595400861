use Rattle.std.proofs.Common.{◌≡◌, ◌++◌, List, length, take, drop, sym, ◌∙◌, ap, subst, vec_capacity}
use Rattle.std.proofs.lemmas.List.{take_at}
use Rattle.irt_base.specs.declared.blocks.Bundle.{Bundle}
use Rattle.irt_net.proofs.Cycles.{CycleLeaves, FramesLeave, ParcelsLeave, count_after, left, played_at, room_in}
use Rattle.irt_net.specs.Parts.{state_of}
use Rattle.irt_switch.specs.State.{SwitchState}
use Rattle.net_site.specs.Site.{IsPlayedAt, bundles_of}
use Rattle.irt_net.proofs.parts.Parts.cycle.Goals as goal

pub frames_cycle-requires-clause-plan : goal.frames_cycle-requires-clause-plan
frames_cycle-requires-clause-plan c =
    let parts = c.args.self.now in
    subst (λ (b : List Bundle). IsPlayedAt parts.site b c.args.row.now) (sym (ap bundles_of c.as_mut_slice-switches.ensures.value))
    (played_at parts.site c.args.row.now parts.tables.switches.items parts.parcels parts.tables.queue (vec_capacity parts.tables.came) parts.most c.requires.whole c.requires.row)

pub cycle-requires-clause-plan : goal.cycle-requires-clause-plan
cycle-requires-clause-plan c =
    let parts = c.args.self.now in
    subst (λ (b : List Bundle). IsPlayedAt parts.site b c.args.row.now)
    (sym (c.frames_cycle.ensures.blocks ∙ ap bundles_of c.as_mut_slice-switches.ensures.value))
    (played_at parts.site c.args.row.now parts.tables.switches.items parts.parcels parts.tables.queue (vec_capacity parts.tables.came) parts.most c.requires.whole c.requires.row)

pub cycle-requires-clause-room : goal.cycle-requires-clause-room
cycle-requires-clause-room c =
    let parts = c.args.self.now in
    let frames = subst (λ (xs : List SwitchState). FramesLeave parts.site c.args.row.now c.args.k xs c.frames_cycle.new.switches c.frames_cycle.new.queue
    c.frames_cycle.new.came.items c.args.journal.now c.frames_cycle.new.journal) c.as_mut_slice-switches.ensures.value (record {
      rows = c.frames_cycle.ensures.rows;
      come = c.frames_cycle.ensures.came;
      blocks = c.frames_cycle.ensures.blocks;
      gated = c.frames_cycle.ensures.gated;
      gates = c.frames_cycle.ensures.gates;
      ready = c.frames_cycle.ensures.queue;
    }) in
    room_in c.parcels_keep_to_their_room.ensures.cycle parts.site c.args.row.now c.args.k parts.tables.switches.items c.frames_cycle.new.switches parts.parcels parts.tables.queue
    c.frames_cycle.new.queue (vec_capacity parts.tables.came) parts.most parts.tables.came.items c.frames_cycle.new.came.items c.args.journal.now c.frames_cycle.new.journal
    c.requires.whole c.requires.reached c.requires.room frames

pub returns : goal.returns
returns c =
    let parts = c.args.self.now in
    let s2 = c.cycle.new.switches in
    let frames = subst (λ (xs : List SwitchState). FramesLeave parts.site c.args.row.now c.args.k xs c.frames_cycle.new.switches c.frames_cycle.new.queue
    c.frames_cycle.new.came.items c.args.journal.now c.frames_cycle.new.journal) c.as_mut_slice-switches.ensures.value (record {
      rows = c.frames_cycle.ensures.rows;
      come = c.frames_cycle.ensures.came;
      blocks = c.frames_cycle.ensures.blocks;
      gated = c.frames_cycle.ensures.gated;
      gates = c.frames_cycle.ensures.gates;
      ready = c.frames_cycle.ensures.queue;
    }) in
    let parcels : ParcelsLeave parts.site c.args.row.now c.args.k c.frames_cycle.new.switches s2 parts.parcels c.cycle.new.self
    c.frames_cycle.new.journal c.cycle.new.journal = record {
      kept = c.cycle.ensures.kept;
      parcels = c.cycle.ensures.parcels;
      switches = c.cycle.ensures.switches;
    } in
    let law = c.parcels_keep_to_their_room.ensures.cycle in
    let count = count_after law parts.site c.args.row.now c.args.k parts.tables.switches.items c.frames_cycle.new.switches parts.parcels parts.tables.queue
    c.frames_cycle.new.queue (vec_capacity parts.tables.came) parts.most parts.tables.came.items c.frames_cycle.new.came.items c.args.journal.now c.frames_cycle.new.journal
    c.requires.whole c.requires.reached c.requires.room frames s2 c.cycle.new.self (vec_capacity c.frames_cycle.new.came) c.cycle.new.journal
    c.frames_cycle.ensures.capacity parcels in
    let all : take parts.tables.switches.len (s2 ++ drop (length s2) parts.tables.switches.items) ≡ s2 =
    take_at s2 (drop (length s2) parts.tables.switches.items) parts.tables.switches.len (count ∙ sym parts.tables.switches.ok.0) in
    let here = subst (λ (xs : List SwitchState). CycleLeaves parts.site c.args.row.now c.args.k (state_of parts) xs c.cycle.new.self c.frames_cycle.new.queue
    c.frames_cycle.new.came.items (vec_capacity c.frames_cycle.new.came) parts.most c.args.journal.now c.cycle.new.journal) (sym all)
    (left law parts.site c.args.row.now c.args.k parts.tables.switches.items c.frames_cycle.new.switches parts.parcels parts.tables.queue
    c.frames_cycle.new.queue (vec_capacity parts.tables.came) parts.most parts.tables.came.items c.frames_cycle.new.came.items c.args.journal.now c.frames_cycle.new.journal
    c.requires.whole c.requires.reached c.requires.room frames s2 c.cycle.new.self (vec_capacity c.frames_cycle.new.came) c.cycle.new.journal
    c.frames_cycle.ensures.capacity parcels) in
    record { whole = here.whole; played = here.played }
