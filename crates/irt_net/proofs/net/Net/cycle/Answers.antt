use Rattle.std.proofs.Common.{sym, subst}
use Rattle.cycle_frames.specs.Bytes.{AreFramesOf}
use Rattle.irt_net.specs.Net.{HasRoomFor, IsReached, NetState}
use Rattle.irt_net.specs.Parts.{HavePlayed, state_of}
use Rattle.irt_world.specs.Rows.{IsRowOf}
use Rattle.plan_rules.specs.Plan.{setup_of}
use Rattle.irt_net.proofs.net.Net.cycle.Goals as goal

pub cycle-requires-clause-row : goal.cycle-requires-clause-row
cycle-requires-clause-row c = subst (λ (n : NetState). IsRowOf n.plant n.bundles c.args.row.now) (sym c.self.view_is) c.requires.row

pub cycle-requires-clause-reached : goal.cycle-requires-clause-reached
cycle-requires-clause-reached c = subst (λ (n : NetState). IsReached n c.args.row.now c.args.k) (sym c.self.view_is) c.requires.reached

pub cycle-requires-clause-frames : goal.cycle-requires-clause-frames
cycle-requires-clause-frames c =
    subst (λ (n : NetState). AreFramesOf (setup_of n.plant n.bundles) c.args.k c.args.frames.now) (sym c.self.view_is) c.requires.frames

pub cycle-requires-clause-room : goal.cycle-requires-clause-room
cycle-requires-clause-room c = subst (λ (n : NetState). HasRoomFor n 1 c.args.journal.now.room) (sym c.self.view_is) c.requires.room

pub returns : goal.returns
returns c =
    let played = subst (λ (n : NetState). HavePlayed c.args.row.now c.args.k n (state_of c.cycle.new.self) c.args.journal.now c.cycle.new.journal)
    c.self.view_is c.cycle.ensures.played in
    record { same = played.same; rows = played.rows; room = played.room }
