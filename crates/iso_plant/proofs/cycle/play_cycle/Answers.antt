use Rattle.std.proofs.Common.{subst, sym}
use Rattle.cycle_frames.specs.Came.{HaveCome}
use Rattle.iso_plant.proofs.Playing.{came_within, frames_ready, have_come, is_loaded, still_played, true_images}
use Rattle.iso_plant.proofs.cycle.play_cycle.Goals as goal

pub cycle-requires-clause-frames : goal.cycle-requires-clause-frames
cycle-requires-clause-frames c =
    frames_ready _ _ _ _ _ _ c.load.new.self _ c.requires.ready c.load.ensures.plant.0 c.load.ensures.plant.1 c.load.ensures.frames c.loaded_frames_are_demanded.ensures _ c.frames.ensures

pub cycle-requires-clause-reached : goal.cycle-requires-clause-reached
cycle-requires-clause-reached c = c.requires.ready.reached

pub end_cycle-requires-clause-came : goal.end_cycle-requires-clause-came
end_cycle-requires-clause-came c =
    let ready = c.requires.ready in
    let played = c.cycle.ensures.rows ready.world ready.loads ready.is.play ready.is.carries in
    came_within _ _ _ _ _ _ c.load.new.self _ ready c.load.ensures.plant.0 c.load.ensures.plant.1 c.load.ensures.frames
    _ (subst (HaveCome _ _ _) (sym c.came.ensures) played.came)

pub returns-clause-played : goal.returns-clause-played
returns-clause-played c world taken loads is =
    let ready = c.requires.ready in
    let rows = c.cycle.ensures.rows world loads is.play is.carries in
    let was = still_played _ _ _ _ _ _ c.load.new.self _ ready c.load.ensures.plant.0 c.load.ensures.plant.1 c.load.ensures.frames c.load.ensures.consumers world taken is.played in
    let loaded = is_loaded _ _ _ _ _ _ c.load.new.self _ ready c.load.ensures.plant.0 c.load.ensures.plant.1 c.load.ensures.frames c.load.ensures.consumers world taken is.sent in
    let come = have_come _ _ _ _ _ _ c.load.new.self _ ready c.load.ensures.plant.0 c.load.ensures.plant.1 c.load.ensures.frames c.load.ensures.consumers world taken
    _ _ c.came.ensures rows.came in
    record {
      rows = rows;
      played = c.end_cycle.ensures.played world taken was loaded come;
      shown = true_images _ _ _ _ _ _ c.load.new.self _ ready c.load.ensures.plant.0 c.load.ensures.plant.1 c.load.ensures.frames c.load.ensures.consumers world taken
          _ (c.end_cycle.ensures.images world taken was loaded come);
    }
