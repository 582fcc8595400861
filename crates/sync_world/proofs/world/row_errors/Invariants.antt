use Rattle.std.proofs.Common.{◌≡◌, ◌++◌, map, drop}
use Rattle.sync_world.specs.World.{error_at, row_error}
use Rattle.sync_world.proofs.world.row_errors.Given as goal

abbrev pub invariant-loop-own : goal.invariant-loop-own
invariant-loop-own l =
    l.made ++ map (λ own. row_error l.window (error_at l.cycle own)) (drop l.own-index l.errors)
    ≡ map (λ own. row_error l.window (error_at l.cycle own)) l.errors
