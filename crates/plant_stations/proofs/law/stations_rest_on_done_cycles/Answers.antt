use Rattle.plant_stations.proofs.Done.{still_played}
use Rattle.plant_stations.proofs.law.stations_rest_on_done_cycles.Goals as goal

pub returns : goal.returns
returns c = still_played
