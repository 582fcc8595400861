use Rattle.plant_stations.proofs.Reading.{read_again}
use Rattle.plant_stations.proofs.law.loaded_frames_are_demanded.Goals as goal

pub returns : goal.returns
returns c = λ plant bundles plan accepted taken k frames loaded number d at due.
    let read = read_again plant bundles plan accepted taken k number d _ at (loaded number d at due) in
    (read.bytes, read.stands, record { fields = read.f; told = read.told; frame = read.named; count = read.count })
