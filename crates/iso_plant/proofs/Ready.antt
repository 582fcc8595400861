-- The network, the journal and the stations of a plant, made one after the other.
use Rattle.std.proofs.Common.{◌≡◌, ℕ, List, [], Ok, Result, IfOk, sym, ◌∙◌, subst₂}
use Rattle.std.proofs.lemmas.Result.{IfOk-at_ok}
use Rattle.irt_base.specs.declared.blocks.Bundle.{Bundle}
use Rattle.irt_base.specs.declared.memory.NoMemory.{NoMemory}
use Rattle.irt_base.specs.declared.numbers.PortNo.{PortNo}
use Rattle.irt_base.specs.declared.plants.Plant.{Plant}
use Rattle.irt_net.specs.Net.{Carries, HasRoomFor, NetState}
use Rattle.parcel_rules.specs.Loads.{no_loads}
use Rattle.plan_rules.specs.World.{WorldRow}
use Rattle.plant_stations.specs.Stations.{AreInCycle, HavePlayed, StationsState}
use Rattle.run_journal.specs.Written.{Written}
use Rattle.iso_plant.specs.Made.{AreReady}

-- What was made, and what else could be made.
pub are_ready : (of plant : Plant) (blocks bundles : List Bundle) (ways : List (List PortNo)) (cycles : ℕ) (made net : NetState)
    (journals : Result Written NoMemory) (begun journal : Written) (all : Result StationsState NoMemory) (stations : StationsState) →
    plant ≡ of → bundles ≡ blocks → made.plant ≡ of → made.bundles ≡ blocks → made.walks ≡ ways → Carries made no_loads →
    journals ≡ Ok begun → IfOk journals (λ j. j.rows ≡ []) → IfOk journals (λ j. HasRoomFor made cycles j.room) →
    all ≡ Ok stations → IfOk all (λ s. (s.plant ≡ plant) × (s.bundles ≡ bundles)) →
    IfOk all (λ s. (world : List WorldRow) (taken : ℕ → ℕ → List ℕ) → HavePlayed world taken 0 s) → IfOk all (AreInCycle 0) →
    net ≡ made → journal ≡ begun → AreReady of blocks ways cycles net stations journal
are_ready of plant blocks bundles ways cycles made net journals begun journal all stations first second own_plant own_bundles walks empty
    written rows room there same played cycle net_is journal_is =
    let (plant_is, bundles_are) = IfOk-at_ok (λ (s : StationsState). (s.plant ≡ plant) × (s.bundles ≡ bundles)) there same in
    subst₂ (λ (n : NetState) (j : Written). AreReady of blocks ways cycles n stations j) (sym net_is) (sym journal_is)
    (record {
      plant = own_plant;
      bundles = own_bundles;
      walks = walks;
      empty = empty;
      same = (plant_is ∙ first, bundles_are ∙ second);
      begun = IfOk-at_ok (λ (s : StationsState). (world : List WorldRow) (taken : ℕ → ℕ → List ℕ) → HavePlayed world taken 0 s) there played;
      cycle = IfOk-at_ok (λ (s : StationsState). AreInCycle 0 s) there cycle;
      rows = IfOk-at_ok (λ (j : Written). j.rows ≡ []) written rows;
      room = IfOk-at_ok (λ (j : Written). HasRoomFor made cycles j.room) written room;
    })
