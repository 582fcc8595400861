use Rattle.std.proofs.Common.{◌≡◌, take, drop}
use Rattle.std.specs.List.{AllZip}
use Rattle.iso_rules.specs.Station.{words_in}
use Rattle.iso_station.specs.Provider.{HasPlace}
use Rattle.iso_station.proofs.Placing.{written}
use Rattle.iso_station.proofs.provider.Provider.load.Given as goal

abbrev pub invariant-loop-index : goal.invariant-loop-index
invariant-loop-index l = record {
  start : l.start ≡ words_in (take l.index l.self.entries);
  fits : AllZip (HasPlace l.frames) (drop l.index l.self.entries) (drop l.index l.places);
  rest : written l.self l.k (drop l.index l.self.entries) (drop l.index l.places) (drop l.start l.words) l.frames ≡ written l.self l.k l.self.entries l.places l.words l.fn.frames;
}
