use Rattle.period_gate.specs.SentList.{sent_of}
use Rattle.parcel_rules.proofs.Fate.{one_fate}
use Rattle.parcel_rules.proofs.Once.{made_once}
use Rattle.parcel_rules.proofs.Rooms.{walks_of}
use Rattle.parcel_rules.proofs.law.parcels_have_one_fate.Goals as goal

pub returns : goal.returns
returns c = λ plant bundles rules walks best world cycles few traffic serial. record {
  once = made_once traffic serial plant cycles;
  one = one_fate traffic serial plant rules bundles walks (walks_of plant walks best.each)
      (λ gate kind. c.cycle_law.ensures.front gate (sent_of gate) (c.cycle_law.ensures.some gate) kind) world cycles few;
}
