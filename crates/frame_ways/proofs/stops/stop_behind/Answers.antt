use Rattle.std.proofs.Common.{ℕ, inl, inr, refl, sym, ◌∙◌, ap}
use Rattle.std.proofs.lemmas.Bool.{false≢true}
use Rattle.irt_base.specs.declared.numbers.DevId.{DevId}
use Rattle.frame_ways.proofs.Devices.{device_rules}
use Rattle.frame_ways.proofs.Lists.{item_read}
use Rattle.frame_ways.proofs.stops.stop_behind.Goals.{then-is_starter, else-is_starter}
use Rattle.frame_ways.proofs.stops.stop_behind.Goals as goal

pub returns : goal.returns
returns c = record {
  device = refl;
  entry = refl;
  arrival = refl;
  hops = refl;
  starts = elim c.if-is_starter.branch [
    | then-is_starter w ↦ inl (record {
      starts = c.is_starter.ensures.0 w.if-is_starter.true;
      anchor = ap (λ (x : DevId × ℕ × ℕ). x.0) w.least-is;
      least = ap (λ (x : DevId × ℕ × ℕ). x.1) w.least-is;
      greatest = ap (λ (x : DevId × ℕ × ℕ). x.2) w.least-is;
    })
    | else-is_starter w ↦
        let plant = c.args.plant.now in
        let d = w.index-as_slice-from.result in
        let held = item_read plant.devices w.as_slice.result.now w.from.result c.args.arrival.device.0 d w.as_slice.ensures w.from.ensures c.requires.there w.index-as_slice-from.is in
        inr (record {
          relays = λ own. false≢true (sym w.if-is_starter.false ∙ c.is_starter.ensures.1 own);
          d = d;
          held = held;
          ordered = (device_rules plant c.requires.rules c.args.arrival.device.0 d held).bridge_order;
          small = (device_rules plant c.requires.rules c.args.arrival.device.0 d held).bridge;
          anchor = ap (λ (x : DevId × ℕ × ℕ). x.0) w.least-is;
          least = ap (λ (x : DevId × ℕ × ℕ). x.1) w.least-is;
          greatest = ap (λ (x : DevId × ℕ × ℕ). x.2) w.least-is;
        })
  ];
}
