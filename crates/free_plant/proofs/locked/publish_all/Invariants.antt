use Rattle.std.proofs.Common.{◌≡◌, ◌≤◌, ◌<◌, ℕ, length}
use Rattle.free_plant.specs.Buffers.{buffer_at}
use Rattle.free_plant.specs.Views.{port_at, with_image}
use Rattle.free_plant.proofs.locked.publish_all.Given as goal

abbrev pub invariant-loop-app : goal.invariant-loop-app
invariant-loop-app g l = record {
  count : length l.ports.items ≡ length l.initial.ports.items;
  done : (app : ℕ) → app < l.app →
      port_at l.ports.items app ≡ with_image (port_at l.initial.ports.items app) (buffer_at l.buffers app).image (buffer_at l.buffers app).offer.taken.number;
  rest : (app : ℕ) → l.app ≤ app → port_at l.ports.items app ≡ port_at l.initial.ports.items app;
}
