use Rattle.std.proofs.Common.{◌≡◌, ◌≤◌, ◌<◌, ℕ, length}
use Rattle.free_plant.specs.Buffers.{buffer_at}
use Rattle.free_plant.specs.Taking.{IsBuffered}
use Rattle.free_plant.specs.Ties.{HasWidths}
use Rattle.free_plant.specs.Views.{port_at}
use Rattle.free_plant.proofs.locked.take_all.Given as goal

abbrev pub invariant-loop-app : goal.invariant-loop-app
invariant-loop-app g l = record {
  ports_count : length l.ports.items ≡ length l.initial.ports.items;
  buffers_count : length l.buffers.items ≡ length l.initial.buffers.items;
  ready : (app : ℕ) → app < l.app → IsBuffered l.k (port_at l.initial.ports.items app) (port_at l.ports.items app) (buffer_at l.buffers.items app);
  rest : (app : ℕ) → l.app ≤ app → port_at l.ports.items app ≡ port_at l.initial.ports.items app;
  widths : (app : ℕ) → app < length l.buffers.items → HasWidths g.N.Naming.start app (buffer_at l.buffers.items app);
}
