-- The stop to which another one sends.
use Rattle.std.proofs.Common.{◌≡◌, ◌+◌, ◌*◌, ◌≤◌, ℕ, Some, refl, sym, ◌∙◌, ap, subst, arith}
use Rattle.std.proofs.lemmas.Option.{same_Some}
use Rattle.irt_base.specs.Wiring.{peer_of, hop_of}
use Rattle.irt_base.specs.declared.blocks.Entry.{Entry}
use Rattle.irt_base.specs.declared.limits.TheConstants.{MAX_DELAY}
use Rattle.irt_base.specs.declared.numbers.DevId.{DevId}
use Rattle.irt_base.specs.declared.numbers.PortNo.{PortNo}
use Rattle.irt_base.specs.declared.plants.Plant.{Plant}
use Rattle.plan_rules.specs.Tree.{IsReceiver}
use Rattle.fit_rules.specs.declared.frame_plan.FramePlan.{FramePlan}
use Rattle.fit_rules.specs.Shape.{alone, entry_of}
use Rattle.frame_ways.specs.declared.stops.Stop.{Stop}
use Rattle.frame_ways.specs.Stops.{IsNextStop, IsStopBehind}
use Rattle.frame_ways.proofs.Alone.{entry_from}

-- the far end of the port has an entry
pub record HasFarEntry (base : FramePlan) (device : DevId) (port : PortNo) : Type 0 where
  pub e : Entry
  pub stands : entry_of base device.0 ≡ Some e
  pub here : e.rx_port ≡ port.0
  pub from_one : 1 ≤ e.rx_port

pub far_entry : (plant : Plant) (base : FramePlan) (device port : ℕ) (to : DevId) (by : PortNo) → IsReceiver (alone plant base) base.frame.0 device port →
    peer_of plant device port ≡ Some (to, by) → HasFarEntry base to by
far_entry plant base device port to by receiver over =
    let end : DevId × PortNo = (record { 0 = receiver.receiver }, record { 0 = receiver.e.rx_port }) in
    let same : end ≡ (to, by) = same_Some end (to, by) (sym receiver.leads ∙ over) in record {
      e = receiver.e;
      stands = subst (λ (x : DevId × PortNo). entry_of base x.0.0 ≡ Some receiver.e) same (entry_from plant base receiver.receiver receiver.e receiver.stands);
      here = ap (λ (x : DevId × PortNo). x.1.0) same;
      from_one = receiver.received;
    }

pub next_of : (plant : Plant) (base : FramePlan) (from : Stop) (port hop : ℕ) (to : DevId) (by : PortNo) (e : Entry) (s : Stop) →
    IsReceiver (alone plant base) base.frame.0 from.device.0 port → peer_of plant from.device.0 port ≡ Some (to, by) → hop_of plant from.device.0 port ≡ Some hop → hop ≤ 3 * MAX_DELAY →
    entry_of base to.0 ≡ Some e →
    IsStopBehind plant from hop e (record { device = to; port = record { 0 = e.rx_port }; anchor = from.anchor; latest = from.greatest + hop }) s →
    IsNextStop plant base from port s
next_of plant base from port hop to by e s receiver over hops near stands behind =
    let far = far_entry plant base from.device.0 port to by receiver over in
    let same : far.e ≡ e = same_Some far.e e (sym far.stands ∙ stands) in
    let rx : by.0 ≡ e.rx_port = sym far.here ∙ ap (λ (x : Entry). x.rx_port) same in record {
      hop = hop;
      hops = hops;
      near = near;
      x = record { device = to; port = record { 0 = e.rx_port }; anchor = from.anchor; latest = from.greatest + hop };
      over = over ∙ (λ i. Some (to, record { 0 = rx i }));
      stands = stands ∙ ap (λ (x : Entry). Some x) (sym behind.entry);
      here = ap (λ (x : Entry). x.rx_port) behind.entry;
      from_one = omega (arith, rx, far.here, far.from_one);
      anchor = refl;
      latest = refl;
      behind = record { device = behind.device; entry = refl; arrival = behind.arrival; starts = behind.starts; hops = behind.hops };
    }
