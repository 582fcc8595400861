use Rattle.std.proofs.Common.{refl, inr, arith}
use Rattle.std.proofs.lemmas.Bool.{false≢true}
use Rattle.irt_window.proofs.behind.way_behind.Goals as goal

pub returns : goal.returns
returns c =
    let bridge = c.bridge_of-least.ensures.value in
    record {
      hop = c.hop_from-hop.result;
      hops = c.hop_from-hop.ensures.value;
      near = c.hop_from-hop.ensures.small;
      parent_is = refl;
      port_is = refl;
      earliest = omega arith;
      latest = omega arith;
      starts = inr (record {
        relays = λ own. absurd (false≢true (c.if-is_anchor.ensures.1 own));
        d = bridge.d;
        held = bridge.held;
        lo = omega (arith, bridge.least_is);
        hi = omega (arith, bridge.greatest_is);
        anchor = refl;
      });
    }
