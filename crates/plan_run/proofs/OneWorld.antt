-- A seed has one world.
use Rattle.std.proofs.Common.{◌≡◌, ℕ, List, length, sym, ◌∙◌, ap}
use Rattle.std.proofs.lemmas.List.FromFn.{length-map-range_with_len}
use Rattle.std.proofs.lemmas.Option.{same_Some}
use Rattle.irt_base.specs.declared.blocks.Bundle.{Bundle}
use Rattle.irt_base.specs.declared.plants.Clocks.{Clocks}
use Rattle.irt_base.specs.declared.plants.Clocks.TheVariants as clocks
use Rattle.irt_base.specs.declared.plants.Plant.{Plant}
use Rattle.irt_route.specs.Clocks.{ClockTable, IsClockTreeOf}
use Rattle.irt_world.specs.declared.rows.World.{World}
use Rattle.plan_run.specs.World.{IsPtcpWorld, AreRowsBy, timeouts_of}
use Rattle.irt_world.specs.Forwardings.{forwardings}
use Rattle.irt_world.specs.Seeded.{seeded_row}
use Rattle.sync_world.specs.Domain.{domain_of}
use Rattle.sync_world.specs.World.{ptcp_row, ptcp_rows}

same_rows : (world other : World) → world.rows ≡ other.rows → world ≡ other
same_rows world other is = λ i. record { rows = is i }

-- any two clock trees of a plant give the same rows
abbrev pub OneByPtcp : Type 0
OneByPtcp = (seed : ℕ) (plant : Plant) (bundles : List Bundle) (tree other : ClockTable) (send : ℕ) (timeouts : List ℕ) (cycles : ℕ) → IsClockTreeOf plant tree →
    IsClockTreeOf plant other → ptcp_rows seed plant bundles tree send timeouts cycles ≡ ptcp_rows seed plant bundles other send timeouts cycles

one_heard : OneByPtcp → (plant : Plant) (bundles : List Bundle) (seed cycles : ℕ) (world other : World) → IsPtcpWorld plant bundles seed cycles world →
    IsPtcpWorld plant bundles seed cycles other → world ≡ other
one_heard law plant bundles seed cycles world other a b =
    let starts : a.first ≡ b.first = same_Some a.first b.first (sym a.is_first ∙ b.is_first) in
    same_rows world other
    (a.rows
    ∙ law seed plant bundles a.tree b.tree a.first.sync.send (timeouts_of bundles) cycles a.is_tree b.is_tree
    ∙ ap (λ (first : Bundle). ptcp_rows seed plant bundles b.tree first.sync.send (timeouts_of bundles) cycles) starts
    ∙ sym b.rows)

pub one_world : OneByPtcp → (kind : Clocks) (plant : Plant) (bundles : List Bundle) (seed cycles : ℕ) (world other : World) → AreRowsBy kind plant bundles seed cycles world →
    AreRowsBy kind plant bundles seed cycles other → world ≡ other
one_world law clocks.World plant bundles seed cycles world other a b = same_rows world other (a ∙ sym b)
one_world law clocks.Ptcp plant bundles seed cycles world other a b = one_heard law plant bundles seed cycles world other a b

-- a world of a seed has as many cycles as were asked for
pub cycles_of : (kind : Clocks) (plant : Plant) (bundles : List Bundle) (seed cycles : ℕ) (world : World) → AreRowsBy kind plant bundles seed cycles world →
    length world.rows ≡ cycles
cycles_of clocks.World plant bundles seed cycles world is =
    ap length is ∙ length-map-range_with_len (seeded_row seed plant (forwardings plant bundles)) 0 cycles
cycles_of clocks.Ptcp plant bundles seed cycles world is =
    ap length is.rows
    ∙ length-map-range_with_len (ptcp_row (domain_of seed plant is.tree is.first.sync.send) plant (forwardings plant bundles) (timeouts_of bundles)) 0 cycles
