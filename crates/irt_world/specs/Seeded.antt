-- The world that a seed makes.
use Rattle.std.specs.Prelude.{ℕ, ◌+◌, ◌-◌, ◌%◌, ℤ, List, [], length, map}
use Rattle.std.specs.List.{range_with_len, enumerate_from}
use Rattle.irt_base.specs.declared.blocks.Bundle.{Bundle}
use Rattle.irt_base.specs.declared.plants.Plant.{Plant}
use Rattle.seed_draws.specs.Draws.{draw_of, signed_within}
use Rattle.irt_world.specs.Forwardings.{forwardings}
use Rattle.irt_world.specs.declared.forwardings.Forwarding.{Forwarding}
use Rattle.irt_world.specs.declared.rows.Row.{Row}
use Rattle.irt_world.specs.declared.seeded.TheConstants.{ERRORS, DELAYS}

-- the error of a device in a cycle, within the window
abbrev pub seeded_error : ℕ → ℕ → ℕ → ℕ → ℤ
seeded_error seed window cycle device = signed_within (draw_of seed ERRORS device cycle) window

-- the bridge delay of a forwarding in a cycle, from its device's least to its greatest
abbrev pub seeded_delay : ℕ → ℕ → ℕ → Forwarding → ℕ
seeded_delay seed cycle number f = f.bmin + draw_of seed DELAYS number cycle % (f.bmax - f.bmin + 1)

-- those of all forwardings
abbrev pub seeded_delays : ℕ → ℕ → List Forwarding → List ℕ
seeded_delays seed cycle fs = map (λ p. seeded_delay seed cycle p.0 p.1) (enumerate_from 0 fs)

-- one row, in which no link is cut
abbrev pub seeded_row : ℕ → Plant → List Forwarding → ℕ → Row
seeded_row seed plant fs cycle = record {
  errors = map (seeded_error seed plant.window cycle) (range_with_len 0 (length plant.devices));
  bridges = seeded_delays seed cycle fs;
  cuts = [];
}

-- so many rows
abbrev pub seeded_rows : ℕ → Plant → List Bundle → ℕ → List Row
seeded_rows seed plant bundles cycles = map (seeded_row seed plant (forwardings plant bundles)) (range_with_len 0 cycles)
