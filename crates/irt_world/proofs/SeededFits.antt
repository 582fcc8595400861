-- Seeded rows are in range.
use Rattle.std.proofs.Common.{◌≡◌, ℕ, ◌+◌, ◌-◌, ◌*◌, ◌%◌, ◌<◌, ◌≤◌, List, Some, slice_get, get_or, length, map, All, sym, subst, ◌∙◌, ap, ap₂, zero-add, mod-lt, arith}
use Rattle.std.specs.List.{range_with_len, enumerate_from}
use Rattle.std.proofs.lemmas.Int.{ints}
use Rattle.std.proofs.lemmas.List.{length-map, get_or-map}
use Rattle.std.proofs.lemmas.List.Elements.{All-map}
use Rattle.std.proofs.lemmas.List.FromFn.{length-map-range_with_len, length-enumerate_from, get_or-enumerate_from}
use Rattle.std.proofs.lemmas.Option.{get_or_from_slice_get, slice_get_within}
use Rattle.irt_base.specs.Valid.{IsWithin}
use Rattle.irt_base.specs.declared.blocks.Bundle.{Bundle}
use Rattle.irt_base.specs.declared.limits.TheConstants.{MAX_ERROR}
use Rattle.irt_base.specs.declared.plants.Plant.{Plant}
use Rattle.plan_rules.specs.Plan.{IsPlan}
use Rattle.seed_draws.specs.Draws.{signed_within, draw_of}
use Rattle.irt_world.specs.Forwardings.{forwardings, HasRange}
use Rattle.irt_world.specs.Rows.{IsError, IsRowOf}
use Rattle.irt_world.specs.Seeded.{seeded_row, seeded_error, seeded_delay, seeded_delays}
use Rattle.irt_world.specs.declared.forwardings.Forwarding.{Forwarding}
use Rattle.irt_world.proofs.InOrder.{forwardings_in_order}
use Rattle.irt_world.proofs.Places.{all_at}

pub small_error : (x window : ℕ) → window ≤ MAX_ERROR → IsError (signed_within x window)
small_error x window small =
    let less = mod-lt x {m = 2 * window + 1} (omega arith) in
    record { early = omega (arith, ints, less); late = omega (arith, ints, less) }

pub delay_in_range : (drawn : ℕ) (f : Forwarding) → HasRange f → IsWithin f.bmin f.bmax (f.bmin + drawn % (f.bmax - f.bmin + 1))
delay_in_range drawn f range =
    let less = mod-lt drawn {m = f.bmax - f.bmin + 1} (omega arith) in
    (omega arith, omega (arith, less, range))

numbered : (fs : List Forwarding) (seed cycle n : ℕ) (f : Forwarding) → slice_get fs n ≡ Some f →
    get_or (seeded_delays seed cycle fs) n 0 ≡ seeded_delay seed cycle n f
numbered fs seed cycle n f is =
    let within = slice_get_within fs n f is in
    let within_numbered : n < length (enumerate_from 0 fs) = omega (arith, within, length-enumerate_from 0 fs) in
    get_or-map (λ (p : ℕ × Forwarding). seeded_delay seed cycle p.0 p.1) (enumerate_from 0 fs) n (0, f) 0 within_numbered
    ∙ ap (λ (p : ℕ × Forwarding). seeded_delay seed cycle p.0 p.1) (get_or-enumerate_from 0 fs n (0, f) within)
    ∙ ap₂ (seeded_delay seed cycle) (zero-add n) (get_or_from_slice_get fs n f f is)

pub delays_in_range : (seed cycle : ℕ) (fs : List Forwarding) → All HasRange fs → (n : ℕ) (f : Forwarding) (delay : ℕ) → slice_get fs n ≡ Some f →
    slice_get (seeded_delays seed cycle fs) n ≡ Some delay → IsWithin f.bmin f.bmax delay
delays_in_range seed cycle fs ranges n f delay is drawn =
    subst (IsWithin f.bmin f.bmax) (sym (numbered fs seed cycle n f is) ∙ get_or_from_slice_get (seeded_delays seed cycle fs) n delay 0 drawn)
    (delay_in_range (draw_of seed 5 n cycle) f (all_at HasRange fs n f ranges is))

pub row_fits : (seed : ℕ) (plant : Plant) (bundles : List Bundle) (cycle : ℕ) → IsPlan plant bundles →
    IsRowOf plant bundles (seeded_row seed plant (forwardings plant bundles) cycle)
row_fits seed plant bundles cycle plan = record {
  error_count = length-map-range_with_len (seeded_error seed plant.window cycle) 0 (length plant.devices);
  errors = All-map IsError (seeded_error seed plant.window cycle) (range_with_len 0 (length plant.devices))
      (λ k device below. small_error (draw_of seed 4 (get_or (range_with_len 0 (length plant.devices)) k device) cycle) plant.window (omega (arith, plan.rules.window)));
  bridge_count = length-map (enumerate_from 0 (forwardings plant bundles)) (λ p. seeded_delay seed cycle p.0 p.1) ∙ length-enumerate_from 0 (forwardings plant bundles);
  bridges = delays_in_range seed cycle (forwardings plant bundles) (forwardings_in_order plant bundles plan).ranges;
  links = λ k n below. absurd (omega arith);
  ascending = λ k below. absurd (omega arith);
}

pub rows_fit : (seed : ℕ) (plant : Plant) (bundles : List Bundle) (cycles : ℕ) → IsPlan plant bundles →
    All (IsRowOf plant bundles) (map (seeded_row seed plant (forwardings plant bundles)) (range_with_len 0 cycles))
rows_fit seed plant bundles cycles plan =
    All-map (IsRowOf plant bundles) (seeded_row seed plant (forwardings plant bundles)) (range_with_len 0 cycles)
    (λ k cycle below. row_fits seed plant bundles (get_or (range_with_len 0 cycles) k cycle) plan)
