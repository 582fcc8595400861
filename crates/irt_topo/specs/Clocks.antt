-- How far a device is from device 0, as tests.
use Rattle.std.specs.Prelude.{ℕ, zero, suc, ◌+◌, ◌==◌, nat_le, Bool, false, ◌&&◌, ◌||◌, if◌then◌else◌, Option, Some, None}
use Rattle.std.specs.List.{list_any}
use Rattle.std.specs.Option.{option_map_or}
use Rattle.irt_base.specs.declared.plants.Link.{Link}
use Rattle.irt_base.specs.declared.plants.Plant.{Plant}
use Rattle.plant_rules.specs.Clocks.{clock_budget}

-- From device 0 over at most so many links, round by round.
abbrev pub joins : (ℕ → Bool) → ℕ → Link → Bool
joins reached device link = (reached link.a.0 && link.b.0 == device) || (reached link.b.0 && link.a.0 == device)

abbrev pub is_reached : Plant → ℕ → ℕ → Bool
is_reached p zero device = device == 0
is_reached p (suc rounds) device =
    is_reached p rounds device || list_any (joins (λ d. is_reached p rounds d) device) p.links

-- the least number from this one on, of so many, that passes
abbrev pub least_from : (ℕ → Bool) → ℕ → ℕ → Option ℕ
least_from test n zero = None
least_from test n (suc more) = if test n then Some n else least_from test (suc n) more

-- the links to device 0, where a walk is short enough for the window: a budget is at least its links
abbrev pub hops_within : Plant → ℕ → Option ℕ
hops_within p device = least_from (λ rounds. is_reached p rounds device) 0 (p.window + 1)

abbrev pub has_clock : Plant → ℕ → Bool
has_clock p device = option_map_or (λ hops. nat_le (clock_budget p.sync hops) p.window) (hops_within p device) false
