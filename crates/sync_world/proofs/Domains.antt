-- The domain of a plant is in range.
use Rattle.std.proofs.Common.{◌≡◌, ℕ, zero, suc, ◌<◌, ◌≤◌, List, map, length, get_or, Option, Some, None, option_map, option_and_then, slice_get, unwrap_or, sym, ap, subst, inl, inr, arith, All}
use Rattle.std.specs.List.{range_with_len}
use Rattle.std.proofs.lemmas.List.Elements.{All-cons, All-from_recursion, All-map, All-nil}
use Rattle.std.proofs.lemmas.List.FromFn.{get_or-range_with_len, length-map-range_with_len, length-range_with_len}
use Rattle.std.proofs.lemmas.Option.{slice_get_cases, get_or_from_slice_get}
use Rattle.irt_base.specs.Wiring.{link_number, peer_of}
use Rattle.irt_base.specs.declared.limits.TheConstants.{MAX_DELAY, MAX_PORTS, MAX_SEND}
use Rattle.irt_base.specs.declared.numbers.DevId.{DevId}
use Rattle.irt_base.specs.declared.numbers.PortNo.{PortNo}
use Rattle.irt_base.specs.declared.plants.Link.{Link}
use Rattle.irt_base.specs.declared.plants.Plant.{Plant}
use Rattle.irt_route.specs.Clocks.{ClockTable, IsClockTreeOf, clock_parent, hops_in}
use Rattle.plant_rules.specs.Meets.{IsLink}
use Rattle.sync_world.specs.Domain.{IsDomain, IsLine, clock_line, delay_from, device_of, domain_of, walk_up}
use Rattle.sync_world.specs.declared.domain.ClockLine.{ClockLine}
use Rattle.sync_world.specs.declared.domain.Domain.{Domain}
use Rattle.sync_world.proofs.Walks.{length-walk_up}

pub domain_is : (seed : ℕ) (plant : Plant) (tree : ClockTable) (send : ℕ) (lines : List ClockLine) →
    lines ≡ map (clock_line plant tree) (range_with_len 0 (length plant.devices)) →
    record { seed = seed; send = send; drift = plant.sync.drift; stamp = plant.sync.stamp; loss = plant.sync.loss; lines = lines }
    ≡ domain_of seed plant tree send
unfolding domain_of
domain_is seed plant tree send lines is =
    let Made : List ClockLine → Domain = λ l. record {
      seed = seed;
      send = send;
      drift = plant.sync.drift;
      stamp = plant.sync.stamp;
      loss = plant.sync.loss;
      lines = l;
    } in
    ap Made is

-- links lead between devices of the plant
abbrev pub LeadsWithin : Plant → Type 0
LeadsWithin plant = (device port : ℕ) (far : DevId × PortNo) → peer_of plant device port ≡ Some far
    → (device < length plant.devices) × (port ≤ MAX_PORTS) × (far.0.0 < length plant.devices)

short_link : (plant : Plant) (links : List Link) (o : Option ℕ) → All (IsLink plant) links →
    unwrap_or (option_map (λ (l : Link). l.delay) (option_and_then (slice_get links) o)) 0 ≤ MAX_DELAY
short_link plant links None all = omega arith
short_link plant links (Some n) all =
    elim (slice_get_cases links n).1 [
      | inl (l, within, is, same) ↦
          let there = subst (IsLink plant) (get_or_from_slice_get links n l l is) (all n l within) in
          rw is there.delay
      | inr (past, none) ↦ rw none (omega arith)
    ]

short_delay : (plant : Plant) (from : Option (DevId × PortNo)) → All (IsLink plant) plant.links → delay_from plant from ≤ MAX_DELAY
short_delay plant None all = omega arith
short_delay plant (Some from) all = short_link plant plant.links (link_number plant from.0.0 from.1.0) all

walk_within : (tree : ClockTable) (n : ℕ) → ((d : ℕ) → d < n → (device_of (clock_parent tree d)).0 < n) → (links : ℕ) (device : DevId) →
    device.0 < n → All (λ v. v.0 < n) (walk_up tree links device)
walk_within tree n parents zero device below = All-nil (λ (v : DevId). v.0 < n)
walk_within tree n parents (suc links) device below =
    All-cons (λ (v : DevId). v.0 < n) device (walk_up tree links (device_of (clock_parent tree device.0))) below
    (walk_within tree n parents links (device_of (clock_parent tree device.0)) (parents device.0 below))

parent_within : (plant : Plant) (tree : ClockTable) → IsClockTreeOf plant tree → LeadsWithin plant → (d : ℕ) → d < length plant.devices →
    (device_of (clock_parent tree d)).0 < length plant.devices
parent_within plant tree own leads zero below = rw own.root (omega arith)
parent_within plant tree own leads (suc d) below =
    let (from, is, step) = own.parents (suc d) (omega arith) below in
    let within = leads from.0.0 from.1.0 step.step.step.far step.step.step.over in
    rw is within.0

line_valid : (plant : Plant) (tree : ClockTable) → IsClockTreeOf plant tree → LeadsWithin plant → (device : ℕ) → device < length plant.devices →
    IsLine (length plant.devices) (clock_line plant tree device)
line_valid plant tree own leads device below =
    let links = length-walk_up tree (hops_in tree device) (record { 0 = device }) in
    let few = own.small device in
    record {
      delay = short_delay plant (clock_parent tree device) (All-from_recursion (IsLink plant) plant.links own.rules.links);
      long = omega (arith, links, few);
      walk = walk_within tree (length plant.devices) (parent_within plant tree own leads) (hops_in tree device) (record { 0 = device }) below;
    }

pub domain_valid : (seed : ℕ) (plant : Plant) (tree : ClockTable) (send : ℕ) → IsClockTreeOf plant tree → LeadsWithin plant →
    1 ≤ send → send ≤ MAX_SEND → IsDomain (domain_of seed plant tree send)
unfolding domain_of
domain_valid seed plant tree send own leads some few =
    let lines : List ClockLine = map (clock_line plant tree) (range_with_len 0 (length plant.devices)) in
    let count : length lines ≡ length plant.devices = length-map-range_with_len (clock_line plant tree) 0 (length plant.devices) in
    let all : All (IsLine (length plant.devices)) lines =
    All-map (IsLine (length plant.devices)) (clock_line plant tree) (range_with_len 0 (length plant.devices))
    (λ k device below.
    let short = length-range_with_len 0 (length plant.devices) in
    let here = get_or-range_with_len 0 (length plant.devices) k device (omega (arith, below, short)) in
    line_valid plant tree own leads (get_or (range_with_len 0 (length plant.devices)) k device) (omega (arith, below, short, here))) in
    record {
      some_send = some;
      send = few;
      drift = own.rules.sync.drift;
      stamp = own.rules.sync.stamp;
      count = omega (arith, count, own.rules.device_count);
      lines = subst (λ (n : ℕ). All (IsLine n) lines) (sym count) all;
    }
