-- The rows of a PTCP world, and how they keep to budgets.
use Rattle.std.proofs.Common.{◌≡◌, ℕ, ◌+◌, ◌-◌, ◌*◌, ◌%◌, ◌==◌, ◌&&◌, ◌<◌, ◌≤◌, Bool, true, false, not, if◌then◌else◌, List, [], ◌∷◌, map, length, get_or, Option, Some, None, slice_get, slice_index, unwrap_or, refl, sym, ◌∙◌, ap, ap₂, subst, inl, inr, arith, All, mod-lt, mul_assoc, mul-le-mul_left, zero-add}
use Rattle.std.specs.Prelude.{ℤ, pos}
use Rattle.std.specs.List.{enumerate_from, range_with_len}
use Rattle.std.proofs.lemmas.Bool.{cases_Bool, ltb-false, false≢true}
use Rattle.std.proofs.lemmas.Int.{ints}
use Rattle.std.proofs.lemmas.List.{get_or-map, length-map}
use Rattle.std.proofs.lemmas.List.Elements.{All-map}
use Rattle.std.proofs.lemmas.List.FromFn.{get_or-enumerate_from, get_or-range_with_len, length-enumerate_from, length-map-range_with_len, length-range_with_len}
use Rattle.std.proofs.lemmas.Option.{get_or_from_slice_get, slice_get_within}
use Rattle.irt_base.specs.Cycle.{budget_time}
use Rattle.irt_base.specs.Valid.{IsWithin}
use Rattle.irt_base.specs.declared.blocks.Bundle.{Bundle}
use Rattle.irt_base.specs.declared.plants.Plant.{Plant}
use Rattle.irt_route.specs.Clocks.{ClockTable, clock_budget, hops_in}
use Rattle.irt_world.specs.Forwardings.{HasRange, forwardings}
use Rattle.irt_world.specs.Rows.{IsError, IsRowOf, error_in}
use Rattle.irt_world.specs.Seeded.{seeded_delay, seeded_delays}
use Rattle.irt_world.specs.declared.forwardings.Forwarding.{Forwarding}
use Rattle.irt_world.specs.declared.rows.Row.{Row}
use Rattle.plan_rules.specs.World.{IsWithinWindow}
use Rattle.seed_draws.specs.Draws.{draw_of}
use Rattle.sync_world.specs.Clocks.{age_of, clock_at, clock_error, heard_error, heard_errors, is_mute, is_silent}
use Rattle.sync_world.specs.Domain.{IsDomain, clock_line, domain_of, no_line, walk_of}
use Rattle.sync_world.specs.World.{HasBudgets, IsInStepAsHeard, KeepsBudgets, all_errors, error_at, ptcp_row, row_by, row_error, row_errors}
use Rattle.sync_world.specs.declared.domain.ClockLine.{ClockLine}
use Rattle.sync_world.specs.declared.domain.Domain.{Domain}
use Rattle.sync_world.proofs.Tables.{made_at}
use Rattle.sync_world.proofs.Walks.{length-walk_up}

-- clocks are bounded
abbrev pub AreClocksBounded : Type 0
AreClocksBounded = (domain : Domain) (device cycle : ℕ) → IsDomain domain →
    IsWithinWindow (clock_at domain device cycle).error
    (pos (budget_time (length (walk_of domain device)) domain.stamp domain.drift 1 (age_of (clock_at domain device cycle) cycle)))

-- a row by the errors of each device in all cycles
same_rows : (domain : Domain) (window : ℕ) (timeouts : List ℕ) (cycles cycle : ℕ) (devices : List ℕ) → cycle < cycles →
    map (λ own. row_error window (error_at cycle own)) (map (λ device. heard_errors domain (slice_index timeouts device) device cycles) devices)
    ≡ map (λ device. row_error window (heard_error domain (slice_index timeouts device) device cycle)) devices
same_rows domain window timeouts cycles cycle [] below = refl
same_rows domain window timeouts cycles cycle (device ∷ more) below =
    let here : error_at cycle (heard_errors domain (slice_index timeouts device) device cycles) ≡ heard_error domain (slice_index timeouts device) device cycle =
    ap (λ (o : Option (Option ℤ)). unwrap_or o None) (made_at (heard_error domain (slice_index timeouts device) device) cycles cycle below) in
    ap₂ (λ (e : Option ℤ) (l : List ℤ). row_error window e ∷ l) here (same_rows domain window timeouts cycles cycle more below)

pub row_is : (domain : Domain) (plant : Plant) (timeouts : List ℕ) (fs : List Forwarding) (cycles cycle seed : ℕ) (errors : List (List (Option ℤ))) (row : Row) →
    row ≡ row_by plant.window (seeded_delays seed cycle fs) errors cycle → errors ≡ all_errors domain timeouts cycles → cycle < cycles →
    seed ≡ domain.seed → length domain.lines ≡ length plant.devices → row ≡ ptcp_row domain plant fs timeouts cycle
row_is domain plant timeouts fs cycles cycle seed errors row is made below same count =
    let Made : List ℤ → ℕ → Row = λ l s. record { errors = l; bridges = seeded_delays s cycle fs; cuts = [] } in
    let errors_are : map (λ own. row_error plant.window (error_at cycle own)) errors ≡ row_errors domain plant.window timeouts (length plant.devices) cycle =
    ap (map (λ own. row_error plant.window (error_at cycle own))) made
    ∙ same_rows domain plant.window timeouts cycles cycle (range_with_len 0 (length domain.lines)) below
    ∙ ap (λ (n : ℕ). row_errors domain plant.window timeouts n cycle) count in
    is ∙ ap₂ Made errors_are same

mute_error : (domain : Domain) (timeout device cycle : ℕ) → is_mute domain timeout device cycle ≡ true → heard_error domain timeout device cycle ≡ None
unfolding heard_error
mute_error domain timeout device cycle mute =
    ap (λ (b : Bool). if b then None else Some (clock_error domain device cycle)) mute

loud_error : (domain : Domain) (timeout device cycle : ℕ) → is_mute domain timeout device cycle ≡ false →
    heard_error domain timeout device cycle ≡ Some (clock_error domain device cycle)
unfolding heard_error
loud_error domain timeout device cycle loud =
    ap (λ (b : Bool). if b then None else Some (clock_error domain device cycle)) loud

error_is : (domain : Domain) (plant : Plant) (fs : List Forwarding) (timeouts : List ℕ) (cycle device : ℕ) → device < length plant.devices →
    error_in (ptcp_row domain plant fs timeouts cycle) device ≡ row_error plant.window (heard_error domain (slice_index timeouts device) device cycle)
error_is domain plant fs timeouts cycle device below =
    ap (λ (o : Option ℤ). unwrap_or o (pos 0))
    (made_at (λ d. row_error plant.window (heard_error domain (slice_index timeouts d) d cycle)) (length plant.devices) device below)

young : (heard : Option ℕ) (cycle patience : ℕ) → is_silent heard cycle patience ≡ false → cycle - unwrap_or heard 0 ≤ patience
young None cycle patience loud = absurd (false≢true (sym loud))
young (Some c) cycle patience loud = let late = ltb-false (c + patience) cycle loud in omega (arith, late)

budget_grows : (h s d send timeout age : ℕ) → age ≤ send * timeout → budget_time h s d 1 age ≤ budget_time h s d send timeout
budget_grows h s d send timeout age young_enough =
    let drifts : d * age ≤ d * (send * timeout) = mul-le-mul_left d young_enough in
    let all : d * send * timeout ≡ d * (send * timeout) = mul_assoc d send timeout in
    let once : d * 1 * age ≡ d * age = ap (λ (n : ℕ). n * age) (omega arith) in
    omega (arith, drifts, all, once)

wider : (error : ℤ) (small great : ℕ) → small ≤ great → IsWithinWindow error (pos small) → IsWithinWindow error (pos great)
wider error small great le within = record { early = omega (arith, ints, le, within.early); late = omega (arith, ints, le, within.late) }

by_master : (master silent : Bool) (error : ℤ) (bound : ℕ) → (not master && silent) ≡ false → (silent ≡ false → IsWithinWindow error (pos bound)) →
    IsWithinWindow (if master then pos 0 else error) (pos (if master then 0 else bound))
by_master true silent error bound loud near = record { early = omega (arith, ints); late = omega (arith, ints) }
by_master false silent error bound loud near = near loud

loud_near : AreClocksBounded → (domain : Domain) (timeout device cycle hops : ℕ) → IsDomain domain → length (walk_of domain device) ≡ hops →
    is_mute domain timeout device cycle ≡ false →
    IsWithinWindow (clock_error domain device cycle) (pos (if device == 0 then 0 else budget_time hops domain.stamp domain.drift domain.send timeout))
loud_near bounded domain timeout device cycle hops valid long loud =
    by_master (device == 0) (is_silent (clock_at domain device cycle).heard cycle (domain.send * timeout)) (clock_at domain device cycle).error
    (budget_time hops domain.stamp domain.drift domain.send timeout) loud
    (λ heard.
    subst (λ (n : ℕ). IsWithinWindow (clock_at domain device cycle).error (pos (budget_time n domain.stamp domain.drift domain.send timeout))) long
    (wider (clock_at domain device cycle).error
    (budget_time (length (walk_of domain device)) domain.stamp domain.drift 1 (age_of (clock_at domain device cycle) cycle))
    (budget_time (length (walk_of domain device)) domain.stamp domain.drift domain.send timeout)
    (budget_grows (length (walk_of domain device)) domain.stamp domain.drift domain.send timeout (age_of (clock_at domain device cycle) cycle)
    (young (clock_at domain device cycle).heard cycle (domain.send * timeout) heard))
    (bounded domain device cycle valid)))

walk_length : (seed : ℕ) (plant : Plant) (tree : ClockTable) (send device : ℕ) → device < length plant.devices →
    length (walk_of (domain_of seed plant tree send) device) ≡ hops_in tree device
unfolding domain_of
walk_length seed plant tree send device below =
    ap (λ (o : Option ClockLine). length (unwrap_or o no_line).walk) (made_at (clock_line plant tree) (length plant.devices) device below)
    ∙ length-walk_up tree (hops_in tree device) (record { 0 = device })

pub near_by : AreClocksBounded → (seed : ℕ) (plant : Plant) (tree : ClockTable) (send timeout device cycle : ℕ) → IsDomain (domain_of seed plant tree send) →
    device < length plant.devices → is_mute (domain_of seed plant tree send) timeout device cycle ≡ false →
    IsWithinWindow (clock_error (domain_of seed plant tree send) device cycle)
    (pos (clock_budget tree plant.sync device (domain_of seed plant tree send).send timeout))
unfolding domain_of
near_by bounded seed plant tree send timeout device cycle valid below loud =
    loud_near bounded (domain_of seed plant tree send) timeout device cycle (hops_in tree device) valid (walk_length seed plant tree send device below) loud

pub keeps_budgets : AreClocksBounded → (seed : ℕ) (plant : Plant) (tree : ClockTable) (send : ℕ) (timeouts : List ℕ) (fs : List Forwarding) (cycle : ℕ) (row : Row) →
    IsDomain (domain_of seed plant tree send) → row ≡ ptcp_row (domain_of seed plant tree send) plant fs timeouts cycle →
    KeepsBudgets plant tree (domain_of seed plant tree send) timeouts cycle row
keeps_budgets bounded seed plant tree send timeouts fs cycle row valid is =
    let domain : Domain = domain_of seed plant tree send in
    subst (λ (r : Row). KeepsBudgets plant tree domain timeouts cycle r) (sym is)
    (record {
      near = λ device below loud.
          subst (λ (z : ℤ). IsWithinWindow z (pos (clock_budget tree plant.sync device domain.send (slice_index timeouts device))))
          (sym (error_is domain plant fs timeouts cycle device below ∙ ap (row_error plant.window) (loud_error domain (slice_index timeouts device) device cycle loud)))
          (near_by bounded seed plant tree send (slice_index timeouts device) device cycle valid below loud);
      muted = λ device below mute.
          error_is domain plant fs timeouts cycle device below ∙ ap (row_error plant.window) (mute_error domain (slice_index timeouts device) device cycle mute);
    })

over_window : (window : ℕ) (error : ℤ) → error ≡ pos (window + 1) → IsWithinWindow error (pos window) → ⊥
over_window window error is within = omega (arith, ints, is, within.late)

pub in_step : (seed : ℕ) (plant : Plant) (bundles : List Bundle) (tree : ClockTable) (send : ℕ) (timeouts : List ℕ) (cycle : ℕ) (row : Row) →
    (domain : Domain) → domain.send ≡ send → HasBudgets plant tree send timeouts → KeepsBudgets plant tree domain timeouts cycle row →
    IsInStepAsHeard plant bundles domain timeouts cycle row
in_step seed plant bundles tree send timeouts cycle row domain sends small keeps = λ device below. (
  λ step. elim (cases_Bool (is_mute domain (slice_index timeouts device) device cycle)) [
    | inl mute ↦ absurd (over_window plant.window (error_in row device) (keeps.muted device below mute) step)
    | inr loud ↦ loud
  ],
  λ loud.
      wider (error_in row device) (clock_budget tree plant.sync device domain.send (slice_index timeouts device)) plant.window
      (subst (λ (n : ℕ). clock_budget tree plant.sync device n (slice_index timeouts device) ≤ plant.window) (sym sends) (small device below))
      (keeps.near device below loud),
)

-- bridge delays as in seeded worlds
delay_in_range : (drawn : ℕ) (f : Forwarding) → HasRange f → IsWithin f.bmin f.bmax (f.bmin + drawn % (f.bmax - f.bmin + 1))
delay_in_range drawn f range =
    let less = mod-lt drawn {m = f.bmax - f.bmin + 1} (omega arith) in
    (omega arith, omega (arith, less, range))

delay_is : (fs : List Forwarding) (seed cycle n : ℕ) (f : Forwarding) → slice_get fs n ≡ Some f →
    get_or (seeded_delays seed cycle fs) n 0 ≡ seeded_delay seed cycle n f
delay_is fs seed cycle n f is =
    let within = slice_get_within fs n f is in
    let inside : n < length (enumerate_from 0 fs) = omega (arith, within, length-enumerate_from 0 fs) in
    get_or-map (λ (p : ℕ × Forwarding). seeded_delay seed cycle p.0 p.1) (enumerate_from 0 fs) n (0, f) 0 inside
    ∙ ap (λ (p : ℕ × Forwarding). seeded_delay seed cycle p.0 p.1) (get_or-enumerate_from 0 fs n (0, f) within)
    ∙ ap₂ (seeded_delay seed cycle) (zero-add n) (get_or_from_slice_get fs n f f is)

delays_in_range : (seed cycle : ℕ) (fs : List Forwarding) → All HasRange fs → (n : ℕ) (f : Forwarding) (delay : ℕ) → slice_get fs n ≡ Some f →
    slice_get (seeded_delays seed cycle fs) n ≡ Some delay → IsWithin f.bmin f.bmax delay
delays_in_range seed cycle fs ranges n f delay is drawn =
    let range : HasRange f = subst HasRange (get_or_from_slice_get fs n f f is) (ranges n f (slice_get_within fs n f is)) in
    subst (IsWithin f.bmin f.bmax) (sym (delay_is fs seed cycle n f is) ∙ get_or_from_slice_get (seeded_delays seed cycle fs) n delay 0 drawn)
    (delay_in_range (draw_of seed 5 n cycle) f range)

small_error : (window : ℕ) (mute : Bool) (error : ℤ) → window ≤ 10000 → (mute ≡ true → error ≡ pos (window + 1)) →
    (mute ≡ false → IsWithinWindow error (pos window)) → IsError error
small_error window true error small muted near = let is = muted refl in record { early = omega (arith, ints, is); late = omega (arith, ints, is, small) }
small_error window false error small muted near = wider error window 1000000 (omega (arith, small)) (near refl)

pub row_fits : (plant : Plant) (bundles : List Bundle) (tree : ClockTable) (domain : Domain) (send : ℕ) (timeouts : List ℕ) (cycle : ℕ) →
    plant.window ≤ 10000 → domain.send ≡ send → HasBudgets plant tree send timeouts → All HasRange (forwardings plant bundles) →
    KeepsBudgets plant tree domain timeouts cycle (ptcp_row domain plant (forwardings plant bundles) timeouts cycle) →
    IsRowOf plant bundles (ptcp_row domain plant (forwardings plant bundles) timeouts cycle)
row_fits plant bundles tree domain send timeouts cycle window sends small ranges keeps =
    let fs = forwardings plant bundles in
    let number : ℕ → ℤ = λ d. row_error plant.window (heard_error domain (slice_index timeouts d) d cycle) in
    record {
      error_count = length-map-range_with_len number 0 (length plant.devices);
      errors = All-map IsError number (range_with_len 0 (length plant.devices))
          (λ k d below.
          let short = length-range_with_len 0 (length plant.devices) in
          let here = get_or-range_with_len 0 (length plant.devices) k d (omega (arith, below, short)) in
          let device : ℕ = get_or (range_with_len 0 (length plant.devices)) k d in
          let inside : device < length plant.devices = omega (arith, below, short, here) in
          let is = error_is domain plant fs timeouts cycle device inside in
          subst IsError is
          (small_error plant.window (is_mute domain (slice_index timeouts device) device cycle) (error_in (ptcp_row domain plant fs timeouts cycle) device) window
          (keeps.muted device inside)
          (λ loud. wider (error_in (ptcp_row domain plant fs timeouts cycle) device)
          (clock_budget tree plant.sync device domain.send (slice_index timeouts device)) plant.window
          (subst (λ (n : ℕ). clock_budget tree plant.sync device n (slice_index timeouts device) ≤ plant.window) (sym sends) (small device inside))
          (keeps.near device inside loud))));
      bridge_count = length-map (enumerate_from 0 fs) (λ p. seeded_delay domain.seed cycle p.0 p.1) ∙ length-enumerate_from 0 fs;
      bridges = delays_in_range domain.seed cycle fs ranges;
      links = λ k n below. absurd (omega arith);
      ascending = λ k below. absurd (omega arith);
    }
