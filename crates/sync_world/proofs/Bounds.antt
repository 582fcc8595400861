-- How wrong measured delays and clocks may be.
use Rattle.std.proofs.Common.{◌≡◌, ℕ, zero, suc, ◌+◌, ◌*◌, ◌/◌, ◌%◌, ◌==◌, ◌<◌, ◌≤◌, Bool, true, false, List, [], drop, map, length, get_or, Option, Some, None, unwrap_or, if◌then◌else◌, refl, sym, ◌∙◌, ap, subst, arith, All, mod-lt, mul-le-mul, mul-le-mul_left}
use Rattle.std.specs.Prelude.{ℤ, pos, ◌+ℤ◌}
use Rattle.std.specs.List.{range_with_len}
use Rattle.std.proofs.lemmas.Int.{ints}
use Rattle.std.proofs.lemmas.List.{length-drop}
use Rattle.std.proofs.lemmas.List.Elements.{All-map}
use Rattle.std.proofs.lemmas.List.FromFn.{length-map-range_with_len}
use Rattle.irt_base.specs.Cycle.{IsNear, budget_time}
use Rattle.irt_base.specs.declared.numbers.DevId.{DevId}
use Rattle.line_delay.specs.Honest.{IsKnown, IsMeasurable, Stamps, after_all}
use Rattle.plan_rules.specs.World.{IsWithinWindow}
use Rattle.seed_draws.specs.Draws.{draw_of, signed_within}
use Rattle.sync_world.specs.Clocks.{age_of, base_in, base_of, clock_at, drifted, ends_error, is_lost_on, later, line_error, set_by, travel_error}
use Rattle.sync_world.specs.Domain.{IsDomain, delay_of, walk_of}
use Rattle.sync_world.specs.Lines.{begun, exchanged, halves_after, measured, passage_of, stamped}
use Rattle.sync_world.specs.declared.clocks.Clock.{Clock}
use Rattle.sync_world.specs.declared.domain.Domain.{Domain}
use Rattle.sync_world.specs.declared.lines.TheConstants.{FIRST_EXCHANGES, STAY_TIME}
use Rattle.sync_world.proofs.Bases.{line_in_range}
use Rattle.sync_world.proofs.Median.{IsOnly, known_is}
use Rattle.sync_world.proofs.Totals.{total_bound}

-- what is known after responses that can be measured is near the delay
abbrev pub IsKnownNear : Type 0
IsKnownNear = (error delay : ℕ) (responses : List Stamps) (known : ℕ) → All (IsMeasurable error delay) responses → 1 ≤ length responses →
    IsKnown (after_all [] responses) known → IsNear (2 * error) known delay

-- the same of a domain
abbrev pub IsMeasuredNear : Type 0
IsMeasuredNear = (domain : Domain) (device count : ℕ) → IsDomain domain → 1 ≤ count →
    IsNear (2 * domain.stamp) (measured domain device count) (delay_of domain device)

stamped_near : (domain : Domain) (device exchange number time : ℕ) → domain.stamp ≤ time →
    IsNear domain.stamp (stamped domain device exchange number time) time
stamped_near domain device exchange number time later =
    let less = mod-lt (draw_of domain.seed (16 + number) device exchange) {m = 2 * domain.stamp + 1} (omega arith) in
    (omega (arith, less), omega (arith, less))

measurable : (domain : Domain) (device exchange : ℕ) → IsDomain domain → IsMeasurable domain.stamp (delay_of domain device) (exchanged domain device exchange)
unfolding exchanged
measurable domain device exchange valid =
    let short = (line_in_range domain device valid).delay in
    let delay = delay_of domain device in
    let small = valid.stamp in
    record {
      honest = record {
        x1 = begun exchange;
        x2 = begun exchange + delay;
        x3 = begun exchange + delay + STAY_TIME;
        x4 = begun exchange + 2 * delay + STAY_TIME;
        ahead = pos 0;
        there = omega (arith, ints);
        back = omega (arith, ints);
        near1 = stamped_near domain device exchange 1 (begun exchange) (omega (arith, small));
        near2 = stamped_near domain device exchange 2 (begun exchange + delay) (omega (arith, small));
        near3 = stamped_near domain device exchange 3 (begun exchange + delay + STAY_TIME) (omega (arith, small));
        near4 = stamped_near domain device exchange 4 (begun exchange + 2 * delay + STAY_TIME) (omega (arith, small));
      };
      stay = omega (arith, small);
      short = omega (arith, small, short);
    }

pub measured_near : IsOnly → IsKnownNear → IsMeasuredNear
unfolding halves_after
measured_near only known domain device count valid some =
    let responses : List Stamps = map (exchanged domain device) (range_with_len 0 count) in
    let long : length responses ≡ count = length-map-range_with_len (exchanged domain device) 0 count in
    known domain.stamp (delay_of domain device) responses (measured domain device count)
    (All-map (IsMeasurable domain.stamp (delay_of domain device)) (exchanged domain device) (range_with_len 0 count)
    (λ k exchange below. measurable domain device (get_or (range_with_len 0 count) k exchange) valid))
    (omega (arith, some, long))
    (known_is only (halves_after domain device count))

signed_near : (x bound : ℕ) → IsWithinWindow (signed_within x bound) (pos bound)
signed_near x bound =
    let less = mod-lt x {m = 2 * bound + 1} (omega arith) in
    record { early = omega (arith, ints, less); late = omega (arith, ints, less) }

line_near : IsMeasuredNear → (domain : Domain) (device sync : ℕ) → IsDomain domain →
    IsWithinWindow (line_error (passage_of domain device sync)) (pos (2 * domain.stamp))
unfolding passage_of
line_near near domain device sync valid =
    let (high, low) = near domain device (FIRST_EXCHANGES + sync + 1) valid (omega arith) in
    record { early = omega (arith, ints, high, low); late = omega (arith, ints, high, low) }

stay_near : (domain : Domain) (device sync : ℕ) → IsWithinWindow (passage_of domain device sync).stay (pos (2 * domain.stamp))
unfolding passage_of
stay_near domain device sync = signed_near (draw_of domain.seed 33 device sync) (2 * domain.stamp)

ends_near : (domain : Domain) (device sync : ℕ) → IsWithinWindow (ends_error domain device sync) (pos (2 * domain.stamp))
ends_near domain device sync =
    let arrival = signed_near (draw_of domain.seed 34 device sync) domain.stamp in
    let departure = signed_near (draw_of domain.seed 35 0 sync) domain.stamp in
    record {
      early = omega (arith, ints, arrival.early, departure.early);
      late = omega (arith, ints, arrival.late, departure.late);
    }

fewer_stays : (b h k : ℕ) → k ≤ h → b * k ≤ b * h
fewer_stays b h k few = mul-le-mul_left b few

-- what the errors of stamps make over a walk
abbrev pub AtOnce : Domain → ℕ → ℤ → Type 0
AtOnce domain device error = IsWithinWindow error (pos (budget_time (length (walk_of domain device)) domain.stamp domain.drift 1 0))

base_near : IsMeasuredNear → (domain : Domain) (device sync : ℕ) → IsDomain domain →
    AtOnce domain device (travel_error (λ v. passage_of domain v.0 sync) (walk_of domain device) +ℤ ends_error domain device sync)
base_near near domain device sync valid =
    let walk : List DevId = walk_of domain device in
    let lines = total_bound (λ v. line_error (passage_of domain v.0 sync)) (2 * domain.stamp) walk
    (λ k v below. line_near near domain (get_or walk k v).0 sync valid) in
    let stays = total_bound (λ v. (passage_of domain v.0 sync).stay) (2 * domain.stamp) (drop 1 walk)
    (λ k v below. stay_near domain (get_or (drop 1 walk) k v).0 sync) in
    let ends = ends_near domain device sync in
    let long = length-drop 1 walk in
    let fewer : 2 * domain.stamp * length (drop 1 walk) ≤ 2 * domain.stamp * length walk =
    fewer_stays (2 * domain.stamp) (length walk) (length (drop 1 walk)) (omega (arith, long)) in
    let all : 2 * domain.stamp * length walk + 2 * domain.stamp * length walk + length walk ≡ length walk * (4 * domain.stamp + 1) = omega arith in
    record {
      early = omega (arith, ints, lines.early, stays.early, ends.early, fewer, all);
      late = omega (arith, ints, lines.late, stays.late, ends.late, fewer, all);
    }

if_some : (b : Bool) (P : ℤ → Type 0) (z base : ℤ) → P z → (if b then None else Some z) ≡ Some base → P base
if_some true P z base holds is = absurd (cc)
if_some false P z base holds is = let same : z ≡ base = (cc) in subst P same holds

base_of_near : IsMeasuredNear → (domain : Domain) (device sync : ℕ) (base : ℤ) → IsDomain domain → base_of domain device sync ≡ Some base →
    AtOnce domain device base
unfolding base_of
base_of_near near domain device sync base valid is =
    if_some (is_lost_on (λ v. passage_of domain v.0 sync) (walk_of domain device)) (AtOnce domain device)
    (travel_error (λ v. passage_of domain v.0 sync) (walk_of domain device) +ℤ ends_error domain device sync) base
    (base_near near domain device sync valid) is

base_in_by : (b : Bool) (domain : Domain) (device : ℕ) (o : Option ℤ) (base : ℤ) → ((z : ℤ) → o ≡ Some z → AtOnce domain device z) →
    (if b then o else None) ≡ Some base → AtOnce domain device base
base_in_by true domain device o base near is = near base is
base_in_by false domain device o base near is = absurd (cc)

base_in_near : IsMeasuredNear → (domain : Domain) (device cycle : ℕ) (base : ℤ) → IsDomain domain → base_in domain device cycle ≡ Some base →
    AtOnce domain device base
base_in_near near domain device cycle base valid is =
    base_in_by (cycle % domain.send == 0) domain device (base_of domain device (cycle / domain.send)) base
    (λ z there. base_of_near near domain device (cycle / domain.send) z valid there) is

-- a clock was set in an earlier cycle, and since then it drifted
pub record IsBounded (domain : Domain) (device cycle : ℕ) (clock : Clock) : Type 0 where
  pub since : unwrap_or clock.heard 0 ≤ cycle
  pub within : IsWithinWindow clock.error (pos (budget_time (length (walk_of domain device)) domain.stamp domain.drift 1 (age_of clock cycle)))

aged : (domain : Domain) (device cycle : ℕ) (clock : Clock) → IsBounded domain device cycle clock →
    IsBounded domain device (suc cycle) (drifted domain device cycle clock)
aged domain device cycle clock bounded =
    let drift = signed_near (draw_of domain.seed 36 device cycle) domain.drift in
    let older : age_of clock (suc cycle) ≡ age_of clock cycle + 1 = omega (arith, bounded.since) in
    let more : domain.drift * 1 * age_of clock (suc cycle) ≡ domain.drift * 1 * age_of clock cycle + domain.drift =
    ap (λ (n : ℕ). domain.drift * 1 * n) older ∙ omega arith in
    record {
      since = omega (arith, bounded.since);
      within = record {
        early = omega (arith, ints, bounded.within.early, drift.early, more);
        late = omega (arith, ints, bounded.within.late, drift.late, more);
      };
    }

set_bounded : (domain : Domain) (device cycle : ℕ) (clock : Clock) (o : Option ℤ) → ((z : ℤ) → o ≡ Some z → AtOnce domain device z) →
    IsBounded domain device cycle clock → IsBounded domain device cycle (set_by clock cycle o)
set_bounded domain device cycle clock None near bounded = bounded
set_bounded domain device cycle clock (Some base) near bounded =
    let here = near base refl in
    let new : age_of (set_by clock cycle (Some base)) cycle ≡ 0 = omega arith in
    record {
      since = omega arith;
      within = subst (λ (n : ℕ). IsWithinWindow base (pos (budget_time (length (walk_of domain device)) domain.stamp domain.drift 1 n))) (sym new) here;
    }

pub clock_bounded : IsMeasuredNear → (domain : Domain) (device cycle : ℕ) → IsDomain domain →
    IsBounded domain device cycle (clock_at domain device cycle)
unfolding clock_at
clock_bounded near domain device zero valid = record {
  since = omega arith;
  within = record { early = omega (arith, ints); late = omega (arith, ints) };
}
clock_bounded near domain device (suc cycle) valid =
    aged domain device cycle (set_by (clock_at domain device cycle) cycle (base_in domain device cycle))
    (set_bounded domain device cycle (clock_at domain device cycle) (base_in domain device cycle)
    (λ z is. base_in_near near domain device cycle z valid is) (clock_bounded near domain device cycle valid))

-- so clocks fit
pub small_budget : (h s d age : ℕ) (error : ℤ) → h < 256 → s ≤ 1000 → d ≤ 1000 → age ≤ 10000 →
    IsWithinWindow error (pos (budget_time h s d 1 age)) → IsWithinWindow error (pos 8796093022208)
small_budget h s d age error few stamp drift young within =
    let links : h ≤ 256 = omega (arith, few) in
    let stamps : 4 * s + 1 ≤ 4001 = omega (arith, stamp) in
    let once : d * 1 ≤ 1000 = omega (arith, drift) in
    let walk : h * (4 * s + 1) ≤ 256 * 4001 = mul-le-mul links stamps in
    let drifts : d * 1 * age ≤ 1000 * 10000 = mul-le-mul once young in
    record {
      early = omega (arith, ints, within.early, walk, drifts, stamp);
      late = omega (arith, ints, within.late, walk, drifts, stamp);
    }

-- a clock of a domain in the first 10000 cycles
pub small_clock : (domain : Domain) (device cycle : ℕ) (clock : Clock) → IsDomain domain → cycle ≤ 10000 → clock ≡ clock_at domain device cycle →
    IsWithinWindow (clock_at domain device cycle).error
    (pos (budget_time (length (walk_of domain device)) domain.stamp domain.drift 1 (age_of (clock_at domain device cycle) cycle))) →
    IsWithinWindow clock.error (pos 8796093022208)
small_clock domain device cycle clock valid few is within =
    subst (λ (x : Clock). IsWithinWindow x.error (pos 8796093022208)) (sym is)
    (small_budget (length (walk_of domain device)) domain.stamp domain.drift (age_of (clock_at domain device cycle) cycle)
    (clock_at domain device cycle).error (line_in_range domain device valid).long valid.stamp valid.drift (omega (arith, few)) within)
