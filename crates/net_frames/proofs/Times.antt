-- Times of a cycle are small.
use Rattle.std.proofs.Common.{◌≡◌, ℕ, ◌+◌, ◌≤◌, ◌<◌, ◌^◌, ◌*◌, true, false, List, slice_get, unwrap_or, inl, inr, refl, sym, subst, arith, All}
use Rattle.std.specs.List.{Contains}
use Rattle.std.specs.Prelude.{Bool, ℤ, pos, ◌+ℤ◌, ◌-ℤ◌, ◌≤ℤ◌}
use Rattle.std.proofs.lemmas.Int.{ints}
use Rattle.std.proofs.lemmas.List.Elements.{All-nil, All-contains, All-from_recursion}
use Rattle.std.proofs.lemmas.Nat.{mul-le}
use Rattle.std.proofs.lemmas.Option.{slice_get_cases}
use Rattle.irt_base.specs.Cycle.{cycle_time}
use Rattle.irt_base.specs.Valid.{IsBundle, IsEntry}
use Rattle.irt_base.specs.declared.blocks.Bundle.{Bundle}
use Rattle.irt_base.specs.declared.blocks.Entry.{Entry}
use Rattle.irt_base.specs.declared.limits.TheConstants.{MAX_CYCLES}
use Rattle.irt_base.specs.declared.plants.Plant.{Plant}
use Rattle.plant_rules.specs.Meets.{MeetsRules}
use Rattle.plan_rules.specs.Network.{IsNearCycle}
use Rattle.irt_switch.specs.Begin.{IsToRelease}
use Rattle.irt_switch.specs.Causes.{IsAnswer}
use Rattle.irt_switch.specs.Arrive.{Reception}
use Rattle.irt_switch.specs.declared.action.Action.{Action}
use Rattle.irt_switch.specs.declared.action.Action.TheVariants.{Forward, Dropped}
use Rattle.irt_switch.specs.declared.action.Outgoing.{Outgoing}
use Rattle.irt_world.specs.Rows.{IsError, error_in}
use Rattle.irt_world.specs.declared.rows.Row.{Row}
use Rattle.net_begin.specs.Clocks.{begin_of}
use Rattle.cycle_rows.proofs.Lists.{all_of}
use Rattle.net_answers.specs.Answer.{IsSmallAnswer}
use Rattle.net_starts.specs.Released.{IsSmallTime}

between : (begin next window : ℕ) (at : ℤ) → next ≤ 40000000000 → window ≤ 10000 → pos begin ≤ℤ (at +ℤ pos window) → (at +ℤ pos window) ≤ℤ pos next → IsSmallTime 58 at
between begin next window at early narrow low high = record { low = omega (arith, ints); high = omega (arith, ints) }

pub near_small : (plant : Plant) → MeetsRules plant → (k : ℕ) → k < MAX_CYCLES → (at : ℤ) → IsNearCycle plant k at → IsSmallTime 58 at
near_small plant rules k run at near =
    let (least, most) = rules.factor in
    let next = mul-le (k + 1) (cycle_time plant.factor) 10000 4000000 (omega arith) (omega arith) in
    let narrow = rules.window in
    between _ _ plant.window at (omega (arith, next)) (omega arith) near.low near.high

pub wider : (at : ℤ) → IsSmallTime 58 at → IsSmallTime 60 at
wider at small = let low = small.low in let high = small.high in record { low = omega (arith, ints, low); high = omega (arith, ints, high) }

offset_small : (offset : ℕ) → offset < 2 ^ 32 → IsSmallTime 60 (pos offset)
offset_small offset is = record { low = omega (arith, ints); high = omega (arith, ints) }

valid_entry : (bundle : Bundle) → IsBundle bundle → (e : Entry) → Contains bundle.frames.entries e → IsEntry e
valid_entry bundle valid e is = All-contains IsEntry bundle.frames.entries e (All-from_recursion IsEntry bundle.frames.entries valid.frames.each) is

-- what a device releases, it releases at a small time
pub released_small : (bundle : Bundle) → IsBundle bundle → (k : ℕ) (step : Bool) (list : List Outgoing) → IsToRelease bundle k step list → All (λ (o : Outgoing). IsSmallTime 60 o.at) list
released_small bundle valid k true list is =
    all_of (λ (o : Outgoing). IsSmallTime 60 o.at) list (λ o among.
    let r = (is.exactly o).0 among in
    let small = offset_small r.e.send_offset (valid_entry bundle valid r.e r.stands).offset in
    subst (λ (x : Outgoing). IsSmallTime 60 x.at) (sym r.is) small)
released_small bundle valid k false list is =
    subst (All (λ (o : Outgoing). IsSmallTime 60 o.at)) (sym is) (All-nil (λ (o : Outgoing). IsSmallTime 60 o.at))

bridged : (local : ℤ) (bridge : ℕ) → IsSmallTime 59 local → bridge < 2 ^ 32 → IsSmallTime 60 (local +ℤ pos bridge)
bridged local bridge small is = let low = small.low in let high = small.high in record { low = omega (arith, ints, low); high = omega (arith, ints, high) }

-- a device answers a small time to an arrival at one
pub answer_small : (bundle : Bundle) → IsBundle bundle → (k : ℕ) (step : Bool) (r : Reception) (bridge : ℕ) → IsSmallTime 59 r.local → bridge < 2 ^ 32 → (action : Action) →
    IsAnswer bundle k step r bridge action → IsSmallAnswer action
answer_small bundle valid k step r bridge local small (Dropped cause) is = tt
answer_small bundle valid k step r bridge local small (Forward at ports here) is = by_mode bundle.frames.relative is.relative is.absolute
  where
    by_mode : (mode : Bool) → (mode ≡ true → at ≡ (r.local +ℤ pos bridge)) → (mode ≡ false → at ≡ pos is.e.send_offset) → IsSmallTime 60 at
    by_mode true relative absolute = subst (IsSmallTime 60) (sym (relative refl)) (bridged r.local bridge local small)
    by_mode false relative absolute =
        subst (IsSmallTime 60) (sym (absolute refl)) (offset_small is.e.send_offset (valid_entry bundle valid is.e is.receives.stands).offset)

pub local_small : (at begin : ℤ) → IsSmallTime 58 at → IsSmallTime 58 begin → IsSmallTime 59 (at -ℤ begin)
local_small at begin event from =
    let low = event.low in
    let high = event.high in
    let first = from.low in
    let last = from.high in
    record { low = omega (arith, ints); high = omega (arith, ints) }

shifted : (begin : ℕ) (error : ℤ) → begin ≤ 40000000000 → IsError error → IsSmallTime 58 (pos begin +ℤ error)
shifted begin error early is = let low = is.early in let high = is.late in record { low = omega (arith, ints); high = omega (arith, ints) }

error_of : (errors : List ℤ) → All IsError errors → (device : ℕ) → IsError (unwrap_or (slice_get errors device) (pos 0))
error_of errors each device =
    elim (slice_get_cases errors device).1 [
      | inl (e, below, held, same) ↦
          let is = each device e below in
          rw held (subst IsError same is)
      | inr (past, none) ↦ rw none (record { early = omega (arith, ints); late = omega (arith, ints) })
    ]

-- a device's cycle begins at a small time
pub begin_small : (plant : Plant) → MeetsRules plant → (k : ℕ) → k < MAX_CYCLES → (row : Row) → All IsError row.errors → (device : ℕ) → IsSmallTime 58 (begin_of plant row k device)
begin_small plant rules k run row errors device =
    let (least, most) = rules.factor in
    let early = mul-le k (cycle_time plant.factor) 10000 4000000 (omega arith) (omega arith) in
    shifted (k * cycle_time plant.factor) (error_in row device) early (error_of row.errors errors device)
