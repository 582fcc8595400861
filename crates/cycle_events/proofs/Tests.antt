-- What the tests of a cycle's events say.
use Rattle.std.proofs.Common.{◌≡◌, ℕ, zero, suc, ◌-◌, ◌≤◌, Bool, true, false, not, [], ◌∷◌, Option, Some, None, option_map, slice_get, get_or, IfSome, refl, ap, arith, rules, All, IsBitSet}
use Rattle.std.specs.Prelude.{ℤ, pos}
use Rattle.std.specs.List.{Contains}
use Rattle.std.proofs.lemmas.Bool.Decides.{nat_tests}
use Rattle.std.proofs.lemmas.Int.{ints}
use Rattle.std.proofs.lemmas.List.Elements.{All-from_recursion, All-contains}
use Rattle.irt_base.specs.Wiring.{link_number}
use Rattle.irt_base.specs.declared.blocks.Entry.{Entry}
use Rattle.irt_base.specs.declared.plants.Device.{Device}
use Rattle.irt_base.specs.declared.plants.Mode.{Mode}
use Rattle.irt_base.specs.declared.plants.Mode.TheVariants.{Absolute, Relative}
use Rattle.irt_base.specs.declared.plants.Plant.{Plant}
use Rattle.plan_rules.specs.World.{WorldRow, IsWithinWindow, IsInStep, IsUncut, is_within_window, is_in_step, passes, is_uncut}
use Rattle.plan_rules.specs.Way.{Leaves, IsAbsolute}
use Rattle.cycle_events.specs.Events.{Play, is_bit, ports_in, is_absolute_mode, has_absolute_mode, is_absolute}
use Rattle.cycle_events.proofs.Lists.{filter_passed, filter_has}

window_passed : (error window : ℤ) → is_within_window error window ≡ true → IsWithinWindow error window
window_passed error window h = record { early = grind (arith, ints); late = grind (arith, ints) }

window_failed : (error window : ℤ) → is_within_window error window ≡ false → ¬ IsWithinWindow error window
window_failed error window h off =
    let e = off.early in
    let l = off.late in
    grind (arith, ints)

pub step_passed : (play : Play) (device : ℕ) → is_in_step play.setup.plant play.row device ≡ true → IsInStep play.setup.plant play.row device
step_passed play device h = window_passed (play.row.error device) (pos play.setup.plant.window) h

pub step_failed : (play : Play) (device : ℕ) → is_in_step play.setup.plant play.row device ≡ false → ¬ IsInStep play.setup.plant play.row device
step_failed play device h = window_failed (play.row.error device) (pos play.setup.plant.window) h

true_of : {P : Type 0} (b : Bool) → (b ≡ false → ¬ P) → P → b ≡ true
true_of true f p = refl
true_of false f p = absurd (f refl p)

false_of : {P : Type 0} (b : Bool) → (b ≡ true → P) → ¬ P → b ≡ false
false_of true f n = absurd (n (f refl))
false_of false f n = refl

pub step_true : (play : Play) (device : ℕ) → IsInStep play.setup.plant play.row device → is_in_step play.setup.plant play.row device ≡ true
step_true play device h = true_of (is_in_step play.setup.plant play.row device) (step_failed play device) h

pub step_false : (play : Play) (device : ℕ) → ¬ IsInStep play.setup.plant play.row device → is_in_step play.setup.plant play.row device ≡ false
step_false play device h = false_of (is_in_step play.setup.plant play.row device) (step_passed play device) h

link_passed : (row : WorldRow) (o : Option ℕ) → passes row o ≡ true → IfSome o (λ n. row.is_cut n ≡ false)
link_passed row None h = search rules
link_passed row (Some n) h = grind arith

link_true : (row : WorldRow) (o : Option ℕ) → IfSome o (λ n. row.is_cut n ≡ false) → passes row o ≡ true
link_true row None h = refl
link_true row (Some n) h = ap not h

pub uncut_passed : (play : Play) (device port : ℕ) → is_uncut play.setup.plant play.row device port ≡ true → IsUncut play.setup.plant play.row device port
uncut_passed play device port h = link_passed play.row (link_number play.setup.plant device port) h

pub uncut_true : (play : Play) (device port : ℕ) → IsUncut play.setup.plant play.row device port → is_uncut play.setup.plant play.row device port ≡ true
uncut_true play device port h = link_true play.row (link_number play.setup.plant device port) h

pub bit_passed : (tx k : ℕ) → is_bit tx k ≡ true → IsBitSet tx k
bit_passed tx k h = grind (arith, nat_tests)

pub bit_true : (tx k : ℕ) → IsBitSet tx k → is_bit tx k ≡ true
bit_true tx k h = grind (arith, nat_tests)

mode_absolute : (m : Mode) → is_absolute_mode m ≡ true → m ≡ Absolute
mode_absolute Absolute h = refl
mode_absolute Relative h = absurd (cc)

option_absolute : (o : Option Device) → has_absolute_mode o ≡ true → option_map (λ (d : Device). d.mode) o ≡ Some Absolute
option_absolute None h = absurd (cc)
option_absolute (Some d) h = ap Some (mode_absolute d.mode h)

absolute_option : (o : Option Device) → option_map (λ (d : Device). d.mode) o ≡ Some Absolute → has_absolute_mode o ≡ true
absolute_option None h = absurd (cc)
absolute_option (Some d) h = let e : d.mode ≡ Absolute = cc in ap is_absolute_mode e

pub absolute_passed : (plant : Plant) (device : ℕ) → is_absolute plant device ≡ true → IsAbsolute plant device
absolute_passed plant device h = option_absolute (slice_get plant.devices device) h

pub absolute_true : (plant : Plant) (device : ℕ) → IsAbsolute plant device → is_absolute plant device ≡ true
absolute_true plant device h = absolute_option (slice_get plant.devices device) h

-- ---- ports

seven_at : (port : ℕ) → 1 ≤ port → port ≤ 7 → get_or (1 ∷ 2 ∷ 3 ∷ 4 ∷ 5 ∷ 6 ∷ 7 ∷ []) (port - 1) port ≡ port
seven_at zero low high = absurd (omega arith)
seven_at (suc zero) low high = refl
seven_at (suc (suc zero)) low high = refl
seven_at (suc (suc (suc zero))) low high = refl
seven_at (suc (suc (suc (suc zero)))) low high = refl
seven_at (suc (suc (suc (suc (suc zero))))) low high = refl
seven_at (suc (suc (suc (suc (suc (suc zero)))))) low high = refl
seven_at (suc (suc (suc (suc (suc (suc (suc zero))))))) low high = refl
seven_at (suc (suc (suc (suc (suc (suc (suc (suc n)))))))) low high = absurd (omega arith)

seven : (port : ℕ) → 1 ≤ port → port ≤ 7 → Contains (1 ∷ 2 ∷ 3 ∷ 4 ∷ 5 ∷ 6 ∷ 7 ∷ []) port
seven port low high = (port - 1, omega arith, seven_at port low high)

small_ones : All (λ n. 1 ≤ n) (1 ∷ 2 ∷ 3 ∷ 4 ∷ 5 ∷ 6 ∷ 7 ∷ [])
small_ones = All-from_recursion (λ n. 1 ≤ n) (1 ∷ 2 ∷ 3 ∷ 4 ∷ 5 ∷ 6 ∷ 7 ∷ []) (omega arith, (omega arith, (omega arith, (omega arith, (omega arith, (omega arith, (omega arith, tt)))))))

pub ports_have : (e : Entry) (port : ℕ) → port ≤ 7 → Leaves e port → Contains (ports_in e.tx) port
ports_have e port small leaves = filter_has (is_bit e.tx) (1 ∷ 2 ∷ 3 ∷ 4 ∷ 5 ∷ 6 ∷ 7 ∷ []) port (bit_true e.tx port leaves.bit) (seven port leaves.from_one small)

pub ports_leave : (e : Entry) (port : ℕ) → Contains (ports_in e.tx) port → Leaves e port
ports_leave e port is =
    let (h, among) = filter_passed (is_bit e.tx) (1 ∷ 2 ∷ 3 ∷ 4 ∷ 5 ∷ 6 ∷ 7 ∷ []) port is in
    record { from_one = All-contains (λ n. 1 ≤ n) (1 ∷ 2 ∷ 3 ∷ 4 ∷ 5 ∷ 6 ∷ 7 ∷ []) port small_ones among; bit = bit_passed e.tx port h }
