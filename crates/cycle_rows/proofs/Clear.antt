-- Two uses of a link direction, in the world of an accepted plan.
use Rattle.std.proofs.Common.{◌≡◌, ℕ, zero, suc, ◌+◌, ◌*◌, ◌<◌, ◌≤◌, List, [], ◌∷◌, Some, ◌⊎◌, inl, inr, sym, ◌∙◌, ap, subst, subst₂, arith, AllPairs, mul-le-mul_right}
use Rattle.std.specs.Prelude.{ℤ, pos, ◌+ℤ◌, ◌≤ℤ◌}
use Rattle.std.proofs.lemmas.Int.{ints}
use Rattle.std.proofs.lemmas.List.Elements.{All-nil, All-cons}
use Rattle.std.proofs.lemmas.Option.{same_Some}
use Rattle.irt_base.specs.Cycle.{cycle_time, guard_time}
use Rattle.irt_base.specs.declared.blocks.Bundle.{Bundle}
use Rattle.irt_base.specs.declared.plants.Plant.{Plant}
use Rattle.plan_rules.specs.Expected.{IsFree, NeverCollides, LeavesFree, IsSafeOver}
use Rattle.plan_rules.specs.Occupation.{Occupation, IsOccupation, IsSameSending, IsSameDirection, IsDisjoint}
use Rattle.plan_rules.specs.Once.{SendsExactly}
use Rattle.plan_rules.specs.Plan.{setup_of}
use Rattle.plan_rules.specs.World.{WorldRow, IsWithinWindow}
use Rattle.cycle_rows.specs.declared.rows.JournalRow.{JournalRow}
use Rattle.cycle_rows.specs.declared.rows.JournalRow.TheVariants.{Occupy, Deliver, Missed, Sent, Refused, Lost, Came}
use Rattle.cycle_rows.specs.Apart.{Use, use_of, IsClearOf, AreClear}
use Rattle.cycle_rows.specs.Parcels.{IsFreeIn, IsParcelRow}
use Rattle.cycle_rows.specs.Rows.{IsFrameRow, cycle_of}

-- a frame that uses a direction in a cycle
abbrev pub occupation : ℕ → ℕ → Use → Occupation
occupation k frame u = record { cycle = k; device = u.device; port = u.port; frame = frame; start = u.start; end = u.end }

-- ---- two frames

two_differ : (o q : Occupation) → ¬ IsSameSending o q → AllPairs (λ a b. ¬ IsSameSending a b) (o ∷ q ∷ [])
two_differ o q other zero zero d before below = omega arith
two_differ o q other zero (suc zero) d before below = other
two_differ o q other zero (suc (suc j)) d before below = absurd (omega arith)
two_differ o q other (suc i) j d before below = absurd (omega arith)

pub frames_clear : (plant : Plant) (bundles : List Bundle) (world : List WorldRow) → NeverCollides plant bundles world → (o q : Occupation) →
    IsOccupation (setup_of plant bundles) world o → IsOccupation (setup_of plant bundles) world q → ¬ IsSameSending o q → IsSameDirection o q → IsDisjoint o q
frames_clear plant bundles world never o q is also other direction =
    let Is : Occupation → Type 0 = IsOccupation (setup_of plant bundles) world in
    never (o ∷ q ∷ []) (record { each = All-cons Is o (q ∷ []) is (All-cons Is q [] also (All-nil Is)); once = two_differ o q other })
    0 1 o (omega arith) (omega arith) direction

-- one sending has one start
pub one_start : (plant : Plant) (bundles : List Bundle) (world : List WorldRow) → SendsExactly (setup_of plant bundles) world → (o q : Occupation) →
    IsOccupation (setup_of plant bundles) world o → IsOccupation (setup_of plant bundles) world q → IsSameSending o q → o.start ≡ q.start
one_start plant bundles world sends o q is also same =
    let only = (sends.sent o.cycle o.device o.port o.frame (sends.only o is)).only in
    let there : IsOccupation (setup_of plant bundles) world (record { cycle = o.cycle; device = o.device; port = o.port; frame = o.frame; start = q.start; end = q.end }) =
    subst (IsOccupation (setup_of plant bundles) world)
    (λ i. record {
      cycle = sym same.cycle i;
      device = sym same.device i;
      port = sym same.port i;
      frame = sym same.frame i;
      start = q.start;
      end = q.end;
    })
    also in
    ap (λ (x : ℤ × ℤ). x.0) (only (o.start, o.end) is ∙ sym (only (q.start, q.end) there))

-- ---- two parcels of two cycles

-- a stretch that is left to parcels, in plain numbers
record IsOpen (period window k orange : ℕ) (error from until : ℤ) : Type 0 where
  off : IsWithinWindow error (pos window)
  opens : (pos (k * period + orange) +ℤ error) ≤ℤ from
  closes : (until +ℤ pos (guard_time window)) ≤ℤ (pos ((k + 1) * period) +ℤ error)

open_of : (plant : Plant) (bundles : List Bundle) (world : List WorldRow) (k device port : ℕ) (from until : ℤ) → (f : IsFreeIn plant bundles world k device port from until) →
    IsOpen (cycle_time plant.factor) plant.window k f.free.tx.orange (f.free.row.error device) from until
open_of plant bundles world k device port from until f =
    subst (λ n. IsOpen (cycle_time plant.factor) plant.window n f.free.tx.orange (f.free.row.error device) from until) f.cycle
    (record { off = f.free.in_step; opens = f.free.opens; closes = f.free.closes })

later_cycle : (period window j k orange red : ℕ) (error other from until start end : ℤ) → IsOpen period window j orange error from until →
    IsOpen period window k red other start end → j < k → until ≤ℤ start
later_cycle period window j k orange red error other from until start end first second before =
    let next : (j + 1) * period ≤ k * period = mul-le-mul_right period (omega arith) in
    omega (arith, ints)

pub parcels_clear : (plant : Plant) (bundles : List Bundle) (world : List WorldRow) (j k : ℕ) (u v : Use) → IsFreeIn plant bundles world j u.device u.port u.start u.end →
    IsFreeIn plant bundles world k v.device v.port v.start v.end → j < k → u.end ≤ℤ v.start
parcels_clear plant bundles world j k u v first second before =
    later_cycle (cycle_time plant.factor) plant.window j k first.free.tx.orange second.free.tx.orange (first.free.row.error u.device) (second.free.row.error v.device)
    u.start u.end v.start v.end (open_of plant bundles world j u.device u.port u.start u.end first) (open_of plant bundles world k v.device v.port v.start v.end second) before

-- ---- rows

-- what uses a direction in a cycle: a frame, or a parcel in what is left to it
abbrev pub IsBusy : Plant → List Bundle → List WorldRow → ℕ → Use → Type 0
IsBusy plant bundles world k u =
    ((frame : ℕ) × IsOccupation (setup_of plant bundles) world (occupation k frame u)) ⊎ IsFreeIn plant bundles world k u.device u.port u.start u.end

abbrev pub Stands : Plant → List Bundle → List WorldRow → JournalRow → Type 0
Stands plant bundles world r = IsFrameRow (setup_of plant bundles) world r ⊎ IsParcelRow plant bundles world r

pub frame_busy : (plant : Plant) (bundles : List Bundle) (world : List WorldRow) (r : JournalRow) → IsFrameRow (setup_of plant bundles) world r → (u : Use) →
    use_of r ≡ Some u → (frame : ℕ) × IsOccupation (setup_of plant bundles) world (occupation (cycle_of r) frame u)
frame_busy plant bundles world (Occupy k d p f start end) is u uses =
    let same = same_Some (record { device = d.0; port = p.0; start = start; end = end }) u uses in
    (f.0, subst (λ (x : Use). IsOccupation (setup_of plant bundles) world (occupation k f.0 x)) same is)
frame_busy plant bundles world (Deliver k d f end) is u uses = absurd (cc)
frame_busy plant bundles world (Missed k d f) is u uses = absurd (cc)
frame_busy plant bundles world (Sent k d p traffic serial start end) is u uses = absurd is
frame_busy plant bundles world (Refused k d p traffic serial) is u uses = absurd is
frame_busy plant bundles world (Lost k d p traffic serial) is u uses = absurd is
frame_busy plant bundles world (Came k d traffic serial) is u uses = absurd is

pub parcel_busy : (plant : Plant) (bundles : List Bundle) (world : List WorldRow) (r : JournalRow) → IsParcelRow plant bundles world r → (u : Use) →
    use_of r ≡ Some u → IsFreeIn plant bundles world (cycle_of r) u.device u.port u.start u.end
parcel_busy plant bundles world (Occupy k d p f start end) is u uses = absurd is
parcel_busy plant bundles world (Deliver k d f end) is u uses = absurd is
parcel_busy plant bundles world (Missed k d f) is u uses = absurd is
parcel_busy plant bundles world (Sent k d p traffic serial start end) is u uses =
    let same = same_Some (record { device = d.0; port = p.0; start = start; end = end }) u uses in
    subst (λ (x : Use). IsFreeIn plant bundles world k x.device x.port x.start x.end) same is
parcel_busy plant bundles world (Refused k d p traffic serial) is u uses = absurd (cc)
parcel_busy plant bundles world (Lost k d p traffic serial) is u uses = absurd (cc)
parcel_busy plant bundles world (Came k d traffic serial) is u uses = absurd (cc)

busy_of : (plant : Plant) (bundles : List Bundle) (world : List WorldRow) (r : JournalRow) → Stands plant bundles world r → (u : Use) → use_of r ≡ Some u →
    IsBusy plant bundles world (cycle_of r) u
busy_of plant bundles world r (inl frame) u uses = inl (frame_busy plant bundles world r frame u uses)
busy_of plant bundles world r (inr parcel) u uses = inr (parcel_busy plant bundles world r parcel u uses)

-- a frame keeps clear of what is left to parcels, in any cycles
beside_parcel : (plant : Plant) (bundles : List Bundle) (world : List WorldRow) → LeavesFree plant bundles world → (j k frame : ℕ) (u v : Use) →
    IsOccupation (setup_of plant bundles) world (occupation j frame u) → IsFreeIn plant bundles world k v.device v.port v.start v.end →
    u.device ≡ v.device → u.port ≡ v.port → (u.end ≤ℤ v.start) ⊎ (v.end ≤ℤ u.start)
beside_parcel plant bundles world free j k frame u v is left device port =
    free (occupation j frame u) v.start v.end is
    (subst₂ (λ d p. IsFree plant bundles world d p v.start v.end) (sym device) (sym port) left.free)

flip_sum : {A B : Type 0} → A ⊎ B → B ⊎ A
flip_sum (inl a) = inr a
flip_sum (inr b) = inl b

busy_clear : (plant : Plant) (bundles : List Bundle) (world : List WorldRow) → IsSafeOver plant bundles world → (j k : ℕ) (u v : Use) → j < k →
    IsBusy plant bundles world j u → IsBusy plant bundles world k v → IsClearOf u v
busy_clear plant bundles world safe j k u v before (inl (f, is)) (inl (g, also)) device port =
    frames_clear plant bundles world safe.apart (occupation j f u) (occupation k g v) is also (λ same. let cycles = same.cycle in absurd (omega arith))
    (record { device = device; port = port })
busy_clear plant bundles world safe j k u v before (inl (f, is)) (inr also) device port =
    beside_parcel plant bundles world safe.free j k f u v is also device port
busy_clear plant bundles world safe j k u v before (inr is) (inl (g, also)) device port =
    flip_sum (beside_parcel plant bundles world safe.free k j g v u also is (sym device) (sym port))
busy_clear plant bundles world safe j k u v before (inr is) (inr also) device port = inl (parcels_clear plant bundles world j k u v is also before)

-- rows of two cycles
pub cycles_clear : (plant : Plant) (bundles : List Bundle) (world : List WorldRow) → IsSafeOver plant bundles world → (r s : JournalRow) →
    Stands plant bundles world r → Stands plant bundles world s → cycle_of r < cycle_of s → AreClear r s
cycles_clear plant bundles world safe r s is also before u v first second =
    busy_clear plant bundles world safe (cycle_of r) (cycle_of s) u v before (busy_of plant bundles world r is u first) (busy_of plant bundles world s also v second)

-- a frame and a parcel
pub parcel_clear : (plant : Plant) (bundles : List Bundle) (world : List WorldRow) → IsSafeOver plant bundles world → (r s : JournalRow) →
    IsFrameRow (setup_of plant bundles) world r → IsParcelRow plant bundles world s → AreClear r s
parcel_clear plant bundles world safe r s is also u v first second device port =
    let (f, occupies) = frame_busy plant bundles world r is u first in
    beside_parcel plant bundles world safe.free (cycle_of r) (cycle_of s) f u v occupies (parcel_busy plant bundles world s also v second) device port
