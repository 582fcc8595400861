-- Rows in range are in range for the laws of plans: each frame that a device delays has a forwarding, by whose range
-- its delay goes.
use Rattle.std.proofs.Common.{◌≡◌, ℕ, ◌+◌, ◌*◌, ◌^◌, ◌≤◌, zero, suc, Bool, true, false, List, [], ◌∷◌, Some, sym, ◌∙◌, ap, subst, arith, map, filter, ◌==◌, ◌&&◌, ◌||◌, nat_le, slice_get, get_or, find, All, inl, inr, refl, option_map}
use Rattle.std.specs.List.{list_any}
use Rattle.std.proofs.lemmas.Bool.{eqb-true, eq-eqb, le-leb, and_from, and_parts, cases_Bool, cases_lt}
use Rattle.std.proofs.lemmas.Nat.Bits.{bit_at_above, and_pow}
use Rattle.std.proofs.lemmas.List.Elements.{All-append, All-map, All-weaker}
use Rattle.std.proofs.lemmas.List.Folds.{list_any-append}
use Rattle.std.proofs.lemmas.Option.{none-some, same_Some, slice_get-map, slice_get_within, slice_get_cases}
use Rattle.irt_base.specs.declared.blocks.Bundle.{Bundle}
use Rattle.irt_base.specs.declared.blocks.Entry.{Entry}
use Rattle.irt_base.specs.declared.plants.Device.{Device}
use Rattle.irt_base.specs.declared.plants.Mode.{Mode}
use Rattle.irt_base.specs.declared.plants.Mode.TheVariants.{Absolute, Relative}
use Rattle.irt_base.specs.declared.plants.Plant.{Plant}
use Rattle.plan_rules.specs.Way.{entry_at, Leaves, IsRelay, IsInRange}
use Rattle.plan_rules.specs.Plan.{setup_of}
use Rattle.irt_world.specs.Forwardings.{forwardings, forwardings_from, forwardings_at, forwarding_of, is_relative, is_delayed, is_at, number_in}
use Rattle.irt_world.specs.Rows.{IsRowOf, Fits, world_row, world_rows}
use Rattle.irt_world.specs.declared.forwardings.Forwarding.{Forwarding}
use Rattle.irt_world.specs.declared.rows.Row.{Row}
use Rattle.irt_world.specs.declared.rows.World.{World}
use Rattle.irt_world.proofs.Places.{first_there, all_at, some_at}

-- a forwarding's range is that of its device, the first of which has the number `start`
abbrev pub HasRangeOf : ℕ → List Device → Forwarding → Type 0
HasRangeOf start devices f =
    (n : ℕ) × (d : Device) × (f.device.0 ≡ start + n) × (slice_get devices n ≡ Some d) × (f.bmin ≡ d.bmin) × (f.bmax ≡ d.bmax)

further : (start : ℕ) (d : Device) (ds : List Device) (f : Forwarding) → HasRangeOf (suc start) ds f → HasRangeOf start (d ∷ ds) f
further start d ds f (n, other, there, is, low, high) = (suc n, other, omega (arith, there), is, low, high)

pub ranges_from : (start : ℕ) (ds : List Device) (bs : List Bundle) → All (HasRangeOf start ds) (forwardings_from start ds bs)
ranges_from start (d ∷ ds) (b ∷ bs) =
    All-append (HasRangeOf start (d ∷ ds)) (forwardings_at start d b) (forwardings_from (suc start) ds bs)
    (All-map (HasRangeOf start (d ∷ ds)) (forwarding_of start d) (filter (is_delayed d) b.frames.entries)
    (λ k e below. (0, d, omega arith, refl, refl, refl)))
    (λ k f below. further start d ds (get_or (forwardings_from (suc start) ds bs) k f) (ranges_from (suc start) ds bs k f below))
ranges_from start (d ∷ ds) [] = λ k f below. absurd (omega arith)
ranges_from start [] bs = λ k f below. absurd (omega arith)

-- an entry that a device delays is among the device's forwardings
any_at : (start : ℕ) (d : Device) (frame : ℕ) (es : List Entry) (e : Entry) → find (λ (x : Entry). x.frame.0 == frame) es ≡ Some e →
    is_delayed d e ≡ true → list_any (is_at start frame) (map (forwarding_of start d) (filter (is_delayed d) es)) ≡ true
any_at start d frame [] e found delayed = absurd (cc)
any_at start d frame (x ∷ xs) e found delayed =
    elim (cases_Bool (x.frame.0 == frame)) [
      | inl here ↦
          let same : x ≡ e = same_Some x e (rw here at found) in
          let delayed_here : is_delayed d x ≡ true = subst (λ y. is_delayed d y ≡ true) (sym same) delayed in
          rw (delayed_here, eq-eqb start start refl, here) refl
      | inr elsewhere ↦
          let later = any_at start d frame xs e (rw elsewhere at found) delayed in
          elim (cases_Bool (is_delayed d x)) [
            | inl one_more ↦ rw (one_more, eq-eqb start start refl, elsewhere) later
            | inr none ↦ rw none later
          ]
    ]

or_right : (a b : Bool) → b ≡ true → (a || b) ≡ true
or_right true b is = refl
or_right false b is = is

any_from : (device start n frame : ℕ) (ds : List Device) (bs : List Bundle) (d : Device) (b : Bundle) (e : Entry) →
    device ≡ start + n → slice_get ds n ≡ Some d → slice_get bs n ≡ Some b →
    find (λ (x : Entry). x.frame.0 == frame) b.frames.entries ≡ Some e → is_delayed d e ≡ true →
    list_any (is_at device frame) (forwardings_from start ds bs) ≡ true
any_from device start n frame [] bs d b e same there held found delayed = absurd (cc)
any_from device start n frame (x ∷ xs) [] d b e same there held found delayed = absurd (cc)
any_from device start zero frame (x ∷ xs) (y ∷ ys) d b e same there held found delayed =
    let is_d : x ≡ d = same_Some x d there in
    let is_b : y ≡ b = same_Some y b held in
    let is_start : start ≡ device = omega (arith, same) in
    let entries_found : find (λ (z : Entry). z.frame.0 == frame) y.frames.entries ≡ Some e =
    ap (λ (z : Bundle). find (λ (w : Entry). w.frame.0 == frame) z.frames.entries) is_b ∙ found in
    let delayed_there : is_delayed x e ≡ true = ap (λ z. is_delayed z e) is_d ∙ delayed in
    let any_here : list_any (is_at device frame) (forwardings_at start x y) ≡ true =
    subst (λ k. list_any (is_at k frame) (forwardings_at start x y) ≡ true) is_start (any_at start x frame y.frames.entries e entries_found delayed_there) in
    rw (list_any-append (is_at device frame) (forwardings_at start x y) (forwardings_from (suc start) xs ys), any_here) refl
any_from device start (suc n) frame (x ∷ xs) (y ∷ ys) d b e same there held found delayed =
    rw (list_any-append (is_at device frame) (forwardings_at start x y) (forwardings_from (suc start) xs ys))
    (or_right (list_any (is_at device frame) (forwardings_at start x y)) (list_any (is_at device frame) (forwardings_from (suc start) xs ys))
    (any_from device (suc start) n frame xs ys d b e (omega (arith, same)) there held found delayed))

relative_mode : (mode : Mode) → (mode ≡ Absolute → ⊥) → is_relative mode ≡ true
relative_mode Absolute other = absurd (other refl)
relative_mode Relative other = refl

has_port_bit : (e : Entry) (port : ℕ) → Leaves e port → 2 ≤ e.tx
has_port_bit e port out =
    elim (cases_lt e.tx 2) [
      | inl low ↦ absurd (out.bit (and_pow e.tx port ∙ ap (λ b. b * 2 ^ port) (bit_at_above e.tx 1 port low out.from_one) ∙ omega arith))
      | inr high ↦ high
    ]

-- a device of the plant delays what it relays
delayed_by : (plant : Plant) (bundles : List Bundle) (device : ℕ) (e : Entry) (d : Device) → slice_get plant.devices device ≡ Some d →
    IsRelay (setup_of plant bundles) device e → is_delayed d e ≡ true
delayed_by plant bundles device e d there (no_anchor, (port, out)) =
    let received : 1 ≤ e.rx_port = elim (cases_lt e.rx_port 1) [ inl none ↦ absurd (no_anchor (inl (omega (arith, none)))) | inr some ↦ some ] in
    let relative : is_relative d.mode ≡ true =
    relative_mode d.mode (λ absolute. no_anchor (inr (ap (option_map (λ (x : Device). x.mode)) there ∙ ap Some absolute, (port, out)))) in
    and_from (is_relative d.mode && nat_le 1 e.rx_port) (nat_le 2 e.tx)
    (and_from (is_relative d.mode) (nat_le 1 e.rx_port) relative (le-leb 1 e.rx_port received))
    (le-leb 2 e.tx (has_port_bit e port out))

-- what a device relays has a forwarding of the device's range
pub record HasForwarding (plant : Plant) (bundles : List Bundle) (device frame : ℕ) (d : Device) : Type 0 where
  pub n : ℕ
  pub f : Forwarding
  pub number : number_in (forwardings plant bundles) device frame ≡ Some n
  pub is : slice_get (forwardings plant bundles) n ≡ Some f
  pub low : f.bmin ≡ d.bmin
  pub high : f.bmax ≡ d.bmax

with_range : (plant : Plant) (bundles : List Bundle) (device frame : ℕ) (d : Device) → slice_get plant.devices device ≡ Some d →
    list_any (is_at device frame) (forwardings plant bundles) ≡ true → HasForwarding plant bundles device frame d
with_range plant bundles device frame d there any =
    let (n, f, number, is, passes) = first_there (is_at device frame) (forwardings plant bundles) any in
    let of_device : f.device.0 ≡ device = eqb-true f.device.0 device (and_parts (f.device.0 == device) (f.frame.0 == frame) passes).0 in
    let (k, owner, at, held, low, high) = all_at (HasRangeOf 0 plant.devices) (forwardings plant bundles) n f (ranges_from 0 plant.devices bundles) is in
    let same : k ≡ device = omega (arith, at, of_device) in
    let is_owner : owner ≡ d = same_Some owner d (sym held ∙ ap (slice_get plant.devices) same ∙ there) in
    record {
      n = n;
      f = f;
      number = number;
      is = is;
      low = low ∙ ap (λ (x : Device). x.bmin) is_owner;
      high = high ∙ ap (λ (x : Device). x.bmax) is_owner;
    }

pub relays_have_forwardings : (plant : Plant) (bundles : List Bundle) (device frame : ℕ) (e : Entry) (d : Device) →
    entry_at (setup_of plant bundles) device frame ≡ Some e → slice_get plant.devices device ≡ Some d →
    IsRelay (setup_of plant bundles) device e → HasForwarding plant bundles device frame d
relays_have_forwardings plant bundles device frame e d at there relay =
    elim (slice_get_cases bundles device).1 [
      | inl (b, within, held, same) ↦
          let found = rw (slice_get-map (λ (x : Bundle). x.frames) bundles device, held) at at in
          with_range plant bundles device frame d there
          (any_from device 0 device frame plant.devices bundles d b e (omega arith) there held found (delayed_by plant bundles device e d there relay))
      | inr (past, none) ↦
          let nothing = rw (slice_get-map (λ (x : Bundle). x.frames) bundles device, none) at at in
          absurd (none-some e nothing)
    ]

pub row_in_range : (plant : Plant) (bundles : List Bundle) (row : Row) → IsRowOf plant bundles row →
    IsInRange (setup_of plant bundles) (world_row plant bundles row)
row_in_range plant bundles row is device frame e d at there relay =
    let has = relays_have_forwardings plant bundles device frame e d at there relay in
    let (delay, held) = some_at row.bridges has.n (omega (arith, is.bridge_count, slice_get_within (forwardings plant bundles) has.n has.f has.is)) in
    let (low, high) = is.bridges has.n has.f delay has.is held in
    rw (has.number, held) (omega (arith, low, has.low), omega (arith, high, has.high))

pub rows_in_range : (plant : Plant) (bundles : List Bundle) (world : World) → Fits plant bundles world →
    All (IsInRange (setup_of plant bundles)) (world_rows plant bundles world)
rows_in_range plant bundles world fits =
    All-map (IsInRange (setup_of plant bundles)) (world_row plant bundles) world.rows
    (All-weaker (IsRowOf plant bundles) (λ row. IsInRange (setup_of plant bundles) (world_row plant bundles row)) (row_in_range plant bundles) world.rows fits)
