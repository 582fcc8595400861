-- Over accepted plans an arrival at a device in step goes on.
use Rattle.std.proofs.Common.{◌≡◌, ℕ, ◌+◌, ◌*◌, ◌^◌, ◌<◌, ◌≤◌, ◌==◌, Bool, true, false, not, if◌then◌else◌, List, length, find, Option, Some, None, option_map, option_and_then, Ok, Err, slice_get, All, inl, inr, refl, sym, ◌∙◌, ap, subst, subst₂, arith}
use Rattle.std.specs.Prelude.{ℤ, pos, ◌+ℤ◌, ◌≤ℤ◌}
use Rattle.std.proofs.lemmas.Bool.{cases_Bool, eq-eqb}
use Rattle.std.proofs.lemmas.Int.{ints}
use Rattle.std.proofs.lemmas.Option.{same_Some, slice_get-map, slice_get_within, slice_get_cases, get_or_from_slice_get}
use Rattle.irt_base.specs.Cycle.{cycle_time, wire_time, guard_time}
use Rattle.irt_base.specs.Periods.{period_at}
use Rattle.irt_base.specs.declared.blocks.Bundle.{Bundle}
use Rattle.irt_base.specs.declared.blocks.Entry.{Entry}
use Rattle.irt_base.specs.declared.blocks.FrameBlock.{FrameBlock}
use Rattle.irt_base.specs.declared.blocks.Side.TheVariants.{Rx}
use Rattle.irt_base.specs.declared.plants.Device.{Device}
use Rattle.irt_base.specs.declared.plants.Mode.{Mode}
use Rattle.irt_base.specs.declared.plants.Mode.TheVariants.{Absolute, Relative}
use Rattle.irt_base.specs.declared.plants.Plant.{Plant}
use Rattle.plan_rules.specs.Arrival.{Arrival}
use Rattle.plan_rules.specs.Expected.{IsTaken}
use Rattle.plan_rules.specs.Headers.{RepeatsPlant, is_relative}
use Rattle.plan_rules.specs.Network.{IsDemandedEntry, IsSentOn, IsSentAt}
use Rattle.plan_rules.specs.Places.{IsAccepted}
use Rattle.plan_rules.specs.Plan.{IsPlan, setup_of}
use Rattle.plan_rules.specs.Way.{Setup, entry_at, Leaves, IsAbsolute, IsRelay, IsInRange}
use Rattle.plan_rules.specs.World.{WorldRow}
use Rattle.irt_switch.specs.declared.action.Cause.TheVariants.{WrongPort, OutsideRx, TooLate}
use Rattle.irt_switch.specs.Arrive.{Reception, receiving_of, if_receiving, is_received_in_red, is_late, action_by, taken_by, action_of, start_of}
use Rattle.irt_switch.specs.Played.{IsToldOf, TakesBridge, IsPlayed, true_time}
use Rattle.irt_switch.proofs.Bits.{ports_bits, kept_bit}
use Rattle.irt_switch.proofs.Judged.{entry_for, receiving_from, red_test, late_meaning}

-- one local time is another where the true times are one
same_local : (origin : ℤ) (local other start : ℤ) → (origin +ℤ local) ≡ start → (origin +ℤ other) ≡ start → local ≡ other
same_local origin local other start first second = omega (arith, ints)

-- the entry of a frame at a device is the one in the device's own block
pub block_entry : (plant : Plant) (bundles : List Bundle) (device frame : ℕ) (b : Bundle) → slice_get bundles device ≡ Some b →
    entry_at (setup_of plant bundles) device frame ≡ find (λ (x : Entry). x.frame.0 == frame) b.frames.entries
block_entry plant bundles device frame b held =
    let block = slice_get-map (λ (x : Bundle). x.frames) bundles device ∙ ap (option_map (λ (x : Bundle). x.frames)) held in
    ap (option_and_then (λ (x : FrameBlock). find (λ (y : Entry). y.frame.0 == frame) x.entries)) block

-- the entry is found, and passes the tests
record Passes (bundle : Bundle) (k : ℕ) (r : Reception) (e : Entry) : Type 0 where
  found : entry_for bundle k r ≡ Some e
  port : e.rx_port ≡ r.port
  red : is_received_in_red bundle k e r.local r.port ≡ true
  early : is_late bundle e r.local ≡ false

sent_on_by : (bundle : Bundle) (k : ℕ) (r : Reception) (bridge : ℕ) (e : Entry) → Passes bundle k r e →
    action_of bundle k true r bridge ≡ action_by bundle r.local bridge (Ok e)
sent_on_by bundle k r bridge e is =
    ap (λ (o : Option Entry). action_by bundle r.local bridge (taken_by bundle k r o)) is.found
    ∙ ap (λ (a : Bool). action_by bundle r.local bridge
    (if not a then Err WrongPort else if not (is_received_in_red bundle k e r.local r.port) then Err OutsideRx else
    if is_late bundle e r.local then Err TooLate else Ok e)) (eq-eqb e.rx_port r.port is.port)
    ∙ ap (λ (b : Bool). action_by bundle r.local bridge (if not b then Err OutsideRx else if is_late bundle e r.local then Err TooLate else Ok e)) is.red
    ∙ ap (λ (c : Bool). action_by bundle r.local bridge (if c then Err TooLate else Ok e)) is.early

-- what the blocks and the world say of an arrival, as the tests ask it
passes : (plant : Plant) (bundles : List Bundle) (row : WorldRow) (from : Entry) (a : Arrival) (b : Bundle) (r : Reception) → (t : IsTaken plant bundles row from a) →
    1 ≤ t.e.rx_port → t.e.tx < 2 ^ 8 → slice_get bundles a.device ≡ Some b → IsToldOf plant row from a r → Passes b a.cycle r t.e
passes plant bundles row from a b r t received small held told =
    let same : t.bundle ≡ b = same_Some t.bundle b (sym t.held ∙ held) in
    let local : t.local ≡ r.local = same_local (pos (a.cycle * cycle_time plant.factor) +ℤ row.error a.device) t.local r.local a.start t.local_time told.local in
    let found = sym (block_entry plant bundles a.device a.frame b held) ∙ t.stands in
    let test = receiving_from a.cycle (length told.fields.csdu) t.e (omega arith) (t.length ∙ sym told.count) t.due in
    let Opens : Bundle → ℤ → Type 0 = λ x l. pos t.rx.red ≤ℤ (l +ℤ pos (guard_time x.sync.window)) in
    let Closes : ℤ → Type 0 = λ l. (l +ℤ pos (wire_time t.e.data_length)) ≤ℤ pos t.rx.orange in
    let Early : Bundle → ℤ → Type 0 = λ x l. (l +ℤ pos x.global.bridge) ≤ℤ pos t.e.send_offset in
    record {
      found = ap (option_and_then (receiving_of b a.cycle)) told.told
          ∙ ap (option_and_then (if_receiving a.cycle (length told.fields.csdu))) (ap (λ n. find (λ (x : Entry). x.frame.0 == n) b.frames.entries) told.frame ∙ found)
          ∙ ap (λ (x : Bool). if x then Some t.e else None) test;
      port = t.port ∙ sym told.port;
      red = red_test b a.cycle r t.e (record {
        rx = t.rx;
        period = ap (λ (x : Bundle). period_at x.periods r.port a.cycle Rx) (sym same) ∙ ap (λ n. period_at t.bundle.periods n a.cycle Rx) told.port ∙ t.receives;
        opens = subst₂ Opens same local t.opens;
        closes = subst Closes local t.closes;
      });
      early = elim (cases_Bool (is_late b t.e r.local)) [
        | inl so ↦
            let late = late_meaning b r t.e small so in
            absurd (late.late (subst₂ Early same local (t.early (ap (λ (x : Bundle). x.frames.relative) same ∙ late.absolute) late.leaves)))
        | inr other ↦ other
      ];
    }

-- ---- the mode that a device's blocks repeat

some_at : {A : Type 0} (xs : List A) (k : ℕ) → k < length xs → (x : A) × (slice_get xs k ≡ Some x)
some_at xs k below = elim (slice_get_cases xs k).1 [
  | inl (x, within, is, same) ↦ (x, is)
  | inr (past, none) ↦ absurd (omega arith)
]

-- a device and its blocks are of one mode
record HasMode (plant : Plant) (device : ℕ) (b : Bundle) : Type 0 where
  d : Device
  at : slice_get plant.devices device ≡ Some d
  mode : b.frames.relative ≡ is_relative d.mode

has_mode : (plant : Plant) (bundles : List Bundle) → IsPlan plant bundles → IsAccepted plant bundles → (device : ℕ) (b : Bundle) → slice_get bundles device ≡ Some b →
    HasMode plant device b
has_mode plant bundles plan accepted device b held =
    let within = slice_get_within bundles device b held in
    let (d, at) = some_at plant.devices device (omega (arith, within, plan.count)) in
    let (first, at_first) = some_at bundles 0 (omega (arith, within)) in
    let header : RepeatsPlant plant bundles (record { device = record { 0 = device }; port = 0; frame = 0; other = 0 }) = accepted 1 (record { device = record { 0 = device }; port = 0; frame = 0; other = 0 }) in
    record { d = d; at = at; mode = (header d first b at at_first held).mode }

absolute_mode : (mode : Mode) → is_relative mode ≡ false → mode ≡ Absolute
absolute_mode Absolute is = refl
absolute_mode Relative is = absurd (cc)

is_absolute : (plant : Plant) (device : ℕ) (b : Bundle) → HasMode plant device b → b.frames.relative ≡ false → IsAbsolute plant device
is_absolute plant device b has is = ap (option_map (λ (x : Device). x.mode)) has.at ∙ ap Some (absolute_mode has.d.mode (sym has.mode ∙ is))

not_absolute : (plant : Plant) (device : ℕ) (b : Bundle) → HasMode plant device b → b.frames.relative ≡ true → ¬ IsAbsolute plant device
not_absolute plant device b has is absolute =
    let mode : has.d.mode ≡ Absolute = same_Some has.d.mode Absolute (sym (ap (option_map (λ (x : Device). x.mode)) has.at) ∙ absolute) in
    let e : true ≡ false = sym is ∙ has.mode ∙ ap is_relative mode in absurd (cc)

-- ---- the start

pub by_offset_time : (origin offset : ℕ) (error start : ℤ) → start ≡ (pos (origin + offset) +ℤ error) → start ≡ (pos origin +ℤ error +ℤ pos offset)
by_offset_time origin offset error start is = omega (arith, ints)

by_bridge_time : (origin : ℤ) (local came start : ℤ) (bridge row_bridge : ℕ) → (origin +ℤ local) ≡ came → start ≡ (came +ℤ pos row_bridge) → bridge ≡ row_bridge →
    start ≡ (origin +ℤ (local +ℤ pos bridge))
by_bridge_time origin local came start bridge row_bridge at is same = omega (arith, ints)

start_is : (setup : Setup) (row : WorldRow) (from : Entry) (a : Arrival) (b : Bundle) (r : Reception) (bridge : ℕ) (e : Entry) (port : ℕ) → HasMode setup.plant a.device b →
    IsToldOf setup.plant row from a r → TakesBridge setup row a bridge → entry_at setup a.device a.frame ≡ Some e → 1 ≤ e.rx_port → Leaves e port →
    (s : IsSentOn setup row a e port) → (relative : Bool) → b.frames.relative ≡ relative →
    s.start ≡ true_time setup.plant row a.cycle a.device (if relative then r.local +ℤ pos bridge else pos e.send_offset)
start_is setup row from a b r bridge e port has told takes stands received leaves s false mode =
    by_offset_time (a.cycle * cycle_time setup.plant.factor) e.send_offset (row.error a.device) s.start (s.absolute (is_absolute setup.plant a.device b has mode))
start_is setup row from a b r bridge e port has told takes stands received leaves s true mode =
    let free = not_absolute setup.plant a.device b has mode in
    let relay : IsRelay setup a.device e = (λ anchor. elim anchor [ inl own ↦ absurd (omega arith) | inr (absolute, by) ↦ free absolute ], (port, leaves)) in
    by_bridge_time (pos (a.cycle * cycle_time setup.plant.factor) +ℤ row.error a.device) r.local a.start s.start bridge (row.bridge a.device a.frame)
    told.local (s.relative free) (takes e stands relay)

pub switched : (plant : Plant) (bundles : List Bundle) → IsPlan plant bundles → IsAccepted plant bundles → (row : WorldRow) (from : Entry) (a : Arrival)
    (b : Bundle) (r : Reception) (bridge : ℕ) → slice_get bundles a.device ≡ Some b → IsToldOf plant row from a r → TakesBridge (setup_of plant bundles) row a bridge →
    (t : IsTaken plant bundles row from a) → IsDemandedEntry (setup_of plant bundles) a.device a.frame t.e →
    ((e : Entry) × (entry_at (setup_of plant bundles) a.device a.frame ≡ Some e) × (1 ≤ e.rx_port)) →
    ((port : ℕ) → Leaves t.e port → IsSentOn (setup_of plant bundles) row a t.e port) →
    IsPlayed (setup_of plant bundles) row a (action_of b a.cycle true r bridge)
switched plant bundles plan accepted row from a b r bridge held told takes t d met sends =
    let setup = setup_of plant bundles in
    let (e, at, port) = met in
    let received : 1 ≤ t.e.rx_port = subst (λ (x : Entry). 1 ≤ x.rx_port) (same_Some e t.e (sym at ∙ t.stands)) port in
    let has = has_mode plant bundles plan accepted a.device b held in
    let start = start_of b t.e r.local bridge in
    subst (IsPlayed setup row a) (sym (sent_on_by b a.cycle r bridge t.e (passes plant bundles row from a b r t received d.valid.tx held told))) (record {
      e = t.e;
      demand = d.demand;
      stands = t.stands;
      demanded = d.demanded;
      leaves = ports_bits t.e;
      sent = λ port leaves.
          let s = sends port leaves in
          let is = start_is setup row from a b r bridge t.e port has told takes t.stands received leaves s b.frames.relative refl in
          subst (IsSentAt setup row a.cycle a.device port a.frame) is s.sent;
      kept = (λ here. d.kept.0 ((kept_bit t.e.tx).0 here), λ consumes. (kept_bit t.e.tx).1 (d.kept.1 consumes));
    })

pub in_range : (setup : Setup) (world : List WorldRow) (k : ℕ) (row : WorldRow) → All (IsInRange setup) world → slice_get world k ≡ Some row → IsInRange setup row
in_range setup world k row all is = subst (IsInRange setup) (get_or_from_slice_get world k row row is) (all k row (slice_get_within world k row is))
