-- The plan of a pair of devices is accepted: V1 to V15 hold everywhere.
use Rattle.std.proofs.Common.{◌≡◌, ℕ, zero, suc, ◌+◌, ◌-◌, ◌%◌, ◌≤◌, ◌==◌, Bool, ◌⊎◌, inl, inr, List, [], ◌∷◌, Option, Some, None, IsSome, refl, sym, ◌∙◌, ap, subst, subst₂, arith, replicate, lit≤, slice_get, option_map, slice_index_or}
use Rattle.std.specs.Prelude.{⊤, if◌then◌else◌}
use Rattle.std.proofs.lemmas.Bool.{cases_Bool, eqb-true}
use Rattle.std.proofs.lemmas.Option.{same_Some, none-some, option_and_then_some}
use Rattle.irt_base.specs.Cycle.{wire_time, cycle_time, guard_time}
use Rattle.irt_base.specs.Periods.{number_of, side_of, port_period, period_at}
use Rattle.irt_base.specs.Valid.{IsWithin}
use Rattle.irt_base.specs.Wiring.{peer_of, hop_of}
use Rattle.irt_base.specs.declared.blocks.Assignment.{Assignment}
use Rattle.irt_base.specs.declared.blocks.Bundle.{Bundle}
use Rattle.irt_base.specs.declared.blocks.Entry.{Entry}
use Rattle.irt_base.specs.declared.blocks.Period.{Period}
use Rattle.irt_base.specs.declared.blocks.PhasePair.{PhasePair}
use Rattle.irt_base.specs.declared.blocks.PortPeriods.{PortPeriods}
use Rattle.irt_base.specs.declared.blocks.Side.{Side}
use Rattle.irt_base.specs.declared.blocks.Side.TheVariants.{Tx, Rx}
use Rattle.irt_base.specs.declared.numbers.DevId.{DevId}
use Rattle.irt_base.specs.declared.plants.Demand.{Demand}
use Rattle.irt_base.specs.declared.plants.Device.{Device}
use Rattle.plan_rules.specs.Frames.{IsTreeAt, AgreesWithDemand, HasNoIdleOffset, ForwardsLateEnough, KeepsApart, IsSentInRed, IsReceivedInRed, EndsInCycle, IsAsDemanded, IsSending, IsForwarded}
use Rattle.plan_rules.specs.Headers.{RepeatsPlant, SharesRange, KeepsClock, IsHeader, IsOneRange}
use Rattle.plan_rules.specs.Periods.{HasPeriods, KeepsRedLimit, IsRedFrame, HasOrange, KeepsOrder, AreOrdered}
use Rattle.plan_rules.specs.Places.{IsAccepted}
use Rattle.plan_rules.specs.Rules.{rule_table, AsksNothing}
use Rattle.plan_rules.specs.SendWindow.{SendWindow, HasWindow, slack_time}
use Rattle.plan_rules.specs.Tree.{IsTreeEntry, demand_of, Consumes, here, through}
use Rattle.plan_rules.specs.Way.{entry_at, Leaves, IsParent}
use Rattle.plan_rules.specs.declared.place.Place.{Place}
use Rattle.plan_rules.proofs.OneWay.{one_parent, one_window}
use Rattle.plan_rules.proofs.PairExample.{device, demand, pair, own, leaf, red_until, sending, receiving, bundle, first, second, bundles, setup, one_port, leaf_stays, comes, window}
use Rattle.plan_rules.proofs.PlanExample.{meets}

-- ---- what stands where

-- what the search of one entry finds
abbrev option_of : Bool → Entry → Option Entry
option_of b e = if b then Some e else None

one_entry : (e found : Entry) (frame : ℕ) → option_of (e.frame.0 == frame) e ≡ Some found → (e.frame.0 ≡ frame) × (found ≡ e)
one_entry e found frame is =
    elim (cases_Bool (e.frame.0 == frame)) [
      | inl named ↦ let same : Some e ≡ Some found = rw named at is in (eqb-true e.frame.0 frame named, sym (same_Some e found same))
      | inr other ↦ let none : None ≡ Some found = rw other at is in absurd (none-some found none)
    ]

-- an entry is the sender's or the receiver's
data Stands : ℕ → ℕ → Entry → Type 0 where
  sends : Stands 0 0x100 own
  receives : Stands 1 0x100 leaf

at_frame : (device frame : ℕ) (e found : Entry) → Stands device 0x100 e → (0x100 ≡ frame) × (found ≡ e) → Stands device frame found
at_frame device frame e found known (named, same) = subst₂ (λ f x. Stands device f x) named (sym same) known

stands : (device frame : ℕ) (e : Entry) → entry_at setup device frame ≡ Some e → Stands device frame e
stands zero frame e at = at_frame 0 frame own e sends (one_entry own e frame at)
stands (suc zero) frame e at = at_frame 1 frame leaf e receives (one_entry leaf e frame at)
stands (suc (suc device)) frame e at = absurd (none-some e at)

-- a frame that has a demand
asked : (frame : ℕ) (d : Demand) → demand_of pair frame ≡ Some d → (0x100 ≡ frame) × (d ≡ demand)
asked frame d is =
    elim (cases_Bool (0x100 == frame)) [
      | inl same ↦ let one : Some demand ≡ Some d = rw same at is in (eqb-true 0x100 frame same, sym (same_Some demand d one))
      | inr other ↦ let none : None ≡ Some d = rw other at is in absurd (none-some d none)
    ]

-- a device's blocks
data Holds : ℕ → Bundle → Type 0 where
  sender : Holds 0 first
  receiver : Holds 1 second

holds : (device : ℕ) (b : Bundle) → slice_get bundles device ≡ Some b → Holds device b
holds zero b at = subst (Holds 0) (same_Some first b at) sender
holds (suc zero) b at = subst (Holds 1) (same_Some second b at) receiver
holds (suc (suc device)) b at = absurd (none-some b at)

-- what the sender's window is
sender_window : (frame : ℕ) (w : SendWindow) → 0x100 ≡ frame → HasWindow setup frame 0 w → w ≡ record { lo = 0; hi = 0; anchor = 0 }
sender_window frame w named has = one_window setup meets 0x100 0 w (record { lo = 0; hi = 0; anchor = 0 }) (subst (λ f. HasWindow setup f 0 w) (sym named) has) window

-- ---- periods

one_item : {A : Type 0} (x y : A) (n : ℕ) → slice_get (x ∷ []) n ≡ Some y → y ≡ x
one_item x y zero at = sym (same_Some x y at)
one_item x y (suc n) at = absurd (none-some y at)

replicated : {A : Type 0} (count n : ℕ) (x y : A) → slice_get (replicate count x) n ≡ Some y → y ≡ x
replicated zero n x y at = absurd (none-some y at)
replicated (suc count) zero x y at = sym (same_Some x y at)
replicated (suc count) (suc n) x y at = replicated count n x y at

abbrev alike : PhasePair
alike = record { tx = 0; rx = 0 }

first_assignment : (a : Assignment) (side : Side) (p : Period) → option_map (side_of side) (slice_get (a ∷ []) (number_of side alike)) ≡ Some p → p ≡ side_of side a
first_assignment a Tx p is = sym (same_Some a.tx p is)
first_assignment a Rx p is = sym (same_Some a.rx p is)

-- a device's periods are those of its one assignment
period_is : (role : ℕ) (e : Entry) (a : Assignment) (port k : ℕ) (side : Side) (p : Period) → period_at (bundle role e a).periods port k side ≡ Some p → p ≡ side_of side a
period_is role e a port k side p is =
    option_and_then_some (λ (x : PortPeriods). port_period x k side) (slice_get (one_port_of a ∷ []) (port - 1)) p is
    (λ x there has.
    option_and_then_some (λ (pair : PhasePair). option_map (side_of side) (slice_get (a ∷ []) (number_of side pair)))
    (slice_get (replicate 16 alike) (k % 16)) p (subst (λ (y : PortPeriods). port_period y k side ≡ Some p) (one_item (one_port_of a) x (port - 1) there) has)
    (λ pair among so.
    first_assignment a side p
    (subst (λ (y : PhasePair). option_map (side_of side) (slice_get (a ∷ []) (number_of side y)) ≡ Some p) (replicated 16 (k % 16) alike pair among) so)))
  where
    one_port_of : Assignment → PortPeriods
    one_port_of a = record { assignments = a ∷ []; phases = replicate 16 alike }

abbrev AreOf : Assignment → Period → Period → Type 0
AreOf a tx rx = (tx ≡ a.tx) × (rx ≡ a.rx)

periods_of : (device port phase : ℕ) (tx rx : Period) → HasPeriods bundles device port phase tx rx → AreOf sending tx rx ⊎ AreOf receiving tx rx
periods_of device port phase tx rx has = go device has.bundle (holds device has.bundle has.held) has.sends has.receives
  where
    go : (device : ℕ) (b : Bundle) → Holds device b → period_at b.periods port phase Tx ≡ Some tx → period_at b.periods port phase Rx ≡ Some rx →
        AreOf sending tx rx ⊎ AreOf receiving tx rx
    go _ _ sender out into = inl (period_is 1 own sending port phase Tx tx out, period_is 1 own sending port phase Rx rx into)
    go _ _ receiver out into = inr (period_is 2 leaf receiving port phase Tx tx out, period_is 2 leaf receiving port phase Rx rx into)

-- a fact of both devices' periods
both : (P : Period → Period → Type 0) → P sending.tx sending.rx → P receiving.tx receiving.rx → (device port phase : ℕ) (tx rx : Period) →
    HasPeriods bundles device port phase tx rx → P tx rx
both P at_sender at_receiver device port phase tx rx has =
    elim (periods_of device port phase tx rx has) [
      | inl is ↦ subst₂ P (sym is.0) (sym is.1) at_sender
      | inr is ↦ subst₂ P (sym is.0) (sym is.1) at_receiver
    ]

-- ---- V1, V12 and V15

header_of : (letter role : ℕ) (e : Entry) (a : Assignment) → IsHeader pair (device letter) first (bundle role e a)
header_of letter role e a = record {
  window = refl;
  factor = refl;
  send = (lit≤ tt, lit≤ tt);
  one_send = refl;
  timeout = (lit≤ tt, lit≤ tt);
  subdomain = refl;
  uuid = refl;
  bridge = refl;
  delays = refl;
  mode = refl;
  ports = refl;
}

headers : (at : Place) → RepeatsPlant pair bundles at
headers at d one b is_device is_first is_held =
    subst (λ x. IsHeader pair d x b) (same_Some first one is_first) (go at.device.0 d b is_device (holds at.device.0 b is_held))
  where
    go : (n : ℕ) (d : Device) (b : Bundle) → slice_get pair.devices n ≡ Some d → Holds n b → IsHeader pair d first b
    go _ d _ is sender = subst (λ x. IsHeader pair x first first) (same_Some (device 97) d is) (header_of 97 1 own sending)
    go _ d _ is receiver = subst (λ x. IsHeader pair x first second) (same_Some (device 98) d is) (header_of 98 2 leaf receiving)

range : (at : Place) → SharesRange pair bundles at
range at one b is_first is_held = subst (λ x. IsOneRange x b) (same_Some first one is_first) (go at.device.0 b (holds at.device.0 b is_held))
  where
    go : (n : ℕ) (b : Bundle) → Holds n b → IsOneRange first b
    go _ _ sender = record { begin = refl; end = refl }
    go _ _ receiver = record { begin = refl; end = refl }

no_clock : (at : Place) → KeepsClock pair bundles at
no_clock at one b hops ptcp = absurd (cc)

-- ---- V2 to V4 and V11

consumes_one : (device : ℕ) → Consumes demand device → 1 ≡ device
consumes_one device (zero, there, is) = ap (λ (x : DevId). x.0) is
consumes_one device (suc n, there, is) = absurd (omega (arith, there))

tree_of : (device frame : ℕ) (e : Entry) → Stands device frame e → (d : Demand) × (demand_of pair frame ≡ Some d) × IsTreeEntry setup d device e
tree_of _ _ _ sends = (
  demand,
  refl,
  record {
    provided = (λ is. refl, λ is. refl);
    sent = λ port goes. record {
      receiver = 1;
      e = leaf;
      stands = refl;
      received = omega arith;
      leads = ap (λ (n : ℕ). peer_of pair 0 n) (one_port port goes);
    };
    received = λ some. absurd (omega (arith, some));
    consumed = (λ set. absurd (set refl), λ also. absurd (omega (arith, consumes_one 0 also)));
    used = λ none. absurd (omega (arith, none));
    reached = here;
  },
)
tree_of _ _ _ receives = (
  demand,
  refl,
  record {
    provided = (λ is. is, λ is. is);
    sent = λ port goes. absurd (leaf_stays port goes);
    received = λ some. (0, 1, comes);
    consumed = (λ set. (0, omega arith, refl), λ also none. cc);
    used = λ none. absurd (omega (arith, none));
    reached = through 1 leaf 0 1 refl comes here;
  },
)

trees : (at : Place) → IsTreeAt pair bundles at
trees at = record {
  each = λ e is. tree_of at.device.0 at.frame e (stands at.device.0 at.frame e is);
  present = λ d asks takes_part.
      let (named, same) = asked at.frame d asks in
      elim takes_part [
        | inl provides ↦
            let device : at.device.0 ≡ 0 = provides ∙ ap (λ (x : Demand). x.provider.0) same in
            subst₂ (λ n f. IsSome (entry_at setup n f)) (sym device) named refl
        | inr consumes ↦
            let device : 1 ≡ at.device.0 = consumes_one at.device.0 (subst (λ x. Consumes x at.device.0) same consumes) in
            subst₂ (λ n f. IsSome (entry_at setup n f)) device named refl
      ];
}

sender_entry : (frame : ℕ) (e : Entry) → Stands 0 frame e → e ≡ own
sender_entry _ _ sends = refl

as_demanded : (device frame : ℕ) (e : Entry) → Stands device frame e → IsAsDemanded pair demand own e
as_demanded _ _ _ sends = record { length = refl; update = lit≤ tt; ratio = refl; phase = refl }
as_demanded _ _ _ receives = record { length = refl; update = lit≤ tt; ratio = refl; phase = refl }

demands : (at : Place) → AgreesWithDemand pair bundles at
demands at d provides e asks is_own is =
    let (named, same) = asked at.frame d asks in
    let provider : d.provider.0 ≡ 0 = ap (λ (x : Demand). x.provider.0) same in
    let at_provider : entry_at setup 0 at.frame ≡ Some provides = subst (λ n. entry_at setup n at.frame ≡ Some provides) provider is_own in
    subst₂ (λ x y. IsAsDemanded pair x y e) (sym same) (sym (sender_entry at.frame provides (stands 0 at.frame provides at_provider)))
    (as_demanded at.device.0 at.frame e (stands at.device.0 at.frame e is))

no_offset : (device frame : ℕ) (e : Entry) → Stands device frame e → e.send_offset ≡ 0
no_offset _ _ _ sends = refl
no_offset _ _ _ receives = refl

offsets : (at : Place) → HasNoIdleOffset pair bundles at
offsets at e is idle = no_offset at.device.0 at.frame e (stands at.device.0 at.frame e is)

frame_is : (device frame : ℕ) (e : Entry) → Stands device frame e → frame ≡ 0x100
frame_is _ _ _ sends = refl
frame_is _ _ _ receives = refl

red_frames : (at : Place) → IsRedFrame pair bundles at
red_frames at e b is is_held =
    subst (λ f. IsWithin b.periods.first b.periods.last f) (sym (frame_is at.device.0 at.frame e (stands at.device.0 at.frame e is)))
    (go at.device.0 b (holds at.device.0 b is_held))
  where
    go : (n : ℕ) (b : Bundle) → Holds n b → IsWithin b.periods.first b.periods.last 0x100
    go _ _ sender = (lit≤ tt, lit≤ tt)
    go _ _ receiver = (lit≤ tt, lit≤ tt)

-- ---- V5 to V9

-- the sender's one sending
record IsOwnSending (device port frame : ℕ) (e : Entry) (w : SendWindow) : Type 0 where
  pub device_is : device ≡ 0
  pub port_is : port ≡ 1
  pub entry_is : e ≡ own
  pub window_is : w ≡ record { lo = 0; hi = 0; anchor = 0 }

own_sending : (device port frame : ℕ) (e : Entry) (w : SendWindow) → IsSending setup device port frame e w → IsOwnSending device port frame e w
own_sending device port frame e w is = go device frame e (stands device frame e is.stands) is.leaves is.sends
  where
    go : (n f : ℕ) (x : Entry) → Stands n f x → Leaves x port → HasWindow setup f n w → IsOwnSending n port f x w
    go _ _ _ sends goes has = record { device_is = refl; port_is = one_port port goes; entry_is = refl; window_is = sender_window 0x100 w refl has }
    go _ _ _ receives goes has = absurd (leaf_stays port goes)

-- the receiver's one arrival
record IsOwnArrival (device frame : ℕ) (e : Entry) (hop : ℕ) (w : SendWindow) : Type 0 where
  pub device_is : device ≡ 1
  pub entry_is : e ≡ leaf
  pub hop_is : hop ≡ 800
  pub window_is : w ≡ record { lo = 0; hi = 0; anchor = 0 }

own_arrival : (device frame : ℕ) (e : Entry) (hop : ℕ) (w : SendWindow) → IsForwarded setup device frame e hop w → IsOwnArrival device frame e hop w
own_arrival device frame e hop w is = go device frame e (stands device frame e is.stands) is.parent is.port is.comes is.hops is.sends
  where
    go : (n f : ℕ) (x : Entry) → Stands n f x → (parent port : ℕ) → IsParent setup f n x parent port → hop_of pair parent port ≡ Some hop →
        HasWindow setup f parent w → IsOwnArrival n f x hop w
    go _ _ _ sends parent port from hops has = absurd (omega (arith, from.received))
    go _ _ _ receives parent port from hops has =
        let (parents, ports) = one_parent setup meets 0x100 1 leaf parent port 0 1 from comes in
        let over : hop_of pair 0 1 ≡ Some hop = subst₂ (λ n p. hop_of pair n p ≡ Some hop) parents ports hops in
        record {
          device_is = refl;
          entry_is = refl;
          hop_is = sym (same_Some 800 hop over);
          window_is = sender_window 0x100 w refl (subst (λ n. HasWindow setup 0x100 n w) parents has);
        }

forwards : (at : Place) → ForwardsLateEnough pair bundles at
forwards at e hop w d is absolute some =
    let a = own_arrival at.device.0 at.frame e hop w is in
    λ there. absurd (leaf_stays some.0 (subst (λ x. Leaves x some.0) a.entry_is some.1))

keeps_apart : (at : Place) → KeepsApart pair bundles at
keeps_apart at d e v w less one other =
    let f = frame_is at.device.0 at.frame d (stands at.device.0 at.frame d one.stands) in
    let g = frame_is at.device.0 at.other e (stands at.device.0 at.other e other.stands) in
    λ shared. absurd (omega (arith, less, f, g))

abbrev StaysInRed : ℕ → Entry → SendWindow → Period → Type 0
StaysInRed device e w tx = (tx.red ≤ w.lo) × (w.hi + wire_time e.data_length + slack_time pair.window device w.anchor ≤ tx.orange)

sent : (at : Place) → IsSentInRed pair bundles at
sent at e w b phase tx is is_held among due has =
    let s = own_sending at.device.0 at.port at.frame e w is in
    let held : slice_get bundles 0 ≡ Some b = subst (λ n. slice_get bundles n ≡ Some b) s.device_is is_held in
    let here : period_at first.periods at.port phase Tx ≡ Some tx = subst (λ x. period_at x.periods at.port phase Tx ≡ Some tx) (sym (same_Some first b held)) has in
    let tx_is : tx ≡ red_until 6720 = period_is 1 own sending at.port phase Tx tx here in
    subst₂ (λ n x. StaysInRed n x w tx) (sym s.device_is) (sym s.entry_is) (subst₂ (λ v t. StaysInRed 0 own v t) (sym s.window_is) (sym tx_is) (lit≤ tt, lit≤ tt))

abbrev ArrivesInRed : Entry → ℕ → SendWindow → Period → Type 0
ArrivesInRed e hop w rx = (rx.red ≤ w.lo + hop) × (w.hi + hop + wire_time e.data_length + guard_time pair.window ≤ rx.orange)

received : (at : Place) → IsReceivedInRed pair bundles at
received at e hop w b phase rx is by is_held among due has =
    let a = own_arrival at.device.0 at.frame e hop w is in
    let held : slice_get bundles 1 ≡ Some b = subst (λ n. slice_get bundles n ≡ Some b) a.device_is is_held in
    let there : period_at second.periods at.port phase Rx ≡ Some rx = subst (λ x. period_at x.periods at.port phase Rx ≡ Some rx) (sym (same_Some second b held)) has in
    let rx_is : rx ≡ red_until 9520 = period_is 2 leaf receiving at.port phase Rx rx there in
    subst₂ (λ x n. ArrivesInRed x n w rx) (sym a.entry_is) (sym a.hop_is) (subst₂ (λ v t. ArrivesInRed leaf 800 v t) (sym a.window_is) (sym rx_is) (lit≤ tt, lit≤ tt))

ends : (at : Place) → EndsInCycle pair bundles at
ends at e w hop is hops =
    let s = own_sending at.device.0 at.port at.frame e w is in
    let over : hop_of pair 0 1 ≡ Some hop = subst₂ (λ n p. hop_of pair n p ≡ Some hop) s.device_is s.port_is hops in
    let hop_is : hop ≡ 800 = sym (same_Some 800 hop over) in
    subst₂ (λ x n. w.hi + n + wire_time x.data_length + guard_time pair.window ≤ cycle_time pair.factor) (sym s.entry_is) (sym hop_is)
    (subst (λ v. v.hi + 800 + wire_time 40 + guard_time pair.window ≤ cycle_time pair.factor) (sym s.window_is) (lit≤ tt))

-- ---- V10, V13 and V14

red_limit : (at : Place) → KeepsRedLimit pair bundles at
red_limit at = both (λ tx rx. tx.orange ≤ pair.red_max) (lit≤ tt) (lit≤ tt) at.device.0 at.port

orange : (at : Place) → HasOrange pair bundles at
orange at = both (λ tx rx. tx.green ≡ tx.orange + pair.orange) refl refl at.device.0 at.port

order : (at : Place) → KeepsOrder pair bundles at
order at =
    both (AreOrdered pair)
    (record { sending = record { red = lit≤ tt; orange = lit≤ tt }; guard = lit≤ tt; receiving = record { red = lit≤ tt; orange = lit≤ tt }; cycle = lit≤ tt })
    (record { sending = record { red = lit≤ tt; orange = lit≤ tt }; guard = lit≤ tt; receiving = record { red = lit≤ tt; orange = lit≤ tt }; cycle = lit≤ tt })
    at.device.0 at.port

-- ---- all of them

EachKept : List (Place → Type 0) → Type 0
EachKept [] = ⊤
EachKept (Rule ∷ rules) = ((at : Place) → Rule at) × EachKept rules

kept_at : (rules : List (Place → Type 0)) → EachKept rules → (n : ℕ) (at : Place) → slice_index_or rules n AsksNothing at
unfolding EachKept
kept_at [] each n at = tt
kept_at (Rule ∷ rules) each zero at = each.0 at
kept_at (Rule ∷ rules) each (suc n) at = kept_at rules each.1 n at

each_kept : EachKept (rule_table pair bundles)
unfolding EachKept
each_kept = (
  headers,
  (trees, (demands, (offsets, (forwards, (keeps_apart, (sent, (received, (ends, (red_limit, (red_frames, (range, (orange, (order, (no_clock, tt)))))))))))))),
)

accepted : IsAccepted pair bundles
accepted zero at = tt
accepted (suc n) at = kept_at (rule_table pair bundles) each_kept n at
