-- There are plans to choose from: each demand has a ratio, and a shape in any ratio and phase.
use Rattle.std.proofs.Common.{◌≡◌, ◌≢◌, ℕ, zero, suc, ◌+◌, ◌*◌, ◌%◌, ◌/◌, ◌<◌, ◌≤◌, ◌↔◌, inl, inr, Bool, true, false, cond, true≢false, List, [], ◌∷◌, Option, Some, None, length, slice_get, option_map, sym, ◌∙◌, ap, subst, arith, refl, zero-add, mul-le-mul_right}
use Rattle.std.specs.Prelude.{◌==◌, ◌&&◌, ◌||◌, IsBitSet, slice_index_or}
use Rattle.std.specs.Int.{bit_at}
use Rattle.std.proofs.lemmas.Bool.{cases_Bool, cases_lt, cond-true, cond-false, and_parts, and_from, or_cases, or_left, or_right, eqb-true, eq-eqb, both_ways}
use Rattle.std.proofs.lemmas.Nat.Bits.{bit_at_lowest, bit_at-suc, bit_at_above}
use Rattle.std.proofs.lemmas.Option.{same_Some, slice_get_within}
use Rattle.irt_base.specs.Cycle.{cycle_time}
use Rattle.irt_base.specs.Valid.{IsRatio}
use Rattle.irt_base.specs.Wiring.{peer_of}
use Rattle.irt_base.specs.declared.blocks.Entry.{Entry}
use Rattle.irt_base.specs.declared.numbers.DevId.{DevId}
use Rattle.irt_base.specs.declared.numbers.PortNo.{PortNo}
use Rattle.irt_base.specs.declared.plants.Demand.{Demand}
use Rattle.irt_base.specs.declared.plants.Plant.{Plant}
use Rattle.irt_route.specs.Trees.{Parents, parent_at}
use Rattle.plant_rules.specs.Meets.{IsDevice}
use Rattle.fit_rules.specs.declared.frame_plan.FramePlan.{FramePlan}
use Rattle.fit_rules.specs.Delays.{IsAtZero}
use Rattle.fit_rules.specs.Shape.{entry_of, IsRatioFor, IsOn, IsSentBy, IsReceivedFrom, IsEntryOf, HasShape}
use Rattle.fit_rules.proofs.Bytes.{one_at, set_at}
use Rattle.fit_rules.proofs.Entries.{no_entry}
use Rattle.fit_rules.proofs.Links.{peer_port}
use Rattle.fit_rules.proofs.Lists.{each_at, contains_at, place_of}
use Rattle.fit_rules.proofs.Routed.{IsRouted, step_of}

-- a number by its bits
abbrev bit_of : Bool → ℕ
bit_of true = 1
bit_of false = 0

abbrev bits_of : (ℕ → Bool) → ℕ → ℕ
bits_of f zero = 0
bits_of f (suc n) = bit_of (f 0) + 2 * bits_of (λ k. f (suc k)) n

abbrev doubled : ℕ → ℕ
doubled zero = 1
doubled (suc n) = 2 * doubled n

bit_small : (b : Bool) → bit_of b < 2
bit_small true = omega arith
bit_small false = omega arith

bits_small : (f : ℕ → Bool) (n : ℕ) → bits_of f n < doubled n
bits_small f zero = omega arith
bits_small f (suc n) = let rest = bits_small (λ k. f (suc k)) n in let first = bit_small (f 0) in omega arith

bit_there : (f : ℕ → Bool) (n k : ℕ) → k < n → bit_at (bits_of f n) k ≡ bit_of (f k)
bit_there f zero k less = absurd (omega arith)
bit_there f (suc n) zero less = bit_at_lowest (bits_of f (suc n)) ∙ lowest (bit_of (f 0)) (bits_of (λ k. f (suc k)) n) (bit_small (f 0))
  where
    lowest : (b m : ℕ) → b < 2 → (b + 2 * m) % 2 ≡ b
    lowest b m small = omega arith
bit_there f (suc n) (suc k) less =
    bit_at-suc (bits_of f (suc n)) k
    ∙ ap (λ m. bit_at m k) (halved (bit_of (f 0)) (bits_of (λ j. f (suc j)) n) (bit_small (f 0)))
    ∙ bit_there (λ j. f (suc j)) n k (omega arith)
  where
    halved : (b m : ℕ) → b < 2 → (b + 2 * m) / 2 ≡ m
    halved b m small = omega arith

bit_true : (b : Bool) → bit_of b ≡ 1 → b ≡ true
bit_true true is = refl
bit_true false is = absurd (omega (arith, is))

set_passes : (f : ℕ → Bool) (k : ℕ) → k < 8 → IsBitSet (bits_of f 8) k → f k ≡ true
set_passes f k less set = bit_true (f k) (sym (bit_there f 8 k less) ∙ one_at (bits_of f 8) k set)

passes_set : (f : ℕ → Bool) (k : ℕ) → k < 8 → f k ≡ true → IsBitSet (bits_of f 8) k
passes_set f k less is = set_at (bits_of f 8) k (bit_there f 8 k less ∙ ap bit_of is)

set_below : (f : ℕ → Bool) (k : ℕ) → IsBitSet (bits_of f 8) k → k < 8
set_below f k set = elim (cases_lt k 8) [
  | inl less ↦ less
  | inr past ↦ let none = bit_at_above (bits_of f 8) 8 k (bits_small f 8) past in absurd (omega (arith, one_at (bits_of f 8) k set))
]

-- whether the table has a device for which this one's port is the parent's
abbrev is_sent : ℕ → ℕ → Parents → Bool
is_sent device port [] = false
is_sent device port (None ∷ rest) = is_sent device port rest
is_sent device port (Some from ∷ rest) = ((from.0.0 == device) && (from.1.0 == port)) || is_sent device port rest

end_at : ℕ → ℕ → DevId × PortNo
end_at device port = (record { 0 = device }, record { 0 = port })

sent_child : (device port : ℕ) (parents : Parents) → is_sent device port parents ≡ true →
    (child : ℕ) × (parent_at parents child ≡ Some (record { 0 = device }, record { 0 = port }))
sent_child device port [] is = absurd (true≢false (sym is))
sent_child device port (None ∷ rest) is = let (child, at) = sent_child device port rest is in (suc child, at)
sent_child device port (Some from ∷ rest) is = elim (or_cases ((from.0.0 == device) && (from.1.0 == port)) (is_sent device port rest) is) [
  | inl here_is ↦
      let (one, two) = and_parts (from.0.0 == device) (from.1.0 == port) here_is in
      let first = eqb-true from.0.0 device one in
      let second = eqb-true from.1.0 port two in
      (0, λ i. Some (record { 0 = first i }, record { 0 = second i }))
  | inr later ↦ let (child, at) = sent_child device port rest later in (suc child, at)
]

child_sent : (device port : ℕ) (parents : Parents) (child : ℕ) → parent_at parents child ≡ Some (record { 0 = device }, record { 0 = port }) →
    is_sent device port parents ≡ true
child_sent device port [] child at = no_entry (let x : DevId × PortNo = (record { 0 = device }, record { 0 = port }) in x) at
child_sent device port (None ∷ rest) zero at = no_entry (let x : DevId × PortNo = (record { 0 = device }, record { 0 = port }) in x) at
child_sent device port (Some from ∷ rest) zero at =
    let same = same_Some from (let x : DevId × PortNo = (record { 0 = device }, record { 0 = port }) in x) at in
    or_left ((from.0.0 == device) && (from.1.0 == port)) (is_sent device port rest)
    (and_from _ _ (eq-eqb from.0.0 device (ap (λ (x : DevId × PortNo). x.0.0) same)) (eq-eqb from.1.0 port (ap (λ (x : DevId × PortNo). x.1.0) same)))
child_sent device port (None ∷ rest) (suc child) at = child_sent device port rest child at
child_sent device port (Some from ∷ rest) (suc child) at =
    or_right ((from.0.0 == device) && (from.1.0 == port)) (is_sent device port rest) (child_sent device port rest child at)

abbrev is_kept : ℕ → List DevId → Bool
is_kept device [] = false
is_kept device (c ∷ rest) = (c.0 == device) || is_kept device rest

kept_place : (device : ℕ) (consumers : List DevId) → is_kept device consumers ≡ true → (n : ℕ) × (slice_get consumers n ≡ Some (record { 0 = device }))
kept_place device [] is = absurd (true≢false (sym is))
kept_place device (c ∷ rest) is = elim (or_cases (c.0 == device) (is_kept device rest) is) [
  | inl here_is ↦ let same = eqb-true c.0 device here_is in (0, λ i. Some (record { 0 = same i }))
  | inr later ↦ let (n, at) = kept_place device rest later in (suc n, at)
]

place_kept : (device : ℕ) (consumers : List DevId) (n : ℕ) → slice_get consumers n ≡ Some (record { 0 = device }) → is_kept device consumers ≡ true
place_kept device [] n at = no_entry (let x : DevId = record { 0 = device } in x) at
place_kept device (c ∷ rest) zero at =
    or_left (c.0 == device) (is_kept device rest) (eq-eqb c.0 device (ap (λ (x : DevId). x.0) (same_Some c (let x : DevId = record { 0 = device } in x) at)))
place_kept device (c ∷ rest) (suc n) at = or_right (c.0 == device) (is_kept device rest) (place_kept device rest n at)

-- which bits an entry has
abbrev has_bit : Parents → Demand → ℕ → ℕ → Bool
has_bit parents demand device zero = is_kept device demand.consumers
has_bit parents demand device (suc port) = is_sent device (suc port) parents

abbrev made : Parents → Demand → ℕ → ℕ → ℕ → ℕ → Entry
made parents demand ratio phase device rx = record {
  send_offset = 0;
  data_length = demand.length;
  ratio = ratio;
  phase = phase;
  frame = demand.frame;
  rx_port = rx;
  tx = bits_of (has_bit parents demand device) 8;
}

-- the entry of a device that is no provider, by its parent
abbrev made_from : Plant → Parents → Demand → ℕ → ℕ → ℕ → Option (DevId × PortNo) → Option Entry
made_from plant parents demand ratio phase device None = None
made_from plant parents demand ratio phase device (Some from) =
    option_map (λ (far : DevId × PortNo). made parents demand ratio phase device far.1.0) (peer_of plant from.0.0 from.1.0)

abbrev made_at : Plant → Parents → Demand → ℕ → ℕ → ℕ → Option Entry
made_at plant parents demand ratio phase device =
    cond (device == demand.provider.0) (Some (made parents demand ratio phase device 0))
    (made_from plant parents demand ratio phase device (parent_at parents device))

abbrev listed : (ℕ → Option Entry) → ℕ → ℕ → List (Option Entry)
listed f from zero = []
listed f from (suc n) = f from ∷ listed f (suc from) n

length-listed : (f : ℕ → Option Entry) (from n : ℕ) → length (listed f from n) ≡ n
length-listed f from zero = refl
length-listed f from (suc n) = ap suc (length-listed f (suc from) n)

listed_at : (f : ℕ → Option Entry) (from n i : ℕ) → i < n → slice_index_or (listed f from n) i None ≡ f (from + i)
listed_at f from zero i less = absurd (omega arith)
listed_at f from (suc n) zero less = ap f (omega arith)
listed_at f from (suc n) (suc i) less = listed_at f (suc from) n i (omega arith) ∙ ap f (omega arith)

listed_within : (f : ℕ → Option Entry) (from n i : ℕ) (e : Entry) → slice_index_or (listed f from n) i None ≡ Some e → i < n
listed_within f from zero i e is = no_entry e is
listed_within f from (suc n) zero e is = omega arith
listed_within f from (suc n) (suc i) e is = omega (arith, listed_within f (suc from) n i e is)

abbrev made_plan : Plant → Parents → Demand → ℕ → ℕ → FramePlan
made_plan plant parents demand ratio phase =
    record { frame = demand.frame; entries = listed (made_at plant parents demand ratio phase) 0 (length plant.devices) }

abbrev pub ShapedPlan : Plant → Parents → Demand → ℕ → ℕ → Type 0
ShapedPlan plant parents demand ratio phase = (plan : FramePlan) × HasShape plant parents demand ratio phase plan × IsAtZero plan

abbrev Fits : Plant → Demand → ℕ → Type 0
Fits plant demand ratio = ratio * cycle_time plant.factor ≤ demand.update

-- the greatest ratio is that of the five that fits while its double does not
ratio_by : (plant : Plant) (demand : Demand) (ratio : ℕ) → IsRatio ratio → Fits plant demand ratio → ((other : ℕ) → IsRatio other → ratio < other → ¬ Fits plant demand other) →
    IsRatioFor plant demand ratio
ratio_by plant demand ratio is fits above = record {
  is = is;
  update = fits;
  greatest = λ other also held. elim (cases_lt ratio other) [ inl more ↦ absurd (above other also more held) | inr within ↦ within ];
}

-- the ratios are five, each the double of the one before
record AreRatios (n : ℕ) : Type 0 where
  two : 1 < n → 2 ≤ n
  four : 2 < n → 4 ≤ n
  eight : 4 < n → 8 ≤ n
  sixteen : 8 < n → 16 ≤ n
  most : n ≤ 16

ratio_steps : (n : ℕ) → IsRatio n → AreRatios n
ratio_steps n is = elim is [
  | inl one ↦ record { two = λ h. omega arith; four = λ h. omega arith; eight = λ h. omega arith; sixteen = λ h. omega arith; most = omega arith }
  | inr more ↦ elim more [
    | inl two ↦ record { two = λ h. omega arith; four = λ h. omega arith; eight = λ h. omega arith; sixteen = λ h. omega arith; most = omega arith }
    | inr rest ↦ elim rest [
      | inl four ↦ record { two = λ h. omega arith; four = λ h. omega arith; eight = λ h. omega arith; sixteen = λ h. omega arith; most = omega arith }
      | inr last ↦ elim last [
        | inl eight ↦ record { two = λ h. omega arith; four = λ h. omega arith; eight = λ h. omega arith; sixteen = λ h. omega arith; most = omega arith }
        | inr sixteen ↦ record { two = λ h. omega arith; four = λ h. omega arith; eight = λ h. omega arith; sixteen = λ h. omega arith; most = omega arith }
      ]
    ]
  ]
]

-- what does not fit at a number fits at none above it
none_above : (plant : Plant) (demand : Demand) (next other : ℕ) → demand.update < next * cycle_time plant.factor → next ≤ other → ¬ Fits plant demand other
none_above plant demand next other past up held =
    let more : next * cycle_time plant.factor ≤ other * cycle_time plant.factor = mul-le-mul_right (cycle_time plant.factor) up in
    omega arith

pub some_ratio : (plant : Plant) (demand : Demand) → cycle_time plant.factor ≤ demand.update → (ratio : ℕ) × IsRatioFor plant demand ratio
some_ratio plant demand update =
    let t = cycle_time plant.factor in
    elim (cases_lt demand.update (16 * t)) [
      | inr fits ↦ (16, ratio_by plant demand 16 (inr (inr (inr (inr refl)))) fits (λ other is more. absurd (omega (arith, (ratio_steps other is).most))))
      | inl past ↦ elim (cases_lt demand.update (8 * t)) [
        | inr fits ↦ (8, ratio_by plant demand 8 (inr (inr (inr (inl refl)))) fits (λ other is more. none_above plant demand 16 other past ((ratio_steps other is).sixteen more)))
        | inl beyond ↦ elim (cases_lt demand.update (4 * t)) [
          | inr fits ↦ (4, ratio_by plant demand 4 (inr (inr (inl refl))) fits (λ other is more. none_above plant demand 8 other beyond ((ratio_steps other is).eight more)))
          | inl over ↦ elim (cases_lt demand.update (2 * t)) [
            | inr fits ↦ (2, ratio_by plant demand 2 (inr (inl refl)) fits (λ other is more. none_above plant demand 4 other over ((ratio_steps other is).four more)))
            | inl none ↦ (1, ratio_by plant demand 1 (inl refl) (omega arith) (λ other is more. none_above plant demand 2 other none ((ratio_steps other is).two more)))
          ]
        ]
      ]
    ]

module _ (plant : Plant) (parents : Parents) (demand : Demand) (routed : IsRouted plant parents demand) where
  -- ports that send are ports of the plant
  sent_low : (device port : ℕ) → IsSentBy parents device port → port < 8
  sent_low device port (child, at) =
      let step = step_of plant parents demand routed child (record { 0 = device }, record { 0 = port }) at in
      let p = peer_port plant routed.rules device port step.step.step.far step.step.step.over in
      let ports = (each_at IsDevice plant.devices device p.d routed.rules.devices p.held).port_count in
      omega (arith, p.within.1, ports.1)

  sent_bits : (device port : ℕ) → 1 ≤ port →
      IsBitSet (bits_of (has_bit parents demand device) 8) port ↔ IsSentBy parents device port
  sent_bits device zero one = absurd (omega arith)
  sent_bits device (suc port) one = (
    λ set. sent_child device (suc port) parents (set_passes (has_bit parents demand device) (suc port) (set_below (has_bit parents demand device) (suc port) set) set),
    λ sent. passes_set (has_bit parents demand device) (suc port) (sent_low device (suc port) sent)
        (child_sent device (suc port) parents sent.0 sent.1),
  )

  made_entry : (ratio phase device rx : ℕ) → IsOn demand parents device →
      (device ≡ demand.provider.0 → rx ≡ 0) →
      ((from : DevId × PortNo) → parent_at parents device ≡ Some from → IsReceivedFrom plant device (made parents demand ratio phase device rx) from) →
      IsEntryOf plant parents demand ratio phase device (made parents demand ratio phase device rx)
  made_entry ratio phase device rx on provided received = record {
    on = on;
    frame = refl;
    length = refl;
    ratio_is = refl;
    phase_is = refl;
    provided = provided;
    received = received;
    sent = sent_bits device;
    kept = (
      λ set. (let (n, at) = kept_place device demand.consumers (set_passes (has_bit parents demand device) 0 (omega arith) set) in
          contains_at demand.consumers n (record { 0 = device }) at),
      λ consumes. (let (n, at) = place_of demand.consumers (record { 0 = device }) consumes in
          passes_set (has_bit parents demand device) 0 (omega arith) (place_kept device demand.consumers n at)),
    );
    small = bits_small (has_bit parents demand device) 8;
  }

  -- the link of a step comes to a port of the device
  far_received : (ratio phase device : ℕ) (from far : DevId × PortNo) →
      peer_of plant from.0.0 from.1.0 ≡ Some far → far.0.0 ≡ device → IsReceivedFrom plant device (made parents demand ratio phase device far.1.0) from
  far_received ratio phase device from far over there =
      let back = routed.known.peers plant routed.rules from.0.0 from.1.0 far.0.0 far.1.0 over in
      let port = peer_port plant routed.rules far.0.0 far.1.0 (record { 0 = from.0.0 }, record { 0 = from.1.0 }) back in
      record { from_one = port.within.0; leads = over ∙ (λ i. Some (record { 0 = there i }, record { 0 = far.1.0 })) }

  made_is : (ratio phase device : ℕ) (e : Entry) →
      (o : Option (DevId × PortNo)) → parent_at parents device ≡ o → device ≢ demand.provider.0 →
      made_from plant parents demand ratio phase device o ≡ Some e → IsEntryOf plant parents demand ratio phase device e × (e.send_offset ≡ 0)
  made_is ratio phase device e None at off is = no_entry e is
  made_is ratio phase device e (Some from) at off is =
      let step = step_of plant parents demand routed device from at in
      let far = step.step.step.far in
      let over = step.step.step.over in
      let same = same_Some (made parents demand ratio phase device far.1.0) e
      (sym (ap (option_map (λ (x : DevId × PortNo). made parents demand ratio phase device x.1.0)) over) ∙ is) in
      let entry = made_entry ratio phase device far.1.0 (inr (from, at)) (λ own. absurd (off own))
      (λ other also. far_received ratio phase device other far
      (ap (λ (x : DevId × PortNo). peer_of plant x.0.0 x.1.0) (same_Some other from (sym also ∙ at)) ∙ over) step.step.step.there) in
      (subst (IsEntryOf plant parents demand ratio phase device) same entry, sym (ap (λ (x : Entry). x.send_offset) same))

  entry_made : (ratio phase device : ℕ) (e : Entry) →
      made_at plant parents demand ratio phase device ≡ Some e → IsEntryOf plant parents demand ratio phase device e × (e.send_offset ≡ 0)
  entry_made ratio phase device e is = elim (cases_Bool (device == demand.provider.0)) [
    | inl own ↦
        let provider = eqb-true device demand.provider.0 own in
        let same = same_Some (made parents demand ratio phase device 0) e
        (sym (cond-true (device == demand.provider.0) (Some (made parents demand ratio phase device 0)) _ own) ∙ is) in
        let entry = made_entry ratio phase device 0 (inl provider) (λ _. refl)
        (λ from at. absurd (routed.known.start (peer_of plant) demand.provider.0 demand.consumers from
        (step_of plant parents demand routed demand.provider.0 from (subst (λ n. parent_at parents n ≡ Some from) provider at)))) in
        (subst (IsEntryOf plant parents demand ratio phase device) same entry, sym (ap (λ (x : Entry). x.send_offset) same))
    | inr other ↦
        made_is ratio phase device e (parent_at parents device) refl (λ own. both_ways _ other (eq-eqb device demand.provider.0 own))
        (sym (cond-false (device == demand.provider.0) (Some (made parents demand ratio phase device 0)) _ other) ∙ is)
  ]

  on_within : (device : ℕ) → IsOn demand parents device → device < length plant.devices
  on_within device (inl own) = subst (λ n. n < length plant.devices) (sym own) routed.valid.provider
  on_within device (inr (from, at)) =
      let step = (step_of plant parents demand routed device from at).step.step in
      let back = routed.known.peers plant routed.rules from.0.0 from.1.0 step.far.0.0 step.far.1.0 step.over in
      let port = peer_port plant routed.rules step.far.0.0 step.far.1.0 (record { 0 = from.0.0 }, record { 0 = from.1.0 }) back in
      subst (λ n. n < length plant.devices) step.there (slice_get_within plant.devices step.far.0.0 port.d port.held)

  made_full : (ratio phase device : ℕ) → IsOn demand parents device →
      (e : Entry) × (made_at plant parents demand ratio phase device ≡ Some e)
  made_full ratio phase device on = elim (cases_Bool (device == demand.provider.0)) [
    | inl own ↦ (made parents demand ratio phase device 0, cond-true (device == demand.provider.0) (Some (made parents demand ratio phase device 0)) _ own)
    | inr other ↦ go on other
  ]
    where
      go : IsOn demand parents device → (device == demand.provider.0) ≡ false → (e : Entry) × (made_at plant parents demand ratio phase device ≡ Some e)
      go (inl own) other = absurd (both_ways _ other (eq-eqb device demand.provider.0 own))
      go (inr (from, at)) other =
          let step = (step_of plant parents demand routed device from at).step.step in (
            made parents demand ratio phase device step.far.1.0,
            cond-false (device == demand.provider.0) (Some (made parents demand ratio phase device 0)) _ other
                ∙ ap (made_from plant parents demand ratio phase device) at
                ∙ ap (option_map (λ (x : DevId × PortNo). made parents demand ratio phase device x.1.0)) step.over,
          )

  -- each demand has a shape
  pub some_shape : (ratio phase : ℕ) → ShapedPlan plant parents demand ratio phase
  some_shape ratio phase =
      let devices = length plant.devices in
      let entry = made_at plant parents demand ratio phase in
      let there = λ (device : ℕ) (e : Entry) (is : entry_of (made_plan plant parents demand ratio phase) device ≡ Some e).
      entry_made ratio phase device e (sym (listed_at entry 0 devices device (listed_within entry 0 devices device e is) ∙ ap entry (zero-add device)) ∙ is) in (
        made_plan plant parents demand ratio phase,
        record {
          frame = refl;
          count = length-listed entry 0 devices;
          each = λ device e is. (there device e is).0;
          full = λ device on.
              let (e, is) = made_full ratio phase device on in
              (e, listed_at entry 0 devices device (on_within device on) ∙ ap entry (zero-add device) ∙ is);
          idle = λ device e is idle. (there device e is).1;
        },
        λ device e is. (there device e is).1,
      )
