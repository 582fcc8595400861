-- A frame starts at a device once.
use Rattle.std.proofs.Common.{◌≡◌, ℕ, zero, suc, ◌+◌, ◌*◌, ◌≤◌, ◌<◌, ◌^◌, ◌⊎◌, inl, inr, Option, Some, None, option_map, slice_get, refl, sym, ◌∙◌, ap, subst, arith, IsBitSet}
use Rattle.std.specs.Prelude.{ℤ, pos, ◌+ℤ◌, bit_and}
use Rattle.std.proofs.lemmas.Bool.{cases_eq, cases_lt}
use Rattle.std.proofs.lemmas.Nat.Bits.{and_pow, bit_at_above}
use Rattle.std.proofs.lemmas.Option.{same_Some}
use Rattle.irt_base.specs.Cycle.{cycle_time}
use Rattle.irt_base.specs.Wiring.{peer_of, hop_of, link_at, far_end, hop_over}
use Rattle.irt_base.specs.declared.limits.TheConstants.{MAX_PORTS}
use Rattle.irt_base.specs.declared.numbers.DevId.{DevId}
use Rattle.irt_base.specs.declared.numbers.PortNo.{PortNo}
use Rattle.irt_base.specs.declared.blocks.Entry.{Entry}
use Rattle.irt_base.specs.declared.plants.Device.{Device}
use Rattle.irt_base.specs.declared.plants.Link.{Link}
use Rattle.irt_base.specs.declared.plants.Mode.{Mode}
use Rattle.irt_base.specs.declared.plants.Mode.TheVariants.{Absolute, Relative}
use Rattle.irt_base.specs.declared.plants.Plant.{Plant}
use Rattle.plant_rules.specs.Meets.{MeetsRules}
use Rattle.plan_rules.specs.World.{WorldRow}
use Rattle.plan_rules.specs.Way.{Setup, entry_at, Leaves, IsAbsolute, IsAnchor, IsParent, IsLive, provided, forwarded, IsStart, by_offset, by_arrival}
use Rattle.plan_rules.proofs.Wires.{end_of}
use Rattle.plan_rules.proofs.OneWay.{one_parent}

-- ---- a link that leads somewhere has a hop

hop_over_link : (plant : Plant) (device port : ℕ) (o : Option Link) (far : DevId × PortNo) → option_map (far_end device port) o ≡ Some far →
    (hop : ℕ) × (option_map (hop_over plant device port) o ≡ Some hop)
hop_over_link plant device port None far is = absurd (cc)
hop_over_link plant device port (Some link) far is = (hop_over plant device port link, refl)

pub hop_there : (plant : Plant) (device port v q : ℕ) → peer_of plant device port ≡ Some (end_of v q) → (hop : ℕ) × (hop_of plant device port ≡ Some hop)
hop_there plant device port v q is = hop_over_link plant device port (link_at plant device port) (end_of v q) is

-- ---- whether a device is an anchor

mode_cases : (mode : Option Mode) → (mode ≡ Some Absolute) ⊎ ¬ (mode ≡ Some Absolute)
mode_cases None = inr (λ is. absurd (cc))
mode_cases (Some Absolute) = inl refl
mode_cases (Some Relative) = inr (λ is. absurd (cc))

pub absolute_cases : (plant : Plant) (device : ℕ) → IsAbsolute plant device ⊎ ¬ IsAbsolute plant device
absolute_cases plant device = mode_cases (option_map (λ (d : Device). d.mode) (slice_get plant.devices device))

-- a number has no bit at or past one that it is below
pub no_high_bit : (n most bit : ℕ) → n < 2 ^ most → most ≤ bit → ¬ IsBitSet n bit
no_high_bit n most bit below high is =
    let none = bit_at_above n most bit below high in
    is (and_pow n bit ∙ (ap (λ (k : ℕ). k * 2 ^ bit) none ∙ omega arith))

-- a byte names seven ports
pub port_below : (e : Entry) (port : ℕ) → e.tx < 2 ^ 8 → Leaves e port → port ≤ MAX_PORTS
port_below e port byte leaves = elim (cases_lt port 8) [ inl low ↦ omega arith | inr high ↦ absurd (no_high_bit e.tx 8 port byte high leaves.bit) ]

ports_up_to : (e : Entry) (n : ℕ) → ((port : ℕ) × Leaves e port) ⊎ ((port : ℕ) → port ≤ n → ¬ Leaves e port)
ports_up_to e zero = inr (λ port low leaves. omega (arith, low, leaves.from_one))
ports_up_to e (suc n) =
    elim (cases_eq (bit_and e.tx (2 ^ suc n)) 0) [
      | inr set ↦ inl (suc n, record { from_one = omega arith; bit = set })
      | inl unset ↦ elim (ports_up_to e n) [
        | inl some ↦ inl some
        | inr none ↦ inr (λ port low leaves. elim (cases_eq port (suc n)) [
          | inl same ↦ leaves.bit (ap (λ (k : ℕ). bit_and e.tx (2 ^ k)) same ∙ unset)
          | inr other ↦ none port (omega arith) leaves
        ])
      ]
    ]

port_cases : (e : Entry) → e.tx < 2 ^ 8 → ((port : ℕ) × Leaves e port) ⊎ ¬ ((port : ℕ) × Leaves e port)
port_cases e byte =
    elim (ports_up_to e MAX_PORTS) [
      | inl some ↦ inl some
      | inr none ↦ inr (λ some. none some.0 (port_below e some.0 byte some.1) some.1)
    ]

anchor_cases : (setup : Setup) (device : ℕ) (e : Entry) → e.tx < 2 ^ 8 → IsAnchor setup device e ⊎ ¬ IsAnchor setup device e
anchor_cases setup device e byte =
    elim (cases_eq e.rx_port 0) [
      | inl own ↦ inl (inl own)
      | inr far ↦ elim (absolute_cases setup.plant device) [
        | inr relative ↦ inr (neither far (λ both. relative both.0))
        | inl absolute ↦ elim (port_cases e byte) [
          | inl some ↦ inl (inr (absolute, some))
          | inr none ↦ inr (neither far (λ both. none both.1))
        ]
      ]
    ]
  where
    neither : {A B : Type 0} → ¬ A → ¬ B → ¬ (A ⊎ B)
    neither first second (inl a) = first a
    neither first second (inr b) = second b

-- ---- there is a start

-- entries are of bytes
abbrev pub HasBytes : Setup → Type 0
HasBytes setup = (device frame : ℕ) (e : Entry) → entry_at setup device frame ≡ Some e → e.tx < 2 ^ 8

pub started : (setup : Setup) → HasBytes setup → (row : WorldRow) (k frame device : ℕ) → IsLive setup row frame device →
    (start : ℤ) × IsStart setup row k frame device start
started setup bytes row k frame _ (provided device e at own step) =
    (pos (k * cycle_time setup.plant.factor + e.send_offset) +ℤ row.error device, by_offset device e at (inl own))
started setup bytes row k frame _ (forwarded device e parent gate at comes live uncut step) =
    let (before, starts) = started setup bytes row k frame parent live in
    elim (anchor_cases setup device e (bytes device frame e at)) [
      | inl anchor ↦ (pos (k * cycle_time setup.plant.factor + e.send_offset) +ℤ row.error device, by_offset device e at anchor)
      | inr other ↦
          let (hop, hops) = hop_there setup.plant parent gate device e.rx_port comes.leads in
          (before +ℤ pos (hop + row.bridge device frame), by_arrival device e parent gate hop before at other comes starts hops)
    ]

-- ---- there is one alone

start_of_anchor : (setup : Setup) (row : WorldRow) (k frame device : ℕ) (e : Entry) (s : ℤ) → entry_at setup device frame ≡ Some e →
    IsAnchor setup device e → IsStart setup row k frame device s → s ≡ (pos (k * cycle_time setup.plant.factor + e.send_offset) +ℤ row.error device)
start_of_anchor setup row k frame _ e _ at anchor (by_offset device f is one) =
    ap (λ (x : Entry). pos (k * cycle_time setup.plant.factor + x.send_offset) +ℤ row.error device) (same_Some f e (sym is ∙ at))
start_of_anchor setup row k frame _ e _ at anchor (by_arrival device f parent port hop before is other comes starts hops) =
    absurd (other (subst (IsAnchor setup device) (same_Some e f (sym at ∙ is)) anchor))

-- any other start follows the parent's
record StartsBehind (setup : Setup) (row : WorldRow) (k frame device : ℕ) (e : Entry) (s : ℤ) : Type 0 where
  pub parent : ℕ
  pub port : ℕ
  pub hop : ℕ
  pub before : ℤ
  pub comes : IsParent setup frame device e parent port
  pub starts : IsStart setup row k frame parent before
  pub hops : hop_of setup.plant parent port ≡ Some hop
  pub is : s ≡ (before +ℤ pos (hop + row.bridge device frame))

start_behind : (setup : Setup) (row : WorldRow) (k frame device : ℕ) (e : Entry) (s : ℤ) → entry_at setup device frame ≡ Some e →
    ¬ IsAnchor setup device e → IsStart setup row k frame device s → StartsBehind setup row k frame device e s
start_behind setup row k frame _ e _ at other (by_offset device f is anchor) =
    absurd (other (subst (IsAnchor setup device) (same_Some f e (sym is ∙ at)) anchor))
start_behind setup row k frame _ e _ at other (by_arrival device f parent port hop before is still comes starts hops) = record {
  parent = parent;
  port = port;
  hop = hop;
  before = before;
  comes = subst (λ x. IsParent setup frame device x parent port) (same_Some f e (sym is ∙ at)) comes;
  starts = starts;
  hops = hops;
  is = refl;
}

pub one_start : (setup : Setup) → MeetsRules setup.plant → (row : WorldRow) (k frame device : ℕ) (s t : ℤ) →
    IsStart setup row k frame device s → IsStart setup row k frame device t → s ≡ t
one_start setup rules row k frame _ _ t (by_offset device e at anchor) second = sym (start_of_anchor setup row k frame device e t at anchor second)
one_start setup rules row k frame _ _ t (by_arrival device e parent port hop before at other comes starts hops) second =
    let b = start_behind setup row k frame device e t at other second in
    let (parents, ports) = one_parent setup rules frame device e parent port b.parent b.port comes b.comes in
    let again : IsStart setup row k frame parent b.before = subst (λ x. IsStart setup row k frame x b.before) (sym parents) b.starts in
    let gap : hop_of setup.plant parent port ≡ Some b.hop = (λ i. hop_of setup.plant (parents i) (ports i)) ∙ b.hops in
    let same = one_start setup rules row k frame parent before b.before starts again in
    let hop_same : hop ≡ b.hop = same_Some hop b.hop (sym hops ∙ gap) in
    (λ i. same i +ℤ pos (hop_same i + row.bridge device frame)) ∙ sym b.is
