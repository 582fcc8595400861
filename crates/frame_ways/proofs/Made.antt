-- The entries of a demand's frame, device by device.
use Rattle.std.proofs.Common.{◌≡◌, ◌≢◌, ◌+◌, ◌^◌, ◌<◌, ◌↔◌, ◌⊎◌, ◌++◌, ◌∷◌, [], ℕ, inl, inr, Bool, true, false, true≢false, List, Option, Some, None, length, get_or, option_map, refl, sym, ◌∙◌, ap, subst, arith, IsBitSet}
use Rattle.std.specs.Prelude.{◌==◌, ◌&&◌, IsTrue, option_and_then}
use Rattle.std.specs.Option.{option_map_or}
use Rattle.std.proofs.lemmas.Bool.{cases_Bool, cases_lt, cond-true, cond-false, and_parts, and_from, eqb-true, eq-eqb, both_ways}
use Rattle.std.proofs.lemmas.List.{get_or_append_left, get_or_push}
use Rattle.std.proofs.lemmas.Option.{same_Some}
use Rattle.irt_base.specs.Wiring.{peer_of}
use Rattle.irt_base.specs.declared.blocks.Entry.{Entry}
use Rattle.irt_base.specs.declared.numbers.DevId.{DevId}
use Rattle.irt_base.specs.declared.numbers.PortNo.{PortNo}
use Rattle.irt_base.specs.declared.plants.Demand.{Demand}
use Rattle.irt_base.specs.declared.plants.Plant.{Plant}
use Rattle.irt_route.specs.Routes.{IsAmong, IsConsumer, IsTreeOf}
use Rattle.irt_route.specs.Trees.{Parents, parent_at, IsTreeParent, IsTreeStep}
use Rattle.link_index.specs.Index.{IsIndexOf, peer_in}
use Rattle.link_index.specs.declared.index.Wire.{Wire}
use Rattle.plant_rules.specs.Meets.{MeetsRules, IsDemand}
use Rattle.plan_rules.specs.Tree.{Consumes}
use Rattle.fit_rules.specs.Shape.{IsOn, IsSentBy, IsReceivedFrom, IsEntryOf}
use Rattle.frame_ways.specs.Entries.{IsBase, IsTreeEntryAt, rx_port_of, is_parent_of, is_sent_over, IsTxBit}
use Rattle.frame_ways.proofs.Lists.{no_entry, read_within}
use Rattle.frame_ways.proofs.Ports.{from_one}

abbrev pub AreMutual : Plant → Type 0
AreMutual plant = (d p v q : ℕ) → peer_of plant d p ≡ Some (record { 0 = v }, record { 0 = q }) → peer_of plant v q ≡ Some (record { 0 = d }, record { 0 = p })

abbrev pub IsStepOf : Plant → Demand → DevId × PortNo → ℕ → Type 0
IsStepOf plant demand from device = IsTreeStep (peer_of plant) demand.provider.0 (IsAmong demand.consumers) from device

abbrev pub HasNoneToStart : Plant → Demand → Type 0
HasNoneToStart plant demand = (from : DevId × PortNo) → IsStepOf plant demand from demand.provider.0 → ⊥

-- the frame comes to a device of the tree from a port of another one
pub record ComesOver (plant : Plant) (parents : Parents) (device rx : ℕ) : Type 0 where
  pub from : DevId × PortNo
  pub far : DevId × PortNo
  pub at : parent_at parents device ≡ Some from
  pub over : peer_of plant from.0.0 from.1.0 ≡ Some far
  pub is : rx ≡ far.1.0

mapped : {X Y : Type 0} (f : X → Y) (o : Option X) (y : Y) → option_map f o ≡ Some y → (x : X) × (o ≡ Some x) × (f x ≡ y)
mapped f None y is = no_entry y is
mapped f (Some x) y is = (x, refl, same_Some (f x) y is)

-- the steps of a tree are those of its table
pub step_of : (plant : Plant) (parents : Parents) (demand : Demand) → IsTreeOf (peer_of plant) demand parents → (device : ℕ) (from : DevId × PortNo) →
    parent_at parents device ≡ Some from → IsStepOf plant demand from device
step_of plant parents demand tree device from at =
    subst (IsTreeParent (peer_of plant) demand.provider.0 (IsConsumer demand) device) at (tree.tree device)

sent_child : (parents : Parents) (device port : ℕ) (o : Option (DevId × PortNo)) → option_map_or (λ (far : DevId × PortNo). is_parent_of parents device port far.0.0) o false ≡ true →
    IsSentBy parents device port
sent_child parents device port None is = absurd (true≢false (sym is))
sent_child parents device port (Some far) is = (far.0.0, go (parent_at parents far.0.0) is)
  where
    go : (o : Option (DevId × PortNo)) → option_map_or (λ (from : DevId × PortNo). (from.0.0 == device) && (from.1.0 == port)) o false ≡ true →
        o ≡ Some (record { 0 = device }, record { 0 = port })
    go None never = absurd (true≢false (sym never))
    go (Some from) passes =
        let (one, two) = and_parts (from.0.0 == device) (from.1.0 == port) passes in
        let first = eqb-true from.0.0 device one in
        let second = eqb-true from.1.0 port two in
        λ i. Some (record { 0 = first i }, record { 0 = second i })

module _ (plant : Plant) (parents : Parents) (demand : Demand) (rows : List (List (Option Wire))) (rules : MeetsRules plant) (index : IsIndexOf plant rows)
    (both : AreMutual plant) (none : HasNoneToStart plant demand) (tree : IsTreeOf (peer_of plant) demand parents) (valid : IsDemand plant demand) where
  rx_from : (device rx : ℕ) (o : Option (DevId × PortNo)) → parent_at parents device ≡ o →
      option_and_then (λ (from : DevId × PortNo). option_map (λ (far : DevId × PortNo). far.1.0) (peer_in rows from.0.0 from.1.0)) o ≡ Some rx →
      ComesOver plant parents device rx
  rx_from device rx None at is = no_entry rx is
  rx_from device rx (Some from) at is =
      let (far, over, same) = mapped (λ (x : DevId × PortNo). x.1.0) (peer_in rows from.0.0 from.1.0) rx is in
      record { from = from; far = far; at = at; over = sym (index.peers from.0.0 from.1.0) ∙ over; is = sym same }

  rx_cases : (device rx : ℕ) → rx_port_of (peer_in rows) parents demand.provider.0 device ≡ Some rx →
      ((device ≡ demand.provider.0) × (rx ≡ 0)) ⊎ ((device ≢ demand.provider.0) × ComesOver plant parents device rx)
  rx_cases device rx is = elim (cases_Bool (device == demand.provider.0)) [
    | inl own ↦ inl (eqb-true device demand.provider.0 own, same_Some rx 0 (sym is ∙ cond-true (device == demand.provider.0) _ _ own))
    | inr other ↦ inr (
      λ own. both_ways _ other (eq-eqb device demand.provider.0 own),
      rx_from device rx (parent_at parents device) refl (sym (cond-false (device == demand.provider.0) _ _ other) ∙ is),
    )
  ]

  pub off_tree : (device : ℕ) → rx_port_of (peer_in rows) parents demand.provider.0 device ≡ None → ¬ IsOn demand parents device
  off_tree device is (inl own) = no_entry 0 (sym is ∙ cond-true (device == demand.provider.0) (Some 0) _ (eq-eqb device demand.provider.0 own))
  off_tree device is (inr (from, at)) = elim (cases_Bool (device == demand.provider.0)) [
    | inl own ↦ no_entry 0 (sym is ∙ cond-true (device == demand.provider.0) (Some 0) _ own)
    | inr other ↦
        let step = (step_of plant parents demand tree device from at).step.step in
        no_entry step.far.1.0 (sym is ∙ cond-false (device == demand.provider.0) _ _ other
        ∙ ap (λ (o : Option (DevId × PortNo)). option_and_then (λ (x : DevId × PortNo). option_map (λ (far : DevId × PortNo). far.1.0) (peer_in rows x.0.0 x.1.0)) o) at
        ∙ ap (λ (o : Option (DevId × PortNo)). option_map (λ (far : DevId × PortNo). far.1.0) o) (index.peers from.0.0 from.1.0 ∙ step.over))
  ]

  -- the far end of the parent's port is a port of the device
  received_over : (device rx : ℕ) (e : Entry) → e.rx_port ≡ rx → (came : ComesOver plant parents device rx) → (from : DevId × PortNo) → parent_at parents device ≡ Some from →
      IsReceivedFrom plant device e from
  received_over device rx e port came from at =
      let step = (step_of plant parents demand tree device from at).step.step in
      let same : came.from ≡ from = same_Some came.from from (sym came.at ∙ at) in
      let over : peer_of plant from.0.0 from.1.0 ≡ Some came.far = subst (λ (x : DevId × PortNo). peer_of plant x.0.0 x.1.0 ≡ Some came.far) same came.over in
      let one : step.far ≡ came.far = same_Some step.far came.far (sym step.over ∙ over) in
      let there : came.far.0.0 ≡ device = ap (λ (x : DevId × PortNo). x.0.0) (sym one) ∙ step.there in
      let by : came.far.1.0 ≡ e.rx_port = sym came.is ∙ sym port in
      let back = both from.0.0 from.1.0 came.far.0.0 came.far.1.0 over in
      let low = from_one plant rules came.far.0.0 came.far.1.0 (record { 0 = from.0.0 }, record { 0 = from.1.0 }) back in
      record { from_one = omega (arith, low, by); leads = over ∙ (λ i. Some (record { 0 = there i }, record { 0 = by i })) }

  sent_is : (device port : ℕ) → IsSentBy parents device port → (port < 8) × (is_sent_over (peer_in rows) parents device port ≡ true)
  sent_is device port (child, at) =
      let step = (step_of plant parents demand tree child (record { 0 = device }, record { 0 = port }) at).step.step in
      let within = index.within device port step.far step.over in (
        omega (arith, within.1),
        ap (λ (o : Option (DevId × PortNo)). option_map_or (λ (far : DevId × PortNo). is_parent_of parents device port far.0.0) o false)
            (index.peers device port ∙ step.over)
            ∙ ap (is_parent_of parents device port) step.there
            ∙ ap (λ (o : Option (DevId × PortNo)). option_map_or (λ (from : DevId × PortNo). (from.0.0 == device) && (from.1.0 == port)) o false) at
            ∙ and_from _ _ (eq-eqb device device refl) (eq-eqb port port refl),
      )

  pub made_entry : (device rx tx : ℕ) (kept : Bool) → rx_port_of (peer_in rows) parents demand.provider.0 device ≡ Some rx → (IsTrue kept ↔ Consumes demand device) →
      ((bit : ℕ) → IsBitSet tx bit ↔ IsTxBit (peer_in rows) parents device kept bit) → tx < 2 ^ 8 →
      IsEntryOf plant parents demand 1 1 device
      (record { send_offset = 0; data_length = demand.length; ratio = 1; phase = 1; frame = demand.frame; rx_port = rx; tx = tx })
  made_entry device rx tx kept is keeps bits small =
      let e : Entry = record { send_offset = 0; data_length = demand.length; ratio = 1; phase = 1; frame = demand.frame; rx_port = rx; tx = tx } in
      let cases = rx_cases device rx is in record {
        on = elim cases [ inl own ↦ inl own.0 | inr came ↦ inr (came.1.from, came.1.at) ];
        frame = refl;
        length = refl;
        ratio_is = refl;
        phase_is = refl;
        provided = λ own. elim cases [ inl here ↦ here.1 | inr came ↦ absurd (came.0 own) ];
        received = λ from at. elim cases [
          | inl here ↦ absurd (none from (subst (IsStepOf plant demand from) here.0 (step_of plant parents demand tree device from at)))
          | inr came ↦ received_over device rx e refl came.1 from at
        ];
        sent = λ port one. (
          λ set. elim ((bits port).0 set) [
            | inl zeroth ↦ absurd (omega (arith, zeroth.0, one))
            | inr sent ↦ sent_child parents device port (peer_in rows device port) sent.2
          ],
          λ sent. (let here = sent_is device port sent in (bits port).1 (inr (one, here.0, here.1))),
        );
        kept = (
          λ set. elim ((bits 0).0 set) [ inl zeroth ↦ keeps.0 zeroth.1 | inr sent ↦ absurd (omega (arith, sent.0)) ],
          λ consumes. (bits 0).1 (inl (refl, keeps.1 consumes)),
        );
        small = small;
      }

module _ (plant : Plant) (parents : Parents) (demand : Demand) (rows : List (List (Option Wire))) (index : IsIndexOf plant rows)
    (tree : IsTreeOf (peer_of plant) demand parents) (valid : IsDemand plant demand) where
  pub on_within : (device : ℕ) → IsOn demand parents device → device < length plant.devices
  on_within device (inl own) = subst (λ n. n < length plant.devices) (sym own) valid.provider
  on_within device (inr (from, at)) =
      let step = (step_of plant parents demand tree device from at).step.step in
      subst (λ n. n < length plant.devices) step.there (index.within from.0.0 from.1.0 step.far step.over).2

  module _ (entries : List (Option Entry)) (count : length entries ≡ length plant.devices)
      (each : (k : ℕ) → k < length plant.devices → IsTreeEntryAt plant parents demand k (get_or entries k None)) where
    there : (device : ℕ) (e : Entry) → get_or entries device None ≡ Some e → IsTreeEntryAt plant parents demand device (Some e)
    there device e is =
        subst (IsTreeEntryAt plant parents demand device) is (each device (omega (arith, read_within entries device e is, count)))

    full_at : (device : ℕ) → IsOn demand parents device → (o : Option Entry) → get_or entries device None ≡ o → IsTreeEntryAt plant parents demand device o →
        (e : Entry) × (get_or entries device None ≡ Some e)
    full_at device on None is off = absurd (off on)
    full_at device on (Some e) is entry = (e, is)

    pub base_made : IsBase plant parents demand (record { frame = demand.frame; entries = entries })
    base_made = record {
      shape = record {
        frame = refl;
        count = count;
        each = λ device e is. (there device e is).0;
        full = λ device on. full_at device on (get_or entries device None) refl (each device (on_within device on));
        idle = λ device e is idle. (there device e is).1;
      };
      zero = λ device e is. (there device e is).1;
    }

-- one device more
pub each_more : (P : ℕ → Option Entry → Type 0) (xs : List (Option Entry)) (n : ℕ) (x : Option Entry) → length xs ≡ n → ((k : ℕ) → k < n → P k (get_or xs k None)) → P n x →
    (k : ℕ) → k < n + 1 → P k (get_or (xs ++ x ∷ []) k None)
each_more P xs n x count old new k less = elim (cases_lt k n) [
  | inl before ↦ subst (P k) (sym (get_or_append_left xs (x ∷ []) None k (omega (arith, before, count)))) (old k before)
  | inr more ↦
      let here : n ≡ k = omega (arith, less, more) in
      subst (P k) (sym (get_or_push xs x None k (count ∙ here))) (subst (λ j. P j x) here new)
]
