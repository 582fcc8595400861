-- Slots of a frame, sending by sending and phase by phase.
use Rattle.std.proofs.Common.{◌≡◌, ◌+◌, ◌<◌, ◌⊎◌, ℕ, inl, inr, List, length, get_or, sym, ◌∙◌, ap, subst, arith}
use Rattle.std.specs.Prelude.{All}
use Rattle.std.proofs.lemmas.Bool.{cases_eq}
use Rattle.std.proofs.lemmas.List.{get_or_default}
use Rattle.std.proofs.lemmas.List.Elements.{Contains-get_or}
use Rattle.irt_base.specs.Cycle.{IsDue}
use Rattle.irt_base.specs.declared.limits.TheConstants.{PHASES}
use Rattle.gap_table.specs.Slots.{IsClear}
use Rattle.gap_table.specs.declared.slot.Slot.{Slot}
use Rattle.placement.specs.Layouts.{IsLayout, offset_at, slot_of}
use Rattle.placement.specs.Tables.{IsPlace, IsHere, Adds, table_at}
use Rattle.placement.specs.Records.{AreClearSlots, IsDueSlot, IsFrameSlot}
use Rattle.placement.specs.declared.layout.Layout.{Layout}
use Rattle.placement.specs.declared.layout.Rate.{Rate}
use Rattle.placement.specs.declared.layout.Sending.{Sending}

abbrev Added : Type 1
Added = ℕ → ℕ → ℕ → Slot → Type 0

-- two additions are one
adds_both : (P Q R : Added) (old mid new : List (List Slot)) → Adds P old mid → Adds Q mid new →
    ((d p k : ℕ) (s : Slot) → P d p k s → R d p k s) → ((d p k : ℕ) (s : Slot) → Q d p k s → R d p k s) →
    ((d p k : ℕ) (s : Slot) → R d p k s → P d p k s ⊎ Q d p k s) → Adds R old new
adds_both P Q R old mid new first second left right parts = record {
  only = λ d p k s there has. elim (second.only d p k s there has) [
    | inl before ↦ elim (first.only d p k s there before) [
      | inl older ↦ inl older
      | inr one ↦ inr (left d p k s one)
    ]
    | inr two ↦ inr (right d p k s two)
  ];
  keeps = λ d p k s there has. second.keeps d p k s there (first.keeps d p k s there has);
  adds = λ d p k s there is. elim (parts d p k s is) [
    | inl one ↦ second.keeps d p k s there (first.adds d p k s there one)
    | inr two ↦ second.adds d p k s there two
  ];
}

adds_none : (P : Added) (tables : List (List Slot)) → ((d p k : ℕ) (s : Slot) → ¬ P d p k s) → Adds P tables tables
adds_none P tables none = record {
  only = λ d p k s there has. inl has;
  keeps = λ d p k s there has. has;
  adds = λ d p k s there is. absurd (none d p k s is);
}

-- what holds of all in one table and of none that was added holds of all in the new one
still_all : (P : Added) (old new : List (List Slot)) (H : Slot → Type 0) (d p k : ℕ) → IsPlace d p k → Adds P old new →
    ((s : Slot) → ¬ P d p k s) → All H (table_at old d p k) → All H (table_at new d p k)
still_all P old new H d p k there adds other all n e inside =
    let s : Slot = get_or (table_at new d p k) n e in
    elim (adds.only d p k s there (Contains-get_or (table_at new d p k) n e inside)) [
      | inl has ↦ subst H has.2 (all has.0 s has.1)
      | inr added ↦ absurd (other s added)
    ]

module _ (rate : Rate) (sending : Sending) (slot : Slot) (old : List (List Slot)) where
  pub no_phase : Adds (IsDueSlot rate sending slot 0) old old
  no_phase = adds_none (IsDueSlot rate sending slot 0) old (λ d p k s is. absurd (omega (arith, is.before)))

  pub off_phase : (k : ℕ) (new : List (List Slot)) → ¬ IsDue k rate.ratio rate.phase → Adds (IsDueSlot rate sending slot k) old new →
      Adds (IsDueSlot rate sending slot (k + 1)) old new
  off_phase k new off adds = adds_both (IsDueSlot rate sending slot k) (IsDueSlot rate sending slot k) (IsDueSlot rate sending slot (k + 1)) old new new adds
      (record { only = λ d p j s there has. inl has; keeps = λ d p j s there has. has; adds = λ d p j s there is. adds.adds d p j s there is })
      more more (λ d p j s is. inl (less d p j s is))
    where
      more : (d p j : ℕ) (s : Slot) → IsDueSlot rate sending slot k d p j s → IsDueSlot rate sending slot (k + 1) d p j s
      more d p j s is = record { device_is = is.device_is; port_is = is.port_is; before = omega (arith, is.before); due = is.due; slot_is = is.slot_is }

      less : (d p j : ℕ) (s : Slot) → IsDueSlot rate sending slot (k + 1) d p j s → IsDueSlot rate sending slot k d p j s
      less d p j s is = elim (cases_eq j k) [
        | inl same ↦ absurd (off (subst (λ (n : ℕ). IsDue n rate.ratio rate.phase) same is.due))
        | inr other ↦ record { device_is = is.device_is; port_is = is.port_is; before = omega (arith, is.before, other); due = is.due; slot_is = is.slot_is }
      ]

  pub on_phase : (k : ℕ) (mid new : List (List Slot)) → IsDue k rate.ratio rate.phase → Adds (IsDueSlot rate sending slot k) old mid →
      Adds (IsHere sending.device.0 sending.port.0 k slot) mid new → Adds (IsDueSlot rate sending slot (k + 1)) old new
  on_phase k mid new due first second = adds_both (IsDueSlot rate sending slot k) (IsHere sending.device.0 sending.port.0 k slot)
      (IsDueSlot rate sending slot (k + 1)) old mid new first second
      (λ d p j s is. record { device_is = is.device_is; port_is = is.port_is; before = omega (arith, is.before); due = is.due; slot_is = is.slot_is })
      (λ d p j s is. record {
        device_is = is.device_is;
        port_is = is.port_is;
        before = omega (arith, is.phase_is);
        due = subst (λ (n : ℕ). IsDue n rate.ratio rate.phase) (sym is.phase_is) due;
        slot_is = is.slot_is;
      })
      (λ d p j s is. elim (cases_eq j k) [
        | inl same ↦ inr (record { device_is = is.device_is; port_is = is.port_is; phase_is = same; slot_is = is.slot_is })
        | inr other ↦ inl (record { device_is = is.device_is; port_is = is.port_is; before = omega (arith, is.before, other); due = is.due; slot_is = is.slot_is })
      ])

  pub clear_before : (k : ℕ) (mid : List (List Slot)) → IsPlace sending.device.0 sending.port.0 k → Adds (IsDueSlot rate sending slot k) old mid →
      All (IsClear 0 slot) (table_at old sending.device.0 sending.port.0 k) → All (IsClear 0 slot) (table_at mid sending.device.0 sending.port.0 k)
  clear_before k mid there adds all = still_all (IsDueSlot rate sending slot k) old mid (IsClear 0 slot) sending.device.0 sending.port.0 k there adds
      (λ s is. absurd (omega (arith, is.before))) all

-- the slots of the sendings before a place
pub record IsSlotBefore (rate : Rate) (layout : Layout) (offsets : List ℕ) (below device port k : ℕ) (s : Slot) : Type 0 where
  pub place : ℕ
  pub sending : Sending
  pub before : place < below
  pub inside : place < length layout.sendings
  pub has : get_or layout.sendings place sending ≡ sending
  pub is : IsDueSlot rate sending (slot_of layout.wire sending (offset_at offsets sending.anchor.0)) PHASES device port k s

abbrev pub slot_at : Layout → List ℕ → Sending → Slot
slot_at layout offsets s = slot_of layout.wire s (offset_at offsets s.anchor.0)

module _ (rate : Rate) (layout : Layout) (offsets : List ℕ) (old : List (List Slot)) (valid : IsLayout layout) where
  pub no_slot : Adds (IsSlotBefore rate layout offsets 0) old old
  no_slot = adds_none (IsSlotBefore rate layout offsets 0) old (λ d p k s is. absurd (omega (arith, is.before)))

  pub clear_slots : (n : ℕ) (e : Sending) (mid : List (List Slot)) → n < length layout.sendings → AreClearSlots rate layout offsets old →
      Adds (IsSlotBefore rate layout offsets n) old mid → (k : ℕ) → k < PHASES → IsDue k rate.ratio rate.phase →
      All (IsClear 0 (slot_at layout offsets (get_or layout.sendings n e)))
      (table_at mid (get_or layout.sendings n e).device.0 (get_or layout.sendings n e).port.0 k)
  clear_slots n e mid inside clear adds k below due =
      let s : Sending = get_or layout.sendings n e in
      let own = valid.sendings n e inside in
      still_all (IsSlotBefore rate layout offsets n) old mid (IsClear 0 (slot_at layout offsets s)) s.device.0 s.port.0 k
      (record { device_in = own.device; port_in = own.port; phase_in = below }) adds
      (λ x is.
      let apart = valid.directions is.place n is.sending is.before inside in
      let first : (get_or layout.sendings is.place is.sending).device.0 ≡ s.device.0 = ap (λ (y : Sending). y.device.0) is.has ∙ sym is.is.device_is in
      let second : (get_or layout.sendings is.place is.sending).port.0 ≡ s.port.0 = ap (λ (y : Sending). y.port.0) is.has ∙ sym is.is.port_is in
      let one : get_or layout.sendings n is.sending ≡ s = get_or_default layout.sendings n is.sending e inside in
      elim apart [
        | inl devices ↦ devices (first ∙ sym (ap (λ (y : Sending). y.device.0) one))
        | inr ports ↦ ports (second ∙ sym (ap (λ (y : Sending). y.port.0) one))
      ])
      (clear s (Contains-get_or layout.sendings n e inside) k below due)

  pub one_more : (n : ℕ) (e : Sending) (mid new : List (List Slot)) → n < length layout.sendings → Adds (IsSlotBefore rate layout offsets n) old mid →
      Adds (IsDueSlot rate (get_or layout.sendings n e) (slot_at layout offsets (get_or layout.sendings n e)) PHASES) mid new →
      Adds (IsSlotBefore rate layout offsets (n + 1)) old new
  one_more n e mid new inside first second =
      adds_both (IsSlotBefore rate layout offsets n)
      (IsDueSlot rate (get_or layout.sendings n e) (slot_at layout offsets (get_or layout.sendings n e)) PHASES)
      (IsSlotBefore rate layout offsets (n + 1)) old mid new first second
      (λ d p k s is. record { place = is.place; sending = is.sending; before = omega (arith, is.before); inside = is.inside; has = is.has; is = is.is })
      (λ d p k s is. record {
        place = n;
        sending = get_or layout.sendings n e;
        before = omega arith;
        inside = inside;
        has = get_or_default layout.sendings n (get_or layout.sendings n e) e inside;
        is = is;
      })
      (λ d p k s is. elim (cases_eq is.place n) [
        | inl same ↦
            let one : is.sending ≡ get_or layout.sendings n e =
            sym is.has ∙ ap (λ (m : ℕ). get_or layout.sendings m is.sending) same ∙ get_or_default layout.sendings n is.sending e inside in
            inr (subst (λ (x : Sending). IsDueSlot rate x (slot_at layout offsets x) PHASES d p k s) one is.is)
        | inr other ↦ inl (record { place = is.place; sending = is.sending; before = omega (arith, is.before, other); inside = is.inside; has = is.has; is = is.is })
      ])

  pub all_slots : (new : List (List Slot)) → Adds (IsSlotBefore rate layout offsets (length layout.sendings)) old new → Adds (IsFrameSlot rate layout offsets) old new
  all_slots new adds = record {
    only = λ d p k s there has. elim (adds.only d p k s there has) [
      | inl before ↦ inl before
      | inr is ↦ inr (record { sending = is.sending; has = (is.place, is.inside, is.has); is = is.is })
    ];
    keeps = adds.keeps;
    adds = λ d p k s there is.
        adds.adds d p k s there (record { place = is.has.0; sending = is.sending; before = is.has.1; inside = is.has.1; has = is.has.2; is = is.is });
  }
