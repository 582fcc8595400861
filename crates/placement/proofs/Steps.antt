-- One step of each loop of the search.
use Rattle.std.proofs.Common.{◌≡◌, ◌+◌, ◌<◌, ◌≤◌, ℕ, inl, inr, List, length, get_or, sym, ◌∙◌, ap, subst, arith}
use Rattle.std.specs.Prelude.{All, Contains}
use Rattle.std.proofs.lemmas.Bool.{cases_lt, cases_eq}
use Rattle.std.proofs.lemmas.List.{get_or_default}
use Rattle.std.proofs.lemmas.List.Elements.{Contains-get_or}
use Rattle.irt_base.specs.Cycle.{IsDue}
use Rattle.irt_base.specs.declared.limits.TheConstants.{PHASES}
use Rattle.gap_table.specs.Slots.{IsClear}
use Rattle.gap_table.specs.declared.slot.Slot.{Slot}
use Rattle.placement.specs.Layouts.{slot_of, end_of}
use Rattle.placement.specs.Tables.{table_at}
use Rattle.placement.specs.Placings.{IsFree, IsOpen}
use Rattle.placement.specs.Searches.{EndInRed, IsBehindTable, IsBehind, IsBehindAll}
use Rattle.placement.specs.declared.search.TheConstants.{MAX_OFFSET}
use Rattle.placement.specs.declared.layout.Layout.{Layout}
use Rattle.placement.specs.declared.layout.Limits.{Limits}
use Rattle.placement.specs.declared.layout.Rate.{Rate}
use Rattle.placement.specs.declared.layout.Sending.{Sending}

-- the tables of the phases before one are done
pub record IsBehindSome (limits : Limits) (rate : Rate) (wire : ℕ) (tables : List (List Slot)) (s : Sending) (below offset next : ℕ) : Type 0 where
  pub reached : offset ≤ next
  pub small : next ≤ MAX_OFFSET
  pub skipped : (x : ℕ) → offset ≤ x → x < next → ¬ IsFree limits rate wire tables s x
  pub clear : next ≡ offset → (k : ℕ) → k < below → IsDue k rate.ratio rate.phase →
      All (IsClear limits.guard (slot_of wire s offset)) (table_at tables s.device.0 s.port.0 k)

-- the sendings before a place are done
pub record IsBehindFirst (limits : Limits) (rate : Rate) (layout : Layout) (tables : List (List Slot)) (anchor below offset next : ℕ) : Type 0 where
  pub reached : offset ≤ next
  pub small : next ≤ MAX_OFFSET
  pub skipped : (x : ℕ) → offset ≤ x → x < next → ¬ IsOpen limits rate layout tables anchor x
  pub clear : next ≡ offset → (k : ℕ) (d : Sending) → k < below → (get_or layout.sendings k d).anchor.0 ≡ anchor →
      IsFree limits rate layout.wire tables (get_or layout.sendings k d) offset

module _ (limits : Limits) (rate : Rate) (wire : ℕ) (tables : List (List Slot)) (s : Sending) where
  pub no_table : (offset : ℕ) → offset ≤ MAX_OFFSET → IsBehindSome limits rate wire tables s 0 offset offset
  no_table offset small = record {
    reached = omega arith;
    small = small;
    skipped = λ x past before. absurd (omega (arith, past, before));
    clear = λ same k below due. absurd (omega (arith, below));
  }

  pub not_due : (k offset at : ℕ) → ¬ IsDue k rate.ratio rate.phase → IsBehindSome limits rate wire tables s k offset at →
      IsBehindSome limits rate wire tables s (k + 1) offset at
  not_due k offset at off b = record {
    reached = b.reached;
    small = b.small;
    skipped = b.skipped;
    clear = λ same j below due. elim (cases_eq j k) [
      | inl is ↦ absurd (off (subst (λ (n : ℕ). IsDue n rate.ratio rate.phase) is due))
      | inr other ↦ b.clear same j (omega (arith, below, other)) due
    ];
  }

  pub one_table : (k offset at next : ℕ) → k < PHASES → IsDue k rate.ratio rate.phase → IsBehindSome limits rate wire tables s k offset at →
      IsBehindTable limits.guard wire (table_at tables s.device.0 s.port.0 k) s at next → IsBehindSome limits rate wire tables s (k + 1) offset next
  one_table k offset at next inside due b t = record {
    reached = omega (arith, b.reached, t.reached);
    small = t.small;
    skipped = λ x past before free. elim (cases_lt x at) [
      | inl early ↦ b.skipped x past early free
      | inr late ↦ t.skipped x late before (free k inside due)
    ];
    clear = λ same j below is_due.
        let stays : at ≡ offset = omega (arith, same, b.reached, t.reached) in
        let still : next ≡ at = omega (arith, same, stays) in
        elim (cases_eq j k) [
          | inl is ↦
              subst (λ (n : ℕ). All (IsClear limits.guard (slot_of wire s offset)) (table_at tables s.device.0 s.port.0 n)) (sym is)
              (subst (λ (n : ℕ). All (IsClear limits.guard (slot_of wire s n)) (table_at tables s.device.0 s.port.0 k)) stays (t.clear still))
          | inr other ↦ b.clear stays j (omega (arith, below, other)) is_due
        ];
  }

  pub all_tables : (offset next : ℕ) → IsBehindSome limits rate wire tables s PHASES offset next → IsBehind limits rate wire tables s offset next
  all_tables offset next b = record { reached = b.reached; small = b.small; skipped = b.skipped; clear = b.clear }

module _ (limits : Limits) (rate : Rate) (layout : Layout) (tables : List (List Slot)) (anchor : ℕ) where
  pub no_sending : (offset : ℕ) → offset ≤ MAX_OFFSET → IsBehindFirst limits rate layout tables anchor 0 offset offset
  no_sending offset small = record {
    reached = omega arith;
    small = small;
    skipped = λ x past before. absurd (omega (arith, past, before));
    clear = λ same k d below is. absurd (omega (arith, below));
  }

  pub not_hanging : (n offset at : ℕ) (e : Sending) → n < length layout.sendings → ¬ ((get_or layout.sendings n e).anchor.0 ≡ anchor) →
      IsBehindFirst limits rate layout tables anchor n offset at → IsBehindFirst limits rate layout tables anchor (n + 1) offset at
  not_hanging n offset at e inside off b = record {
    reached = b.reached;
    small = b.small;
    skipped = b.skipped;
    clear = λ same k d below is. elim (cases_eq k n) [
      | inl here ↦ absurd (off (subst (λ (x : Sending). x.anchor.0 ≡ anchor) (ap (λ (m : ℕ). get_or layout.sendings m d) here ∙ get_or_default layout.sendings n d e inside) is))
      | inr other ↦ b.clear same k d (omega (arith, below, other)) is
    ];
  }

  pub one_sending : (n offset at next : ℕ) (e : Sending) → n < length layout.sendings → (get_or layout.sendings n e).anchor.0 ≡ anchor →
      IsBehindFirst limits rate layout tables anchor n offset at →
      IsBehind limits rate layout.wire tables (get_or layout.sendings n e) at next → IsBehindFirst limits rate layout tables anchor (n + 1) offset next
  one_sending n offset at next e inside hangs b t = record {
    reached = omega (arith, b.reached, t.reached);
    small = t.small;
    skipped = λ x past before opened. elim (cases_lt x at) [
      | inl early ↦ b.skipped x past early opened
      | inr late ↦ t.skipped x late before (opened (get_or layout.sendings n e) (Contains-get_or layout.sendings n e inside) hangs).free
    ];
    clear = λ same k d below is.
        let stays : at ≡ offset = omega (arith, same, b.reached, t.reached) in
        let still : next ≡ at = omega (arith, same, stays) in
        elim (cases_eq k n) [
          | inl here ↦
              subst (λ (x : Sending). IsFree limits rate layout.wire tables x offset)
              (sym (ap (λ (m : ℕ). get_or layout.sendings m d) here ∙ get_or_default layout.sendings n d e inside))
              (subst (λ (m : ℕ). IsFree limits rate layout.wire tables (get_or layout.sendings n e) m) stays (t.clear still))
          | inr other ↦ b.clear stays k d (omega (arith, below, other)) is
        ];
  }

  pub all_sendings : (offset next : ℕ) → IsBehindFirst limits rate layout tables anchor (length layout.sendings) offset next →
      IsBehindAll limits rate layout tables anchor offset next
  all_sendings offset next b = record {
    reached = b.reached;
    small = b.small;
    skipped = b.skipped;
    clear = λ same s has hangs.
        subst (λ (x : Sending). IsFree limits rate layout.wire tables x offset) has.2
        (b.clear same has.0 s has.1 (subst (λ (x : Sending). x.anchor.0 ≡ anchor) (sym has.2) hangs));
  }

  -- what ends too late does so at all later offsets
  pub later_ends : (offset x : ℕ) → offset ≤ x → IsOpen limits rate layout tables anchor x → EndInRed limits layout anchor offset
  later_ends offset x past opened s has hangs =
      let red : end_of limits layout.wire s x ≤ limits.red_max = (opened s has hangs).red in
      let less : end_of limits layout.wire s offset ≤ end_of limits layout.wire s x = omega (arith, past) in
      omega (arith, red, less)

  pub opens : (offset : ℕ) → EndInRed limits layout anchor offset →
      ((s : Sending) → Contains layout.sendings s → s.anchor.0 ≡ anchor → IsFree limits rate layout.wire tables s offset) →
      IsOpen limits rate layout tables anchor offset
  opens offset ends free s has hangs = record { red = ends s has hangs; free = free s has hangs }
