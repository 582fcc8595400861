-- The offsets of anchors, and entries by them.
use Rattle.std.proofs.Common.{◌≡◌, ◌≢◌, ℕ, zero, suc, ◌+◌, ◌<◌, inl, inr, List, [], ◌∷◌, ◌++◌, Option, None, length, get_or, set, replicate, sym, ◌∙◌, ap, arith, refl, length-append}
use Rattle.std.specs.Prelude.{slice_index_or}
use Rattle.std.proofs.lemmas.Bool.{cases_eq, cases_lt}
use Rattle.std.proofs.lemmas.List.{length-set, get_or-set_same, get_or-set_other, get_or_past, get_or_default}
use Rattle.irt_base.specs.declared.limits.TheConstants.{MAX_DEVICES}
use Rattle.irt_base.specs.declared.blocks.Entry.{Entry}
use Rattle.placement.specs.Layouts.{offset_at}
use Rattle.placement.specs.declared.layout.Anchor.{Anchor}
use Rattle.placement.specs.declared.layout.Rate.{Rate}
use Rattle.planner.specs.Placed.{placed_entry, AreAnchorOffsets, ArePlacedEntries}

-- the offsets of the anchors before a place
pub record AreKeptBelow (anchors : List Anchor) (offsets : List ℕ) (below : ℕ) (kept : List ℕ) : Type 0 where
  pub long : length kept ≡ MAX_DEVICES
  pub at : (n : ℕ) (a : Anchor) → n < below → n < length anchors → get_or anchors n a ≡ a → offset_at kept a.device.0 ≡ offset_at offsets a.device.0
  pub else : (device : ℕ) → ((n : ℕ) (a : Anchor) → n < below → n < length anchors → get_or anchors n a ≡ a → a.device.0 ≢ device) → offset_at kept device ≡ 0

zeros : (n device : ℕ) → offset_at (replicate n 0) device ≡ 0
zeros zero device = refl
zeros (suc n) zero = refl
zeros (suc n) (suc device) = zeros n device

module _ (anchors : List Anchor) (offsets : List ℕ) where
  pub none_kept : AreKeptBelow anchors offsets 0 (replicate 64 0)
  none_kept = record { long = refl; at = λ n a below there same. absurd (omega (arith, below)); else = λ device none. zeros 64 device }

  pub one_kept : (n : ℕ) (e : Anchor) (kept : List ℕ) (value : ℕ) → n < length anchors → (get_or anchors n e).device.0 < MAX_DEVICES →
      value ≡ offset_at offsets (get_or anchors n e).device.0 → AreKeptBelow anchors offsets n kept →
      AreKeptBelow anchors offsets (n + 1) (set kept (get_or anchors n e).device.0 value)
  one_kept n e kept value inside small is before = record {
    long = length-set kept own.device.0 value ∙ before.long;
    at = λ m a below there same. elim (cases_eq a.device.0 own.device.0) [
      | inl one ↦ ap (offset_at (set kept own.device.0 value)) one ∙ here ∙ is ∙ ap (offset_at offsets) (sym one)
      | inr other ↦
          elim (cases_eq m n) [
            | inl last ↦
                let its : a ≡ own = sym same ∙ ap (λ (i : ℕ). get_or anchors i a) last ∙ get_or_default anchors n a e inside in
                absurd (other (ap (λ (x : Anchor). x.device.0) its))
            | inr early ↦ get_or-set_other kept own.device.0 a.device.0 value 0 other ∙ before.at m a (omega (arith, below, early)) there same
          ]
    ];
    else = λ device none.
        let apart : own.device.0 ≢ device = none n own (omega arith) inside (get_or_default anchors n own e inside) in
        get_or-set_other kept own.device.0 device value 0 (λ is. apart (sym is))
        ∙ before.else device (λ m a below there same. none m a (omega (arith, below)) there same);
  }
    where
      own : Anchor
      own = get_or anchors n e

      here : offset_at (set kept own.device.0 value) own.device.0 ≡ value
      here = get_or-set_same kept own.device.0 value 0 (omega (arith, small, before.long))

  pub all_kept : (n : ℕ) (kept : List ℕ) → n ≡ length anchors → AreKeptBelow anchors offsets n kept → AreAnchorOffsets anchors offsets kept
  all_kept n kept all below = record {
    at = λ a has. below.at has.0 a (omega (arith, has.1, all)) has.1 has.2;
    else = λ device none. below.else device (λ m a less there same. none a (m, there, same));
  }

-- the entries before a place
pub record AreEntriesBelow (rate : Rate) (offsets : List ℕ) (entries : List (Option Entry)) (below : ℕ) (placed : List (Option Entry)) : Type 0 where
  pub count : length placed ≡ below
  pub each : (device : ℕ) → device < below → slice_index_or placed device None ≡ placed_entry rate (offset_at offsets device) (slice_index_or entries device None)

read_front : {X : Type 0} (xs : List X) (y d : X) (n : ℕ) → n < length xs → get_or (xs ++ y ∷ []) n d ≡ get_or xs n d
read_front [] y d n less = absurd (omega arith)
read_front (x ∷ xs) y d zero less = refl
read_front (x ∷ xs) y d (suc n) less = read_front xs y d n (omega arith)

read_end : {X : Type 0} (xs : List X) (y d : X) (n : ℕ) → n ≡ length xs → get_or (xs ++ y ∷ []) n d ≡ y
read_end [] y d n is = ap (λ (i : ℕ). get_or (y ∷ []) i d) is
read_end (x ∷ xs) y d zero is = absurd (omega arith)
read_end (x ∷ xs) y d (suc n) is = read_end xs y d n (omega arith)

module _ (rate : Rate) (offsets : List ℕ) (entries : List (Option Entry)) where
  pub one_entry : (n : ℕ) (placed : List (Option Entry)) (e : Option Entry) (offset : ℕ) → offset ≡ offset_at offsets n →
      e ≡ placed_entry rate offset (slice_index_or entries n None) →
      AreEntriesBelow rate offsets entries n placed → AreEntriesBelow rate offsets entries (n + 1) (placed ++ e ∷ [])
  one_entry n placed e offset at is before = record {
    count = length-append placed (e ∷ []) ∙ ap (λ (m : ℕ). m + 1) before.count;
    each = λ device less. elim (cases_eq device n) [
      | inl last ↦
          read_end placed e None device (omega (arith, last, before.count)) ∙ is ∙ ap (λ (x : ℕ). placed_entry rate x (slice_index_or entries n None)) at
          ∙ ap (λ (m : ℕ). placed_entry rate (offset_at offsets m) (slice_index_or entries m None)) (sym last)
      | inr early ↦
          let below : device < n = omega (arith, less, early) in
          read_front placed e None device (omega (arith, below, before.count)) ∙ before.each device below
    ];
  }

  pub all_entries : (n : ℕ) (placed : List (Option Entry)) → n ≡ length entries → AreEntriesBelow rate offsets entries n placed →
      ArePlacedEntries rate offsets entries placed
  all_entries n placed all below = record {
    count = below.count ∙ all;
    each = λ device. elim (cases_lt device n) [
      | inl less ↦ below.each device less
      | inr past ↦
          get_or_past placed device None (omega (arith, past, below.count))
          ∙ sym (ap (placed_entry rate (offset_at offsets device)) (get_or_past entries device None (omega (arith, past, all))))
    ];
  }
