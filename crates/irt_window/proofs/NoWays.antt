-- A table in which no entry has a way.
use Rattle.std.proofs.Common.{◌≡◌, ◌<◌, ◌≤◌, ◌+◌, ◌*◌, ℕ, suc, inl, inr, List, [], ◌∷◌, ◌++◌, Option, Some, None, length, get_or, map, take, replicate, slice_get, sum_by, refl, sym, ◌∙◌, ap, subst, arith}
use Rattle.std.proofs.lemmas.Bool.{cases_lt}
use Rattle.std.proofs.lemmas.List.{get_or-replicate, get_or_past, length-map, length-replicate, map_more}
use Rattle.std.proofs.lemmas.List.Folds.{sum_by-replicate}
use Rattle.std.proofs.lemmas.List.Sums.{sum_by-cons, sum_by_more}
use Rattle.std.proofs.lemmas.Option.{none-some, slice_get-map, slice_get_read, get_or_from_slice_get}
use Rattle.irt_base.specs.Valid.{IsBundle}
use Rattle.irt_base.specs.declared.blocks.Bundle.{Bundle}
use Rattle.irt_base.specs.declared.plants.Plant.{Plant}
use Rattle.plan_rules.specs.Plan.{IsPlan}
use Rattle.plan_rules.specs.declared.way.Way.{Way}
use Rattle.irt_window.specs.Marks.{way_in, open_of, open_in, AreMarks, AreNoMarks}
use Rattle.irt_window.specs.Plans.{AreFew}
use Rattle.irt_window.specs.declared.marks.Marks.{Marks}
use Rattle.irt_window.specs.declared.net.Net.{Net}
use Rattle.irt_window.proofs.Places.{each_bundle}

abbrev pub no_row : Bundle → List (Option Way)
no_row b = replicate (length b.frames.entries) None

row_at : (bundles : List Bundle) (device : ℕ) (b : Bundle) → slice_get bundles device ≡ Some b → get_or (map no_row bundles) device [] ≡ no_row b
row_at bundles device b held =
    get_or_from_slice_get (map no_row bundles) device (no_row b) [] (rw (slice_get-map no_row bundles device, held) refl)

all_none : (count n : ℕ) → get_or (replicate count (let none : Option Way = None in none)) n None ≡ None
all_none count n =
    let none : Option Way = None in
    elim (cases_lt n count) [
      | inl within ↦ get_or-replicate count n none none within
      | inr past ↦ get_or_past (replicate count none) n none (omega (arith, length-replicate count none))
    ]

open_none : (bundles : List Bundle) → open_in (map no_row bundles) ≡ sum_by (λ (b : Bundle). length b.frames.entries) bundles
open_none [] = refl
open_none (b ∷ bs) =
    let none : Option Way = None in
    let whole = sum_by-cons (λ (row : List (Option Way)). sum_by open_of row) (no_row b) (map no_row bs) in
    let counted = sum_by-cons (λ (b : Bundle). length b.frames.entries) b bs in
    let row = sum_by-replicate open_of (length b.frames.entries) none in
    omega (arith, whole, counted, row, open_none bs)

few_in : (bundles : List Bundle) → ((device : ℕ) (b : Bundle) → slice_get bundles device ≡ Some b → length b.frames.entries ≤ 512)
    → sum_by (λ (b : Bundle). length b.frames.entries) bundles ≤ 512 * length bundles
few_in [] few = omega arith
few_in (b ∷ bs) few =
    let counted = sum_by-cons (λ (b : Bundle). length b.frames.entries) b bs in
    omega (arith, counted, few 0 b refl, few_in bs (λ device c held. few (suc device) c held))

pub marks_begin : (net : Net) (marks : Marks) → AreFew net.bundles.now → AreNoMarks net.bundles.now marks → AreMarks net marks
marks_begin net marks few none =
    let bundles = net.bundles.now in
    record {
      count = rw none.rows_are (length-map bundles no_row);
      counts = λ device b held. rw (none.rows_are, row_at bundles device b held) (length-replicate (length b.frames.entries) None);
      each = λ device n e way s is.
          let read : way_in (map no_row bundles) device n ≡ Some way = subst (λ (rows : List (List (Option Way))). way_in rows device n ≡ Some way) none.rows_are is in
          absurd (none-some way (sym (all_none (length s.bundle.frames.entries) n)
          ∙ ap (λ (row : List (Option Way)). get_or row n None) (sym (row_at bundles device s.bundle s.held)) ∙ read));
      left_is = rw none.rows_are (none.left_is ∙ sym (open_none bundles));
      few = omega (arith, none.left_is, few_in bundles few.entries_few, few.bundles_few);
    }

-- how far the table has come
pub record AreBegun (bundles : List Bundle) (index left : ℕ) (rows : List (List (Option Way))) : Type 0 where
  pub rows_are : rows ≡ map no_row (take index bundles)
  pub left_is : left ≡ sum_by (λ (b : Bundle). length b.frames.entries) (take index bundles)
  pub few : left ≤ 512 * index

pub begun_more : (bundles : List Bundle) (index left count : ℕ) (b : Bundle) (rows after : List (List (Option Way))) (row : List (Option Way))
    → AreFew bundles → AreBegun bundles index left rows → index < length bundles → b ≡ get_or bundles index b → count ≡ length b.frames.entries
    → after ≡ rows ++ row ∷ [] → row ≡ replicate count None → AreBegun bundles (index + 1) (left + count) after
begun_more bundles index left count b rows after row few begun within is count_is pushed new =
    let held = slice_get_read bundles (length bundles) index b refl within is in
    let row_is : row ≡ no_row b = new ∙ ap (λ (n : ℕ). replicate n None) count_is in
    let more = map_more no_row bundles index b within in
    let sums = sum_by_more (λ (b : Bundle). length b.frames.entries) bundles index b within in
    let read : length (get_or bundles index b).frames.entries ≡ count = ap (λ (x : Bundle). length x.frames.entries) (sym is) ∙ sym count_is in
    record {
      rows_are = pushed
          ∙ ap (λ (r : List (List (Option Way))). r ++ row ∷ []) begun.rows_are
          ∙ ap (λ (r : List (Option Way)). map no_row (take index bundles) ++ r ∷ []) (row_is ∙ ap no_row is)
          ∙ sym more;
      left_is = omega (arith, begun.left_is, sums, read);
      few = omega (arith, begun.few, few.entries_few index b held, count_is);
    }

pub few_bundles : (plant : Plant) (bundles : List Bundle) → IsPlan plant bundles → AreFew bundles
few_bundles plant bundles plan =
    record {
      bundles_few = omega (arith, plan.count, plan.rules.device_count);
      entries_few = λ device b held. (each_bundle IsBundle bundles device b plan.blocks held).frames.count;
    }
