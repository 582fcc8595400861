-- The bundles of placed frames are those that first fit's definition asks for.
use Rattle.std.proofs.Common.{◌≡◌, ◌+◌, ◌<◌, ◌≤◌, ◌∷◌, [], ℕ, zero, suc, List, Option, Some, None, length, get_or, AllPairs, refl, sym, ◌∙◌, ap, subst, arith}
use Rattle.std.specs.Prelude.{All, Contains, slice_get}
use Rattle.std.specs.List.{filter_map, cons_option}
use Rattle.std.specs.List.Sorted.{IsStrictlyIncreasing}
use Rattle.std.proofs.lemmas.List.{get_or-map, length-map}
use Rattle.std.proofs.lemmas.List.Elements.{Contains-get_or}
use Rattle.std.proofs.lemmas.List.Kept.{AllPairs-cons}
use Rattle.std.proofs.lemmas.Option.{slice_get_within}
use Rattle.irt_base.specs.Valid.{frames_of}
use Rattle.irt_base.specs.declared.limits.TheConstants.{MAX_DEVICES, MAX_PORTS, PHASES}
use Rattle.irt_base.specs.declared.blocks.Bundle.{Bundle}
use Rattle.irt_base.specs.declared.blocks.Entry.{Entry}
use Rattle.irt_base.specs.declared.numbers.FrameId.{FrameId}
use Rattle.irt_base.specs.declared.blocks.PeriodBlock.{PeriodBlock}
use Rattle.irt_base.specs.declared.blocks.PortPeriods.{PortPeriods}
use Rattle.irt_base.specs.declared.plants.Device.{Device}
use Rattle.irt_base.specs.declared.plants.Plant.{Plant}
use Rattle.fit_rules.specs.declared.frame_plan.FramePlan.{FramePlan}
use Rattle.fit_rules.specs.Shape.{entry_of}
use Rattle.fit_rules.specs.Blocks.{AreEntries, ArePortPeriods, ArePeriods, AreBundlesOf}
use Rattle.placement.specs.Tables.{IsPlace}
use Rattle.plan_blocks.specs.Blocks.{AreLastEnds}
use Rattle.plan_blocks.specs.Bundles.{ArePeriodsBy, AreBundlesBy}
use Rattle.plan_blocks.specs.Ends.{end_at}
use Rattle.plan_blocks.specs.Entries.{entries_at, AreByFrame}
use Rattle.plan_blocks.specs.Periods.{assignment_of, ArePhasesBelow}

-- what is given comes from an item, and what an item gives is there
module _ {A B : Type 0} (h : A → Option B) where
  here : (x : A) (xs : List A) → Contains (x ∷ xs) x
  here x xs = (0, omega arith, refl)

  behind : (z : A) (xs : List A) (x : A) → Contains xs x → Contains (z ∷ xs) x
  behind z xs x (k, inside, is) = (suc k, omega (arith, inside), is)

  abbrev IsGiven : List A → B → Type 0
  IsGiven xs y = (x : A) × Contains xs x × (h x ≡ Some y)

  given_first : (x : A) (xs : List A) (y z : B) → h x ≡ Some z → (Contains (filter_map h xs) y → IsGiven xs y) → Contains (z ∷ filter_map h xs) y → IsGiven (x ∷ xs) y
  given_first x xs y z is rest (zero, inside, same) = (x, here x xs, is ∙ ap (λ (b : B). Some b) same)
  given_first x xs y z is rest (suc k, inside, same) =
      let (w, there, gives) = rest (k, omega (arith, inside), same) in
      (w, behind x xs w there, gives)

  given_by : (x : A) (xs : List A) (y : B) (o : Option B) → h x ≡ o → (Contains (filter_map h xs) y → IsGiven xs y) →
      Contains (cons_option o (filter_map h xs)) y → IsGiven (x ∷ xs) y
  given_by x xs y None is rest has = let (w, there, gives) = rest has in (w, behind x xs w there, gives)
  given_by x xs y (Some z) is rest has = given_first x xs y z is rest has

  given : (xs : List A) (y : B) → Contains (filter_map h xs) y → IsGiven xs y
  given [] y (k, inside, is) = absurd (omega (arith, inside))
  given (x ∷ xs) y has = given_by x xs y (h x) refl (λ there. given xs y there) has

  more : (o : Option B) (ys : List B) (y : B) → Contains ys y → Contains (cons_option o ys) y
  more None ys y has = has
  more (Some z) ys y (k, inside, is) = (suc k, omega (arith, inside), is)

  kept : (xs : List A) (x : A) (y : B) → Contains xs x → h x ≡ Some y → Contains (filter_map h xs) y
  kept [] x y (k, inside, is) gives = absurd (omega (arith, inside))
  kept (z ∷ xs) x y (zero, inside, is) gives =
      let own : h z ≡ Some y = ap h is ∙ gives in
      rw own (0, omega arith, refl)
  kept (z ∷ xs) x y (suc k, inside, is) gives = more (h z) (filter_map h xs) y (kept xs x y (k, omega (arith, inside), is) gives)

module _ {A B : Type 0} (h : A → Option B) (R : B → B → Type 0) (S : A → A → Type 0)
    (link : (x w : A) (y z : B) → S x w → h x ≡ Some y → h w ≡ Some z → R y z) where
  after : (x : A) (xs : List A) (y : B) → AllPairs S (x ∷ xs) → h x ≡ Some y → All (R y) (filter_map h xs)
  after x xs y all is k d inside =
      let (w, (j, within, same), gives) = given h xs (get_or (filter_map h xs) k d) (Contains-get_or (filter_map h xs) k d inside) in
      link x w y (get_or (filter_map h xs) k d) (subst (λ (v : A). S x v) same (all 0 (suc j) w (omega arith) (omega (arith, within)))) is gives

  pairs_by : (x : A) (xs : List A) (o : Option B) → AllPairs S (x ∷ xs) → h x ≡ o → AllPairs R (filter_map h xs) → AllPairs R (cons_option o (filter_map h xs))
  pairs_by x xs None all is rest = rest
  pairs_by x xs (Some y) all is rest = AllPairs-cons R y (filter_map h xs) (after x xs y all is) rest

  pairs : (xs : List A) → AllPairs S xs → AllPairs R (filter_map h xs)
  pairs [] all = λ i j d less inside. absurd (omega (arith, inside))
  pairs (x ∷ xs) all =
      pairs_by x xs (h x) all refl (pairs xs (λ i j d less inside. all (suc i) (suc j) d (omega (arith, less)) (omega (arith, inside))))

blank : Entry
blank = record { send_offset = 0; data_length = 0; ratio = 0; phase = 0; frame = record { 0 = 0 }; rx_port = 0; tx = 0 }

abbrev IsNamed : ℕ → FramePlan → Type 0
IsNamed device plan = (e : Entry) → entry_of plan device ≡ Some e → e.frame ≡ plan.frame

abbrev AreNamed : ℕ → FramePlan → FramePlan → Type 0
AreNamed device a b = (a.frame.0 < b.frame.0) × IsNamed device a × IsNamed device b

entries_rise : (plans : List FramePlan) (device : ℕ) → AreByFrame plans → IsStrictlyIncreasing (frames_of (entries_at plans device))
entries_rise plans device by k inside =
    let entries : List Entry = entries_at plans device in
    let long : length (frames_of entries) ≡ length entries = length-map entries (λ (e : Entry). e.frame.0) in
    let named : AllPairs (AreNamed device) plans = λ i j d less within. (
      by.ascending i j d less within,
      λ e is. by.named (get_or plans i d) device e (Contains-get_or plans i d (omega (arith, less, within))) is,
      λ e is. by.named (get_or plans j d) device e (Contains-get_or plans j d within) is,
    ) in
    let rise : AllPairs (λ (e f : Entry). e.frame.0 < f.frame.0) entries = pairs (λ (plan : FramePlan). entry_of plan device) (λ (e f : Entry). e.frame.0 < f.frame.0) (AreNamed device)
    (λ a b e f are first second.
    let one : e.frame.0 ≡ a.frame.0 = ap (λ (x : FrameId). x.0) (are.1 e first) in
    let two : f.frame.0 ≡ b.frame.0 = ap (λ (x : FrameId). x.0) (are.2 f second) in
    omega (arith, are.0, one, two)) plans named in
    let low = get_or-map (λ (e : Entry). e.frame.0) entries k blank 0 (omega (arith, inside, long)) in
    let high = get_or-map (λ (e : Entry). e.frame.0) entries (k + 1) blank 0 (omega (arith, inside, long)) in
    let less = rise k (k + 1) blank (omega arith) (omega (arith, inside, long)) in
    omega (arith, low, high, less)

are_entries : (plans : List FramePlan) (device : ℕ) → AreByFrame plans → AreEntries plans device (entries_at plans device)
are_entries plans device by = record {
  only = λ e has. given (λ (plan : FramePlan). entry_of plan device) plans e has;
  all = λ plan e has is. kept (λ (p : FramePlan). entry_of p device) plans plan e has is;
  ascending = entries_rise plans device by;
}

module _ (plant : Plant) (plans : List FramePlan) (tx rx : List ℕ) (last : AreLastEnds plant plans tx rx) where
  port_of : (device n : ℕ) (p : PortPeriods) → device < MAX_DEVICES → n < MAX_PORTS → ArePhasesBelow plant.orange tx rx device (n + 1) PHASES p →
      ArePortPeriods plant plans device (n + 1) p
  port_of device n p inside few are = record {
    count = are.count;
    each = λ k pair at.
        let is = are.each k pair at in
        let below : k < PHASES = let within = slice_get_within p.phases k pair at in omega (arith, within, are.count) in
        let there : IsPlace device (n + 1) k = record { device_in = inside; port_in = omega (arith, few); phase_in = below } in
        record {
          one = is.one;
          periods = assignment_of plant.orange (end_at tx device (n + 1) k) (end_at rx device (n + 1) k);
          named = is.named;
          tx = record { red = refl; orange = last.sent device (n + 1) k there; green = refl };
          rx = record { red = refl; orange = last.received device (n + 1) k there; green = refl };
        };
    numbered = record { differ = are.differ; used = are.used; first = are.first };
  }

  periods_of : (device : ℕ) (d : Device) (b : PeriodBlock) → device < MAX_DEVICES → length d.ports ≤ MAX_PORTS →
      ArePeriodsBy plant.orange tx rx device (length d.ports) b → ArePeriods plant plans device d b
  periods_of device d b inside few are = record {
    begin = are.begin;
    end = are.end;
    count = are.count_is;
    ports = λ n p at.
        let within = slice_get_within b.ports n p at in
        port_of device n p inside (omega (arith, within, are.count_is, few)) (are.ports n p at);
  }

  pub bundles_of_plans : (bundles : List Bundle) → length plant.devices ≤ MAX_DEVICES →
      ((n : ℕ) (d : Device) → slice_get plant.devices n ≡ Some d → length d.ports ≤ MAX_PORTS) → AreByFrame plans →
      AreBundlesBy plant plans tx rx bundles → AreBundlesOf plant plans bundles
  bundles_of_plans bundles few ports by are = record {
    count = are.count;
    each = λ device d b held at.
        let is = are.each device d b held at in
        let inside = slice_get_within plant.devices device d held in
        record {
          sync = is.sync;
          slot = is.slot;
          subslot = is.subslot;
          global = is.global;
          mode = is.mode;
          entries = subst (λ (entries : List Entry). AreEntries plans device entries) (sym is.entries) (are_entries plans device by);
          periods = periods_of device d b.periods (omega (arith, inside, few)) (ports device d held) is.periods;
        };
  }
