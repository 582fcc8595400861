-- The forwardings of a plan stand in the order of their places.
use Rattle.std.proofs.Common.{◌≡◌, ℕ, ◌-◌, ◌*◌, ◌<◌, ◌≤◌, suc, List, [], ◌∷◌, ◌++◌, length, map, filter, get_or, All, inl, inr, refl, arith}
use Rattle.std.specs.List.Sorted.{IsNonDecreasingBy, IsStrictlyIncreasing}
use Rattle.std.proofs.lemmas.Bool.{cases_eq, cases_lt}
use Rattle.std.proofs.lemmas.List.{get_or_append_left, get_or-append_right, get_or-map, length-append, length-map}
use Rattle.std.proofs.lemmas.List.Elements.{All-append, All-map, All-filter, All-weaker, All-head, All-tail, All-from_recursion}
use Rattle.std.proofs.lemmas.List.Kept.{AllPairs-from_increasing, IsNonDecreasingBy-filter}
use Rattle.irt_base.specs.Valid.{IsBundle, IsEntry, frames_of}
use Rattle.irt_base.specs.declared.blocks.Bundle.{Bundle}
use Rattle.irt_base.specs.declared.blocks.Entry.{Entry}
use Rattle.irt_base.specs.declared.plants.Device.{Device}
use Rattle.irt_base.specs.declared.plants.Plant.{Plant}
use Rattle.plant_rules.specs.Meets.{IsDevice}
use Rattle.plan_rules.specs.Plan.{IsPlan}
use Rattle.irt_world.specs.Forwardings.{forwardings, forwardings_from, forwardings_at, forwarding_of, is_delayed, place_of, AreInOrder, HasRange}
use Rattle.irt_world.specs.declared.forwardings.Forwarding.{Forwarding}
use Rattle.irt_world.specs.declared.forwardings.TheConstants.{FRAMES}
use Rattle.irt_world.proofs.InRange.{HasRangeOf, ranges_from}
use Rattle.irt_world.proofs.Places.{all_at, some_at}

abbrev place : Forwarding → ℕ
place f = place_of f.device.0 f.frame.0

rising_append : {X : Type 0} (n : X → ℕ) (m : ℕ) (xs ys : List X) → IsNonDecreasingBy n xs → IsNonDecreasingBy n ys →
    All (λ x. n x ≤ m) xs → All (λ y. m ≤ n y) ys → IsNonDecreasingBy n (xs ++ ys)
rising_append n m xs ys low high below above i j d before within =
    elim (cases_lt j (length xs)) [
      | inl left ↦
          rw (get_or_append_left xs ys d i (omega arith), get_or_append_left xs ys d j left) (low i j d before left)
      | inr right ↦
          let last : j - length xs < length ys = omega (arith, within, length-append xs ys) in
          elim (cases_lt i (length xs)) [
            | inl left ↦
                rw (get_or_append_left xs ys d i left, get_or-append_right xs ys (length xs) j d refl right)
                (omega (arith, below i d left, above (j - length xs) d last))
            | inr both ↦
                rw (get_or-append_right xs ys (length xs) i d refl both, get_or-append_right xs ys (length xs) j d refl right)
                (high (i - length xs) (j - length xs) d (omega arith) last)
          ]
    ]

rising_map : {X Y : Type 0} (n : X → ℕ) (f : Y → X) (ys : List Y) → IsNonDecreasingBy (λ y. n (f y)) ys → IsNonDecreasingBy n (map f ys)
rising_map n f ys rising i j d before within =
    let last : j < length ys = omega (arith, within, length-map ys f) in
    let (y, is) = some_at ys j last in
    rw (get_or-map f ys i y d (omega arith), get_or-map f ys j y d last) (rising i j y before last)

rising_frames : (start : ℕ) (es : List Entry) → IsStrictlyIncreasing (frames_of es) → IsNonDecreasingBy (λ e. place_of start e.frame.0) es
rising_frames start es rising i j e before within =
    elim (cases_eq i j) [
      | inl same ↦ rw same (omega arith)
      | inr differ ↦
          let first : get_or (frames_of es) i 0 ≡ (get_or es i e).frame.0 = get_or-map (λ (x : Entry). x.frame.0) es i e 0 (omega arith) in
          let second : get_or (frames_of es) j 0 ≡ (get_or es j e).frame.0 = get_or-map (λ (x : Entry). x.frame.0) es j e 0 within in
          let pair = AllPairs-from_increasing (frames_of es) rising i j 0 (omega (arith, differ)) (omega (arith, length-map es (λ (x : Entry). x.frame.0))) in
          omega (arith, first, second, pair)
    ]

rising_at : (start : ℕ) (d : Device) (b : Bundle) → IsBundle b → IsNonDecreasingBy place (forwardings_at start d b)
rising_at start d b valid =
    rising_map place (forwarding_of start d) (filter (is_delayed d) b.frames.entries)
    (IsNonDecreasingBy-filter (λ (e : Entry). place_of start e.frame.0) (is_delayed d) b.frames.entries
    (rising_frames start b.frames.entries valid.frames.ascending))

abbrev IsFrom : ℕ → ℕ → Forwarding → Type 0
IsFrom low high f = (low * FRAMES ≤ place f) × (place f ≤ high * FRAMES) × (f.frame.0 < FRAMES)

bounds_at : (start : ℕ) (d : Device) (b : Bundle) → IsBundle b → All (IsFrom start (suc start)) (forwardings_at start d b)
bounds_at start d b valid =
    All-map (IsFrom start (suc start)) (forwarding_of start d) (filter (is_delayed d) b.frames.entries)
    (All-filter (is_delayed d) (λ e. IsFrom start (suc start) (forwarding_of start d e)) b.frames.entries
    (All-weaker IsEntry (λ e. IsFrom start (suc start) (forwarding_of start d e))
    (λ e is. (omega arith, omega (arith, is.frame), omega (arith, is.frame)))
    b.frames.entries (All-from_recursion IsEntry b.frames.entries valid.frames.each)))

abbrev IsFromOn : ℕ → Forwarding → Type 0
IsFromOn low f = (low * FRAMES ≤ place f) × (f.frame.0 < FRAMES)

bounds_from : (start : ℕ) (ds : List Device) (bs : List Bundle) → All IsBundle bs → All (IsFromOn start) (forwardings_from start ds bs)
bounds_from start (d ∷ ds) (b ∷ bs) valid =
    All-append (IsFromOn start) (forwardings_at start d b) (forwardings_from (suc start) ds bs)
    (All-weaker (IsFrom start (suc start)) (IsFromOn start) (λ f (low, high, frame). (low, frame))
    (forwardings_at start d b) (bounds_at start d b (All-head IsBundle b bs valid)))
    (All-weaker (IsFromOn (suc start)) (IsFromOn start) (λ f (low, frame). (omega (arith, low), frame))
    (forwardings_from (suc start) ds bs) (bounds_from (suc start) ds bs (All-tail IsBundle b bs valid)))
bounds_from start (d ∷ ds) [] valid = λ k f below. absurd (omega arith)
bounds_from start [] bs valid = λ k f below. absurd (omega arith)

rising_from : (start : ℕ) (ds : List Device) (bs : List Bundle) → All IsBundle bs → IsNonDecreasingBy place (forwardings_from start ds bs)
rising_from start (d ∷ ds) (b ∷ bs) valid =
    rising_append place (suc start * FRAMES) (forwardings_at start d b) (forwardings_from (suc start) ds bs)
    (rising_at start d b (All-head IsBundle b bs valid))
    (rising_from (suc start) ds bs (All-tail IsBundle b bs valid))
    (All-weaker (IsFrom start (suc start)) (λ f. place f ≤ suc start * FRAMES) (λ f (low, high, frame). high)
    (forwardings_at start d b) (bounds_at start d b (All-head IsBundle b bs valid)))
    (All-weaker (IsFromOn (suc start)) (λ f. suc start * FRAMES ≤ place f) (λ f (low, frame). low)
    (forwardings_from (suc start) ds bs) (bounds_from (suc start) ds bs (All-tail IsBundle b bs valid)))
rising_from start (d ∷ ds) [] valid = λ i j f before below. absurd (omega arith)
rising_from start [] bs valid = λ i j f before below. absurd (omega arith)

ranges : (plant : Plant) (bundles : List Bundle) → IsPlan plant bundles → All HasRange (forwardings plant bundles)
ranges plant bundles plan =
    All-weaker (HasRangeOf 0 plant.devices) HasRange
    (λ f (n, d, at, is, low, high).
    let rule = all_at IsDevice plant.devices n d (All-from_recursion IsDevice plant.devices plan.rules.devices) is in
    omega (arith, low, high, rule.bridge_order))
    (forwardings plant bundles) (ranges_from 0 plant.devices bundles)

pub forwardings_in_order : (plant : Plant) (bundles : List Bundle) → IsPlan plant bundles → AreInOrder (forwardings plant bundles)
forwardings_in_order plant bundles plan = record {
  places = rising_from 0 plant.devices bundles plan.blocks;
  frames = All-weaker (IsFromOn 0) (λ f. f.frame.0 < FRAMES) (λ f (low, frame). frame) (forwardings plant bundles)
      (bounds_from 0 plant.devices bundles plan.blocks);
  ranges = ranges plant bundles plan;
}
