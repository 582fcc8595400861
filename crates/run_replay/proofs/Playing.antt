-- A plant that plays a record, before and after a cycle.
use Rattle.std.proofs.Common.{◌≡◌, ℕ, zero, suc, ◌⊎◌, ◌+◌, ◌<◌, ◌≤◌, List, [], ◌∷◌, ◌++◌, length, map, take, slice_get, get_or, Some, inl, inr, refl, sym, ◌∙◌, ap, subst, arith}
use Rattle.std.specs.Prelude.{All, unwrap_or}
use Rattle.std.proofs.lemmas.List.{ext_get_or, length-map, length_push, take_all}
use Rattle.std.proofs.lemmas.Option.{same_Some, slice_get_within, slice_get_cases, get_or_from_slice_get, unwrap_or-slice_get}
use Rattle.io_buffers.specs.Given.{Given}
use Rattle.irt_base.specs.declared.blocks.Bundle.{Bundle}
use Rattle.irt_base.specs.declared.plants.App.{App}
use Rattle.irt_base.specs.declared.plants.Plant.{Plant}
use Rattle.iso_plant.specs.Replay.{PlantView, HasAllCycles, setup_in, takes_of}
use Rattle.iso_plant.specs.Step.{IsFresh, ServesPlant, Steps}
use Rattle.iso_rules.proofs.PlayedRuns.{map_at}
use Rattle.iso_rules.specs.Lockstep.{AppLog}
use Rattle.iso_rules.specs.Station.{input_count, output_count}
use Rattle.iso_run.specs.Ends.{EndView, end_at, new_end, published_to, takes_from}
use Rattle.iso_run.specs.InLockstep.{ends_view}
use Rattle.plan_rules.proofs.Held.{some_at}
use Rattle.plan_rules.specs.Plan.{setup_of}
use Rattle.plan_rules.specs.Way.{Setup}
use Rattle.run_replay.proofs.Matching.{taken_next}
use Rattle.run_replay.specs.Cycle.{AreEndsOf, HasTaken, IsEndOf, fresh_end}
use Rattle.run_replay.specs.Replayed.{HasShape}

at_end : (ends : List EndView) (n : ℕ) (e : EndView) → slice_get ends n ≡ Some e → end_at ends n ≡ e
at_end ends n e is = get_or_from_slice_get ends n e (new_end 0 0) is

-- what stands at a place of another list of as many
pub other_at : {X Y : Type 0} (xs : List X) (ys : List Y) (n : ℕ) (y : Y) → length ys ≡ length xs → slice_get ys n ≡ Some y →
    (x : X) × (slice_get xs n ≡ Some x)
other_at xs ys n y count is = (let within = slice_get_within ys n y is in some_at xs n (omega (arith, count, within)))

-- the shape of a record, for the plant that plays it
pub shape_in : (v : PlantView) (plant : Plant) (bundles : List Bundle) (cycles rows : ℕ) (logs : List AppLog) → v.plant ≡ plant → v.bundles ≡ bundles →
    cycles ≡ rows → HasShape (setup_of plant bundles) cycles logs → HasShape (setup_in v) rows logs
shape_in v plant bundles cycles rows logs plants blocks same shape =
    subst (λ p. HasShape (setup_of p v.bundles) rows logs) (sym plants)
    (subst (λ b. HasShape (setup_of plant b) rows logs) (sym blocks) (subst (λ m. HasShape (setup_of plant bundles) m logs) same shape))

-- ---- the apps of a cycle

-- a log has a take of each cycle
pub take_there : (setup : Setup) (cycles k n : ℕ) (logs : List AppLog) (log : AppLog) → HasShape setup cycles logs → slice_get logs n ≡ Some log →
    k < cycles → k < length log.takes
take_there setup cycles k n logs log shape at within =
    let (app, is) = other_at setup.plant.apps logs n log shape.count at in
    let long = (shape.apps n app log is at).each.takes in
    omega (arith, long, within)

pub end_is : (setup : Setup) (k n words : ℕ) (logs : List AppLog) (log : AppLog) (g : Given) (image : List ℕ) (e : EndView) →
    slice_get logs n ≡ Some log → slice_get log.takes k ≡ Some g → length image ≡ words →
    ((app : App) → slice_get setup.plant.apps n ≡ Some app → words ≡ input_count setup app.device.0) → e ≡ fresh_end g image → IsEndOf setup k logs n e
end_is setup k n words logs log g image e at taken wide width is =
    subst (IsEndOf setup k logs n) (sym is)
    (record {
      unused = refl;
      offer = λ other there. ap (λ (l : AppLog). slice_get l.takes k) (same_Some other log (sym there ∙ at)) ∙ taken;
      image = λ app there. wide ∙ width app there;
    })

-- where one stands of a list to which one was pushed
pushed_at : {X : Type 0} (xs : List X) (y : X) (n : ℕ) (x : X) → slice_get (xs ++ y ∷ []) n ≡ Some x →
    (slice_get xs n ≡ Some x) ⊎ ((n ≡ length xs) × (y ≡ x))
pushed_at [] y zero x is = inr (refl, same_Some y x is)
pushed_at [] y (suc n) x is = absurd (cc)
pushed_at (z ∷ xs) y zero x is = inl is
pushed_at (z ∷ xs) y (suc n) x is = elim (pushed_at xs y n x is) [
  | inl before ↦ inl before
  | inr last ↦ inr (ap suc last.0, last.1)
]

pub ends_none : (setup : Setup) (k : ℕ) (logs : List AppLog) → AreEndsOf setup k logs 0 []
ends_none setup k logs = record { count = refl; each = λ n e is. absurd (cc) }

-- one more is made
pub ends_more : (setup : Setup) (k n : ℕ) (logs : List AppLog) (ends more : List EndView) (e : EndView) → AreEndsOf setup k logs n ends →
    IsEndOf setup k logs n e → more ≡ ends ++ e ∷ [] → AreEndsOf setup k logs (n + 1) more
ends_more setup k n logs ends more e all one pushed =
    subst (AreEndsOf setup k logs (n + 1)) (sym pushed)
    (record {
      count = length_push ends e ∙ ap (λ m. m + 1) all.count;
      each = λ m x is. elim (pushed_at ends e m x is) [
        | inl before ↦ all.each m x before
        | inr last ↦ subst (λ w. IsEndOf setup k logs w x) (sym (last.0 ∙ all.count)) (subst (IsEndOf setup k logs n) last.1 one)
      ];
    })

-- ---- before a cycle

-- a take has the words of its app's device
take_words : (setup : Setup) (cycles k n : ℕ) (logs : List AppLog) (app : App) (log : AppLog) (g : Given) → HasShape setup cycles logs →
    slice_get setup.plant.apps n ≡ Some app → slice_get logs n ≡ Some log → slice_get log.takes k ≡ Some g →
    length g.words ≡ output_count setup app.device.0
take_words setup cycles k n logs app log g shape is at taken =
    ap (λ (t : Given). length t.words) (sym (get_or_from_slice_get log.takes k g g taken))
    ∙ (shape.apps n app log is at).words k g (slice_get_within log.takes k g taken)

pub ends_serve : (v : PlantView) (cycles k : ℕ) (logs : List AppLog) (ends : List EndView) → HasShape (setup_in v) cycles logs →
    AreEndsOf (setup_in v) k logs (length logs) ends → ServesPlant v (ends_view ends)
ends_serve v cycles k logs ends shape all =
    let one : (n : ℕ) (app : App) → slice_get v.plant.apps n ≡ Some app →
    (length (end_at ends n).offer.words ≡ output_count (setup_in v) app.device.0) × (length (end_at ends n).image ≡ input_count (setup_in v) app.device.0) = λ n app is.
    let (log, at) = other_at logs v.plant.apps n app (sym shape.count) is in
    let (e, stands) = other_at ends logs n log (sym all.count) at in
    let end = at_end ends n e stands in
    let of = all.each n e stands in (
      ap (λ (x : EndView). length x.offer.words) end ∙ take_words (setup_in v) cycles k n logs app log e.offer shape is at (of.offer log at),
      ap (λ (x : EndView). length x.image) end ∙ of.image app is,
    ) in
    record {
      count = all.count ∙ shape.count;
      outputs = λ n app is. (one n app is).0;
      inputs = λ n app is. (one n app is).1;
    }

pub ends_fresh : (setup : Setup) (k : ℕ) (logs : List AppLog) (count : ℕ) (ends : List EndView) → AreEndsOf setup k logs count ends → IsFresh (ends_view ends)
ends_fresh setup k logs count ends all =
    let one : (n : ℕ) → (takes_from (end_at ends n) ≡ []) × (published_to (end_at ends n) ≡ []) = λ n.
    elim (slice_get_cases ends n).1 [
      | inl there ↦
          let (e, within, stands, got) = there in
          let is = at_end ends n e stands ∙ (all.each n e stands).unused in
          (ap takes_from is, ap published_to is)
      | inr past ↦
          let is : end_at ends n ≡ new_end 0 0 = sym (unwrap_or-slice_get ends n (new_end 0 0)) ∙ ap (λ o. unwrap_or o (new_end 0 0)) past.1 in
          (ap takes_from is, ap published_to is)
    ] in
    record { takes = λ n. (one n).0; published = λ n. (one n).1 }

-- ---- after it

pub taken_more : (old new : PlantView) (cycles k : ℕ) (logs : List AppLog) (ends after : List EndView) → HasShape (setup_in old) cycles logs →
    AreEndsOf (setup_in old) k logs (length logs) ends → k ≡ old.done → Steps old new (ends_view ends) (ends_view after) → HasTaken old logs →
    HasTaken new logs
taken_more old new cycles k logs ends after shape all now step so_far = λ n log is.
    let count : length logs ≡ length old.plant.apps = shape.count in
    let within = slice_get_within logs n log is in
    let (e, stands) = other_at ends logs n log (sym all.count) is in
    (step.apps n (omega (arith, count, within))).take
    ∙ ap (λ ts. ts ++ (end_at ends n).offer ∷ []) (so_far n log is)
    ∙ ap (λ (x : EndView). take old.done log.takes ++ x.offer ∷ []) (at_end ends n e stands)
    ∙ sym (taken_next log.takes old.done e.offer (ap (λ m. slice_get log.takes m) (sym now) ∙ (all.each n e stands).offer log is))
    ∙ ap (λ m. take m log.takes) (sym step.done)

-- ---- before the first cycle, and after the last one

is_empty : {X : Type 0} (xs : List X) → length xs ≡ 0 → xs ≡ []
is_empty [] none = refl
is_empty (x ∷ xs) none = absurd (omega (arith, none))

pub begun_taken : (v : PlantView) (cycles : ℕ) (logs : List AppLog) → HasAllCycles v → HasShape (setup_in v) cycles logs → v.done ≡ 0 → HasTaken v logs
begun_taken v cycles logs all shape begun = λ n log is.
    let count : length logs ≡ length v.plant.apps = shape.count in
    let within = slice_get_within logs n log is in
    is_empty (takes_of n v) (all.taken n (omega (arith, count, within)) ∙ begun) ∙ ap (λ m. take m log.takes) (sym begun)

-- all takes are those of the logs
pub takes_are : (v : PlantView) (logs : List AppLog) → HasAllCycles v → HasShape (setup_in v) v.done logs → HasTaken v logs →
    v.takes ≡ map (λ (l : AppLog). l.takes) logs
takes_are v logs all shape taken =
    let count : length logs ≡ length v.plant.apps = shape.count in
    let takes = all.takes in
    ext_get_or [] v.takes (map (λ (l : AppLog). l.takes) logs) (takes ∙ sym count ∙ sym (length-map logs (λ (l : AppLog). l.takes)))
    (λ n within.
    let (log, is) = some_at logs n (omega (arith, count, takes, within)) in
    let (app, at) = other_at v.plant.apps logs n log count is in
    let long = (shape.apps n app log at is).each.takes in
    taken n log is ∙ take_all v.done log.takes (omega (arith, long))
    ∙ sym (get_or_from_slice_get _ n log.takes [] (map_at (λ (l : AppLog). l.takes) logs n log is)))
