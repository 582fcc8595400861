-- Switches that have released all, and the rows of a cycle that has ended.
use Rattle.std.proofs.Common.{◌≡◌, ℕ, ◌<◌, ◌++◌, ◌∷◌, [], List, length, map, take, drop, Some, slice_get, refl, sym, ◌∙◌, ap, subst, arith, AllPairs}
use Rattle.std.specs.List.Sorted.{IsPermutation}
use Rattle.std.proofs.lemmas.Grind.{common_steps}
use Rattle.std.proofs.lemmas.List.{take_at}
use Rattle.std.proofs.lemmas.List.Sorted.{length_permutation}
use Rattle.irt_base.specs.declared.blocks.Bundle.{Bundle}
use Rattle.irt_base.specs.declared.limits.TheConstants.{MAX_CYCLES}
use Rattle.irt_base.specs.declared.plants.Plant.{Plant}
use Rattle.plan_rules.specs.Plan.{setup_of}
use Rattle.plan_rules.specs.Way.{IsInRange}
use Rattle.irt_switch.specs.State.{SwitchState}
use Rattle.irt_world.specs.Rows.{world_row}
use Rattle.irt_world.specs.declared.rows.Row.{Row}
use Rattle.cycle_rows.specs.declared.rows.JournalRow.{JournalRow}
use Rattle.cycle_rows.specs.Order.{HasOtherKey}
use Rattle.cycle_events.specs.Events.{Play}
use Rattle.cycle_events.specs.Run.{RowsAreSegment, RowsDiffer, rows_given}
use Rattle.run_journal.specs.Written.{IsSortedFrom, Written}
use Rattle.net_begin.specs.Begun.{released}
use Rattle.net_site.specs.Site.{SiteState, IsPlayedAt, bundles_of, play_in}
use Rattle.net_frames.specs.Begun.{AllHaveBegun}
use Rattle.cycle_frames.specs.Bytes.{AreFramesOf}
use Rattle.net_frames.specs.Frames.{GrowsByFrames}
use Rattle.net_frames.specs.Playing.{HasGiven, IsInCycle, IsPlaying}
use Rattle.net_frames.proofs.Range.{AreInRange, row_in_range}
use Rattle.net_frames.proofs.Starting.{at_mapped}

-- ---- switches that have released all

blocks_kept : (switches : List SwitchState) → bundles_of (map released switches) ≡ bundles_of switches
blocks_kept [] = refl
blocks_kept (s ∷ more) = ap (λ bundles. s.bundle ∷ bundles) (blocks_kept more)

pub same_blocks : (old new : List SwitchState) → new ≡ map released old → bundles_of new ≡ bundles_of old
same_blocks old new is = ap bundles_of is ∙ blocks_kept old

still_in : (plant : Plant) (row : Row) (k : ℕ) (old : List SwitchState) → AllHaveBegun plant row k old → (device : ℕ) (s : SwitchState) → slice_get (map released old) device ≡ Some s →
    IsInCycle plant row k device s
still_in plant row k old begun device s is =
    let (before, there, same) = at_mapped released old device s is in
    let has = begun device before there in
    subst (IsInCycle plant row k device) same (record { cycle = has.cycle; in_step = has.in_step })

pub playing_on : (law : AreInRange) (site : SiteState) (row : Row) (k : ℕ) (old new : List SwitchState) (frames : List (List ℕ)) → new ≡ map released old →
    IsPlayedAt site (bundles_of old) row → k < MAX_CYCLES → AllHaveBegun site.plant row k old → AreFramesOf (setup_of site.plant (bundles_of old)) k frames →
    IsPlaying site row k new frames
playing_on law site row k old new frames is plan run begun bytes =
    let same = sym (same_blocks old new is) in
    record {
      plan = subst (λ bundles. IsPlayedAt site bundles row) same plan;
      range = subst (λ bundles. IsInRange (setup_of site.plant bundles) (world_row site.plant bundles row)) same (row_in_range law site.plant (bundles_of old) row plan.fits);
      run = run;
      cycle = subst (λ switches. (device : ℕ) (s : SwitchState) → slice_get switches device ≡ Some s → IsInCycle site.plant row k device s) (sym is)
          (still_in site.plant row k old begun);
      bytes = subst (λ bundles. AreFramesOf (setup_of site.plant bundles) k frames) same bytes;
    }

-- ---- the rows

drop_front : (xs ys : List JournalRow) → drop (length xs) (xs ++ ys) ≡ ys
drop_front xs ys = grind (arith, common_steps)

pub grown : (plant : Plant) (bundles : List Bundle) (row : Row) (k : ℕ) (old mid new : Written) → RowsDiffer (play_in plant bundles row k) → RowsAreSegment (play_in plant bundles row k) →
    HasGiven (play_in plant bundles row k) old mid → IsSortedFrom (length old.rows) mid.rows new.rows → new.room ≡ mid.room → GrowsByFrames plant bundles row k old new
grown plant bundles row k old mid new differ segment given sorted room =
    let play : Play = play_in plant bundles row k in
    let rows = rows_given play given.handled in
    let front : take (length old.rows) mid.rows ≡ old.rows = ap (take (length old.rows)) given.rows ∙ take_at old.rows rows (length old.rows) refl in
    let back : drop (length old.rows) mid.rows ≡ rows = ap (drop (length old.rows)) given.rows ∙ drop_front old.rows rows in
    let same : IsPermutation rows sorted.part = subst (λ xs. IsPermutation xs sorted.part) back sorted.same in
    let count = length_permutation rows sorted.part same in
    let spaced = given.room in
    let few = given.few in
    record {
      part = sorted.part;
      rows = sorted.whole ∙ ap (λ xs. xs ++ sorted.part) front;
      room = omega arith;
      few = omega arith;
      segment = λ world is.
          segment world is given.first given.handled given.begun given.run sorted.part same
          (sorted.order (subst (λ xs. AllPairs HasOtherKey xs) (sym back) (differ world is given.first given.handled given.begun given.run)));
    }
