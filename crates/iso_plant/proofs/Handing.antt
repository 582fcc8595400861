-- A step, with its lists as they are handed from call to call.
use Rattle.std.proofs.Common.{◌≡◌, ℕ, ◌<◌, ◌≤◌, List, ◌++◌, length, drop, take, get_or, Some, slice_get, refl, sym, ◌∙◌, ap, subst, arith}
use Rattle.std.proofs.lemmas.Option.{slice_get-get_or}
use Rattle.irt_base.specs.declared.limits.TheConstants.{MAX_CYCLES}
use Rattle.irt_base.specs.declared.plants.App.{App}
use Rattle.irt_net.specs.Net.{NetState}
use Rattle.irt_world.specs.declared.rows.Row.{Row}
use Rattle.parcel_rules.specs.Loads.{Loads}
use Rattle.plan_rules.specs.World.{WorldRow}
use Rattle.plant_stations.specs.Stations.{StationsState}
use Rattle.run_journal.specs.Written.{Written}
use Rattle.iso_plant.specs.Cycle.{CanStep, IsNext}
use Rattle.iso_plant.specs.Exchanged.{CanPublish, CanTake, PublishesAll, TakesAll}
use Rattle.iso_plant.specs.History.{AppCycles}
use Rattle.iso_plant.specs.Played.{CanPlay, GoesOn, HasPlayed, IsCycleOf}
use Rattle.iso_plant.specs.Replay.{PlantView}
use Rattle.iso_plant.specs.State.{IsState, Parts, view_of}
use Rattle.iso_plant.specs.Step.{EndsView, IsFresh, ServesPlant, Steps}
use Rattle.iso_plant.proofs.Apps.{written_over}
use Rattle.iso_plant.proofs.Stepped.{RestsOnPast, is_next, parts_after}
use Rattle.iso_plant.proofs.Stepping.{FittingAreInRange, RestsOnDone, can_play, can_publish, can_take}

-- what was written over all items of a list
pub kept : {X : Type 0} (n : ℕ) (items xs was found : List X) → n ≡ length items → was ≡ items → length xs ≡ length was →
    found ≡ take n (xs ++ drop (length xs) items) → found ≡ xs
kept n items xs was found long same many is = is ∙ written_over n xs items (many ∙ ap length same ∙ sym long)

row_at : (rows given : List Row) (k : ℕ) (row : Row) → given ≡ rows → k < length rows → row ≡ get_or given k row → slice_get rows k ≡ Some row
row_at rows given k row same within is =
    slice_get-get_or rows k row within ∙ ap Some (sym (is ∙ ap (λ list. get_or list k row) same))

under : (k n most : ℕ) → k < n → n ≤ most → k < most
under k n most below within = omega arith

-- ---- a plant whose view has another name

pub can_step : (p : Parts) → IsState p → (old : PlantView) → view_of p ≡ old → (before : EndsView) → old.done < length old.world.rows →
    ServesPlant old before → IsFresh before → CanStep p before
can_step p state old is before below serves fresh = record {
  state = state;
  below = subst (λ (v : PlantView). v.done < length v.world.rows) (sym is) below;
  serves = subst (λ (v : PlantView). ServesPlant v before) (sym is) serves;
  fresh = fresh;
}

pub steps_from : (v old new : PlantView) (before after : EndsView) → v ≡ old → Steps v new before after → Steps old new before after
steps_from v old new before after is steps = subst (λ x. Steps x new before after) is steps

-- ---- from call to call

module _ (p : Parts) (before : EndsView) (can : CanStep p before) where
  pub in_run : p.done < MAX_CYCLES
  in_run = under p.done (length p.world.rows) MAX_CYCLES can.below can.state.planned.cycles

  module _ (apps : List App) (apps_are : apps ≡ p.apps) (had : List AppCycles) (had_are : had ≡ p.histories) (were : List (List ℕ))
      (were_are : were ≡ p.outputs) where
    pub takes_ready : CanTake apps had were before
    takes_ready =
        subst (λ x. CanTake x had were before) (sym apps_are)
        (subst (λ x. CanTake p.apps x were before) (sym had_are)
        (subst (λ x. CanTake p.apps p.histories x before) (sym were_are)
        (can_take p can.state before can.below can.serves can.fresh)))

    module _ (rests : RestsOnDone) (ranges : FittingAreInRange) (took : List AppCycles) (sent : List (List ℕ)) (during : EndsView)
        (takes : TakesAll apps had took were sent before during) (rows : List Row) (rows_are : rows ≡ p.world.rows) (row : Row)
        (row_is : row ≡ get_or rows p.done row) (left : List (List ℕ)) (left_is : left ≡ sent) where
      taken_as : (found : List AppCycles) → found ≡ took → TakesAll p.apps p.histories found p.outputs left before during
      taken_as found is =
          subst (λ x. TakesAll x p.histories found p.outputs left before during) apps_are
          (subst (λ x. TakesAll apps x found p.outputs left before during) had_are
          (subst (λ x. TakesAll apps had found x left before during) were_are
          (subst (λ x. TakesAll apps had x were left before during) (sym is)
          (subst (λ x. TakesAll apps had took were x before during) (sym left_is) takes))))

      stands : slice_get p.world.rows p.done ≡ Some row
      stands = row_at p.world.rows rows p.done row rows_are can.below row_is

      pub play_ready : (images : List (List ℕ)) → images ≡ p.images → CanPlay p.done row left images p.net p.stations p.journal.room
      play_ready images is =
          subst (λ x. CanPlay p.done row left x p.net p.stations p.journal.room) (sym is)
          (can_play p can.state before can.below can.serves can.fresh took left during (taken_as took refl) rests ranges row stands)

      module _ (net : NetState) (stations : StationsState) (journal : Written) (shown : List (List ℕ))
          (goes : GoesOn p.done p.net net stations p.journal journal shown) (found : List AppCycles) (found_is : found ≡ took)
          (given : List (List ℕ)) (given_is : given ≡ shown) where
        on : GoesOn p.done p.net net stations p.journal journal given
        on = subst (GoesOn p.done p.net net stations p.journal journal) (sym given_is) goes

        pub publish_ready : CanPublish found given during
        publish_ready =
            can_publish p can.state before can.below can.serves can.fresh found left during (taken_as found found_is) net stations journal given on

        pub next_of : RestsOnPast → ((world : List WorldRow) (taken : ℕ → ℕ → List ℕ) (loads : Loads) →
            IsCycleOf world taken loads p.done row left p.net p.stations →
            HasPlayed world taken loads p.done p.net net stations p.journal journal shown) →
            (logs : List AppCycles) (after : EndsView) → PublishesAll found logs given during after →
            (ends : List AppCycles) (outs images : List (List ℕ)) → ends ≡ logs → outs ≡ left → images ≡ given →
            IsNext p (parts_after p net stations journal outs images ends) before after
        next_of past played logs after publishes ends outs images ends_are outs_are images_are =
            subst (λ x. IsNext p (parts_after p net stations journal outs images x) before after) (sym ends_are)
            (subst (λ x. IsNext p (parts_after p net stations journal x images logs) before after) (sym outs_are)
            (subst (λ x. IsNext p (parts_after p net stations journal left x logs) before after) (sym images_are)
            (is_next p can.state before can.below can.serves can.fresh found left during (taken_as found found_is) rests ranges past row stands
            net stations journal given on
            (λ world taken loads is.
            subst (HasPlayed world taken loads p.done p.net net stations p.journal journal) (sym given_is) (played world taken loads is))
            logs after publishes)))
