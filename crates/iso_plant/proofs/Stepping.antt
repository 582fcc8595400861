-- That a cycle can be played: takes, the network, publications.
use Rattle.std.proofs.Common.{◌≡◌, ℕ, ◌-◌, ◌*◌, ◌<◌, ◌≤◌, List, [], ◌∷◌, ◌++◌, length, map, replicate, slice_get, Option, Some, None, All, inl, inr, refl, sym, ◌∙◌, ap, subst, arith}
use Rattle.std.specs.Prelude.{option_and_then, option_map, slice_index_or, unwrap_or}
use Rattle.std.specs.Option.{option_map_or}
use Rattle.std.proofs.Math.Nat.{mul-le-mul_right}
use Rattle.std.proofs.lemmas.List.{length-map}
use Rattle.std.proofs.lemmas.Option.{get_or_from_slice_get, same_Some, slice_get-map, slice_get_within, slice_get_past}
use Rattle.io_buffers.specs.Given.{Given}
use Rattle.irt_base.specs.declared.blocks.Bundle.{Bundle}
use Rattle.irt_base.specs.declared.plants.App.{App}
use Rattle.irt_base.specs.declared.plants.Plant.{Plant}
use Rattle.irt_net.specs.Net.{HasRoomFor, NetState}
use Rattle.irt_world.specs.Rows.{Fits, IsRowOf, world_row, world_rows}
use Rattle.irt_world.specs.declared.rows.Row.{Row}
use Rattle.irt_world.specs.declared.rows.World.{World}
use Rattle.iso_rules.specs.Lockstep.{words_taken}
use Rattle.iso_rules.specs.Station.{input_count, output_count}
use Rattle.plan_rules.proofs.Held.{all_at, some_at}
use Rattle.plan_rules.specs.Plan.{setup_of}
use Rattle.plan_rules.specs.Way.{IsInRange}
use Rattle.plan_rules.specs.World.{WorldRow}
use Rattle.plant_stations.specs.Loaded.{AreOutputs, HaveWidths}
use Rattle.plant_stations.specs.Stations.{HavePlayed, StationsState}
use Rattle.run_journal.specs.Written.{Written}
use Rattle.iso_plant.specs.Exchanged.{CanPublish, CanTake, HasOutput, HaveOwnDevices, TakesAll}
use Rattle.iso_plant.specs.History.{AppCycles, with_take}
use Rattle.iso_plant.specs.Played.{CanPlay, GoesOn, IsCycleOf, net_setup}
use Rattle.iso_plant.specs.State.{IsHistoryOf, IsState, Parts, loads_of, rows_of, takes_in, view_of}
use Rattle.iso_plant.specs.Step.{EndsView, IsFresh, ServesPlant}
use Rattle.iso_plant.proofs.Apps.{app_cases, device_within, get_before, get_last, none_past, own_devices}

-- what stations hold rests on the cycles that are done
abbrev pub RestsOnDone : Type 0
RestsOnDone =
    (world : List WorldRow) (taken given : ℕ → ℕ → List ℕ) (done : ℕ) (s : StationsState) →
    ((app k : ℕ) → k < done → taken app k ≡ given app k) → HavePlayed world taken done s → HavePlayed world given done s

-- the rows of a world that fits are in range
abbrev pub FittingAreInRange : Type 0
FittingAreInRange =
    (plant : Plant) (bundles : List Bundle) (world : World) → Fits plant bundles world →
    All (IsInRange (setup_of plant bundles)) (world_rows plant bundles world)

-- room for some cycles is room for one
room_for_one : (net : NetState) (left room : ℕ) → 0 < left → HasRoomFor net left room → HasRoomFor net 1 room
room_for_one net left room some has loads carries =
    let all = has loads carries in
    let one : 1 * net.most ≤ left * net.most = mul-le-mul_right net.most some in
    omega (arith, all, one)

-- an item of a list that is mapped
pub read_map : {X Y : Type 0} (f : X → Y) (xs : List X) (n : ℕ) (x : X) (d : Y) → slice_get xs n ≡ Some x → slice_index_or (map f xs) n d ≡ f x
read_map f xs n x d at = get_or_from_slice_get (map f xs) n (f x) d (slice_get-map f xs n ∙ ap (option_map f) at)

-- the words of an app in a cycle, out of its takes
words_at : (histories : List AppCycles) (n k : ℕ) (a : AppCycles) (g : Given) → slice_get histories n ≡ Some a → slice_get a.takes k ≡ Some g →
    words_taken (takes_in histories) n k ≡ g.words
words_at histories n k a g there at =
    ap (λ own. unwrap_or (option_map (λ (x : Given). x.words) (option_and_then (λ (takes : List Given). slice_get takes k) own)) [])
    (slice_get-map (λ (x : AppCycles). x.takes) histories n ∙ ap (option_map (λ (x : AppCycles). x.takes)) there)
    ∙ ap (λ o. unwrap_or (option_map (λ (x : Given). x.words) o) []) at

module _ (p : Parts) (state : IsState p) where
  abbrev left : ℕ
  left = length p.world.rows - p.done

  pub histories_count : length p.histories ≡ length p.apps
  histories_count = sym (length-map p.histories (λ (a : AppCycles). a.takes)) ∙ state.replay.cycles.takes ∙ ap length (sym state.planned.apps)

  -- an app of a history
  pub record OfApp (n : ℕ) (a : AppCycles) : Type 0 where
    pub app : App
    pub at : slice_get p.apps n ≡ Some app
    pub is : IsHistoryOf (net_setup p.net) (length p.world.rows - p.done) app a

  pub of_app : (n : ℕ) (a : AppCycles) → slice_get p.histories n ≡ Some a → OfApp n a
  of_app n a there =
      let (app, at) = some_at p.apps n (let within = slice_get_within p.histories n a there in omega (arith, within, histories_count)) in
      record { app = app; at = at; is = state.histories n app a at there }

  pub planned_at : (n : ℕ) (app : App) → slice_get p.apps n ≡ Some app → slice_get p.net.plant.apps n ≡ Some app
  planned_at n app at = ap (λ apps. slice_get apps n) (sym state.planned.apps) ∙ at

  -- all takes of an app so far
  pub takes_count : (n : ℕ) (a : AppCycles) → slice_get p.histories n ≡ Some a → length a.takes ≡ p.done
  takes_count n a there =
      let of = of_app n a there in
      ap length (sym (read_map (λ (x : AppCycles). x.takes) p.histories n a [] there))
      ∙ state.replay.cycles.taken n (slice_get_within p.net.plant.apps n of.app (planned_at n of.app of.at))

  pub images_count : (n : ℕ) (a : AppCycles) → slice_get p.histories n ≡ Some a → length a.images ≡ p.done
  images_count n a there =
      let of = of_app n a there in
      ap length (sym (read_map (λ (x : AppCycles). x.images) p.histories n a [] there))
      ∙ state.replay.cycles.published n (slice_get_within p.net.plant.apps n of.app (planned_at n of.app of.at))

  module _ (before : EndsView) (open_ : p.done < length p.world.rows) (serves : ServesPlant (view_of p) before) (fresh : IsFresh before) where
    some_left : 0 < length p.world.rows - p.done
    some_left = omega (arith, open_)

    place_of : (n : ℕ) (app : App) (a : AppCycles) → slice_get p.apps n ≡ Some app → slice_get p.histories n ≡ Some a → HasOutput p.outputs app a
    place_of n app a at there =
        let within = device_within p.net.plant state.planned.plan.rules n app (planned_at n app at) in
        let (words, stands) = some_at p.outputs app.device.0 (omega (arith, within, state.widths.count)) in
        record {
          words = words;
          at = stands;
          count = state.widths.each app.device.0 words stands ∙ sym (state.histories n app a at there).output_words;
        }

    pub can_take : CanTake p.apps p.histories p.outputs before
    can_take = record {
      own = subst HaveOwnDevices (sym state.planned.apps) (own_devices p.net.plant state.planned.plan.rules);
      count = histories_count;
      ends = serves.count ∙ ap length (sym state.planned.apps);
      room = λ n a there. let of = of_app n a there in omega (arith, of.is.take_room, some_left);
      words = λ n a there. let of = of_app n a there in serves.outputs n of.app (planned_at n of.app of.at) ∙ sym of.is.output_words;
      places = place_of;
      fresh = fresh.takes;
    }

    module _ (took : List AppCycles) (sent : List (List ℕ)) (during : EndsView)
        (takes : TakesAll p.apps p.histories took p.outputs sent before during) where
      abbrev taken : ℕ → ℕ → List ℕ
      taken = words_taken (takes_in took)

      -- a history after its take
      pub record OfTake (n : ℕ) (b : AppCycles) : Type 0 where
        pub old : AppCycles
        pub there : slice_get p.histories n ≡ Some old
        pub is : b ≡ with_take (before.offers n) old

      pub of_take : (n : ℕ) (b : AppCycles) → slice_get took n ≡ Some b → OfTake n b
      of_take n b at =
          let (a, there) = some_at p.histories n (let within = slice_get_within took n b at in omega (arith, within, takes.count)) in
          record { old = a; there = there; is = same_Some b _ (sym at ∙ takes.histories n a there) }

      -- what was taken in this cycle, and in those before
      pub taken_now : (n : ℕ) (a : AppCycles) → slice_get p.histories n ≡ Some a → taken n p.done ≡ (before.offers n).words
      taken_now n a there =
          words_at took n p.done (with_take (before.offers n) a) (before.offers n) (takes.histories n a there)
          (ap (slice_get (a.takes ++ before.offers n ∷ [])) (sym (takes_count n a there)) ∙ get_last a.takes (before.offers n))

      pub taken_before : (n k : ℕ) → k < p.done → words_taken (takes_in p.histories) n k ≡ taken n k
      taken_before n k below = by_history (slice_get p.histories n) refl
        where
          by_history : (o : Option AppCycles) → slice_get p.histories n ≡ o → words_taken (takes_in p.histories) n k ≡ taken n k
          by_history None none =
              let past = none_past p.histories n none in
              ap (λ own. unwrap_or (option_map (λ (x : Given). x.words) (option_and_then (λ (ts : List Given). slice_get ts k) own)) [])
              (slice_get-map (λ (x : AppCycles). x.takes) p.histories n ∙ ap (option_map (λ (x : AppCycles). x.takes)) none
              ∙ ap (option_map (λ (x : AppCycles). x.takes)) (sym (slice_get_past took n (omega (arith, past, takes.count))))
              ∙ sym (slice_get-map (λ (x : AppCycles). x.takes) took n))
          by_history (Some a) there =
              let (g, at) = some_at a.takes k (let count = takes_count n a there in omega (arith, count, below)) in
              words_at p.histories n k a g there at
              ∙ sym (words_at took n k (with_take (before.offers n) a) g (takes.histories n a there)
              (get_before a.takes (before.offers n) k (slice_get_within a.takes k g at) ∙ at))

      setup_apps : (device n : ℕ) (app : App) → slice_get p.net.plant.apps n ≡ Some app → slice_get p.apps n ≡ Some app
      setup_apps device n app at = ap (λ apps. slice_get apps n) state.planned.apps ∙ at

      -- of a device with an app
      history_of : (n : ℕ) (app : App) → slice_get p.apps n ≡ Some app → (a : AppCycles) × (slice_get p.histories n ≡ Some a)
      history_of n app at = some_at p.histories n (let within = slice_get_within p.apps n app at in omega (arith, within, histories_count))

      sent_by_app : (device n : ℕ) (app : App) → slice_get p.apps n ≡ Some app → app.device.0 ≡ device → (words : List ℕ) →
          slice_get sent device ≡ Some words → words ≡ (before.offers n).words
      sent_by_app device n app at on words stands = same_Some words _ (sym stands ∙ ap (slice_get sent) (sym on) ∙ takes.words n app at)

      pub widths : HaveWidths (net_setup p.net) sent
      widths = record {
        count = takes.places ∙ state.widths.count;
        each = λ device words stands. elim (app_cases p.net.plant device) [
          | inl (n, on, has) ↦
              let at = setup_apps device n has.app has.at in
              let (a, there) = history_of n has.app at in
              ap length (sent_by_app device n has.app at has.on words stands) ∙ takes.widths n a there
              ∙ (state.histories n has.app a at there).output_words ∙ ap (output_count (net_setup p.net)) has.on
          | inr (none, idle) ↦
              state.widths.each device words
              (sym (takes.idle device (λ n app at. idle n app (planned_at n app at))) ∙ stands)
        ];
      }

      outputs_sent : AreOutputs (net_setup p.net) taken p.done sent
      outputs_sent = record {
        count = takes.places ∙ state.widths.count;
        each = λ device words stands. elim (app_cases p.net.plant device) [
          | inl (n, on, has) ↦
              let at = setup_apps device n has.app has.at in
              let (a, there) = history_of n has.app at in
              sent_by_app device n has.app at has.on words stands ∙ sym (taken_now n a there)
              ∙ ap (λ o. option_map_or (λ app. taken app p.done) o (replicate (output_count (net_setup p.net) device) 0)) (sym on)
          | inr (none, idle) ↦
              state.idle device words (λ n app at. idle n app (planned_at n app at))
              (sym (takes.idle device (λ n app at. idle n app (planned_at n app at))) ∙ stands)
              ∙ ap (λ o. option_map_or (λ app. taken app p.done) o (replicate (output_count (net_setup p.net) device) 0)) (sym none)
        ];
      }

      module _ (rests : RestsOnDone) (ranges : FittingAreInRange) (row : Row) (stands : slice_get p.world.rows p.done ≡ Some row) where
        pub is_cycle : IsCycleOf (rows_of p) taken (loads_of p) p.done row sent p.net p.stations
        is_cycle = record {
          play = record {
            ranges = ranges p.net.plant p.net.bundles p.world state.planned.fits;
            in_cycle = slice_get-map (world_row p.net.plant p.net.bundles) p.world.rows p.done
                ∙ ap (option_map (world_row p.net.plant p.net.bundles)) stands;
          };
          sent = outputs_sent;
          carries = state.carries;
          played = rests (rows_of p) (words_taken (takes_in p.histories)) taken p.done p.stations taken_before state.played;
        }

        pub can_play : CanPlay p.done row sent p.images p.net p.stations p.journal.room
        can_play = record {
          plan = state.planned.plan;
          accepted = state.planned.accepted;
          same = state.planned.stations;
          fits = all_at (IsRowOf p.net.plant p.net.bundles) p.world.rows p.done row state.planned.fits stands;
          cycle = state.cycle;
          widths = widths;
          shown = state.images;
          room = room_for_one p.net (length p.world.rows - p.done) p.journal.room some_left state.room;
          world = rows_of p;
          taken = taken;
          loads = loads_of p;
          is = is_cycle;
          reached = record { world = rows_of p; played = is_cycle.play; carries = state.carries };
        }

      module _ (net : NetState) (stations : StationsState) (journal : Written) (images : List (List ℕ))
          (goes : GoesOn p.done p.net net stations p.journal journal images) where
        shown_at : (n : ℕ) (app : App) (image : List ℕ) → slice_get p.apps n ≡ Some app → slice_get images n ≡ Some image →
            length image ≡ input_count (net_setup p.net) app.device.0
        shown_at n app image at given =
            goes.shown.each n app image (ap (λ (x : Plant). slice_get x.apps n) goes.same.plant ∙ planned_at n app at) given
            ∙ ap (λ s. input_count s app.device.0)
            (ap (λ x. setup_of x net.bundles) goes.same.plant ∙ ap (setup_of p.net.plant) goes.same.bundles)

        pub can_publish : CanPublish took images during
        can_publish = record {
          count = goes.shown.count ∙ ap (λ (x : Plant). length x.apps) goes.same.plant ∙ ap length (sym state.planned.apps)
              ∙ sym histories_count ∙ sym takes.count;
          ends = takes.same.apps ∙ can_take.ends ∙ sym histories_count ∙ sym takes.count;
          room = λ n b at.
              let by = of_take n b at in
              let of = of_app n by.old by.there in
              let same = ap (λ (x : AppCycles). x.image_room) by.is in
              omega (arith, same, of.is.image_room, some_left);
          words = λ n b at.
              let by = of_take n b at in
              let of = of_app n by.old by.there in
              takes.same.input_words n ∙ serves.inputs n of.app (planned_at n of.app of.at) ∙ sym of.is.input_words
              ∙ sym (ap (λ (x : AppCycles). x.input_words) by.is);
          widths = λ n b image at given.
              let by = of_take n b at in
              let of = of_app n by.old by.there in
              shown_at n of.app image of.at given ∙ sym of.is.input_words ∙ sym (ap (λ (x : AppCycles). x.input_words) by.is);
          fresh = λ n. takes.published n ∙ fresh.published n;
        }
