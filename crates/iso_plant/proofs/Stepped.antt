-- The plant after a cycle.
use Rattle.std.proofs.Common.{◌≡◌, ℕ, suc, ◌+◌, ◌-◌, ◌<◌, ◌≤◌, List, [], ◌∷◌, ◌++◌, length, slice_get, Option, Some, None, inl, inr, refl, sym, ◌∙◌, ap, subst, arith, add-one}
use Rattle.std.specs.Prelude.{option_and_then, option_map, unwrap_or}
use Rattle.std.proofs.lemmas.List.{length-map, length_push}
use Rattle.std.proofs.lemmas.Option.{same_Some, slice_get-map, slice_get_within, slice_get_past}
use Rattle.cycle_frames.specs.declared.came.Came.{Came}
use Rattle.cycle_rows.specs.Journal.{IsJournal, more}
use Rattle.cycle_rows.specs.declared.rows.JournalRow.{JournalRow}
use Rattle.io_buffers.specs.Given.{Given}
use Rattle.irt_base.specs.declared.plants.App.{App}
use Rattle.irt_net.specs.Net.{Carries, HasRoomFor, IsSameNet, NetState}
use Rattle.irt_switch.specs.State.{SwitchState}
use Rattle.irt_world.specs.declared.rows.Row.{Row}
use Rattle.iso_rules.specs.Image.{IsImage}
use Rattle.iso_rules.specs.Lockstep.{words_taken}
use Rattle.parcel_rules.specs.Cycle.{loads_at}
use Rattle.parcel_rules.specs.Loads.{Loads}
use Rattle.parcel_rules.specs.Rows.{parcel_rows}
use Rattle.parcel_rules.specs.declared.handed.Handed.{Handed}
use Rattle.plan_rules.proofs.Held.{some_at}
use Rattle.plan_rules.specs.Way.{Setup}
use Rattle.plan_rules.specs.World.{WorldRow}
use Rattle.plant_stations.specs.Stations.{StationsState}
use Rattle.run_journal.specs.Written.{Written}
use Rattle.iso_plant.specs.Cycle.{IsNext}
use Rattle.iso_plant.specs.Exchanged.{PublishesAll, TakesAll}
use Rattle.iso_plant.specs.History.{AppCycles, with_image, with_take}
use Rattle.iso_plant.specs.Played.{GoesOn, HasPlayed, IsCycleOf, net_setup}
use Rattle.iso_plant.specs.Replay.{HasAllCycles, IsReplay, images_of, takes_of}
use Rattle.iso_plant.specs.State.{IsHistoryOf, IsState, Parts, loads_of, rows_of, takes_in, view_of}
use Rattle.iso_plant.specs.Step.{EndsView, IsFresh, ServesPlant, Steps, StepsApp}
use Rattle.iso_plant.proofs.Apps.{get_push, none_past}
use Rattle.iso_plant.proofs.Stepping.{FittingAreInRange, RestsOnDone, can_publish, histories_count, is_cycle, read_map, taken_before, widths}

-- an image rests on the cycles up to its own
abbrev pub RestsOnPast : Type 0
RestsOnPast =
    (setup : Setup) (world other : List WorldRow) (taken given : ℕ → ℕ → List ℕ) (device k : ℕ) (image : List ℕ) →
    ((c : ℕ) → c ≤ k → slice_get world c ≡ slice_get other c) → ((c app : ℕ) → c ≤ k → taken app c ≡ given app c) →
    IsImage setup world taken device k image → IsImage setup other given device k image

-- a network with these switches, and so on
abbrev pub moved : NetState → List SwitchState → List Handed → List Came → NetState
moved net switches flight came = record {
  plant = net.plant;
  bundles = net.bundles;
  walks = net.walks;
  switches = switches;
  flight = flight;
  came = came;
  most = net.most;
}

pub moved_is : (old new : NetState) → IsSameNet old new → moved old new.switches new.flight new.came ≡ new
moved_is old new same i = record {
  plant = sym same.plant i;
  bundles = sym same.bundles i;
  walks = sym same.walks i;
  switches = new.switches;
  flight = new.flight;
  came = new.came;
  most = sym same.most i;
}

-- lists with the same takes have the same words
same_words : (some other : List AppCycles) → ((n : ℕ) → slice_get (takes_in some) n ≡ slice_get (takes_in other) n) → (n k : ℕ) →
    words_taken (takes_in some) n k ≡ words_taken (takes_in other) n k
same_words some other same n k =
    ap (λ own. unwrap_or (option_map (λ (x : Given). x.words) (option_and_then (λ (ts : List Given). slice_get ts k) own)) []) (same n)

module _ (p : Parts) (state : IsState p) (before : EndsView) (below : p.done < length p.world.rows) (serves : ServesPlant (view_of p) before)
    (fresh : IsFresh before) (took : List AppCycles) (sent : List (List ℕ)) (during : EndsView)
    (takes : TakesAll p.apps p.histories took p.outputs sent before during)
    (rests : RestsOnDone) (ranges : FittingAreInRange) (past : RestsOnPast) (row : Row) (stands : slice_get p.world.rows p.done ≡ Some row)
    (switches : List SwitchState) (flight : List Handed) (came : List Came) (stations : StationsState) (journal : Written)
    (images : List (List ℕ)) (goes : GoesOn p.done p.net (moved p.net switches flight came) stations p.journal journal images)
    (played : (world : List WorldRow) (taken : ℕ → ℕ → List ℕ) (loads : Loads) →
    IsCycleOf world taken loads p.done row sent p.net p.stations →
    HasPlayed world taken loads p.done p.net (moved p.net switches flight came) stations p.journal journal images)
    (logs : List AppCycles) (after : EndsView) (publishes : PublishesAll took logs images during after) where
  abbrev pub next : Parts
  next = record {
    net = moved p.net switches flight came;
    stations = stations;
    world = p.world;
    journal = journal;
    done = p.done + 1;
    apps = p.apps;
    histories = logs;
    outputs = sent;
    images = images;
  }

  abbrev taken : ℕ → ℕ → List ℕ
  taken = words_taken (takes_in took)

  run : HasPlayed (rows_of p) taken (loads_of p) p.done p.net (moved p.net switches flight came) stations p.journal journal images
  run = played (rows_of p) taken (loads_of p) (is_cycle p state before below serves fresh took sent during takes rests ranges row stands)

  logs_count : length logs ≡ length p.apps
  logs_count = publishes.count ∙ takes.count ∙ histories_count p state

  -- an app before and after the cycle
  record OfCycle (n : ℕ) (c : AppCycles) : Type 0 where
    pub old : AppCycles
    pub there : slice_get p.histories n ≡ Some old
    pub image : List ℕ
    pub given : slice_get images n ≡ Some image
    pub is : c ≡ with_image image (with_take (before.offers n) old)

  of_cycle : (n : ℕ) (c : AppCycles) → slice_get logs n ≡ Some c → OfCycle n c
  of_cycle n c at =
      let within = slice_get_within logs n c at in
      let (a, there) = some_at p.histories n (omega (arith, within, logs_count, histories_count p state)) in
      let (image, given) = some_at images n (let count = (can_publish p state before below serves fresh took sent during takes _ _ _ _ goes).count in
      omega (arith, within, count, publishes.count)) in
      record {
        old = a;
        there = there;
        image = image;
        given = given;
        is = same_Some c _ (sym at ∙ publishes.histories n _ image (takes.histories n a there) given);
      }

  log_at : (n : ℕ) → n < length p.net.plant.apps → (c : AppCycles) × (slice_get logs n ≡ Some c)
  log_at n within = some_at logs n (let same = ap length state.planned.apps in omega (arith, within, same, logs_count))

  -- ---- what was taken

  same_takes : (n : ℕ) → slice_get (takes_in took) n ≡ slice_get (takes_in logs) n
  same_takes n = by_log (slice_get logs n) refl
    where
      by_log : (o : Option AppCycles) → slice_get logs n ≡ o → slice_get (takes_in took) n ≡ slice_get (takes_in logs) n
      by_log None none =
          let far = none_past logs n none in
          slice_get_past (takes_in took) n (let count = length-map took (λ (x : AppCycles). x.takes) in omega (arith, far, publishes.count, count))
          ∙ sym (slice_get-map (λ (x : AppCycles). x.takes) logs n ∙ ap (option_map (λ (x : AppCycles). x.takes)) none)
      by_log (Some c) at =
          let of = of_cycle n c at in
          slice_get-map (λ (x : AppCycles). x.takes) took n ∙ ap (option_map (λ (x : AppCycles). x.takes)) (takes.histories n of.old of.there)
          ∙ ap (λ (x : AppCycles). Some x.takes) (sym of.is)
          ∙ sym (slice_get-map (λ (x : AppCycles). x.takes) logs n ∙ ap (option_map (λ (x : AppCycles). x.takes)) at)

  taken_after : (n k : ℕ) → taken n k ≡ words_taken (takes_in logs) n k
  taken_after = same_words took logs same_takes

  -- ---- the replay

  takes_grow : (n : ℕ) (c : AppCycles) (at : slice_get logs n ≡ Some c) → takes_of n (view_of next) ≡ takes_of n (view_of p) ++ before.offers n ∷ []
  takes_grow n c at =
      let of = of_cycle n c at in
      read_map (λ (x : AppCycles). x.takes) logs n c [] at ∙ ap (λ (x : AppCycles). x.takes) of.is
      ∙ ap (λ ts. ts ++ before.offers n ∷ []) (sym (read_map (λ (x : AppCycles). x.takes) p.histories n of.old [] of.there))

  images_grow : (n : ℕ) (c : AppCycles) (of : OfCycle n c) → slice_get logs n ≡ Some c →
      images_of n (view_of next) ≡ images_of n (view_of p) ++ of.image ∷ []
  images_grow n c of at =
      read_map (λ (x : AppCycles). x.images) logs n c [] at ∙ ap (λ (x : AppCycles). x.images) of.is
      ∙ ap (λ ts. ts ++ of.image ∷ []) (sym (read_map (λ (x : AppCycles). x.images) p.histories n of.old [] of.there))

  cycles : HasAllCycles (view_of next)
  cycles = record {
    takes = length-map logs (λ (x : AppCycles). x.takes) ∙ logs_count ∙ ap length state.planned.apps;
    images = length-map logs (λ (x : AppCycles). x.images) ∙ logs_count ∙ ap length state.planned.apps;
    taken = λ n within.
        let (c, at) = log_at n within in
        ap length (takes_grow n c at) ∙ length_push (takes_of n (view_of p)) (before.offers n) ∙ ap (λ m. m + 1) (state.replay.cycles.taken n within);
    published = λ n within.
        let (c, at) = log_at n within in
        let of = of_cycle n c at in
        ap length (images_grow n c of at) ∙ length_push (images_of n (view_of p)) of.image ∙ ap (λ m. m + 1) (state.replay.cycles.published n within);
  }

  true_images : (n k : ℕ) (app : App) (image : List ℕ) → slice_get p.net.plant.apps n ≡ Some app → slice_get (images_of n (view_of next)) k ≡ Some image →
      IsImage (net_setup p.net) (rows_of p) (words_taken (takes_in logs)) app.device.0 k image
  true_images n k app image at shown =
      let within = slice_get_within p.net.plant.apps n app at in
      let (c, there) = log_at n within in
      let of = of_cycle n c there in
      let count = state.replay.cycles.published n within in
      elim (get_push (images_of n (view_of p)) of.image k image (ap (λ list. slice_get list k) (sym (images_grow n c of there)) ∙ shown)) [
        | inl first ↦
            let short : k < p.done = let end = slice_get_within (images_of n (view_of p)) k image first in omega (arith, end, count) in
            past (net_setup p.net) (rows_of p) (rows_of p) (words_taken (takes_in p.histories)) (words_taken (takes_in logs)) app.device.0 k image
            (λ j up. refl)
            (λ j number up.
            taken_before p state before below serves fresh took sent during takes number j (omega (arith, up, short)) ∙ taken_after number j)
            (state.replay.images n k app image at first)
        | inr last ↦
            past (net_setup p.net) (rows_of p) (rows_of p) taken (words_taken (takes_in logs)) app.device.0 k image (λ j up. refl)
            (λ j number up. taken_after number j)
            (subst (λ x. IsImage (net_setup p.net) (rows_of p) taken app.device.0 k x) last.1
            (subst (λ j. IsImage (net_setup p.net) (rows_of p) taken app.device.0 j of.image) (sym (last.0 ∙ count))
            (run.shown.each n app of.image at of.given)))
      ]

  abbrev parcels : ℕ → List JournalRow
  parcels = parcel_rows p.net.plant p.net.bundles p.net.walks (rows_of p)

  grown : IsJournal (net_setup p.net) (rows_of p) parcels (p.done + 1) journal.rows
  grown =
      subst (λ m. IsJournal (net_setup p.net) (rows_of p) parcels m journal.rows) (sym (add-one p.done))
      (subst (IsJournal (net_setup p.net) (rows_of p) parcels (suc p.done)) (sym run.rows.rows)
      (more p.done p.journal.rows run.rows.frames state.replay.journal run.rows.segment))

  replay : IsReplay (view_of next)
  replay = record { within = omega (arith, below); cycles = cycles; images = true_images; journal = grown }

  -- ---- the state

  carried : Carries next.net (loads_of next)
  carried =
      subst (λ m. Carries next.net (loads_at p.net.plant p.net.bundles p.net.walks (rows_of p) m)) (sym (add-one p.done)) run.rows.carries

  one_less : (length p.world.rows - (p.done + 1)) + 1 ≡ length p.world.rows - p.done
  one_less = omega (arith, below)

  logged : (n : ℕ) (app : App) (c : AppCycles) → slice_get p.apps n ≡ Some app → slice_get logs n ≡ Some c →
      IsHistoryOf (net_setup p.net) (length p.world.rows - (p.done + 1)) app c
  logged n app c at there =
      let of = of_cycle n c there in
      let was = state.histories n app of.old at of.there in
      record {
        take_room = ap (λ (x : AppCycles). x.take_room) of.is ∙ omega (arith, was.take_room, below);
        image_room = ap (λ (x : AppCycles). x.image_room) of.is ∙ omega (arith, was.image_room, below);
        output_words = ap (λ (x : AppCycles). x.output_words) of.is ∙ was.output_words;
        input_words = ap (λ (x : AppCycles). x.input_words) of.is ∙ was.input_words;
      }

  next_state : IsState next
  next_state = record {
    planned = record {
      plan = state.planned.plan;
      accepted = state.planned.accepted;
      stations = goes.plan;
      apps = state.planned.apps;
      fits = state.planned.fits;
      cycles = state.planned.cycles;
    };
    replay = replay;
    carries = carried;
    played = rests (rows_of p) taken (words_taken (takes_in logs)) (p.done + 1) stations (λ n k up. taken_after n k) run.played;
    cycle = goes.cycle;
    room = goes.room (length p.world.rows - (p.done + 1)) (subst (λ m. HasRoomFor p.net m p.journal.room) (sym one_less) state.room);
    histories = logged;
    widths = widths p state before below serves fresh took sent during takes;
    idle = λ device words idle at. state.idle device words idle (sym (takes.idle device idle) ∙ at);
    images = goes.shown;
  }

  stepped : (n : ℕ) → n < length p.net.plant.apps → StepsApp (view_of p) (view_of next) before after n
  stepped n within =
      let (c, at) = log_at n within in
      let of = of_cycle n c at in
      record {
        image = of.image;
        take = takes_grow n c at;
        taken = publishes.taken n ∙ takes.taken n (let same = ap length state.planned.apps in omega (arith, within, same));
        shown = images_grow n c of at;
        published = publishes.published n of.image of.given;
      }

  steps : Steps (view_of p) (view_of next) before after
  steps = record {
    same = record { plant = refl; bundles = refl; walks = refl; world = refl };
    done = refl;
    apps = stepped;
    ends = publishes.same.apps ∙ takes.same.apps;
    output_words = λ n. publishes.same.output_words n ∙ takes.same.output_words n;
    input_words = λ n. publishes.same.input_words n ∙ takes.same.input_words n;
  }

-- ---- both

abbrev pub parts_after : Parts → NetState → StationsState → Written → List (List ℕ) → List (List ℕ) → List AppCycles → Parts
parts_after p net stations journal sent images logs = record {
  net = net;
  stations = stations;
  world = p.world;
  journal = journal;
  done = p.done + 1;
  apps = p.apps;
  histories = logs;
  outputs = sent;
  images = images;
}

pub is_next : (p : Parts) (state : IsState p) (before : EndsView) (below : p.done < length p.world.rows) (serves : ServesPlant (view_of p) before)
    (fresh : IsFresh before) (took : List AppCycles) (sent : List (List ℕ)) (during : EndsView)
    (takes : TakesAll p.apps p.histories took p.outputs sent before during) → RestsOnDone → FittingAreInRange → RestsOnPast →
    (row : Row) → slice_get p.world.rows p.done ≡ Some row → (net : NetState) (stations : StationsState) (journal : Written)
    (images : List (List ℕ)) → GoesOn p.done p.net net stations p.journal journal images →
    ((world : List WorldRow) (taken : ℕ → ℕ → List ℕ) (loads : Loads) → IsCycleOf world taken loads p.done row sent p.net p.stations →
    HasPlayed world taken loads p.done p.net net stations p.journal journal images) →
    (logs : List AppCycles) (after : EndsView) → PublishesAll took logs images during after →
    IsNext p (parts_after p net stations journal sent images logs) before after
is_next p state before below serves fresh took sent during takes rests ranges past row stands net stations journal images goes played logs after publishes =
    subst
    (λ n. GoesOn p.done p.net n stations p.journal journal images →
    ((world : List WorldRow) (taken : ℕ → ℕ → List ℕ) (loads : Loads) → IsCycleOf world taken loads p.done row sent p.net p.stations →
    HasPlayed world taken loads p.done p.net n stations p.journal journal images) →
    IsNext p (parts_after p n stations journal sent images logs) before after)
    (moved_is p.net net goes.same)
    (λ on has. record {
      holds = next_state p state before below serves fresh took sent during takes rests ranges past row stands net.switches net.flight net.came
          stations journal images on has logs after publishes;
      steps = steps p state before below serves fresh took sent during takes rests ranges past row stands net.switches net.flight net.came
          stations journal images on has logs after publishes;
    })
    goes played
