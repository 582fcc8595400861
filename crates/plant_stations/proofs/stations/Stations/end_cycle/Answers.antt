use Rattle.std.proofs.Common.{◌≡◌, ℕ, ◌+◌, ◌++◌, List, All, length, take, drop, sym, subst, arith}
use Rattle.cycle_frames.specs.Came.{HaveCome}
use Rattle.irt_base.specs.declared.plants.App.{App}
use Rattle.iso_station.specs.Consumer.{ConsumerState}
use Rattle.plant_stations.specs.Loaded.{AreLoaded}
use Rattle.plant_stations.specs.Stations.{StationsState, setup_in, AreInCycle, HavePlayed, AreImages, AreTrueImages}
use Rattle.plant_stations.specs.Taken.{CanPlay, PlayCycle}
use Rattle.plant_stations.specs.Whole.{AreStations}
use Rattle.plant_stations.proofs.Ending.{in_place_of, can_play, next_consumers, next_cycle, next_images, next_played, next_true}
use Rattle.plant_stations.proofs.stations.Stations.end_cycle.Goals as goal

pub play_all-requires-clause-ready : goal.play_all-requires-clause-ready
play_all-requires-clause-ready c =
    let held = c.self.invariant in
    let old = c.self.inside.receivers.items in
    let now = subst (AreInCycle c.args.k) (sym c.self.view_is) c.requires.cycle in
    let wide = subst (λ (s : StationsState). AreImages s.plant (setup_in s) c.args.images.now) (sym c.self.view_is) c.requires.images in
    subst (λ (apps : List App). CanPlay apps c.args.k c.as_mut_slice.result.now c.args.images.now) (sym c.as_slice.ensures)
    (subst (λ (xs : List ConsumerState). CanPlay c.self.inside.plant.apps c.args.k xs c.args.images.now) (sym c.as_mut_slice.ensures.value)
    (can_play c.self.inside.plant c.self.inside.bundles held.plan c.args.k old c.args.images.now held.consume now wide))

module _ (c : goal.After-images-1) where
  abbrev old : List ConsumerState
  old = c.self.inside.receivers.items

  abbrev new : List ConsumerState
  new = c.play_all.new.receivers

  abbrev images : List (List ℕ)
  images = c.play_all.new.images

  now : AreInCycle c.args.k (record { plant = c.self.inside.plant; bundles = c.self.inside.bundles; consumers = old; frames = c.self.inside.frames })
  now = subst (AreInCycle c.args.k) (sym c.self.view_is) c.requires.cycle

  play : PlayCycle c.self.inside.plant.apps c.self.inside.frames c.args.came.now old new images
  play =
      subst (λ (apps : List App). PlayCycle apps c.self.inside.frames c.args.came.now old new images) c.as_slice.ensures
      (subst (λ (xs : List ConsumerState). PlayCycle c.as_slice.result.now c.self.inside.frames c.args.came.now xs new images) c.as_mut_slice.ensures.value
      c.play_all.ensures)

  whole : take c.self.inside.receivers.len (new ++ drop (length new) old) ≡ new
  whole =
      let count = play.count in
      let counts = c.self.invariant.consume.count in
      let long = c.self.inside.receivers.ok.0 in
      in_place_of new old c.self.inside.receivers.len (omega (arith, count, counts, long))

pub invariant_of-self : goal.invariant_of-self
invariant_of-self c =
    let held = c.self.invariant in
    subst (λ (xs : List ConsumerState). AreStations c.self.inside.plant c.self.inside.bundles c.self.inside.senders.items xs c.self.inside.frames) (sym (whole c))
    (record {
      plan = held.plan;
      accepted = held.accepted;
      provide = held.provide;
      consume = next_consumers c.self.inside.plant c.self.inside.bundles held.plan c.args.k c.self.inside.frames c.args.came.now (old c) (new c) (images c)
          held.consume (now c) (play c);
      room = held.room;
    })

pub returns-clause-played : goal.returns-clause-played
returns-clause-played c =
    let held = c.self.invariant in
    let plant = c.self.inside.plant in
    let bundles = c.self.inside.bundles in
    let frames = c.self.inside.frames in
    λ world taken.
    subst (λ (s : StationsState). HavePlayed world taken c.args.k s → AreLoaded (setup_in s) taken c.args.k s.frames →
    HaveCome (setup_in s) world c.args.k c.args.came.now →
    HavePlayed world taken (c.args.k + 1) (record { plant = plant; bundles = bundles; consumers = take c.self.inside.receivers.len (new c ++ drop (length (new c)) (old c)); frames = frames }))
    c.self.view_is
    (λ played loaded have.
    subst (λ (xs : List ConsumerState). HavePlayed world taken (c.args.k + 1) (record { plant = plant; bundles = bundles; consumers = xs; frames = frames })) (sym (whole c))
    (next_played plant bundles held.plan c.args.k frames c.args.came.now (old c) (new c) (images c) held.consume (now c) (play c)
    held.accepted world taken frames played loaded have frames))

pub returns-clause-images : goal.returns-clause-images
returns-clause-images c =
    let held = c.self.invariant in
    let plant = c.self.inside.plant in
    let bundles = c.self.inside.bundles in
    let frames = c.self.inside.frames in
    λ world taken.
    subst (λ (s : StationsState). HavePlayed world taken c.args.k s → AreLoaded (setup_in s) taken c.args.k s.frames →
    HaveCome (setup_in s) world c.args.k c.args.came.now → AreTrueImages (setup_in s) world taken c.args.k (images c))
    c.self.view_is
    (λ played loaded have.
    next_true plant bundles held.plan c.args.k frames c.args.came.now (old c) (new c) (images c) held.consume (now c) (play c)
    held.accepted world taken frames played loaded have c.consumers_hold.ensures c.held_arrivals_are_parts.ensures)

pub returns-clause-widths : goal.returns-clause-widths
returns-clause-widths c =
    subst (λ (s : StationsState). AreImages s.plant (setup_in s) (images c)) c.self.view_is
    (next_images c.self.inside.plant c.self.inside.bundles c.self.invariant.plan c.args.k c.self.inside.frames c.args.came.now (old c) (new c) (images c)
    c.self.invariant.consume (now c) (play c))

pub returns-clause-cycle : goal.returns-clause-cycle
returns-clause-cycle c =
    subst (All (λ (x : ConsumerState). x.cycle ≡ c.args.k + 1)) (sym (whole c))
    (next_cycle c.self.inside.plant c.self.inside.bundles c.self.invariant.plan c.args.k c.self.inside.frames c.args.came.now (old c) (new c) (images c)
    c.self.invariant.consume (now c) (play c))
