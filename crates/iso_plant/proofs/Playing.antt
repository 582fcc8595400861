-- A cycle of the network and its stations.
use Rattle.std.proofs.Common.{◌≡◌, ℕ, ◌<◌, List, length, Some, slice_get, All, refl, sym, ◌∙◌, ap, subst}
use Rattle.std.proofs.lemmas.Bool.{eq-eqb}
use Rattle.std.proofs.lemmas.Option.{same_Some, slice_get_within}
use Rattle.cycle_frames.specs.Bytes.{AreFramesOf}
use Rattle.cycle_frames.specs.Came.{HaveCome}
use Rattle.cycle_frames.specs.declared.came.Came.{Came}
use Rattle.cycle_rows.proofs.Lists.{all_of}
use Rattle.irt_base.specs.declared.blocks.Bundle.{Bundle}
use Rattle.irt_base.specs.declared.plants.Demand.{Demand}
use Rattle.irt_base.specs.declared.plants.Plant.{Plant}
use Rattle.irt_net.specs.Net.{NetState}
use Rattle.irt_world.specs.declared.rows.Row.{Row}
use Rattle.iso_station.specs.Consumer.{ConsumerState}
use Rattle.plan_rules.specs.Once.{HasToReach, IsDueFrame}
use Rattle.plan_rules.specs.Places.{IsAccepted}
use Rattle.plan_rules.specs.Plan.{IsPlan, setup_of}
use Rattle.plan_rules.specs.World.{WorldRow}
use Rattle.plant_rules.specs.Words.{same_frame}
use Rattle.plant_stations.specs.Loaded.{AreLoaded, AreOutputs}
use Rattle.plant_stations.specs.Stations.{AreTrueImages, HavePlayed, StationsState, setup_in}
use Rattle.iso_plant.specs.Played.{CanPlay, net_setup}
use Rattle.iso_plant.proofs.Lists.{key_found}

-- what is loaded on accepted plans are frames of their demands
abbrev pub LoadedAreDemanded : Type 0
LoadedAreDemanded =
    (plant : Plant) (bundles : List Bundle) → IsPlan plant bundles → IsAccepted plant bundles → (taken : ℕ → ℕ → List ℕ) (k : ℕ)
    (frames : List (List ℕ)) → AreLoaded (setup_of plant bundles) taken k frames → AreFramesOf (setup_of plant bundles) k frames

-- the frames of other stations do not matter to what was played
stays_played : (world : List WorldRow) (taken : ℕ → ℕ → List ℕ) (k : ℕ) (old new : StationsState) → new.plant ≡ old.plant →
    new.bundles ≡ old.bundles → new.consumers ≡ old.consumers → HavePlayed world taken k old → HavePlayed world taken k new
stays_played world taken k old new plant bundles consumers was =
    let so : Plant → List Bundle → List ConsumerState → Type 0 =
    λ p b c. HavePlayed world taken k (record { plant = p; bundles = b; consumers = c; frames = new.frames }) in
    let start : so old.plant old.bundles old.consumers = record { count = was.count; each = was.each } in
    subst (λ c. so new.plant new.bundles c) (sym consumers)
    (subst (λ b. so new.plant b old.consumers) (sym bundles) (subst (λ p. so p old.bundles old.consumers) (sym plant) start))

-- a frame that has to reach a device is due, by its demand
is_due : (plant : Plant) (bundles : List Bundle) → IsPlan plant bundles → (world : List WorldRow) (k device number : ℕ) (d : Demand) →
    slice_get plant.demands number ≡ Some d → HasToReach (setup_of plant bundles) world k device d.frame.0 →
    IsDueFrame (setup_of plant bundles) k d.frame.0 d
is_due plant bundles plan world k device number d at reaches =
    let found = key_found same_frame (λ (x : Demand). x.frame.0) (λ x y is. eq-eqb x.frame.0 y.frame.0 is) plant.demands plan.rules.frames_differ
    number d.frame.0 d at refl in
    subst (IsDueFrame (setup_of plant bundles) k d.frame.0) (same_Some reaches.demand d (sym reaches.due.demanded ∙ found)) reaches.due

module _ (k : ℕ) (row : Row) (outputs images : List (List ℕ)) (net : NetState) (old new : StationsState) (space : ℕ)
    (ready : CanPlay k row outputs images net old space) (plant : new.plant ≡ old.plant) (bundles : new.bundles ≡ old.bundles)
    (load : (taken : ℕ → ℕ → List ℕ) → AreOutputs (setup_in old) taken k outputs → AreLoaded (setup_in old) taken k new.frames) where
  first_setup : setup_in old ≡ net_setup net
  first_setup = ap (λ p. setup_of p old.bundles) ready.same.plant ∙ ap (setup_of net.plant) ready.same.bundles

  pub same_setup : setup_in new ≡ net_setup net
  same_setup = ap (λ p. setup_of p new.bundles) plant ∙ ap (setup_of old.plant) bundles ∙ first_setup

  loaded : (taken : ℕ → ℕ → List ℕ) → AreOutputs (net_setup net) taken k outputs → AreLoaded (net_setup net) taken k new.frames
  loaded taken sent =
      subst (λ s. AreLoaded s taken k new.frames) first_setup (load taken (subst (λ s. AreOutputs s taken k outputs) (sym first_setup) sent))

  pub frames_ready : LoadedAreDemanded → (frames : List (List ℕ)) → frames ≡ new.frames → AreFramesOf (net_setup net) k frames
  frames_ready law frames is =
      subst (AreFramesOf (net_setup net) k) (sym is) (law net.plant net.bundles ready.plan ready.accepted ready.taken k new.frames (loaded ready.taken ready.is.sent))

  pub came_within : (came : List Came) → HaveCome (net_setup net) ready.world k came → All (λ (c : Came). c.demand < length new.frames) came
  came_within came come = all_of (λ (c : Came). c.demand < length new.frames) came (λ c has.
      let (d, at) = come.demanded c has in
      let due = is_due net.plant net.bundles ready.plan ready.world k c.device.0 c.demand d at ((come.each c d at).0 has) in
      let has_frame = loaded ready.taken ready.is.sent c.demand d at due in
      slice_get_within new.frames c.demand _ has_frame.layout)

  -- what end_cycle asks, for any world
  module _ (consumers : new.consumers ≡ old.consumers) (world : List WorldRow) (taken : ℕ → ℕ → List ℕ) where
    pub still_played : HavePlayed world taken k old → HavePlayed world taken k new
    still_played = stays_played world taken k old new plant bundles consumers

    pub is_loaded : AreOutputs (net_setup net) taken k outputs → AreLoaded (setup_in new) taken k new.frames
    is_loaded sent = subst (λ s. AreLoaded s taken k new.frames) (sym same_setup) (loaded taken sent)

    pub have_come : (came list : List Came) → list ≡ came → HaveCome (net_setup net) world k came → HaveCome (setup_in new) world k list
    have_come came list is come =
        subst (λ s. HaveCome s world k list) (sym same_setup) (subst (HaveCome (net_setup net) world k) (sym is) come)

    pub true_images : (shown : List (List ℕ)) → AreTrueImages (setup_in new) world taken k shown → AreTrueImages (net_setup net) world taken k shown
    true_images shown are = subst (λ s. AreTrueImages s world taken k shown) same_setup are
