-- What is told of an arrival, and the answer to it.
use Rattle.std.proofs.Common.{◌≡◌, ℕ, ◌<◌, ◌==◌, List, length, Some, slice_get, slice_index_or, option_and_then, unwrap_or, refl, sym, ◌∙◌, ap, subst, arith}
use Rattle.std.specs.Prelude.{ℤ, ◌+ℤ◌, ◌-ℤ◌}
use Rattle.std.proofs.lemmas.Bool.{eqb-true}
use Rattle.std.proofs.lemmas.Int.{ints}
use Rattle.std.proofs.lemmas.List.Elements.{All-get_or}
use Rattle.std.proofs.lemmas.Option.{same_Some, slice_get_within, get_or_from_slice_get}
use Rattle.irt_base.specs.Valid.{IsBundle}
use Rattle.irt_base.specs.declared.blocks.Bundle.{Bundle}
use Rattle.irt_base.specs.declared.plants.Demand.{Demand}
use Rattle.irt_base.specs.declared.plants.Plant.{Plant}
use Rattle.plant_rules.specs.Meets.{MeetsRules, IsDemand}
use Rattle.plan_rules.specs.Once.{IsDueFrame}
use Rattle.plan_rules.specs.Tree.{demand_of}
use Rattle.plan_rules.proofs.Wires.{found}
use Rattle.irt_switch.specs.Arrive.{action_of, frame_of}
use Rattle.irt_switch.specs.Played.{TakesBridge}
use Rattle.irt_switch.specs.State.{SwitchState, HasPort}
use Rattle.irt_world.specs.Forwardings.{number_in}
use Rattle.irt_world.specs.declared.rows.Row.{Row}
use Rattle.irt_world.specs.declared.forwardings.Forwarding.{Forwarding}
use Rattle.cycle_events.specs.declared.events.Event.{Event}
use Rattle.cycle_events.specs.declared.events.What.TheVariants.{Arrive}
use Rattle.cycle_events.specs.Events.{Play, arrival_of}
use Rattle.cycle_events.specs.Run.{IsNearEvent}
use Rattle.switch_events.specs.Answered.{AnswersAreEvents, ForSwitches, IsAnswer, Tells}
use Rattle.net_begin.specs.Clocks.{begin_of}
use Rattle.net_site.specs.Site.{SiteState, bundles_of}
use Rattle.net_turns.specs.Bytes.{bytes_of}
use Rattle.net_turns.specs.Known.{IsDemanded, EventsAreDemanded, IsPortOf, ArrivalsHavePorts}
use Rattle.cycle_frames.specs.Bytes.{IsFrameOf}
use Rattle.net_frames.specs.Playing.{IsPlaying, play_by, told_of}
use Rattle.net_frames.proofs.Demanded.{counted}
use Rattle.net_frames.proofs.Playing.{of_switches}
use Rattle.net_frames.proofs.Starting.{at_mapped, mapped_at}

-- the demand that asks for a frame has its FrameID
pub demand_frame : (plant : Plant) → MeetsRules plant → (frame : ℕ) (demand : Demand) → demand_of plant frame ≡ Some demand → demand.frame.0 ≡ frame
demand_frame plant rules frame demand is =
    let (same, valid) = found (λ (d : Demand). d.frame.0 == frame) (IsDemand plant) plant.demands demand rules.demands is in
    eqb-true demand.frame.0 frame same

-- a switch that has the port
record IsAsked (switches : List SwitchState) (device port : ℕ) : Type 0 where
  pub s : SwitchState
  pub there : slice_get switches device ≡ Some s
  pub valid : IsBundle s.bundle
  pub has : HasPort s.bundle port

-- the bytes of a frame
record HasBytes (frames : List (List ℕ)) (number : ℕ) (demand : Demand) : Type 0 where
  pub bytes : List ℕ
  pub there : slice_get frames number ≡ Some bytes
  pub frame : IsFrameOf demand bytes

module _ (site : SiteState) (row : Row) (k : ℕ) (switches : List SwitchState) (frames : List (List ℕ)) (playing : IsPlaying site row k switches frames)
    (arrival : Event) (arrives : arrival.what ≡ Arrive) (near : IsNearEvent (play_by site.plant switches row k) arrival) where
  abbrev play : Play
  play = play_by site.plant switches row k

  asked : ForSwitches ArrivalsHavePorts → IsAsked switches arrival.device.0 arrival.port.0
  asked law =
      let plan = playing.plan in
      let at : IsPortOf (bundles_of switches) arrival.device.0 arrival.port.0 =
      of_switches ArrivalsHavePorts law site row k switches frames playing arrival arrives near.happens in
      let (s, there, same) = at_mapped (λ (x : SwitchState). x.bundle) switches arrival.device.0 at.bundle at.held in
      let valid = All-get_or IsBundle (bundles_of switches) arrival.device.0 at.bundle (slice_get_within (bundles_of switches) arrival.device.0 at.bundle at.held) plan.plan.blocks in
      record {
        s = s;
        there = there;
        valid = subst IsBundle (get_or_from_slice_get (bundles_of switches) arrival.device.0 at.bundle at.bundle at.held ∙ sym same) valid;
        has = subst (λ (b : Bundle). HasPort b arrival.port.0) (sym same) at.has;
      }

  pub device_below : ForSwitches ArrivalsHavePorts → (place : ℕ) → place ≡ arrival.device.0 → place < length switches
  device_below law place at = let is = asked law in subst (λ n. n < length switches) (sym at) (slice_get_within switches arrival.device.0 is.s is.there)

  pub switch_at : ForSwitches ArrivalsHavePorts → (place : ℕ) → place ≡ arrival.device.0 → (s : SwitchState) → s ≡ slice_index_or switches place s →
      (slice_get switches arrival.device.0 ≡ Some s) × IsBundle s.bundle × HasPort s.bundle arrival.port.0
  switch_at law place at s is =
      let has = asked law in
      let same : has.s ≡ s = sym (get_or_from_slice_get switches arrival.device.0 has.s s has.there) ∙ (sym (ap (λ n. slice_index_or switches n s) at) ∙ sym is) in (
        has.there ∙ ap Some same,
        subst (λ (x : SwitchState). IsBundle x.bundle) same has.valid,
        subst (λ (x : SwitchState). HasPort x.bundle arrival.port.0) same has.has,
      )

  known : ForSwitches EventsAreDemanded → IsDemanded play arrival
  known law = of_switches EventsAreDemanded law site row k switches frames playing arrival near.happens

  held_bytes : (law : ForSwitches EventsAreDemanded) (number : ℕ) → slice_get site.plant.demands number ≡ demand_of site.plant arrival.frame.0 →
      HasBytes frames number (known law).demand
  held_bytes law number is =
      let it = known law in
      let frame = demand_frame site.plant playing.plan.plan.rules arrival.frame.0 it.demand it.frame.demanded in
      let due = subst (λ n. IsDueFrame play.setup k n it.demand) (sym frame) it.frame in
      let (bytes, there, of) = playing.bytes number it.demand (is ∙ it.frame.demanded) due in
      record { bytes = bytes; there = there; frame = of }

  pub number_below : ForSwitches EventsAreDemanded → (number : ℕ) → slice_get site.plant.demands number ≡ demand_of site.plant arrival.frame.0 → number < length frames
  number_below law number is = let it = held_bytes law number is in slice_get_within frames number it.bytes it.there

  told : (law : ForSwitches EventsAreDemanded) (bytes : List ℕ) → IsFrameOf (known law).demand bytes → (begin : ℤ) → begin ≡ begin_of site.plant row k arrival.device.0 →
      Tells play arrival (told_of begin arrival bytes)
  told law bytes of begin is =
      let it = known law in
      record {
        demand = it.demand;
        fields = of.fields;
        demanded = it.frame.demanded;
        read = ap frame_of of.told;
        frame = of.frame ∙ demand_frame site.plant playing.plan.plan.rules arrival.frame.0 it.demand it.frame.demanded;
        count = of.count;
        port = refl;
        time = subst (λ b. (b +ℤ (arrival.at -ℤ begin)) ≡ arrival.at) is (back begin arrival.at);
      }
    where
      back : (a b : ℤ) → (a +ℤ (b -ℤ a)) ≡ b
      back a b = omega (arith, ints)

  pub answered : (demanded : ForSwitches EventsAreDemanded) → ForSwitches AnswersAreEvents → (number : ℕ) (bytes : List ℕ) (s : SwitchState) (begin : ℤ) (bridge : ℕ) →
      slice_get site.plant.demands number ≡ demand_of site.plant arrival.frame.0 → slice_get frames number ≡ Some bytes → slice_get switches arrival.device.0 ≡ Some s →
      begin ≡ begin_of site.plant row k arrival.device.0 →
      bridge ≡ unwrap_or (option_and_then (slice_get row.bridges) (number_in site.delays arrival.device.0 arrival.frame.0)) 0 →
      IsAnswer play arrival (bytes_of site.plant arrival.frame.0) (action_of s.bundle s.cycle s.in_step (told_of begin arrival bytes) bridge)
  unfolding known told
  answered demanded law number bytes s begin bridge numbered there held begins bridged =
      let it = known demanded in
      let has = held_bytes demanded number numbered in
      let same : has.bytes ≡ bytes = same_Some has.bytes bytes (sym has.there ∙ there) in
      let tells = told demanded bytes (subst (IsFrameOf it.demand) same has.frame) begin begins in
      let bundle : slice_get (bundles_of switches) arrival.device.0 ≡ Some s.bundle = mapped_at (λ (x : SwitchState). x.bundle) switches arrival.device.0 s held in
      let takes : TakesBridge play.setup play.row (arrival_of play arrival) bridge = λ e stands relay.
      bridged ∙ ap (λ (fs : List Forwarding). unwrap_or (option_and_then (slice_get row.bridges) (number_in fs arrival.device.0 arrival.frame.0)) 0) playing.plan.delays in
      let answer = of_switches AnswersAreEvents law site row k switches frames playing arrival arrives near.happens s.bundle bundle (told_of begin arrival bytes) tells bridge takes in
      let here = playing.cycle arrival.device.0 s held in
      let counts = counted site row k switches frames playing arrival near it in
      subst (λ n. IsAnswer play arrival n (action_of s.bundle s.cycle s.in_step (told_of begin arrival bytes) bridge)) counts
      (subst (λ c. IsAnswer play arrival it.demand.length (action_of s.bundle c s.in_step (told_of begin arrival bytes) bridge)) (sym here.cycle)
      (subst (λ b. IsAnswer play arrival it.demand.length (action_of s.bundle k b (told_of begin arrival bytes) bridge)) (sym here.in_step) answer))
