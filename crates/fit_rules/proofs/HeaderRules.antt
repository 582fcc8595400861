-- V1, V11, V12 and V15 of first fit's bundles.
use Rattle.std.proofs.Common.{◌≡◌, ℕ, ◌<◌, ◌≤◌, List, Some, length, slice_get, sym, ◌∙◌, ap, subst, arith}
use Rattle.std.proofs.lemmas.Option.{slice_get_within}
use Rattle.irt_base.specs.Cycle.{budget_time}
use Rattle.irt_base.specs.Valid.{IsWithin}
use Rattle.irt_base.specs.declared.limits.TheConstants.{MIN_FRAME, MAX_FRAME, MAX_SEND, MAX_TIMEOUT}
use Rattle.irt_base.specs.declared.blocks.Bundle.{Bundle}
use Rattle.irt_base.specs.declared.blocks.GlobalBlock.{GlobalBlock}
use Rattle.irt_base.specs.declared.blocks.SyncBlock.{SyncBlock}
use Rattle.irt_base.specs.declared.plants.Device.{Device}
use Rattle.irt_base.specs.declared.plants.Plant.{Plant}
use Rattle.irt_route.specs.Routes.{RouteTables}
use Rattle.plan_rules.specs.Headers.{RepeatsPlant, SharesRange, KeepsClock}
use Rattle.plan_rules.specs.Periods.{IsRedFrame}
use Rattle.plan_rules.specs.declared.place.Place.{Place}
use Rattle.fit_rules.specs.declared.frame_plan.FramePlan.{FramePlan}
use Rattle.fit_rules.proofs.Merged.{IsWhole, shaped, held_at, from_blocks}
use Rattle.fit_rules.proofs.Placing.{valid_at}

module _ (plant : Plant) (routes : RouteTables) (plans : List FramePlan) (bundles : List Bundle) (whole : IsWhole plant routes plans bundles) where
  -- V1
  pub header_holds : (at : Place) → RepeatsPlant plant bundles at
  header_holds at d first b there start held =
      let own = whole.blocks.each at.device.0 d b there held in
      let zeroth = (held_at plant plans bundles whole.blocks 0 first start).is in
      let rules = whole.are.rules in
      let send = ap (λ (s : SyncBlock). s.send) own.sync in
      let timeout = ap (λ (s : SyncBlock). s.timeout) own.sync in record {
        window = ap (λ (s : SyncBlock). s.window) own.sync;
        factor = ap (λ (s : SyncBlock). s.factor) own.sync;
        send = subst (IsWithin 1 MAX_SEND) (sym send) rules.sync.send;
        one_send = send ∙ sym (ap (λ (s : SyncBlock). s.send) zeroth.sync);
        timeout = subst (IsWithin 1 MAX_TIMEOUT) (sym timeout) rules.sync.timeout;
        subdomain = ap (λ (s : SyncBlock). s.subdomain) own.sync ∙ sym (ap (λ (s : SyncBlock). s.subdomain) zeroth.sync);
        uuid = ap (λ (g : GlobalBlock). g.uuid) own.global ∙ sym (ap (λ (g : GlobalBlock). g.uuid) zeroth.global);
        bridge = ap (λ (g : GlobalBlock). g.bridge) own.global;
        delays = ap (λ (g : GlobalBlock). g.ports) own.global;
        mode = own.mode;
        ports = own.periods.count;
      }

  -- V11
  pub frame_holds : (at : Place) → IsRedFrame plant bundles at
  frame_holds at e b is held =
      let has = from_blocks plant routes plans bundles whole at.device.0 at.frame e is in
      let s = shaped plant routes plans bundles whole has.plan has.placed in
      let own = (held_at plant plans bundles whole.blocks at.device.0 b held).is in
      let valid = valid_at plant routes s.index s.demand whole.are s.there in
      let named : s.demand.frame.0 ≡ at.frame = sym (ap (λ f. f.0) s.shape.frame) ∙ has.named in
      subst (λ n. IsWithin n b.periods.last at.frame) (sym own.periods.begin)
      (subst (λ n. IsWithin MIN_FRAME n at.frame) (sym own.periods.end) (subst (IsWithin MIN_FRAME MAX_FRAME) named valid.frame))

  -- V12
  pub range_holds : (at : Place) → SharesRange plant bundles at
  range_holds at first b start held =
      let own = (held_at plant plans bundles whole.blocks at.device.0 b held).is in
      let zeroth = (held_at plant plans bundles whole.blocks 0 first start).is in
      record { begin = own.periods.begin ∙ sym zeroth.periods.begin; end = own.periods.end ∙ sym zeroth.periods.end }

  -- V15
  pub clock_holds : (at : Place) → KeepsClock plant bundles at
  clock_holds at first b hops clocks behind start held distance =
      let holds = held_at plant plans bundles whole.blocks at.device.0 b held in
      let zeroth = (held_at plant plans bundles whole.blocks 0 first start).is in
      let clock = whole.are.rules.clocks clocks at.device.0 (omega arith) (within plant at.device.0 holds.d holds.there) in
      let same : clock.hops ≡ hops = omega (arith, clock.distance.shortest hops distance.walk, distance.shortest clock.hops clock.distance.walk) in
      subst (λ n. budget_time n plant.sync.stamp plant.sync.drift first.sync.send b.sync.timeout ≤ plant.window) same
      (subst (λ n. budget_time clock.hops plant.sync.stamp plant.sync.drift n b.sync.timeout ≤ plant.window) (sym (ap (λ (s : SyncBlock). s.send) zeroth.sync))
      (subst (λ n. budget_time clock.hops plant.sync.stamp plant.sync.drift plant.sync.send n ≤ plant.window) (sym (ap (λ (s : SyncBlock). s.timeout) holds.is.sync)) clock.budget))
    where
      within : (plant : Plant) (device : ℕ) (d : Device) → slice_get plant.devices device ≡ Some d → device < length plant.devices
      within plant device d is = slice_get_within plant.devices device d is
