-- A plant has one report.
use Rattle.std.proofs.Common.{◌≡◌, ◌<◌, ◌≤◌, ◌+◌, ◌-◌, ◌==◌, inl, inr, ℕ, zero, suc, List, [], ◌∷◌, map, length, Some, if◌then◌else◌, refl, sym, ◌∙◌, ap, ap₂, arith}
use Rattle.std.specs.List.{range_with_len}
use Rattle.std.proofs.lemmas.Bool.{cases_lt}
use Rattle.irt_base.specs.Cycle.{budget_time}
use Rattle.irt_base.specs.Wiring.{peer_of}
use Rattle.irt_base.specs.declared.blocks.Bundle.{Bundle}
use Rattle.irt_base.specs.declared.numbers.DevId.{DevId}
use Rattle.irt_base.specs.declared.numbers.PortNo.{PortNo}
use Rattle.irt_base.specs.declared.plants.Plant.{Plant}
use Rattle.irt_route.specs.Clocks.{ClockTable, IsClockTreeOf, IsDevice, clock_parent, hops_in}
use Rattle.irt_route.specs.Routes.{IsAmong}
use Rattle.irt_route.specs.Trees.{IsTreeStep}
use Rattle.irt_route.specs.Walks.{Peers, IsBestWalk}
use Rattle.irt_world.specs.Forwardings.{forwardings}
use Rattle.sync_world.specs.Clocks.{heard_errors}
use Rattle.sync_world.specs.Domain.{clock_line, delay_from, delay_of, device_of, domain_of, walk_up}
use Rattle.sync_world.specs.Lines.{measured, syncs_in}
use Rattle.sync_world.specs.Report.{muted_in, report_line, report_lines, worst_in}
use Rattle.sync_world.specs.World.{ptcp_row, ptcp_rows}
use Rattle.sync_world.specs.declared.domain.ClockLine.{ClockLine}
use Rattle.sync_world.specs.declared.domain.Domain.{Domain}
use Rattle.sync_world.specs.declared.lines.TheConstants.{FIRST_EXCHANGES}
use Rattle.sync_world.proofs.Domains.{domain_is}

-- there is one best walk to a device, and in a tree of best walks a device has one parent
pub record WalkLaws : Type 0 where
  pub walk : (peers : Peers) (start : ℕ) (ports others : List PortNo) (end : ℕ) → IsBestWalk peers start ports end → IsBestWalk peers start others end → ports ≡ others
  pub parent : (peers : Peers) (start : ℕ) (ends : List DevId) (from other : DevId × PortNo) (to : ℕ) →
      IsTreeStep peers start (IsAmong ends) from to → IsTreeStep peers start (IsAmong ends) other to → from ≡ other

-- functions that agree on a range
same_range : {X : Type 0} (f g : ℕ → X) (first count : ℕ) → ((k : ℕ) → first ≤ k → k < first + count → f k ≡ g k) →
    map f (range_with_len first count) ≡ map g (range_with_len first count)
same_range f g first zero agree = refl
same_range f g first (suc n) agree =
    ap₂ (λ x xs. x ∷ xs) (agree first (omega arith) (omega arith)) (same_range f g (first + 1) n (λ k above below. agree k (omega arith) (omega arith)))

module _ (laws : WalkLaws) (plant : Plant) (tree other : ClockTable) (is : IsClockTreeOf plant tree) (also : IsClockTreeOf plant other) where
  -- two devices, by their numbers
  abbrev both : ℕ → ℕ → List DevId
  both end last = record { 0 = end } ∷ record { 0 = last } ∷ []

  same_step : (from before : DevId × PortNo) (device : ℕ) → IsTreeStep (peer_of plant) 0 (IsDevice plant) from device →
      IsTreeStep (peer_of plant) 0 (IsDevice plant) before device → from ≡ before
  same_step from before device s t =
      laws.parent (peer_of plant) 0 (both s.end t.end) from before device
      (record { end = s.end; is_end = (record { 0 = s.end }, (0, omega arith, refl), refl); step = s.step })
      (record { end = t.end; is_end = (record { 0 = t.end }, (1, omega arith, refl), refl); step = t.step })

  same_parent : (device : ℕ) → clock_parent tree device ≡ clock_parent other device
  same_parent zero = is.root ∙ sym also.root
  same_parent (suc d) = elim (cases_lt (suc d) (length plant.devices)) [
    | inl below ↦
        let (from, here, step) = is.parents (suc d) (omega arith) below in
        let (before, there, last) = also.parents (suc d) (omega arith) below in
        here ∙ ap Some (same_step from before (suc d) step last) ∙ sym there
    | inr past ↦ is.past (suc d) past ∙ sym (also.past (suc d) past)
  ]

  same_hops : (device : ℕ) → device < length plant.devices → hops_in tree device ≡ hops_in other device
  same_hops device below =
      let here = is.hops device below in
      let there = also.hops device below in
      sym here.long ∙ ap length (laws.walk (peer_of plant) 0 here.ports there.ports device here.best there.best) ∙ there.long

  same_walk : (links : ℕ) (device : DevId) → walk_up tree links device ≡ walk_up other links device
  same_walk zero device = refl
  same_walk (suc n) device =
      ap (λ vs. device ∷ vs) (ap (λ from. walk_up tree n (device_of from)) (same_parent device.0) ∙ same_walk n (device_of (clock_parent other device.0)))

  same_line : (device : ℕ) → device < length plant.devices → clock_line plant tree device ≡ clock_line plant other device
  same_line device below =
      let Made : ℕ → List DevId → ClockLine = λ delay walk. record { delay = delay; walk = walk } in
      ap₂ Made (ap (delay_from plant) (same_parent device))
      (ap (λ links. walk_up tree links (record { 0 = device })) (same_hops device below) ∙ same_walk (hops_in other device) (record { 0 = device }))

  same_domain : (seed send : ℕ) → domain_of seed plant tree send ≡ domain_of seed plant other send
  same_domain seed send =
      let lines : List ClockLine = map (clock_line plant tree) (range_with_len 0 (length plant.devices)) in
      sym (domain_is seed plant tree send lines refl)
      ∙ domain_is seed plant other send lines (same_range (clock_line plant tree) (clock_line plant other) 0 (length plant.devices) (λ k above below. same_line k (omega arith)))

  same_report : (domain : Domain) (cycles device : ℕ) → hops_in tree device ≡ hops_in other device → report_line plant tree domain cycles device ≡ report_line plant other domain cycles device
  unfolding report_line
  same_report domain cycles device hops =
      let Budget : ℕ → ℕ = λ links. if device == 0 then 0 else budget_time links plant.sync.stamp plant.sync.drift plant.sync.send plant.sync.timeout in
      λ i. record {
        device = record { 0 = device };
        hops = hops i;
        delay = delay_of domain device;
        measured = measured domain device (FIRST_EXCHANGES + syncs_in domain cycles);
        budget = Budget (hops i);
        muted = muted_in (heard_errors domain plant.sync.timeout device cycles);
        worst = worst_in (heard_errors domain plant.sync.timeout device cycles);
      }

  pub one_report : (seed cycles : ℕ) → report_lines seed plant tree cycles ≡ report_lines seed plant other cycles
  one_report seed cycles =
      let domain = domain_of seed plant other plant.sync.send in
      ap (λ (d : Domain). map (report_line plant tree d cycles) (range_with_len 1 (length plant.devices - 1))) (same_domain seed plant.sync.send)
      ∙ same_range (report_line plant tree domain cycles) (report_line plant other domain cycles) 1 (length plant.devices - 1)
      (λ k above below. same_report domain cycles k (same_hops k (omega arith)))

  pub one_ptcp_world : (bundles : List Bundle) (seed send : ℕ) (timeouts : List ℕ) (cycles : ℕ) →
      ptcp_rows seed plant bundles tree send timeouts cycles ≡ ptcp_rows seed plant bundles other send timeouts cycles
  one_ptcp_world bundles seed send timeouts cycles =
      ap (λ (d : Domain). map (ptcp_row d plant (forwardings plant bundles) timeouts) (range_with_len 0 cycles)) (same_domain seed send)
