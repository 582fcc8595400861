-- A plant fails no rule exactly where it meets them all.
use Rattle.std.proofs.Common.{◌≡◌, ◌<◌, ◌≤◌, ◌+◌, ℕ, Bool, true, false, List, [], ◌∷◌, length, None, refl, arith}
use Rattle.std.proofs.lemmas.Bool.{and_parts, and_from, leb-true, le-leb}
use Rattle.std.specs.List.{AllByRecursion, IsDistinct}
use Rattle.irt_base.specs.Valid.{IsWithin}
use Rattle.irt_base.specs.declared.limits.TheConstants.{MIN_DEVICES, MAX_DEVICES, MAX_WINDOW, MAX_FACTOR, MIN_FRAME, MAX_FRAME, MAX_DEMANDS, MAX_TRAFFIC}
use Rattle.irt_base.specs.declared.plants.Device.{Device}
use Rattle.irt_base.specs.declared.plants.Link.{Link}
use Rattle.irt_base.specs.declared.plants.Demand.{Demand}
use Rattle.irt_base.specs.declared.plants.Plant.{Plant}
use Rattle.plant_rules.specs.Words.{same_name, share_port, same_frame, same_app_device}
use Rattle.irt_topo.specs.Rules.{is_name, is_sync_plan, follows_clock, device_name_holds, device_ports_hold, bridge_holds, link_ends_hold, link_delay_holds, frame_holds, demand_ends_hold, length_holds, update_holds, traffic_holds, app_holds, rule_order, first_failure}
use Rattle.plant_rules.specs.Meets.{IsDevice, IsLink, IsDemand, IsTraffic, IsApp, MeetsRules}
use Rattle.irt_topo.proofs.Passing.{EachPasses, EachPasses-from_places, passes_at-from_EachPasses, EachPasses-all, EachPasses-count, EachPasses-distinct, EachPasses-from_all, EachPasses-from_distinct, fresh_at_first, AllByRecursion-both}
use Rattle.irt_topo.proofs.ItemTests.{within, within-back, name-back, sync_plan, sync_plan-back, words, words-back, data_length-back}
use Rattle.irt_topo.proofs.RuleLaws.{AllHold, none_fails, none_fails-back, name_of, name_is_new, name_gives, device_from, device_ports_back, bridge_back, HasEnds, ends_of, ports_are_new, ends_give, link_from, link_ends_back, link_times_back, frame_of, frame_count, frame_is_new, frame_gives, demand_from, demand_ends_back, traffic_count, traffic_from, traffic_gives, app_of, app_is_new, app_gives, clock_of, clock_gives}

-- a test that looks at no item before
alone : {A : Type 0} (test : A → Bool) (xs : List A) → EachPasses (λ _ x. test x) [] xs → AllByRecursion (λ x. test x ≡ true) xs
alone test xs h = EachPasses-all (λ _ x. test x) (λ x. test x ≡ true) (λ b x is. is) [] xs h

none_before : {A : Type 0} (xs : List A) (most : ℕ) → length xs ≤ most → 0 + length xs ≤ most
none_before xs most h = omega arith

meets_devices : (p : Plant) → EachPasses device_name_holds [] p.devices → EachPasses device_ports_hold [] p.devices
    → EachPasses bridge_holds [] p.devices → AllByRecursion IsDevice p.devices
meets_devices p named ports bridges =
    AllByRecursion-both
    (λ (d : Device). (is_name d.name ≡ true) × (device_ports_hold [] d ≡ true)) (λ (d : Device). bridge_holds [] d ≡ true) IsDevice
    (λ d two bridge. device_from d two.0 two.1 bridge)
    p.devices
    (AllByRecursion-both (λ (d : Device). is_name d.name ≡ true) (λ (d : Device). device_ports_hold [] d ≡ true)
    (λ (d : Device). (is_name d.name ≡ true) × (device_ports_hold [] d ≡ true)) (λ d one two. (one, two)) p.devices
    (EachPasses-all device_name_holds (λ (d : Device). is_name d.name ≡ true) name_of [] p.devices named)
    (EachPasses-all device_ports_hold (λ (d : Device). device_ports_hold [] d ≡ true) (λ b d is. is) [] p.devices ports))
    (EachPasses-all bridge_holds (λ (d : Device). bridge_holds [] d ≡ true) (λ b d is. is) [] p.devices bridges)

meets_links : (p : Plant) → EachPasses (link_ends_hold p) [] p.links → EachPasses (link_delay_holds p) [] p.links → AllByRecursion (IsLink p) p.links
meets_links p ends times =
    AllByRecursion-both (HasEnds p) (λ (l : Link). link_delay_holds p [] l ≡ true) (IsLink p) (link_from p) p.links
    (EachPasses-all (link_ends_hold p) (HasEnds p) (ends_of p) [] p.links ends)
    (EachPasses-all (link_delay_holds p) (λ (l : Link). link_delay_holds p [] l ≡ true) (λ b l is. is) [] p.links times)

abbrev DemandTests : Plant → Demand → Type 0
DemandTests p d = (IsWithin MIN_FRAME MAX_FRAME d.frame.0) × (demand_ends_hold p [] d ≡ true)

abbrev DemandSizes : Plant → Demand → Type 0
DemandSizes p d = (length_holds [] d ≡ true) × (update_holds p [] d ≡ true)

meets_demands : (p : Plant) → EachPasses frame_holds [] p.demands → EachPasses (demand_ends_hold p) [] p.demands
    → EachPasses length_holds [] p.demands → EachPasses (update_holds p) [] p.demands → AllByRecursion (IsDemand p) p.demands
meets_demands p frames ends sizes updates =
    AllByRecursion-both (DemandTests p) (DemandSizes p) (IsDemand p) (λ d one two. demand_from p d one.0 one.1 two.0 two.1) p.demands
    (AllByRecursion-both (λ (d : Demand). IsWithin MIN_FRAME MAX_FRAME d.frame.0) (λ (d : Demand). demand_ends_hold p [] d ≡ true) (DemandTests p)
    (λ d one two. (one, two)) p.demands
    (EachPasses-all frame_holds (λ (d : Demand). IsWithin MIN_FRAME MAX_FRAME d.frame.0) frame_of [] p.demands frames)
    (EachPasses-all (demand_ends_hold p) (λ (d : Demand). demand_ends_hold p [] d ≡ true) (λ b d is. is) [] p.demands ends))
    (AllByRecursion-both (λ (d : Demand). length_holds [] d ≡ true) (λ (d : Demand). update_holds p [] d ≡ true) (DemandSizes p)
    (λ d one two. (one, two)) p.demands
    (EachPasses-all length_holds (λ (d : Demand). length_holds [] d ≡ true) (λ b d is. is) [] p.demands sizes)
    (EachPasses-all (update_holds p) (λ (d : Demand). update_holds p [] d ≡ true) (λ b d is. is) [] p.demands updates))

meets : (p : Plant) → AllHold rule_order p → MeetsRules p
meets p (factor, (window, (periods, (count, (names, (ports, (bridges, (ends, (delays, (frames, (sides, (sizes, (updates, (traffic, (apps, (device_words, (clocks, _))))))))))))))))) =
    let devices_count : IsWithin MIN_DEVICES MAX_DEVICES (length p.devices) = within MIN_DEVICES MAX_DEVICES (length p.devices) (count 0 (omega arith)) in
    let named = EachPasses-from_places device_name_holds p.devices names in
    let ended = EachPasses-from_places (link_ends_hold p) p.links ends in
    let framed = EachPasses-from_places frame_holds p.demands frames in
    let sent = EachPasses-from_places (traffic_holds p) p.traffic traffic in
    let placed = EachPasses-from_places (app_holds p) p.apps apps in
    let some_device : 0 < length p.devices = omega (arith, devices_count.0) in
    record {
      factor = within 1 MAX_FACTOR p.factor (factor 0 (omega arith));
      window = leb-true p.window MAX_WINDOW (window 0 (omega arith));
      periods = leb-true _ _ (periods 0 (omega arith));
      device_count = devices_count;
      devices = meets_devices p named (EachPasses-from_places device_ports_hold p.devices ports) (EachPasses-from_places bridge_holds p.devices bridges);
      names_differ = EachPasses-distinct device_name_holds same_name name_is_new [] p.devices named;
      links = meets_links p ended (EachPasses-from_places (link_delay_holds p) p.links delays);
      ports_differ = EachPasses-distinct (link_ends_hold p) share_port (ports_are_new p) [] p.links ended;
      demand_count = omega (arith, EachPasses-count frame_holds MAX_DEMANDS frame_count [] p.demands (omega arith) framed);
      demands = meets_demands p framed (EachPasses-from_places (demand_ends_hold p) p.demands sides)
          (EachPasses-from_places length_holds p.demands sizes) (EachPasses-from_places (update_holds p) p.demands updates);
      frames_differ = EachPasses-distinct frame_holds same_frame frame_is_new [] p.demands framed;
      traffic_count = omega (arith, EachPasses-count (traffic_holds p) MAX_TRAFFIC (traffic_count p) [] p.traffic (omega arith) sent);
      traffic = EachPasses-all (traffic_holds p) (IsTraffic p) (traffic_from p) [] p.traffic sent;
      apps = EachPasses-all (app_holds p) (IsApp p) (app_of p) [] p.apps placed;
      app_devices_differ = EachPasses-distinct (app_holds p) same_app_device (app_is_new p) [] p.apps placed;
      words = λ device below. words p device (device_words device below);
      sync = sync_plan p.sync (and_parts (is_sync_plan p.sync) (follows_clock p.clocks p 0) (clocks 0 some_device)).0;
      clocks = λ ptcp device above below.
          clock_of p.clocks p device ptcp above (omega (arith, devices_count.1))
          (and_parts (is_sync_plan p.sync) (follows_clock p.clocks p device) (clocks device below)).1;
    }

all_false : {A : Type 0} (xs : List A) → AllByRecursion (λ (_ : A). false ≡ false) xs
all_false [] = tt
all_false (x ∷ xs) = (refl, all_false xs)

no_two : {A : Type 0} (xs : List A) → IsDistinct (λ _ _. false) xs
unfolding IsDistinct
no_two [] = tt
no_two (x ∷ xs) = (all_false xs, no_two xs)

fails_back : (p : Plant) → MeetsRules p → AllHold rule_order p
fails_back p m =
    let of_devices = λ (test : List Device → Device → Bool) (gives : (b : List Device) (d : Device) → IsDevice d → test b d ≡ true) (index : ℕ).
    passes_at-from_EachPasses test p.devices (EachPasses-from_all test IsDevice gives [] p.devices m.devices) index in
    let of_demands = λ (test : List Demand → Demand → Bool) (gives : (b : List Demand) (d : Demand) → IsDemand p d → test b d ≡ true) (index : ℕ).
    passes_at-from_EachPasses test p.demands (EachPasses-from_all test (IsDemand p) gives [] p.demands m.demands) index in (
      λ index below. within-back 1 MAX_FACTOR p.factor m.factor,
      (
        λ index below. le-leb p.window MAX_WINDOW m.window,
        (
          λ index below. le-leb _ _ m.periods,
          (
            λ index below. within-back MIN_DEVICES MAX_DEVICES (length p.devices) m.device_count,
            (
              λ index below. passes_at-from_EachPasses device_name_holds p.devices
                  (EachPasses-from_distinct device_name_holds IsDevice same_name (length p.devices)
                  (λ b d is new lt. name_gives b d (name-back d.name is.name) new) [] p.devices m.devices m.names_differ
                  (fresh_at_first same_name p.devices) (omega arith)) index,
              (
                λ index below. of_devices device_ports_hold (λ b d is. device_ports_back d is) index,
                (
                  λ index below. of_devices bridge_holds (λ b d is. bridge_back d is) index,
                  (
                    λ index below. passes_at-from_EachPasses (link_ends_hold p) p.links
                        (EachPasses-from_distinct (link_ends_hold p) (IsLink p) share_port (length p.links)
                        (λ b l is new lt. ends_give p b l (link_ends_back p l is) new) [] p.links m.links m.ports_differ
                        (fresh_at_first share_port p.links) (omega arith)) index,
                    (
                      λ index below. passes_at-from_EachPasses (link_delay_holds p) p.links
                          (EachPasses-from_all (link_delay_holds p) (IsLink p) (λ b l is. link_times_back p l is) [] p.links m.links) index,
                      (
                        λ index below. passes_at-from_EachPasses frame_holds p.demands
                            (EachPasses-from_distinct frame_holds (IsDemand p) same_frame MAX_DEMANDS
                            (λ b d is new lt. frame_gives b d is.frame new lt) [] p.demands m.demands m.frames_differ
                            (fresh_at_first same_frame p.demands) (omega (arith, m.demand_count))) index,
                        (
                          λ index below. of_demands (demand_ends_hold p) (λ b d is. demand_ends_back p d is) index,
                          (
                            λ index below. of_demands length_holds (λ b d is. data_length-back d.length is.length) index,
                            (
                              λ index below. of_demands (update_holds p) (λ b d is. le-leb _ _ is.update) index,
                              (
                                λ index below. passes_at-from_EachPasses (traffic_holds p) p.traffic
                                    (EachPasses-from_distinct (traffic_holds p) (IsTraffic p) (λ _ _. false) MAX_TRAFFIC
                                    (λ b t is new lt. traffic_gives p b t is lt) [] p.traffic m.traffic (no_two p.traffic)
                                    (fresh_at_first (λ _ _. false) p.traffic) (omega (arith, m.traffic_count))) index,
                                (
                                  λ index below. passes_at-from_EachPasses (app_holds p) p.apps
                                      (EachPasses-from_distinct (app_holds p) (IsApp p) same_app_device (length p.apps)
                                      (λ b a is new lt. app_gives p b a is new) [] p.apps m.apps m.app_devices_differ
                                      (fresh_at_first same_app_device p.apps) (omega arith)) index,
                                  (
                                    λ index below. words-back p index (m.words index below),
                                    (
                                      λ index below. and_from (is_sync_plan p.sync) (follows_clock p.clocks p index) (sync_plan-back p.sync m.sync)
                                          (clock_gives p.clocks p index (λ ptcp above. m.clocks ptcp index above below)),
                                      tt,
                                    ),
                                  ),
                                ),
                              ),
                            ),
                          ),
                        ),
                      ),
                    ),
                  ),
                ),
              ),
            ),
          ),
        ),
      ),
    )

pub MeetsRules-from_none : (p : Plant) → first_failure p ≡ None → MeetsRules p
MeetsRules-from_none p none = meets p (none_fails rule_order p none)

pub first_failure-from_MeetsRules : (p : Plant) → MeetsRules p → first_failure p ≡ None
first_failure-from_MeetsRules p m = none_fails-back rule_order p (fails_back p m)
