-- What takes place in a cycle of accepted blocks is exactly what has to.
use Rattle.std.proofs.Common.{◌≡◌, ℕ, ◌+◌, ◌≤◌, ◌<◌, Bool, false, List, [], ◌∷◌, Option, Some, None, IfSome, slice_get, inl, inr, refl, sym, ◌∙◌, ap, subst, subst₂, arith, position, length}
use Rattle.std.specs.Prelude.{ℤ, pos, ◌+ℤ◌}
use Rattle.std.proofs.lemmas.Bool.{cases_eq, eq-eqb, true≢false}
use Rattle.std.proofs.lemmas.List.Quantifiers.{position-Some}
use Rattle.std.proofs.lemmas.Option.{same_Some, slice_get_within, slice_get-get_or}
use Rattle.irt_base.specs.Cycle.{IsDue, wire_time}
use Rattle.irt_base.specs.Wiring.{hop_of, touches, link_number}
use Rattle.irt_base.specs.declared.numbers.DevId.{DevId}
use Rattle.irt_base.specs.declared.blocks.Bundle.{Bundle}
use Rattle.irt_base.specs.declared.blocks.Entry.{Entry}
use Rattle.irt_base.specs.declared.plants.Demand.{Demand}
use Rattle.irt_base.specs.declared.plants.Link.{Link}
use Rattle.irt_base.specs.declared.plants.Plant.{Plant}
use Rattle.plant_rules.specs.Meets.{IsConsumer, MeetsRules}
use Rattle.plan_rules.specs.World.{WorldRow, IsUncut}
use Rattle.plan_rules.specs.Way.{Setup, entry_at, IsParent, IsLive, provided, forwarded, IsStart}
use Rattle.plan_rules.specs.Tree.{demand_of, Consumes, IsReached, here, through}
use Rattle.plan_rules.specs.Occupation.{IsOccupation}
use Rattle.plan_rules.specs.Arrival.{IsDelivery}
use Rattle.plan_rules.specs.Once.{IsDueFrame, StartsOnce, SendsExactly, ReachesExactly, IsUndisturbed, LivesUndisturbed}
use Rattle.plan_rules.specs.Plan.{IsPlan, setup_of}
use Rattle.plan_rules.specs.Places.{IsAccepted, place_of}
use Rattle.plan_rules.proofs.Kept as kept
use Rattle.plan_rules.proofs.Arrivals.{demand_found, provider_entry, alike, some_of}
use Rattle.plan_rules.proofs.Held.{held_of, each_at}
use Rattle.plan_rules.proofs.OneWay.{one_parent}
use Rattle.plan_rules.proofs.Sendings.{devices_of}
use Rattle.plan_rules.proofs.Starts.{HasBytes, hop_there, started, one_start}

-- ---- deliveries, by the wiring alone

module _ (setup : Setup) (rules : MeetsRules setup.plant) (bytes : HasBytes setup) (world : List WorldRow) where
  abbrev DeliveryAt : ℕ → ℕ → ℕ → ℤ → Type 0
  DeliveryAt k device frame end = IsDelivery setup world (record { cycle = k; device = device; frame = frame; end = end })

  delivery_exists : (row : WorldRow) (k device frame : ℕ) (e : Entry) (demand : Demand) → slice_get world k ≡ Some row → demand_of setup.plant frame ≡ Some demand →
      Consumes demand device → entry_at setup device frame ≡ Some e → 1 ≤ e.rx_port → IsDue k e.ratio e.phase → IsLive setup row frame device →
      (end : ℤ) × DeliveryAt k device frame end
  delivery_exists row k _ frame e demand in_cycle demanded consumed stands far due (provided device f at own step) =
      let none : e.rx_port ≡ 0 = ap (λ (x : Entry). x.rx_port) (same_Some e f (sym stands ∙ at)) ∙ own in
      absurd (omega (arith, none, far))
  delivery_exists row k _ frame e demand in_cycle demanded consumed stands far due (forwarded device f parent gate at from live uncut step) =
      let (start, starts) = started setup bytes row k frame parent live in
      let (hop, hops) = hop_there setup.plant parent gate device f.rx_port from.leads in (
        start +ℤ pos (hop + wire_time e.data_length),
        record {
          row = row;
          demand = demand;
          e = e;
          parent = parent;
          port = gate;
          hop = hop;
          sent = start;
          in_cycle = in_cycle;
          demanded = demanded;
          consumed = consumed;
          stands = stands;
          due = due;
          live = forwarded device f parent gate at from live uncut step;
          comes = subst (λ x. IsParent setup frame device x parent gate) (same_Some f e (sym at ∙ stands)) from;
          hops = hops;
          starts = starts;
          ends = refl;
        },
      )

  one_delivery : (k device frame : ℕ) (s t : ℤ) → DeliveryAt k device frame s → DeliveryAt k device frame t → s ≡ t
  one_delivery k device frame s t one two =
      let row : one.row ≡ two.row = same_Some one.row two.row (sym one.in_cycle ∙ two.in_cycle) in
      let e : one.e ≡ two.e = same_Some one.e two.e (sym one.stands ∙ two.stands) in
      let comes : IsParent setup frame device two.e one.parent one.port = subst (λ x. IsParent setup frame device x one.parent one.port) e one.comes in
      let (parents, ports) = one_parent setup rules frame device two.e one.parent one.port two.parent two.port comes two.comes in
      let hops : hop_of setup.plant one.parent one.port ≡ Some two.hop = (λ i. hop_of setup.plant (parents i) (ports i)) ∙ two.hops in
      let hop : one.hop ≡ two.hop = same_Some one.hop two.hop (sym one.hops ∙ hops) in
      let starts : IsStart setup two.row k frame two.parent one.sent = subst₂ (λ w x. IsStart setup w k frame x one.sent) row parents one.starts in
      let start : one.sent ≡ two.sent = one_start setup rules two.row k frame two.parent one.sent two.sent starts two.starts in
      one.ends ∙ ((λ i. start i +ℤ pos (hop i + wire_time (e i).data_length)) ∙ sym two.ends)

  -- ---- occupations

  abbrev OccupationAt : ℕ → ℕ → ℕ → ℕ → ℤ × ℤ → Type 0
  OccupationAt k device port frame times =
      IsOccupation setup world (record { cycle = k; device = device; port = port; frame = frame; start = times.0; end = times.1 })

  one_occupation : (k device port frame : ℕ) (s t : ℤ × ℤ) → OccupationAt k device port frame s → OccupationAt k device port frame t → s ≡ t
  one_occupation k device port frame s t one two =
      let row : one.row ≡ two.row = same_Some one.row two.row (sym one.in_cycle ∙ two.in_cycle) in
      let e : one.entry ≡ two.entry = same_Some one.entry two.entry (sym one.stands ∙ two.stands) in
      let starts : IsStart setup two.row k frame device s.0 = subst (λ w. IsStart setup w k frame device s.0) row one.starts in
      let start : s.0 ≡ t.0 = one_start setup rules two.row k frame device s.0 t.0 starts two.starts in
      let end : s.1 ≡ t.1 = one.ends ∙ ((λ i. start i +ℤ pos (wire_time (e i).data_length)) ∙ sym two.ends) in
      λ i. (start i, end i)

-- ---- live routes

if_some : (o : Option ℕ) (P : ℕ → Type 0) → ((n : ℕ) → o ≡ Some n → P n) → IfSome o P
if_some None P each = tt
if_some (Some n) P each = each n refl

uncut_there : (plant : Plant) (row : WorldRow) (device port : ℕ) → IsUndisturbed plant row → IsUncut plant row device port
uncut_there plant row device port calm =
    if_some (link_number plant device port) (λ n. row.is_cut n ≡ false)
    (λ n at. calm.uncut n (link_there n (touches device port) plant.links at))
  where
    link_there : (n : ℕ) (test : Link → Bool) (links : List Link) → position test links ≡ Some n → n < length links
    link_there n test [] at = absurd (cc)
    link_there n test (l ∷ ls) at = (position-Some test (l ∷ ls) n l at).0

module _ (plant : Plant) (bundles : List Bundle) (plan : IsPlan plant bundles) (accepted : IsAccepted plant bundles) where
  abbrev setup : Setup
  setup = setup_of plant bundles

  pub bytes : HasBytes setup
  bytes device frame e at = (held_of plant bundles plan accepted device frame e at).valid.tx

  live_along : (row : WorldRow) → IsUndisturbed plant row → (demand : Demand) (frame device : ℕ) (e : Entry) → demand_of plant frame ≡ Some demand →
      IsReached setup demand.provider.0 frame device → entry_at setup device frame ≡ Some e → IsLive setup row frame device
  live_along row calm demand frame _ e demanded here at =
      let (d, held) = devices_of plant bundles plan accepted demand.provider.0 frame e at in
      let (known, is_known, tree) = (kept.trees plant bundles accepted (place_of demand.provider.0 0 frame)).each e at in
      let same : known ≡ demand = same_Some known demand (sym is_known ∙ demanded) in
      let own : e.rx_port ≡ 0 = tree.provided.0 (ap (λ (x : Demand). x.provider.0) (sym same)) in
      provided demand.provider.0 e at own (calm.in_step demand.provider.0 (slice_get_within plant.devices demand.provider.0 d held))
  live_along row calm demand frame _ e demanded (through device f parent port stands comes up) at =
      let (d, held) = devices_of plant bundles plan accepted device frame e at in
      forwarded device f parent port stands comes (live_along row calm demand frame parent comes.sent.0 demanded up comes.sent.1)
      (uncut_there plant row parent port calm) (calm.in_step device (slice_get_within plant.devices device d held))

  pub lives_undisturbed : (row : WorldRow) → LivesUndisturbed setup row
  lives_undisturbed row calm device frame e at =
      let (demand, demanded, tree) = (kept.trees plant bundles accepted (place_of device 0 frame)).each e at in
      let named = (demand_found plant plan.rules frame demand demanded).0 in
      live_along row calm demand frame device e demanded (subst (λ f. IsReached setup demand.provider.0 f device) named tree.reached) at

  -- ---- starts

  pub starts_once : (row : WorldRow) (k : ℕ) → StartsOnce setup row k
  starts_once row k device frame live =
      let (start, starts) = started setup bytes row k frame device live in
      record { one = start; is = starts; only = λ other is. one_start setup plan.rules row k frame device other start is starts }

  -- ---- a frame is due by its provider's entry and by any other

  pub due_there : (k frame device : ℕ) (demand : Demand) (e : Entry) → IsDueFrame setup k frame demand → entry_at setup device frame ≡ Some e →
      IsDue k e.ratio e.phase
  due_there k frame device demand e due at =
      let same = alike plant bundles accepted frame demand.provider.0 device demand due.own e due.demanded due.stands at in
      subst₂ (IsDue k) (sym same.ratio) (sym same.phase) due.due

  pub due_of : (k frame device : ℕ) (demand : Demand) (e : Entry) → demand_of plant frame ≡ Some demand → entry_at setup device frame ≡ Some e →
      IsDue k e.ratio e.phase → IsDueFrame setup k frame demand
  due_of k frame device demand e demanded at due =
      let (own, stands) = provider_entry plant bundles accepted frame demand demanded in
      let same = alike plant bundles accepted frame demand.provider.0 device demand own e demanded stands at in
      record { own = own; demanded = demanded; stands = stands; due = subst₂ (IsDue k) same.ratio same.phase due }

  -- ---- what is sent

  pub sends_exactly : (world : List WorldRow) → SendsExactly setup world
  sends_exactly world = record {
    sent = λ k device port frame is.
        let (start, starts) = started setup bytes is.row k frame device is.live in
        let occupies : OccupationAt setup plan.rules bytes world k device port frame (start, start +ℤ pos (wire_time is.entry.data_length)) = record {
          row = is.row;
          entry = is.entry;
          in_cycle = is.in_cycle;
          stands = is.stands;
          due = due_there k frame device is.demand is.entry is.due is.stands;
          leaves = is.leaves;
          live = is.live;
          starts = starts;
          ends = refl;
        } in
        record {
          one = (start, start +ℤ pos (wire_time is.entry.data_length));
          is = occupies;
          only = λ other also. one_occupation setup plan.rules bytes world k device port frame other (start, start +ℤ pos (wire_time is.entry.data_length)) also occupies;
        };
    only = λ o is.
        let (demand, demanded, tree) = (kept.trees plant bundles accepted (place_of o.device 0 o.frame)).each is.entry is.stands in
        record {
          row = is.row;
          demand = demand;
          entry = is.entry;
          in_cycle = is.in_cycle;
          due = due_of o.cycle o.frame o.device demand is.entry demanded is.stands is.due;
          stands = is.stands;
          leaves = is.leaves;
          live = is.live;
        };
  }

  -- ---- what is delivered

  -- a consumer has the frame from somebody
  consumer_receives : (frame device : ℕ) (demand : Demand) (e : Entry) → demand_of plant frame ≡ Some demand → Consumes demand device →
      entry_at setup device frame ≡ Some e → 1 ≤ e.rx_port
  consumer_receives frame device demand e demanded (n, there, is) at =
      elim (cases_eq e.rx_port 0) [
        | inr far ↦ omega arith
        | inl own ↦
            let (known, is_known, tree) = (kept.trees plant bundles accepted (place_of device 0 frame)).each e at in
            let same : known ≡ demand = same_Some known demand (sym is_known ∙ demanded) in
            let provides : device ≡ demand.provider.0 = tree.provided.1 own ∙ ap (λ (x : Demand). x.provider.0) same in
            let valid = (demand_found plant plan.rules frame demand demanded).1 in
            let one : DevId = record { 0 = device } in
            let consumer : IsConsumer plant demand.provider one =
            each_at (IsConsumer plant demand.provider) demand.consumers n one valid.consumers
            (slice_get-get_or demand.consumers n one there ∙ ap (λ (x : DevId). some_device x) is) in
            absurd (true≢false (sym (eq-eqb device demand.provider.0 provides) ∙ consumer.other))
      ]
    where
      some_device : DevId → Option DevId
      some_device d = Some d

  pub reaches_exactly : (world : List WorldRow) → ReachesExactly setup world
  reaches_exactly world = record {
    reached = λ k device frame is.
        let (e, stands) = some_of (entry_at setup device frame)
        ((kept.trees plant bundles accepted (place_of device 0 frame)).present is.demand is.due.demanded (inr is.consumed)) in
        let (end, delivers) = delivery_exists setup plan.rules bytes world is.row k device frame e is.demand is.in_cycle is.due.demanded is.consumed stands
        (consumer_receives frame device is.demand e is.due.demanded is.consumed stands) (due_there k frame device is.demand e is.due stands) is.live in
        record { one = end; is = delivers; only = λ other also. one_delivery setup plan.rules bytes world k device frame other end also delivers };
    only = λ d is. record {
      row = is.row;
      demand = is.demand;
      in_cycle = is.in_cycle;
      due = due_of d.cycle d.frame d.device is.demand is.e is.demanded is.stands is.due;
      consumed = is.consumed;
      live = is.live;
    };
  }
