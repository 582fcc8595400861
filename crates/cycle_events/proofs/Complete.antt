-- Once nothing waits, all that happens was handled.
use Rattle.std.proofs.Common.{◌≡◌, ℕ, Bool, true, cond, List, [], Option, Some, None, option_map, refl, sym, ◌∙◌, ap, subst, subst₂}
use Rattle.std.specs.Prelude.{ℤ, pos, ◌+ℤ◌}
use Rattle.std.specs.List.{Contains}
use Rattle.std.proofs.lemmas.Option.{same_Some}
use Rattle.irt_base.specs.Cycle.{IsDue}
use Rattle.irt_base.specs.Wiring.{peer_of, hop_of, link_at, far_end, hop_over}
use Rattle.irt_base.specs.declared.numbers.DevId.{DevId}
use Rattle.irt_base.specs.declared.numbers.PortNo.{PortNo}
use Rattle.irt_base.specs.declared.blocks.Entry.{Entry}
use Rattle.irt_base.specs.declared.plants.Link.{Link}
use Rattle.irt_base.specs.declared.plants.Plant.{Plant}
use Rattle.plan_rules.specs.Arrival.{Arrival, IsArrival}
use Rattle.plan_rules.specs.Network.{IsSentAt}
use Rattle.plan_rules.specs.Way.{entry_at, Leaves, IsParent, IsLive, provided, forwarded}
use Rattle.plan_rules.specs.World.{IsUncut, is_in_step, is_uncut}
use Rattle.cycle_events.specs.declared.events.Event.{Event}
use Rattle.cycle_events.specs.declared.events.What.{What}
use Rattle.cycle_events.specs.declared.events.What.TheVariants.{Start, Arrive}
use Rattle.cycle_events.specs.Events.{Play, Happens, HappensAs, ports_in, event, arrive_at, start_after, starts_at, causes}
use Rattle.cycle_events.specs.Run.{IsBegun}
use Rattle.cycle_rows.proofs.Lists.{Contains-here}
use Rattle.cycle_events.proofs.Facts.{Facts}
use Rattle.cycle_events.proofs.Lists.{map_has}
use Rattle.cycle_events.proofs.Steps.{arrival_from, sent_then}
use Rattle.cycle_events.proofs.Tests.{step_true, uncut_true, ports_have}
use Rattle.cycle_events.proofs.Worklist.{IsRun, first_handled, caused_handled}

hop_over_link : (plant : Plant) (device port : ℕ) (o : Option Link) (far : DevId × PortNo) → option_map (far_end device port) o ≡ Some far →
    (hop : ℕ) × (option_map (hop_over plant device port) o ≡ Some hop)
hop_over_link plant device port None far is = absurd (cc)
hop_over_link plant device port (Some link) far is = (hop_over plant device port link, refl)

-- a link that leads somewhere has a hop
pub hop_there : (plant : Plant) (device port : ℕ) (far : DevId × PortNo) → peer_of plant device port ≡ Some far → (hop : ℕ) × (hop_of plant device port ≡ Some hop)
hop_there plant device port far is = hop_over_link plant device port (link_at plant device port) far is

arrival_caused : (start : ℤ) (frame : ℕ) (b : Bool) (far : Option (DevId × PortNo)) (v : DevId × PortNo) (o : Option ℕ) (hop : ℕ) → b ≡ true → far ≡ Some v → o ≡ Some hop →
    Contains (cond b (arrive_at start frame far o) []) (event (start +ℤ pos hop) v.0.0 v.1.0 frame Arrive)
arrival_caused start frame b far v o hop p q r = rw (p, q, r) (Contains-here (event (start +ℤ pos hop) v.0.0 v.1.0 frame Arrive) [])

start_caused : (play : Play) (device frame : ℕ) (came : ℤ) (b : Bool) (o : Option Entry) (e : Entry) (port : ℕ) → b ≡ true → o ≡ Some e → Contains (ports_in e.tx) port →
    Contains (cond b (starts_at play device frame came o) []) (event (start_after play device frame e came) device port frame Start)
start_caused play device frame came b o e port p q among =
    rw (p, q) (map_has (λ port. event (start_after play device frame e came) device port frame Start) (ports_in e.tx) port among)

module _ (play : Play) (facts : Facts play) (first handled : List Event) (begun : IsBegun play first) (run : IsRun first (causes play) handled []) where
  -- the parent's start, and the arrival that it causes
  came_of : (frame device parent gate : ℕ) (e : Entry) (before : ℤ) (hop : ℕ) → IsParent play.setup frame device e parent gate → IsUncut play.setup.plant play.row parent gate →
      hop_of play.setup.plant parent gate ≡ Some hop → Contains handled (event before parent gate frame Start) → Contains handled (event (before +ℤ pos hop) device e.rx_port frame Arrive)
  came_of frame device parent gate e before hop comes uncut hops there =
      caused_handled first (causes play) handled (event before parent gate frame Start) (event (before +ℤ pos hop) device e.rx_port frame Arrive) run there
      (arrival_caused before frame (is_uncut play.setup.plant play.row parent gate) (peer_of play.setup.plant parent gate) (record { 0 = record { 0 = device }; 1 = record { 0 = e.rx_port } })
      (hop_of play.setup.plant parent gate) hop (uncut_true play parent gate uncut) comes.leads hops)

  start_handled : (frame device : ℕ) → IsLive play.setup play.row frame device → (port : ℕ) (s : ℤ) → IsSentAt play.setup play.row play.cycle device port frame s →
      Contains handled (event s device port frame Start)
  start_handled frame _ (provided device e at own step) port s sent =
      first_handled first (causes play) handled (event s device port frame Start) run
      (begun.has (event s device port frame Start) (record { start = refl; sent = sent; own = ap (λ (x : Entry). x.rx_port) (same_Some sent.entry e (sym sent.stands ∙ at)) ∙ own }))
  start_handled frame _ (forwarded device e parent gate at comes live uncut step) port s sent =
      let once = facts.starts parent frame live in
      let before = once.one in
      let (hop, hops) = hop_there play.setup.plant parent gate (record { 0 = record { 0 = device }; 1 = record { 0 = e.rx_port } }) comes.leads in
      let alike = facts.alike frame device parent sent.entry comes.sent.0 sent.stands comes.sent.1 in
      let parent_sends : IsSentAt play.setup play.row play.cycle parent gate frame before = record {
        entry = comes.sent.0;
        stands = comes.sent.1;
        due = subst₂ (IsDue play.cycle) (sym alike.ratio) (sym alike.phase) sent.due;
        leaves = comes.sent.2;
        live = live;
        starts = once.is;
      } in
      let there = start_handled frame parent live gate before parent_sends in
      let came = came_of frame device parent gate e before hop comes uncut hops there in
      let arrived : ℤ = before +ℤ pos hop in
      let a : Arrival = record { cycle = play.cycle; device = device; port = e.rx_port; frame = frame; start = arrived } in
      let is : IsArrival play.setup play.row comes.sent.0 a =
      arrival_from play parent gate frame before parent_sends (uncut_true play parent gate uncut) (record { 0 = record { 0 = device }; 1 = record { 0 = e.rx_port } }) comes.leads hop hops in
      let leaves : Leaves e port = subst (λ x. Leaves x port) (same_Some sent.entry e (sym sent.stands ∙ at)) sent.leaves in
      let then = start_after play device frame e arrived in
      let sends : IsSentAt play.setup play.row play.cycle device port frame then = sent_then play comes.sent.0 a e port facts refl is step at leaves in
      let caused = start_caused play device frame arrived (is_in_step play.setup.plant play.row device) (entry_at play.setup device frame) e port (step_true play device step) at
      (ports_have e port ((facts.entries device frame e at).ports port leaves) leaves) in
      let here = caused_handled first (causes play) handled (event arrived device e.rx_port frame Arrive) (event then device port frame Start) run came caused in
      let mine = facts.starts device frame (forwarded device e parent gate at comes live uncut step) in
      let same : then ≡ s = mine.only then sends.starts ∙ sym (mine.only s sent.starts) in
      subst (λ x. Contains handled (event x device port frame Start)) same here

  handled_as : (e : Event) (what : What) → HappensAs play e what → Contains handled (event e.at e.device.0 e.port.0 e.frame.0 what)
  handled_as e Start sent = start_handled e.frame.0 e.device.0 sent.live e.port.0 e.at sent
  handled_as e Arrive (from, is) =
      let there = start_handled e.frame.0 is.sender is.live is.port is.sent (record {
        entry = from;
        stands = is.stands;
        due = is.due;
        leaves = is.leaves;
        live = is.live;
        starts = is.starts;
      }) in
      caused_handled first (causes play) handled (event is.sent is.sender is.port e.frame.0 Start) (event e.at e.device.0 e.port.0 e.frame.0 Arrive) run there
      (subst (λ x. Contains (causes play (event is.sent is.sender is.port e.frame.0 Start)) (event x e.device.0 e.port.0 e.frame.0 Arrive)) (sym is.comes)
      (arrival_caused is.sent e.frame.0 (is_uncut play.setup.plant play.row is.sender is.port) (peer_of play.setup.plant is.sender is.port)
      (record { 0 = e.device; 1 = e.port }) (hop_of play.setup.plant is.sender is.port) is.hop (uncut_true play is.sender is.port is.uncut) is.leads is.hops))

  -- whatever happens was handled
  pub all_handled : (e : Event) → Happens play e → Contains handled e
  all_handled e is = handled_as e e.what is
