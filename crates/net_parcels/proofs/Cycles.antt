-- A cycle of parcels, by the switches and the outlets as by the rules.
use Rattle.std.proofs.Common.{◌≡◌, ℕ, zero, suc, ◌<◌, ◌≤◌, Bool, true, false, List, [], ◌∷◌, ◌++◌, length, map, get_or, Option, Some, None, refl, sym, ◌∙◌, ap, ap₂, subst, arith, slice_get, All, Contains}
use Rattle.std.specs.Prelude.{if◌then◌else◌, flat_map, option_map, option_and_then}
use Rattle.std.specs.Option.{option_map_or}
use Rattle.std.proofs.lemmas.List.{length-map}
use Rattle.std.proofs.lemmas.List.Elements.{All-nil, All-head, All-tail, All-map}
use Rattle.std.proofs.lemmas.Option.{same_Some, slice_get-get_or, slice_get_within, get_or_from_slice_get, slice_get-map}
use Rattle.irt_base.specs.Periods.{period_at}
use Rattle.irt_base.specs.Wiring.{peer_of}
use Rattle.irt_base.specs.declared.blocks.Bundle.{Bundle}
use Rattle.irt_base.specs.declared.blocks.Period.{Period}
use Rattle.irt_base.specs.declared.blocks.Side.TheVariants.{Tx}
use Rattle.irt_base.specs.declared.numbers.DevId.{DevId}
use Rattle.irt_base.specs.declared.plants.Plant.{Plant}
use Rattle.irt_switch.specs.Begin.{begun_gate}
use Rattle.irt_switch.specs.State.{SwitchState, gate_of}
use Rattle.irt_world.specs.Rows.{world_row}
use Rattle.irt_world.specs.declared.rows.Row.{Row}
use Rattle.parcel_rules.proofs.Lists.{All-flat_map}
use Rattle.parcel_rules.proofs.Ports.{ports_differ}
use Rattle.parcel_rules.proofs.Queues.{left_begun}
use Rattle.parcel_rules.specs.Cycle.{all_ports, begun_at, sends, after_sending, handed_on, brought_from, brought}
use Rattle.parcel_rules.specs.Loads.{Gates, gate_at, Offers}
use Rattle.parcel_rules.specs.Rows.{sent_row, lost_row, sent_rows_at, lost_rows_at, rows_after}
use Rattle.parcel_rules.specs.Steps.{Step}
use Rattle.parcel_rules.specs.declared.handed.Handed.{Handed}
use Rattle.period_gate.specs.Gate.{Waiting, nothing_waiting}
use Rattle.period_gate.specs.SentList.{left_of, sent_of}
use Rattle.plan_rules.specs.World.{WorldRow, is_uncut, is_in_step}
use Rattle.net_parcels.proofs.Opened.{among_is, port_is}
use Rattle.net_parcels.proofs.Sendings.{at_index}
use Rattle.net_parcels.specs.Gates.{IsGated, IsGateAt, AreGatesAt, HasSent, sent_by_port}
use Rattle.net_parcels.specs.Invariant.{IsAtOneOf}
use Rattle.net_parcels.specs.Loads.{HaveSameQueues, HoldGates, HoldLoads}
use Rattle.net_parcels.specs.Notes.{NotesState}
use Rattle.net_parcels.specs.Outlets.{End, end_of, ends_of, ports_of, port_in, AreEndsOf, ArePortsApart, parcel_world, sent_rows_of, lost_rows_of, all_rows_of, over_link, brought_to}
use Rattle.net_parcels.specs.declared.outlets.Outlet.{Outlet}

-- ---- loads that the switches hold

abbrev pub gate_in : Option SwitchState → ℕ → Waiting
gate_in None port = nothing_waiting
gate_in (Some s) port = gate_of s port

-- the gates as the switches have them
abbrev pub own_gates : List SwitchState → Gates
own_gates switches device port = gate_in (slice_get switches device) port

pub own_held : (plant : Plant) (switches : List SwitchState) (handed : List Handed) → HoldLoads plant switches handed (record { gates = own_gates switches; flight = handed })
own_held plant switches handed = record { gates = λ at s among there. same at s (slice_get switches at.0.0) (sym there); flight = refl }
  where
    same : (at : Step) (s : SwitchState) (o : Option SwitchState) → Some s ≡ o → HaveSameQueues (gate_of s at.1.0) (gate_in o at.1.0)
    same at s o is = subst (λ (x : Option SwitchState). HaveSameQueues (gate_of s at.1.0) (gate_in x at.1.0)) is (record { orange = refl; green = refl })

-- ---- places of outlets

pub outlet_among : (outlets : List Outlet) → All (λ (o : Outlet). Contains (ports_of outlets) o.at) outlets
outlet_among outlets j d below = (
  j,
  (let one = length-map outlets end_of in let two = length-map (ends_of outlets) (λ (e : End). e.0) in omega arith),
  get_or_from_slice_get (ports_of outlets) j (get_or outlets j d).at (get_or outlets j d).at
      (slice_get-map (λ (e : End). e.0) (ends_of outlets) j
      ∙ ap (option_map (λ (e : End). e.0)) (slice_get-map end_of outlets j ∙ ap (option_map end_of) (slice_get-get_or outlets j d below))),
)

-- an outlet has each port
outlet_of : (outlets : List Outlet) (at : Step) → Contains (ports_of outlets) at → (o : Outlet) × Contains outlets o × (o.at ≡ at)
outlet_of [] at (k, below, is) = absurd (omega arith)
outlet_of (o ∷ more) at (zero, below, is) = (o, (0, omega arith, refl), is)
outlet_of (o ∷ more) at (suc k, below, is) =
    let (found, (j, within, same), here) = outlet_of more at (k, omega arith, is) in
    (found, (suc j, omega arith, same), here)

along : {R : Type 0} (F : Outlet → List R) (G : Step → List R) (outlets : List Outlet) → All (λ (o : Outlet). F o ≡ G o.at) outlets → flat_map F outlets ≡ flat_map G (ports_of outlets)
along F G [] all = refl
along F G (o ∷ more) all =
    ap₂ (λ xs ys. xs ++ ys) (All-head (λ (x : Outlet). F x ≡ G x.at) o more all) (along F G more (All-tail (λ (x : Outlet). F x ≡ G x.at) o more all))

-- ---- gates that were begun

module _ (plant : Plant) (bundles : List Bundle) (row : Row) (k : ℕ) (switches : List SwitchState) (gates : Gates)
    (all : AreGatesAt plant bundles (world_row plant bundles row) k switches gates) where
  abbrev W : WorldRow
  W = world_row plant bundles row

  pub gated : (outlets : List Outlet) → AreEndsOf plant (ends_of outlets) → All (IsGated switches) (ports_of outlets)
  gated outlets ends j d below =
      let one = all (get_or (ports_of outlets) j d) (subst (λ ports. Contains ports (get_or (ports_of outlets) j d)) ends.ports (j, below, get_or_any (ports_of outlets) j d below)) in
      (one.s, one.there, one.has)
    where
      get_or_any : (xs : List Step) (i : ℕ) (e : Step) → i < length xs → get_or xs i (get_or xs i e) ≡ get_or xs i e
      get_or_any xs i e within = get_or_from_slice_get xs i (get_or xs i e) (get_or xs i e) (slice_get-get_or xs i e within)

  -- what the rules have a port send
  sent_as : (at : Step) (g : IsGateAt plant bundles W k switches at (gate_at gates at)) → sent_by_port g.s at.1.0 ≡ sends plant bundles W k gates at
  sent_as at g =
      (λ i. if g.in_step i then sent_of (g.begun i) else [])
      ∙ ap (λ (o : Option Waiting). if is_in_step plant W at.0.0 then option_map_or sent_of o [] else []) (sym begun)
    where
      begun : begun_at bundles k at (gate_at gates at) ≡ Some (begun_gate g.s.bundle g.tx (gate_at gates at))
      begun =
          ap (option_and_then (λ (b : Bundle). option_map (λ (tx : Period). begun_gate b tx (gate_at gates at)) (period_at b.periods at.1.0 k Tx))) g.bundle
          ∙ ap (option_map (λ (tx : Period). begun_gate g.s.bundle tx (gate_at gates at))) g.period

  -- ---- after the ports have sent

  module _ (next : List SwitchState) (outlets : List Outlet) (ends : AreEndsOf plant (ends_of outlets)) (sent : All (HasSent switches next) outlets) where
    in_plant : (o : Outlet) → Contains outlets o → Contains (all_ports plant) o.at
    in_plant o among = subst (λ ports. Contains ports o.at) ends.ports (among_is (λ (x : Outlet). Contains (ports_of outlets) x.at) outlets o (outlet_among outlets) among)

    as_rules : (o : Outlet) → Contains outlets o → o.sent ≡ sends plant bundles W k gates o.at
    as_rules o among =
        let g = all o.at (in_plant o among) in
        (among_is (HasSent switches next) outlets o sent among).sent g.s g.there ∙ sent_as o.at g

    each_outlet : (P : Outlet → Type 0) → ((o : Outlet) → Contains outlets o → P o) → All P outlets
    each_outlet P each j d below = each (get_or outlets j d) (j, below, get_or_from_slice_get outlets j (get_or outlets j d) (get_or outlets j d) (slice_get-get_or outlets j d below))

    sent_rows_as : flat_map (sent_rows_of plant (parcel_world row) k) outlets ≡ flat_map (sent_rows_at plant bundles W k gates) (all_ports plant)
    sent_rows_as =
        along (sent_rows_of plant (parcel_world row) k) (sent_rows_at plant bundles W k gates) outlets
        (each_outlet (λ o. sent_rows_of plant (parcel_world row) k o ≡ sent_rows_at plant bundles W k gates o.at)
        (λ o among. ap (map (sent_row plant (parcel_world row) k o.at)) (as_rules o among)))
        ∙ ap (flat_map (sent_rows_at plant bundles W k gates)) ends.ports

    lost_rows_as : flat_map (lost_rows_of plant (parcel_world row) k) outlets ≡ flat_map (lost_rows_at plant bundles W k gates) (all_ports plant)
    lost_rows_as =
        along (lost_rows_of plant (parcel_world row) k) (lost_rows_at plant bundles W k gates) outlets
        (each_outlet (λ o. lost_rows_of plant (parcel_world row) k o ≡ lost_rows_at plant bundles W k gates o.at)
        (λ o among. ap (λ xs. if is_uncut plant (parcel_world row) o.at.0.0 o.at.1.0 then [] else map (lost_row k o.at) xs) (as_rules o among)))
        ∙ ap (flat_map (lost_rows_at plant bundles W k gates)) ends.ports

    pub rows_as : (notes : NotesState) (o : Offers) → o.gates ≡ gates → notes.refused ≡ o.refused → notes.came ≡ o.came →
        all_rows_of plant (parcel_world row) k outlets notes ≡ rows_after plant bundles W k o
    rows_as notes o same refused came =
        (λ i. sent_rows_as i ++ (refused i ++ (lost_rows_as i ++ came i)))
        ∙ ap (λ (g : Gates). flat_map (sent_rows_at plant bundles W k g) (all_ports plant) ++ (o.refused ++ (flat_map (lost_rows_at plant bundles W k g) (all_ports plant) ++ o.came))) (sym same)

    -- what waits is what the rules leave
    pub left_held : HoldGates plant next (after_sending plant bundles W k gates)
    left_held at s among there =
        let (o, has, here) = outlet_of outlets at (subst (λ ports. Contains ports at) (sym ends.ports) among) in
        by_outlet o has here s there
      where
        by_outlet : (o : Outlet) → Contains outlets o → o.at ≡ at → (x : SwitchState) → slice_get next at.0.0 ≡ Some x →
            HaveSameQueues (gate_of x at.1.0) (gate_at (after_sending plant bundles W k gates) at)
        by_outlet o has here x there =
            let done = among_is (HasSent switches next) outlets o sent has in
            let g = all o.at (in_plant o has) in
            let after : done.left.after ≡ x = same_Some done.left.after x (sym done.left.is ∙ ap (λ (p : Step). slice_get next p.0.0) here ∙ there) in
            let before : done.left.before ≡ g.s = same_Some done.left.before g.s (sym done.left.was ∙ g.there) in
            let gate : gate_of x o.at.1.0 ≡ begun_gate g.s.bundle g.tx (left_of (gate_at gates o.at) (sends plant bundles W k gates o.at)) =
            ap (λ (y : SwitchState). gate_of y o.at.1.0) (sym after) ∙ done.left.left ∙ ap (λ (y : SwitchState). left_of (gate_of y o.at.1.0) o.sent) before
            ∙ ap (λ (w : Waiting). left_of w o.sent) g.begun ∙ left_begun o.sent g.s.bundle g.tx (gate_at gates o.at)
            ∙ ap (λ xs. begun_gate g.s.bundle g.tx (left_of (gate_at gates o.at) xs)) (as_rules o has) in
            subst (λ (p : Step). HaveSameQueues (gate_of x p.1.0) (gate_at (after_sending plant bundles W k gates) p)) here
            (record { orange = ap (λ (w : Waiting). w.orange) gate; green = ap (λ (w : Waiting). w.green) gate })

    -- ---- what links bring

    far_port : (far : Option ℕ) → port_in (ends_of outlets) far ≡ option_map (λ (x : Outlet). x.at) (option_and_then (slice_get outlets) far)
    far_port None = refl
    far_port (Some n) = by_place (slice_get outlets n) refl
      where
        by_place : (x : Option Outlet) → slice_get outlets n ≡ x → option_map (λ (e : End). e.0) (slice_get (ends_of outlets) n) ≡ option_map (λ (y : Outlet). y.at) (slice_get outlets n)
        by_place None is = ap (option_map (λ (e : End). e.0)) (slice_get-map end_of outlets n ∙ ap (option_map end_of) is) ∙ ap (option_map (λ (y : Outlet). y.at)) (sym is)
        by_place (Some y) is = ap (option_map (λ (e : End). e.0)) (slice_get-map end_of outlets n ∙ ap (option_map end_of) is) ∙ ap (option_map (λ (z : Outlet). z.at)) (sym is)

    far_among : (far : Option ℕ) (x : Outlet) → option_and_then (slice_get outlets) far ≡ Some x → Contains outlets x
    far_among None x is = absurd (cc)
    far_among (Some n) x is = (n, slice_get_within outlets n x is, get_or_from_slice_get outlets n x x is)

    brought_as : (o : Outlet) → Contains outlets o → brought_to plant (parcel_world row) outlets o ≡ brought_from plant bundles W k gates o.at.0 (peer_of plant o.at.0.0 o.at.1.0)
    brought_as o among = by_far (option_and_then (slice_get outlets) o.far) refl ∙ ap (brought_from plant bundles W k gates o.at.0) (sym (far_port o.far) ∙ leads)
      where
        ends_far : (y : Outlet) → Contains outlets y → port_in (ends_of outlets) y.far ≡ peer_of plant y.at.0.0 y.at.1.0
        ends_far y (n, below, is) =
            at_index (λ (e : End). port_in (ends_of outlets) e.1 ≡ peer_of plant e.0.0.0 e.0.1.0) (ends_of outlets) n (end_of y) ends.far
            (slice_get-map end_of outlets n ∙ ap (option_map end_of) (slice_get-get_or outlets n y below ∙ ap Some is))

        leads : port_in (ends_of outlets) o.far ≡ peer_of plant o.at.0.0 o.at.1.0
        leads = ends_far o among

        by_far : (x : Option Outlet) → option_and_then (slice_get outlets) o.far ≡ x →
            over_link plant (parcel_world row) o x ≡ brought_from plant bundles W k gates o.at.0 (option_map (λ (y : Outlet). y.at) x)
        by_far None is = refl
        by_far (Some far) is =
            ap (λ xs. if is_uncut plant (parcel_world row) far.at.0.0 far.at.1.0 then map (handed_on o.at.0) xs else []) (as_rules far (far_among o.far far is))

    pub flight_as : flat_map (brought_to plant (parcel_world row) outlets) outlets ≡ brought plant bundles W k gates
    flight_as =
        along (brought_to plant (parcel_world row) outlets) (λ (at : Step). brought_from plant bundles W k gates at.0 (peer_of plant at.0.0 at.1.0)) outlets
        (each_outlet (λ o. brought_to plant (parcel_world row) outlets o ≡ brought_from plant bundles W k gates o.at.0 (peer_of plant o.at.0.0 o.at.1.0)) brought_as)
        ∙ ap (flat_map (λ (at : Step). brought_from plant bundles W k gates at.0 (peer_of plant at.0.0 at.1.0))) ends.ports

-- ---- devices

pub brought_devices : (plant : Plant) (row : Row) (outlets : List Outlet) → All (IsAtOneOf (ports_of outlets)) (flat_map (brought_to plant (parcel_world row) outlets) outlets)
brought_devices plant row outlets =
    All-flat_map (IsAtOneOf (ports_of outlets)) (λ (o : Outlet). Contains (ports_of outlets) o.at) (brought_to plant (parcel_world row) outlets) outlets (outlet_among outlets)
    (λ o among. over o among (option_and_then (slice_get outlets) o.far))
  where
    over : (o : Outlet) → Contains (ports_of outlets) o.at → (x : Option Outlet) → All (IsAtOneOf (ports_of outlets)) (over_link plant (parcel_world row) o x)
    over o among None = All-nil (IsAtOneOf (ports_of outlets))
    over o among (Some far) = by_link (is_uncut plant (parcel_world row) far.at.0.0 far.at.1.0)
      where
        by_link : (b : Bool) → All (IsAtOneOf (ports_of outlets)) (if b then map (handed_on o.at.0) far.sent else [])
        by_link true = All-map (IsAtOneOf (ports_of outlets)) (handed_on o.at.0) far.sent (λ j d below. (o.at, among, refl))
        by_link false = All-nil (IsAtOneOf (ports_of outlets))

pub devices_within : (plant : Plant) (outlets : List Outlet) (handed : List Handed) (count : ℕ) → AreEndsOf plant (ends_of outlets) → length plant.devices ≤ count →
    All (IsAtOneOf (ports_of outlets)) handed → All (λ (h : Handed). h.device.0 < count) handed
devices_within plant outlets handed count ends most all j d below =
    let (at, among, same) = all j d below in
    let port = port_is plant at (subst (λ ports. Contains ports at) ends.ports among) in
    let within = slice_get_within plant.devices at.0.0 port.d port.device in
    subst (λ (x : DevId). x.0 < count) same (omega arith)

pub ports_apart : (plant : Plant) (outlets : List Outlet) → AreEndsOf plant (ends_of outlets) → ArePortsApart (ports_of outlets)
ports_apart plant outlets ends = subst ArePortsApart (sym ends.ports) (ports_differ plant)
