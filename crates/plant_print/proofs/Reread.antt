-- The table of a plant reads as the plant that was printed.
use Rattle.std.proofs.Common.{◌≡◌, ◌<◌, ◌≤◌, ◌+◌, ◌*◌, ◌^◌, ℕ, nat_lt, true, List, [], ◌∷◌, map, Option, Some, refl, arith}
use Rattle.std.proofs.lemmas.Bool.{lt-ltb}
use Rattle.std.specs.List.{AllByRecursion}
use Rattle.toml.specs.Data.{Data, as_str}
use Rattle.toml.specs.View.{items_of}
use Rattle.irt_base.specs.Valid.{IsPortDelay}
use Rattle.irt_base.specs.declared.numbers.DevId.{DevId}
use Rattle.irt_base.specs.declared.blocks.PortDelay.{PortDelay}
use Rattle.irt_base.specs.declared.plants.Clocks.{Clocks}
use Rattle.irt_base.specs.declared.plants.Clocks.TheVariants.{World, Ptcp}
use Rattle.irt_base.specs.declared.plants.Mode.{Mode}
use Rattle.irt_base.specs.declared.plants.Mode.TheVariants.{Absolute, Relative}
use Rattle.irt_base.specs.declared.plants.Class.{Class}
use Rattle.irt_base.specs.declared.plants.Class.TheVariants.{Orange, Green}
use Rattle.irt_base.specs.declared.plants.AppName.{AppName}
use Rattle.irt_base.specs.declared.plants.AppName.TheVariants as apps
use Rattle.irt_base.specs.declared.plants.SyncPlan.{SyncPlan}
use Rattle.irt_base.specs.declared.plants.Device.{Device}
use Rattle.irt_base.specs.declared.plants.Link.{Link}
use Rattle.irt_base.specs.declared.plants.Demand.{Demand}
use Rattle.irt_base.specs.declared.plants.Traffic.{Traffic}
use Rattle.irt_base.specs.declared.plants.App.{App}
use Rattle.irt_base.specs.declared.plants.Plant.{Plant}
use Rattle.plant_shape.specs.Shape.{numbers_of, each_item, clocks_of, mode_of, class_of, app_name_of, sync_of, device_of, link_of, demand_of, traffic_of, app_of, raw_plant}
use Rattle.plant_rules.specs.Meets.{IsDevice, IsLink, IsDemand, IsTraffic, IsSyncPlan, MeetsRules}
use Rattle.plant_print.specs.Printed.{name_at, printed_port, printed_sync, printed_device, printed_link, printed_demand, printed_traffic, printed_app, printed_plant}
use Rattle.plant_print.specs.Written.{clocks_text, mode_text, class_text, app_text, port_data, sync_data, device_data, link_data, name_data, demand_data, traffic_data, app_data, plant_members}

-- a number that fits 32 bits passes the test of the reader
fits : (n : ℕ) → n < 2 ^ 32 → nat_lt n (2 ^ 32) ≡ true
fits n h = lt-ltb n (2 ^ 32) h

mode_reads : (m : Mode) → mode_of (mode_text m) ≡ Some m
mode_reads Absolute = refl
mode_reads Relative = refl

clocks_reads : (c : Clocks) → clocks_of (clocks_text c) ≡ Some c
clocks_reads World = refl
clocks_reads Ptcp = refl

class_reads : (c : Class) → class_of (class_text c) ≡ Some c
class_reads Orange = refl
class_reads Green = refl

app_name_reads : (a : AppName) → app_name_of (app_text a) ≡ Some a
app_name_reads apps.Copy = refl
app_name_reads apps.Counter = refl
app_name_reads apps.Follow = refl
app_name_reads apps.Limit = refl

-- a list of what reads one by one
each_reads : {A B : Type 0} (f : Data → Option A) (g : B → Data) (h : B → A) (xs : List B) → AllByRecursion (λ x. f (g x) ≡ Some (h x)) xs
    → each_item f (items_of (map g xs)) ≡ Some (map h xs)
each_reads f g h [] all = refl
each_reads f g h (x ∷ xs) all = rw (all.0, each_reads f g h xs all.1) refl

each_of : {B : Type 0} (P Q : B → Type 0) → ((x : B) → P x → Q x) → (xs : List B) → AllByRecursion P xs → AllByRecursion Q xs
each_of P Q f [] all = tt
each_of P Q f (x ∷ xs) all = (f x all.0, each_of P Q f xs all.1)

each_of_any : {B : Type 0} (Q : B → Type 0) → ((x : B) → Q x) → (xs : List B) → AllByRecursion Q xs
each_of_any Q f [] = tt
each_of_any Q f (x ∷ xs) = (f x, each_of_any Q f xs)

each_of_both : {B : Type 0} (P R Q : B → Type 0) → ((x : B) → P x → R x → Q x) → (xs : List B) → AllByRecursion P xs → AllByRecursion R xs → AllByRecursion Q xs
each_of_both P R Q f [] p r = tt
each_of_both P R Q f (x ∷ xs) p r = (f x p.0 r.0, each_of_both P R Q f xs p.1 r.1)

port_reads : (p : PortDelay) → IsPortDelay p → numbers_of (port_data p) ≡ Some (printed_port p)
port_reads p h =
    let tx : nat_lt p.tx (2 ^ 32) ≡ true = fits p.tx (omega (arith, h.tx)) in
    let rx : nat_lt p.rx (2 ^ 32) ≡ true = fits p.rx (omega (arith, h.rx)) in
    rw (tx, rx) refl

device_reads : (d : Device) → IsDevice d → device_of (device_data d) ≡ Some (printed_device d)
unfolding device_of
device_reads d h =
    let bmin : nat_lt d.bmin (2 ^ 32) ≡ true = fits d.bmin (omega (arith, h.bridge_order, h.bridge)) in
    let bmax : nat_lt d.bmax (2 ^ 32) ≡ true = fits d.bmax (omega (arith, h.bridge)) in
    let ports : each_item numbers_of (items_of (map port_data d.ports)) ≡ Some (map printed_port d.ports) =
    each_reads numbers_of port_data printed_port d.ports
    (each_of IsPortDelay (λ (p : PortDelay). numbers_of (port_data p) ≡ Some (printed_port p)) port_reads d.ports h.ports) in
    rw (mode_reads d.mode, bmin, bmax, ports) refl

sync_reads : (s : SyncPlan) → IsSyncPlan s → s.loss < 2 ^ 32 → sync_of (sync_data s) ≡ Some (printed_sync s)
unfolding sync_of
sync_reads s h loss =
    let send : nat_lt s.send (2 ^ 32) ≡ true = fits s.send (omega (arith, h.send.1)) in
    let timeout : nat_lt s.timeout (2 ^ 32) ≡ true = fits s.timeout (omega (arith, h.timeout.1)) in
    let drift : nat_lt s.drift (2 ^ 32) ≡ true = fits s.drift (omega (arith, h.drift)) in
    let stamp : nat_lt s.stamp (2 ^ 32) ≡ true = fits s.stamp (omega (arith, h.stamp)) in
    let lost : nat_lt s.loss (2 ^ 32) ≡ true = fits s.loss loss in
    rw (send, timeout, drift, stamp, lost) refl

link_reads : (devices : List Device) (l : Link) → l.a_port.0 < 2 ^ 32 → l.b_port.0 < 2 ^ 32 → l.delay < 2 ^ 32
    → link_of (link_data devices l) ≡ Some (printed_link devices l)
unfolding link_of
link_reads devices l a b delay =
    let first : nat_lt l.a_port.0 (2 ^ 32) ≡ true = fits l.a_port.0 a in
    let second : nat_lt l.b_port.0 (2 ^ 32) ≡ true = fits l.b_port.0 b in
    let late : nat_lt l.delay (2 ^ 32) ≡ true = fits l.delay delay in
    rw (first, second, late) refl

demand_reads : (devices : List Device) (d : Demand) → d.frame.0 < 2 ^ 32 → d.length < 2 ^ 32 → d.update < 2 ^ 32
    → demand_of (demand_data devices d) ≡ Some (printed_demand devices d)
unfolding demand_of
demand_reads devices d frame size update =
    let framed : nat_lt d.frame.0 (2 ^ 32) ≡ true = fits d.frame.0 frame in
    let sized : nat_lt d.length (2 ^ 32) ≡ true = fits d.length size in
    let updated : nat_lt d.update (2 ^ 32) ≡ true = fits d.update update in
    let names : each_item as_str (items_of (map (name_data devices) d.consumers)) ≡ Some (map (name_at devices) d.consumers) =
    each_reads as_str (name_data devices) (name_at devices) d.consumers
    (each_of_any (λ (c : DevId). as_str (name_data devices c) ≡ Some (name_at devices c)) (λ c. refl) d.consumers) in
    rw (framed, names, sized, updated) refl

traffic_reads : (devices : List Device) (t : Traffic) → t.length < 2 ^ 32 → t.every < 2 ^ 32 → t.count < 2 ^ 32
    → traffic_of (traffic_data devices t) ≡ Some (printed_traffic devices t)
unfolding traffic_of
traffic_reads devices t size every count =
    let sized : nat_lt t.length (2 ^ 32) ≡ true = fits t.length size in
    let each : nat_lt t.every (2 ^ 32) ≡ true = fits t.every every in
    let many : nat_lt t.count (2 ^ 32) ≡ true = fits t.count count in
    rw (class_reads t.class, sized, each, many) refl

app_reads : (devices : List Device) (a : App) → a.param < 2 ^ 32 → app_of (app_data devices a) ≡ Some (printed_app devices a)
unfolding app_of
app_reads devices a param =
    let given : nat_lt a.param (2 ^ 32) ≡ true = fits a.param param in
    rw (app_name_reads a.kind, given) refl

red_fits : (p : Plant) → MeetsRules p → (p.red_max < 2 ^ 32) × (p.orange < 2 ^ 32)
red_fits p m =
    let fits_ : p.red_max + p.orange + 2 * p.window ≤ p.factor * 31250 = m.periods in
    let factor : p.factor ≤ 128 = m.factor.1 in
    (omega arith, omega arith)

-- the whole table
pub plant_reads : (p : Plant) → MeetsRules p → p.sync.loss < 2 ^ 32
    → AllByRecursion (λ (l : Link). (l.a_port.0 < 2 ^ 32) × (l.b_port.0 < 2 ^ 32)) p.links
    → AllByRecursion (λ (d : Demand). d.update < 2 ^ 32) p.demands → AllByRecursion (λ (a : App). a.param < 2 ^ 32) p.apps
    → raw_plant (plant_members p) ≡ Some (printed_plant p)
unfolding raw_plant
plant_reads p m loss_fits ports_fit updates_fit params_fit =
    let (red, orange) = red_fits p m in
    let factor : nat_lt p.factor (2 ^ 32) ≡ true = fits p.factor (omega (arith, m.factor.1)) in
    let window : nat_lt p.window (2 ^ 32) ≡ true = fits p.window (omega (arith, m.window)) in
    let red_max : nat_lt p.red_max (2 ^ 32) ≡ true = fits p.red_max red in
    let oranges : nat_lt p.orange (2 ^ 32) ≡ true = fits p.orange orange in
    let devices : each_item device_of (items_of (map device_data p.devices)) ≡ Some (map printed_device p.devices) =
    each_reads device_of device_data printed_device p.devices
    (each_of IsDevice (λ (d : Device). device_of (device_data d) ≡ Some (printed_device d)) device_reads p.devices m.devices) in
    let links : each_item link_of (items_of (map (link_data p.devices) p.links)) ≡ Some (map (printed_link p.devices) p.links) =
    each_reads link_of (link_data p.devices) (printed_link p.devices) p.links
    (each_of_both (IsLink p) (λ (l : Link). (l.a_port.0 < 2 ^ 32) × (l.b_port.0 < 2 ^ 32))
    (λ (l : Link). link_of (link_data p.devices l) ≡ Some (printed_link p.devices l))
    (λ l is small. link_reads p.devices l small.0 small.1 (omega (arith, is.delay))) p.links m.links ports_fit) in
    let demands : each_item demand_of (items_of (map (demand_data p.devices) p.demands)) ≡ Some (map (printed_demand p.devices) p.demands) =
    each_reads demand_of (demand_data p.devices) (printed_demand p.devices) p.demands
    (each_of_both (IsDemand p) (λ (d : Demand). d.update < 2 ^ 32)
    (λ (d : Demand). demand_of (demand_data p.devices d) ≡ Some (printed_demand p.devices d))
    (λ d is small. demand_reads p.devices d (omega (arith, is.frame.1)) (omega (arith, is.length.0.1)) small) p.demands m.demands updates_fit) in
    let traffic : each_item traffic_of (items_of (map (traffic_data p.devices) p.traffic)) ≡ Some (map (printed_traffic p.devices) p.traffic) =
    each_reads traffic_of (traffic_data p.devices) (printed_traffic p.devices) p.traffic
    (each_of (IsTraffic p) (λ (t : Traffic). traffic_of (traffic_data p.devices t) ≡ Some (printed_traffic p.devices t))
    (λ t is. traffic_reads p.devices t (omega (arith, is.length.1)) (omega (arith, is.every.1)) (omega (arith, is.count.1))) p.traffic m.traffic) in
    let apps : each_item app_of (items_of (map (app_data p.devices) p.apps)) ≡ Some (map (printed_app p.devices) p.apps) =
    each_reads app_of (app_data p.devices) (printed_app p.devices) p.apps
    (each_of (λ (a : App). a.param < 2 ^ 32) (λ (a : App). app_of (app_data p.devices a) ≡ Some (printed_app p.devices a))
    (λ a small. app_reads p.devices a small) p.apps params_fit) in
    rw (factor, window, red_max, oranges, clocks_reads p.clocks, sync_reads p.sync m.sync loss_fits, devices, links, demands, traffic, apps) refl
